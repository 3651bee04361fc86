-- Nothing to believe: laws. Codes play no part in a live run but by a sheet's own refusal: sheets that are alike but
-- for codes open alike and answer alike, wherever neither is refused.
use Rattle.std.specs.Prelude.{◌≡◌, Bool, List, ℕ}
use Rattle.sheet_spec.specs.declared.Sheet.{Sheet}
use Rattle.sheet_spec.specs.Kept.{recoded}
use Rattle.sheet_spec.specs.Refusals.{sheet_fault}
use Rattle.tests_spec.specs.declared.Run.{Run}
use Rattle.tests_spec.specs.declared.Report.{Report}
use Rattle.tests_spec.specs.declared.Report.TheVariants.{Event, Blocked}
use Rattle.tests_spec.specs.Runs.{outside, probes_at, offer_of, open_fault, open_of, record_ok, event_fault, report_fault, moved_by, answer_of, step_of}

module _ (s : Sheet) (c : List ℕ) (z : sheet_fault s ≡ 0) (y : sheet_fault (recoded s c) ≡ 0) where
  -- neither refused, two sheets alike but for codes open alike
  pub recoded_open : (trace_only : Bool) (k h : ℕ) → open_of trace_only (recoded s c) k h ≡ open_of trace_only s k h
  unfolding open_of open_fault offer_of outside probes_at
  recoded_open trace_only k h = rw (z, y)

  -- neither refused, two sheets alike but for codes answer a report alike
  pub recoded_step : (r : Run) (report : Report) → step_of (recoded s c) r report ≡ step_of s r report
  unfolding step_of report_fault record_ok event_fault answer_of moved_by offer_of outside probes_at
  recoded_step r (Event i) = rw (z, y)
  recoded_step r Blocked = rw (z, y)
