-- The claim of 02, K11, beside the mission's demand 3: that the bound p q is reached, and that no smaller one serves.
-- `trace_only` is true for the trace-only reading, as in the claim of demand 3.
use Rattle.std.specs.Prelude.{◌≡◌, Bool, List, ℕ, Ok, ◌-◌, ◌*◌, ◌<◌, length}
use Rattle.sheet_spec.specs.declared.Sheet.{Sheet}
use Rattle.sheet_spec.specs.Spelling.{version}
use Rattle.sheet_spec.specs.Refusals.{Agree}
use Rattle.sheet_spec.specs.Reading.{read_sheet, accepted}
use Rattle.refinement_spec.specs.Refinement.{ViolationIn, RefinesIn}
use Rattle.verdicts_spec.specs.declared.Verdict.TheVariants.{Passes, Fails}
use Rattle.verdicts_spec.specs.Verdicts.{verdict_of}

-- what is claimed of the bytes of two sheets, `reference` and `device`: they reach the bound of p and q
pub record ReachesBound (p q : ℕ) (reference device : List ℕ) : Type 0 where
  -- they are of version 1, and read as accepted sheets P of p nodes and Q of q, with two events, that agree
  pub P : Sheet
  pub Q : Sheet
  pub reference_version : version reference ≡ 1
  pub device_version : version device ≡ 1
  pub reference_read : read_sheet reference ≡ accepted P
  pub device_read : read_sheet device ≡ accepted Q
  pub reference_nodes : P.n ≡ p
  pub device_nodes : Q.n ≡ q
  pub two_events : P.e ≡ 2
  pub agree : Agree P Q
  -- every test below p q - 1 passes, and test p q - 1 fails
  pub passes : (trace_only : Bool) (k : ℕ) → k < p * q - 1 → verdict_of trace_only P Q k ≡ Ok Passes
  pub fails : (trace_only : Bool) → verdict_of trace_only P Q (p * q - 1) ≡ Ok Fails
  -- the device does not refine the reference, and every violation has exactly p q - 1 events
  pub unrefined : (trace_only : Bool) → ¬ RefinesIn trace_only P Q
  pub violations : (trace_only : Bool) (t : List ℕ) → ViolationIn trace_only P Q t → length t ≡ p * q - 1

-- a bound b serves all sheets of p and q nodes: whichever two are read from bytes and agree, a device that passes tests
-- 0 to b - 1 refines the reference
abbrev pub Serves : Bool → ℕ → ℕ → ℕ → Type 0
Serves trace_only p q b =
    (reference device : List ℕ) (P Q : Sheet) → read_sheet reference ≡ accepted P → read_sheet device ≡ accepted Q → Agree P Q
    → P.n ≡ p → Q.n ≡ q → ((k : ℕ) → k < b → verdict_of trace_only P Q k ≡ Ok Passes) → RefinesIn trace_only P Q
