-- What an opening or a report that is not refused tells of the sheet and the record; and the refusal of an answer.
use Rattle.std.specs.Prelude.{◌≡◌, ◌≢◌, ◌⊎◌, refl, Bool, true, false, ℕ, ◌≤◌, ◌<◌}
use Rattle.std.proofs.Common.{sym, ap, ◌∙◌, inl, inr, arith}
use Rattle.base.proofs.Truth.{lt_or_ge}
use Rattle.events.specs.Sets.{has}
use Rattle.events.proofs.Sets.{has→}
use Rattle.sheet_spec.specs.declared.Sheet.{Sheet}
use Rattle.sheet_spec.specs.Kept.{row, successor, initials}
use Rattle.sheet_spec.specs.Refusals.{sheet_fault}
use Rattle.sheet_spec.proofs.RuleLaws.{initials→}
use Rattle.sheet_spec.specs.Sound.{Sound}
use Rattle.sheet_spec.proofs.SoundLaws.{check_sound}
use Rattle.tests_spec.specs.declared.Run.{Run}
use Rattle.tests_spec.specs.declared.Report.{Report}
use Rattle.tests_spec.specs.declared.Stepped.{Stepped}
use Rattle.tests_spec.specs.Runs.{open_fault, report_fault}
use mir.Val.{bool_byte}
use Rattle.tests_spec.specs.Flags.{flag, flag_of}
use Rattle.tests_spec.specs.Numbers.{said}
use Rattle.tests_spec.specs.Reports.{WrongRecord}
use Rattle.tests_spec.proofs.RunLaws.{open_0, report_0, answer_of_lem, run_of}

-- where an opening is not refused, the sheet is accepted, and has a first node
pub opened : (s : Sheet) (k : ℕ) → open_fault s k ≡ 0 → (sheet_fault s ≡ 0) × (0 < s.n)
opened s k z = let g = ((open_0 s k).0 z).0 in (g, omega (arith, (check_sound s g).ranges.n_low))

-- where a report is not refused, the sheet is accepted, and the record fits it
pub reported : (s : Sheet) (r : Run) (x : Report) → report_fault s r x ≡ 0 → (sheet_fault s ≡ 0) × (r.node < s.n) × (r.k ≤ 1023)
reported s r x z = (fitting.0.0, inside (lt_or_ge r.node s.n), low (lt_or_ge 1023 r.k))
  where
    fitting : ((sheet_fault s ≡ 0) × (¬ (flag r.ended ≡ true))) × (¬ WrongRecord s r)
    fitting = ((report_0 s r x).0 z).0.0

    inside : (r.node < s.n) ⊎ (s.n ≤ r.node) → r.node < s.n
    inside (inl l) = l
    inside (inr l) = absurd (fitting.1 (inl l))

    low : (1023 < r.k) ⊎ (r.k ≤ 1023) → r.k ≤ 1023
    low (inl l) = absurd (fitting.1 (inr (inr l)))
    low (inr l) = l

-- an initial of a node of an accepted sheet leads to one of its nodes
pub lands : (s : Sheet) (v i : ℕ) → sheet_fault s ≡ 0 → v < s.n → has (initials s.e (row s v)) i ≡ true → successor (row s v) i < s.n
lands s v i g l t = go h (o.successors v i l h.0)
  where
    o : Sound s
    o = check_sound s g

    h : (i < s.e) × (successor (row s v) i ≢ 255)
    h = initials→ s.e (row s v) o.ranges.e_high i (has→ _ i t)

    go : (i < s.e) × (successor (row s v) i ≢ 255) → (successor (row s v) i ≡ 255) ⊎ (successor (row s v) i < s.n) → successor (row s v) i < s.n
    go h (inl f) = absurd (h.1 f)
    go h (inr f) = f

-- an answer of the definition says its refusal
pub told : {z o : Stepped} {m : ℕ} → z ≡ o → (said z.answer).refusal ≡ m → (o ≡ z) × ((said o.answer).refusal ≡ m)
told e q = (sym e, ap (λ (o : Stepped). (said o.answer).refusal) (sym e) ∙ q)

-- the byte of a truth value is the flag that it sets
pub flag_byte : (b : Bool) → bool_byte b ≡ flag_of b
unfolding flag_of
flag_byte true = refl
flag_byte false = refl
