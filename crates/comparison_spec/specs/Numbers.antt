-- 01's numbers and values for each case of a comparison's answer. Parts that a case has not are 0.
use Rattle.std.specs.Prelude.{cond, ℕ, eqb, Result, Ok, Err}
use Rattle.comparison_spec.specs.declared.Outcome.{Outcome}
use Rattle.comparison_spec.specs.declared.Outcome.TheVariants.{Refines, Stray, Refusal}

-- the number of the answer "refines": the first of the ten that comparisons have
abbrev pub refines_number : ℕ
refines_number = 21

-- the number of an answer that names a stray
abbrev pub stray_number : ℕ
stray_number = 22

-- the number of an answer that names a refusal
abbrev pub refusal_number : ℕ
refusal_number = 23

-- the numbers of an answer: the refusal's, 0 for none; which case it is (0 for a refusal of the call, else the number
-- of the case); d; cleared; what is named
pub record Compared : Type 0 where
  pub refusal : ℕ
  pub kind : ℕ
  pub d : ℕ
  pub cleared : ℕ
  pub event : ℕ
  pub probe : ℕ
  pub acceptance : ℕ

-- the numbers of a comparison's answer
unfoldable pub compared : Result Outcome ℕ → Compared
compared (Ok (Refines c)) = record { refusal = 0; kind = refines_number; d = 0; cleared = c; event = 0; probe = 0; acceptance = 0 }
compared (Ok (Stray d c i)) = record { refusal = 0; kind = stray_number; d = d; cleared = c; event = i; probe = 0; acceptance = 0 }
compared (Ok (Refusal d c X A)) = record { refusal = 0; kind = refusal_number; d = d; cleared = c; event = 0; probe = X; acceptance = A }
compared (Err k) = record { refusal = k; kind = 0; d = 0; cleared = 0; event = 0; probe = 0; acceptance = 0 }

-- the answer that has the given numbers
unfoldable pub compared_from : Compared → Result Outcome ℕ
compared_from n = cond (eqb n.kind 0) (Err n.refusal) (Ok (cond (eqb n.kind refines_number) (Refines n.cleared)
    (cond (eqb n.kind stray_number) (Stray n.d n.cleared n.event) (Refusal n.d n.cleared n.probe n.acceptance))))
