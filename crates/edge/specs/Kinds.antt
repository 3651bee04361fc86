-- Nothing to believe: laws. One kind has one meaning, whichever call answers it: 1 to 10 are for runs, 11 to 20 for
-- verdicts, 21 to 30 for comparisons, 31 to 40 for keypads, and 0 is a refusal of each.
use Rattle.std.specs.Prelude.{◌≡◌, refl, Result, Ok, Err, ◌⊎◌, ℕ, ◌+◌, ◌*◌, ◌≤◌, ◌<◌}
use Rattle.std.proofs.Common.{inl, inr, arith}
use Rattle.tests_spec.specs.declared.Answer.{Answer}
use Rattle.tests_spec.specs.declared.Answer.TheVariants.{Going, Stray, Refused, Passed, Inconclusive, Denied}
use Rattle.tests_spec.specs.Numbers.{said}
use Rattle.verdicts_spec.specs.declared.Verdict.{Verdict}
use Rattle.verdicts_spec.specs.declared.Verdict.TheVariants.{Passes, Fails}
use Rattle.verdicts_spec.specs.Numbers.{judged}
use Rattle.comparison_spec.specs.declared.Outcome.{Outcome}
use Rattle.comparison_spec.specs.declared.Outcome.TheVariants.{Refines, Stray as StrayNamed, Refusal}
use Rattle.comparison_spec.specs.Numbers.{compared}
use Rattle.keypad_spec.specs.declared.Keypad.{Keypad}
use Rattle.keypad_spec.specs.declared.Keypad.TheVariants.{Good, Gap, Overlap}
use Rattle.keypad_spec.specs.declared.Found.{Found}
use Rattle.keypad_spec.specs.declared.Found.TheVariants.{Event, Gap as GapFound, Overlap as OverlapFound}
use Rattle.keypad_spec.specs.Numbers.{keyed, looked}

-- ---- the ten numbers of each sort of call

-- a kind is 0, or one of the ten numbers after 10 t
abbrev InTen : ℕ → ℕ → Type 0
InTen t kind = (kind ≡ 0) ⊎ ((10 * t < kind) × (kind ≤ 10 * t + 10))

said_ten : (a : Answer) → InTen 0 (said a).kind
unfolding said
said_ten (Going x) = inr (omega arith, omega arith)
said_ten (Stray i) = inr (omega arith, omega arith)
said_ten (Refused x) = inr (omega arith, omega arith)
said_ten Passed = inr (omega arith, omega arith)
said_ten Inconclusive = inr (omega arith, omega arith)
said_ten (Denied m) = inl refl

judged_ten : (v : Result Verdict ℕ) → InTen 1 (judged v).kind
unfolding judged
judged_ten (Ok Passes) = inr (omega arith, omega arith)
judged_ten (Ok Fails) = inr (omega arith, omega arith)
judged_ten (Err m) = inl refl

compared_ten : (o : Result Outcome ℕ) → InTen 2 (compared o).kind
unfolding compared
compared_ten (Ok (Refines c)) = inr (omega arith, omega arith)
compared_ten (Ok (StrayNamed d c i)) = inr (omega arith, omega arith)
compared_ten (Ok (Refusal d c X A)) = inr (omega arith, omega arith)
compared_ten (Err k) = inl refl

keyed_ten : (k : Result Keypad ℕ) → InTen 3 (keyed k).kind
unfolding keyed
keyed_ten (Ok Good) = inr (omega arith, omega arith)
keyed_ten (Ok (Gap c)) = inr (omega arith, omega arith)
keyed_ten (Ok (Overlap c i k)) = inr (omega arith, omega arith)
keyed_ten (Err m) = inl refl

looked_ten : (f : Result Found ℕ) → InTen 3 (looked f).kind
unfolding looked
looked_ten (Ok (Event e)) = inr (omega arith, omega arith)
looked_ten (Ok (GapFound c)) = inr (omega arith, omega arith)
looked_ten (Ok (OverlapFound c i k)) = inr (omega arith, omega arith)
looked_ten (Err m) = inl refl

-- a kind of two sorts is 0
apart : (t u : ℕ) {j k : ℕ} → t < u → InTen t j → InTen u k → j ≡ k → j ≡ 0
apart t u l (inl z) y e = z
apart t u l (inr x) (inl z) e = omega (arith, z, e)
apart t u l (inr x) (inr y) e = absurd (omega (arith, l, x.1, y.0, e))

-- ---- answers of two sorts of calls have one kind only if both are refused

pub said_judged : (a : Answer) (v : Result Verdict ℕ) → (said a).kind ≡ (judged v).kind → (said a).kind ≡ 0
said_judged a v = apart 0 1 (omega arith) (said_ten a) (judged_ten v)

pub said_compared : (a : Answer) (o : Result Outcome ℕ) → (said a).kind ≡ (compared o).kind → (said a).kind ≡ 0
said_compared a o = apart 0 2 (omega arith) (said_ten a) (compared_ten o)

pub said_keyed : (a : Answer) (k : Result Keypad ℕ) → (said a).kind ≡ (keyed k).kind → (said a).kind ≡ 0
said_keyed a k = apart 0 3 (omega arith) (said_ten a) (keyed_ten k)

pub said_looked : (a : Answer) (f : Result Found ℕ) → (said a).kind ≡ (looked f).kind → (said a).kind ≡ 0
said_looked a f = apart 0 3 (omega arith) (said_ten a) (looked_ten f)

pub judged_compared : (v : Result Verdict ℕ) (o : Result Outcome ℕ) → (judged v).kind ≡ (compared o).kind → (judged v).kind ≡ 0
judged_compared v o = apart 1 2 (omega arith) (judged_ten v) (compared_ten o)

pub judged_keyed : (v : Result Verdict ℕ) (k : Result Keypad ℕ) → (judged v).kind ≡ (keyed k).kind → (judged v).kind ≡ 0
judged_keyed v k = apart 1 3 (omega arith) (judged_ten v) (keyed_ten k)

pub judged_looked : (v : Result Verdict ℕ) (f : Result Found ℕ) → (judged v).kind ≡ (looked f).kind → (judged v).kind ≡ 0
judged_looked v f = apart 1 3 (omega arith) (judged_ten v) (looked_ten f)

pub compared_keyed : (o : Result Outcome ℕ) (k : Result Keypad ℕ) → (compared o).kind ≡ (keyed k).kind → (compared o).kind ≡ 0
compared_keyed o k = apart 2 3 (omega arith) (compared_ten o) (keyed_ten k)

pub compared_looked : (o : Result Outcome ℕ) (f : Result Found ℕ) → (compared o).kind ≡ (looked f).kind → (compared o).kind ≡ 0
compared_looked o f = apart 2 3 (omega arith) (compared_ten o) (looked_ten f)

-- ---- a check and a lookup have one kind only if both are refused, both name a gap or both an overlap

pub keyed_looked : (k : Result Keypad ℕ) (f : Result Found ℕ) → (keyed k).kind ≡ (looked f).kind
    → ((keyed k).kind ≡ 0)
    ⊎ (((c d : ℕ) × (k ≡ Ok (Gap c)) × (f ≡ Ok (GapFound d))) ⊎ ((c d i j x y : ℕ) × (k ≡ Ok (Overlap c i j)) × (f ≡ Ok (OverlapFound d x y))))
unfolding keyed looked
keyed_looked (Ok Good) (Ok (Event e)) p = absurd (omega (arith, p))
keyed_looked (Ok Good) (Ok (GapFound d)) p = absurd (omega (arith, p))
keyed_looked (Ok Good) (Ok (OverlapFound d x y)) p = absurd (omega (arith, p))
keyed_looked (Ok Good) (Err m) p = absurd (omega (arith, p))
keyed_looked (Ok (Gap c)) (Ok (Event e)) p = absurd (omega (arith, p))
keyed_looked (Ok (Gap c)) (Ok (GapFound d)) p = inr (inl (c, d, refl, refl))
keyed_looked (Ok (Gap c)) (Ok (OverlapFound d x y)) p = absurd (omega (arith, p))
keyed_looked (Ok (Gap c)) (Err m) p = absurd (omega (arith, p))
keyed_looked (Ok (Overlap c i j)) (Ok (Event e)) p = absurd (omega (arith, p))
keyed_looked (Ok (Overlap c i j)) (Ok (GapFound d)) p = absurd (omega (arith, p))
keyed_looked (Ok (Overlap c i j)) (Ok (OverlapFound d x y)) p = inr (inr (c, d, i, j, x, y, refl, refl))
keyed_looked (Ok (Overlap c i j)) (Err m) p = absurd (omega (arith, p))
keyed_looked (Err m) f p = inl refl
