-- The ways out of `walk`, each joined to the definition.
use mathlib.Core.Path.{◌≡◌, sym, ap, ◌∙◌}
use mathlib.Core.Logic.{◌≢◌}
use mathlib.Core.List.{List}
use Prim.Native.Nat.{ℕ, ◌≤◌, ◌<◌}
use native.Mathlib.Omega.{arith}
use lib.ListN.{length}
use Rattle.std.specs.Prelude.{Result, Ok, Err}
use Rattle.refusals.specs.declared.Refusal.{Refusal}
use Rattle.refusals.specs.Numbers.{number, refusal_in, numbered}
use Rattle.refusals.proofs.NumberLaws.{number_some}
use Rattle.base.specs.Front.{at_front}
use Rattle.sheet_spec.specs.declared.Sheet.{Sheet}
use Rattle.sheet_spec.specs.Sound.{Sound}
use Rattle.sheet_spec.proofs.SoundLaws.{check_sound}
use Rattle.load_spec.specs.Walks.{walk_of}
use Rattle.load_spec.proofs.WalkLaws.{walk_short}
use Rattle.load_spec.specs.Calls.{walk_fault, walked_numbers, walk_length, walked_of, walk_after}
use Rattle.load_spec.proofs.CallLaws.{walk_0, walked_denied, after_denied, walked_length, after_front, walked_numbers_lem}

-- ---- the answer

module _ (s : Sheet) (seed wish : ℕ) (out : List ℕ) where
  -- what the call promises of its answer and of the list after it
  abbrev Told : Result ℕ ℕ → List ℕ → Type 0
  Told r after = (r ≡ walked_of s seed wish out) × (walked_numbers r ≡ (walk_fault s seed wish out, walk_length s seed wish out)) × (after ≡ walk_after s seed wish out)

  told : (r : Result ℕ ℕ) (after : List ℕ) → r ≡ walked_of s seed wish out → after ≡ walk_after s seed wish out → Told r after
  told r after p q = (p, ap walked_numbers p ∙ walked_numbers_lem s seed wish out, q)

module _ (s : Sheet) (seed wish : ℕ) (out : List ℕ) {f : Result Unit Refusal} (e : refusal_in f ≡ walk_fault s seed wish out) where
  -- the way out with a refusal
  pub told_denied : {cause : Refusal} {r : Result ℕ Refusal} → f ≡ Err cause → r ≡ Err cause → Told s seed wish out (numbered r) out
  told_denied {cause} {r} p q =
      let k : number cause ≡ walk_fault s seed wish out = ap refusal_in (sym p) ∙ e in
      let m : walk_fault s seed wish out ≢ 0 = λ z. omega (arith, number_some cause, k, z) in
      told s seed wish out (numbered r) out (ap numbered q ∙ ap Err k ∙ sym (walked_denied s seed wish out m)) (sym (after_denied s seed wish out m))

  module _ {u : Unit} (p : f ≡ Ok u) where
    none : walk_fault s seed wish out ≡ 0
    none = sym e ∙ ap refusal_in p

    -- past the test the sheet is not refused, the wish fits the list, and the walk's length fits 16 bits
    pub sheet_good : Sound s
    sheet_good = check_sound s ((walk_0 s seed wish out).0 none).0.0

    pub wish_fits : wish ≤ length out
    wish_fits = ((walk_0 s seed wish out).0 none).1.0

    pub length_low : (t : List ℕ) (l : ℕ) → t ≡ walk_of s seed wish → l ≡ length t → l < 65536
    length_low t l h q = omega (arith, q, ap length h, walk_short s seed wish, ((walk_0 s seed wish out).0 none).1.1)

    pub nodes_few : {n : ℕ} → n ≡ s.n → n ≤ 32
    nodes_few h = omega (arith, h, sheet_good.ranges.n_high)

    -- the way out with the walk
    pub told_walked : (t after : List ℕ) (l : ℕ) → t ≡ walk_of s seed wish → l ≡ length t → after ≡ at_front out t → Told s seed wish out (Ok l) after
    told_walked t after l h q a =
        told s seed wish out (Ok l) after (ap Ok (q ∙ ap length h) ∙ sym (walked_length s seed wish out none)) (a ∙ ap (at_front out) h ∙ sym (after_front s seed wish out none))
