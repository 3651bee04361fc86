-- What is named at a pair of rows: one law for each way out of `name`.
use Rattle.std.specs.Prelude.{◌≡◌, ◌⊎◌, ◌≢◌, Bool, true, false, List, ℕ, ◌+◌, ◌≤◌, ◌<◌, ltb, take, Option, Some, None}
use Rattle.std.proofs.Common.{sym, inl, inr, arith, ltb-true, lt-ltb, ne_eqb}
use Rattle.base.proofs.Truth.{dec, clash, lt_or_ge}
use Rattle.base.specs.Range.{first}
use Rattle.base.proofs.Range.{first_at}
use Rattle.events.proofs.Bit.{bits_zero}
use Rattle.events.specs.Sets.{has}
use Rattle.sheet_spec.specs.declared.Row.{Row}
use Rattle.sheet_spec.specs.Kept.{initials, acceptances}
use Rattle.sheet_spec.specs.Form.{RowForm}
use Rattle.sheet_spec.proofs.RowLaws.{acceptances_take}
use Rattle.probes_spec.specs.declared.Missed.{Missed}
use Rattle.probes_spec.specs.FirstMissed.{first_missed}
use Rattle.refinement_spec.specs.ViolatingPairs.{strays, has_stray, first_stray}
use Rattle.refinement_spec.proofs.PairLaws.{first_stray_means}
use Rattle.comparison_spec.specs.declared.Outcome.TheVariants.{Stray, Refusal}
use Rattle.comparison_spec.specs.Comparison.{refusal_named, named}
use Rattle.comparison.specs.Told.{least_event}

-- a test that failed below i and fails at i has failed below i + 1
pub fails_more : (f : ℕ → Bool) (i : ℕ) → ((k : ℕ) → k < i → f k ≡ false) → f i ≡ false → (k : ℕ) → k < i + 1 → f k ≡ false
fails_more f i h t k l = go (lt_or_ge k i)
  where
    go : (k < i) ⊎ (i ≤ k) → f k ≡ false
    go (inl p) = h k p
    go (inr p) = let e : k ≡ i = omega arith in rw e t

-- a smallest event is the first of the set, which is not empty
some_least : (s i : ℕ) → least_event s ≡ Some i → (s ≢ 0) × (i ≡ first (has s) 12)
unfolding least_event has
some_least s i e = go (dec (ltb (first (has s) 12) 12))
  where
    go : (ltb (first (has s) 12) 12 ≡ true) ⊎ (ltb (first (has s) 12) 12 ≡ false) → (s ≢ 0) × (i ≡ first (has s) 12)
    go (inl t) =
        let k : Some (first (has s) 12) ≡ Some i = rw t at e in
        let h = first_at (has s) 12 (ltb-true _ 12 t) in
        (λ z. clash (rw z at h) (rw (bits_zero (first (has 0) 12))), cc)
    go (inr t) = let k : ◌≡◌ {A = Option ℕ} None (Some i) = rw t at e in absurd (cc)

-- the first C sets of a row are its acceptances
pub front_sets : (r : Row) → RowForm r → {c : ℕ} → c ≡ r.c → r.c ≤ 16 → take c r.sets ≡ acceptances r
front_sets r f e l = rw e (sym (acceptances_take r f l))

module _ (d c e : ℕ) (small : e ≤ 12) (r q : Row) {x y s : ℕ} (ex : x ≡ initials e r) (ey : y ≡ initials e q) (es : s ≡ strays x y) where
  -- the way out with a stray, the smallest
  pub named_stray : {i : ℕ} → least_event s ≡ Some i → Stray d c i ≡ named d c e r q
  unfolding named has_stray first_stray
  named_stray {i} h = let w = some_least s i h in rw (← ex, ← ey, ← es, ne_eqb s 0 w.0, w.1)

  -- with no smallest event there is no stray
  no_stray : least_event s ≡ None → has_stray e r q ≡ false
  unfolding least_event first_stray
  no_stray h = go (dec (has_stray e r q))
    where
      go : (has_stray e r q ≡ true) ⊎ (has_stray e r q ≡ false) → has_stray e r q ≡ false
      go (inr f) = f
      go (inl t) =
          let w = first_stray_means e r q small t in
          let l : first (has s) 12 < 12 = rw (es, ex, ey) (omega (arith, w.0.0)) in
          let k : ◌≡◌ {A = Option ℕ} (Some (first (has s) 12)) None = rw (lt-ltb (first (has s) 12) 12 l) at h in
          absurd (cc)

  -- the ways out with a refusal, where there is no stray
  module _ {a b : List ℕ} {m : Option Missed} (z : least_event s ≡ None) (ea : a ≡ acceptances r) (eb : b ≡ acceptances q) (em : m ≡ first_missed a e b) where
    pub named_nothing : m ≡ None → Refusal d c 0 0 ≡ named d c e r q
    unfolding named refusal_named
    named_nothing p = rw (no_stray z, ← ea, ← eb, ← em, p)

    pub named_found : {n : Missed} → m ≡ Some n → Refusal d c n.probe n.acceptance ≡ named d c e r q
    unfolding named refusal_named
    named_found p = rw (no_stray z, ← ea, ← eb, ← em, p)
