-- Nothing to believe: steps of proofs. The test of a verdict by the pairs that common lists of events reach: it fails
-- exactly if one of them is faulty.
use Rattle.std.specs.Prelude.{◌≡◌, ◌⊎◌, ◌↔◌, Bool, false, not, ◌&&◌, ◌||◌, ltb, length}
use Rattle.std.proofs.Math.Path.{refl}
use Rattle.std.proofs.Math.Logic.{inl, inr}
use Rattle.std.proofs.Math.Bool.{true}
use mathlib.Core.List.{List, [], ◌∷◌}
use Prim.Native.Nat.{ℕ, zero, suc, ◌+◌, ◌<◌}
use native.Mathlib.Omega.{arith}
use Rattle.std.proofs.Common.{zero-add, suc-add, ltb-true, lt-ltb}
use Rattle.std.proofs.lemmas.Bool.{not-true}
use Rattle.base.proofs.Truth.{and_l, and_r, and_i, or_e, or_l, or_r, not_t}
use Rattle.base.specs.Range.{any}
use Rattle.base.proofs.Range.{any→, any←}
use Rattle.walks.specs.Graph.{walk}
use Rattle.walks.proofs.Graph.{ahead}
use Rattle.sheet_spec.specs.declared.Sheet.{Sheet}
use Rattle.sheet_spec.specs.Kept.{row, may_stop, step, graph}
use Rattle.sheet_spec.specs.Sound.{Sound}
use Rattle.refinement_spec.specs.ViolatingPairs.{has_stray, violating}
use Rattle.verdicts_spec.specs.Verdicts.{fails_from}

-- a device that may stop where the reference may not, unless traces alone count
abbrev pub StopsAt : Bool → Sheet → Sheet → ℕ → ℕ → Type 0
StopsAt trace_only P Q n m = (trace_only ≡ false) × (may_stop (row Q m) ≡ true) × (may_stop (row P n) ≡ false)

-- an event leads both sheets on to a pair from which the test fails with k events to go
abbrev pub FailsOnward : Bool → Sheet → Sheet → ℕ → ℕ → ℕ → Type 0
FailsOnward trace_only P Q k n m =
    (i : ℕ) × (i < P.e) × (step P n i < P.n) × (step Q m i < Q.n) × (fails_from trace_only P Q k (step P n i) (step Q m i) ≡ true)

stopping : Bool → Sheet → Sheet → ℕ → ℕ → Bool
stopping trace_only P Q n m = not trace_only && (may_stop (row Q m) && not (may_stop (row P n)))

stopping_means : (trace_only : Bool) (P Q : Sheet) (n m : ℕ) → (stopping trace_only P Q n m ≡ true) ↔ StopsAt trace_only P Q n m
unfolding stopping
stopping_means trace_only P Q n m = (forth, λ s. and_i (not_t s.0) (and_i s.1 (not_t s.2)))
  where
    forth : (not trace_only && (may_stop (row Q m) && not (may_stop (row P n)))) ≡ true → StopsAt trace_only P Q n m
    forth t =
        let u = and_r (not trace_only) _ t in
        (not-true trace_only (and_l (not trace_only) _ t), and_l (may_stop (row Q m)) _ u, not-true _ (and_r (may_stop (row Q m)) _ u))

onward : Bool → Sheet → Sheet → ℕ → ℕ → ℕ → ℕ → Bool
onward trace_only P Q k n m i = (ltb (step P n i) P.n && ltb (step Q m i) Q.n) && fails_from trace_only P Q k (step P n i) (step Q m i)

-- with events to go the test fails at a stray, at a stop, or further on
pub fails_next : (trace_only : Bool) (P Q : Sheet) (k n m : ℕ)
    → (fails_from trace_only P Q (suc k) n m ≡ true) ↔ ((has_stray P.e (row P n) (row Q m) ≡ true) ⊎ (StopsAt trace_only P Q n m ⊎ FailsOnward trace_only P Q k n m))
unfolding fails_from stopping onward
fails_next trace_only P Q k n m = (λ t. forth (or_e (has_stray P.e (row P n) (row Q m)) _ t), back)
  where
    step→ : any (onward trace_only P Q k n m) P.e ≡ true → FailsOnward trace_only P Q k n m
    step→ t =
        let w = any→ (onward trace_only P Q k n m) P.e t in
        let u = and_l (ltb (step P n w.0) P.n && ltb (step Q m w.0) Q.n) _ w.2 in (
          w.0,
          w.1,
          ltb-true _ _ (and_l (ltb (step P n w.0) P.n) _ u),
          ltb-true _ _ (and_r (ltb (step P n w.0) P.n) _ u),
          and_r (ltb (step P n w.0) P.n && ltb (step Q m w.0) Q.n) _ w.2,
        )

    pick : (stopping trace_only P Q n m ≡ true) ⊎ (any (onward trace_only P Q k n m) P.e ≡ true) → StopsAt trace_only P Q n m ⊎ FailsOnward trace_only P Q k n m
    pick (inl s) = inl ((stopping_means trace_only P Q n m).0 s)
    pick (inr s) = inr (step→ s)

    forth : (has_stray P.e (row P n) (row Q m) ≡ true) ⊎ ((stopping trace_only P Q n m || any (onward trace_only P Q k n m) P.e) ≡ true)
        → (has_stray P.e (row P n) (row Q m) ≡ true) ⊎ (StopsAt trace_only P Q n m ⊎ FailsOnward trace_only P Q k n m)
    forth (inl s) = inl s
    forth (inr s) = inr (pick (or_e (stopping trace_only P Q n m) _ s))

    back : (has_stray P.e (row P n) (row Q m) ≡ true) ⊎ (StopsAt trace_only P Q n m ⊎ FailsOnward trace_only P Q k n m)
        → (has_stray P.e (row P n) (row Q m) || (stopping trace_only P Q n m || any (onward trace_only P Q k n m) P.e)) ≡ true
    back (inl s) = or_l _ s
    back (inr (inl s)) = or_r (has_stray P.e (row P n) (row Q m)) (or_l _ ((stopping_means trace_only P Q n m).1 s))
    back (inr (inr (i, l, a, b, f))) =
        or_r (has_stray P.e (row P n) (row Q m))
        (or_r (stopping trace_only P Q n m) (any← (onward trace_only P Q k n m) P.e i l (and_i (and_i (lt-ltb _ _ a) (lt-ltb _ _ b)) f)))

-- the test at a pair with this many events to go: a violating pair with none, else a stray or a stop
unfoldable pub faulty : Bool → Sheet → Sheet → ℕ → ℕ → ℕ → Bool
faulty trace_only P Q zero n m = violating trace_only P Q n m
faulty trace_only P Q (suc left) n m = has_stray P.e (row P n) (row Q m) || (not trace_only && (may_stop (row Q m) && not (may_stop (row P n))))

-- what the test at a pair means with events to go: a stray or a stop
pub faulty_means : (trace_only : Bool) (P Q : Sheet) (left n m : ℕ)
    → (faulty trace_only P Q (suc left) n m ≡ true) ↔ ((has_stray P.e (row P n) (row Q m) ≡ true) ⊎ StopsAt trace_only P Q n m)
unfolding faulty stopping
faulty_means trace_only P Q left n m = (λ t. forth (or_e (has_stray P.e (row P n) (row Q m)) _ t), back)
  where
    forth : (has_stray P.e (row P n) (row Q m) ≡ true) ⊎ (stopping trace_only P Q n m ≡ true) → (has_stray P.e (row P n) (row Q m) ≡ true) ⊎ StopsAt trace_only P Q n m
    forth (inl s) = inl s
    forth (inr s) = inr ((stopping_means trace_only P Q n m).0 s)

    back : (has_stray P.e (row P n) (row Q m) ≡ true) ⊎ StopsAt trace_only P Q n m → (has_stray P.e (row P n) (row Q m) || stopping trace_only P Q n m) ≡ true
    back (inl s) = or_l _ s
    back (inr s) = or_r (has_stray P.e (row P n) (row Q m)) ((stopping_means trace_only P Q n m).1 s)

-- a common list of events leads from the pair (n, m) to one that is faulty with the rest of k events to go
abbrev pub FaultyEnd : Bool → Sheet → Sheet → ℕ → ℕ → ℕ → Type 0
FaultyEnd trace_only P Q k n m =
    (t : List ℕ) × (left : ℕ) × (length t + left ≡ k) × (walk (graph P) n t < P.n) × (walk (graph Q) m t < Q.n)
    × (faulty trace_only P Q left (walk (graph P) n t) (walk (graph Q) m t) ≡ true)

module _ (trace_only : Bool) (P Q : Sheet) where
  -- where the test fails, a common list of events leads to a faulty pair
  pub fails_end : (k n m : ℕ) → n < P.n → m < Q.n → fails_from trace_only P Q k n m ≡ true → FaultyEnd trace_only P Q k n m
  unfolding walk faulty
  fails_end zero n m a b t = ([], 0, refl, a, b, unfold fails_from in t)
  fails_end (suc k) n m a b t = go ((fails_next trace_only P Q k n m).0 t) (fails_end k)
    where
      go : (has_stray P.e (row P n) (row Q m) ≡ true) ⊎ (StopsAt trace_only P Q n m ⊎ FailsOnward trace_only P Q k n m)
          → ((n m : ℕ) → n < P.n → m < Q.n → fails_from trace_only P Q k n m ≡ true → FaultyEnd trace_only P Q k n m) → FaultyEnd trace_only P Q (suc k) n m
      go (inl s) ih = ([], suc k, omega arith, a, b, (faulty_means trace_only P Q k n m).1 (inl s))
      go (inr (inl s)) ih = ([], suc k, omega arith, a, b, (faulty_means trace_only P Q k n m).1 (inr s))
      go (inr (inr (i, l, p, q, f))) ih =
          let v = ih (step P n i) (step Q m i) p q f in
          (i ∷ v.0, v.1, omega (arith, v.2), v.3, v.4, v.5)

  -- where a common list of events leads to a faulty pair, the test fails
  pub end_fails : Sound P → Sound Q → (t : List ℕ) (left n m : ℕ) → walk (graph P) n t < P.n → walk (graph Q) m t < Q.n
      → faulty trace_only P Q left (walk (graph P) n t) (walk (graph Q) m t) ≡ true → fails_from trace_only P Q (length t + left) n m ≡ true
  unfolding walk
  end_fails op oq [] zero n m a b f = unfold fails_from faulty in f
  end_fails op oq [] (suc left) n m a b f = rw (zero-add (suc left)) ((fails_next trace_only P Q left n m).1 (pick ((faulty_means trace_only P Q left n m).0 f)))
    where
      pick : (has_stray P.e (row P n) (row Q m) ≡ true) ⊎ StopsAt trace_only P Q n m
          → (has_stray P.e (row P n) (row Q m) ≡ true) ⊎ (StopsAt trace_only P Q n m ⊎ FailsOnward trace_only P Q left n m)
      pick (inl s) = inl s
      pick (inr s) = inr (inl s)
  end_fails op oq (i ∷ t) left n m a b f =
      let p : step P n i < P.n = ahead op.graphed (step P n i) t a in
      let q : step Q m i < Q.n = ahead oq.graphed (step Q m i) t b in
      rw (suc-add (length t) left)
      ((fails_next trace_only P Q (length t + left) n m).1
      (inr (inr (i, op.graphed.labels n i p, p, q, end_fails op oq t left (step P n i) (step Q m i) a b f))))
