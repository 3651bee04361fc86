-- Nothing to believe: laws. Each count is the number of different scripts with its fate: a list of that many names
-- them, each once, and every such script is in it. No other number is; the three sum to E to the power L; scripts that
-- the reference stops are there exactly if the device strays after a shorter common trace.
use Rattle.std.specs.Prelude.{◌≡◌, ◌↔◌, Bool, ltb, length, replicate}
use Rattle.std.proofs.Math.Path.{refl, sym, ap}
use Rattle.std.proofs.Common.{◌∙◌, subst, length-append}
use Rattle.std.proofs.Math.Logic.Iff as Iff
use Rattle.std.proofs.Math.Bool.{true, false, cond}
use mathlib.Core.List.{List, [], ◌∷◌, ◌++◌}
use Prim.Native.Nat.{ℕ, zero, suc, ◌+◌, ◌-◌, ◌^◌, ◌≤◌, ◌<◌}
use Rattle.std.proofs.Math.Nat.{pow-zero, pow-succ'}
use native.Mathlib.Omega.{arith}
use Rattle.std.proofs.lemmas.List.{length-replicate}
use Rattle.base.specs.Sum.{sum}
use Rattle.base.proofs.Sum.{sum_const, sum_add}
use Rattle.base.specs.Counted.{Counted}
use Rattle.base.proofs.CountedLaws.{counted_as, counted_none, counted_one, counted_kinds, counted_map, counted_unique, counted_some}
use Rattle.walks.specs.Graph.{Below}
use Rattle.walks.proofs.Graph.{trace_below}
use Rattle.sheet_spec.specs.declared.Sheet.{Sheet}
use Rattle.sheet_spec.specs.Kept.{step}
use Rattle.sheet_spec.specs.Sound.{Sound}
use Rattle.refinement_spec.specs.Refinement.{TraceViolation}
use Rattle.refinement_spec.proofs.RefinementLaws.{trace_means}
use Rattle.scripts_spec.specs.Scripts.{Fate, Walked, DeviceStops, ReferenceStops, by_fate, beginning, count_from, count_of}
use Rattle.scripts_spec.specs.Fates.{Script, Goes, fate_from}
use Rattle.scripts_spec.proofs.FateLaws.{fate_means}

-- the scripts of one event more: counted by their first event, c i of those that begin with i
by_first : (E l : ℕ) (R : List ℕ → Type 0) (c : ℕ → ℕ) → ((i : ℕ) → i < E → Counted (λ t. Script E l t × R (i ∷ t)) (c i))
    → Counted (λ t. Script E (suc l) t × R t) (sum c E)
by_first E l R c h =
    counted_as (λ t. (forth t, back t))
    (counted_kinds [] begins c E (λ i k. counted_map (λ t. i ∷ t) (λ s t e. tail_same i s t e) (h i k)) apart)
  where
    -- a script of event i and a rest
    begins : ℕ → List ℕ → Type 0
    begins i t = (s : List ℕ) × (Script E l s × R (i ∷ s)) × ((i ∷ s) ≡ t)

    head : List ℕ → ℕ
    head [] = 0
    head (i ∷ t) = i

    tail : List ℕ → List ℕ
    tail [] = []
    tail (i ∷ t) = t

    tail_same : (i : ℕ) (s t : List ℕ) → (i ∷ s) ≡ (i ∷ t) → s ≡ t
    tail_same i s t e = ap tail e

    apart : (i j : ℕ) (t : List ℕ) → i < j → j < E → begins i t → begins j t → ⊥
    apart i j t k l (s, x, p) (u, y, q) = let e : i ≡ j = ap head (p ∙ sym q) in omega arith

    forth : (t : List ℕ) → (i : ℕ) × (i < E) × begins i t → Script E (suc l) t × R t
    forth t (i, k, (s, x, p)) =
        subst (λ (u : List ℕ). Script E (suc l) u × R u) p ((ap suc x.0.0, (k, x.0.1)), x.1)

    back : (t : List ℕ) → Script E (suc l) t × R t → (i : ℕ) × (i < E) × begins i t
    back [] (x, r) = absurd (omega (arith, x.0))
    back (i ∷ t) (x, r) = (i, x.1.0, (t, ((omega (arith, x.0), x.1.1), r), refl))

-- there are E to the power l scripts of l events
pub scripts_counted : (E l : ℕ) → Counted (Script E l) (E ^ l)
scripts_counted E l = counted_as (λ t. ((λ x. x.0), λ x. (x, tt))) (go l)
  where
    go : (l : ℕ) → Counted (λ t. Script E l t × Unit {0}) (E ^ l)
    go zero = rw (pow-zero E) (counted_one [] ((refl, tt), tt) only)
      where
        only : (t : List ℕ) → Script E 0 t × Unit {0} → [] ≡ t
        only [] x = refl
        only (i ∷ t) x = absurd (omega (arith, x.0.0))
    go (suc l) = rw (pow-succ' E l) (rw (sum_const (λ i. E ^ l) (E ^ l) E (λ i k. refl)) at (by_first E l (λ t. Unit {0}) (λ i. E ^ l) (λ i k. go l)))

-- all scripts, or none, as one fate is another
module _ (E l : ℕ) where
  none : (g f : Fate) → (g ≡ f → ⊥) → Counted (λ t. Script E l t × (g ≡ f)) 0
  none g f h = counted_none [] (λ t x. h x.1)

  every : (f : Fate) → Counted (λ t. Script E l t × (f ≡ f)) (E ^ l)
  every f = counted_as (λ t. ((λ x. (x, refl)), λ x. x.0)) (scripts_counted E l)

  all_device : (f : Fate) → Counted (λ t. Script E l t × (DeviceStops ≡ f)) (by_fate 0 (E ^ l) 0 f)
  all_device Walked = none DeviceStops Walked (λ e. omega (arith, ap (by_fate 0 1 0) e))
  all_device DeviceStops = every DeviceStops
  all_device ReferenceStops = none DeviceStops ReferenceStops (λ e. omega (arith, ap (by_fate 0 1 0) e))

  all_reference : (f : Fate) → Counted (λ t. Script E l t × (ReferenceStops ≡ f)) (by_fate 0 0 (E ^ l) f)
  all_reference Walked = none ReferenceStops Walked (λ e. omega (arith, ap (by_fate 0 0 1) e))
  all_reference DeviceStops = none ReferenceStops DeviceStops (λ e. omega (arith, ap (by_fate 0 0 1) e))
  all_reference ReferenceStops = every ReferenceStops

module _ (P Q : Sheet) where
  -- a script of no event is not stopped
  unstopped : (n m : ℕ) (f : Fate) → by_fate 1 0 0 f ≡ 0 → (t : List ℕ) → ¬ (Script P.e 0 t × (fate_from P Q n m t ≡ f))
  unfolding fate_from
  unstopped n m f z [] x = omega (arith, z, ap (by_fate 1 0 0) x.1)
  unstopped n m f z (i ∷ t) x = omega (arith, x.0.0)

  -- of no event there is one script, which both walk
  empty : (n m : ℕ) (f : Fate) → Counted (λ t. Script P.e 0 t × (fate_from P Q n m t ≡ f)) (by_fate 1 0 0 f)
  unfolding fate_from
  empty n m Walked = counted_one [] ((refl, tt), refl) only
    where
      only : (t : List ℕ) → Script P.e 0 t × (fate_from P Q n m t ≡ Walked) → [] ≡ t
      only [] x = refl
      only (i ∷ t) x = absurd (omega (arith, x.0.0))
  empty n m DeviceStops = counted_none [] (unstopped n m DeviceStops refl)
  empty n m ReferenceStops = counted_none [] (unstopped n m ReferenceStops refl)

  -- those that begin with event i are as many as are counted, if those that go on after it are
  module _ (l n m i : ℕ) where
    -- the count for what follows event i
    abbrev on : Fate → ℕ
    on f = count_from P Q l (step P n i) (step Q m i) f

    begun : (f : Fate) → Counted (λ t. Script P.e l t × (fate_from P Q (step P n i) (step Q m i) t ≡ f)) (on f)
        → Counted (λ t. Script P.e l t × (fate_from P Q n m (i ∷ t) ≡ f)) (beginning P Q l n m i (on f) f)
    unfolding fate_from beginning
    begun f h = go (ltb (step Q m i) Q.n) (ltb (step P n i) P.n)
      where
        go : (a b : Bool)
            → Counted (λ t. Script P.e l t × (cond a (cond b (fate_from P Q (step P n i) (step Q m i) t) ReferenceStops) DeviceStops ≡ f))
            (cond a (cond b (on f) (by_fate 0 0 (P.e ^ l) f)) (by_fate 0 (P.e ^ l) 0 f))
        go false b = all_device P.e l f
        go true false = all_reference P.e l f
        go true true = h

    -- they have one of the three fates, if those that go on after it have
    begun_sum : on Walked + (on DeviceStops + on ReferenceStops) ≡ P.e ^ l
        → beginning P Q l n m i (on Walked) Walked + (beginning P Q l n m i (on DeviceStops) DeviceStops + beginning P Q l n m i (on ReferenceStops) ReferenceStops) ≡ P.e ^ l
    unfolding beginning
    begun_sum h = go (ltb (step Q m i) Q.n) (ltb (step P n i) P.n)
      where
        go : (a b : Bool)
            → cond a (cond b (on Walked) 0) 0 + (cond a (cond b (on DeviceStops) 0) (P.e ^ l) + cond a (cond b (on ReferenceStops) (P.e ^ l)) 0) ≡ P.e ^ l
        go false b = omega arith
        go true false = omega arith
        go true true = h

  -- the scripts of l events with a fate from a pair on are as many as are counted
  from_counted : (l n m : ℕ) (f : Fate) → Counted (λ t. Script P.e l t × (fate_from P Q n m t ≡ f)) (count_from P Q l n m f)
  unfolding count_from
  from_counted zero n m f = empty n m f
  from_counted (suc l) n m f =
      by_first P.e l (λ t. fate_from P Q n m t ≡ f) _ (λ i k. begun l n m i f (from_counted l (step P n i) (step Q m i) f))

  -- the three counts sum to E to the power l, from each pair on
  pub from_sum : (l n m : ℕ) → count_from P Q l n m Walked + (count_from P Q l n m DeviceStops + count_from P Q l n m ReferenceStops) ≡ P.e ^ l
  unfolding count_from
  from_sum zero n m = sym (pow-zero P.e)
  from_sum (suc l) n m =
      ap (λ (x : ℕ). sum (at Walked) P.e + x) (sum_add (at DeviceStops) (at ReferenceStops) both P.e (λ i k. refl))
      ∙ sum_add (at Walked) both (λ i. P.e ^ l) P.e (λ i k. begun_sum l n m i (from_sum l (step P n i) (step Q m i)))
      ∙ sum_const (λ i. P.e ^ l) (P.e ^ l) P.e (λ i k. refl) ∙ sym (pow-succ' P.e l)
    where
      at : Fate → ℕ → ℕ
      at f i = beginning P Q l n m i (count_from P Q l (step P n i) (step Q m i) f) f

      both : ℕ → ℕ
      both i = at DeviceStops i + at ReferenceStops i

  -- no count is greater
  pub from_le : (l n m : ℕ) (f : Fate) → count_from P Q l n m f ≤ P.e ^ l
  from_le l n m Walked = omega (arith, from_sum l n m)
  from_le l n m DeviceStops = omega (arith, from_sum l n m)
  from_le l n m ReferenceStops = omega (arith, from_sum l n m)

  -- the three counts sum to E to the power L
  pub counts_sum : (L : ℕ) → count_of P Q L Walked + (count_of P Q L DeviceStops + count_of P Q L ReferenceStops) ≡ P.e ^ L
  unfolding count_of
  counts_sum L = from_sum L 0 0

  -- of no event there is one script, and both walk it
  pub counts_empty : (f : Fate) → count_of P Q 0 f ≡ by_fate 1 0 0 f
  unfolding count_of count_from
  counts_empty f = refl

module _ {P Q : Sheet} (op : Sound P) (oq : Sound Q) where
  -- each count is the number of different scripts of L events that go that way
  pub counted : (L : ℕ) (f : Fate) → Counted (λ t. Script P.e L t × Goes P Q t f) (count_of P Q L f)
  unfolding count_of
  counted L f = counted_as (λ t. Iff.and Iff.rfl (fate_means op oq t f)) (from_counted P Q L 0 0 f)

  -- and no other number is
  pub counted_only : (L c : ℕ) (f : Fate) → Counted (λ t. Script P.e L t × Goes P Q t f) c → c ≡ count_of P Q L f
  counted_only L c f h = counted_unique h (counted L f)

  -- some script goes that way exactly if its count is not 0
  pub counted_any : (L : ℕ) (f : Fate) → (0 < count_of P Q L f) ↔ ((t : List ℕ) × (Script P.e L t × Goes P Q t f))
  counted_any L f = counted_some (counted L f)

  -- the reference stops scripts of L events exactly if the device strays after a common trace of fewer
  pub stray_counted : P.e ≡ Q.e → (L : ℕ) → (0 < count_of P Q L ReferenceStops) ↔ ((t : List ℕ) × (length t < L) × TraceViolation P Q t)
  stray_counted same L = (forth, back)
    where
      forth : 0 < count_of P Q L ReferenceStops → (t : List ℕ) × (length t < L) × TraceViolation P Q t
      forth h = of ((counted_any L ReferenceStops).0 h)
        where
          of : (t : List ℕ) × (Script P.e L t × Goes P Q t ReferenceStops) → (t : List ℕ) × (length t < L) × TraceViolation P Q t
          of (t, (x, (s, i, c, does, no-does))) =
              (s, omega (arith, x.0, ap length c.split, length-append s (i ∷ c.rest)), (c.reference, c.device, (i, does, no-does)))

      -- the violation, its stray, and event 0 as often as is needed
      back : (t : List ℕ) × (length t < L) × TraceViolation P Q t → 0 < count_of P Q L ReferenceStops
      back (s, l, (x, y, (i, does, no-does))) = (counted_any L ReferenceStops).1 (script, ((long, below), goes))
        where
          zeros : List ℕ
          zeros = replicate (L - 1 - length s) 0

          script : List ℕ
          script = s ++ (i ∷ zeros)

          long : length script ≡ L
          long = length-append s (i ∷ zeros) ∙ omega (arith, length-replicate {A = ℕ} (L - 1 - length s) 0)

          below_append : (s t : List ℕ) → Below P.e s → Below P.e t → Below P.e (s ++ t)
          below_append [] t a b = b
          below_append (i ∷ s) t a b = (a.0, below_append s t a.1 b)

          zeros_below : (n : ℕ) → Below P.e (replicate n 0)
          zeros_below zero = tt
          zeros_below (suc n) = (op.ranges.e_low, zeros_below n)

          below : Below P.e script
          below = below_append s (i ∷ zeros) (trace_below op.graphed s ((trace_means op s).0 x)) (omega (arith, same, does.2.0), zeros_below (L - 1 - length s))

          goes : Goes P Q script ReferenceStops
          goes = (s, i, record { rest = zeros; split = refl; reference = x; device = y }, does, no-does)

module _ {P Q : Sheet} (op : Sound P) (oq : Sound Q) (same : P.e ≡ Q.e) where
  -- exchanged, the two sheets walk as many scripts
  pub walked_exchanged : (L : ℕ) → count_of Q P L Walked ≡ count_of P Q L Walked
  walked_exchanged L =
      counted_only op oq L (count_of Q P L Walked) Walked
      (counted_as (λ t. ((λ x. (rw same x.0, (x.1.1, x.1.0))), λ x. (rw (sym same) x.0, (x.1.1, x.1.0)))) (counted oq op L Walked))
