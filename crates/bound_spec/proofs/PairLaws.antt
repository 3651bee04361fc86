-- Nothing to believe: laws. The pairs of nodes of the two sheets, by the number n q + m of the pair (n, m): a common
-- event makes it greater by one, so after a common trace it is the trace's length; every pair is reached; and only the
-- last, number p q - 1, is violating. One argument for all p and q.
use Rattle.std.specs.Prelude.{◌≡◌, ◌⊎◌, ◌≢◌, Bool, true, false}
use Rattle.std.proofs.Math.Path.{refl, ap}
use Rattle.std.proofs.Common.{◌∙◌, inl, inr, lt-ltb}
use mathlib.Core.List.{List, [], ◌∷◌, ◌++◌}
use Prim.Native.Nat.{ℕ, zero, suc, ◌+◌, ◌-◌, ◌*◌, ◌≤◌, ◌<◌}
use Rattle.std.proofs.Math.Nat.{add-mul, one-mul}
use native.Mathlib.Omega.{arith}
use Rattle.std.proofs.Math.ListN.{length}
use Rattle.base.proofs.Truth.{lt_or_ge, clash}
use Rattle.base.specs.Range.{any}
use Rattle.events.specs.Sets.{inside}
use Rattle.walks.specs.Graph.{walk}
use Rattle.walks.proofs.Graph.{walk_snoc, ahead}
use Rattle.walks.specs.Pairs.{PairLeads}
use Rattle.sheet_spec.specs.declared.Row.{Row}
use Rattle.sheet_spec.specs.Kept.{row, successor, acceptance, Initial, step, graph}
use Rattle.refinement_spec.specs.ViolatingPairs.{has_stray, covers, has_refusal, violating}
use Rattle.refinement_spec.proofs.PairLaws.{stray_means, violates_means}
use Rattle.bound_spec.specs.Sheets.{zero_to, one_to, either_to, bound_reference, bound_device}
use Rattle.bound_spec.proofs.SheetLaws.{reference_middle, reference_last, sound_reference, device_middle, device_last, sound_device}

-- ---- how events lead on

module _ (p : ℕ) (low : 1 ≤ p) (high : p ≤ 32) where
  -- the reference stays on 0
  pub reference_stays : (n : ℕ) → n < p → step (bound_reference p) n 0 ≡ n
  unfolding step bound_reference successor
  reference_stays n l = rw (lt-ltb n p l) (go (lt_or_ge (n + 1) p))
    where
      go : (n + 1 < p) ⊎ (p ≤ n + 1) → successor (row (bound_reference p) n) 0 ≡ n
      go (inl h) = rw (reference_middle p low high n h)
      go (inr h) = rw (reference_last p low high n (omega arith))

  -- it climbs on 1, and nowhere else does 1 lead to a node
  pub reference_rise : (n : ℕ) → n + 1 < p → step (bound_reference p) n 1 ≡ n + 1
  unfolding step bound_reference successor
  reference_rise n k = let l : n < p = omega arith in rw (lt-ltb n p l, reference_middle p low high n k)

  reference_rises : (n : ℕ) → n < p → step (bound_reference p) n 1 < p → (n + 1 < p) × (step (bound_reference p) n 1 ≡ n + 1)
  unfolding step bound_reference successor
  reference_rises n l h = go (lt_or_ge (n + 1) p)
    where
      there : step (bound_reference p) n 1 ≡ successor (row (bound_reference p) n) 1
      there = rw (lt-ltb n p l)

      go : (n + 1 < p) ⊎ (p ≤ n + 1) → (n + 1 < p) × (step (bound_reference p) n 1 ≡ n + 1)
      go (inl k) = (k, reference_rise n k)
      go (inr k) = let e : step (bound_reference p) n 1 ≡ 255 = there ∙ rw (reference_last p low high n (omega arith)) in absurd (omega arith)

module _ (q : ℕ) (low : 1 ≤ q) (high : q ≤ 32) where
  -- the device climbs on 0, and nowhere else does 0 lead to a node
  pub device_rise : (m : ℕ) → m + 1 < q → step (bound_device q) m 0 ≡ m + 1
  unfolding step bound_device successor
  device_rise m k = let l : m < q = omega arith in rw (lt-ltb m q l, device_middle q low high m k)

  device_rises : (m : ℕ) → m < q → step (bound_device q) m 0 < q → step (bound_device q) m 0 ≡ m + 1
  unfolding step bound_device successor
  device_rises m l h = go (lt_or_ge (m + 1) q)
    where
      there : step (bound_device q) m 0 ≡ successor (row (bound_device q) m) 0
      there = rw (lt-ltb m q l)

      go : (m + 1 < q) ⊎ (q ≤ m + 1) → step (bound_device q) m 0 ≡ m + 1
      go (inl k) = device_rise m k
      go (inr k) = let e : step (bound_device q) m 0 ≡ 255 = there ∙ rw (device_last q low high m (omega arith)) in absurd (omega arith)

  -- from its last node it returns to its first on 1, and nowhere else does 1 lead to a node
  pub device_return : (m : ℕ) → m + 1 ≡ q → step (bound_device q) m 1 ≡ 0
  unfolding step bound_device successor
  device_return m k = let l : m < q = omega arith in rw (lt-ltb m q l, device_last q low high m k)

  device_returns : (m : ℕ) → m < q → step (bound_device q) m 1 < q → (m + 1 ≡ q) × (step (bound_device q) m 1 ≡ 0)
  unfolding step bound_device successor
  device_returns m l h = go (lt_or_ge (m + 1) q)
    where
      there : step (bound_device q) m 1 ≡ successor (row (bound_device q) m) 1
      there = rw (lt-ltb m q l)

      go : (m + 1 < q) ⊎ (q ≤ m + 1) → (m + 1 ≡ q) × (step (bound_device q) m 1 ≡ 0)
      go (inl k) = let e : step (bound_device q) m 1 ≡ 255 = there ∙ rw (device_middle q low high m k) in absurd (omega arith)
      go (inr k) = let e : m + 1 ≡ q = omega arith in (e, device_return m e)

-- ---- what a pair of rows is, by their shapes

either_known : (r : Row) (a b i : ℕ) → r ≡ either_to a b → a ≢ 255 → b ≢ 255 → i < 2 → Initial 2 r i
unfolding successor
either_known r a b zero e x y l = rw e (l, x)
either_known r a b (suc zero) e x y l = rw e (l, y)
either_known r a b (suc (suc i)) e x y l = absurd (omega arith)

zero_known : (r : Row) (a i : ℕ) → r ≡ zero_to a → a ≢ 255 → i ≡ 0 → Initial 2 r i
unfolding successor
zero_known r a i e f z = rw (e, z) (omega arith, f)

zero_initial : (a i : ℕ) → Initial 2 (zero_to a) i → i ≡ 0
unfolding successor
zero_initial a zero h = refl
zero_initial a (suc zero) h = absurd (h.1 refl)
zero_initial a (suc (suc i)) h = absurd (omega (arith, h.0))

zero_alone : (r : Row) (a i : ℕ) → r ≡ zero_to a → Initial 2 r i → i ≡ 0
zero_alone r a i e h = zero_initial a i (rw e at h)

-- a node that may insist on either alone refuses no less than one that insists on one; nor does one that insists on 0
-- than another that does
either_covers : (a b x : ℕ) → (has_refusal (either_to a b) (zero_to x) ≡ false) × (has_refusal (either_to a b) (one_to x) ≡ false)
unfolding has_refusal covers any inside acceptance
either_covers a b x = (refl, refl)

zero_covers : (a x : ℕ) → has_refusal (zero_to a) (zero_to x) ≡ false
unfolding has_refusal covers any inside acceptance
zero_covers a x = refl

-- ---- the pairs

module _ (p q : ℕ) (p_low : 1 ≤ p) (p_high : p ≤ 32) (q_low : 1 ≤ q) (q_high : q ≤ 32) where
  -- one common event: the pair's number grows by one
  one_more : (i n m : ℕ) → n < p → m < q → step (bound_reference p) n i < p → step (bound_device q) m i < q
      → step (bound_reference p) n i * q + step (bound_device q) m i ≡ n * q + m + 1
  one_more zero n m a b x y = rw (reference_stays p p_low p_high n a, device_rises q q_low q_high m b y) (omega arith)
  one_more (suc zero) n m a b x y =
      let u = reference_rises p p_low p_high n a x in
      let w = device_returns q q_low q_high m b y in
      rw (u.1, w.1) (omega (arith, add-mul n 1 q, one-mul q, w.0))
  one_more (suc (suc i)) n m a b x y = absurd (omega (arith, event (suc (suc i)) n x))
    where
      event : (i n : ℕ) → step (bound_reference p) n i < p → i < 2
      event i n x = unfold bound_reference in (sound_reference p p_low p_high).graphed.labels n i x

  -- along a common list of events it grows by the list's length
  common_length : (t : List ℕ) (n m : ℕ) → n < p → m < q → walk (graph (bound_reference p)) n t < p → walk (graph (bound_device q)) m t < q
      → walk (graph (bound_reference p)) n t * q + walk (graph (bound_device q)) m t ≡ n * q + m + length t
  unfolding walk
  common_length [] n m a b x y = omega arith
  common_length (i ∷ t) n m a b x y =
      let u : step (bound_reference p) n i < p = inside_p t (step (bound_reference p) n i) x in
      let w : step (bound_device q) m i < q = inside_q t (step (bound_device q) m i) y in
      common_length t (step (bound_reference p) n i) (step (bound_device q) m i) u w x y ∙ omega (arith, one_more i n m a b u w)
    where
      inside_p : (t : List ℕ) (n : ℕ) → walk (graph (bound_reference p)) n t < p → n < p
      inside_p t n x = unfold bound_reference in ahead (sound_reference p p_low p_high).graphed n t x

      inside_q : (t : List ℕ) (m : ℕ) → walk (graph (bound_device q)) m t < q → m < q
      inside_q t m y = unfold bound_device in ahead (sound_device q q_low q_high).graphed m t y

  small : (n : ℕ) → n < p → n ≢ 255
  small n l e = omega arith

  -- only the last pair is violating
  violating_last : (trace_only : Bool) (n m : ℕ) → n < p → m < q → violating trace_only (bound_reference p) (bound_device q) n m ≡ true
      → (n + 1 ≡ p) × (m + 1 ≡ q)
  unfolding violating bound_reference bound_device
  violating_last trace_only n m a b v =
      go (lt_or_ge (n + 1) p) (lt_or_ge (m + 1) q) ((violates_means trace_only 2 (row (bound_reference p) n) (row (bound_device q) m)).0 v)
    where
      Bad : Type 0
      Bad = (has_stray 2 (row (bound_reference p) n) (row (bound_device q) m) ≡ true) ⊎ ((trace_only ≡ false) × (has_refusal (row (bound_reference p) n) (row (bound_device q) m) ≡ true))

      go : (n + 1 < p) ⊎ (p ≤ n + 1) → (m + 1 < q) ⊎ (q ≤ m + 1) → Bad → (n + 1 ≡ p) × (m + 1 ≡ q)
      go (inr x) (inr y) r = (omega arith, omega arith)
      go (inl x) y (inl s) =
          let w = (stray_means 2 (row (bound_reference p) n) (row (bound_device q) m) (omega arith)).0 s in
          absurd (w.2 (either_known (row (bound_reference p) n) n (n + 1) w.0 (reference_middle p p_low p_high n x) (small n a) (small (n + 1) x) w.1.0))
      go (inl x) (inl y) (inr s) =
          absurd (clash (rw (reference_middle p p_low p_high n x, device_middle q q_low q_high m y) at s.1) (either_covers n (n + 1) (m + 1)).0)
      go (inl x) (inr y) (inr s) =
          absurd (clash (rw (reference_middle p p_low p_high n x, device_last q q_low q_high m (omega arith)) at s.1) (either_covers n (n + 1) 0).1)
      go (inr x) (inl y) (inl s) =
          let w = (stray_means 2 (row (bound_reference p) n) (row (bound_device q) m) (omega arith)).0 s in
          let z = zero_alone (row (bound_device q) m) (m + 1) w.0 (device_middle q q_low q_high m y) w.1 in
          absurd (w.2 (zero_known (row (bound_reference p) n) n w.0 (reference_last p p_low p_high n (omega arith)) (small n a) z))
      go (inr x) (inl y) (inr s) =
          absurd (clash (rw (reference_last p p_low p_high n (omega arith), device_middle q q_low q_high m y) at s.1) (zero_covers n (m + 1)))

  -- and it is: the device does 1, which the reference does not know
  last_violates : (trace_only : Bool) (n m : ℕ) → n + 1 ≡ p → m + 1 ≡ q → violating trace_only (bound_reference p) (bound_device q) n m ≡ true
  unfolding violating bound_reference bound_device
  last_violates trace_only n m a b =
      (violates_means trace_only 2 (row (bound_reference p) n) (row (bound_device q) m)).1
      (inl ((stray_means 2 (row (bound_reference p) n) (row (bound_device q) m) (omega arith)).1
      (1, rw (device_last q q_low q_high m b) does, λ h. not_known (rw (reference_last p p_low p_high n a) at h))))
    where
      does : Initial 2 (one_to 0) 1
      does = unfold successor in (omega arith, λ e. omega arith)

      not_known : Initial 2 (zero_to n) 1 → ⊥
      not_known h = omega (arith, zero_initial n 1 h)

  -- every pair is reached by a common trace: device nodes one by one, then one reference node more
  abbrev Reaches : ℕ → ℕ → Type 0
  Reaches n m = (t : List ℕ) × (walk (graph (bound_reference p)) 0 t ≡ n) × (walk (graph (bound_device q)) 0 t ≡ m)

  on : (i n m n' m' : ℕ) → step (bound_reference p) n i ≡ n' → step (bound_device q) m i ≡ m' → Reaches n m → Reaches n' m'
  on i n m n' m' a b (t, x, y) = (
    t ++ (i ∷ []),
    walk_snoc (graph (bound_reference p)) 0 t i ∙ ap (λ (z : ℕ). step (bound_reference p) z i) x ∙ a,
    walk_snoc (graph (bound_device q)) 0 t i ∙ ap (λ (z : ℕ). step (bound_device q) z i) y ∙ b,
  )

  along : (n m : ℕ) → n < p → m < q → Reaches n 0 → Reaches n m
  along n zero a b r = r
  along n (suc m) a b r =
      on 0 n m n (suc m) (reference_stays p p_low p_high n a) (device_rise q q_low q_high m (omega arith) ∙ omega arith) (along n m a (omega arith) r)

  reaches : (n : ℕ) → n < p → Reaches n 0
  unfolding walk
  reaches zero a = ([], refl, refl)
  reaches (suc n) a =
      on 1 n (q - 1) (suc n) 0 (reference_rise p p_low p_high n (omega arith) ∙ omega arith) (device_return q q_low q_high (q - 1) (omega arith))
      (along n (q - 1) (omega arith) (omega arith) (reaches n (omega arith)))

  -- ---- the violations

  module _ (trace_only : Bool) where
    -- a common trace to a violating pair
    abbrev pub Leads : List ℕ → Type 0
    Leads t = PairLeads (graph (bound_reference p)) (graph (bound_device q)) (violating trace_only (bound_reference p) (bound_device q)) 0 0 t

    -- it has p q - 1 events
    pub violation_length : (t : List ℕ) → Leads t → length t ≡ p * q - 1
    unfolding bound_reference bound_device
    violation_length t l =
        let c = common_length t 0 0 p_low q_low l.in_r l.in_d in
        let w = violating_last trace_only (walk (graph (bound_reference p)) 0 t) (walk (graph (bound_device q)) 0 t) l.in_r l.in_d l.ends in
        total (walk (graph (bound_reference p)) 0 t) (walk (graph (bound_device q)) 0 t) w.0 w.1 c
      where
        total : (n m : ℕ) → n + 1 ≡ p → m + 1 ≡ q → n * q + m ≡ 0 * q + 0 + length t → length t ≡ p * q - 1
        total n m a b c = omega (arith, ap (λ (x : ℕ). x * q) a, add-mul n 1 q, one-mul q)

    -- there is one
    pub violation : (t : List ℕ) × Leads t
    unfolding bound_reference bound_device
    violation =
        let r = along (p - 1) (q - 1) (omega arith) (omega arith) (reaches (p - 1) (omega arith)) in (
          r.0,
          record { in_r = omega (arith, r.1); in_d = omega (arith, r.2); ends = rw (r.1, r.2) (last_violates trace_only (p - 1) (q - 1) (omega arith) (omega arith)) },
        )
