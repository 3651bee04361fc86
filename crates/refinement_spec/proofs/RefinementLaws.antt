-- Nothing to believe: laws. What sound sheets do and refuse after a trace, and what violations and refinement come to
-- over the pairs of their nodes.
use Rattle.std.specs.Prelude.{◌≡◌, refl, ◌⊎◌, ◌↔◌, Bool, false, List, [], ◌∷◌, ◌++◌, ℕ, ◌*◌, ◌^◌, ◌≤◌, ◌<◌, length}
use Rattle.std.proofs.Common.{sym, ◌∙◌, subst, inl, inr, true≢false, arith}
use Rattle.std.proofs.Math.Bool.{true}
use borrow.Author.Tests.{lt-ltb}
use Rattle.base.proofs.Truth.{dec, lt_or_ge}
use Rattle.walks.specs.Graph.{walk, snoc-ind}
use Rattle.walks.proofs.Graph.{walk_snoc, walk_front}
use Rattle.walks.specs.Pairs.{PairLeads, pair_distance}
use Rattle.walks.proofs.Pairs.{pair_bound, pair_distance_means, pair_distance_none}
use Rattle.sheet_spec.specs.declared.Sheet.{Sheet}
use Rattle.sheet_spec.specs.Kept.{row, successor, acceptance, Initial, step, graph}
use Rattle.sheet_spec.proofs.RuleLaws.{Walk→, Walk←}
use Rattle.sheet_spec.specs.Sound.{Sound}
use Rattle.refinement_spec.specs.Refinement.{After, Trace, Does, MayRefuse, Refuses, Strays, Overrefuses, Violation, Refines, TraceViolation, TraceRefines, ViolationIn, RefinesIn}
use Rattle.refinement_spec.specs.ViolatingPairs.{has_stray, has_refusal, violating}
use Rattle.refinement_spec.proofs.PairLaws.{stray_means, no_refusal_refuses, refused_refusal, refusal_set, violates_means}

module _ {s : Sheet} (o : Sound s) where
  -- a list of events that leads to a node leads to the node of its walk
  pub after_walk : (t : List ℕ) (v : ℕ) → After s t v → walk (graph s) 0 t ≡ v
  after_walk t v a = Walk→ s 0 t v a.0

  -- a list whose walk ends at a node leads to it
  pub walk_after : (t : List ℕ) → walk (graph s) 0 t < s.n → After s t (walk (graph s) 0 t)
  walk_after t l = (Walk← s o.ranges.n_low 0 t (walk (graph s) 0 t) l refl, l)

  -- a list of events is a trace exactly if its walk ends at a node
  pub trace_means : (t : List ℕ) → Trace s t ↔ (walk (graph s) 0 t < s.n)
  trace_means t = (forth, λ l. (walk (graph s) 0 t, walk_after t l))
    where
      forth : Trace s t → walk (graph s) 0 t < s.n
      forth (v, a) = rw (after_walk t v a) a.1

  -- a trace leads to one node only
  pub after_unique : (t : List ℕ) (v w : ℕ) → After s t v → After s t w → v ≡ w
  after_unique t v w a b = sym (after_walk t v a) ∙ after_walk t w b

  -- the empty list is a trace
  pub trace_empty : Trace s []
  unfolding walk
  trace_empty = (trace_means []).1 o.ranges.n_low

  -- the front of a trace is a trace
  pub trace_front : (t u : List ℕ) → Trace s (t ++ u) → Trace s t
  trace_front t u h = (trace_means t).1 (walk_front o.graphed 0 t u ((trace_means (t ++ u)).0 h))

  -- at a node an event leads on to a node exactly if it is an initial
  initial_step : (v i : ℕ) → v < s.n → Initial s.e (row s v) i ↔ (step s v i < s.n)
  unfolding step
  initial_step v i l = (forth, back)
    where
      at : i < s.e → step s v i ≡ successor (row s v) i
      at k = rw (lt-ltb v s.n l, lt-ltb i s.e k)

      forth : Initial s.e (row s v) i → step s v i < s.n
      forth (k, n) = rw (at k) (go (o.successors v i l k))
        where
          go : (successor (row s v) i ≡ 255) ⊎ (successor (row s v) i < s.n) → successor (row s v) i < s.n
          go (inl e) = absurd (n e)
          go (inr d) = d

      back : step s v i < s.n → Initial s.e (row s v) i
      back d = let k : i < s.e = o.graphed.labels v i d in (k, λ e. omega (arith, at k, o.ranges.n_high))

  -- after a trace the sheet does an event exactly if the trace goes on with it
  pub does_means : (t : List ℕ) (i : ℕ) → Does s t i ↔ Trace s (t ++ (i ∷ []))
  does_means t i = (forth, back)
    where
      forth : Does s t i → Trace s (t ++ (i ∷ []))
      forth (v, a, h) =
          (trace_means (t ++ (i ∷ []))).1 (rw (walk_snoc (graph s) 0 t i, after_walk t v a) ((initial_step v i a.1).0 h))

      back : Trace s (t ++ (i ∷ [])) → Does s t i
      back h =
          let l = (trace_means t).0 (trace_front t (i ∷ []) h) in
          (walk (graph s) 0 t, walk_after t l, (initial_step (walk (graph s) 0 t) i l).1 (rw (walk_snoc (graph s) 0 t i) at ((trace_means (t ++ (i ∷ []))).0 h)))

  -- what the sheet does after a trace are the initials of the node reached
  does_at : (t : List ℕ) (v i : ℕ) → After s t v → Does s t i → Initial s.e (row s v) i
  does_at t v i a (w, b, h) = rw (after_unique t v w a b) h

  -- what the sheet refuses after a trace, the node reached may refuse
  refuses_at : (t : List ℕ) (v X : ℕ) → After s t v → Refuses s t X → MayRefuse (row s v) X
  refuses_at t v X a (w, b, h) = rw (after_unique t v w a b) h

module _ {P Q : Sheet} (op : Sound P) (oq : Sound Q) (same : P.e ≡ Q.e) where
  module _ (t : List ℕ) (v w : ℕ) (a : After P t v) (b : After Q t w) where
    -- the device strays after a common trace exactly if the pair reached has a stray
    pub strays_at : Strays P Q t ↔ (has_stray P.e (row P v) (row Q w) ≡ true)
    strays_at = (forth, back)
      where
        forth : Strays P Q t → has_stray P.e (row P v) (row Q w) ≡ true
        forth (i, d, n) =
            (stray_means P.e (row P v) (row Q w) op.ranges.e_high).1
            (i, subst (λ (x : ℕ). Initial x (row Q w) i) (sym same) (does_at oq t w i b d), λ (h : Initial P.e (row P v) i). n (v, a, h))

        back : has_stray P.e (row P v) (row Q w) ≡ true → Strays P Q t
        back h =
            let x = (stray_means P.e (row P v) (row Q w) op.ranges.e_high).0 h in
            (x.0, (w, b, subst (λ (z : ℕ). Initial z (row Q w) x.0) same x.1), λ (d : Does P t x.0). x.2 (does_at op t v x.0 a d))

    -- where the pair reached has a refusal, the device refuses a set below 2 ^ E that the reference does not
    refusal_at : has_refusal (row P v) (row Q w) ≡ true → (X : ℕ) × (X < 2 ^ Q.e) × Refuses Q t X × (¬ Refuses P t X)
    refusal_at h =
        let x = refusal_set Q.e (row P v) (row Q w) below (λ j k. oq.narrow w j b.1 k) h in
        (x.0, x.1, (w, b, x.2), λ (r : Refuses P t x.0). x.3 (refuses_at op t v x.0 a r))
      where
        below : (l : ℕ) → l < (row P v).c → acceptance (row P v) l < 2 ^ Q.e
        below l k = subst (λ (z : ℕ). acceptance (row P v) l < 2 ^ z) same (op.narrow v l a.1 k)

    -- the device refuses too much after a common trace exactly if the pair reached has a refusal
    pub overrefuses_at : Overrefuses P Q t ↔ (has_refusal (row P v) (row Q w) ≡ true)
    overrefuses_at = (forth, back)
      where
        forth : Overrefuses P Q t → has_refusal (row P v) (row Q w) ≡ true
        forth (X, r, n) = refused_refusal (row P v) (row Q w) X (refuses_at oq t w X b r) (λ (m : MayRefuse (row P v) X). n (v, a, m))

        back : has_refusal (row P v) (row Q w) ≡ true → Overrefuses P Q t
        back h = let x = refusal_at h in (x.0, x.2, x.3)

  -- a set refused too much can be taken among the events of the sheets
  pub violation_bounded_set : (t : List ℕ) → Trace P t → Trace Q t → Overrefuses P Q t → (X : ℕ) × (X < 2 ^ Q.e) × Refuses Q t X × (¬ Refuses P t X)
  violation_bounded_set t (v, a) (w, b) h = refusal_at t v w a b ((overrefuses_at t v w a b).0 h)

  -- a violation is a common trace to a violating pair
  pub violation_means : (trace_only : Bool) (t : List ℕ) → ViolationIn trace_only P Q t ↔ PairLeads (graph P) (graph Q) (violating trace_only P Q) 0 0 t
  unfolding violating
  violation_means true t = (forth, back)
    where
      forth : TraceViolation P Q t → PairLeads (graph P) (graph Q) (violating true P Q) 0 0 t
      forth (x, y, s) =
          let l = (trace_means op t).0 x in
          let k = (trace_means oq t).0 y in
          let h = (strays_at t _ _ (walk_after op t l) (walk_after oq t k)).0 s in
          record { in_r = l; in_d = k; ends = (violates_means true P.e _ _).1 (inl h) }

      back : PairLeads (graph P) (graph Q) (violating true P Q) 0 0 t → TraceViolation P Q t
      back l =
          let a = walk_after op t l.in_r in
          let b = walk_after oq t l.in_d in
          ((_, a), (_, b), go ((violates_means true P.e _ _).0 l.ends))
        where
          go : (has_stray P.e (row P (walk (graph P) 0 t)) (row Q (walk (graph Q) 0 t)) ≡ true)
              ⊎ ((true ≡ false) × (has_refusal (row P (walk (graph P) 0 t)) (row Q (walk (graph Q) 0 t)) ≡ true)) → Strays P Q t
          go (inl h) = (strays_at t _ _ (walk_after op t l.in_r) (walk_after oq t l.in_d)).1 h
          go (inr h) = absurd (true≢false h.0)
  violation_means false t = (forth, back)
    where
      forth : Violation P Q t → PairLeads (graph P) (graph Q) (violating false P Q) 0 0 t
      forth (x, y, s) = record { in_r = (trace_means op t).0 x; in_d = (trace_means oq t).0 y; ends = (violates_means false P.e _ _).1 (go s) }
        where
          a : After P t (walk (graph P) 0 t)
          a = walk_after op t ((trace_means op t).0 x)

          b : After Q t (walk (graph Q) 0 t)
          b = walk_after oq t ((trace_means oq t).0 y)

          go : Strays P Q t ⊎ Overrefuses P Q t → (has_stray P.e (row P (walk (graph P) 0 t)) (row Q (walk (graph Q) 0 t)) ≡ true)
              ⊎ ((false ≡ false) × (has_refusal (row P (walk (graph P) 0 t)) (row Q (walk (graph Q) 0 t)) ≡ true))
          go (inl h) = inl ((strays_at t _ _ a b).0 h)
          go (inr h) = inr (refl, (overrefuses_at t _ _ a b).0 h)

      back : PairLeads (graph P) (graph Q) (violating false P Q) 0 0 t → Violation P Q t
      back l = ((_, a), (_, b), go ((violates_means false P.e _ _).0 l.ends))
        where
          a : After P t (walk (graph P) 0 t)
          a = walk_after op t l.in_r

          b : After Q t (walk (graph Q) 0 t)
          b = walk_after oq t l.in_d

          go : (has_stray P.e (row P (walk (graph P) 0 t)) (row Q (walk (graph Q) 0 t)) ≡ true)
              ⊎ ((false ≡ false) × (has_refusal (row P (walk (graph P) 0 t)) (row Q (walk (graph Q) 0 t)) ≡ true)) → Strays P Q t ⊎ Overrefuses P Q t
          go (inl h) = inl ((strays_at t _ _ a b).1 h)
          go (inr h) = inr ((overrefuses_at t _ _ a b).1 h.1)

  -- without strays after common traces, every trace of the device is the reference's
  all_traces : ((t : List ℕ) → Trace P t → Trace Q t → ¬ Strays P Q t) → TraceRefines P Q
  all_traces f = snoc-ind (λ t. Trace Q t → Trace P t) (λ h. trace_empty op) more
    where
      more : (t : List ℕ) (i : ℕ) → (Trace Q t → Trace P t) → Trace Q (t ++ (i ∷ [])) → Trace P (t ++ (i ∷ []))
      more t i ih h = go (lt_or_ge (walk (graph P) 0 (t ++ (i ∷ []))) P.n)
        where
          front : Trace Q t
          front = trace_front oq t (i ∷ []) h

          go : (walk (graph P) 0 (t ++ (i ∷ [])) < P.n) ⊎ (P.n ≤ walk (graph P) 0 (t ++ (i ∷ []))) → Trace P (t ++ (i ∷ []))
          go (inl l) = (trace_means op (t ++ (i ∷ []))).1 l
          go (inr l) =
              absurd
              (f t (ih front) front
              (i, (does_means oq t i).1 h, λ (d : Does P t i). omega (arith, l, (trace_means op (t ++ (i ∷ []))).0 ((does_means op t i).0 d))))

  -- where every trace of the device is the reference's, it does not stray
  no_strays : TraceRefines P Q → (t : List ℕ) → ¬ Strays P Q t
  no_strays f t (i, d, n) = n ((does_means op t i).1 (f (t ++ (i ∷ [])) ((does_means oq t i).0 d)))

  -- the device refines the reference exactly if there is no violation
  pub refines_means : (trace_only : Bool) → RefinesIn trace_only P Q ↔ ((t : List ℕ) → ¬ ViolationIn trace_only P Q t)
  refines_means true = (forth, back)
    where
      forth : TraceRefines P Q → (t : List ℕ) → ¬ TraceViolation P Q t
      forth f t (x, y, s) = no_strays f t s

      back : ((t : List ℕ) → ¬ TraceViolation P Q t) → TraceRefines P Q
      back f = all_traces (λ t x y s. f t (x, y, s))
  refines_means false = (forth, back)
    where
      forth : Refines P Q → (t : List ℕ) → ¬ Violation P Q t
      forth f t (x, y, inl s) = no_strays (λ u h. (f u h).0) t s
      forth f t (x, y, inr (X, r, n)) = n ((f t y).1 X r)

      back : ((t : List ℕ) → ¬ Violation P Q t) → Refines P Q
      back f t y = (common, refuses)
        where
          common : Trace P t
          common = all_traces (λ u x z s. f u (x, z, inl s)) t y

          refuses : (X : ℕ) → Refuses Q t X → Refuses P t X
          refuses X (w, b, m) = go (dec (has_refusal (row P common.0) (row Q w)))
            where
              go : (has_refusal (row P common.0) (row Q w) ≡ true) ⊎ (has_refusal (row P common.0) (row Q w) ≡ false) → Refuses P t X
              go (inl h) = absurd (f t (common, y, inr ((overrefuses_at t common.0 w common.1 b).1 h)))
              go (inr h) = (common.0, common.1, no_refusal_refuses (row P common.0) (row Q w) h X m)

  -- where there is a violation, there is one after fewer events than there are pairs of nodes
  pub violation_near : (trace_only : Bool) (t : List ℕ) → ViolationIn trace_only P Q t → (s : List ℕ) × (length s < P.n * Q.n) × ViolationIn trace_only P Q s
  violation_near trace_only t h =
      let l = (violation_means trace_only t).0 h in
      let b = pair_bound op.graphed oq.graphed t l.in_r l.in_d in
      (b.0, b.1, (violation_means trace_only b.0).1 (record { in_r = rw b.2 l.in_r; in_d = rw b.3 l.in_d; ends = rw (b.2, b.3) l.ends }))

  -- the device refines the reference exactly if no violating pair is nearer than there are pairs
  pub refines_distance : (trace_only : Bool) → RefinesIn trace_only P Q ↔ (P.n * Q.n ≤ pair_distance (graph P) (graph Q) (violating trace_only P Q))
  refines_distance trace_only = (forth, back)
    where
      forth : RefinesIn trace_only P Q → P.n * Q.n ≤ pair_distance (graph P) (graph Q) (violating trace_only P Q)
      forth f = go (lt_or_ge (pair_distance (graph P) (graph Q) (violating trace_only P Q)) (P.n * Q.n))
        where
          go : (pair_distance (graph P) (graph Q) (violating trace_only P Q) < P.n * Q.n) ⊎ (P.n * Q.n ≤ pair_distance (graph P) (graph Q) (violating trace_only P Q))
              → P.n * Q.n ≤ pair_distance (graph P) (graph Q) (violating trace_only P Q)
          go (inl l) =
              let w = (pair_distance_means op.graphed oq.graphed (violating trace_only P Q)).0 l in
              absurd ((refines_means trace_only).0 f w.0 ((violation_means trace_only w.0).1 w.1))
          go (inr l) = l

      back : P.n * Q.n ≤ pair_distance (graph P) (graph Q) (violating trace_only P Q) → RefinesIn trace_only P Q
      back d = (refines_means trace_only).1 (λ t h. pair_distance_none op.graphed oq.graphed (violating trace_only P Q) d t ((violation_means trace_only t).0 h))

  -- the device refines the reference, or there is a violation
  pub refines_or_violation : (trace_only : Bool) → RefinesIn trace_only P Q ⊎ ((t : List ℕ) × ViolationIn trace_only P Q t)
  refines_or_violation trace_only = go (lt_or_ge (pair_distance (graph P) (graph Q) (violating trace_only P Q)) (P.n * Q.n))
    where
      go : (pair_distance (graph P) (graph Q) (violating trace_only P Q) < P.n * Q.n) ⊎ (P.n * Q.n ≤ pair_distance (graph P) (graph Q) (violating trace_only P Q))
          → RefinesIn trace_only P Q ⊎ ((t : List ℕ) × ViolationIn trace_only P Q t)
      go (inl l) = let w = (pair_distance_means op.graphed oq.graphed (violating trace_only P Q)).0 l in inr (w.0, (violation_means trace_only w.0).1 w.1)
      go (inr l) = inl ((refines_distance trace_only).1 l)

-- every sheet refines itself
pub refines_self : (trace_only : Bool) (s : Sheet) → RefinesIn trace_only s s
refines_self true s = λ t h. h
refines_self false s = λ t h. (h, λ X r. r)
