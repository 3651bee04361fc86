-- Nothing to believe: laws of what specs/Reach.antt defines.
use Rattle.std.specs.Prelude.{◌≡◌, ◌⊎◌, ◌↔◌, true, ◌&&◌, List, [], ◌∷◌, ◌++◌, ℕ, zero, suc, ◌≤◌, ◌<◌, eqb, length}
use Rattle.std.proofs.Math.Path.{refl}
use Rattle.std.proofs.Common.{sym, ap, ◌∙◌, inl, inr, arith, eqb-true, eq-eqb}
use Rattle.std.proofs.lemmas.Bool.{false≢true}
use Rattle.base.proofs.Truth.{and_l, and_r, and_i, or_e, or_r, same}
use Rattle.base.specs.Range.{any}
use Rattle.base.proofs.Range.{any→, any←}
use Rattle.walks.specs.Graph.{Graph, WellFormed, walk, Trace, snoc-ind}
use Rattle.walks.proofs.Graph.{walk_snoc, trace_front, length_snoc}
use Rattle.walks.proofs.Bound.{bound}
use Rattle.walks.specs.Reach.{Reachable, ReachedBefore, ReachedIn, leads, nearer, reached}

pub leads→ : (g : Graph) (u v : ℕ) → leads g u v ≡ true → (i : ℕ) × (i < g.events) × (g.next u i ≡ v)
unfolding leads
leads→ g u v e = let w = any→ (λ i. eqb (g.next u i) v) g.events e in (w.0, w.1, eqb-true _ _ w.2)

pub leads← : {g : Graph} → WellFormed g → (u v i : ℕ) → v < g.size → g.next u i ≡ v → leads g u v ≡ true
unfolding leads
leads← {g} w u v i l e = any← (λ i. eqb (g.next u i) v) g.events i (w.labels u i (omega (arith, e))) (eq-eqb _ _ e)

-- one event more on a list that leads to u leads to a successor of u
further : (g : Graph) (u v : ℕ) (t : List ℕ) (i : ℕ) → walk g 0 t ≡ u → g.next u i ≡ v → walk g 0 (t ++ (i ∷ [])) ≡ v
further g u v t i p q = walk_snoc g 0 t i ∙ ap (λ (x : ℕ). g.next x i) p ∙ q

pub reached→ : (g : Graph) (j v : ℕ) → reached g j v ≡ true → ReachedIn g j v
unfolding reached walk
reached→ g zero v e = ([], refl, sym (eqb-true v 0 e))
reached→ g (suc j) v e =
    let u = any→ (λ u. leads g u v && reached g j u) g.size e in
    let i = leads→ g u.0 v (and_l (leads g u.0 v) (reached g j u.0) u.2) in
    let t = reached→ g j u.0 (and_r (leads g u.0 v) (reached g j u.0) u.2) in
    (t.0 ++ (i.0 ∷ []), length_snoc t.0 i.0 ∙ ap suc t.1, further g u.0 v t.0 i.0 t.2 i.2)

pub reached← : {g : Graph} → WellFormed g → (t : List ℕ) → Trace g t → reached g (length t) (walk g 0 t) ≡ true
reached← {g} w = snoc-ind (λ t. Trace g t → reached g (length t) (walk g 0 t) ≡ true) base step
  where
    base : Trace g [] → reached g 0 (walk g 0 []) ≡ true
    base a = unfold walk reached in refl

    step : (t : List ℕ) (i : ℕ) → (Trace g t → reached g (length t) (walk g 0 t) ≡ true)
        → Trace g (t ++ (i ∷ [])) → reached g (length (t ++ (i ∷ []))) (walk g 0 (t ++ (i ∷ []))) ≡ true
    step t i ih a = rw (length_snoc t i) (unfold reached in
        any← (λ u. leads g u (walk g 0 (t ++ (i ∷ []))) && reached g (length t) u) g.size (walk g 0 t) (trace_front w t (i ∷ []) a)
        (and_i (leads← w (walk g 0 t) (walk g 0 (t ++ (i ∷ []))) i a (sym (walk_snoc g 0 t i))) (ih (trace_front w t (i ∷ []) a))))

-- the test `reached` passes exactly if a list of j events leads to v
pub reached_means : {g : Graph} → WellFormed g → (j v : ℕ) → v < g.size → (reached g j v ≡ true) ↔ ReachedIn g j v
reached_means {g} w j v l = (reached→ g j v, back)
  where
    back : ReachedIn g j v → reached g j v ≡ true
    back (t, p, q) = rw (← p, ← q) (reached← w t (omega (arith, q)))

pub nearer→ : (g : Graph) (k v : ℕ) → nearer g k v ≡ true → ReachedBefore g k v
unfolding nearer walk
nearer→ g zero v e = absurd (false≢true e)
nearer→ g (suc k) v e = go (or_e (eqb v 0) (any (λ u. leads g u v && nearer g k u) g.size) e) (nearer→ g k)
  where
    go : (eqb v 0 ≡ true) ⊎ (any (λ u. leads g u v && nearer g k u) g.size ≡ true) → ((v : ℕ) → nearer g k v ≡ true → ReachedBefore g k v)
        → ReachedBefore g (suc k) v
    go (inl h) ih = ([], omega arith, sym (eqb-true v 0 h))
    go (inr h) ih =
        let u = any→ (λ u. leads g u v && nearer g k u) g.size h in
        let i = leads→ g u.0 v (and_l (leads g u.0 v) (nearer g k u.0) u.2) in
        let t = ih u.0 (and_r (leads g u.0 v) (nearer g k u.0) u.2) in
        (t.0 ++ (i.0 ∷ []), omega (arith, length_snoc t.0 i.0, t.1), further g u.0 v t.0 i.0 t.2 i.2)

pub nearer← : {g : Graph} → WellFormed g → (t : List ℕ) (k : ℕ) → length t < k → Trace g t → nearer g k (walk g 0 t) ≡ true
nearer← {g} w = snoc-ind (λ t. (k : ℕ) → length t < k → Trace g t → nearer g k (walk g 0 t) ≡ true) base step
  where
    base : (k : ℕ) → 0 < k → Trace g [] → nearer g k (walk g 0 []) ≡ true
    base zero l a = absurd (omega arith)
    base (suc k) l a = unfold walk nearer in refl

    step : (t : List ℕ) (i : ℕ) → ((k : ℕ) → length t < k → Trace g t → nearer g k (walk g 0 t) ≡ true)
        → (k : ℕ) → length (t ++ (i ∷ [])) < k → Trace g (t ++ (i ∷ [])) → nearer g k (walk g 0 (t ++ (i ∷ []))) ≡ true
    step t i ih zero l a = absurd (omega arith)
    step t i ih (suc k) l a = unfold nearer in
        or_r (eqb (walk g 0 (t ++ (i ∷ []))) 0)
        (any← (λ u. leads g u (walk g 0 (t ++ (i ∷ []))) && nearer g k u) g.size (walk g 0 t) (trace_front w t (i ∷ []) a)
        (and_i (leads← w (walk g 0 t) (walk g 0 (t ++ (i ∷ []))) i a (sym (walk_snoc g 0 t i)))
        (ih k (omega (arith, length_snoc t i)) (trace_front w t (i ∷ []) a))))

pub nearer_means : {g : Graph} → WellFormed g → (k v : ℕ) → v < g.size → (nearer g k v ≡ true) ↔ ReachedBefore g k v
nearer_means {g} w k v l = (nearer→ g k v, back)
  where
    back : ReachedBefore g k v → nearer g k v ≡ true
    back (t, p, q) = rw (← q) (nearer← w t k p (omega (arith, q)))

-- fewer events than there are nodes reach all that any number of events reaches
pub nearer_all : {g : Graph} → WellFormed g → (k v : ℕ) → g.size ≤ k → v < g.size → (nearer g k v ≡ true) ↔ Reachable g v
nearer_all {g} w k v m l = (forth, back)
  where
    forth : nearer g k v ≡ true → Reachable g v
    forth e = let t = nearer→ g k v e in (t.0, t.2)

    back : Reachable g v → nearer g k v ≡ true
    back (t, q) = let s = bound w t (omega (arith, q)) in (nearer_means w k v l).1 (s.0, omega (arith, s.1), s.2 ∙ q)

-- a node is reached in fewer than k events exactly if it is in exactly j, for some j below k
pub nearer_any : {g : Graph} → WellFormed g → (k v : ℕ) → v < g.size → nearer g k v ≡ any (λ j. reached g j v) k
nearer_any {g} w k v l = same (nearer g k v) (any (λ j. reached g j v) k) forth back
  where
    forth : nearer g k v ≡ true → any (λ j. reached g j v) k ≡ true
    forth e = let t = nearer→ g k v e in any← (λ j. reached g j v) k (length t.0) t.1 ((reached_means w (length t.0) v l).1 (t.0, refl, t.2))

    back : any (λ j. reached g j v) k ≡ true → nearer g k v ≡ true
    back e =
        let j = any→ (λ j. reached g j v) k e in
        let t = reached→ g j.0 v j.2 in
        (nearer_means w k v l).1 (t.0, omega (arith, t.1, j.1), t.2)
