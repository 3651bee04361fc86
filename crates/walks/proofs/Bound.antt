-- Nothing to believe: a law. Whatever a walk reaches, a walk shorter than the number of nodes reaches.
use Rattle.std.specs.Prelude.{◌≡◌, refl, ◌⊎◌, List, ◌++◌, ℕ, zero, suc, ◌≤◌, ◌<◌, length, take, drop}
use Rattle.std.proofs.Common.{sym, ap, ◌∙◌, inl, inr, arith, take-append-drop, length-append, length-take, length-drop}
use Rattle.base.proofs.Truth.{lt_or_ge}
use Rattle.base.specs.Pigeon.{Twice}
use Rattle.base.proofs.Pigeon.{pigeonhole}
use Rattle.walks.specs.Graph.{Graph, WellFormed, walk, Trace}
use Rattle.walks.proofs.Graph.{walk_append, trace_front}

-- a shorter walk to the same node, where t has as many events as there are nodes: t comes twice to one node
cut : {g : Graph} → WellFormed g → (t : List ℕ) → Trace g t → g.size ≤ length t → (s : List ℕ) × (length s < length t) × (walk g 0 s ≡ walk g 0 t)
cut {g} w t h l = make (pigeonhole g.size at (λ i k. trace_front w (take i t) (drop i t) (rw take-append-drop h)))
  where
    at : ℕ → ℕ
    at i = walk g 0 (take i t)

    make : Twice at g.size → (s : List ℕ) × (length s < length t) × (walk g 0 s ≡ walk g 0 t)
    make (i, j, lt, le, e) = (take i t ++ drop j t, short, same)
      where
        short : length (take i t ++ drop j t) < length t
        short = rw (length-append, length-take, length-drop) (omega arith)

        same : walk g 0 (take i t ++ drop j t) ≡ walk g 0 t
        same = walk_append g 0 (take i t) (drop j t) ∙ ap (λ (x : ℕ). walk g x (drop j t)) e
            ∙ sym (walk_append g 0 (take j t) (drop j t)) ∙ ap (walk g 0) (take-append-drop j t)

pub bound : {g : Graph} → WellFormed g → (t : List ℕ) → Trace g t → (s : List ℕ) × (length s < g.size) × (walk g 0 s ≡ walk g 0 t)
bound {g} w t h = go (length t) t (omega arith) h
  where
    go : (f : ℕ) (t : List ℕ) → length t ≤ f → Trace g t → (s : List ℕ) × (length s < g.size) × (walk g 0 s ≡ walk g 0 t)
    go zero t l h = pick (lt_or_ge (length t) g.size)
      where
        pick : (length t < g.size) ⊎ (g.size ≤ length t) → (s : List ℕ) × (length s < g.size) × (walk g 0 s ≡ walk g 0 t)
        pick (inl k) = (t, k, refl)
        pick (inr k) = let v = cut w t h k in absurd (omega (arith, v.1))
    go (suc f) t l h = pick (lt_or_ge (length t) g.size) (go f)
      where
        pick : (length t < g.size) ⊎ (g.size ≤ length t)
            → ((t : List ℕ) → length t ≤ f → Trace g t → (s : List ℕ) × (length s < g.size) × (walk g 0 s ≡ walk g 0 t))
            → (s : List ℕ) × (length s < g.size) × (walk g 0 s ≡ walk g 0 t)
        pick (inl k) ih = (t, k, refl)
        pick (inr k) ih =
            let c = cut w t h k in
            let v = ih c.0 (omega (arith, c.1)) (rw c.2 h) in
            (v.0, v.1, v.2 ∙ c.2)
