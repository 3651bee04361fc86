-- Nothing to believe: laws of what specs/Graph.antt defines.
use Rattle.std.specs.Prelude.{◌≡◌, refl, ◌⊎◌, List, [], ◌∷◌, ◌++◌, ℕ, suc, ◌≤◌, ◌<◌, length}
use Rattle.std.proofs.Common.{◌∙◌, inl, inr, arith, length-append}
use Rattle.base.proofs.Truth.{lt_or_ge}
use Rattle.walks.specs.Graph.{Below, Graph, Trace, WellFormed, walk}

pub walk_append : (g : Graph) (n : ℕ) (s t : List ℕ) → walk g n (s ++ t) ≡ walk g (walk g n s) t
unfolding walk
walk_append g n [] t = refl
walk_append g n (i ∷ s) t = walk_append g (g.next n i) s t

pub walk_snoc : (g : Graph) (n : ℕ) (t : List ℕ) (i : ℕ) → walk g n (t ++ (i ∷ [])) ≡ g.next (walk g n t) i
unfolding walk
walk_snoc g n t i = walk_append g n t (i ∷ [])

-- no walk leads back from "none"
pub walk_none : {g : Graph} → WellFormed g → (n : ℕ) (t : List ℕ) → g.size ≤ n → g.size ≤ walk g n t
unfolding walk
walk_none w n [] h = h
walk_none {g = g} w n (i ∷ t) h = walk_none w (g.next n i) t (w.none n i h)

-- the front of a walk that stays inside stays inside
pub walk_front : {g : Graph} → WellFormed g → (n : ℕ) (s t : List ℕ) → walk g n (s ++ t) < g.size → walk g n s < g.size
walk_front {g = g} w n s t h = pick (lt_or_ge (walk g n s) g.size)
  where
    pick : (walk g n s < g.size) ⊎ (g.size ≤ walk g n s) → walk g n s < g.size
    pick (inl l) = l
    pick (inr l) = absurd (omega (arith, walk_append g n s t, walk_none w (walk g n s) t l))

-- the front of a trace is a trace
pub trace_front : {g : Graph} → WellFormed g → (s t : List ℕ) → Trace g (s ++ t) → Trace g s
trace_front w s t h = walk_front w 0 s t h

-- a walk that ends at a node began at one
pub ahead : {g : Graph} → WellFormed g → (n : ℕ) (t : List ℕ) → walk g n t < g.size → n < g.size
unfolding walk
ahead w n t h = walk_front w n [] t h

-- a walk that ends at a node has events below E only
pub walk_below : {g : Graph} → WellFormed g → (n : ℕ) (t : List ℕ) → walk g n t < g.size → Below g.events t
unfolding walk
walk_below w n [] h = tt
walk_below {g = g} w n (i ∷ t) h = (w.labels n i (ahead w (g.next n i) t h), walk_below w (g.next n i) t h)

pub trace_below : {g : Graph} → WellFormed g → (t : List ℕ) → Trace g t → Below g.events t
trace_below w t h = walk_below w 0 t h

pub length_snoc : (t : List ℕ) (i : ℕ) → length (t ++ (i ∷ [])) ≡ suc (length t)
length_snoc t i = length-append t (i ∷ []) ∙ omega arith
