-- Nothing to believe: for the proofs of this crate. The nearest bad pair and the least trace to one depend on a test of
-- pairs only at the pairs of nodes.
use Rattle.std.specs.Prelude.{◌≡◌, ◌⊎◌, Bool, List, ℕ, ◌*◌, ◌≤◌, ◌<◌}
use Rattle.std.proofs.Common.{sym, ◌∙◌, inl, inr, arith}
use Rattle.base.proofs.Truth.{lt_or_ge}
use Rattle.walks.specs.Graph.{Graph, WellFormed, walk}
use Rattle.walks.specs.Pairs.{PairLeads, pair_distance, pair_trace}
use Rattle.walks.proofs.Pairs.{pair_distance_le, pair_trace_length, pair_distance≤, pair_trace_leads, pair_trace_least, pair_trace_unique}

-- two tests agree at the pairs of nodes of r and d
abbrev pub Agree : Graph → Graph → (ℕ → ℕ → Bool) → (ℕ → ℕ → Bool) → Type 0
Agree r d f g = (n m : ℕ) → n < r.size → m < d.size → f n m ≡ g n m

pub agree_back : (r d : Graph) (f g : ℕ → ℕ → Bool) → Agree r d f g → Agree r d g f
agree_back r d f g a n m h k = sym (a n m h k)

leads_as : (r d : Graph) (f g : ℕ → ℕ → Bool) → Agree r d f g → (t : List ℕ) → PairLeads r d f 0 0 t → PairLeads r d g 0 0 t
leads_as r d f g a t l = record { in_r = l.in_r; in_d = l.in_d; ends = sym (a (walk r 0 t) (walk d 0 t) l.in_r l.in_d) ∙ l.ends }

module _ {r d : Graph} (wr : WellFormed r) (wd : WellFormed d) where
  no_farther : (f g : ℕ → ℕ → Bool) → Agree r d f g → pair_distance r d g ≤ pair_distance r d f
  no_farther f g a = go (lt_or_ge (pair_distance r d f) (r.size * d.size))
    where
      go : (pair_distance r d f < r.size * d.size) ⊎ (r.size * d.size ≤ pair_distance r d f) → pair_distance r d g ≤ pair_distance r d f
      go (inl l) = omega (arith, pair_distance≤ wr wd g (pair_trace r d f) (leads_as r d f g a (pair_trace r d f) (pair_trace_leads wr wd f l)), pair_trace_length r d f)
      go (inr l) = omega (arith, pair_distance_le r d g)

  module _ (f g : ℕ → ℕ → Bool) (a : Agree r d f g) where
    pub distance_same : pair_distance r d f ≡ pair_distance r d g
    distance_same = omega (arith, no_farther f g a, no_farther g f (agree_back r d f g a))

    pub trace_same : pair_distance r d f < r.size * d.size → pair_trace r d f ≡ pair_trace r d g
    trace_same l =
        pair_trace_unique wr wd g (pair_trace r d f) (pair_trace_length r d f ∙ distance_same)
        (leads_as r d f g a (pair_trace r d f) (pair_trace_leads wr wd f l))
        (λ t e k. pair_trace_least wr wd f t (e ∙ sym distance_same) (leads_as r d g f (agree_back r d f g a) t k))
