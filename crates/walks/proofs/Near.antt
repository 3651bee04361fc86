-- Nothing to believe: laws of what specs/Near.antt defines.
use Rattle.std.specs.Prelude.{◌≡◌, ◌⊎◌, ◌↔◌, Bool, true, ◌&&◌, length}
use Rattle.std.proofs.Math.Path.{refl, ap}
use Rattle.std.proofs.Common.{sym, ◌∙◌, inl, inr, arith, eq-or-lt_of_le}
use mathlib.Core.List.{List, [], ◌∷◌}
use Prim.Native.Nat.{ℕ, zero, suc, ◌≤◌, ◌<◌}
use Rattle.std.proofs.Math.Dec.{ltb}
use borrow.Author.Tests.{ltb-true, lt-ltb}
use Rattle.base.proofs.Truth.{and_l, and_r, and_i}
use Rattle.base.proofs.Range.{any→, any←, first≤, first_at, first_le}
use Rattle.walks.specs.Graph.{Graph, WellFormed, walk}
use Rattle.walks.proofs.Graph.{ahead}
use Rattle.walks.proofs.Bound.{bound}
use Rattle.walks.specs.Order.{Lex}
use Rattle.walks.proofs.Order.{lex_antisym}
use Rattle.walks.specs.Near.{LeadsToBad, choice, distance, later, least_from, least_trace, meets_in}

module _ (g : Graph) (bad : ℕ → Bool) where
  -- the rest of a list that leads to a bad node does so from the next node
  pub leads_tail : (n i : ℕ) (t : List ℕ) → LeadsToBad g bad n (i ∷ t) → LeadsToBad g bad (g.next n i) t
  unfolding walk
  leads_tail n i t l = record { inside = l.inside; ends = l.ends }

  pub meets_in→ : (j n : ℕ) → n < g.size → meets_in g bad j n ≡ true → (t : List ℕ) × (length t ≡ j) × LeadsToBad g bad n t
  unfolding meets_in walk
  meets_in→ zero n h e = ([], refl, record { inside = h; ends = e })
  meets_in→ (suc j) n h e =
      let w = any→ (λ i. ltb (g.next n i) g.size && meets_in g bad j (g.next n i)) g.events e in
      let b = ltb-true _ _ (and_l (ltb (g.next n w.0) g.size) (meets_in g bad j (g.next n w.0)) w.2) in
      let v = meets_in→ j (g.next n w.0) b (and_r (ltb (g.next n w.0) g.size) (meets_in g bad j (g.next n w.0)) w.2) in
      (w.0 ∷ v.0, ap suc v.1, record { inside = v.2.inside; ends = v.2.ends })

  pub distance_le : distance g bad ≤ g.size
  unfolding distance
  distance_le = first≤ (λ j. meets_in g bad j 0) g.size

  pub distance_meets : distance g bad < g.size → meets_in g bad (distance g bad) 0 ≡ true
  unfolding distance
  distance_meets h = first_at (λ j. meets_in g bad j 0) g.size h

  -- a distance below the number of nodes is the length of a list that leads to a bad node
  pub distance→ : WellFormed g → distance g bad < g.size → (t : List ℕ) × (length t ≡ (distance g bad)) × LeadsToBad g bad 0 t
  distance→ w h = meets_in→ (distance g bad) 0 w.start (distance_meets h)

  pub least_from_length : (j n : ℕ) → length (least_from g bad j n) ≡ j
  unfolding least_from
  least_from_length zero n = refl
  least_from_length (suc j) n = ap suc (least_from_length j (g.next n (choice g bad j n)))

  -- where some event leads from n to a node from which a bad node is reached in exactly j events, the choice is one
  pub choice_later : (j n : ℕ) → meets_in g bad (suc j) n ≡ true → later g bad j n (choice g bad j n) ≡ true
  unfolding choice meets_in later
  choice_later j n e =
      let w = any→ (later g bad j n) g.events e in
      first_at (later g bad j n) g.events (omega (arith, first_le (later g bad j n) g.events w.0 w.2, w.1))

  pub least_from_leads : (j n : ℕ) → n < g.size → meets_in g bad j n ≡ true → LeadsToBad g bad n (least_from g bad j n)
  unfolding least_from walk later meets_in
  least_from_leads zero n h e = record { inside = h; ends = e }
  least_from_leads (suc j) n h e =
      let c = choice_later j n e in
      let b = ltb-true _ _ (and_l (ltb (g.next n (choice g bad j n)) g.size) (meets_in g bad j (g.next n (choice g bad j n))) c) in
      let v = least_from_leads j (g.next n (choice g bad j n)) b (and_r (ltb (g.next n (choice g bad j n)) g.size) (meets_in g bad j (g.next n (choice g bad j n))) c) in
      record { inside = v.inside; ends = v.ends }

  pub least_trace_length : length (least_trace g bad) ≡ (distance g bad)
  unfolding least_trace
  least_trace_length = least_from_length (distance g bad) 0

module _ (g : Graph) (bad : ℕ → Bool) (w : WellFormed g) where
  pub meets_in← : (n : ℕ) (t : List ℕ) → LeadsToBad g bad n t → meets_in g bad (length t) n ≡ true
  unfolding meets_in walk
  meets_in← n [] l = l.ends
  meets_in← n (i ∷ t) l =
      let a : g.next n i < g.size = ahead w (g.next n i) t l.inside in
      any← (λ i. ltb (g.next n i) g.size && meets_in g bad (length t) (g.next n i)) g.events i (w.labels n i a)
      (and_i (lt-ltb _ _ a) (meets_in← (g.next n i) t (leads_tail g bad n i t l)))

  pub meets_in_means : (j n : ℕ) → n < g.size → (meets_in g bad j n ≡ true) ↔ ((t : List ℕ) × (length t ≡ j) × LeadsToBad g bad n t)
  meets_in_means j n h = (meets_in→ g bad j n h, back)
    where
      back : (t : List ℕ) × (length t ≡ j) × LeadsToBad g bad n t → meets_in g bad j n ≡ true
      back (t, p, l) = rw (← p) (meets_in← n t l)

  -- no list that leads to a bad node is shorter than the distance
  pub distance≤ : (t : List ℕ) → LeadsToBad g bad 0 t → distance g bad ≤ length t
  unfolding distance
  distance≤ t l = first_le (λ j. meets_in g bad j 0) g.size (length t) (meets_in← 0 t l)

  -- a bad node that any list reaches is nearer than the number of nodes
  pub distance< : (t : List ℕ) → LeadsToBad g bad 0 t → distance g bad < g.size
  distance< t l =
      let s = bound w t l.inside in
      omega (arith, s.1, distance≤ s.0 (record { inside = rw s.2 l.inside; ends = rw s.2 l.ends }))

  -- the distance is below the number of nodes exactly if some list, however long, leads to a bad node
  pub distance_means : (distance g bad < g.size) ↔ ((t : List ℕ) × LeadsToBad g bad 0 t)
  distance_means = (forth, λ l. distance< l.0 l.1)
    where
      forth : distance g bad < g.size → (t : List ℕ) × LeadsToBad g bad 0 t
      forth h = let v = distance→ g bad w h in (v.0, v.2)

  -- the event chosen at n is no greater than the first of any list that leads from n to a bad node in as many events
  pub choice_le : (n i : ℕ) (t : List ℕ) → LeadsToBad g bad n (i ∷ t) → choice g bad (length t) n ≤ i
  unfolding choice later walk
  choice_le n i t l = first_le (later g bad (length t) n) g.events i
      (and_i (lt-ltb _ _ (ahead w (g.next n i) t l.inside)) (meets_in← (g.next n i) t (leads_tail g bad n i t l)))

  -- no list to a bad node comes before the least one of its length
  pub least_from_least : (n : ℕ) (t : List ℕ) → LeadsToBad g bad n t → Lex (least_from g bad (length t) n) t
  unfolding least_from
  least_from_least n [] l = tt
  least_from_least n (i ∷ t) l = go (eq-or-lt_of_le (choice_le n i t l)) (λ (e : c ≡ i). rw e (least_from_least (g.next n i) t (leads_tail g bad n i t l)))
    where
      c : ℕ
      c = choice g bad (length t) n

      go : (c ≡ i) ⊎ (c < i) → (c ≡ i → Lex (least_from g bad (length t) (g.next n c)) t)
          → (c < i) ⊎ ((c ≡ i) × Lex (least_from g bad (length t) (g.next n c)) t)
      go (inl h) k = inr (h, k h)
      go (inr h) k = inl h

  -- where a bad node is reached at all, the least trace leads to one
  pub least_trace_leads : distance g bad < g.size → LeadsToBad g bad 0 (least_trace g bad)
  unfolding least_trace
  least_trace_leads h = least_from_leads g bad (distance g bad) 0 w.start (distance_meets g bad h)

  -- the least trace comes first in event order among all lists of its length that lead to a bad node
  pub least_trace_least : (t : List ℕ) → length t ≡ distance g bad → LeadsToBad g bad 0 t → Lex (least_trace g bad) t
  unfolding least_trace
  least_trace_least t e l = rw (← e) (least_from_least 0 t l)

  -- the least trace is the only list that comes first among those of its length that lead to a bad node
  pub least_trace_unique : (s : List ℕ) → length s ≡ distance g bad → LeadsToBad g bad 0 s
      → ((t : List ℕ) → length t ≡ distance g bad → LeadsToBad g bad 0 t → Lex s t) → s ≡ least_trace g bad
  least_trace_unique s e l h =
      lex_antisym s (least_trace g bad) (e ∙ sym (least_trace_length g bad))
      (h (least_trace g bad) (least_trace_length g bad) (least_trace_leads (distance< s l))) (least_trace_least s e l)
