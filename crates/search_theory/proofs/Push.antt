-- Nothing to believe: laws of what specs/Push.antt defines. What holds of the queue stays true: when an event leads to a
-- node without an entry, which becomes the last entry; when an event leads to no such node; when all events of an entry
-- have been tried; and at the start.
use Rattle.std.specs.Prelude.{◌≡◌, refl, ◌≢◌, ◌⊎◌, ℕ, suc, ◌+◌, ◌≤◌, ◌<◌}
use Rattle.std.proofs.Common.{sym, ap, ◌∙◌, ⊎_elim, arith, eq-or-lt_of_le}
use Rattle.std.proofs.Math.Decide.{ℕ_discrete}
use Rattle.walks.specs.Graph.{Graph}
use Rattle.search_theory.specs.Queue.{link_of, Made, Tried, Queue}
use Rattle.search_theory.specs.Push.{Kept, Pushed}

-- where nothing is done, all that is in the queue stays
pub kept_refl : (n : ℕ) (N K D : ℕ → ℕ) (tail : ℕ) → Kept n N K D N K D tail tail
kept_refl n N K D tail = record { grows = omega arith; nodes = λ x h. refl; links = λ u h p. refl; dists = λ u h p. refl }

-- what one step and then another leave as it is, both together do
pub kept_trans : (n : ℕ) (N K D N₁ K₁ D₁ N₂ K₂ D₂ : ℕ → ℕ) (t t₁ t₂ : ℕ)
    → Kept n N K D N₁ K₁ D₁ t t₁ → Kept n N₁ K₁ D₁ N₂ K₂ D₂ t₁ t₂ → Kept n N K D N₂ K₂ D₂ t t₂
kept_trans n N K D N₁ K₁ D₁ N₂ K₂ D₂ t t₁ t₂ a b = record {
  grows = omega (arith, a.grows, b.grows);
  nodes = λ x h. b.nodes x (omega (arith, a.grows)) ∙ a.nodes x h;
  links = λ u h p. b.links u h (rw (a.links u h p) p) ∙ a.links u h p;
  dists = λ u h p. b.dists u h (rw (a.links u h p) p) ∙ a.dists u h p;
}

-- a new entry leaves the others
pub pushed_kept : (n : ℕ) (N K D N' K' D' : ℕ → ℕ) (tail v m d : ℕ)
    → Pushed n N K D N' K' D' tail v m d → Kept n N K D N' K' D' tail (suc tail)
pushed_kept n N K D N' K' D' tail v m d a = record {
  grows = omega arith;
  nodes = a.old;
  links = λ u h p. a.links u h (other u p);
  dists = λ u h p. a.dists u h (other u p);
}
  where
    other : (u : ℕ) → 0 < K u → u ≢ v
    other u p e = omega (arith, ap K e, a.was)

-- an event that was tried stays tried
tried_kept : (g : Graph) (N K D N' K' D' : ℕ → ℕ) (tail tail' x i : ℕ)
    → Kept g.size N K D N' K' D' tail tail' → x < tail → Tried g N K x i → Tried g N' K' x i
tried_kept g N K D N' K' D' tail tail' x i k l h =
    rw (k.nodes x l) (λ b. let r = h b in rw (k.links (g.next (N x) i) b r.0) r)

module _ (g : Graph) (N K D N' K' D' : ℕ → ℕ) (h k tail v : ℕ) (q : Queue g N K D h k tail) (ht : h < tail) (ke : k < g.events) (vn : v < g.size)
    (next : g.next (N h) k ≡ v) (a : Pushed g.size N K D N' K' D' tail v (link_of h k) (D (N h) + 1)) where
  -- the entries that there were are left
  kept : Kept g.size N K D N' K' D' tail (suc tail)
  kept = pushed_kept g.size N K D N' K' D' tail v (link_of h k) (D (N h) + 1) a

  -- the links of the entries that there were
  old_link : (x : ℕ) → x < tail → K' (N' x) ≡ K (N x)
  old_link x l = rw (a.old x l) (kept.links (N x) (q.entry x l).0 (q.entry x l).1)

  -- the distances of the entries that there were
  old_dist : (x : ℕ) → x < tail → D' (N' x) ≡ D (N x)
  old_dist x l = rw (a.old x l) (kept.dists (N x) (q.entry x l).0 (q.entry x l).1)

  -- the link of the new entry
  new_link : K' (N' tail) ≡ link_of h k
  new_link = rw a.new a.link

  -- the new entry was made by event k of entry h
  new_made : Made g N' K' D' tail h k
  new_made = record {
    before = ht;
    event = ke;
    edge = rw (a.new, a.old h ht) next;
    link = new_link;
    depth = rw a.new (a.dist ∙ ap (λ (y : ℕ). y + 1) (sym (old_dist h ht)));
  }

  -- how the entries that there were were made
  old_made : (x j i : ℕ) → x < tail → Made g N K D x j i → Made g N' K' D' x j i
  old_made x j i l m =
      let b : j < tail = omega (arith, m.before) in
      record {
        before = m.before;
        event = m.event;
        edge = rw (a.old x l, a.old j b) m.edge;
        link = old_link x l ∙ m.link;
        depth = omega (arith, old_dist x l, old_dist j b, m.depth);
      }

  -- an entry is the last one, or an earlier one
  split : (x : ℕ) → x < suc tail → (x ≡ tail) ⊎ (x < tail)
  split x l = eq-or-lt_of_le (omega arith)

  -- event k of entry h has been tried
  new_tried : Tried g N' K' h k
  new_tried = rw (a.old h ht) (λ b. rw (next, a.link) (omega arith, omega arith))

  -- what holds of the queue holds after an event that leads to a node without an entry
  pub queue_push : Queue g N' K' D' h (suc k) (suc tail)
  queue_push = record {
    few = q.few;
    some = omega arith;
    root = (
      a.old 0 q.some ∙ q.root.0,
      kept.links 0 (omega arith) (omega (arith, q.root.1)) ∙ q.root.1,
      kept.dists 0 (omega arith) (omega (arith, q.root.1)) ∙ q.root.2,
    );
    entry = λ x l. ⊎_elim
        (λ (e : x ≡ tail). rw e (rw a.new vn, omega (arith, new_link)))
        (λ (b : x < tail). (rw (a.old x b) (q.entry x b).0, omega (arith, old_link x b, (q.entry x b).1)))
        (split x l);
    placed = placed';
    made = λ x p l. ⊎_elim
        (λ (e : x ≡ tail). (h, k, rw e new_made))
        (λ (b : x < tail). let m = q.made x p b in (m.0, m.1, old_made x m.0 m.1 b m.2))
        (split x l);
    near = λ x l. ⊎_elim
        (λ (e : x ≡ tail). rw e (omega (arith, new_made.depth, old_dist h ht, q.near h ht)))
        (λ (b : x < tail). omega (arith, old_dist x b, q.near x b))
        (split x l);
    rising = λ x y o l. ⊎_elim
        (λ (e : y ≡ tail). rw e (omega (arith, new_link, old_link x (omega arith), q.bound x (omega arith))))
        (λ (b : y < tail). omega (arith, old_link x (omega arith), old_link y b, q.rising x y o b))
        (split y l);
    bound = λ x l. ⊎_elim
        (λ (e : x ≡ tail). rw e (omega (arith, new_link)))
        (λ (b : x < tail). omega (arith, old_link x b, q.bound x b))
        (split x l);
    done = λ x l i ie. tried_kept g N K D N' K' D' tail (suc tail) x i kept (omega arith) (q.done x l i ie);
    part = λ i l. ⊎_elim
        (λ (e : i ≡ k). rw e new_tried)
        (λ (b : i < k). tried_kept g N K D N' K' D' tail (suc tail) h i kept ht (q.part i b))
        (eq-or-lt_of_le (omega arith));
  }
    where
      placed' : (u : ℕ) → u < g.size → 0 < K' u → (x : ℕ) × (x < suc tail) × (N' x ≡ u)
      placed' u l p = elim (ℕ_discrete u v) [
        | yes e ↦ (tail, omega arith, (a.new ∙ sym e))
        | no ne ↦
            let r = q.placed u l (rw (a.links u l ne) at p) in
            (r.0, omega (arith, r.1), (a.old r.0 r.1 ∙ r.2))
      ]

module _ (g : Graph) (N K D : ℕ → ℕ) (h k tail : ℕ) (q : Queue g N K D h k tail) where
  -- what holds of the queue holds after an event that leads to no node, or to one that has an entry
  pub queue_skip : (g.next (N h) k < g.size → 0 < K (g.next (N h) k)) → Queue g N K D h (suc k) tail
  queue_skip s = record {
    few = q.few;
    some = q.some;
    root = q.root;
    entry = q.entry;
    placed = q.placed;
    made = q.made;
    near = q.near;
    rising = q.rising;
    bound = λ x l. omega (arith, q.bound x l);
    done = q.done;
    part = λ i l. ⊎_elim (λ (e : i ≡ k). rw e tried) (λ (b : i < k). q.part i b) (eq-or-lt_of_le (omega arith));
  }
    where
      tried : Tried g N K h k
      tried b =
          let r = q.placed (g.next (N h) k) b (s b) in
          let c : K (g.next (N h) k) < link_of h k = rw r.2 at (q.bound r.0 r.1) in
          (s b, omega arith)

-- what holds of the queue holds when all events of the entry have been tried
pub queue_next : (g : Graph) (N K D : ℕ → ℕ) (h tail : ℕ) → Queue g N K D h g.events tail → Queue g N K D (h + 1) 0 tail
queue_next g N K D h tail q = record {
  few = q.few;
  some = q.some;
  root = q.root;
  entry = q.entry;
  placed = q.placed;
  made = q.made;
  near = q.near;
  rising = q.rising;
  bound = λ x l. omega (arith, q.bound x l, q.few);
  done = λ x l. ⊎_elim (λ (e : x ≡ h). rw e q.part) (λ (b : x < h). q.done x b) (eq-or-lt_of_le (omega arith));
  part = λ i l. absurd (omega arith);
}

-- what holds of the queue holds of the start alone, pushed where no node had an entry
pub queue_start : (g : Graph) (N K D N' K' D' : ℕ → ℕ) → g.events ≤ 12 → 0 < g.size → ((u : ℕ) → u < g.size → K u ≡ 0)
    → Pushed g.size N K D N' K' D' 0 0 1 0 → Queue g N' K' D' 0 0 1
queue_start g N K D N' K' D' few pos clean a = record {
  few = few;
  some = omega arith;
  root = (a.new, a.link, a.dist);
  entry = λ x l. let e : x ≡ 0 = omega arith in rw (e, a.new) (pos, rw a.link (omega arith));
  placed = placed';
  made = λ x p l. absurd (omega arith);
  near = λ x l. let e : x ≡ 0 = omega arith in rw (e, a.new, a.dist) (omega arith);
  rising = λ x y o l. absurd (omega arith);
  bound = λ x l. let e : x ≡ 0 = omega arith in rw (e, a.new, a.link) (omega arith);
  done = λ x l. absurd (omega arith);
  part = λ i l. absurd (omega arith);
}
  where
    placed' : (u : ℕ) → u < g.size → 0 < K' u → (x : ℕ) × (x < 1) × (N' x ≡ u)
    placed' u l p = elim (ℕ_discrete u 0) [
      | yes e ↦ (0, omega arith, (a.new ∙ sym e))
      | no ne ↦ absurd (omega (arith, clean u l, a.links u l ne, p))
    ]
