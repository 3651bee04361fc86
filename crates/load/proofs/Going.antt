-- The loop of the walk: after j rounds the first j places hold the walk's first events, and what the tables lead along
-- from the node and the state reached is the rest of it.
use mathlib.Core.Path.{◌≡◌, refl, sym, ap, ◌∙◌}
use mathlib.Core.Logic.{◌≢◌}
use mathlib.Core.List.{List, [], ◌∷◌, ◌++◌, append-nil}
use Prim.Native.Nat.{ℕ, suc, ◌+◌, ◌-◌, ◌*◌, ◌%◌, ◌≤◌, ◌<◌}
use native.Mathlib.Nat.{mod-lt, sub-zero}
use native.Mathlib.Numerals.{add-one}
use native.Mathlib.Omega.{arith}
use lib.ListN.{length, get_or, take, drop, set, length-set, take-append-drop}
use lib.Seq.{length-take-le, take-suc-set, drop-set-lt, drop-drop, append_snoc}
use borrow.Author.Tests.{eq-eqb, ne_eqb}
use Rattle.base.specs.Front.{at_front}
use Rattle.load_spec.specs.Xorshift.{next_state}
use Rattle.load.specs.Shapes.{Leads, table_drawn, table_walk}

-- where the loop stands after j rounds, at node v with the state x
pub record Going (lists counts next : List ℕ) (seed wish : ℕ) (out₀ out : List ℕ) (x v j : ℕ) : Type 0 where
  pub tables : Leads lists counts next
  pub node : v < tables.nodes
  pub upto : j ≤ wish
  pub long : length out ≡ length out₀
  pub walked : take j out ++ table_walk lists counts next (wish - j) v x ≡ table_walk lists counts next wish 0 seed
  pub rest : drop j out ≡ drop j out₀

pub starts : {lists counts next : List ℕ} {seed wish : ℕ} {out : List ℕ} → Leads lists counts next → Going lists counts next seed wish out out seed 0 0
starts h = record { tables = h; node = h.some; upto = omega arith; long = refl; walked = rw sub-zero; rest = refl }

module _ {lists counts next : List ℕ} {seed wish : ℕ} {out₀ out : List ℕ} {x v j : ℕ} (g : Going lists counts next seed wish out₀ out x v j) where
  -- where the reads and the store of a round are
  pub node_low : v < 32
  node_low = omega (arith, g.node, g.tables.nodes_few)

  pub event_place : (y : ℕ) → get_or counts v 0 ≢ 0 → v * 12 + y % get_or counts v 0 < 384
  event_place y n = omega (arith, node_low, g.tables.counts_few v g.node, mod-lt y (some n))
    where
      some : get_or counts v 0 ≢ 0 → 0 < get_or counts v 0
      some n = omega (arith, n)

  pub event_low : (y : ℕ) → get_or counts v 0 ≢ 0 → get_or lists (v * 12 + y % get_or counts v 0) 0 < 12
  event_low y n = g.tables.events_low v (y % get_or counts v 0) g.node (mod-lt y (omega (arith, n)))

  -- one round
  pub goes_on : {y event u : ℕ} → j < wish → j < length out → get_or counts v 0 ≢ 0 → y ≡ next_state x → event ≡ get_or lists (v * 12 + y % get_or counts v 0) 0
      → u ≡ get_or next (v * 12 + event) 0 → Going lists counts next seed wish out₀ (set out j event) y u (j + 1)
  unfolding table_walk table_drawn
  goes_on {y} {event} {u} l room n p q r = record {
    tables = g.tables;
    node = rw (r, q) (g.tables.inside v (y % get_or counts v 0) g.node (mod-lt y (omega (arith, n))));
    upto = omega arith;
    long = length-set out j event ∙ g.long;
    walked = walked';
    rest = rest';
  }
    where
      left : wish - j ≡ suc (wish - (j + 1))
      left = omega arith

      later : table_walk lists counts next (suc (wish - (j + 1))) v x ≡ event ∷ table_walk lists counts next (wish - (j + 1)) u y
      later = rw (ne_eqb (get_or counts v 0) 0 n, ← p, ← q, ← r)

      walked' : take (j + 1) (set out j event) ++ table_walk lists counts next (wish - (j + 1)) u y ≡ table_walk lists counts next wish 0 seed
      walked' =
          ap (λ (k : ℕ). take k (set out j event) ++ table_walk lists counts next (wish - (j + 1)) u y) (add-one j)
          ∙ ap (λ (t : List ℕ). t ++ table_walk lists counts next (wish - (j + 1)) u y) (take-suc-set out j event room)
          ∙ append_snoc (take j out) event (table_walk lists counts next (wish - (j + 1)) u y)
          ∙ ap (λ (t : List ℕ). take j out ++ t) (sym later)
          ∙ ap (λ (k : ℕ). take j out ++ table_walk lists counts next k v x) (sym left)
          ∙ g.walked

      rest' : drop (j + 1) (set out j event) ≡ drop (j + 1) out₀
      rest' = drop-set-lt (j + 1) out j event (omega arith) ∙ sym (drop-drop 1 j out) ∙ ap (λ (t : List ℕ). drop 1 t) g.rest ∙ drop-drop 1 j out₀

  -- the two ways out, with the whole walk: the node has no initials, or the wished length is reached
  whole : table_walk lists counts next (wish - j) v x ≡ [] → wish ≤ length out
      → (j ≡ length (table_walk lists counts next wish 0 seed)) × (out ≡ at_front out₀ (table_walk lists counts next wish 0 seed))
  whole e l =
      let w : take j out ≡ table_walk lists counts next wish 0 seed = sym (append-nil (take j out)) ∙ ap (λ (t : List ℕ). take j out ++ t) (sym e) ∙ g.walked in
      let n : j ≡ length (table_walk lists counts next wish 0 seed) = sym (length-take-le j out (omega (arith, l, g.upto))) ∙ ap length w in
      (n, sym (take-append-drop j out) ∙ rw (w, g.rest, ← n))

  pub stops : j < wish → get_or counts v 0 ≡ 0 → wish ≤ length out
      → (j ≡ length (table_walk lists counts next wish 0 seed)) × (out ≡ at_front out₀ (table_walk lists counts next wish 0 seed))
  unfolding table_walk
  stops l z h = whole (let left : wish - j ≡ suc (wish - (j + 1)) = omega arith in rw (left, eq-eqb (get_or counts v 0) 0 z)) h

  pub ends : wish ≤ j → wish ≤ length out
      → (j ≡ length (table_walk lists counts next wish 0 seed)) × (out ≡ at_front out₀ (table_walk lists counts next wish 0 seed))
  unfolding table_walk
  ends l h = whole (let left : wish - j ≡ 0 = omega arith in rw left) h
