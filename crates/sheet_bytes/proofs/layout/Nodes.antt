-- Where the nodes begin, and the walk over them, a node at a time: what is left to do gives the whole answer.
use mathlib.Core.Path.{◌≡◌}
use mathlib.Core.Bool.{Bool, true, false, not}
use mathlib.Core.List.{List}
use Prim.Native.Nat.{ℕ, suc, ◌+◌, ◌-◌, ◌*◌, ◌≤◌, ◌<◌}
use native.Mathlib.Nat.{sub-zero}
use native.Mathlib.Omega.{arith}
use lib.ListN.{length}
use borrow.Author.Tests.{lt-ltb, le-ltb, le-leb, lt-leb, eq-eqb, ne_eqb, not-true, not-false}
use Rattle.sheet_spec.specs.Rules.{count_ok}
use Rattle.sheet_spec.specs.Spelling.{byte, nodes_at, next_at}
use Rattle.sheet_spec.specs.Refusals.{layout_fault}

-- where the nodes begin: v is the version, x and y are E
module _ (b : List ℕ) {v : ℕ} (p : v ≡ byte b 4) where
  pub after_codes : {x y : ℕ} → v ≡ 2 → x ≡ byte b 5 → y ≡ x → 7 + y * 2 ≡ nodes_at b
  unfolding nodes_at
  after_codes h q r = rw (← p, eq-eqb v 2 h, r, q)

  pub after_head_lem : (v ≡ 2 → ⊥) → 7 ≡ nodes_at b
  unfolding nodes_at
  after_head_lem h = rw (← p, ne_eqb v 2 h)

-- v of n nodes are passed, the next begins at a place, and the nodes from there on give the answer r
pub record Walking (b : List ℕ) (e n r v at : ℕ) : Type 0 where
  pub below : v ≤ n
  pub near : at ≤ 517 + v * 766
  pub rest : layout_fault b e (n - v) at ≡ r

pub sets_out : {b : List ℕ} {e n at : ℕ} → (at ≡ nodes_at b) × (at ≤ 517) → Walking b e n (layout_fault b e n (nodes_at b)) 0 at
sets_out (p, h) = record { below = omega arith; near = omega arith; rest = rw (sub-zero, p) }

module _ {b : List ℕ} {e n r v at : ℕ} (w : Walking b e n r v at) where
  -- the facts of each way out: x is the C of the node, t its test, to the place after the node
  module _ (h : v < n) where
    left : n - v ≡ suc (n - (v + 1))
    left = omega arith

    pub cut_short : length b ≤ at + e → 4 ≡ r
    unfolding layout_fault
    cut_short l = rw (left, le-ltb (at + e) (length b) l) at w.rest

    module _ {x : ℕ} {t : Bool} (l : at + e < length b) (p : x ≡ byte b (at + e)) (q : t ≡ count_ok x) where
      pub count_wrong : not t ≡ true → 5 ≡ r
      unfolding layout_fault
      count_wrong m = rw (left, lt-ltb (at + e) (length b) l, ← p, ← q, not-true t m) at w.rest

      module _ {to : ℕ} (m : not t ≡ false) (z : (to ≡ next_at b e at) × (to ≤ at + 766)) where
        pub cut_inside : length b < to → 4 ≡ r
        unfolding layout_fault
        cut_inside k = rw (left, lt-ltb (at + e) (length b) l, ← p, ← q, not-false t m, ← z.0, lt-leb to (length b) k) at w.rest

        pub walks_on : to ≤ length b → Walking b e n r (v + 1) to
        unfolding layout_fault
        walks_on k = record {
          below = omega arith;
          near = omega arith;
          rest = rw (left, lt-ltb (at + e) (length b) l, ← p, ← q, not-false t m, ← z.0, le-leb to (length b) k) at w.rest;
        }

  -- the facts of the way out after the last node
  module _ (h : n ≤ v) where
    none_left : n - v ≡ 0
    none_left = omega arith

    pub more_behind : (at ≡ length b → ⊥) → 4 ≡ r
    unfolding layout_fault
    more_behind q = rw (none_left, ne_eqb at (length b) q) at w.rest

    pub all_passed : at ≡ length b → 0 ≡ r
    unfolding layout_fault
    all_passed q = rw (none_left, eq-eqb at (length b) q) at w.rest
