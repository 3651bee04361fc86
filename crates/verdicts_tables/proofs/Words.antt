-- Sets of nodes that loops gather, node by node, and what the table of sets of one node holds.
use mathlib.Core.Path.{◌≡◌, refl, sym, ◌∙◌}
use mathlib.Core.Bool.{Bool, true, false, ◌&&◌, cond}
use mathlib.Core.List.{List}
use Prim.Native.Nat.{ℕ, ◌+◌, ◌*◌, ◌^◌, ◌≤◌, ◌<◌, max}
use native.Mathlib.Omega.{arith}
use native.Mathlib.Numerals.{add-one}
use native.Mathlib.Nat.{add-zero}
use native.Mathlib.Decide.{ℕ_discrete}
use lib.Arith.{digits_div, digits_mod}
use lib.Dec.{eqb, ltb}
use lib.Bits.{bit_or, or_zero_l}
use borrow.Author.Tests.{eq-eqb, ne_eqb}
use Rattle.base.proofs.Loops.{stored, filled}
use Rattle.base.specs.Table.{up_to}
use Rattle.base.proofs.Table.{get_or_up_to}
use Rattle.events.specs.Bit.{bit, set_of}
use Rattle.events.proofs.Bit.{bit≤1, bits_ext, bits_zero, bit_or_lem, bit_one, bit_other, bit_top, bit_below, set_of_lt}
use Rattle.events.specs.Sets.{has}
use Rattle.verdicts_tables.specs.Shapes.{node_if, leads_to, bit_at, leads_into}

-- a node above all others is added by a sum
top : (m x : ℕ) → x < 2 ^ m → bit_or x (2 ^ m) ≡ x + 2 ^ m
top m x h = bits_ext (bit_or x (2 ^ m)) (x + 2 ^ m) (λ i. bit_or_lem i x (2 ^ m) ∙ at i (ℕ_discrete i m))
  where
    at : (i : ℕ) → Dec (i ≡ m) → max (bit x i) (bit (2 ^ m) i) ≡ bit (x + 2 ^ m) i
    at i (yes e) = rw e (omega (arith, bit_one m, bit_top m x h, bit≤1 x m))
    at i (no n) = omega (arith, bit_other m i (λ e. n (sym e)), bit_below m i x h n)

-- of the first n nodes those below m that pass a test are gathered
pub record Gathers (f : ℕ → Bool) (n m x : ℕ) : Type 0 where
  pub below : m ≤ n
  pub holds : x ≡ set_of f m

module _ {f : ℕ → Bool} {n : ℕ} where
  pub none : Gathers f n 0 0
  unfolding set_of
  none = record { below = omega arith; holds = refl }

  pub more : {m x y : ℕ} {t : Bool} → Gathers f n m x → m < n → t ≡ f m → y ≡ node_if x m t → Gathers f n (m + 1) y
  unfolding set_of node_if
  more {m} {x} {y} {t} g l p q = record { below = omega arith; holds = q ∙ rw (g.holds, p, add-one m) (go (f m)) }
    where
      go : (b : Bool) → cond b (bit_or (set_of f m) (2 ^ m)) (set_of f m) ≡ set_of f m + cond b (2 ^ m) 0
      go true = top m (set_of f m) (set_of_lt f m)
      go false = sym (add-zero (set_of f m))

  pub gathered : {m x : ℕ} → Gathers f n m x → n ≤ m → x ≡ set_of f n
  gathered {m} g l = let e : m ≡ n = omega (arith, g.below) in g.holds ∙ rw e

-- how a loop gathers nodes, and how one fills a table
pub ruleset gathering = (more, gathered)

pub ruleset filling = (stored, filled)

-- which nodes are in a set of one, and in the empty set
pub has_one : (u v : ℕ) → has (2 ^ u) v ≡ eqb u v
unfolding has
has_one u v = go (ℕ_discrete u v)
  where
    go : Dec (u ≡ v) → eqb (bit (2 ^ u) v) 1 ≡ eqb u v
    go (yes e) = rw (← e, bit_one u, eq-eqb u u refl)
    go (no n) = rw (bit_other u v n, ne_eqb u v n)

pub has_zero : (v : ℕ) → has 0 v ≡ false
unfolding has
has_zero v = rw (bits_zero v)

-- which nodes are in a set of one node, or of none
has_node_if : (b : Bool) (v y : ℕ) → has (node_if 0 v b) y ≡ (b && eqb v y)
unfolding node_if
has_node_if true v y = rw (or_zero_l (2 ^ v)) (has_one v y)
has_node_if false v y = has_zero y

-- the table of sets of one node holds the successors
pub into_is : (t : List ℕ) (q m i y : ℕ) → m < 32 → i < 12
    → has (leads_into (up_to (bit_at t q) 384) m i) y ≡ ((ltb m q && ltb (leads_to t m i) q) && eqb (leads_to t m i) y)
unfolding bit_at
into_is t q m i y l k =
    rw (get_or_up_to (bit_at t q) 384 (i * 32 + m) 0 (omega arith), digits_div i l, digits_mod i l) (has_node_if (ltb m q && ltb (leads_to t m i) q) (leads_to t m i) y)
