-- One round of the loop that fills the table of violating pairs, and its end.
use mathlib.Core.Path.{◌≡◌, ◌∙◌}
use mathlib.Core.Bool.{Bool, false}
use mathlib.Core.List.{List}
use Prim.Native.Nat.{ℕ, ◌*◌, ◌/◌, ◌%◌, ◌≤◌, ◌<◌}
use native.Mathlib.Omega.{arith}
use native.Mathlib.Nat.{mod-lt, div-lt_iff_lt-mul}
use lib.ListN.{get_or}
use Rattle.base.specs.Table.{up_to}
use Rattle.base.proofs.Table.{get_or_up_to}
use Rattle.sheet_spec.specs.declared.Sheet.{Sheet}
use Rattle.sheet_spec.specs.Kept.{row, initials}
use Rattle.sheet_spec.specs.Refusals.{sheet_fault}
use Rattle.sheet_spec.specs.Sound.{Ranges}
use Rattle.sheet_spec.proofs.SoundLaws.{nodes_most, check_sound}
use Rattle.base.proofs.Loops.{Filling}
use Rattle.refinement_spec.specs.ViolatingPairs.{violates, violating}
use Rattle.refinement.specs.Shapes.{violates_by, violates_by_lem}
use Rattle.sheet_rows.specs.Tables.{initials_in}
use Rattle.comparison.specs.ViolatingTable.{violating_at, violating_table}

module _ (P Q : Sheet) (accepted : (sheet_fault P ≡ 0) × (sheet_fault Q ≡ 0)) {e p q : ℕ} (ee : e ≡ P.e) (ep : p ≡ P.n) (eq : q ≡ Q.n) where
  range_P : Ranges P.e P.n
  range_P = (check_sound P accepted.0).ranges

  range_Q : Ranges Q.e Q.n
  range_Q = (check_sound Q accepted.1).ranges

  pub q_some : 1 ≤ q
  q_some = rw eq range_Q.n_low

  -- there are at most 1,024 pairs
  pub pairs_most : p * q ≤ 1024
  pairs_most = rw (ep, eq) (nodes_most (check_sound P accepted.0) (check_sound Q accepted.1))

  -- the two nodes of a pair have their places in the tables
  pub first_node : (k : ℕ) → k < p * q → k / q < 32
  first_node k l = let h : k / q < p = (div-lt_iff_lt-mul q_some).1 l in omega (arith, range_P.n_high)

  pub second_node : (k : ℕ) → k % q < 32
  second_node k = omega (arith, mod-lt k q_some, range_Q.n_high)

  -- the test of a pair with the initials from the tables is the definition's
  pub bad_is : (trace_only : Bool) (xs ys : List ℕ) (k : ℕ) → k < p * q → xs ≡ up_to (initials_in e P.rows) 32 → ys ≡ up_to (initials_in e Q.rows) 32 → (b : Bool)
      → b ≡ violates_by trace_only (get_or xs (k / q) 0) (get_or ys (k % q) 0) (row P (k / q)) (row Q (k % q))
      → b ≡ violating_at trace_only P Q k
  unfolding violating_at violating initials_in
  bad_is trace_only xs ys k l ex ey b h =
      let x : get_or xs (k / q) 0 ≡ initials e (row P (k / q)) = rw ex (get_or_up_to (initials_in e P.rows) 32 (k / q) 0 (first_node k l)) in
      let y : get_or ys (k % q) 0 ≡ initials e (row Q (k % q)) = rw ey (get_or_up_to (initials_in e Q.rows) 32 (k % q) 0 (second_node k)) in
      let v : b ≡ violates trace_only e (row P (k / q)) (row Q (k % q)) = (rw (x, y) at h) ∙ violates_by_lem trace_only e (row P (k / q)) (row Q (k % q)) in
      v ∙ rw (ee, eq)

  -- the table after all pairs is the definition's
  pub bad_all : (trace_only : Bool) (table : List Bool) (k : ℕ) → k ≤ p * q → p * q ≤ k → Filling (violating_at trace_only P Q) false 1024 k table → table ≡ violating_table trace_only P Q
  unfolding violating_table
  bad_all trace_only table k a b f =
      let h : k ≡ p * q = omega arith in
      let g : k ≡ P.n * Q.n = h ∙ rw (ep, eq) in
      rw g at f.holds

-- the places of a pair and of its nodes
pub ruleset places = (q_some, pairs_most, first_node, second_node)
