-- Lists that are written one after another; the acceptances of several nodes; and the test of a set of nodes.
use Rattle.std.proofs.Common.{◌≡◌, ℕ, ◌+◌, ◌*◌, ◌%◌, ◌^◌, ◌<◌, ◌≤◌, Bool, true, false, cond, ltb, ◌≢◌, List, [], ◌++◌, length, take, sym, refl, ◌∙◌, add-one, arith, pow_mono, eq-eqb, ne_eqb}
use Rattle.base.specs.Front.{at_front}
use Rattle.base.proofs.Front.{at_front_taken}
use Rattle.base.specs.Joined.{joined}
use Rattle.base.proofs.JoinedLaws.{joined_more, joined_length}
use Rattle.events.specs.Sets.{has}
use Rattle.sheet_spec.specs.declared.Sheet.{Sheet}
use Rattle.sheet_spec.specs.Kept.{row, acceptances}
use Rattle.sheet_spec.specs.Refusals.{sheet_fault}
use Rattle.sheet_spec.proofs.RowLaws.{acceptances_length}
use Rattle.probes_spec.specs.Probes.{probes}
use Rattle.probes_spec.specs.Nodes.{set_acceptances, nodes_probes, node_set_ok}
use Rattle.probes.proofs.Lists.{sheet_nodes, node_count_lem}
use Rattle.probes.proofs.sizes.Sized.{front_again}

-- ---- lists written one after another

module _ (f : ℕ → List ℕ) where
  pub lists_none : (out : List ℕ) → (0 ≡ length (joined f 0)) × (out ≡ at_front out (joined f 0))
  unfolding joined
  lists_none out = (refl, refl)

  pub lists_more : (out now after : List ℕ) (v at : ℕ) → now ≡ at_front out (joined f v) → at ≡ length (joined f v) → after ≡ at_front now (take at now ++ f v)
      → after ≡ at_front out (joined f (v + 1))
  unfolding joined
  lists_more out now after v at p q r =
      r ∙ (rw (p, at_front_taken out (joined f v) (sym q), add-one v) (front_again out (joined f v) (f v)))

  pub lists_count : (v : ℕ) → length (joined f (v + 1)) ≡ length (joined f v) + length (f v)
  lists_count v = rw (add-one v) (joined_more f v)

-- ---- the acceptances of the nodes of a set

-- the acceptances of node v, if it is in the set
abbrev pub of : Sheet → ℕ → ℕ → List ℕ
of s X v = cond (has X v) (acceptances (row s v)) []

pub all_of : (s : Sheet) (X n : ℕ) → n ≡ s.n → joined (of s X) n ≡ set_acceptances s X
unfolding set_acceptances
all_of s X n e = rw e

module _ (s : Sheet) (h : sheet_fault s ≡ 0) (X : ℕ) where
  of_few : (v : ℕ) → v < s.n → length (of s X v) ≤ 16
  of_few v l = go (has X v)
    where
      go : (b : Bool) → length (cond b (acceptances (row s v)) []) ≤ 16
      go true = omega (arith, acceptances_length (row s v), node_count_lem s h v l)
      go false = omega arith

  -- before node v there is room for its acceptances
  pub of_room : (v : ℕ) → v < s.n → length (joined (of s X) v) + 16 ≤ 512
  of_room v l = omega (arith, joined_length (of s X) 16 v (λ i k. of_few i (omega arith)), sheet_nodes s h)

-- ---- whether a set of nodes is good

pub named_none : (n X : ℕ) → X ≡ 0 → false ≡ node_set_ok n X
unfolding node_set_ok
named_none n X e = rw (eq-eqb X 0 e)

pub named_some : (n X : ℕ) → n ≤ 32 → X ≢ 0 → ltb X (1 * 2 ^ n % 18446744073709551616) ≡ node_set_ok n X
unfolding node_set_ok
named_some n X h e =
    let p : 2 ^ n ≤ 2 ^ 32 = pow_mono h in
    let q : 1 * 2 ^ n % 18446744073709551616 ≡ 2 ^ n = omega arith in
    rw (q, ne_eqb X 0 e)

-- the probes of what was gathered are those for the nodes
pub gathered_probes : (s : Sheet) (X : ℕ) (out sets : List ℕ) (c e : ℕ) → sets ≡ at_front out (set_acceptances s X) → c ≡ length (set_acceptances s X) → e ≡ s.e
    → probes (take c sets) e ≡ nodes_probes s X
unfolding nodes_probes
gathered_probes s X out sets c e p q r = rw (p, at_front_taken out (set_acceptances s X) (sym q), r)

-- what is written of a node that is among the nodes
pub put_taken : (s sets : List ℕ) (out after : List ℕ) (at r : ℕ) (b : Bool) → b ≡ true → sets ≡ s → after ≡ at_front out (take at out ++ sets) → r ≡ at + length sets
    → (after ≡ at_front out (take at out ++ cond b s [])) × (r ≡ at + length (cond b s []))
put_taken s sets out after at r b e q p l = rw (e, ← q) (p, l)
