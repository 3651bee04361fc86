-- The nodes that rounds of steps reach, as sets: k rounds give the nodes that fewer than k events reach.
use mathlib.Core.Path.{◌≡◌, refl, ap, ◌∙◌}
use mathlib.Core.Bool.{Bool, true, false, ◌&&◌, ◌||◌, cond}
use mathlib.Core.List.{List}
use Prim.Native.Nat.{ℕ, zero, suc, ◌≤◌, ◌<◌}
use native.Mathlib.Omega.{arith}
use lib.Dec.{eqb}
use lib.Bits.{bit_or}
use lib.ListN.{get_or}
use borrow.Author.Tests.{lt-ltb}
use Rattle.base.specs.Range.{any, all}
use Rattle.base.proofs.Range.{any_ext, all_ext}
use Rattle.base.specs.Table.{up_to}
use Rattle.base.proofs.Table.{get_or_up_to}
use Rattle.events.specs.Bit.{set_of}
use Rattle.events.specs.Sets.{has}
use Rattle.events.proofs.Gathered.{has_set_of, or_set_of, set_of_ext}
use Rattle.walks.specs.Reach.{leads, nearer}
use Rattle.sheet_spec.specs.declared.Sheet.{Sheet}
use Rattle.sheet_spec.specs.Kept.{row, successor, step, graph}
use Rattle.sheet_spec.specs.Rules.{reached_ok}
use Rattle.sheet_rules.specs.Targets.{targets_is}
use Rattle.sheet_rules.specs.ReachShapes.{targets_of, with_targets, grown, rounds}

-- one round over the first k nodes: node 0, and the nodes to which t leads from a node that was seen
module _ (sets : List ℕ) (t : ℕ → ℕ → Bool) (h : (u : ℕ) → u < 32 → get_or sets u 0 ≡ set_of (t u) 32) (seen : ℕ → Bool) where
  grown_is : (k : ℕ) → k ≤ 32 → grown sets (set_of seen 32) k ≡ set_of (λ v. eqb v 0 || any (λ u. t u v && seen u) k) 32
  unfolding grown with_targets any
  grown_is zero l = unfold set_of in refl
  grown_is (suc k) l = rw (grown_is k (omega arith), h k l, has_set_of seen 32 k l) (go (seen k))
    where
      f : ℕ → Bool
      f v = eqb v 0 || any (λ u. t u v && seen u) k

      more : (a b c : Bool) → ((a || b) || c) ≡ (a || (b || (c && true)))
      more true b c = refl
      more false true c = refl
      more false false true = refl
      more false false false = refl

      less : (a b c : Bool) → (a || b) ≡ (a || (b || (c && false)))
      less true b c = refl
      less false true c = refl
      less false false true = refl
      less false false false = refl

      go : (b : Bool) → cond b (bit_or (set_of f 32) (set_of (t k) 32)) (set_of f 32) ≡ set_of (λ v. eqb v 0 || (any (λ u. t u v && seen u) k || (t k v && b))) 32
      go true = or_set_of f (t k) 32 ∙ set_of_ext _ _ 32 (λ v i. more (eqb v 0) (any (λ u. t u v && seen u) k) (t k v))
      go false = set_of_ext _ _ 32 (λ v i. less (eqb v 0) (any (λ u. t u v && seen u) k) (t k v))

-- some event leads from u to v
abbrev ahead : Sheet → ℕ → ℕ → Bool
ahead s u v = any (λ i. eqb (successor (row s u) i) v) s.e

ahead_is : (s : Sheet) (u v : ℕ) → u < s.n → ahead s u v ≡ leads (graph s) u v
unfolding leads step
ahead_is s u v l = any_ext _ _ s.e (λ i k. rw (lt-ltb u s.n l, lt-ltb i s.e k))

module _ (s : Sheet) (small : s.n ≤ 32) where
  pub rounds_is : (k : ℕ) → rounds (up_to (targets_of s) 32) s.n k ≡ set_of (nearer (graph s) k) 32
  unfolding rounds nearer targets_of
  rounds_is zero = unfold set_of in refl
  rounds_is (suc k) =
      rw (rounds_is k, grown_is (up_to (targets_of s) 32) (ahead s) (λ u l. get_or_up_to (targets_of s) 32 u 0 l ∙ targets_is s.e (row s u)) (nearer (graph s) k) s.n small)
      (set_of_ext _ _ 32 (λ v i. ap (λ (b : Bool). eqb v 0 || b) (any_ext _ _ s.n (λ u l. rw (ahead_is s u v l)))))

  -- the test of every node by the set of N rounds is the rule
  pub reached_is : {t : Bool} {seen : ℕ} {sets : List ℕ} → sets ≡ up_to (targets_of s) 32 → seen ≡ rounds sets s.n s.n → t ≡ all (has seen) s.n → t ≡ reached_ok s
  unfolding reached_ok
  reached_is p q r = r ∙ rw (q, p, rounds_is s.n) (all_ext _ _ s.n (λ v l. has_set_of (nearer (graph s) s.n) 32 v (omega arith)))
