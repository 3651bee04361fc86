-- The refusal of a comparison, picked test by test: one law for each way out of `fault_on`.
use Rattle.std.specs.Prelude.{◌≡◌, refl, ℕ, zero, suc, ◌-◌, ◌*◌, ◌≤◌, ◌<◌}
use Rattle.std.proofs.Common.{sym, ◌∙◌, inr, arith}
use native.Mathlib.Nat.{mul-pos}
use borrow.Author.Tests.{le-leb, lt-leb}
use Rattle.base.specs.Refusal.{or_else}
use Rattle.base.proofs.Refusal.{or_else_some}
use Rattle.sheet_spec.specs.declared.Sheet.{Sheet}
use Rattle.sheet_spec.specs.Refusals.{sheet_fault, shared_fault, pair_fault}
use Rattle.sheet_spec.proofs.PairFaults.{pair_rest}
use Rattle.sheet_spec.proofs.SoundLaws.{nodes_most, check_sound}
use Rattle.comparison_spec.specs.Comparison.{pair_count}
use Rattle.comparison.specs.FaultOn.{fault_on}

-- three parts and what follows
chained : (a b c r : ℕ) → or_else a (or_else b (or_else c r)) ≡ or_else (or_else a (or_else b (or_else c 0))) r
chained zero zero zero r = refl
chained zero zero (suc c) r = refl
chained zero (suc b) c r = refl
chained (suc a) b c r = refl

module _ (P Q : Sheet) where
  -- two sheets that are not refused have 1 to 1,024 pairs of nodes
  pub size_of : 0 ≡ pair_fault P Q 0 → (1 ≤ P.n * Q.n) × (P.n * Q.n ≤ 1024)
  size_of z =
      let g = ((pair_rest P Q 0 0 (inr refl) (λ p. omega arith) (λ p. omega arith)).0 (sym z)).0 in
      let p = check_sound P g.0.0 in
      let q = check_sound Q g.0.1 in
      (mul-pos p.ranges.n_low q.ranges.n_low, nodes_most p q)

  module _ (words places : ℕ) where
    then : (r : ℕ) → pair_fault P Q r ≡ or_else (pair_fault P Q 0) r
    then r = chained (sheet_fault P) (sheet_fault Q) (shared_fault P.e P.codes Q.e Q.codes) r

    -- the way out with a refusal of the two sheets
    pub unpaired : {m : ℕ} → m ≡ pair_fault P Q 0 → 0 < m → m ≡ fault_on P Q words places
    unfolding fault_on
    unpaired {m} e h = sym (then _ ∙ rw (← e) (or_else_some m _ h))

    module _ (z : 0 ≡ pair_fault P Q 0) where
      pub twelve : words < 2 * (P.n * Q.n) → 12 ≡ fault_on P Q words places
      unfolding fault_on pair_count
      twelve l = sym (then _ ∙ rw (← z, lt-leb (2 * (P.n * Q.n)) words l))

      pub thirteen : 2 * (P.n * Q.n) ≤ words → places < P.n * Q.n - 1 → 13 ≡ fault_on P Q words places
      unfolding fault_on pair_count
      thirteen w l = sym (then _ ∙ rw (← z, le-leb (2 * (P.n * Q.n)) words w, lt-leb (P.n * Q.n - 1) places l))

      pub none : 2 * (P.n * Q.n) ≤ words → P.n * Q.n - 1 ≤ places → 0 ≡ fault_on P Q words places
      unfolding fault_on pair_count
      none w l = sym (then _ ∙ rw (← z, le-leb (2 * (P.n * Q.n)) words w, le-leb (P.n * Q.n - 1) places l))
