-- Nothing to believe: laws. The refusals of a call that is handed two sheets: a sheet's own number, the reference's
-- before the device's; 11 where E differs; 19 where an event has another code; then what else the call looks for
-- (`rest`).
use Rattle.std.specs.Prelude.{◌≡◌, refl, ◌⊎◌, ◌≢◌, ◌↔◌, true, false, List, ℕ, ◌<◌}
use Rattle.std.proofs.Common.{inl, inr, arith}
use Rattle.std.proofs.Math.Logic.{⊎_map}
use Rattle.std.proofs.Math.Logic.Iff as Iff
use Rattle.std.proofs.Math.Decide.{ℕ_discrete}
use Rattle.std.proofs.Math.Dec.{eqb}
use borrow.Author.Tests.{eqb-true, eq-eqb}
use Rattle.base.proofs.Truth.{dec}
use Rattle.base.proofs.Range.{all→, all←}
use Rattle.base.proofs.Finds.{finds_eq}
use Rattle.base.specs.Refusal.{or_else}
use Rattle.base.proofs.Refusal.{unless→, unless←, unless_hit, unless_pass, unless_other, or_else_some, or_else_first, or_else_then, or_else_either, or_else_other}
use Rattle.sheet_spec.specs.declared.Sheet.{Sheet}
use Rattle.sheet_spec.specs.Kept.{code_at, code}
use Rattle.sheet_spec.specs.Rules.{codes_agree}
use Rattle.sheet_spec.specs.Refusals.{sheet_fault, shared_fault, pair_fault, Own, NotOwn, BothAccepted, Agree, CodesDiffer, PairWays}
use Rattle.sheet_spec.proofs.RuleLaws.{agree_finds}
use Rattle.sheet_spec.proofs.CheckLaws.{check_other, own_other}
use Rattle.sheet_spec.proofs.Chains.{further, finally, settled}

-- the numbers of what two sheets must share
module _ (e : ℕ) (codes : List ℕ) (e' : ℕ) (codes' : List ℕ) where
  -- 11: E differs
  pub shared_11 : (shared_fault e codes e' codes' ≡ 11) ↔ (e ≢ e')
  unfolding shared_fault
  shared_11 = unless_hit 11 _ (finds_eq e e') (unless_other (codes_agree e codes codes') (λ p. omega arith) (λ p. omega arith))

  -- 19: E does not differ, and an event has another code
  pub shared_19 : (shared_fault e codes e' codes' ≡ 19) ↔ ((e ≡ e') × ((i : ℕ) × (i < e) × (code_at codes i ≢ code_at codes' i)))
  unfolding shared_fault
  shared_19 = (λ p. (same p, there p), back)
    where
      parts : (shared_fault e codes e' codes' ≡ 19) ↔ ((¬ (e ≢ e')) × ((i : ℕ) × (i < e) × (code_at codes i ≢ code_at codes' i)))
      parts = finally (unless_pass 11 _ 19 (finds_eq e e') (λ p. omega arith)) (λ f. unless_hit 19 0 (agree_finds e codes codes') (λ p. omega arith))

      same : shared_fault e codes e' codes' ≡ 19 → e ≡ e'
      same p = settled e e' (parts.0 p).0

      there : shared_fault e codes e' codes' ≡ 19 → (i : ℕ) × (i < e) × (code_at codes i ≢ code_at codes' i)
      there p = (parts.0 p).1

      back : (e ≡ e') × ((i : ℕ) × (i < e) × (code_at codes i ≢ code_at codes' i)) → shared_fault e codes e' codes' ≡ 19
      back (p, w) = parts.1 ((λ n. n p), w)

  -- no refusal: the same E, and the same code for each event
  pub shared_0 : (shared_fault e codes e' codes' ≡ 0) ↔ ((e ≡ e') × ((i : ℕ) → i < e → code_at codes i ≡ code_at codes' i))
  unfolding shared_fault codes_agree
  shared_0 = (to, from)
    where
      to : shared_fault e codes e' codes' ≡ 0 → (e ≡ e') × ((i : ℕ) → i < e → code_at codes i ≡ code_at codes' i)
      to p =
          let x = unless→ (eqb e e') 10 _ p in
          let y = unless→ (codes_agree e codes codes') 18 0 x.1 in
          (eqb-true e e' x.0, λ i l. eqb-true (code_at codes i) (code_at codes' i) (all→ (λ i. eqb (code_at codes i) (code_at codes' i)) e i y.0 l))

      from : (e ≡ e') × ((i : ℕ) → i < e → code_at codes i ≡ code_at codes' i) → shared_fault e codes e' codes' ≡ 0
      from (p, f) = unless← 11 (eq-eqb e e' p) (unless← 19 (all← (λ i. eqb (code_at codes i) (code_at codes' i)) e (λ i l. eq-eqb (code_at codes i) (code_at codes' i) (f i l))) refl)

  -- no other number is given
  pub shared_other : {m : ℕ} → 11 ≢ m → 19 ≢ m → m ≢ 0 → shared_fault e codes e' codes' ≢ m
  unfolding shared_fault
  shared_other p q z = unless_other (eqb e e') p (unless_other (codes_agree e codes codes') q (λ x. omega (arith, z)))

pub pair_ways : (P Q : Sheet) → PairWays P Q
pair_ways P Q = go (ℕ_discrete P.e Q.e) (dec (codes_agree P.e P.codes Q.codes))
  where
    go : Dec (P.e ≡ Q.e) → (codes_agree P.e P.codes Q.codes ≡ true) ⊎ (codes_agree P.e P.codes Q.codes ≡ false) → PairWays P Q
    go (no n) t = inr (inl n)
    go (yes p) (inl t) = inl (p, λ i l. settled (code P i) (code Q i) (λ n. (agree_finds P.e P.codes Q.codes).clear t (i, l, n)))
    go (yes p) (inr t) = inr (inr (p, (agree_finds P.e P.codes Q.codes).fault t))

module _ (P Q : Sheet) (rest : ℕ) where
  -- what two sheets must share
  abbrev shared : ℕ
  shared = shared_fault P.e P.codes Q.e Q.codes

  -- what is tested after the sheets' own refusals
  abbrev after_sheets : ℕ
  after_sheets = or_else shared rest

  -- the reference's own refusal comes first, then the device's
  pub pair_reference : sheet_fault P ≢ 0 → pair_fault P Q rest ≡ sheet_fault P
  pair_reference n = or_else_some (sheet_fault P) _ (omega (arith, n))

  pub pair_device : sheet_fault P ≡ 0 → sheet_fault Q ≢ 0 → pair_fault P Q rest ≡ sheet_fault Q
  pair_device z n = rw z (or_else_some (sheet_fault Q) _ (omega (arith, n)))

  -- a sheet's own number is given exactly for that sheet, the reference before the device
  pub pair_sheet : (m : ℕ) → Own m → rest ≢ m → (pair_fault P Q rest ≡ m) ↔ ((sheet_fault P ≡ m) ⊎ ((sheet_fault P ≡ 0) × (sheet_fault Q ≡ m)))
  pair_sheet m o n = Iff.trans (or_else_either (sheet_fault P) (or_else (sheet_fault Q) after_sheets) m none)
      (⊎_map (λ p. p) (λ p. (p.0, own.0 p.1)), ⊎_map (λ p. p) (λ p. (p.0, own.1 p.1)))
    where
      none : m ≢ 0
      none e = omega (arith, o.0)

      not_shared : shared ≢ m
      not_shared =
          shared_other P.e P.codes Q.e Q.codes (own_other o (omega arith, λ q. omega arith)) (own_other o (omega arith, λ q. omega arith)) none

      own : (or_else (sheet_fault Q) after_sheets ≡ m) ↔ (sheet_fault Q ≡ m)
      own = or_else_first (sheet_fault Q) after_sheets m none (or_else_other shared rest not_shared n)

  -- a number that is no sheet's own, or none, comes from what is tested after the sheets
  past_sheets : (m : ℕ) → NotOwn m ⊎ (m ≡ 0) → (pair_fault P Q rest ≡ m) ↔ (BothAccepted P Q × (after_sheets ≡ m))
  past_sheets m h =
      further (or_else_then (sheet_fault P) (or_else (sheet_fault Q) after_sheets) m (own P h))
      (λ z. or_else_then (sheet_fault Q) after_sheets m (own Q h))
    where
      own : (s : Sheet) → NotOwn m ⊎ (m ≡ 0) → (sheet_fault s ≢ m) ⊎ (m ≡ 0)
      own s (inl p) = inl (check_other s m p)
      own s (inr p) = inr p

  -- 11: of two sheets that are not refused, E differs
  pub pair_11 : rest ≢ 11 → (pair_fault P Q rest ≡ 11) ↔ (BothAccepted P Q × (P.e ≢ Q.e))
  pair_11 n =
      finally (past_sheets 11 (inl (omega arith, λ p. omega arith)))
      (λ f. Iff.trans (or_else_first shared rest 11 (λ p. omega arith) n) (shared_11 P.e P.codes Q.e Q.codes))

  -- 19: of two sheets that are not refused, with one E, some event has another code
  pub pair_19 : rest ≢ 19 → (pair_fault P Q rest ≡ 19) ↔ (BothAccepted P Q × ((P.e ≡ Q.e) × CodesDiffer P Q))
  pair_19 n =
      finally (past_sheets 19 (inl (omega arith, λ p. omega arith)))
      (λ f. Iff.trans (or_else_first shared rest 19 (λ p. omega arith) n) (shared_19 P.e P.codes Q.e Q.codes))

  -- any other number, or none: no sheet is refused, they agree, and what else is looked for gives the number
  pub pair_rest : (m : ℕ) → NotOwn m ⊎ (m ≡ 0) → 11 ≢ m → 19 ≢ m → (pair_fault P Q rest ≡ m) ↔ ((BothAccepted P Q × Agree P Q) × (rest ≡ m))
  pair_rest m h n k =
      further (past_sheets m h)
      (λ f. Iff.trans (or_else_then shared rest m (past h)) (Iff.and (shared_0 P.e P.codes Q.e Q.codes) Iff.rfl))
    where
      past : NotOwn m ⊎ (m ≡ 0) → (shared ≢ m) ⊎ (m ≡ 0)
      past (inl p) = inl (shared_other P.e P.codes Q.e Q.codes n k (λ z. omega (arith, p.0)))
      past (inr p) = inr p
