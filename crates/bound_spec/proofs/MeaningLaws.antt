-- Nothing to believe: laws. The two sheets are what 02 says of them, and no other accepted sheet is; and a sheet of one
-- node more is the same but for one more node that climbs, so that those of one and two nodes settle all.
use Rattle.std.specs.Prelude.{◌≡◌, ◌⊎◌, cond, eqb}
use Rattle.std.proofs.Common.{sym, ap, ◌∙◌, inl, inr, arith, ne_eqb}
use Prim.Native.Nat.{ℕ, zero, suc, ◌+◌, ◌≤◌, ◌<◌}
use Rattle.base.proofs.Truth.{lt_or_ge}
use Rattle.base.specs.Table.{up_to}
use Rattle.sheet_spec.specs.declared.Sheet.{Sheet}
use Rattle.sheet_spec.specs.Kept.{row, successor, acceptance, acceptances}
use Rattle.sheet_spec.specs.Form.{SheetForm}
use Rattle.sheet_spec.specs.Refusals.{sheet_fault}
use Rattle.sheet_spec.proofs.MadeLaws.{accepted_made, made_once}
use Rattle.bound_spec.specs.Sheets.{bound_reference, bound_device}
use Rattle.bound_spec.specs.Meaning.{IsReference, IsDevice}
use Rattle.bound_spec.proofs.SheetLaws.{reference_size, reference_middle, reference_last, reference_accepted, device_size, device_middle, device_last, device_accepted}
use Rattle.bound_spec.proofs.ByteLaws.{reference_form, reference_codes, device_form, device_codes}

-- ---- the reference

module _ (p : ℕ) (low : 1 ≤ p) (high : p ≤ 32) where
  pub reference_is : IsReference p (bound_reference p)
  unfolding successor acceptance acceptances up_to
  reference_is = record {
    events = (reference_size p).0;
    nodes = (reference_size p).1;
    codes = reference_codes p low high;
    stays = λ v l. stays v (lt_or_ge (v + 1) p) l;
    climbs = λ v l. rw (reference_middle p low high v l);
    ends = λ v e. rw (reference_last p low high v e);
    either = λ v l. rw (reference_middle p low high v l);
    one = λ v e. rw (reference_last p low high v e);
  }
    where
      stays : (v : ℕ) → (v + 1 < p) ⊎ (p ≤ v + 1) → v < p → successor (row (bound_reference p) v) 0 ≡ v
      stays v (inl h) l = rw (reference_middle p low high v h)
      stays v (inr h) l = rw (reference_last p low high v (omega arith))

  -- two sheets of which 02's words hold have the same successors and the same acceptances
  pub reference_only : (s : Sheet) → SheetForm s → sheet_fault s ≡ 0 → IsReference p s → s ≡ bound_reference p
  reference_only s o h w =
      made_once s (bound_reference p) o (reference_form p low high) (accepted_made s h) (accepted_made (bound_reference p) (reference_accepted p low high))
      (w.events ∙ sym x.events) (w.nodes ∙ sym x.nodes)
      (λ i l. w.codes i l ∙ sym (x.codes i (omega (arith, l, w.events, x.events))))
      (λ v i l k. succs v i (lt_or_ge (v + 1) p) (omega (arith, l, w.nodes)) (omega (arith, k, w.events)))
      (λ v l. sets v (lt_or_ge (v + 1) p) (omega (arith, l, w.nodes)))
    where
      x : IsReference p (bound_reference p)
      x = reference_is

      succs : (v i : ℕ) → (v + 1 < p) ⊎ (p ≤ v + 1) → v < p → i < 2 → successor (row s v) i ≡ successor (row (bound_reference p) v) i
      succs v zero d l k = w.stays v l ∙ sym (x.stays v l)
      succs v (suc zero) (inl d) l k = w.climbs v d ∙ sym (x.climbs v d)
      succs v (suc zero) (inr d) l k = let e : v + 1 ≡ p = omega arith in w.ends v e ∙ sym (x.ends v e)
      succs v (suc (suc i)) d l k = absurd (omega arith)

      sets : (v : ℕ) → (v + 1 < p) ⊎ (p ≤ v + 1) → v < p → acceptances (row s v) ≡ acceptances (row (bound_reference p) v)
      sets v (inl d) l = w.either v d ∙ sym (x.either v d)
      sets v (inr d) l = let e : v + 1 ≡ p = omega arith in w.one v e ∙ sym (x.one v e)

-- ---- the device

module _ (q : ℕ) (low : 1 ≤ q) (high : q ≤ 32) where
  pub device_is : IsDevice q (bound_device q)
  unfolding successor acceptance acceptances up_to
  device_is = record {
    events = (device_size q).0;
    nodes = (device_size q).1;
    codes = device_codes q low high;
    climbs = λ v l. rw (device_middle q low high v l);
    not_one = λ v l. rw (device_middle q low high v l);
    not_zero = λ v e. rw (device_last q low high v e);
    returns = λ v e. rw (device_last q low high v e);
    zero = λ v l. rw (device_middle q low high v l);
    one = λ v e. rw (device_last q low high v e);
  }

  pub device_only : (s : Sheet) → SheetForm s → sheet_fault s ≡ 0 → IsDevice q s → s ≡ bound_device q
  device_only s o h w =
      made_once s (bound_device q) o (device_form q low high) (accepted_made s h) (accepted_made (bound_device q) (device_accepted q low high))
      (w.events ∙ sym x.events) (w.nodes ∙ sym x.nodes)
      (λ i l. w.codes i l ∙ sym (x.codes i (omega (arith, l, w.events, x.events))))
      (λ v i l k. succs v i (lt_or_ge (v + 1) q) (omega (arith, l, w.nodes)) (omega (arith, k, w.events)))
      (λ v l. sets v (lt_or_ge (v + 1) q) (omega (arith, l, w.nodes)))
    where
      x : IsDevice q (bound_device q)
      x = device_is

      succs : (v i : ℕ) → (v + 1 < q) ⊎ (q ≤ v + 1) → v < q → i < 2 → successor (row s v) i ≡ successor (row (bound_device q) v) i
      succs v zero (inl d) l k = w.climbs v d ∙ sym (x.climbs v d)
      succs v zero (inr d) l k = let e : v + 1 ≡ q = omega arith in w.not_zero v e ∙ sym (x.not_zero v e)
      succs v (suc zero) (inl d) l k = w.not_one v d ∙ sym (x.not_one v d)
      succs v (suc zero) (inr d) l k = let e : v + 1 ≡ q = omega arith in w.returns v e ∙ sym (x.returns v e)
      succs v (suc (suc i)) d l k = absurd (omega arith)

      sets : (v : ℕ) → (v + 1 < q) ⊎ (q ≤ v + 1) → v < q → acceptances (row s v) ≡ acceptances (row (bound_device q) v)
      sets v (inl d) l = w.zero v d ∙ sym (x.zero v d)
      sets v (inr d) l = let e : v + 1 ≡ q = omega arith in w.one v e ∙ sym (x.one v e)

-- ---- from p to p + 1 nodes, with no set and no event of a node in it

-- a successor, one node further; none stays none
abbrev pub moved : ℕ → ℕ
moved x = cond (eqb x 255) 255 (x + 1)

module _ (p : ℕ) (low : 1 ≤ p) (high : p < 32) where
  -- node v + 1 of p + 1 nodes is node v of p, with its successors one node further
  pub reference_moved : (v : ℕ) → v < p
      → (acceptances (row (bound_reference (p + 1)) (v + 1)) ≡ acceptances (row (bound_reference p) v))
      × ((i : ℕ) → i < 2 → successor (row (bound_reference (p + 1)) (v + 1)) i ≡ moved (successor (row (bound_reference p) v) i))
  reference_moved v l = go (lt_or_ge (v + 1) p)
    where
      x : IsReference p (bound_reference p)
      x = reference_is p low (omega arith)

      y : IsReference (p + 1) (bound_reference (p + 1))
      y = reference_is (p + 1) (omega arith) (omega arith)

      small : (n : ℕ) → n < p → moved n ≡ n + 1
      small n h = rw (ne_eqb n 255 (λ e. omega arith))

      go : (v + 1 < p) ⊎ (p ≤ v + 1)
          → (acceptances (row (bound_reference (p + 1)) (v + 1)) ≡ acceptances (row (bound_reference p) v))
          × ((i : ℕ) → i < 2 → successor (row (bound_reference (p + 1)) (v + 1)) i ≡ moved (successor (row (bound_reference p) v) i))
      go (inl h) = (y.either (v + 1) (omega arith) ∙ sym (x.either v h), on)
        where
          on : (i : ℕ) → i < 2 → successor (row (bound_reference (p + 1)) (v + 1)) i ≡ moved (successor (row (bound_reference p) v) i)
          on zero k = y.stays (v + 1) (omega arith) ∙ sym (ap moved (x.stays v l) ∙ small v l)
          on (suc zero) k = y.climbs (v + 1) (omega arith) ∙ sym (ap moved (x.climbs v h) ∙ small (v + 1) h)
          on (suc (suc i)) k = absurd (omega arith)
      go (inr h) = let e : v + 1 ≡ p = omega arith in (y.one (v + 1) (omega arith) ∙ sym (x.one v e), on)
        where
          on : (i : ℕ) → i < 2 → successor (row (bound_reference (p + 1)) (v + 1)) i ≡ moved (successor (row (bound_reference p) v) i)
          on zero k = y.stays (v + 1) (omega arith) ∙ sym (ap moved (x.stays v l) ∙ small v l)
          on (suc zero) k = y.ends (v + 1) (omega arith) ∙ sym (ap moved (x.ends v (omega arith)))
          on (suc (suc i)) k = absurd (omega arith)

  -- node 0 of more than one node is that of two
  pub reference_first : row (bound_reference (p + 1)) 0 ≡ row (bound_reference 2) 0
  reference_first = reference_middle (p + 1) (omega arith) (omega arith) 0 (omega arith) ∙ sym (reference_middle 2 (omega arith) (omega arith) 0 (omega arith))

module _ (q : ℕ) (low : 1 ≤ q) (high : q < 32) where
  -- node v + 1 of q + 1 nodes is node v of q, with its successor on 0 one node further and that on 1 as it was
  pub device_moved : (v : ℕ) → v < q
      → (acceptances (row (bound_device (q + 1)) (v + 1)) ≡ acceptances (row (bound_device q) v))
      × (successor (row (bound_device (q + 1)) (v + 1)) 0 ≡ moved (successor (row (bound_device q) v) 0))
      × (successor (row (bound_device (q + 1)) (v + 1)) 1 ≡ successor (row (bound_device q) v) 1)
  device_moved v l = go (lt_or_ge (v + 1) q)
    where
      x : IsDevice q (bound_device q)
      x = device_is q low (omega arith)

      y : IsDevice (q + 1) (bound_device (q + 1))
      y = device_is (q + 1) (omega arith) (omega arith)

      go : (v + 1 < q) ⊎ (q ≤ v + 1)
          → (acceptances (row (bound_device (q + 1)) (v + 1)) ≡ acceptances (row (bound_device q) v))
          × (successor (row (bound_device (q + 1)) (v + 1)) 0 ≡ moved (successor (row (bound_device q) v) 0))
          × (successor (row (bound_device (q + 1)) (v + 1)) 1 ≡ successor (row (bound_device q) v) 1)
      go (inl h) =
          let s : moved (v + 1) ≡ v + 1 + 1 = rw (ne_eqb (v + 1) 255 (λ e. omega arith)) in (
            y.zero (v + 1) (omega arith) ∙ sym (x.zero v h),
            y.climbs (v + 1) (omega arith) ∙ sym (ap moved (x.climbs v h) ∙ s),
            y.not_one (v + 1) (omega arith) ∙ sym (x.not_one v h),
          )
      go (inr h) =
          let e : v + 1 ≡ q = omega arith in (
            y.one (v + 1) (omega arith) ∙ sym (x.one v e),
            y.not_zero (v + 1) (omega arith) ∙ sym (ap moved (x.not_zero v e)),
            y.returns (v + 1) (omega arith) ∙ sym (x.returns v e),
          )

  -- node 0 of more than one node is that of two
  pub device_first : row (bound_device (q + 1)) 0 ≡ row (bound_device 2) 0
  device_first = device_middle (q + 1) (omega arith) (omega arith) 0 (omega arith) ∙ sym (device_middle 2 (omega arith) (omega arith) 0 (omega arith))
