-- Nothing to believe: laws. The refusals of a kept sheet: each number is given exactly if its fault is there and no
-- earlier one is (01, "Checks run in the order of the numbers"; 02, K1: 18 "again, after 3").
use Rattle.std.specs.Prelude.{◌≡◌, refl, ◌⊎◌, ◌≢◌, ◌↔◌, Bool, ◌&&◌, ℕ, ◌≤◌, ◌<◌}
use Rattle.std.proofs.Common.{sym, ◌∙◌, arith}
use Rattle.std.proofs.Math.Logic.{inl, inr}
use Rattle.std.proofs.Math.Bool.{true, false}
use Rattle.std.proofs.Math.Decide.{ℕ_discrete}
use Rattle.base.proofs.Finds.{Finds, finds_and}
use Rattle.base.specs.Refusal.{unless}
use Rattle.base.proofs.Refusal.{unless_hit, unless_pass, unless_other, unless_none}
use Rattle.sheet_spec.specs.declared.Sheet.{Sheet}
use Rattle.sheet_spec.specs.Rules.{ranges_ok, codes_ok, counts_ok, successors_ok, sets_ok, blanks_ok, codes_blank, reached_ok}
use Rattle.sheet_spec.specs.Refusals.{sheet_fault, Own, NotOwn}
use Rattle.sheet_spec.specs.Faults.{RangeFault, CodeTwice, CountFault, SuccessorFault, SetFault, UnusedFault, ReachFault, Clear3, Clear18, Clear5, Clear6, Clear7}
use Rattle.sheet_spec.proofs.RuleLaws.{ranges_find, codes_find, counts_find, successors_find, sets_find, blanks_find, reached_finds, in_range}
use Rattle.sheet_spec.proofs.Chains.{further, finally, Above, less, above}

-- what is tested of a kept sheet after 7
abbrev after7 : Sheet → ℕ
after7 s = unless (reached_ok s) 8 0

-- what is tested of a kept sheet after 6
abbrev after6 : Sheet → ℕ
after6 s = unless (sets_ok s && (blanks_ok s && codes_blank s.e s.codes)) 7 (after7 s)

-- what is tested of a kept sheet after 5
abbrev after5 : Sheet → ℕ
after5 s = unless (successors_ok s) 6 (after6 s)

-- what is tested of a kept sheet after 18
abbrev after18 : Sheet → ℕ
after18 s = unless (counts_ok s) 5 (after5 s)

-- what is tested of a kept sheet after 3
abbrev after3 : Sheet → ℕ
after3 s = unless (codes_ok s.e s.codes) 18 (after18 s)

-- a number that is no sheet's own is none that is
pub own_other : {m k : ℕ} → Own m → NotOwn k → k ≢ m
own_other (z, inl l) (h, n) p = omega arith
own_other (z, inr q) (h, n) p = n (p ∙ q)

module _ (s : Sheet) where
  -- the tests of 7 and 8 find their faults, once E and N are in range
  finds_7 : Clear3 s → Finds (sets_ok s && (blanks_ok s && codes_blank s.e s.codes)) (SetFault s ⊎ UnusedFault s)
  finds_7 f = let r = in_range s.e s.n f in finds_and (sets_find s r.e_high) (blanks_find s r.n_high)

  finds_8 : Clear3 s → Finds (reached_ok s) (ReachFault s)
  finds_8 f = let r = in_range s.e s.n f in reached_finds s r.n_low

  -- what is tested after a number gives the later numbers, and none
  pass3 : (m : ℕ) → 3 ≢ m → (sheet_fault s ≡ m) ↔ (Clear3 s × (after3 s ≡ m))
  unfolding sheet_fault
  pass3 m h = unless_pass 3 (after3 s) m (ranges_find s.e s.n) h

  pass18 : (m : ℕ) → 18 ≢ m → Above 3 m → (sheet_fault s ≡ m) ↔ (Clear18 s × (after18 s ≡ m))
  pass18 m n h = further (pass3 m (above (omega arith) (omega arith) h)) (λ f. unless_pass 18 (after18 s) m (codes_find s.e s.codes) n)

  pass5 : (m : ℕ) → 18 ≢ m → Above 5 m → (sheet_fault s ≡ m) ↔ (Clear5 s × (after5 s ≡ m))
  pass5 m n h = further (pass18 m n (less (omega arith) h)) (λ f. unless_pass 5 (after5 s) m (counts_find s) (above (omega arith) (omega arith) h))

  pass6 : (m : ℕ) → 18 ≢ m → Above 6 m → (sheet_fault s ≡ m) ↔ (Clear6 s × (after6 s ≡ m))
  pass6 m n h = further (pass5 m n (less (omega arith) h)) (λ f. unless_pass 6 (after6 s) m (successors_find s) (above (omega arith) (omega arith) h))

  pass7 : (m : ℕ) → 18 ≢ m → Above 7 m → (sheet_fault s ≡ m) ↔ (Clear7 s × (after7 s ≡ m))
  pass7 m n h = further (pass6 m n (less (omega arith) h)) (λ f. unless_pass 7 (after7 s) m (finds_7 f.0.0.0) (above (omega arith) (omega arith) h))

  -- the tests from 8 on, from 7 on and from 6 on give no other number, earlier ones and 18 among them, but 0
  not8 : {m : ℕ} → 0 < m → 8 ≢ m → after7 s ≢ m
  not8 z n = unless_other (reached_ok s) n (λ p. omega arith)

  not7 : {m : ℕ} → 0 < m → (m < 7) ⊎ (8 < m) → after6 s ≢ m
  not7 z (inl l) = unless_other (sets_ok s && (blanks_ok s && codes_blank s.e s.codes)) (λ p. omega arith) (not8 z (λ p. omega arith))
  not7 z (inr l) = unless_other (sets_ok s && (blanks_ok s && codes_blank s.e s.codes)) (λ p. omega arith) (not8 z (λ p. omega arith))

  not6 : {m : ℕ} → 0 < m → (m < 6) ⊎ (8 < m) → after5 s ≢ m
  not6 z (inl l) = unless_other (successors_ok s) (λ p. omega arith) (not7 z (inl (omega arith)))
  not6 z (inr l) = unless_other (successors_ok s) (λ p. omega arith) (not7 z (inr l))

  pub check_3 : (sheet_fault s ≡ 3) ↔ RangeFault s.e s.n
  unfolding sheet_fault
  check_3 =
      unless_hit 3 (after3 s) (ranges_find s.e s.n)
      (unless_other (codes_ok s.e s.codes) (λ p. omega arith) (unless_other (counts_ok s) (λ p. omega arith) (not6 (omega arith) (inl (omega arith)))))

  pub check_18 : (sheet_fault s ≡ 18) ↔ (Clear3 s × CodeTwice s.e s.codes)
  check_18 =
      finally (pass3 18 (λ p. omega arith))
      (λ f. unless_hit 18 (after18 s) (codes_find s.e s.codes) (unless_other (counts_ok s) (λ p. omega arith) (not6 (omega arith) (inr (omega arith)))))

  pub check_5 : (sheet_fault s ≡ 5) ↔ (Clear18 s × CountFault s)
  check_5 = finally (pass18 5 (λ p. omega arith) (inl (omega arith))) (λ f. unless_hit 5 (after5 s) (counts_find s) (not6 (omega arith) (inl (omega arith))))

  pub check_6 : (sheet_fault s ≡ 6) ↔ (Clear5 s × SuccessorFault s)
  check_6 = finally (pass5 6 (λ p. omega arith) (inl (omega arith))) (λ f. unless_hit 6 (after6 s) (successors_find s) (not7 (omega arith) (inl (omega arith))))

  pub check_7 : (sheet_fault s ≡ 7) ↔ (Clear6 s × (SetFault s ⊎ UnusedFault s))
  check_7 = finally (pass6 7 (λ p. omega arith) (inl (omega arith))) (λ f. unless_hit 7 (after7 s) (finds_7 f.0.0.0) (not8 (omega arith) (λ p. omega arith)))

  pub check_8 : (sheet_fault s ≡ 8) ↔ (Clear7 s × ReachFault s)
  check_8 = finally (pass7 8 (λ p. omega arith) (inl (omega arith))) (λ f. unless_hit 8 0 (finds_8 f.0.0.0.0) (λ p. omega arith))

  -- a kept sheet gets no refusal exactly if it has no fault
  pub check_0 : (sheet_fault s ≡ 0) ↔ (Clear7 s × (¬ ReachFault s))
  check_0 = finally (pass7 0 (λ p. omega arith) (inr refl)) (λ f. unless_none 8 (finds_8 f.0.0.0.0) (λ p. omega arith))

  -- a kept sheet gets no other number than 0, 3, 18, 5, 6, 7 and 8
  pub check_numbers : (m : ℕ) → sheet_fault s ≡ m → (m ≡ 0) ⊎ ((m ≡ 3) ⊎ ((m ≡ 18) ⊎ ((m ≡ 5) ⊎ ((m ≡ 6) ⊎ ((m ≡ 7) ⊎ (m ≡ 8))))))
  unfolding sheet_fault
  check_numbers m e =
      go (ranges_ok s.e s.n) (codes_ok s.e s.codes) (counts_ok s) (successors_ok s) (sets_ok s && (blanks_ok s && codes_blank s.e s.codes)) (reached_ok s) e
    where
      go : (a b c d f g : Bool) → unless a 3 (unless b 18 (unless c 5 (unless d 6 (unless f 7 (unless g 8 0))))) ≡ m
          → (m ≡ 0) ⊎ ((m ≡ 3) ⊎ ((m ≡ 18) ⊎ ((m ≡ 5) ⊎ ((m ≡ 6) ⊎ ((m ≡ 7) ⊎ (m ≡ 8))))))
      go false b c d f g p = inr (inl (sym p))
      go true false c d f g p = inr (inr (inl (sym p)))
      go true true false d f g p = inr (inr (inr (inl (sym p))))
      go true true true false f g p = inr (inr (inr (inr (inl (sym p)))))
      go true true true true false g p = inr (inr (inr (inr (inr (inl (sym p))))))
      go true true true true true false p = inr (inr (inr (inr (inr (inr (sym p))))))
      go true true true true true true p = inl (sym p)

  -- the refusal of a kept sheet is one of a sheet's own numbers
  pub check_own : sheet_fault s ≢ 0 → Own (sheet_fault s)
  check_own n = (omega (arith, n), go (check_numbers (sheet_fault s) refl))
    where
      go : (sheet_fault s ≡ 0) ⊎ ((sheet_fault s ≡ 3) ⊎ ((sheet_fault s ≡ 18) ⊎ ((sheet_fault s ≡ 5) ⊎ ((sheet_fault s ≡ 6) ⊎ ((sheet_fault s ≡ 7) ⊎ (sheet_fault s ≡ 8))))))
          → (sheet_fault s ≤ 8) ⊎ (sheet_fault s ≡ 18)
      go (inl p) = inl (omega arith)
      go (inr (inl p)) = inl (omega arith)
      go (inr (inr (inl p))) = inr p
      go (inr (inr (inr (inl p)))) = inl (omega arith)
      go (inr (inr (inr (inr (inl p))))) = inl (omega arith)
      go (inr (inr (inr (inr (inr (inl p)))))) = inl (omega arith)
      go (inr (inr (inr (inr (inr (inr p)))))) = inl (omega arith)

  -- the number that a kept sheet gets is at most 18
  pub check_below : sheet_fault s ≤ 18
  check_below = go (ℕ_discrete (sheet_fault s) 0)
    where
      own : (sheet_fault s ≤ 8) ⊎ (sheet_fault s ≡ 18) → sheet_fault s ≤ 18
      own (inl l) = omega arith
      own (inr p) = omega arith

      go : Dec (sheet_fault s ≡ 0) → sheet_fault s ≤ 18
      go (yes p) = omega arith
      go (no n) = own (check_own n).1

  -- a kept sheet gets no number that is not a sheet's own
  pub check_other : (m : ℕ) → NotOwn m → sheet_fault s ≢ m
  check_other m h p = own_other (check_own (λ z. omega (arith, h.0))) h (sym p)
