-- Nothing to believe: laws. The numbers that a check and a lookup answer, each exactly for its meaning.
use Rattle.std.specs.Prelude.{◌≡◌, ◌≢◌, ◌↔◌, List, ℕ, Result, Ok, Err, ◌<◌}
use Rattle.std.proofs.Math.Path.{refl, sym}
use Rattle.std.proofs.Common.{ap}
use Rattle.std.proofs.Math.Logic.Iff as Iff
use Rattle.sheet_spec.specs.declared.Sheet.{Sheet}
use Rattle.keypad_spec.specs.declared.Keypad.{Keypad}
use Rattle.keypad_spec.specs.declared.Keypad.TheVariants.{Good, Gap, Overlap}
use Rattle.keypad_spec.specs.declared.Found.{Found}
use Rattle.keypad_spec.specs.declared.Found.TheVariants.{Event, Gap as GapFound, Overlap as OverlapFound}
use Rattle.keypad_spec.specs.Tables.{rule_count, event_of}
use Rattle.keypad_spec.specs.Calls.{keypad_fault, keypad_of, found_from, found_of}
use Rattle.keypad_spec.specs.Numbers.{keyed, looked}
use Rattle.keypad_spec.proofs.Numbers.{keyed_once, looked_once}
use Rattle.keypad_spec.specs.Meaning.{Matches, GoodTable, GapAt, OverlapAt}
use Rattle.keypad_spec.proofs.CallLaws.{check_good, check_gap, check_overlap, check_denied, found_from_lem, find_event, find_gap, find_overlap, find_denied}

-- an answer has the numbers of a case exactly if it is that case
as_keyed : (x a : Result Keypad ℕ) → (keyed x ≡ keyed a) ↔ (x ≡ a)
as_keyed x a = (keyed_once x a, λ e. ap keyed e)

as_looked : (x a : Result Found ℕ) → (looked x ≡ looked a) ↔ (x ≡ a)
as_looked x a = (looked_once x a, λ e. ap looked e)

module _ (s : Sheet) (b : List ℕ) where
  -- a check: 31 for a good table; 32 and the code of a gap; 33, the code and the two rules of an overlap; 0 and the
  -- number of a refusal
  pub kind_31 : (keyed (keypad_of s b) ≡ record { refusal = 0; kind = 31; code = 0; first = 0; second = 0 }) ↔ ((keypad_fault s b ≡ 0) × GoodTable b)
  unfolding keyed
  kind_31 = Iff.trans (as_keyed (keypad_of s b) (Ok Good)) (check_good s b)

  pub kind_32 : (c : ℕ) → (keyed (keypad_of s b) ≡ record { refusal = 0; kind = 32; code = c; first = 0; second = 0 }) ↔ ((keypad_fault s b ≡ 0) × GapAt b c)
  unfolding keyed
  kind_32 c = Iff.trans (as_keyed (keypad_of s b) (Ok (Gap c))) (check_gap s b c)

  pub kind_33 : (c i k : ℕ)
      → (keyed (keypad_of s b) ≡ record { refusal = 0; kind = 33; code = c; first = i; second = k }) ↔ ((keypad_fault s b ≡ 0) × OverlapAt b c i k)
  unfolding keyed
  kind_33 c i k = Iff.trans (as_keyed (keypad_of s b) (Ok (Overlap c i k))) (check_overlap s b c i k)

  pub kind_0 : (m : ℕ) → (keyed (keypad_of s b) ≡ record { refusal = m; kind = 0; code = 0; first = 0; second = 0 }) ↔ ((m ≢ 0) × (keypad_fault s b ≡ m))
  unfolding keyed
  kind_0 m = Iff.trans (as_keyed (keypad_of s b) (Err m)) (check_denied s b m)

  -- the refusal that a check tells is that of the call, 0 for none
  pub keypad_refusal : (keyed (keypad_of s b)).refusal ≡ keypad_fault s b
  unfolding keyed
  keypad_refusal = go (keypad_of s b) refl
    where
      go : (a : Result Keypad ℕ) → keypad_of s b ≡ a → (keyed a).refusal ≡ keypad_fault s b
      go (Ok Good) e = sym ((check_good s b).0 e).0
      go (Ok (Gap c)) e = sym ((check_gap s b c).0 e).0
      go (Ok (Overlap c i k)) e = sym ((check_overlap s b c i k).0 e).0
      go (Err m) e = sym ((check_denied s b m).0 e).1

  module _ (c : ℕ) where
    -- a lookup: 34 and the event of the rule that matches; else the numbers of the check, whatever code is asked
    pub kind_34 : c < 256 → (e : ℕ)
        → (looked (found_of s b c) ≡ record { refusal = 0; kind = 34; event = e; code = 0; first = 0; second = 0 })
        ↔ ((keypad_fault s b ≡ 0) × GoodTable b × ((i : ℕ) × (i < rule_count b) × Matches b c i × (event_of b i ≡ e)))
    unfolding looked
    kind_34 h e = Iff.trans (as_looked (found_of s b c) (Ok (Event e))) (find_event s b c h e)

    pub found_32 : (d : ℕ)
        → (looked (found_of s b c) ≡ record { refusal = 0; kind = 32; event = 0; code = d; first = 0; second = 0 }) ↔ ((keypad_fault s b ≡ 0) × GapAt b d)
    unfolding looked
    found_32 d = Iff.trans (as_looked (found_of s b c) (Ok (GapFound d))) (Iff.trans (find_gap s b c d) (check_gap s b d))

    pub found_33 : (d i k : ℕ)
        → (looked (found_of s b c) ≡ record { refusal = 0; kind = 33; event = 0; code = d; first = i; second = k }) ↔ ((keypad_fault s b ≡ 0) × OverlapAt b d i k)
    unfolding looked
    found_33 d i k = Iff.trans (as_looked (found_of s b c) (Ok (OverlapFound d i k))) (Iff.trans (find_overlap s b c d i k) (check_overlap s b d i k))

    pub found_0 : (m : ℕ)
        → (looked (found_of s b c) ≡ record { refusal = m; kind = 0; event = 0; code = 0; first = 0; second = 0 }) ↔ ((m ≢ 0) × (keypad_fault s b ≡ m))
    unfolding looked
    found_0 m = Iff.trans (as_looked (found_of s b c) (Err m)) (Iff.trans (find_denied s b c m) (check_denied s b m))

    -- the refusal that a lookup tells is that of the call too
    pub found_refusal : (looked (found_of s b c)).refusal ≡ keypad_fault s b
    unfolding looked found_from
    found_refusal = go (keypad_of s b) refl
      where
        go : (a : Result Keypad ℕ) → keypad_of s b ≡ a → (looked (found_of s b c)).refusal ≡ keypad_fault s b
        go (Ok Good) e = rw (found_from_lem s b c e) (sym ((check_good s b).0 e).0)
        go (Ok (Gap d)) e = rw ((find_gap s b c d).1 e) (sym ((check_gap s b d).0 e).0)
        go (Ok (Overlap d i k)) e = rw ((find_overlap s b c d i k).1 e) (sym ((check_overlap s b d i k).0 e).0)
        go (Err m) e = rw ((find_denied s b c m).1 e) (sym ((check_denied s b m).0 e).1)
