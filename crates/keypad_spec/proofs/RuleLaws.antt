-- Nothing to believe: laws. The bytes of a table are its rules, one after another, each its mask, its value and its
-- event; and bytes that are written so have just those rules.
use Rattle.std.specs.Prelude.{◌≡◌, List, [], ◌∷◌, ◌++◌, length, get_or, take}
use Rattle.std.proofs.Math.Path.{refl}
use Rattle.std.proofs.Common.{sym, ap, ◌∙◌, append_assoc, take-suc}
use Prim.Native.Nat.{ℕ, zero, suc, ◌+◌, ◌*◌, ◌≤◌, ◌<◌}
use native.Mathlib.Omega.{arith}
use Rattle.std.proofs.Math.Seq.{take-length}
use Rattle.base.specs.Joined.{joined}
use Rattle.base.proofs.JoinedLaws.{joined_more, joined_has}
use Rattle.keypad_spec.specs.Tables.{rule_count, mask, value, event_of}
use Rattle.keypad_spec.specs.Meaning.{SizeFault}
use Rattle.keypad_spec.proofs.RefusalLaws.{whole_rules}

-- the three bytes of a rule
abbrev pub rule_bytes : ℕ → ℕ → ℕ → List ℕ
rule_bytes m v e = m ∷ v ∷ e ∷ []

module _ (b : List ℕ) where
  three_more : (k : ℕ) → k + 2 < length b → take k b ++ rule_bytes (get_or b k 0) (get_or b (k + 1) 0) (get_or b (k + 2) 0) ≡ take (k + 3) b
  three_more k h =
      let x : k + 1 ≡ suc k = omega arith in
      let y : k + 2 ≡ suc (suc k) = omega arith in
      let z : k + 3 ≡ suc (suc (suc k)) = omega arith in
      rw (x, y, z) (sym all)
    where
      one : take (suc k) b ≡ take k b ++ (get_or b k 0 ∷ [])
      one = take-suc b k 0 (omega (arith, h))

      two : take (suc (suc k)) b ≡ take k b ++ (get_or b k 0 ∷ get_or b (suc k) 0 ∷ [])
      two =
          take-suc b (suc k) 0 (omega (arith, h))
          ∙ ap (λ (l : List ℕ). l ++ (get_or b (suc k) 0 ∷ [])) one
          ∙ append_assoc (take k b) (get_or b k 0 ∷ []) (get_or b (suc k) 0 ∷ [])

      all : take (suc (suc (suc k))) b ≡ take k b ++ rule_bytes (get_or b k 0) (get_or b (suc k) 0) (get_or b (suc (suc k)) 0)
      all =
          take-suc b (suc (suc k)) 0 (omega (arith, h))
          ∙ ap (λ (l : List ℕ). l ++ (get_or b (suc (suc k)) 0 ∷ [])) two
          ∙ append_assoc (take k b) (get_or b k 0 ∷ get_or b (suc k) 0 ∷ []) (get_or b (suc (suc k)) 0 ∷ [])

  first_rules : (n : ℕ) → 3 * n ≤ length b → joined (λ i. rule_bytes (mask b i) (value b i) (event_of b i)) n ≡ take (3 * n) b
  unfolding joined
  first_rules zero h = refl
  first_rules (suc n) h =
      let x : 3 * suc n ≡ 3 * n + 3 = omega arith in
      rw (first_rules n (omega (arith, h)), x) (three_more (3 * n) (omega (arith, h)))

  -- a table that has no fault of 21 is its rules, one after another
  pub rules_spelled : ¬ SizeFault b → joined (λ i. rule_bytes (mask b i) (value b i) (event_of b i)) (rule_count b) ≡ b
  rules_spelled n = let w = (whole_rules b).0 n in first_rules (rule_count b) (omega (arith, w.2)) ∙ rw (← w.2) (take-length b)

-- rules that are written one after another are the rules of the table
module _ (m v e : ℕ → ℕ) where
  written : ℕ → List ℕ
  written n = joined (λ i. rule_bytes (m i) (v i) (e i)) n

  written_length : (n : ℕ) → length (written n) ≡ 3 * n
  unfolding joined written
  written_length zero = refl
  written_length (suc n) = joined_more (λ i. rule_bytes (m i) (v i) (e i)) n ∙ omega (arith, written_length n)

  written_has : (n i y : ℕ) → i < n → y < 3 → get_or (written n) (3 * i + y) 0 ≡ get_or (rule_bytes (m i) (v i) (e i)) y 0
  unfolding written
  written_has n i y l h = rw (← written_length i) (joined_has (λ i. rule_bytes (m i) (v i) (e i)) n i y l h)

  zeroth : (n i : ℕ) → i < n → get_or (written n) (3 * i) 0 ≡ m i
  zeroth n i l = let x : 3 * i ≡ 3 * i + 0 = omega arith in ap (λ (k : ℕ). get_or (written n) k 0) x ∙ written_has n i 0 l (omega arith)

  pub written_rules : (n : ℕ) → (rule_count (joined (λ i. rule_bytes (m i) (v i) (e i)) n) ≡ n)
      × ((i : ℕ) → i < n → (mask (joined (λ i. rule_bytes (m i) (v i) (e i)) n) i ≡ m i)
      × (value (joined (λ i. rule_bytes (m i) (v i) (e i)) n) i ≡ v i) × (event_of (joined (λ i. rule_bytes (m i) (v i) (e i)) n) i ≡ e i))
  unfolding written
  written_rules n =
      (omega (arith, written_length n), λ i l. (zeroth n i l, written_has n i 1 l (omega arith), written_has n i 2 l (omega arith)))
