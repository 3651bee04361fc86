-- What the words of faults hold: the device nodes at which a test fails beside a node of the reference.
use mathlib.Core.Path.{◌≡◌, refl, ◌∙◌}
use mathlib.Core.Bool.{Bool, true, false, not, ◌&&◌, ◌||◌, cond}
use mathlib.Core.List.{List}
use Prim.Native.Nat.{ℕ, ◌≤◌, ◌<◌}
use native.Mathlib.Omega.{arith}
use lib.Bits.{bit_or}
use lib.ListN.{get_or}
use Rattle.base.proofs.Truth.{or_false}
use Rattle.base.specs.Table.{up_to}
use Rattle.base.proofs.Table.{get_or_up_to}
use Rattle.events.specs.Bit.{set_of}
use Rattle.sheet_spec.specs.declared.Row.{Row}
use Rattle.sheet_spec.specs.Kept.{may_stop}
use Rattle.refinement_spec.specs.ViolatingPairs.{has_stray, has_refusal, violates}
use Rattle.sheet_rows.specs.Tables.{row_in, initials_in}
use Rattle.verdicts_tables.specs.Shapes.{stray_word, stop_word, refusal_word, early_word, late_word, stray_words, early_words, late_words, stray_table, early_table, late_table}
use Rattle.events.proofs.Gathered.{or_set_of, set_of_ext}

-- "or" and "and" where one side is known
none : (x y : Bool) → x ≡ (x || (true && (y && false)))
none true y = refl
none false true = refl
none false false = refl

some : (x y : Bool) → (x || y) ≡ (x || (true && (y && true)))
some true y = refl
some false true = refl
some false false = refl

module _ (trace_only : Bool) (mine theirs : List Row) (q e : ℕ) where
  -- a test fails at the pair (n, m) with events to go
  abbrev pub early : ℕ → ℕ → Bool
  early n m = has_stray e (row_in mine n) (row_in theirs m) || (not trace_only && (may_stop (row_in theirs m) && not (may_stop (row_in mine n))))

  -- a test fails at the pair (n, m) with no event to go
  abbrev pub late : ℕ → ℕ → Bool
  late n m = violates trace_only e (row_in mine n) (row_in theirs m)

  module _ (small : q ≤ 32) where
    -- the word of the strays beside node n of the reference: the device's nodes that have one
    stray_is : (n : ℕ) → n < 32 → get_or (stray_table mine theirs q e) n 0 ≡ set_of (λ m. has_stray e (row_in mine n) (row_in theirs m)) q
    unfolding stray_words stray_word initials_in has_stray
    stray_is n l =
        get_or_up_to (stray_words (up_to (initials_in e mine) 32) (up_to (initials_in e theirs) 32) q) 32 n 0 l
        ∙ rw (get_or_up_to (initials_in e mine) 32 n 0 l) (set_of_ext _ _ q (λ m k. rw (get_or_up_to (initials_in e theirs) 32 m 0 (omega arith))))

    pub early_is : (n : ℕ) → n < 32 → get_or (early_table trace_only mine theirs q e) n 0 ≡ set_of (early n) q
    unfolding early_words early_word stop_word
    early_is n l = get_or_up_to (early_words trace_only (stray_table mine theirs q e) mine (stop_word theirs q)) 32 n 0 l ∙ rw (stray_is n l) (go trace_only (may_stop (row_in mine n)))
      where
        s : ℕ → Bool
        s m = has_stray e (row_in mine n) (row_in theirs m)

        t : ℕ → Bool
        t m = may_stop (row_in theirs m)

        go : (a b : Bool) → cond (a || b) (set_of s q) (bit_or (set_of s q) (set_of t q)) ≡ set_of (λ m. s m || (not a && (t m && not b))) q
        go true b = set_of_ext s (λ m. s m || false) q (λ m k. or_false (s m))
        go false true = set_of_ext s (λ m. s m || (true && (t m && false))) q (λ m k. none (s m) (t m))
        go false false = or_set_of s t q ∙ set_of_ext (λ m. s m || t m) (λ m. s m || (true && (t m && true))) q (λ m k. some (s m) (t m))

    pub late_is : (n : ℕ) → n < 32 → get_or (late_table trace_only mine theirs q e) n 0 ≡ set_of (late n) q
    unfolding late_words late_word refusal_word violates
    late_is n l = get_or_up_to (late_words trace_only (stray_table mine theirs q e) mine theirs q) 32 n 0 l ∙ rw (stray_is n l) (go trace_only)
      where
        s : ℕ → Bool
        s m = has_stray e (row_in mine n) (row_in theirs m)

        r : ℕ → Bool
        r m = has_refusal (row_in mine n) (row_in theirs m)

        go : (a : Bool) → cond a (set_of s q) (bit_or (set_of s q) (set_of r q)) ≡ set_of (λ m. s m || (not a && r m)) q
        go true = set_of_ext s (λ m. s m || false) q (λ m k. or_false (s m))
        go false = or_set_of s r q
