-- Nothing to believe: laws. What `bound_pair` writes: the lines of a pair exactly for the words of its two numbers, the
-- refusal exactly where one of the words is none; the bytes of the two sheets, which reach the bound; and the lines
-- tell their lengths and the first test of theirs that fails.
use Rattle.std.specs.Prelude.{◌≡◌, ◌⊎◌, ◌↔◌, ◌≢◌, Bool, List, [], ◌++◌, ℕ, Ok, Err, ◌+◌, ◌-◌, ◌*◌, ◌<◌, length, get_or}
use Rattle.std.proofs.Common.{sym, ◌∙◌, inl, inr, arith}
use Rattle.std.proofs.Math.Path.{ap}
use Rattle.std.proofs.Math.ListN.{length-replicate}
use Rattle.bound_spec.specs.Sheets.{reference_bytes, device_bytes}
use Rattle.bound_spec.specs.Calls.{bound_fault, reference_after, device_after}
use Rattle.bound_spec.proofs.CallLaws.{InRange, OutOfRange, bound_30, bound_0, bound_denied, bound_given, reference_front, device_front}
use Rattle.bound_spec.proofs.ByteLaws.{reference_length_lem, device_length_lem}
use Rattle.bound_spec.specs.Bound.{ReachesBound}
use Rattle.bound_spec.proofs.Theorem.{bytes_reach}
use Rattle.verdicts_spec.specs.declared.Verdict.TheVariants.{Passes, Fails}
use Rattle.verdicts_spec.specs.Verdicts.{verdict_of}
use Rattle.text_spec.specs.Lines.{ascii, decimal}
use Rattle.bound_lines_spec.specs.Lines.{reference_part, device_part}
use Rattle.bound_lines_spec.specs.Program.{size_of, lent_reference, lent_device, answered, told_of, said_of, bound_text, bound_error}
use Rattle.bound_lines_spec.specs.Says.{IsSize, NoSize, pair_text, refused_text, words_text}
use Rattle.bound_lines_spec.proofs.WordLaws.{size_is, size_in, size_out, size_or_none, asked_lines, asked_reference, asked_device, asked_nothing}
use Rattle.bound_lines_spec.proofs.LineLaws.{pair_parts, thirty_parts, part_lengths, part_denied, not_refused, pair_tells}

-- ---- the call with the program's lists

module _ (p q : ℕ) where
  -- with numbers in range it is not refused: the lists have room for the longest sheets
  given_room : InRange p → InRange q → bound_fault p q lent_reference lent_device ≡ 0
  unfolding lent_reference lent_device
  given_room x y =
      (bound_0 p q lent_reference lent_device).1 ((x, y), (omega (arith, x.1, length-replicate {A = ℕ} 229 0), omega (arith, y.1, length-replicate {A = ℕ} 167 0)))

  pub answered_given : InRange p → InRange q → answered p q ≡ Ok (record { reference = 7 * p + 5; device = 5 * q + 7 })
  unfolding answered
  answered_given x y = bound_given p q lent_reference lent_device (given_room x y)

  -- else it is, with 30
  pub answered_denied : OutOfRange p ⊎ OutOfRange q → answered p q ≡ Err 30
  unfolding answered
  answered_denied f =
      let e = (bound_30 p q lent_reference lent_device).1 f in
      bound_denied p q lent_reference lent_device (λ z. omega (arith, e, z)) ∙ ap Err e

  -- the bytes at the fronts of its lists
  pub reference_taken : InRange p → InRange q → reference_part (answered p q) (reference_after p q lent_reference lent_device) ≡ reference_bytes p
  reference_taken x y =
      rw (answered_given x y)
      ((part_lengths (7 * p + 5) (5 * q + 7) (reference_after p q lent_reference lent_device)).0 ∙ reference_front p q lent_reference lent_device (given_room x y))

  pub device_taken : InRange p → InRange q → device_part (answered p q) (device_after p q lent_reference lent_device) ≡ device_bytes q
  device_taken x y =
      rw (answered_given x y)
      ((part_lengths (7 * p + 5) (5 * q + 7) (device_after p q lent_reference lent_device)).1 ∙ device_front p q lent_reference lent_device (given_room x y))

-- ---- the texts

-- both words are numbers of nodes, or one is none
both_or_none : (p q : List ℕ) → ((n : ℕ) × (m : ℕ) × IsSize p n × IsSize q m) ⊎ (NoSize p ⊎ NoSize q)
both_or_none p q = go (size_or_none p) (size_or_none q)
  where
    go : ((n : ℕ) × IsSize p n) ⊎ NoSize p → ((m : ℕ) × IsSize q m) ⊎ NoSize q → ((n : ℕ) × (m : ℕ) × IsSize p n × IsSize q m) ⊎ (NoSize p ⊎ NoSize q)
    go (inl (n, x)) (inl (m, y)) = inl (n, m, x, y)
    go (inl x) (inr y) = inr (inr y)
    go (inr x) y = inr (inl x)

module _ (p q : List ℕ) where
  none_out : NoSize p ⊎ NoSize q → OutOfRange (size_of p) ⊎ OutOfRange (size_of q)
  none_out (inl f) = inl (size_out p f)
  none_out (inr f) = inr (size_out q f)

  -- two numbers of nodes: the lines of the pair, just the bytes of a sheet, and nothing on standard error
  module _ (n m : ℕ) (x : IsSize p n) (y : IsSize q m) where
    pub good_lines : bound_text p q (ascii "lines") ≡ pair_text n m
    unfolding bound_text told_of
    good_lines = rw (asked_lines, answered_given (size_of p) (size_of q) (size_in p n x) (size_in q m y)) (rw (size_is p n x, size_is q m y) (pair_parts n m))

    pub good_reference : bound_text p q (ascii "reference") ≡ reference_bytes n
    unfolding bound_text told_of
    good_reference = rw asked_reference (reference_taken (size_of p) (size_of q) (size_in p n x) (size_in q m y) ∙ ap reference_bytes (size_is p n x))

    pub good_device : bound_text p q (ascii "device") ≡ device_bytes m
    unfolding bound_text told_of
    good_device = rw asked_device (device_taken (size_of p) (size_of q) (size_in p n x) (size_in q m y) ∙ ap device_bytes (size_is q m y))

    pub good_quiet : (bound_error p q (ascii "reference") ≡ []) × (bound_error p q (ascii "device") ≡ [])
    unfolding bound_error said_of
    good_quiet = (
      rw (asked_reference, answered_given (size_of p) (size_of q) (size_in p n x) (size_in q m y)) (part_lengths _ _ []).2,
      rw (asked_device, answered_given (size_of p) (size_of q) (size_in p n x) (size_in q m y)) (part_lengths _ _ []).2,
    )

    -- the very bytes that are written reach the bound
    pub written_reach : ReachesBound n m (bound_text p q (ascii "reference")) (bound_text p q (ascii "device"))
    written_reach = rw (good_reference, good_device) (bytes_reach n m (x.2, x.3) (y.2, y.3))

    -- the lines are true of them: they tell the nodes and the lengths of both sheets and the number of the first test
    -- that fails, of the failures tests and of the trace-only ones
    pub lines_true : (trace_only : Bool) → (k : ℕ)
        × (bound_text p q (ascii "lines")
        ≡ ascii "reference " ++ (decimal written_reach.P.n ++ (ascii " nodes " ++ (decimal (length (bound_text p q (ascii "reference"))) ++ (ascii " bytes\ndevice "
        ++ (decimal written_reach.Q.n ++ (ascii " nodes " ++ (decimal (length (bound_text p q (ascii "device"))) ++ (ascii " bytes\nfirst failing test " ++ (decimal k ++ ascii "\n"))))))))))
        × (verdict_of trace_only written_reach.P written_reach.Q k ≡ Ok Fails)
        × ((j : ℕ) → j < k → verdict_of trace_only written_reach.P written_reach.Q j ≡ Ok Passes)
    lines_true trace_only = (
      n * m - 1,
      good_lines ∙ rw (
        written_reach.reference_nodes,
        written_reach.device_nodes,
        ap length good_reference ∙ reference_length_lem n x.2 x.3,
        ap length good_device ∙ device_length_lem m y.2 y.3,
      ),
      written_reach.fails trace_only,
      written_reach.passes trace_only,
    )

  -- a word that is none: the refusal, on standard output where lines are asked for, and else on standard error
  module _ (f : NoSize p ⊎ NoSize q) where
    pub bad_lines : bound_text p q (ascii "lines") ≡ refused_text
    unfolding bound_text told_of
    bad_lines = rw (asked_lines, answered_denied (size_of p) (size_of q) (none_out f)) (thirty_parts (size_of p) (size_of q))

    pub bad_reference : (bound_text p q (ascii "reference") ≡ []) × (bound_error p q (ascii "reference") ≡ refused_text)
    unfolding bound_text told_of bound_error said_of
    bad_reference = (
      rw (asked_reference, answered_denied (size_of p) (size_of q) (none_out f)) (part_denied _).0,
      rw (asked_reference, answered_denied (size_of p) (size_of q) (none_out f)) (part_denied []).2,
    )

    pub bad_device : (bound_text p q (ascii "device") ≡ []) × (bound_error p q (ascii "device") ≡ refused_text)
    unfolding bound_text told_of bound_error said_of
    bad_device = (
      rw (asked_device, answered_denied (size_of p) (size_of q) (none_out f)) (part_denied _).1,
      rw (asked_device, answered_denied (size_of p) (size_of q) (none_out f)) (part_denied []).2,
    )

  -- lines leave standard error empty
  pub lines_quiet : bound_error p q (ascii "lines") ≡ []
  unfolding bound_error said_of
  lines_quiet = rw asked_lines

  -- a third word that is none of the three: nothing but which there are, whatever the numbers
  pub says_words : (word : List ℕ) → word ≢ ascii "lines" → word ≢ ascii "reference" → word ≢ ascii "device" → (bound_text p q word ≡ []) × (bound_error p q word ≡ words_text)
  unfolding bound_text told_of bound_error said_of
  says_words word l r d = (rw (asked_nothing word l r d), rw (asked_nothing word l r d))

  -- the lines of a pair are printed exactly for its two numbers
  pub says_pair : (n m : ℕ) → (bound_text p q (ascii "lines") ≡ pair_text n m) ↔ (IsSize p n × IsSize q m)
  says_pair n m = (λ e. to e (both_or_none p q), λ s. good_lines n m s.0 s.1)
    where
      to : bound_text p q (ascii "lines") ≡ pair_text n m → ((i : ℕ) × (j : ℕ) × IsSize p i × IsSize q j) ⊎ (NoSize p ⊎ NoSize q) → IsSize p n × IsSize q m
      to e (inl (i, j, x, y)) = let w = pair_tells i j n m (sym (good_lines i j x y) ∙ e) in (rw (← w.0) x, rw (← w.1) y)
      to e (inr f) = absurd (not_refused n m (sym e ∙ bad_lines f))

  -- the refusal exactly where one of the words is none
  pub says_30 : (bound_text p q (ascii "lines") ≡ refused_text) ↔ (NoSize p ⊎ NoSize q)
  says_30 = (λ e. to e (both_or_none p q), bad_lines)
    where
      to : bound_text p q (ascii "lines") ≡ refused_text → ((i : ℕ) × (j : ℕ) × IsSize p i × IsSize q j) ⊎ (NoSize p ⊎ NoSize q) → NoSize p ⊎ NoSize q
      to e (inl (i, j, x, y)) = absurd (not_refused i j (sym (good_lines i j x y) ∙ e))
      to e (inr f) = f

  -- where bytes are asked for, the refusal stands on standard error exactly where one of the words is none
  said_30 : (word : List ℕ) → ((n m : ℕ) → IsSize p n → IsSize q m → bound_error p q word ≡ []) → (NoSize p ⊎ NoSize q → bound_error p q word ≡ refused_text)
      → (bound_error p q word ≡ refused_text) ↔ (NoSize p ⊎ NoSize q)
  said_30 word quiet bad = (λ e. to e (both_or_none p q), bad)
    where
      to : bound_error p q word ≡ refused_text → ((i : ℕ) × (j : ℕ) × IsSize p i × IsSize q j) ⊎ (NoSize p ⊎ NoSize q) → NoSize p ⊎ NoSize q
      to e (inl (i, j, x, y)) = absurd (let z = ap (λ (l : List ℕ). get_or l 0 0) (sym (quiet i j x y) ∙ e) in omega (arith, z))
      to e (inr f) = f

  pub says_reference_30 : (bound_error p q (ascii "reference") ≡ refused_text) ↔ (NoSize p ⊎ NoSize q)
  says_reference_30 = said_30 (ascii "reference") (λ n m x y. (good_quiet n m x y).0) (λ f. (bad_reference f).1)

  pub says_device_30 : (bound_error p q (ascii "device") ≡ refused_text) ↔ (NoSize p ⊎ NoSize q)
  says_device_30 = said_30 (ascii "device") (λ n m x y. (good_quiet n m x y).1) (λ f. (bad_device f).1)
