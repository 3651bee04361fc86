-- Nothing to believe: laws. What the text says, exactly when: a refused sheet its own number; of an accepted sheet, 27
-- and 28 each exactly for its words; and the lines of a list of events exactly if it is the walk of the seed.
use Rattle.std.specs.Prelude.{◌≡◌, refl, ◌⊎◌, ◌≢◌, ◌↔◌, ℕ, ◌≤◌, ◌<◌, length}
use Rattle.std.proofs.Common.{sym, ap, ◌∙◌, inl, inr, arith, length-take, ne_eqb}
use mathlib.Core.List.{List, [], ◌++◌, append-nil}
use Rattle.std.proofs.Math.Decide.{ℕ_discrete}
use Rattle.std.proofs.lemmas.List.{length-replicate}
use Rattle.base.proofs.Truth.{lt_or_ge}
use Rattle.sheet_spec.specs.declared.Sheet.{Sheet}
use Rattle.sheet_spec.specs.declared.ReadSheet.{ReadSheet}
use Rattle.sheet_spec.specs.Form.{Bytes}
use Rattle.sheet_spec.specs.Encoding.{BytesOf}
use Rattle.sheet_spec.specs.Refusals.{sheet_fault, Own}
use Rattle.sheet_spec.specs.Reading.{read_sheet, accepted}
use Rattle.sheet_spec.proofs.AnswerLaws.{read_refusal}
use Rattle.sheet_spec.proofs.EncodingLaws.{reads_as, accepted_exactly, bytes_length}
use Rattle.sheet_spec.proofs.Octets.{below_take}
use Rattle.load_spec.specs.Walks.{walk_of}
use Rattle.load_spec.specs.Calls.{walk_fault, walk_after}
use Rattle.load_spec.specs.Meaning.{Load}
use Rattle.load_spec.proofs.WalkLaws.{walk_is, walk_only}
use Rattle.load_spec.proofs.CallLaws.{walk_own, walk_27, walk_28, walk_0, walk_numbers_lem, walked_denied, walked_length, front_walk}
use Rattle.text_spec.specs.Lines.{ascii, value_from}
use Rattle.text_spec.specs.Input.{cut_input}
use Rattle.text_spec.proofs.InputLaws.{cut_short}
use Rattle.text_spec.proofs.TellLaws.{sheet_tells}
use Rattle.text_sheet_spec.specs.Head.{refused_sheet_line, head_line}
use Rattle.text_sheet_spec.proofs.ShowLaws.{head_accepted, head_refused}
use Rattle.walk_lines_spec.specs.Program.{seed_of, wish_of, lent, walked_lines, read_lines, walk_text}
use Rattle.walk_lines_spec.specs.Says.{IsSeed, IsWish, OfSheet, after_sheet, walked_text, refused_text}
use Rattle.walk_lines_spec.proofs.WordLaws.{seed_means, seed_is, wish_is, wish_means}
use Rattle.walk_lines_spec.proofs.LineLaws.{length_parts, denied_parts, not_refused, walked_tells, refused_tells}

-- ---- the lines of a sheet

pub lent_length : length lent ≡ 4096
unfolding lent
lent_length = length-replicate {A = ℕ} 4096 0

module _ (seed wish : ℕ) (s : Sheet) where
  -- a refused call: its number
  pub lines_denied : walk_fault s seed wish lent ≢ 0 → walked_lines seed wish s ≡ refused_text (walk_fault s seed wish lent)
  unfolding walked_lines
  lines_denied n = rw (walked_denied s seed wish lent n) (denied_parts wish (walk_fault s seed wish lent) (walk_after s seed wish lent))

  -- every other: the walk
  pub lines_walked : walk_fault s seed wish lent ≡ 0 → walked_lines seed wish s ≡ walked_text wish (walk_of s seed wish)
  unfolding walked_lines
  lines_walked z =
      rw (walked_length s seed wish lent z)
      (length_parts wish (length (walk_of s seed wish)) (walk_after s seed wish lent) (walk_of s seed wish) (front_walk s seed wish lent z) refl)

  -- the line of a number is printed exactly if the call is refused with it
  lines_refused : (m : ℕ) → (walked_lines seed wish s ≡ refused_text m) ↔ ((m ≢ 0) × (walk_fault s seed wish lent ≡ m))
  lines_refused m = (λ e. to e (ℕ_discrete (walk_fault s seed wish lent) 0), λ w. lines_denied (λ z. w.0 (sym w.1 ∙ z)) ∙ ap refused_text w.1)
    where
      to : walked_lines seed wish s ≡ refused_text m → Dec (walk_fault s seed wish lent ≡ 0) → (m ≢ 0) × (walk_fault s seed wish lent ≡ m)
      to e (yes z) = absurd (not_refused wish m (walk_of s seed wish) (sym (lines_walked z) ∙ e))
      to e (no n) = let q = refused_tells (walk_fault s seed wish lent) m (sym (lines_denied n) ∙ e) in ((λ z. n (q ∙ z)), q)

  -- the lines of a list of events and a wish are printed exactly if nothing is refused, the list is the walk and the
  -- wish is the wished length
  lines_walk : (w : ℕ) (t : List ℕ) → (walked_lines seed wish s ≡ walked_text w t) ↔ ((walk_fault s seed wish lent ≡ 0) × ((w ≡ wish) × (t ≡ walk_of s seed wish)))
  lines_walk w t = (λ e. to e (ℕ_discrete (walk_fault s seed wish lent) 0), from)
    where
      to : walked_lines seed wish s ≡ walked_text w t → Dec (walk_fault s seed wish lent ≡ 0) → (walk_fault s seed wish lent ≡ 0) × ((w ≡ wish) × (t ≡ walk_of s seed wish))
      to e (yes z) = let q = walked_tells wish w (walk_of s seed wish) t (sym (lines_walked z) ∙ e) in (z, (sym q.0, sym q.1))
      to e (no n) = absurd (not_refused w (walk_fault s seed wish lent) t (sym e ∙ lines_denied n))

      from : (walk_fault s seed wish lent ≡ 0) × ((w ≡ wish) × (t ≡ walk_of s seed wish)) → walked_lines seed wish s ≡ walked_text w t
      from (z, (p, q)) = rw (p, q) (lines_walked z)

-- ---- the text of an input

-- the sheet of an input, as it is read
abbrev sheet_read : List ℕ → ReadSheet
sheet_read input = read_sheet (cut_input input)

module _ (seed wish input : List ℕ) where
  -- a refused sheet: its refusal with its meaning alone, whatever the words are
  pub says_sheet : (read_sheet (cut_input input)).refusal ≢ 0 → walk_text seed wish input ≡ refused_sheet_line (read_sheet (cut_input input)).refusal
  unfolding walk_text read_lines
  says_sheet n = rw (ne_eqb (sheet_read input).refusal 0 n) (append-nil (head_line (sheet_read input)) ∙ head_refused (sheet_read input) n)

  module _ (s : Sheet) (w : OfSheet input s) where
    acc : sheet_fault s ≡ 0
    acc = w.sheet_accepted.1

    sheet_is : sheet_read input ≡ accepted s
    sheet_is =
        let few = bytes_length input s w.bytes w.sheet_accepted.0 acc in
        rw (cut_short input (omega (arith, few))) (reads_as input s w.bytes w.sheet_accepted.0 acc)

    -- an accepted sheet: its line, and those of the call
    pub text_says : walk_text seed wish input ≡ after_sheet s (walked_lines (seed_of seed) (wish_of wish) s)
    unfolding walk_text read_lines
    text_says = rw sheet_is (ap (λ (l : List ℕ). l ++ walked_lines (seed_of seed) (wish_of wish) s) (head_accepted (accepted s) refl))

    -- the lines after that of the sheet are these exactly if the text is so
    after : (l : List ℕ) → (walk_text seed wish input ≡ after_sheet s l) ↔ (walked_lines (seed_of seed) (wish_of wish) s ≡ l)
    after l = (
      λ e. (sheet_tells (ascii "sheet ") s.n s.e s.n s.e (walked_lines (seed_of seed) (wish_of wish) s) l (sym text_says ∙ e)).2,
      λ e. text_says ∙ ap (after_sheet s) e,
    )

    -- `walk refused m` exactly with the number of the refusal
    says_refused : (m : ℕ) → (walk_text seed wish input ≡ after_sheet s (refused_text m)) ↔ ((m ≢ 0) × (walk_fault s (seed_of seed) (wish_of wish) lent ≡ m))
    says_refused m = (
      λ e. (lines_refused (seed_of seed) (wish_of wish) s m).0 ((after (refused_text m)).0 e),
      λ f. (after (refused_text m)).1 ((lines_refused (seed_of seed) (wish_of wish) s m).1 f),
    )

    -- no refusal: both words are numbers in their range
    words_good : (walk_fault s (seed_of seed) (wish_of wish) lent ≡ 0) ↔ (IsSeed seed × IsWish wish)
    words_good = (
      λ z. let f = (walk_0 s (seed_of seed) (wish_of wish) lent).0 z in ((seed_means seed).0 f.0.1, (wish_means wish).0 f.1.1),
      λ f. let l = (wish_means wish).1 f.1 in
          (walk_0 s (seed_of seed) (wish_of wish) lent).1 ((acc, (seed_means seed).1 f.0), (omega (arith, l, lent_length), l)),
    )

    -- 27 exactly if the first word is no number of 1 to 4,294,967,295, whatever the second is
    pub says_27 : (walk_text seed wish input ≡ after_sheet s (refused_text 27)) ↔ (¬ IsSeed seed)
    says_27 = (to, from)
      where
        to : walk_text seed wish input ≡ after_sheet s (refused_text 27) → ¬ IsSeed seed
        to e i = (seed_means seed).1 i ((walk_27 s (seed_of seed) (wish_of wish) lent).0 ((says_refused 27).0 e).1).1

        from : ¬ IsSeed seed → walk_text seed wish input ≡ after_sheet s (refused_text 27)
        from n = (says_refused 27).1 ((λ z. omega (arith, z)), (walk_27 s (seed_of seed) (wish_of wish) lent).1 (acc, zero_seed (ℕ_discrete (seed_of seed) 0)))
          where
            zero_seed : Dec (seed_of seed ≡ 0) → seed_of seed ≡ 0
            zero_seed (yes z) = z
            zero_seed (no k) = absurd (n ((seed_means seed).0 k))

    -- 28 exactly if the first is one, and the second is no number up to 4,096
    pub says_28 : (walk_text seed wish input ≡ after_sheet s (refused_text 28)) ↔ (IsSeed seed × (¬ IsWish wish))
    says_28 = (to, from)
      where
        to : walk_text seed wish input ≡ after_sheet s (refused_text 28) → IsSeed seed × (¬ IsWish wish)
        to e =
            let f = (walk_28 s (seed_of seed) (wish_of wish) lent).0 ((says_refused 28).0 e).1 in
            ((seed_means seed).0 f.0.1, λ i. over ((wish_means wish).1 i) f.1)
          where
            over : wish_of wish ≤ 4096 → (length lent < wish_of wish) ⊎ (4096 < wish_of wish) → ⊥
            over l (inl k) = omega (arith, l, k, lent_length)
            over l (inr k) = omega (arith, l, k)

        from : IsSeed seed × (¬ IsWish wish) → walk_text seed wish input ≡ after_sheet s (refused_text 28)
        from (i, n) = (says_refused 28).1 ((λ z. omega (arith, z)), (walk_28 s (seed_of seed) (wish_of wish) lent).1 ((acc, (seed_means seed).1 i), inr (long (lt_or_ge 4096 (wish_of wish)))))
          where
            long : (4096 < wish_of wish) ⊎ (wish_of wish ≤ 4096) → 4096 < wish_of wish
            long (inl l) = l
            long (inr l) = absurd (n ((wish_means wish).0 l))

    -- `walk refused m` names no other number than 27 and 28
    pub says_only_27_28 : (m : ℕ) → walk_text seed wish input ≡ after_sheet s (refused_text m) → (m ≡ 27) ⊎ (m ≡ 28)
    says_only_27_28 m e =
        let x = (says_refused m).0 e in
        rw (← x.1) (go (walk_numbers_lem s (seed_of seed) (wish_of wish) lent) (λ z. x.0 (sym x.1 ∙ z)))
      where
        go : (walk_fault s (seed_of seed) (wish_of wish) lent ≡ 0) ⊎ (Own (walk_fault s (seed_of seed) (wish_of wish) lent) ⊎ ((walk_fault s (seed_of seed) (wish_of wish) lent ≡ 27) ⊎ (walk_fault s (seed_of seed) (wish_of wish) lent ≡ 28)))
            → walk_fault s (seed_of seed) (wish_of wish) lent ≢ 0 → (walk_fault s (seed_of seed) (wish_of wish) lent ≡ 27) ⊎ (walk_fault s (seed_of seed) (wish_of wish) lent ≡ 28)
        go (inl z) n = absurd (n z)
        go (inr (inl o)) n = absurd (let z = (walk_own s (seed_of seed) (wish_of wish) lent _ o).0 refl in n (sym z ∙ acc))
        go (inr (inr f)) n = f

    -- the lines of a list of events and a wish are printed exactly if both words are in range, the wish is the number
    -- that the second writes, and the list is the walk that the paper says
    pub says_walk : (w : ℕ) (t : List ℕ) → (walk_text seed wish input ≡ after_sheet s (walked_text w t))
        ↔ ((IsSeed seed × IsWish wish) × ((w ≡ value_from 0 wish) × Load s (value_from 0 seed) (value_from 0 wish) t))
    says_walk w t = (to, from)
      where
        Given : Type 0
        Given = (IsSeed seed × IsWish wish) × ((w ≡ value_from 0 wish) × Load s (value_from 0 seed) (value_from 0 wish) t)

        to : walk_text seed wish input ≡ after_sheet s (walked_text w t) → Given
        to e =
            let x = (lines_walk (seed_of seed) (wish_of wish) s w t).0 ((after (walked_text w t)).0 e) in
            let f = words_good.0 x.0 in
            (f, (x.1.0 ∙ wish_is wish f.1, rw (x.1.1, seed_is seed f.0, wish_is wish f.1) (walk_is s acc (value_from 0 seed) (value_from 0 wish))))

        from : Given → walk_text seed wish input ≡ after_sheet s (walked_text w t)
        from (f, (p, l)) =
            let q : t ≡ walk_of s (seed_of seed) (wish_of wish) = walk_only s acc (value_from 0 seed) (value_from 0 wish) t l ∙ rw (seed_is seed f.0, wish_is wish f.1) in
            (after (walked_text w t)).1 ((lines_walk (seed_of seed) (wish_of wish) s w t).1 (words_good.1 f, (p ∙ sym (wish_is wish f.1), q)))

-- ---- every input

-- the sheet is accepted exactly if the input is the bytes of one
pub sheet_exactly : (input : List ℕ) → Bytes input → ((read_sheet (cut_input input)).refusal ≡ 0) ↔ ((s : Sheet) × OfSheet input s)
unfolding cut_input
sheet_exactly input y = (to, λ x. ap (λ (a : ReadSheet). a.refusal) (sheet_is [] [] input x.0 x.1))
  where
    whole : (s : Sheet) → cut_input input ≡ input → BytesOf (cut_input input) s → BytesOf input s
    whole s e b = rw e at b

    to : (sheet_read input).refusal ≡ 0 → (s : Sheet) × OfSheet input s
    to h =
        let x = (accepted_exactly (cut_input input) (below_take 256 4096 input (omega arith) y)).0 (sym (read_refusal (cut_input input)) ∙ h) in
        let few = bytes_length (cut_input input) x.0 x.3 x.1 x.2 in
        (x.0, record { sheet_accepted = (x.1, x.2); bytes = whole x.0 (cut_short input (omega (arith, few, length-take 4096 input))) x.3 })
