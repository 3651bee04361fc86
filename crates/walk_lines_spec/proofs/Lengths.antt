-- Nothing to believe: laws. Every text fits in the list that the program puts it in.
use Rattle.std.specs.Prelude.{◌≡◌, ◌⊎◌, cond, List, [], ◌∷◌, ◌++◌, ℕ, suc, ◌*◌, ◌≤◌, ◌<◌, eqb, length}
use Rattle.std.proofs.Common.{inl, inr, arith, eq-eqb, ne_eqb, length-append}
use Rattle.std.proofs.Math.Decide.{ℕ_discrete}
use Rattle.sheet_spec.specs.declared.Sheet.{Sheet}
use Rattle.sheet_spec.specs.declared.ReadSheet.{ReadSheet}
use Rattle.sheet_spec.specs.Kept.{row, successor, Walk}
use Rattle.sheet_spec.specs.Reading.{read_sheet}
use Rattle.sheet_spec.specs.Refusals.{sheet_fault, Own}
use Rattle.sheet_spec.proofs.AnswerLaws.{read_kept}
use Rattle.sheet_spec.proofs.SoundLaws.{check_sound}
use Rattle.load_spec.specs.Walks.{walk_of}
use Rattle.load_spec.specs.Calls.{walk_fault}
use Rattle.load_spec.proofs.WalkLaws.{walk_short, walk_trace}
use Rattle.load_spec.proofs.CallLaws.{walk_0, walk_numbers_lem}
use Rattle.text_spec.specs.Lines.{ascii, decimal, event_list, sheet_line}
use Rattle.text_spec.specs.Input.{cut_input}
use Rattle.text_spec.proofs.DecimalLaws.{decimal_few}
use Rattle.text_spec.proofs.LengthLaws.{sheet_length}
use Rattle.text_sheet_spec.specs.Head.{head_line}
use Rattle.text_sheet_spec.proofs.ShowLaws.{head_accepted}
use Rattle.text_sheet_spec.proofs.Lengths.{head_length}
use Rattle.walk_lines_spec.specs.Program.{seed_of, wish_of, lent, walked_lines, read_lines, walk_text}
use Rattle.walk_lines_spec.specs.Says.{walked_text, refused_text}
use Rattle.walk_lines_spec.proofs.ProgramLaws.{lines_denied, lines_walked}

-- the events of a walk have at most two digits
events_short : (s : Sheet) → s.e ≤ 12 → (u : ℕ) (t : List ℕ) (v : ℕ) → Walk s u t v → length (event_list t) ≤ 3 * length t
unfolding Walk event_list
events_short s h u [] v w = omega arith
events_short s h u (i ∷ t) v (l, k, w) = one (events_short s h (successor (row s u) i) t v w)
  where
    one : length (event_list t) ≤ 3 * length t → length ((ascii " " ++ decimal i) ++ event_list t) ≤ 3 * suc (length t)
    one ih = omega (arith, length-append (ascii " " ++ decimal i) (event_list t), length-append (ascii " ") (decimal i), decimal_few 1 i (omega (arith, k, h)))

walked_length : (wish : ℕ) (t : List ℕ) → wish ≤ 4096 → length t ≤ wish → length (event_list t) ≤ 3 * length t → length (walked_text wish t) ≤ 12314
walked_length wish t h l k =
    omega (
      arith,
      length-append (ascii "walked ") (decimal (length t) ++ (ascii " of " ++ (decimal wish ++ (ascii "\ntrace" ++ (event_list t ++ ascii "\n"))))),
      length-append (decimal (length t)) (ascii " of " ++ (decimal wish ++ (ascii "\ntrace" ++ (event_list t ++ ascii "\n")))),
      length-append (ascii " of ") (decimal wish ++ (ascii "\ntrace" ++ (event_list t ++ ascii "\n"))),
      length-append (decimal wish) (ascii "\ntrace" ++ (event_list t ++ ascii "\n")),
      length-append (ascii "\ntrace") (event_list t ++ ascii "\n"),
      length-append (event_list t) (ascii "\n"),
      decimal_few 3 (length t) (omega (arith, h, l)),
      decimal_few 3 wish (omega (arith, h)),
    )

refused_length : (m : ℕ) → m < 100 → length (refused_text m) ≤ 16
refused_length m h = omega (arith, length-append (ascii "walk refused ") (decimal m ++ ascii "\n"), length-append (decimal m) (ascii "\n"), decimal_few 1 m h)

-- the lines after that of an accepted sheet
lines_length : (seed wish : ℕ) (s : Sheet) → sheet_fault s ≡ 0 → length (walked_lines seed wish s) ≤ 12314
lines_length seed wish s acc = go (ℕ_discrete (walk_fault s seed wish lent) 0)
  where
    small : (walk_fault s seed wish lent ≡ 0) ⊎ (Own (walk_fault s seed wish lent) ⊎ ((walk_fault s seed wish lent ≡ 27) ⊎ (walk_fault s seed wish lent ≡ 28))) → walk_fault s seed wish lent < 100
    small (inl e) = omega (arith, e)
    small (inr (inl (l, inl k))) = omega (arith, k)
    small (inr (inl (l, inr k))) = omega (arith, k)
    small (inr (inr (inl e))) = omega (arith, e)
    small (inr (inr (inr e))) = omega (arith, e)

    go : Dec (walk_fault s seed wish lent ≡ 0) → length (walked_lines seed wish s) ≤ 12314
    go (yes z) =
        let t = walk_trace s acc seed wish in
        rw (lines_walked seed wish s z)
        (walked_length wish (walk_of s seed wish) ((walk_0 s seed wish lent).0 z).1.1 (walk_short s seed wish)
        (events_short s (check_sound s acc).ranges.e_high 0 (walk_of s seed wish) t.0 t.1.0))
    go (no n) = rw (lines_denied seed wish s n) (omega (arith, refused_length (walk_fault s seed wish lent) (small (walk_numbers_lem s seed wish lent))))

-- every text, whatever the words are, has at most 12,339 bytes
pub text_length : (seed wish input : List ℕ) → length (walk_text seed wish input) ≤ 12339
unfolding walk_text read_lines
text_length seed wish input = go (ℕ_discrete a.refusal 0)
  where
    a : ReadSheet
    a = read_sheet (cut_input input)

    go : Dec (a.refusal ≡ 0) → length (head_line a ++ cond (eqb a.refusal 0) (walked_lines (seed_of seed) (wish_of wish) a.sheet) []) ≤ 12339
    go (yes z) =
        let k = read_kept (cut_input input) z in
        let r = (check_sound a.sheet k).ranges in
        rw (eq-eqb a.refusal 0 z, head_accepted a z)
        (omega (
          arith,
          length-append (sheet_line (ascii "sheet ") a.sheet.n a.sheet.e) (walked_lines (seed_of seed) (wish_of wish) a.sheet),
          sheet_length (ascii "sheet ") a.sheet.n a.sheet.e (omega (arith, r.n_high)) (omega (arith, r.e_high)),
          lines_length (seed_of seed) (wish_of wish) a.sheet k,
        ))
    go (no n) = rw (ne_eqb a.refusal 0 n) (omega (arith, length-append (head_line a) [], head_length (cut_input input)))
