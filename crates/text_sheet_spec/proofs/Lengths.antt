-- Nothing to believe: laws. How long the texts can be: nothing is ever cut where `show` has 65,536 bytes and the text
-- of a node in `probe_list` 262,144.
use Rattle.std.specs.Prelude.{◌≡◌, refl, ◌⊎◌, Bool, true, false, cond, ℕ, ◌*◌, ◌^◌, ◌≤◌, ◌<◌, eqb, get_or}
use Rattle.std.proofs.Common.{inl, inr, pow_mono, eqb-true}
use mathlib.Core.List.{List, [], ◌++◌}
use Rattle.std.proofs.Math.Nat.{mul-le-mul}
use Rattle.std.proofs.Math.Decide.{ℕ_discrete}
use native.Mathlib.Omega.{arith}
use Rattle.std.proofs.Math.ListN.{length, length-append}
use Rattle.base.proofs.Truth.{dec, lt_or_ge}
use Rattle.base.specs.Joined.{joined}
use Rattle.base.proofs.JoinedLaws.{joined_length}
use Rattle.sheet_spec.specs.declared.Sheet.{Sheet}
use Rattle.sheet_spec.specs.Kept.{code_at, row, successor, acceptance, acceptances, may_stop}
use Rattle.sheet_spec.specs.Form.{Bytes, SheetForm}
use Rattle.sheet_spec.specs.Refusals.{sheet_fault}
use Rattle.sheet_spec.specs.Rules.{first_codes_ok}
use Rattle.sheet_spec.specs.Reading.{read_sheet}
use Rattle.sheet_spec.proofs.AnswerLaws.{read_refusal, read_kept}
use Rattle.sheet_spec.proofs.ReadLaws.{read_numbers_lem}
use Rattle.sheet_spec.proofs.Octets.{below_take}
use Rattle.sheet_spec.proofs.EncodingLaws.{reads, sheet_of_form}
use Rattle.sheet_spec.proofs.CheckLaws.{check_below}
use Rattle.sheet_spec.specs.Sound.{Sound}
use Rattle.sheet_spec.proofs.SoundLaws.{check_sound}
use Rattle.probes_spec.proofs.ProbeLaws.{probe_small, probe_listed}
use Rattle.probes_spec.specs.Listing.{node_probes, list_fault}
use Rattle.probes_spec.proofs.ListingLaws.{node_narrow, node_probe, node_few}
use Rattle.text_spec.specs.Lines.{ascii, decimal, number_line, sheet_line, event_list}
use Rattle.events.specs.Lists.{events_in}
use Rattle.text_spec.specs.Sets.{members, set_words}
use Rattle.text_spec.proofs.DecimalLaws.{decimal_few}
use Rattle.text_spec.specs.Input.{cut_input}
use Rattle.text_spec.proofs.LengthLaws.{number_length, sheet_length, events_length as set-events-length, set_length}
use Rattle.text_sheet_spec.specs.Head.{rule_words, refusal_words, refused_sheet_line, head_line}
use Rattle.text_sheet_spec.specs.Show.{code_line, codes_lines, event_line, successor_line, accepts_line, acceptance_line, rest_lines, row_lines, node_lines, body_lines, show_lines, show_text}
use Rattle.text_sheet_spec.proofs.NodeLaws.{line_stop, line_probes, line_sheet, line_9}
use Rattle.text_sheet_spec.specs.Node.{probe_space, place_words, set_list, probes_line, may_stop_line, denied_line, node_line, optional, optional_line, optional_text, node_text}

-- ---- the first line

-- a choice between two texts is no longer than the longer
pick_length : (b : Bool) (x y : List ℕ) (k : ℕ) → length x ≤ k → length y ≤ k → length (cond b x y) ≤ k
pick_length true x y k p q = p
pick_length false x y k p q = q

le_self : (n : ℕ) → n ≤ n
le_self n = omega arith

rule_length : (k : ℕ) → length (rule_words k) ≤ 38
unfolding rule_words
rule_length k =
    pick_length (eqb k 5) _ _ 38 (omega arith)
    (pick_length (eqb k 6) _ _ 38 (omega arith)
    (pick_length (eqb k 7) _ _ 38 (omega arith)
    (pick_length (eqb k 8) _ _ 38 (omega arith) (pick_length (eqb k 18) _ _ 38 (omega arith) (omega arith)))))

pub words_length : (k : ℕ) → length (refusal_words k) ≤ 38
unfolding refusal_words
words_length k =
    pick_length (eqb k 1) _ _ 38 (omega arith)
    (pick_length (eqb k 2) _ _ 38 (omega arith)
    (pick_length (eqb k 3) _ _ 38 (omega arith)
    (pick_length (eqb k 4) _ _ 38 (omega arith) (rule_length k))))

refused_length : (k : ℕ) → k < 100 → length (refused_sheet_line k) ≤ 56
unfolding refused_sheet_line
refused_length k h =
    omega (
      arith,
      length-append (ascii "sheet refused ") (decimal k ++ (ascii " " ++ (refusal_words k ++ ascii "\n"))),
      length-append (decimal k) (ascii " " ++ (refusal_words k ++ ascii "\n")),
      length-append (ascii " ") (refusal_words k ++ ascii "\n"),
      length-append (refusal_words k) (ascii "\n"),
      decimal_few 1 k h,
      words_length k,
    )

pub head_length : (b : List ℕ) → length (head_line (read_sheet b)) ≤ 56
unfolding head_line
head_length b = go (eqb (read_sheet b).refusal 0) refl
  where
    go : (x : Bool) → eqb (read_sheet b).refusal 0 ≡ x
        → length (cond x (sheet_line (ascii "sheet ") (read_sheet b).sheet.n (read_sheet b).sheet.e) (refused_sheet_line (read_sheet b).refusal)) ≤ 56
    go true e =
        let s = (check_sound (read_sheet b).sheet (read_kept b (eqb-true (read_sheet b).refusal 0 e))).ranges in
        omega (arith, sheet_length (ascii "sheet ") (read_sheet b).sheet.n (read_sheet b).sheet.e (omega (arith, s.n_high)) (omega (arith, s.e_high)))
    go false e = refused_length (read_sheet b).refusal (omega (arith, read_refusal b, read_numbers_lem b))

-- ---- the lines of a node

event_length : (i w : ℕ) → i < 100 → w < 100 → length (event_line i w) ≤ 15
unfolding event_line
event_length i w h k =
    omega (
      arith,
      length-append (ascii "event ") (decimal i ++ (ascii " to " ++ (decimal w ++ ascii "\n"))),
      length-append (decimal i) (ascii " to " ++ (decimal w ++ ascii "\n")),
      length-append (ascii " to ") (decimal w ++ ascii "\n"),
      length-append (decimal w) (ascii "\n"),
      decimal_few 1 i h,
      decimal_few 1 w k,
    )

accepts_length : (x : ℕ) → x < 100000 → length (accepts_line x) ≤ 66
unfolding accepts_line
accepts_length x h = omega (arith, length-append (ascii "accepts ") (set_words x ++ ascii "\n"), length-append (set_words x) (ascii "\n"), set_length x h)

-- a set of at most 12 events has at most five digits
set_small : (e x : ℕ) → e ≤ 12 → x < 2 ^ e → x < 100000
set_small e x l h = let m : 2 ^ e ≤ 2 ^ 12 = pow_mono l in omega arith

module _ (s : Sheet) (h : sheet_fault s ≡ 0) (v : ℕ) (l : v < s.n) where
  sound : Sound s
  sound = check_sound s h

  successor_length : (i : ℕ) → i < s.e → length (successor_line (row s v) i) ≤ 15
  unfolding successor_line
  successor_length i k = go (sound.successors v i l k)
    where
      go : (successor (row s v) i ≡ 255) ⊎ (successor (row s v) i < s.n) → length (cond (eqb (successor (row s v) i) 255) [] (event_line i (successor (row s v) i))) ≤ 15
      go (inl e) = rw e (omega arith)
      go (inr d) =
          pick_length (eqb (successor (row s v) i) 255) [] (event_line i (successor (row s v) i)) 15 (omega arith)
          (event_length i (successor (row s v) i) (omega (arith, k, sound.ranges.e_high)) (omega (arith, d, sound.ranges.n_high)))

  events_length : length (joined (successor_line (row s v)) s.e) ≤ 180
  events_length =
      let m : s.e * 15 ≤ 12 * 15 = mul-le-mul sound.ranges.e_high (le_self 15) in
      omega (arith, joined_length (successor_line (row s v)) 15 s.e successor_length)

  rest_length : length (rest_lines (row s v)) ≤ 1056
  unfolding rest_lines acceptance_line
  rest_length =
      let m : (row s v).c * 66 ≤ 16 * 66 = mul-le-mul (sound.counts v l).1 (le_self 66) in
      pick_length (may_stop (row s v)) (ascii "may stop\n") (joined (acceptance_line (row s v)) (row s v).c) 1056 (omega arith)
      (omega (arith, joined_length (acceptance_line (row s v)) 66 (row s v).c (λ j k. accepts_length (acceptance (row s v) j) (set_small s.e (acceptance (row s v) j) sound.ranges.e_high (sound.narrow v j l k)))))

  -- the lines of a node have at most 1,244 bytes
  pub lines_length : length (node_lines s v) ≤ 1244
  unfolding node_lines row_lines
  lines_length =
      omega (
        arith,
        length-append (number_line (ascii "node ") v) (joined (successor_line (row s v)) s.e ++ rest_lines (row s v)),
        length-append (joined (successor_line (row s v)) s.e) (rest_lines (row s v)),
        number_length (ascii "node ") 1 v (omega (arith, l, sound.ranges.n_high)),
        events_length,
        rest_length,
      )

-- ---- the text of `show`

-- the sheet that is read of bytes without refusal has the machine's form
read_form : (b : List ℕ) → Bytes b → (read_sheet b).refusal ≡ 0 → SheetForm (read_sheet b).sheet
read_form b y h = rw (reads b (rw (read_refusal b) at h)) (sheet_of_form b y)

-- what counts of bytes is bytes
cut_bytes : (input : List ℕ) → Bytes input → Bytes (cut_input input)
unfolding cut_input
cut_bytes input y = below_take 256 4096 input (omega arith) y

code_length : (codes : List ℕ) (i : ℕ) → i < 100 → code_at codes i < 100000 → length (code_line codes i) ≤ 14
unfolding code_line
code_length codes i h k =
    omega (
      arith,
      length-append (ascii "code ") (decimal i ++ (ascii " " ++ (decimal (code_at codes i) ++ ascii "\n"))),
      length-append (decimal i) (ascii " " ++ (decimal (code_at codes i) ++ ascii "\n")),
      length-append (ascii " ") (decimal (code_at codes i) ++ ascii "\n"),
      length-append (decimal (code_at codes i)) (ascii "\n"),
      decimal_few 1 i h,
      decimal_few 4 (code_at codes i) k,
    )

-- the lines of codes of 16 bits have at most 168 bytes
codes_length : (e : ℕ) (codes : List ℕ) → e ≤ 12 → ((i : ℕ) → code_at codes i < 65536) → length (codes_lines e codes) ≤ 168
unfolding codes_lines
codes_length e codes h f =
    let m : e * 14 ≤ 12 * 14 = mul-le-mul h (le_self 14) in
    pick_length (first_codes_ok e codes) [] (joined (code_line codes) e) 168 (omega arith)
    (omega (arith, joined_length (code_line codes) 14 e (λ i l. code_length codes i (omega arith) (omega (arith, f i)))))

nodes_length : (s : Sheet) → sheet_fault s ≡ 0 → length (joined (node_lines s) s.n) ≤ 39808
nodes_length s h =
    let m : s.n * 1244 ≤ 32 * 1244 = mul-le-mul (check_sound s h).ranges.n_high (le_self 1244) in
    omega (arith, joined_length (node_lines s) 1244 s.n (lines_length s h))

body_length : (s : Sheet) → sheet_fault s ≡ 0 → SheetForm s → length (body_lines s) ≤ 39976
unfolding body_lines
body_length s h o =
    omega (
      arith,
      length-append (codes_lines s.e s.codes) (joined (node_lines s) s.n),
      codes_length s.e s.codes (check_sound s h).ranges.e_high o.code_word,
      nodes_length s h,
    )

-- every text of `show` for an input of bytes has at most 40,032 bytes
pub show_length : (input : List ℕ) → Bytes input → length (show_text input) ≤ 40032
unfolding show_text show_lines
show_length input y = go (cut_input input) (cut_bytes input y)
  where
    go : (b : List ℕ) → Bytes b → length (head_line (read_sheet b) ++ cond (eqb (read_sheet b).refusal 0) (body_lines (read_sheet b).sheet) []) ≤ 40032
    go b z =
        omega (
          arith,
          length-append (head_line (read_sheet b)) (cond (eqb (read_sheet b).refusal 0) (body_lines (read_sheet b).sheet) []),
          head_length b,
          pick (eqb (read_sheet b).refusal 0) refl,
        )
      where
        pick : (x : Bool) → eqb (read_sheet b).refusal 0 ≡ x → length (cond x (body_lines (read_sheet b).sheet) []) ≤ 39976
        pick true e = let h = eqb-true (read_sheet b).refusal 0 e in body_length (read_sheet b).sheet (read_kept b h) (read_form b z h)
        pick false e = omega arith

-- every such text fits where 65,536 bytes are kept
pub show_fits : (input : List ℕ) → Bytes input → length (show_text input) ≤ 65536
show_fits input y = omega (arith, show_length input y)

-- ---- the line of a node's probes

stop_length : (v : ℕ) → v < 1000 → length (may_stop_line v) ≤ 18
unfolding may_stop_line
stop_length v h = omega (arith, length-append (ascii "node ") (decimal v ++ ascii " may stop\n"), length-append (decimal v) (ascii " may stop\n"), decimal_few 2 v h)

denied_length : (v k : ℕ) → v < 1000 → k < 100 → length (denied_line v k) ≤ 20
unfolding denied_line
denied_length v k h i =
    omega (
      arith,
      length-append (ascii "node ") (decimal v ++ (ascii " refused " ++ (decimal k ++ ascii "\n"))),
      length-append (decimal v) (ascii " refused " ++ (decimal k ++ ascii "\n")),
      length-append (ascii " refused ") (decimal k ++ ascii "\n"),
      length-append (decimal k) (ascii "\n"),
      decimal_few 2 v h,
      decimal_few 1 k i,
    )

-- the length of m sets of 16 bits
sets_length : (sets : List ℕ) → ((j : ℕ) → j < length sets → get_or sets j 0 < 100000) → length (set_list sets) ≤ length sets * 58
unfolding set_list place_words
sets_length sets h = joined_length (place_words sets) 58 (length sets) (λ j k. omega (arith, length-append (ascii " ") (set_words (get_or sets j 0)), set_length (get_or sets j 0) (h j k)))

probes_length : (v : ℕ) (sets : List ℕ) → v < 1000 → length sets ≤ 4096 → ((j : ℕ) → j < length sets → get_or sets j 0 < 100000) → length (probes_line v sets) ≤ 237584
unfolding probes_line
probes_length v sets h k g =
    let m : length sets * 58 ≤ 4096 * 58 = mul-le-mul k (le_self 58) in
    omega (
      arith,
      length-append (ascii "node ") (decimal v ++ (ascii " probes" ++ (set_list sets ++ ascii "\n"))),
      length-append (decimal v) (ascii " probes" ++ (set_list sets ++ ascii "\n")),
      length-append (ascii " probes") (set_list sets ++ ascii "\n"),
      length-append (set_list sets) (ascii "\n"),
      decimal_few 2 v h,
      sets_length sets g,
    )

-- a probe of a node is a set of the sheet's events
probe_narrow : (s : Sheet) (h : sheet_fault s ≡ 0) (v : ℕ) (l : v < s.n) (j : ℕ) → j < length (node_probes s v) → get_or (node_probes s v) j 0 < 100000
probe_narrow s h v l j k =
    let p = (node_probe s h v l (get_or (node_probes s v) j 0)).0 (j, k, refl) in
    let (x, q, e) = probe_listed (acceptances (row s v)) s.e (node_narrow s h v l) (get_or (node_probes s v) j 0) p in
    let w : get_or (node_probes s v) j 0 < 2 ^ s.e = rw e at (probe_small (acceptances (row s v)) s.e x q) in
    set_small s.e (get_or (node_probes s v) j 0) (check_sound s h).ranges.e_high w

-- the line of any node has at most 237,584 bytes
pub line_length : (s : Sheet) (v : ℕ) → v < 256 → length (node_line s v) ≤ 237584
line_length s v b = go (ℕ_discrete (sheet_fault s) 0) (lt_or_ge v s.n) (dec (may_stop (row s v)))
  where
    go : Dec (sheet_fault s ≡ 0) → (v < s.n) ⊎ (s.n ≤ v) → (may_stop (row s v) ≡ true) ⊎ (may_stop (row s v) ≡ false) → length (node_line s v) ≤ 237584
    go (no n) l m = rw (line_sheet s v n) (omega (arith, denied_length v (sheet_fault s) (omega arith) (omega (arith, check_below s))))
    go (yes h) (inr l) m = rw (line_9 s v h l) (omega (arith, denied_length v 9 (omega arith) (omega arith)))
    go (yes h) (inl l) (inl t) = rw (line_stop s v h l t) (omega (arith, stop_length v (omega arith)))
    go (yes h) (inl l) (inr t) = rw (line_probes s v h l t) (probes_length v (node_probes s v) (omega arith) (node_few s h v l) (probe_narrow s h v l))

-- the line of optional events has at most 66 bytes
optional_length : (v x : ℕ) → v < 1000 → length (optional_line v x) ≤ 66
unfolding optional_line members
optional_length v x h =
    omega (
      arith,
      length-append (ascii "node ") (decimal v ++ (ascii " optional" ++ (event_list (events_in x 16) ++ ascii "\n"))),
      length-append (decimal v) (ascii " optional" ++ (event_list (events_in x 16) ++ ascii "\n")),
      length-append (ascii " optional") (event_list (events_in x 16) ++ ascii "\n"),
      length-append (event_list (events_in x 16)) (ascii "\n"),
      decimal_few 2 v h,
      set-events-length x 16 (omega arith),
    )

-- the text of any node has at most 237,650 bytes
pub node_length : (s : Sheet) (v : ℕ) → v < 256 → length (node_text s v) ≤ 237650
unfolding node_text optional_text
node_length s v b =
    let x = optional s.e (row s v) in
    omega (
      arith,
      length-append (node_line s v) (cond (eqb (list_fault s v probe_space) 0) (cond (eqb x 0) [] (optional_line v x)) []),
      line_length s v b,
      pick_length (eqb (list_fault s v probe_space) 0) (cond (eqb x 0) [] (optional_line v x)) [] 66
          (pick_length (eqb x 0) [] (optional_line v x) 66 (omega arith) (optional_length v x (omega arith)))
          (omega arith),
    )

-- the text of any node fits where 262,144 bytes are kept
pub node_fits : (s : Sheet) (v : ℕ) → v < 256 → length (node_text s v) ≤ 262144
node_fits s v b = omega (arith, node_length s v b)
