-- Nothing to believe: laws. An input is two accepted sheets back to back exactly if both of its parts are read without
-- refusal, and its text is then their two lines and the findings, which it tells. The cut at 4,096 bytes plays no part
-- there: two accepted sheets have at most 2,942.
use Rattle.std.specs.Prelude.{◌≡◌, ◌≢◌, ◌↔◌, List, ◌++◌, ℕ, ◌≤◌, ◌<◌, length, take, drop}
use Rattle.std.proofs.Common.{sym, ap, ◌∙◌, arith, length-append, length-take, get_or-drop}
use Rattle.sheet_spec.specs.declared.Sheet.{Sheet}
use Rattle.sheet_spec.specs.declared.ReadSheet.{ReadSheet}
use Rattle.sheet_spec.specs.Form.{Bytes}
use Rattle.sheet_spec.specs.Reading.{read_sheet, accepted}
use Rattle.sheet_spec.specs.Encoding.{BytesOf}
use Rattle.sheet_spec.proofs.AnswerLaws.{read_refusal}
use Rattle.sheet_spec.proofs.Octets.{below_take}
use Rattle.sheet_spec.proofs.EncodingLaws.{reads→, reads_as, accepted_exactly, bytes_length}
use Rattle.text_spec.specs.Lines.{ascii, number_line, sheet_line}
use Rattle.text_spec.specs.Input.{cut_input}
use Rattle.text_spec.proofs.TellLaws.{sheet_tells}
use Rattle.text_spec.proofs.InputLaws.{cut_short}
use Rattle.text_pair_spec.specs.Split.{first_end, first_sheet, second_sheet}
use Rattle.text_pair_spec.proofs.SplitLaws.{split_whole, split_accepted}
use Rattle.text_pair_spec.specs.Program.{Findings, pair_text, reference, device}
use Rattle.text_pair_spec.proofs.ProgramLaws.{device_refused, both_accepted}
use Rattle.text_pair_spec.specs.BackToBack.{AcceptedSheet, Begins, BackToBack, after_sheets}

-- a part of bytes is bytes
take_bytes : (n : ℕ) (b : List ℕ) → Bytes b → Bytes (take n b)
take_bytes n b y = below_take 256 n b (omega arith) y

drop_bytes : (n : ℕ) (b : List ℕ) → Bytes b → Bytes (drop n b)
drop_bytes n b y i = rw (get_or-drop n b i 0) (y _)

module _ (input : List ℕ) (y : Bytes input) where
  cut_bytes : Bytes (cut_input input)
  unfolding cut_input
  cut_bytes = take_bytes 4096 input y

  first_bytes : Bytes (first_sheet (cut_input input))
  unfolding first_sheet
  first_bytes = take_bytes (first_end (cut_input input)) (cut_input input) cut_bytes

  second_bytes : Bytes (second_sheet (cut_input input))
  unfolding second_sheet
  second_bytes = drop_bytes (first_end (cut_input input)) (cut_input input) cut_bytes

-- an input of which fewer than 4,096 bytes count has no other byte
cut_all : (input : List ℕ) → length (cut_input input) < 4096 → length input < 4096
unfolding cut_input
cut_all input l = omega (arith, length-take 4096 input)

-- two accepted sheets have at most 2,942 bytes
pub two_length : (a b : List ℕ) (P Q : Sheet) → BytesOf a P → BytesOf b Q → AcceptedSheet P → AcceptedSheet Q → length (a ++ b) ≤ 2942
two_length a b P Q v w p q = omega (arith, length-append a b, bytes_length a P v p.0 p.1, bytes_length b Q w q.0 q.1)

-- bytes that are read without refusal are those of an accepted sheet
spelled : (b : List ℕ) → Bytes b → (read_sheet b).refusal ≡ 0 → (s : Sheet) × AcceptedSheet s × BytesOf b s
spelled b y h =
    let x = (accepted_exactly b y).0 (sym (read_refusal b) ∙ h) in
    (x.0, (x.1, x.2), x.3)

-- the parts of an answer that accepts
refusal_of : {a : ReadSheet} {s : Sheet} → a ≡ accepted s → a.refusal ≡ 0
refusal_of e = ap (λ (x : ReadSheet). x.refusal) e

sheet_of_lem : {s t : Sheet} → accepted s ≡ accepted t → s ≡ t
sheet_of_lem e = ap (λ (x : ReadSheet). x.sheet) e

module _ (input : List ℕ) where
  -- an input that begins with an accepted sheet has it as its reference, and the rest is read as its device
  pub begins_read : (P : Sheet) (rest : List ℕ) → Begins input P rest → (reference input ≡ accepted P) × (device input ≡ read_sheet rest)
  begins_read P rest b =
      let a = b.reference_accepted in
      let x = reads_as b.first P b.first_bytes a.0 a.1 in
      let s = split_accepted b.first rest (reads→ b.first P x).0 in
      (rw (b.bytes, s.0) x, rw (b.bytes, s.1))

  -- the reference is accepted exactly if the bytes that count begin with an accepted sheet
  pub reference_accepted : Bytes input → ((reference input).refusal ≡ 0) ↔ ((P : Sheet) × (rest : List ℕ) × Begins input P rest)
  reference_accepted y = (to, from)
    where
      to : (reference input).refusal ≡ 0 → (P : Sheet) × (rest : List ℕ) × Begins input P rest
      to h =
          let x = spelled (first_sheet (cut_input input)) (first_bytes input y) h in
          (x.0, second_sheet (cut_input input), record { reference_accepted = x.1; first = first_sheet (cut_input input); first_bytes = x.2; bytes = sym (split_whole (cut_input input)) })

      from : (P : Sheet) × (rest : List ℕ) × Begins input P rest → (reference input).refusal ≡ 0
      from (P, rest, b) = refusal_of (begins_read P rest b).0

  -- two accepted sheets back to back are not cut
  pub pair_uncut : (P Q : Sheet) → BackToBack input P Q → cut_input input ≡ input
  pair_uncut P Q b =
      cut_short input (omega (arith, ap length b.bytes, two_length b.first b.second P Q b.first_bytes b.second_bytes b.reference_accepted b.device_accepted))

  -- if what counts of an input is two accepted sheets, then the input has no other byte
  pub cut_pair : (P Q : Sheet) → BackToBack (cut_input input) P Q → BackToBack input P Q
  cut_pair P Q b = record {
    reference_accepted = b.reference_accepted;
    device_accepted = b.device_accepted;
    first = b.first;
    first_bytes = b.first_bytes;
    second = b.second;
    second_bytes = b.second_bytes;
    bytes = sym whole ∙ b.bytes;
  }
    where
      few : length (cut_input input) < 4096
      few = omega (arith, ap length b.bytes, two_length b.first b.second P Q b.first_bytes b.second_bytes b.reference_accepted b.device_accepted)

      whole : cut_input input ≡ input
      whole = cut_short input (omega (arith, few, cut_all input few))

  -- the two sheets of an input that is two accepted sheets are read as these
  pub pair_read : (P Q : Sheet) → BackToBack input P Q → (reference input ≡ accepted P) × (device input ≡ accepted Q)
  pair_read P Q b =
      let r = begins_read P b.second (record { reference_accepted = b.reference_accepted; first = b.first; first_bytes = b.first_bytes; bytes = pair_uncut P Q b ∙ b.bytes }) in
      (r.0, r.1 ∙ reads_as b.second Q b.second_bytes b.device_accepted.0 b.device_accepted.1)

  -- an input is two accepted sheets back to back, and no other byte, exactly if both of its parts are read without
  -- refusal
  pub both_exactly : Bytes input → (((reference input).refusal ≡ 0) × ((device input).refusal ≡ 0)) ↔ ((P : Sheet) × (Q : Sheet) × BackToBack input P Q)
  both_exactly y = (to, from)
    where
      to : ((reference input).refusal ≡ 0) × ((device input).refusal ≡ 0) → (P : Sheet) × (Q : Sheet) × BackToBack input P Q
      to (h, k) =
          let p = spelled (first_sheet (cut_input input)) (first_bytes input y) h in
          let q = spelled (second_sheet (cut_input input)) (second_bytes input y) k in (
            p.0,
            q.0,
            cut_pair p.0 q.0
                (record {
                  reference_accepted = p.1;
                  device_accepted = q.1;
                  first = first_sheet (cut_input input);
                  first_bytes = p.2;
                  second = second_sheet (cut_input input);
                  second_bytes = q.2;
                  bytes = sym (split_whole (cut_input input));
                }),
          )

      from : (P : Sheet) × (Q : Sheet) × BackToBack input P Q → ((reference input).refusal ≡ 0) × ((device input).refusal ≡ 0)
      from (P, Q, b) = let r = pair_read P Q b in (refusal_of r.0, refusal_of r.1)

  -- an input is no two pairs of sheets
  pub pair_once : (P Q P' Q' : Sheet) → BackToBack input P Q → BackToBack input P' Q' → (P ≡ P') × (Q ≡ Q')
  pair_once P Q P' Q' b c =
      let r = pair_read P Q b in
      let s = pair_read P' Q' c in
      (sheet_of_lem (sym r.0 ∙ s.0), sheet_of_lem (sym r.1 ∙ s.1))

  module _ (findings : Findings) where
    -- two accepted sheets back to back print the line of each, its nodes and its events, and then the findings
    pub pair_text_lem : (P Q : Sheet) → BackToBack input P Q → pair_text findings input ≡ after_sheets P Q (findings P Q)
    pair_text_lem P Q b =
        let r = pair_read P Q b in
        both_accepted input findings (refusal_of r.0) (refusal_of r.1) ∙ rw (r.0, r.1)

    -- after an accepted sheet bytes that are refused print the one line of this refusal, and no finding
    pub begins_text : (P : Sheet) (rest : List ℕ) → Begins input P rest → (read_sheet rest).refusal ≢ 0
        → pair_text findings input ≡ sheet_line (ascii "reference ") P.n P.e ++ number_line (ascii "device refused ") (read_sheet rest).refusal
    begins_text P rest b n =
        let r = begins_read P rest b in
        device_refused input findings (refusal_of r.0) (λ z. n (ap (λ (x : ReadSheet). x.refusal) (sym r.1) ∙ z)) ∙ rw (r.0, r.1)

-- texts that begin with the lines of two sheets, be their numbers what they may, have the same numbers and findings
pub sheets_tell : (P Q : Sheet) (n e n' e' : ℕ) (x y : List ℕ) → after_sheets P Q x ≡ sheet_line (ascii "reference ") n e ++ (sheet_line (ascii "device ") n' e' ++ y)
    → (P.n ≡ n) × (P.e ≡ e) × (Q.n ≡ n') × (Q.e ≡ e') × (x ≡ y)
sheets_tell P Q n e n' e' x y h =
    let p = sheet_tells (ascii "reference ") P.n P.e n e _ _ h in
    let q = sheet_tells (ascii "device ") Q.n Q.e n' e' x y p.2 in
    (p.0, p.1, q.0, q.1, q.2)
