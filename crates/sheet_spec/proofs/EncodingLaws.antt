-- Nothing to believe: laws. Reading undoes writing, and nothing else: bytes are read as a sheet exactly if a later call
-- accepts it and they are its bytes in version 2, or in version 1 if its codes are 1 to E (`read_encode`); bytes are
-- accepted exactly if they are such bytes of an accepted sheet (`accepted_exactly`); bytes with a right head and layout
-- are the bytes of the sheet that they spell, whatever its rules (`encode_spelled`), and that sheet has the machine's
-- form (`sheet_of_form`). What is written of an accepted sheet is read as it (`bytes_read`), and has fewest bytes.
use Rattle.std.specs.Prelude.{◌≡◌, ◌⊎◌, ◌↔◌, true, false, List, ◌++◌, ℕ, ◌+◌, ◌*◌, ◌≤◌, ◌<◌, length, take, drop}
use Rattle.std.proofs.Math.Path.{refl}
use Rattle.std.proofs.Common.{sym, ap, ◌∙◌, inl, inr, arith, length-append}
use Rattle.base.proofs.Truth.{dec}
use Rattle.base.proofs.Finds.{finds_none}
use Rattle.sheet_spec.specs.declared.Sheet.{Sheet}
use Rattle.sheet_spec.specs.declared.ReadSheet.{ReadSheet}
use Rattle.sheet_spec.specs.Refusals.{head_fault, layout_fault, bytes_fault, sheet_fault, Agree}
use Rattle.sheet_spec.specs.Kept.{code}
use Rattle.sheet_spec.specs.Form.{Bytes, SheetForm}
use Rattle.sheet_spec.specs.Reading.{answer, read_sheet, accepted}
use Rattle.sheet_spec.specs.Spelling.{word, length_field, version, event_count, node_count, nodes_at, sheet_of}
use Rattle.sheet_spec.specs.Rules.{first_codes_ok}
use Rattle.sheet_spec.proofs.RuleLaws.{first_finds}
use Rattle.sheet_spec.proofs.Chains.{settled}
use Rattle.sheet_spec.specs.Encoding.{two, four, encode_codes, encode_rows, encode_body, encode, written_version, sheet_bytes, HasFirstCodes, Writable, BytesOf}
use Rattle.sheet_spec.proofs.Places.{accepts, code_at_1, code_at_2, accepted_length, accepted_first}
use Rattle.sheet_spec.proofs.Accepted.{read_accepted}
use Rattle.sheet_spec.proofs.Spelled as spelled
use Rattle.sheet_spec.proofs.Spelled.{encode_sheet_of}
use Rattle.sheet_spec.proofs.Formed as formed
use Rattle.sheet_spec.proofs.Written.{version_written, sheet_of_encode, encode_accepted}
use Rattle.sheet_spec.proofs.Octets.{bytes_encode}

-- bytes that are not refused are read as the sheet that they spell
pub reads : (b : List ℕ) → bytes_fault b ≡ 0 → read_sheet b ≡ accepted (sheet_of b)
unfolding read_sheet answer
reads b h = rw h

-- an answer that accepts has no refusal, and its sheet is the one that the bytes spell
pub reads→ : (b : List ℕ) (s : Sheet) → read_sheet b ≡ accepted s → (bytes_fault b ≡ 0) × (sheet_of b ≡ s)
unfolding read_sheet answer
reads→ b s h =
    let f : bytes_fault b ≡ 0 = ap (λ (a : ReadSheet). a.refusal) h in
    (f, ap (λ (a : ReadSheet). a.sheet) (sym (reads b f) ∙ h))

-- an accepted sheet is read back from its bytes, in any version in which it can be written
pub read_back_lem : (v : ℕ) (s : Sheet) → Writable v s → SheetForm s → sheet_fault s ≡ 0 → read_sheet (encode v s) ≡ accepted s
read_back_lem v s w o h = reads (encode v s) (encode_accepted v s w o h) ∙ ap accepted (sheet_of_encode v s w o h)

-- "a version 1 sheet counts as having code i + 1 for event i" (02, K1)
pub version_1_codes : (b : List ℕ) → bytes_fault b ≡ 0 → version b ≡ 1 → HasFirstCodes (sheet_of b)
unfolding sheet_of
version_1_codes b h v i l = code_at_1 b (λ p. omega arith) i (omega (arith, l, (accepts b h).ranged.e_high)) l

-- so two version 1 sheets with one E agree
pub version_1_agree : (a b : List ℕ) → bytes_fault a ≡ 0 → bytes_fault b ≡ 0 → version a ≡ 1 → version b ≡ 1 → event_count a ≡ event_count b → Agree (sheet_of a) (sheet_of b)
unfolding sheet_of
version_1_agree a b g h v w e = (e, λ i l. version_1_codes a g v i l ∙ sym (version_1_codes b h w i (omega (arith, l, e))))

-- a version 2 sheet has for each event the code in its two bytes after N
pub version_2_codes : (b : List ℕ) → bytes_fault b ≡ 0 → version b ≡ 2 → (i : ℕ) → i < event_count b → code (sheet_of b) i ≡ word b (7 + i * 2)
unfolding sheet_of
version_2_codes b h v i l = code_at_2 b v i (omega (arith, l, (accepts b h).ranged.e_high)) l

-- accepted bytes are the bytes of the sheet that they spell in a version in which it can be written
written : (b : List ℕ) → Bytes b → bytes_fault b ≡ 0 → BytesOf b (sheet_of b)
written b y h = (version b, go (accepts b h).headed.version_is, sym (encode_sheet_of b y h))
  where
    go : (version b ≡ 1) ⊎ (version b ≡ 2) → Writable (version b) (sheet_of b)
    go (inl v) = inr (v, version_1_codes b h v)
    go (inr v) = inl v

-- the bytes of an accepted sheet are read as it
pub reads_as : (b : List ℕ) (s : Sheet) → BytesOf b s → SheetForm s → sheet_fault s ≡ 0 → read_sheet b ≡ accepted s
reads_as b s (v, w, e) o h = rw e (read_back_lem v s w o h)

-- bytes are read as a sheet exactly if it is not refused and they are its bytes in version 2, or in version 1 if its
-- codes are 1 to E
pub read_encode : (s : Sheet) → SheetForm s → (b : List ℕ) → Bytes b
    → (read_sheet b ≡ accepted s) ↔ ((sheet_fault s ≡ 0) × BytesOf b s)
read_encode s o b y = (to, from)
  where
    to : read_sheet b ≡ accepted s → (sheet_fault s ≡ 0) × BytesOf b s
    to h =
        let r = reads→ b s h in
        (rw r.1 at (read_accepted b r.0), rw r.1 at (written b y r.0))

    from : (sheet_fault s ≡ 0) × BytesOf b s → read_sheet b ≡ accepted s
    from (h, w) = reads_as b s w o h

-- the length field of any bytes is the number that their first four write, the highest first, however many there are
pub length_spelled : (b : List ℕ) → Bytes b → 7 ≤ length b → four (length_field b) ++ drop 4 b ≡ b
length_spelled = spelled.head_spelled

-- bytes with a right head and layout are the bytes of the sheet that they spell in their version, whatever its rules
pub encode_spelled : (b : List ℕ) → Bytes b → head_fault b ≡ 0 → layout_fault b (event_count b) (node_count b) (nodes_at b) ≡ 0 → encode (version b) (sheet_of b) ≡ b
encode_spelled = spelled.encode_spelled

-- the sheet that bytes spell has the machine's form, whatever its rules
pub sheet_of_form : (b : List ℕ) → Bytes b → SheetForm (sheet_of b)
sheet_of_form = formed.sheet_of_form

-- bytes are accepted exactly if they are the bytes, in version 2, or in version 1 if its codes are 1 to E, of a sheet
-- of the machine's form that is not refused
pub accepted_exactly : (b : List ℕ) → Bytes b
    → (bytes_fault b ≡ 0) ↔ ((s : Sheet) × SheetForm s × (sheet_fault s ≡ 0) × BytesOf b s)
accepted_exactly b y = (to, from)
  where
    to : bytes_fault b ≡ 0 → (s : Sheet) × SheetForm s × (sheet_fault s ≡ 0) × BytesOf b s
    to h = (sheet_of b, sheet_of_form b y, read_accepted b h, written b y h)

    from : (s : Sheet) × SheetForm s × (sheet_fault s ≡ 0) × BytesOf b s → bytes_fault b ≡ 0
    from (s, o, h, w) = (reads→ b s (reads_as b s w o h)).0

-- an accepted sheet has at most 1,471 bytes, in version 1 at most 1,447
pub encode_length : (v : ℕ) (s : Sheet) → Writable v s → SheetForm s → sheet_fault s ≡ 0 → length (encode v s) ≤ 1471
encode_length v s w o h = accepted_length (encode v s) (encode_accepted v s w o h)

pub first_length : (s : Sheet) → HasFirstCodes s → SheetForm s → sheet_fault s ≡ 0 → length (encode 1 s) ≤ 1447
first_length s f o h = accepted_first (encode 1 s) (encode_accepted 1 s (inr (refl, f)) o h) (λ p. omega (arith, version_written 1 s))

pub bytes_length : (b : List ℕ) (s : Sheet) → BytesOf b s → SheetForm s → sheet_fault s ≡ 0 → length b ≤ 1471
bytes_length b s w o h = accepted_length b (reads→ b s (reads_as b s w o h)).0

-- what an accepted sheet is written as is bytes
pub encode_bytes : (v : ℕ) (s : Sheet) → Writable v s → SheetForm s → sheet_fault s ≡ 0 → Bytes (encode v s)
encode_bytes v s w o h = bytes_encode v (small w) s o (encode_length v s w o h)
  where
    small : Writable v s → v < 256
    small (inl e) = omega arith
    small (inr (e, f)) = omega arith

-- accepted sheets with the same bytes are the same sheet, also where the versions are not known
pub encode_injective : (v w : ℕ) (s t : Sheet) → Writable v s → Writable w t → SheetForm s → SheetForm t → sheet_fault s ≡ 0 → sheet_fault t ≡ 0
    → encode v s ≡ encode w t → s ≡ t
encode_injective v w s t f k o q g h e = sym (sheet_of_encode v s f o g) ∙ ap sheet_of e ∙ sheet_of_encode w t k q h

-- ---- what is written of a sheet

-- a sheet is written in version 1 where its codes are 1 to E, and only there
module _ (s : Sheet) where
  pub version_first : HasFirstCodes s → written_version s ≡ 1
  unfolding written_version
  version_first f = rw (finds_none (first_finds s.e s.codes) (λ w. w.2 (f w.0 w.1)))

  pub version_other : ¬ HasFirstCodes s → written_version s ≡ 2
  unfolding written_version
  version_other n = go (dec (first_codes_ok s.e s.codes))
    where
      go : (first_codes_ok s.e s.codes ≡ true) ⊎ (first_codes_ok s.e s.codes ≡ false) → written_version s ≡ 2
      go (inl t) = absurd (n (λ i l. settled (code s i) (i + 1) (λ d. (first_finds s.e s.codes).clear t (i, l, d))))
      go (inr t) = rw t

  -- every sheet has its codes 1 to E, or not
  first_or_other : HasFirstCodes s ⊎ (¬ HasFirstCodes s)
  first_or_other = go (dec (first_codes_ok s.e s.codes))
    where
      go : (first_codes_ok s.e s.codes ≡ true) ⊎ (first_codes_ok s.e s.codes ≡ false) → HasFirstCodes s ⊎ (¬ HasFirstCodes s)
      go (inl t) = inl (λ i l. settled (code s i) (i + 1) (λ d. (first_finds s.e s.codes).clear t (i, l, d)))
      go (inr t) = inr (λ f. let w = (first_finds s.e s.codes).fault t in w.2 (f w.0 w.1))

  -- in that version it can be written
  pub written_writable : Writable (written_version s) s
  written_writable = go first_or_other
    where
      go : HasFirstCodes s ⊎ (¬ HasFirstCodes s) → Writable (written_version s) s
      go (inl f) = inr (version_first f, f)
      go (inr n) = inl (version_other n)

  -- so these are bytes of the sheet, and an accepted sheet is read back from them
  pub bytes_of : BytesOf (sheet_bytes s) s
  bytes_of = (written_version s, written_writable, refl)

  pub bytes_read : SheetForm s → sheet_fault s ≡ 0 → read_sheet (sheet_bytes s) ≡ accepted s
  bytes_read o h = reads_as (sheet_bytes s) s bytes_of o h

-- the bytes of a version: those of the length and the head, the codes and the nodes
version_length : (v : ℕ) (s : Sheet) → length (encode v s) ≡ 7 + length (encode_codes v s) + length (encode_rows s.e (take s.n s.rows))
unfolding encode encode_body four two
version_length v s = omega (arith, length-append (encode_codes v s) (encode_rows s.e (take s.n s.rows)))

-- no other bytes of the sheet are fewer
pub bytes_fewest : (b : List ℕ) (s : Sheet) → BytesOf b s → length (sheet_bytes s) ≤ length b
bytes_fewest b s (v, w, e) = rw e (go (first_or_other s) w)
  where
    go : HasFirstCodes s ⊎ (¬ HasFirstCodes s) → Writable v s → length (encode (written_version s) s) ≤ length (encode v s)
    go (inl f) x =
        let none : length (encode_codes 1 s) ≡ 0 = unfold encode_codes in refl in
        rw (version_first s f) (omega (arith, version_length 1 s, version_length v s, none))
    go (inr n) (inl p) = rw (version_other s n, p) (omega arith)
    go (inr n) (inr (p, f)) = absurd (n f)

-- accepted bytes of version 1 are written again as they were, and so are those of version 2 with other codes than 1 to
-- E
pub first_back : (b : List ℕ) → Bytes b → bytes_fault b ≡ 0 → version b ≡ 1 → sheet_bytes (sheet_of b) ≡ b
first_back b y h v = rw (version_first (sheet_of b) (version_1_codes b h v)) (rw v at (encode_sheet_of b y h))

pub other_back : (b : List ℕ) → Bytes b → bytes_fault b ≡ 0 → version b ≡ 2 → ¬ HasFirstCodes (sheet_of b) → sheet_bytes (sheet_of b) ≡ b
other_back b y h v n = rw (version_other (sheet_of b) n) (rw v at (encode_sheet_of b y h))
