-- Nothing to believe: laws of what specs/ByteLaws.antt defines.
use Rattle.std.specs.Prelude.{◌≡◌, ◌⊎◌, List, [], ◌∷◌, ◌++◌, length, get_or, take, replicate}
use Rattle.std.proofs.Math.Path.{refl, ap}
use Rattle.std.proofs.Common.{◌∙◌, inl, inr, suc-mul, add-one}
use Prim.Native.Nat.{ℕ, zero, suc, ◌+◌, ◌-◌, ◌*◌, ◌/◌, ◌%◌, ◌≤◌, ◌<◌}
use native.Mathlib.Omega.{arith}
use Rattle.std.proofs.Math.ListN.{length-append}
use Rattle.base.proofs.Truth.{lt_or_ge}
use Rattle.base.specs.Joined.{joined}
use Rattle.base.specs.Table.{up_to}
use Rattle.base.proofs.Table.{length_up_to}
use Rattle.sheet_spec.specs.declared.Row.{Row}
use Rattle.sheet_spec.specs.Kept.{no_row, row}
use Rattle.sheet_spec.specs.Form.{RowForm, SheetForm}
use Rattle.sheet_spec.proofs.Formed.{repeated_below, unused_form, with_form}
use Rattle.sheet_spec.specs.Spelling.{version}
use Rattle.sheet_spec.specs.Encoding.{two, four, encode_words, encode_row, encode_rows, encode_codes, encode_body, encode, HasFirstCodes}
use Rattle.sheet_spec.proofs.EncodingLaws.{read_back_lem}
use Rattle.sheet_spec.proofs.PieceLaws.{rows_more}
use Rattle.sheet_spec.proofs.CodeLaws.{with_first}
use Rattle.sheet_spec.proofs.Written.{version_written}
use Rattle.sheet_spec.specs.Reading.{read_sheet, accepted}
use Rattle.bound_spec.specs.Sheets.{zero_to, one_to, either_to, reference_row, device_row, bound_reference, bound_device, reference_bytes, device_bytes}
use Rattle.bound_spec.proofs.SheetLaws.{reference_middle, reference_last, reference_free, reference_accepted, device_middle, device_last, device_free, device_accepted}
use Rattle.bound_spec.specs.ByteLaws.{climbing_device, climbing_reference, head_bytes, one_set_bytes, two_sets_bytes}

zero_bytes : (a : ℕ) → encode_row 2 (zero_to a) ≡ one_set_bytes a 255 1
unfolding encode_row encode_words two
zero_bytes a = refl

one_bytes : (b : ℕ) → encode_row 2 (one_to b) ≡ one_set_bytes 255 b 2
unfolding encode_row encode_words two
one_bytes b = refl

either_bytes : (a b : ℕ) → encode_row 2 (either_to a b) ≡ two_sets_bytes a b
unfolding encode_row encode_words two
either_bytes a b = refl

-- lists of one length, joined
pub joined_even : (f : ℕ → List ℕ) (k n : ℕ) → ((i : ℕ) → length (f i) ≡ k) → length (joined f n) ≡ n * k
unfolding joined
joined_even f k zero h = omega arith
joined_even f k (suc n) h = more (joined_even f k n h)
  where
    more : length (joined f n) ≡ n * k → length (joined f n ++ f n) ≡ suc n * k
    more e = omega (arith, length-append (joined f n) (f n), e, h n, suc-mul n k)

-- a length below 256 in four bytes
four_small : (x : ℕ) → x < 256 → four x ≡ 0 ∷ (0 ∷ (0 ∷ (x ∷ [])))
unfolding four two
four_small x l =
    let a : x / 65536 ≡ 0 = omega arith in
    let b : x % 65536 ≡ x = omega arith in
    let c : x / 256 ≡ 0 = omega arith in
    let d : x % 256 ≡ x = omega arith in
    rw (a, b, c, d)

-- a sheet of at most 32 nodes with one row in the place of each node: the bytes of its first k nodes, if node v has f v
module _ (rows : ℕ → Row) (f : ℕ → List ℕ) where
  first_bytes : (k : ℕ) → k ≤ 32 → ((v : ℕ) → v < k → encode_row 2 (get_or (up_to rows 32) v no_row) ≡ f v) → encode_rows 2 (take k (up_to rows 32)) ≡ joined f k
  unfolding encode_rows joined
  first_bytes zero h e = refl
  first_bytes (suc k) h e =
      rw (add-one k) at (rows_more 2 (up_to rows 32) k (omega (arith, length_up_to rows 32)))
      ∙ rw (first_bytes k (omega arith) (λ v l. e v (omega arith)), e k (omega arith))

module _ (p : ℕ) (low : 1 ≤ p) (high : p ≤ 32) where
  reference_rows : encode_rows 2 (take p (up_to (reference_row p) 32)) ≡ joined climbing_reference (p - 1) ++ one_set_bytes (p - 1) 255 1
  unfolding bound_reference
  reference_rows =
      let e : p ≡ (p - 1) + 1 = omega arith in
      ap (λ (k : ℕ). encode_rows 2 (take k (up_to (reference_row p) 32))) e
      ∙ rows_more 2 (up_to (reference_row p) 32) (p - 1) (omega (arith, length_up_to (reference_row p) 32))
      ∙ rw (
        first_bytes (reference_row p) climbing_reference (p - 1) (omega arith) (λ v l. rw (reference_middle p low high v (omega arith)) (either_bytes v (v + 1))),
        reference_last p low high (p - 1) (omega arith),
        zero_bytes (p - 1),
      )

  body_reference : length (encode_body 1 (bound_reference p)) ≡ 7 * p + 1
  unfolding bound_reference encode_body encode_codes
  body_reference =
      rw reference_rows
      (omega (arith, length-append (joined climbing_reference (p - 1)) (one_set_bytes (p - 1) 255 1), joined_even climbing_reference 7 (p - 1) (λ i. refl)))

  -- the reference's bytes: its head, the nodes that climb, and its last node
  pub reference_spelled : reference_bytes p ≡ head_bytes (7 * p + 1) p ++ (joined climbing_reference (p - 1) ++ one_set_bytes (p - 1) 255 1)
  unfolding bound_reference encode encode_body encode_codes
  reference_spelled = rw (body_reference, four_small (7 * p + 1) (omega arith), reference_rows)

  -- 02: 7 p + 5 bytes
  pub reference_length_lem : length (reference_bytes p) ≡ 7 * p + 5
  reference_length_lem =
      rw reference_spelled
      (omega (arith, length-append (joined climbing_reference (p - 1)) (one_set_bytes (p - 1) 255 1), joined_even climbing_reference 7 (p - 1) (λ i. refl)))

module _ (q : ℕ) (low : 1 ≤ q) (high : q ≤ 32) where
  device_rows : encode_rows 2 (take q (up_to (device_row q) 32)) ≡ joined climbing_device (q - 1) ++ one_set_bytes 255 0 2
  unfolding bound_device
  device_rows =
      let e : q ≡ (q - 1) + 1 = omega arith in
      ap (λ (k : ℕ). encode_rows 2 (take k (up_to (device_row q) 32))) e
      ∙ rows_more 2 (up_to (device_row q) 32) (q - 1) (omega (arith, length_up_to (device_row q) 32))
      ∙ rw (
        first_bytes (device_row q) climbing_device (q - 1) (omega arith) (λ v l. rw (device_middle q low high v (omega arith)) (zero_bytes (v + 1))),
        device_last q low high (q - 1) (omega arith),
        one_bytes 0,
      )

  body_device : length (encode_body 1 (bound_device q)) ≡ 5 * q + 3
  unfolding bound_device encode_body encode_codes
  body_device =
      rw device_rows
      (omega (arith, length-append (joined climbing_device (q - 1)) (one_set_bytes 255 0 2), joined_even climbing_device 5 (q - 1) (λ i. refl)))

  -- the device's bytes: its head, the nodes that climb, and its last node
  pub device_spelled : device_bytes q ≡ head_bytes (5 * q + 3) q ++ (joined climbing_device (q - 1) ++ one_set_bytes 255 0 2)
  unfolding bound_device encode encode_body encode_codes
  device_spelled = rw (body_device, four_small (5 * q + 3) (omega arith), device_rows)

  -- 02: 5 q + 7 bytes
  pub device_length_lem : length (device_bytes q) ≡ 5 * q + 7
  device_length_lem =
      rw device_spelled
      (omega (arith, length-append (joined climbing_device (q - 1)) (one_set_bytes 255 0 2), joined_even climbing_device 5 (q - 1) (λ i. refl)))

-- a list that begins with one or two numbers below m and goes on with one, again and again
begins : (m a z k : ℕ) → 0 < m → a < m → z < m → (i : ℕ) → get_or (a ∷ replicate k z) i 0 < m
begins m a z k p h l zero = h
begins m a z k p h l (suc i) = repeated_below m z k p l i

begins_two : (m a b z k : ℕ) → 0 < m → a < m → b < m → z < m → (i : ℕ) → get_or (a ∷ (b ∷ replicate k z)) i 0 < m
begins_two m a b z k p h n l zero = h
begins_two m a b z k p h n l (suc i) = begins m b z k p n l i

zero_form : (a : ℕ) → a < 256 → RowForm (zero_to a)
zero_form a l = record {
  succs = refl;
  succ_byte_lem = begins 256 a 255 11 (omega arith) l (omega arith);
  sets = refl;
  set_word = begins 65536 1 0 15 (omega arith) (omega arith) (omega arith);
  c_byte = omega arith;
}

one_form : (b : ℕ) → b < 256 → RowForm (one_to b)
one_form b l = record {
  succs = refl;
  succ_byte_lem = begins_two 256 255 b 255 10 (omega arith) (omega arith) l (omega arith);
  sets = refl;
  set_word = begins 65536 2 0 15 (omega arith) (omega arith) (omega arith);
  c_byte = omega arith;
}

either_form : (a b : ℕ) → a < 256 → b < 256 → RowForm (either_to a b)
either_form a b l h = record {
  succs = refl;
  succ_byte_lem = begins_two 256 a b 255 10 (omega arith) l h (omega arith);
  sets = refl;
  set_word = begins_two 65536 1 2 0 14 (omega arith) (omega arith) (omega arith) (omega arith);
  c_byte = omega arith;
}

module _ (p : ℕ) (low : 1 ≤ p) (high : p ≤ 32) where
  pub reference_form : SheetForm (bound_reference p)
  unfolding bound_reference
  reference_form = with_form (up_to (reference_row p) 32) 2 p (length_up_to (reference_row p) 32) (λ v l. at v l (lt_or_ge (v + 1) p) (lt_or_ge v p)) (omega arith) (omega arith)
    where
      at : (v : ℕ) → v < 32 → (v + 1 < p) ⊎ (p ≤ v + 1) → (v < p) ⊎ (p ≤ v) → RowForm (row (bound_reference p) v)
      at v l (inl h) k = rw (reference_middle p low high v h) (either_form v (v + 1) (omega arith) (omega arith))
      at v l (inr h) (inl k) = rw (reference_last p low high v (omega arith)) (zero_form v (omega arith))
      at v l (inr h) (inr k) = rw (reference_free p low high v k l) unused_form

  -- its codes are 1 and 2, so it can be written in version 1
  pub reference_codes : HasFirstCodes (bound_reference p)
  unfolding bound_reference
  reference_codes = with_first (up_to (reference_row p) 32) 2 p (omega arith)

  pub reference_read : read_sheet (reference_bytes p) ≡ accepted (bound_reference p)
  reference_read = read_back_lem 1 (bound_reference p) (inr (refl, reference_codes)) reference_form (reference_accepted p low high)

  pub reference_version : version (reference_bytes p) ≡ 1
  reference_version = version_written 1 (bound_reference p)

module _ (q : ℕ) (low : 1 ≤ q) (high : q ≤ 32) where
  pub device_form : SheetForm (bound_device q)
  unfolding bound_device
  device_form = with_form (up_to (device_row q) 32) 2 q (length_up_to (device_row q) 32) (λ v l. at v l (lt_or_ge (v + 1) q) (lt_or_ge v q)) (omega arith) (omega arith)
    where
      at : (v : ℕ) → v < 32 → (v + 1 < q) ⊎ (q ≤ v + 1) → (v < q) ⊎ (q ≤ v) → RowForm (row (bound_device q) v)
      at v l (inl h) k = rw (device_middle q low high v h) (zero_form (v + 1) (omega arith))
      at v l (inr h) (inl k) = rw (device_last q low high v (omega arith)) (one_form 0 (omega arith))
      at v l (inr h) (inr k) = rw (device_free q low high v k l) unused_form

  pub device_codes : HasFirstCodes (bound_device q)
  unfolding bound_device
  device_codes = with_first (up_to (device_row q) 32) 2 q (omega arith)

  pub device_read : read_sheet (device_bytes q) ≡ accepted (bound_device q)
  device_read = read_back_lem 1 (bound_device q) (inr (refl, device_codes)) device_form (device_accepted q low high)

  pub device_version : version (device_bytes q) ≡ 1
  device_version = version_written 1 (bound_device q)
