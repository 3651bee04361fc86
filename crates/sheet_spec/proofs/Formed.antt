-- Nothing to believe: steps of proofs. What bytes spell has the machine's form: rows of twelve bytes, sixteen words and
-- a byte, whatever the bytes are; and so has a sheet that is made of rows of that form, with the codes of version 1.
use Rattle.std.specs.Prelude.{◌≡◌, ◌⊎◌, Bool, true, false, cond, List, ℕ, ◌+◌, ◌*◌, ◌≤◌, ◌<◌, eqb, ltb, length, get_or, replicate}
use Rattle.std.proofs.Common.{inl, inr, arith}
use Rattle.std.proofs.Math.ListN.{get_or-eq_default}
use Rattle.std.proofs.lemmas.List.{length-replicate, get_or-replicate}
use Rattle.base.proofs.Truth.{lt_or_ge}
use Rattle.base.specs.Table.{up_to}
use Rattle.base.proofs.Table.{length_up_to, get_or_up_to}
use Rattle.sheet_spec.specs.declared.Row.{Row}
use Rattle.sheet_spec.specs.Kept.{no_row, sheet_with}
use Rattle.sheet_spec.specs.Form.{Bytes, RowForm, SheetForm}
use Rattle.sheet_spec.specs.Spelling.{version, event_count, node_count, code_of, count_at, start_of, succ_of, sets_of, row_at, unused_row, row_of, sheet_of}

-- a table of numbers below m
table_below : (f : ℕ → ℕ) (n m : ℕ) → 0 < m → ((i : ℕ) → i < n → f i < m) → (i : ℕ) → get_or (up_to f n) i 0 < m
table_below f n m z h i = go (lt_or_ge i n)
  where
    go : (i < n) ⊎ (n ≤ i) → get_or (up_to f n) i 0 < m
    go (inl l) = rw (get_or_up_to f n i 0 l) (h i l)
    go (inr l) = let k : length (up_to f n) ≤ i = omega (arith, length_up_to f n) in rw (get_or-eq_default (up_to f n) 0 k) z

-- a choice between two things with a property has it
either : {A : Type 0} (P : A → Type 0) (t : Bool) {x y : A} → P x → P y → P (cond t x y)
either P true p q = p
either P false p q = q

module _ (b : List ℕ) (y : Bytes b) where
  succ_below : (at e i : ℕ) → succ_of b at e i < 256
  unfolding succ_of
  succ_below at e i = either (λ x. x < 256) (ltb i e) (y (at + i)) (omega arith)

  set_below : (at c j : ℕ) → sets_of b at c j < 65536
  unfolding sets_of
  set_below at c j = either (λ x. x < 65536) (ltb j c) (omega (arith, y (at + j * 2), y (at + j * 2 + 1))) (omega arith)

  -- the row that begins at a place has the machine's form
  pub row_form : (e at : ℕ) → RowForm (row_at b e at)
  unfolding row_at
  row_form e at = record {
    succs = length_up_to (succ_of b at e) 12;
    succ_byte_lem = table_below (succ_of b at e) 12 256 (omega arith) (λ i l. succ_below at e i);
    sets = length_up_to (sets_of b (at + e + 1) (count_at b e at)) 16;
    set_word = table_below (sets_of b (at + e + 1) (count_at b e at)) 16 65536 (omega arith) (λ j l. set_below (at + e + 1) (count_at b e at) j);
    c_byte = y (at + e);
  }

-- a list of one number below m
pub repeated_below : (m z n : ℕ) → 0 < m → z < m → (i : ℕ) → get_or (replicate n z) i 0 < m
repeated_below m z n p h i = go (lt_or_ge i n)
  where
    go : (i < n) ⊎ (n ≤ i) → get_or (replicate n z) i 0 < m
    go (inl l) = rw (get_or-replicate n i z 0 l) h
    go (inr l) = let k : length (replicate n z) ≤ i = omega (arith, length-replicate {A = ℕ} n z) in rw (get_or-eq_default (replicate n z) 0 k) p

pub unused_form : RowForm unused_row
unused_form = record {
  succs = length-replicate {A = ℕ} 12 255;
  succ_byte_lem = repeated_below 256 255 12 (omega arith) (omega arith);
  sets = length-replicate {A = ℕ} 16 0;
  set_word = repeated_below 65536 0 16 (omega arith) (omega arith);
  c_byte = omega arith;
}

module _ (b : List ℕ) (y : Bytes b) where
  any_row : (v : ℕ) → RowForm (row_of b (event_count b) (node_count b) v)
  unfolding row_of
  any_row v = either RowForm (ltb v (node_count b)) (row_form b y (event_count b) (start_of b (event_count b) v)) unused_form

  code_below : (i : ℕ) → i < 12 → code_of b i < 65536
  unfolding code_of
  code_below i l =
      either (λ x. x < 65536) (ltb i (event_count b))
      (either (λ x. x < 65536) (eqb (version b) 2) (omega (arith, y (7 + i * 2), y (7 + i * 2 + 1))) (omega arith)) (omega arith)

  -- the sheet that bytes spell has the machine's form
  pub sheet_of_form : SheetForm (sheet_of b)
  unfolding sheet_of
  sheet_of_form = record {
    rows = length_up_to (row_of b (event_count b) (node_count b)) 32;
    each = λ v h. rw (get_or_up_to (row_of b (event_count b) (node_count b)) 32 v no_row h) (any_row v);
    e_byte = y 5;
    n_byte = y 6;
    codes = length_up_to (code_of b) 12;
    code_word = table_below (code_of b) 12 65536 (omega arith) (λ i l. code_below i l);
  }

-- a sheet of rows of the machine's form, with the codes of version 1
pub with_form : (rows : List Row) (e n : ℕ) → length rows ≡ 32 → ((v : ℕ) → v < 32 → RowForm (get_or rows v no_row)) → e < 256 → n < 256 → SheetForm (sheet_with rows e n)
with_form rows e n l f x y = record {
  rows = l;
  each = f;
  e_byte = x;
  n_byte = y;
  codes = length_up_to (λ i. cond (ltb i e) (i + 1) 0) 12;
  code_word = table_below (λ i. cond (ltb i e) (i + 1) 0) 12 65536 (omega arith) (λ i h. either (λ z. z < 65536) (ltb i e) (omega arith) (omega arith));
}
