-- What owning a row or a sheet tells of its lists: their lengths and ranges, and so what a read of each place gives.
use mathlib.Core.Path.{◌≡◌, sym}
use mathlib.Core.List.{List, [], ◌∷◌}
use Prim.Native.Nat.{ℕ, zero, suc, ◌<◌, ◌≤◌}
use native.Mathlib.Omega.{arith}
use lib.ListN.{length, get_or, get_or-eq_default}
use mir.Val.{Val}
use base.Fml.{Fml}
use denote.Shadow.{shadow}
use denote.Array.{each}
use denote.Laws.{Is}
use denote.Builtin.{u8, u16}
use Rattle.sheet_spec.specs.declared.Row.{Row}
use Rattle.sheet_spec.specs.declared.Sheet.{Sheet}
use Rattle.sheet_spec.specs.Kept.{no_row, successor, acceptance}
use Rattle.sheet_spec.specs.Form.{RowForm, SheetForm}
use Rattle.sheet_spec.proofs.Slices.{get_d_inside}
use Rattle.sheet_spec.specs.contracts.Row as R
use Rattle.sheet_spec.specs.contracts.Sheet as S

-- what holds of each element of an owned array, and of the value for outside, holds at every place
each_at : {d : Type 0} (f : d → List Val → Fml) (P : d → Type 0) → ((x : d) (vs : List Val) → shadow (f x vs) → P x)
    → (xs : List d) (us : List Val) → shadow (each d f xs us) → (z : d) → P z → (i : ℕ) → P (get_or xs i z)
each_at f P h [] us e z q i = q
each_at f P h (x ∷ xs) [] e z q i = absurd e
each_at f P h (x ∷ xs) (u ∷ us) e z q zero = h x (u ∷ []) e.0
each_at f P h (x ∷ xs) (u ∷ us) e z q (suc i) = each_at f P h xs us e.1 z q i

-- what holds of each element of an owned array holds at every place within
each_in : {d : Type 0} (f : d → List Val → Fml) (P : d → Type 0) → ((x : d) (vs : List Val) → shadow (f x vs) → P x)
    → (xs : List d) (us : List Val) → shadow (each d f xs us) → (z : d) (i : ℕ) → i < length xs → P (get_or xs i z)
each_in f P h [] us e z i l = absurd (omega arith)
each_in f P h (x ∷ xs) [] e z i l = absurd e
each_in f P h (x ∷ xs) (u ∷ us) e z zero l = h x (u ∷ []) e.0
each_in f P h (x ∷ xs) (u ∷ us) e z (suc i) l = each_in f P h xs us e.1 z i (omega arith)

module _ (r : Row) (vs : List Val) (p : Is R.the_row r vs) where
  succs : length r.succ ≡ 12
  succs = p.1.1.0.1.0.1

  sets : length r.sets ≡ 16
  sets = p.1.1.1.0.1.0.1

  pub succ_in : (i : ℕ) → i < 12 → get_or r.succ i 0 ≡ successor r i
  unfolding successor
  succ_in i h = get_d_inside r.succ i 0 255 (omega (arith, succs))

  pub succ_out : (i : ℕ) → 12 ≤ i → 255 ≡ successor r i
  unfolding successor
  succ_out i h = sym (get_or-eq_default r.succ 255 (omega (arith, succs)))

  pub set_out : (j : ℕ) → 16 ≤ j → 0 ≡ acceptance r j
  unfolding acceptance
  set_out j h = sym (get_or-eq_default r.sets 0 (omega (arith, sets)))

  -- a row that is owned has the machine's form
  pub row_form : RowForm r
  row_form = record {
    succs = succs;
    succ_byte_lem = each_at u8.own_val (λ x. x < 256) (λ x us q. q.1) r.succ p.1.1.0.0 p.1.1.0.1.1 0 (omega arith);
    sets = sets;
    set_word = each_at u16.own_val (λ x. x < 65536) (λ x us q. q.1) r.sets p.1.1.1.0.0 p.1.1.1.0.1.1 0 (omega arith);
    c_byte = p.1.1.1.1.0.1;
  }

-- a sheet that is owned has the machine's form
pub sheet_form : (s : Sheet) (vs : List Val) → Is S.the_row s vs → SheetForm s
sheet_form s vs p =
    let l : length s.rows ≡ 32 = p.1.1.0.1.0.1 in
    record {
      rows = l;
      each = λ v h. each_in (R.the_row).own_val RowForm row_form s.rows p.1.1.0.0 p.1.1.0.1.1 no_row v (omega arith);
      e_byte = p.1.1.1.0.1;
      n_byte = p.1.1.1.1.0.1;
      codes = p.1.1.1.1.1.0.1.0.1;
      code_word = each_at u16.own_val (λ x. x < 65536) (λ x us q. q.1) s.codes p.1.1.1.1.1.0.0 p.1.1.1.1.1.0.1.1 0 (omega arith);
    }
