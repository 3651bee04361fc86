-- The probes as they are found, and the list that is written from them; and what `list` knows of a node when the sheet
-- is not refused.
use Rattle.std.proofs.Common.{◌≡◌, ℕ, suc, ◌<◌, ◌≤◌, List, length, take, sym, ◌∙◌, arith}
use Rattle.base.specs.Front.{at_front}
use Rattle.base.proofs.Front.{at_front_taken}
use Rattle.base.specs.Joined.{joined}
use Rattle.sheet_spec.specs.declared.Sheet.{Sheet}
use Rattle.sheet_spec.specs.Kept.{row}
use Rattle.sheet_spec.specs.Form.{SheetForm}
use Rattle.sheet_spec.proofs.RowLaws.{acceptances_take}
use Rattle.sheet_spec.specs.Refusals.{sheet_fault}
use Rattle.sheet_spec.proofs.SoundLaws.{check_sound}
use Rattle.probes_spec.specs.Probes.{probes}
use Rattle.probes_spec.proofs.ProbeLaws.{probes_most}
use Rattle.probes_spec.specs.Shapes.{probes_by_number, of_size}
use Rattle.probes_spec.proofs.ShapeLaws.{sized_probes, found_count}
use Rattle.probes_spec.specs.Listing.{node_probes}

-- ---- the probes of some acceptances

module _ (accs : List ℕ) (e : ℕ) where
  -- at most 4,096 are found
  pub found_most : e ≤ 12 → length (probes_by_number accs e) ≤ 4096
  found_most h = omega (arith, probes_most accs e h, found_count accs e)

  -- the front of a list to which they were written, as many places as they are
  pub found_front : (out : List ℕ) {found : List ℕ} {m : ℕ} → found ≡ at_front out (probes_by_number accs e) → m ≡ length (probes_by_number accs e) → take m found ≡ probes_by_number accs e
  found_front out p q = rw p (at_front_taken out (probes_by_number accs e) (sym q))

  pub list_front : (out : List ℕ) {list : List ℕ} {m : ℕ} → list ≡ at_front out (probes accs e) → m ≡ length (probes accs e) → take m list ≡ probes accs e
  list_front out p q = rw p (at_front_taken out (probes accs e) (sym q))

  -- what is found, written size by size, is the list of probes
  pub found_listed : (out found : List ℕ) {after : List ℕ} → found ≡ probes_by_number accs e → after ≡ at_front out (joined (of_size found) (suc e)) → after ≡ at_front out (probes accs e)
  found_listed out found p q = q ∙ (rw (p, sized_probes accs e))

  pub found_length : {m : ℕ} → m ≡ length (probes_by_number accs e) → m ≡ length (probes accs e)
  found_length q = q ∙ found_count accs e

-- ---- a sheet that is not refused

module _ (s : Sheet) (h : sheet_fault s ≡ 0) where
  pub sheet_nodes : s.n ≤ 32
  sheet_nodes = (check_sound s h).ranges.n_high

  pub sheet_events : s.e ≤ 12
  sheet_events = (check_sound s h).ranges.e_high

  pub node_count_lem : (v : ℕ) → v < s.n → (row s v).c ≤ 16
  node_count_lem v l = ((check_sound s h).counts v l).1

  -- the probes of a node are those of its row's first sets
  pub node_sets : SheetForm s → (v : ℕ) → v < s.n → probes (take (row s v).c (row s v).sets) s.e ≡ node_probes s v
  unfolding node_probes
  node_sets f v l = rw (acceptances_take (row s v) (f.each v (omega (arith, sheet_nodes))) (node_count_lem v l))
