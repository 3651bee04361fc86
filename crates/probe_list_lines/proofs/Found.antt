-- The answer of the probe call and the line of the node. The probe lists are used by their laws alone.
use mathlib.Core.Path.{◌≡◌, sym, ap, ◌∙◌}
use mathlib.Core.Logic.{◌⊎◌, inl, inr, ◌≢◌}
use mathlib.Core.Bool.{Bool, true, false, true≢false}
use mathlib.Core.List.{List}
use Prim.Native.Nat.{ℕ, ◌≤◌, ◌<◌}
use native.Mathlib.Omega.{arith}
use native.Mathlib.Decide.{ℕ_discrete}
use lib.ListN.{length, take}
use lib.Seq.{length-take-le, get_or-take, ext_get_or}
use borrow.Author.Tests.{eq-eqb, ne_eqb}
use Rattle.base.proofs.Truth.{dec}
use Rattle.sheet_spec.specs.declared.Sheet.{Sheet}
use Rattle.sheet_spec.specs.Kept.{row, may_stop}
use Rattle.sheet_spec.specs.Refusals.{sheet_fault}
use Rattle.sheet_spec.proofs.SoundLaws.{check_sound}
use Rattle.std.specs.Prelude.{Result, Ok, Err}
use Rattle.refusals.specs.Numbers.{number, numbered}
use Rattle.refusals.specs.declared.Refusal.{Refusal}
use Rattle.probes_spec.specs.Listing.{node_probes, list_fault, listed_numbers, listed_of, list_after}
use Rattle.probes_spec.proofs.ListingLaws.{listed_numbers_count, listed_numbers_denied, list_0, listed_denied, listed_count, after_probe, after_length, node_stop}
use Rattle.text.specs.declared.Page.{Page}
use Rattle.text.specs.Pages.{Puts}
use Rattle.text.proofs.PageLaws.{puts_then}
use Rattle.text_sheet_spec.specs.Node.{probe_space, denied_line, node_line, optional, optional_text, node_text}
use Rattle.text_sheet_spec.proofs.NodeLaws.{space_length, line_stop, line_probes, line_denied, line_some}
use Rattle.text_sheet_spec.proofs.OptionalLaws.{text_denied, text_listed}
use Rattle.probe_list_lines.specs.Shapes.{found_line}

-- whether an answer of the probe call is a count, not a refusal
is_count : Result ℕ ℕ → Bool
is_count (Ok m) = true
is_count (Err k) = false

module _ (s : Sheet) (v : ℕ) where
  -- a count is given where nothing is refused
  count_clear : (m : ℕ) → Ok m ≡ listed_of s v probe_space → list_fault s v probe_space ≡ 0
  unfolding is_count
  count_clear m e = go (ℕ_discrete (list_fault s v probe_space) 0)
    where
      go : Dec (list_fault s v probe_space ≡ 0) → list_fault s v probe_space ≡ 0
      go (yes z) = z
      go (no n) = absurd (true≢false (ap is_count (e ∙ listed_denied s v probe_space n)))

  -- a count that is given is the number of probes
  count_is : (m : ℕ) → Ok m ≡ listed_of s v probe_space → m ≡ length (node_probes s v)
  count_is m e = ap (λ (p : ℕ × ℕ). p.1) (sym (listed_numbers_count m) ∙ ap listed_numbers (e ∙ listed_count s v probe_space (count_clear m e)) ∙ listed_numbers_count (length (node_probes s v)))

  -- a count that is given is never more than the list has places
  count_fits : (m : ℕ) → Ok m ≡ listed_of s v probe_space → m ≤ 4096
  count_fits m e = omega (arith, count_is m e, ((list_0 s v probe_space).0 (count_clear m e)).2, space_length)

  -- a number is given where something is refused, and it is that refusal's
  denied_fault : (k : ℕ) → Err k ≡ listed_of s v probe_space → list_fault s v probe_space ≢ 0
  unfolding is_count
  denied_fault k e z = true≢false (sym (ap is_count (e ∙ listed_count s v probe_space z)))

  denied_number : (k : ℕ) → Err k ≡ listed_of s v probe_space → k ≡ list_fault s v probe_space
  denied_number k e =
      ap (λ (p : ℕ × ℕ). p.0) (sym (listed_numbers_denied k) ∙ ap listed_numbers (e ∙ listed_denied s v probe_space (denied_fault k e)) ∙ listed_numbers_denied (list_fault s v probe_space))

  denied_is : (k : ℕ) → Err k ≡ listed_of s v probe_space → denied_line v k ≡ node_text s v
  denied_is k e = rw (denied_number k e, text_denied s v (denied_fault k e)) (sym (line_denied s v (denied_fault k e)))

  -- the front of the list, of as many places as were counted, are the probes
  front_is : (m : ℕ) → Ok m ≡ listed_of s v probe_space → take m (list_after s v probe_space) ≡ node_probes s v
  front_is m e =
      let z = count_clear m e in
      let n : length (list_after s v probe_space) ≡ 4096 = after_length s v probe_space ∙ space_length in
      let l : length (take m (list_after s v probe_space)) ≡ m = length-take-le m (list_after s v probe_space) (omega (arith, n, count_fits m e)) in
      ext_get_or 0 (take m (list_after s v probe_space)) (node_probes s v) (l ∙ count_is m e)
      (λ i h. get_or-take m (list_after s v probe_space) i 0 (omega arith) ∙ after_probe s v probe_space z i (omega (arith, count_is m e)))

  -- the line of the probes that were found is the line of the node
  found_probes : list_fault s v probe_space ≡ 0 → found_line v (node_probes s v) ≡ node_line s v
  unfolding found_line
  found_probes z =
      let w = (list_0 s v probe_space).0 z in
      go w.0 w.1 (dec (may_stop (row s v)))
    where
      go : sheet_fault s ≡ 0 → v < s.n → (may_stop (row s v) ≡ true) ⊎ (may_stop (row s v) ≡ false) → found_line v (node_probes s v) ≡ node_line s v
      go h l (inl t) = rw (eq-eqb (length (node_probes s v)) 0 ((node_stop s h v l).1 t)) (sym (line_stop s v h l t))
      go h l (inr t) = rw (ne_eqb (length (node_probes s v)) 0 (λ y. omega (arith, y, line_some s v h l t))) (sym (line_probes s v h l t))

  found_is : (m : ℕ) (sets : List ℕ) → Ok m ≡ listed_of s v probe_space → sets ≡ list_after s v probe_space → found_line v (take m sets) ≡ node_line s v
  found_is m sets e a = rw (a, front_is m e) (found_probes (count_clear m e))

-- what is put after the probe call, for a count and for a refusal
module _ (s : Sheet) (v : ℕ) {x : Result ℕ Refusal} (told : numbered x ≡ listed_of s v probe_space) where
  pub found_fits : {m : ℕ} → x ≡ Ok m → m ≤ 4096
  found_fits {m} e = count_fits s v m (sym (ap numbered e) ∙ told)

  pub found_count : {m : ℕ} {sets : List ℕ} → x ≡ Ok m → sets ≡ list_after s v probe_space → m ≡ length (take m sets)
  found_count {m} {sets} e a = sym (length-take-le m sets (omega (arith, found_fits e, ap length a, after_length s v probe_space, space_length)))

  -- a node whose probes were counted has a row in the sheet
  pub found_node : {m : ℕ} → x ≡ Ok m → v < 32
  found_node {m} e =
      let w = (list_0 s v probe_space).0 (count_clear s v m (sym (ap numbered e) ∙ told)) in
      omega (arith, w.1, (check_sound s w.0).ranges.n_high)

  pub found_puts : {m : ℕ} {sets : List ℕ} {p q r : Page} → x ≡ Ok m → sets ≡ list_after s v probe_space
      → Puts (found_line v (take m sets)) p q → Puts (optional_text v (optional s.e (row s v))) q r → Puts (node_text s v) p r
  found_puts {m} {sets} e a h k = rw (text_listed s v (count_clear s v m (sym (ap numbered e) ∙ told)), ← found_is s v m sets (sym (ap numbered e) ∙ told) a) (puts_then h k)

  pub denied_puts : {k : Refusal} {p q : Page} → x ≡ Err k → Puts (denied_line v (number k)) p q → Puts (node_text s v) p q
  denied_puts {k} e h = rw (← denied_is s v (number k) (sym (ap numbered e) ∙ told)) h
