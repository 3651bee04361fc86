-- Nothing to believe: laws. What `probe_list` prints of a node in each case. Probes are used by their name and laws
-- alone.
use Rattle.std.specs.Prelude.{◌≡◌, ◌⊎◌, ◌≢◌, true, false, ℕ, ◌≤◌, ◌<◌, length}
use Rattle.std.proofs.Common.{sym, ◌∙◌, inl, inr, arith, eq-eqb, ne_eqb}
use Rattle.std.proofs.lemmas.List.{length-replicate}
use Rattle.base.proofs.Truth.{lt_or_ge, clash}
use Rattle.sheet_spec.specs.declared.Sheet.{Sheet}
use Rattle.sheet_spec.specs.Kept.{row, may_stop}
use Rattle.sheet_spec.specs.Refusals.{sheet_fault}
use Rattle.probes_spec.specs.Listing.{node_probes, list_fault}
use Rattle.probes_spec.proofs.ListingLaws.{list_sheet, list_9, list_0, node_few, node_stop}
use Rattle.text_sheet_spec.specs.Node.{probe_space, probes_line, may_stop_line, denied_line, node_line}

-- the probe call is lent 4,096 places
pub space_length : length probe_space ≡ 4096
unfolding probe_space
space_length = length-replicate {A = ℕ} 4096 0

-- a node of an accepted sheet is not refused: 4,096 places are enough
pub node_listed : (s : Sheet) (v : ℕ) → sheet_fault s ≡ 0 → v < s.n → list_fault s v probe_space ≡ 0
node_listed s v h l = (list_0 s v probe_space).1 (h, l, omega (arith, node_few s h v l, space_length))

module _ (s : Sheet) (v : ℕ) where
  -- the line of a node that may stop says so
  pub line_stop : sheet_fault s ≡ 0 → v < s.n → may_stop (row s v) ≡ true → node_line s v ≡ may_stop_line v
  unfolding node_line
  line_stop h l t = rw (eq-eqb (list_fault s v probe_space) 0 (node_listed s v h l), t)

  -- the line of a node that may not stop has its probes, all of them and in their order
  pub line_probes : sheet_fault s ≡ 0 → v < s.n → may_stop (row s v) ≡ false → node_line s v ≡ probes_line v (node_probes s v)
  unfolding node_line
  line_probes h l t = rw (eq-eqb (list_fault s v probe_space) 0 (node_listed s v h l), t)

  -- the line of a refused probe call has the number of the refusal
  pub line_denied : list_fault s v probe_space ≢ 0 → node_line s v ≡ denied_line v (list_fault s v probe_space)
  unfolding node_line
  line_denied n = rw (ne_eqb (list_fault s v probe_space) 0 n)

  -- the line for a refused sheet has the sheet's own number
  pub line_sheet : sheet_fault s ≢ 0 → node_line s v ≡ denied_line v (sheet_fault s)
  line_sheet n =
      let e = list_sheet s v probe_space n in
      rw (line_denied (λ z. n (sym e ∙ z)), e)

  -- the line for a node that is not below N has 9
  pub line_9 : sheet_fault s ≡ 0 → s.n ≤ v → node_line s v ≡ denied_line v 9
  line_9 h l =
      let e = (list_9 s v probe_space).1 (h, l) in
      rw (line_denied (λ z. absurd (omega (arith, e, z))), e)

  -- a node that may not stop has a probe
  pub line_some : sheet_fault s ≡ 0 → v < s.n → may_stop (row s v) ≡ false → 0 < length (node_probes s v)
  line_some h l t = go (lt_or_ge 0 (length (node_probes s v)))
    where
      go : (0 < length (node_probes s v)) ⊎ (length (node_probes s v) ≤ 0) → 0 < length (node_probes s v)
      go (inl k) = k
      go (inr k) = absurd (clash ((node_stop s h v l).0 (omega arith)) t)
