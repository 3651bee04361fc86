-- Nothing to believe: laws. The probe call: when each refusal is given, what is answered, and what stands in the list;
-- and the probes of a sheet's node.
use Rattle.std.specs.Prelude.{◌≡◌, ◌⊎◌, ◌↔◌, ◌≢◌, Bool, cond, List, ℕ, Ok, Err, ◌≤◌, ◌<◌, ltb, leb, get_or}
use Rattle.std.proofs.Math.Path.{refl}
use Rattle.std.proofs.Common.{sym, ◌∙◌, inl, inr}
use Rattle.std.proofs.Math.Bool.{true, false}
use native.Mathlib.Omega.{arith}
use Rattle.std.proofs.Math.Dec.{eqb}
use Rattle.std.proofs.Math.ListN.{length}
use borrow.Author.Tests.{eqb-true, eqb-false, eq-eqb, ne_eqb}
use Rattle.base.proofs.Truth.{dec, clash, lt_or_ge}
use Rattle.base.proofs.Finds.{finds_lt, finds_le}
use Rattle.base.specs.Counted.{Counted}
use Rattle.base.specs.Sorted.{Sorted}
use Rattle.base.specs.Front.{at_front}
use Rattle.base.proofs.Front.{at_front_length, at_front_before, at_front_behind}
use Rattle.base.specs.Refusal.{unless}
use Rattle.base.proofs.Refusal.{unless_hit, unless_pass, unless_none, unless_other, or_else_some, or_else_first, or_else_then}
use Rattle.sheet_spec.specs.declared.Sheet.{Sheet}
use Rattle.sheet_spec.specs.Kept.{row, acceptance, acceptances, may_stop}
use Rattle.sheet_spec.specs.Refusals.{sheet_fault, Own}
use Rattle.sheet_spec.proofs.CheckLaws.{check_other, own_other}
use Rattle.sheet_spec.proofs.RowLaws.{may_stop_means, acceptances_length, acceptances_at}
use Rattle.sheet_spec.specs.Sound.{Sound}
use Rattle.sheet_spec.proofs.SoundLaws.{check_sound}
use Rattle.probes_spec.specs.Probes.{probes, Probe, Before, ProbeList, Narrow}
use Rattle.probes_spec.proofs.ProbeLaws.{probe_at, probe_listed, probes_most, probes_none, probes_some, probes_ordered, probes_only, probes_counted}
use Rattle.probes_spec.specs.Listing.{node_probes, list_fault, list_count, listed_numbers, listed_of, list_after}

-- the numbers of each case of an answer, for crates that may not unfold them
pub listed_numbers_count : (m : ℕ) → listed_numbers (Ok m) ≡ (0, m)
unfolding listed_numbers
listed_numbers_count m = refl

pub listed_numbers_denied : (k : ℕ) → listed_numbers (Err k) ≡ (k, 0)
unfolding listed_numbers
listed_numbers_denied k = refl

module _ (s : Sheet) (v : ℕ) (out : List ℕ) where
  -- the sheet's own refusal comes first
  pub list_sheet : sheet_fault s ≢ 0 → list_fault s v out ≡ sheet_fault s
  unfolding list_fault
  list_sheet n = or_else_some (sheet_fault s) _ (omega (arith, n))

  -- the sheet's own number is given exactly for it
  pub list_own : (m : ℕ) → Own m → (list_fault s v out ≡ m) ↔ (sheet_fault s ≡ m)
  unfolding list_fault
  list_own m o =
      or_else_first (sheet_fault s) _ m (λ e. omega (arith, o.0))
      (unless_other (ltb v s.n) (own_other o (omega arith, λ p. omega arith))
      (unless_other (leb (length (node_probes s v)) (length out)) (own_other o (omega arith, λ p. omega arith)) (λ e. omega (arith, o.0))))

  -- 9: of a sheet that is not refused, a node that is not below N
  pub list_9 : (list_fault s v out ≡ 9) ↔ ((sheet_fault s ≡ 0) × (s.n ≤ v))
  unfolding list_fault
  list_9 =
      let a = or_else_then (sheet_fault s) (unless (ltb v s.n) 9 (unless (leb (length (node_probes s v)) (length out)) 10 0)) 9 (inl (check_other s 9 (omega arith, λ p. omega arith))) in
      let b = unless_hit 9 (unless (leb (length (node_probes s v)) (length out)) 10 0) (finds_lt v s.n) (unless_other (leb (length (node_probes s v)) (length out)) (omega arith) (omega arith)) in
      ((λ x. ((a.0 x).0, b.0 (a.0 x).1)), λ y. a.1 (y.0, b.1 y.1))

  not_beyond : ¬ (s.n ≤ v) → v < s.n
  not_beyond f = go (lt_or_ge v s.n)
    where
      go : (v < s.n) ⊎ (s.n ≤ v) → v < s.n
      go (inl l) = l
      go (inr l) = absurd (f l)

  -- 10: of a sheet that is not refused, a node below N, and a list shorter than its probes
  pub list_10 : (list_fault s v out ≡ 10) ↔ ((sheet_fault s ≡ 0) × (v < s.n) × (length out < length (node_probes s v)))
  unfolding list_fault
  list_10 =
      let a = or_else_then (sheet_fault s) (unless (ltb v s.n) 9 (unless (leb (length (node_probes s v)) (length out)) 10 0)) 10 (inl (check_other s 10 (omega arith, λ p. omega arith))) in
      let b = unless_pass 9 (unless (leb (length (node_probes s v)) (length out)) 10 0) 10 (finds_lt v s.n) (omega arith) in
      let c = unless_hit 10 0 (finds_le (length (node_probes s v)) (length out)) (omega arith) in
      ((λ x. let w = b.0 (a.0 x).1 in ((a.0 x).0, not_beyond w.0, c.0 w.1)), λ y. a.1 (y.0, b.1 ((λ l. omega (arith, l, y.1)), c.1 y.2)))

  -- no refusal: a sheet that is not refused, a node below N, and a list that is long enough
  pub list_0 : (list_fault s v out ≡ 0) ↔ ((sheet_fault s ≡ 0) × (v < s.n) × (length (node_probes s v) ≤ length out))
  unfolding list_fault
  list_0 =
      let a = or_else_then (sheet_fault s) (unless (ltb v s.n) 9 (unless (leb (length (node_probes s v)) (length out)) 10 0)) 0 (inr refl) in
      let b = unless_pass 9 (unless (leb (length (node_probes s v)) (length out)) 10 0) 0 (finds_lt v s.n) (omega arith) in
      let c = unless_none 10 (finds_le (length (node_probes s v)) (length out)) (omega arith) in
      ((λ x. let w = b.0 (a.0 x).1 in ((a.0 x).0, not_beyond w.0, long (c.0 w.1))), λ y. a.1 (y.0, b.1 ((λ l. omega (arith, l, y.1)), c.1 (λ l. omega (arith, l, y.2)))))
    where
      long : ¬ (length out < length (node_probes s v)) → length (node_probes s v) ≤ length out
      long f = go (lt_or_ge (length out) (length (node_probes s v)))
        where
          go : (length out < length (node_probes s v)) ⊎ (length (node_probes s v) ≤ length out) → length (node_probes s v) ≤ length out
          go (inl l) = absurd (f l)
          go (inr l) = l

  module _ (n : list_fault s v out ≢ 0) where
    -- a refusal answers its number, and alters nothing
    pub listed_denied : listed_of s v out ≡ Err (list_fault s v out)
    unfolding listed_of
    listed_denied = rw (ne_eqb (list_fault s v out) 0 n)

    pub after_denied : list_after s v out ≡ out
    unfolding list_after
    after_denied = rw (ne_eqb (list_fault s v out) 0 n)

    -- a refusal has no count beside its number
    pub count_denied : list_count s v out ≡ 0
    unfolding list_count
    count_denied = rw (ne_eqb (list_fault s v out) 0 n)

  module _ (z : list_fault s v out ≡ 0) where
    -- without a refusal the number of probes is answered
    pub listed_count : listed_of s v out ≡ Ok (length (node_probes s v))
    unfolding listed_of
    listed_count = rw (eq-eqb (list_fault s v out) 0 z)

    -- without a refusal the count is how many probes the node has
    pub count_given : list_count s v out ≡ length (node_probes s v)
    unfolding list_count
    count_given = rw (eq-eqb (list_fault s v out) 0 z)

    -- without a refusal the probes stand at the front of the list, the rest is untouched
    pub after_front : list_after s v out ≡ at_front out (node_probes s v)
    unfolding list_after
    after_front = rw (eq-eqb (list_fault s v out) 0 z)

    -- without a refusal each place of the list that has a probe holds it, and each place after these is as it was
    pub after_probe : (x : ℕ) → x < length (node_probes s v) → get_or (list_after s v out) x 0 ≡ get_or (node_probes s v) x 0
    after_probe x l = rw after_front (at_front_before out (node_probes s v) x 0 l)

    pub after_rest : (x : ℕ) → length (node_probes s v) ≤ x → get_or (list_after s v out) x 0 ≡ get_or out x 0
    after_rest x l = rw after_front (at_front_behind out (node_probes s v) x 0 l)

  -- in every probe call the two numbers of the answer are its refusal and its count
  pub listed_numbers_lem : listed_numbers (listed_of s v out) ≡ (list_fault s v out, list_count s v out)
  unfolding listed_numbers
  listed_numbers_lem = go (dec (eqb (list_fault s v out) 0))
    where
      go : (eqb (list_fault s v out) 0 ≡ true) ⊎ (eqb (list_fault s v out) 0 ≡ false) → listed_numbers (listed_of s v out) ≡ (list_fault s v out, list_count s v out)
      go (inl t) = let z = eqb-true (list_fault s v out) 0 t in rw (listed_count z, count_given z, z)
      go (inr t) = let n = eqb-false (list_fault s v out) 0 t in rw (listed_denied n, count_denied n)

  -- the list keeps its length in every probe call
  pub after_length : length (list_after s v out) ≡ length out
  unfolding list_after
  after_length = go (eqb (list_fault s v out) 0) refl
    where
      go : (b : Bool) → eqb (list_fault s v out) 0 ≡ b → length (cond b (at_front out (node_probes s v)) out) ≡ length out
      go true e = at_front_length out (node_probes s v) (list_0.0 (eqb-true (list_fault s v out) 0 e)).2
      go false e = refl

-- ---- the list of a node, whatever the sheet

-- it is the list of the node's acceptances, of the sheet's events: the list by which a comparison names a probe
pub node_list : (s : Sheet) (v : ℕ) → node_probes s v ≡ probes (acceptances (row s v)) s.e
unfolding node_probes
node_list s v = refl

-- fewer events come first in it, and of as many the lower number, so that each probe stands there once
pub node_ordered : (s : Sheet) (v : ℕ) → Sorted Before (node_probes s v)
unfolding node_probes
node_ordered s v = probes_ordered (acceptances (row s v)) s.e

-- ---- the probes of a node of a sheet that is not refused

module _ (s : Sheet) (h : sheet_fault s ≡ 0) (v : ℕ) (l : v < s.n) where
  sound : Sound s
  sound = check_sound s h

  -- the acceptances of a node have only events of the sheet
  pub node_narrow : Narrow (acceptances (row s v)) s.e
  node_narrow j k = let b : j < (row s v).c = omega (arith, k, acceptances_length (row s v)) in rw (acceptances_at (row s v) j b) (sound.narrow v j l b)

  -- what is listed for a node are its minimal hitting sets
  pub node_probe : (X : ℕ) → ((x : ℕ) × (x < length (node_probes s v)) × (get_or (node_probes s v) x 0 ≡ X)) ↔ Probe (acceptances (row s v)) X
  unfolding node_probes
  node_probe X = (there, λ p. probe_listed (acceptances (row s v)) s.e node_narrow X p)
    where
      there : (x : ℕ) × (x < length (probes (acceptances (row s v)) s.e)) × (get_or (probes (acceptances (row s v)) s.e) x 0 ≡ X) → Probe (acceptances (row s v)) X
      there (x, k, e) = rw (← e) (probe_at (acceptances (row s v)) s.e x k)

  -- a list that has just these, in their order, is the node's
  pub node_only : (ps : List ℕ) → ProbeList (acceptances (row s v)) ps → ps ≡ node_probes s v
  unfolding node_probes
  node_only ps q = probes_only (acceptances (row s v)) s.e node_narrow ps q

  -- how many a node has is how many minimal hitting sets there are, whatever their order
  pub node_counted : Counted (Probe (acceptances (row s v))) (length (node_probes s v))
  unfolding node_probes
  node_counted = probes_counted (acceptances (row s v)) s.e node_narrow

  -- a node has at most 4,096 probes
  pub node_few : length (node_probes s v) ≤ 4096
  unfolding node_probes
  node_few = probes_most (acceptances (row s v)) s.e sound.ranges.e_high

  -- a node has no probe exactly if it may stop
  pub node_stop : (length (node_probes s v) ≡ 0) ↔ (may_stop (row s v) ≡ true)
  unfolding node_probes
  node_stop = (there, back)
    where
      few : (row s v).c ≤ 16
      few = (sound.counts v l).1

      size : length (acceptances (row s v)) ≡ (row s v).c
      size = acceptances_length (row s v)

      back : may_stop (row s v) ≡ true → length (probes (acceptances (row s v)) s.e) ≡ 0
      back t =
          let w = (may_stop_means (row s v) few).0 t in
          probes_none (acceptances (row s v)) s.e w.0 (omega (arith, size, w.1)) (acceptances_at (row s v) w.0 w.1 ∙ w.2)

      there : length (probes (acceptances (row s v)) s.e) ≡ 0 → may_stop (row s v) ≡ true
      there z = go (dec (may_stop (row s v)))
        where
          go : (may_stop (row s v) ≡ true) ⊎ (may_stop (row s v) ≡ false) → may_stop (row s v) ≡ true
          go (inl t) = t
          go (inr t) = absurd (omega (arith, z, probes_some (acceptances (row s v)) s.e node_narrow (λ j k e. full j (omega (arith, size, k)) (sym (acceptances_at (row s v) j (omega (arith, size, k))) ∙ e))))
            where
              full : (j : ℕ) → j < (row s v).c → acceptance (row s v) j ≢ 0
              full j k e = clash ((may_stop_means (row s v) few).1 (j, k, e)) t
