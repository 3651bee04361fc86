-- Nothing to believe: laws. One probe for several nodes (02, K10): what is listed, in words of the nodes; the list of
-- one node; where there is no probe; and the call: when each refusal is given, what is answered, and what stands in the
-- list.
use Rattle.std.specs.Prelude.{◌≡◌, refl, ◌⊎◌, ◌↔◌, ◌≢◌, false, not, ◌&&◌, cond, ℕ, Ok, Err, zero, suc, ◌+◌, ◌^◌, ◌≤◌, ◌<◌, eqb, ltb, leb}
use Rattle.std.proofs.Math.Path.{sym, ap}
use Rattle.std.proofs.Common.{◌∙◌, eq-or-lt_of_le}
use Rattle.std.proofs.Math.Logic.{inl, inr}
use Rattle.std.proofs.Math.Bool.{true}
use mathlib.Core.List.{List, [], ◌++◌, append-nil}
use Rattle.std.proofs.Math.Decide.{ℕ_discrete}
use native.Mathlib.Omega.{arith}
use Rattle.std.specs.Int.Bits.{bit_or}
use Rattle.std.proofs.Math.ListN.{length, get_or}
use Rattle.std.proofs.Math.Pow.{pow_pos, pow-lt}
use borrow.Author.Tests.{eqb-true, eqb-false, eq-eqb, ne_eqb, lt-ltb}
use Rattle.base.proofs.Truth.{dec, clash, lt_or_ge, not_i}
use Rattle.base.proofs.Finds.{Finds, finds_lt, finds_le, finds_and, finds_not}
use Rattle.base.specs.Counted.{Counted}
use Rattle.base.proofs.CountedLaws.{counted_as}
use Rattle.base.specs.Sorted.{In, Sorted}
use Rattle.base.specs.Joined.{joined}
use Rattle.base.proofs.JoinedLaws.{joined_length, joined_room, joined_has, joined_from}
use Rattle.base.specs.Front.{at_front}
use Rattle.base.proofs.Front.{at_front_before, at_front_behind}
use Rattle.base.specs.Refusal.{unless}
use Rattle.base.proofs.Refusal.{unless_hit, unless_pass, unless_none, unless_other, or_else_some, or_else_first, or_else_then}
use Rattle.events.specs.Bit.{bit, Within}
use Rattle.events.proofs.Bit.{bit≤1, bit_one, bit_other, bit_high, bit_or_lem, bits_zero, some_bit, narrow}
use Rattle.events.specs.Sets.{has, meets}
use Rattle.events.proofs.Sets.{has→, has←, meets→, meets_not}
use Rattle.sheet_spec.specs.declared.Sheet.{Sheet}
use Rattle.sheet_spec.specs.Kept.{row, acceptance, acceptances, may_stop}
use Rattle.sheet_spec.specs.Refusals.{sheet_fault, Own}
use Rattle.sheet_spec.proofs.CheckLaws.{check_other, own_other}
use Rattle.sheet_spec.proofs.RowLaws.{may_stop_means, acceptances_length, acceptances_at}
use Rattle.sheet_spec.specs.Sound.{Sound}
use Rattle.sheet_spec.proofs.SoundLaws.{check_sound}
use Rattle.probes_spec.specs.Probes.{probes, Hits, Probe, Before, Narrow}
use Rattle.probes_spec.proofs.HitLaws.{probe_inside}
use Rattle.probes_spec.proofs.ProbeLaws.{probes_most, probes_none, probes_some, probes_ordered, probes_are, probes_only, probes_counted}
use Rattle.probes_spec.specs.Listing.{node_probes, listed_numbers, list_fault, listed_of, list_after}
use Rattle.probes_spec.specs.Nodes.{set_acceptances, nodes_probes, node_set_ok, nodes_fault, nodes_count, nodes_listed, nodes_list_after}
use Rattle.probes_spec.specs.Together.{Named, SomeRefuses, Together, NoneNamed, Foreign}

-- ---- the acceptances of a set of nodes

module _ (s : Sheet) (X : ℕ) where
  -- the acceptances of node v, if it is in the set
  abbrev of : ℕ → List ℕ
  of v = cond (has X v) (acceptances (row s v)) []

  of_yes : (v : ℕ) → has X v ≡ true → of v ≡ acceptances (row s v)
  of_yes v t = rw t

  of_no : (v : ℕ) → has X v ≡ false → of v ≡ []
  of_no v t = rw t

  -- what stands among them is an acceptance of a node of the set, and every such acceptance does
  pub in_nodes : (A : ℕ) → In (set_acceptances s X) A ↔ ((v : ℕ) × Named s X v × ((j : ℕ) × (j < (row s v).c) × (acceptance (row s v) j ≡ A)))
  unfolding set_acceptances
  in_nodes A = (forth, back)
    where
      forth : In (joined of s.n) A → (v : ℕ) × Named s X v × ((j : ℕ) × (j < (row s v).c) × (acceptance (row s v) j ≡ A))
      forth (x, l, e) = go (joined_from of s.n x l)
        where
          go : (v : ℕ) × (y : ℕ) × (v < s.n) × (y < length (of v)) × (x ≡ length (joined of v) + y) × (get_or (joined of s.n) x 0 ≡ get_or (of v) y 0)
              → (v : ℕ) × Named s X v × ((j : ℕ) × (j < (row s v).c) × (acceptance (row s v) j ≡ A))
          go (v, y, k, r, _, q) = pick (dec (has X v))
            where
              pick : (has X v ≡ true) ⊎ (has X v ≡ false) → (v : ℕ) × Named s X v × ((j : ℕ) × (j < (row s v).c) × (acceptance (row s v) j ≡ A))
              pick (inr t) = absurd (omega (arith, ap length (of_no v t), r))
              pick (inl t) =
                  let b : y < (row s v).c = omega (arith, ap length (of_yes v t), acceptances_length (row s v), r) in
                  (v, (k, has→ X v t), (y, b, sym (acceptances_at (row s v) y b) ∙ ap (λ (m : List ℕ). get_or m y 0) (sym (of_yes v t)) ∙ sym q ∙ e))

      back : (v : ℕ) × Named s X v × ((j : ℕ) × (j < (row s v).c) × (acceptance (row s v) j ≡ A)) → In (joined of s.n) A
      back (v, (k, m), (j, b, e)) =
          let q = of_yes v (has← X v m) in
          let r : j < length (of v) = omega (arith, ap length q, acceptances_length (row s v)) in
          (length (joined of v) + j, joined_room of s.n v j k r, joined_has of s.n v j k r ∙ ap (λ (m : List ℕ). get_or m j 0) q ∙ acceptances_at (row s v) j b ∙ e)

  -- a set meets them all exactly if no node of the set may refuse it
  pub hits_nodes : (Y : ℕ) → Hits (set_acceptances s X) Y ↔ (¬ SomeRefuses s X Y)
  hits_nodes Y = (forth, back)
    where
      forth : Hits (set_acceptances s X) Y → ¬ SomeRefuses s X Y
      forth h (v, n, (j, b, a)) =
          let w = (in_nodes (acceptance (row s v) j)).1 (v, n, (j, b, refl)) in
          let c = h w.0 w.1 in
          omega (arith, a c.0, c.2, ap (λ (z : ℕ). bit z c.0) w.2, c.1)

      back : ¬ SomeRefuses s X Y → Hits (set_acceptances s X) Y
      back f x l = go ((in_nodes (get_or (set_acceptances s X) x 0)).0 (x, l, refl))
        where
          go : (v : ℕ) × Named s X v × ((j : ℕ) × (j < (row s v).c) × (acceptance (row s v) j ≡ get_or (set_acceptances s X) x 0))
              → (i : ℕ) × (bit (get_or (set_acceptances s X) x 0) i ≡ 1) × (bit Y i ≡ 1)
          go (v, n, (j, b, e)) = pick (dec (meets (get_or (set_acceptances s X) x 0) Y))
            where
              pick : (meets (get_or (set_acceptances s X) x 0) Y ≡ true) ⊎ (meets (get_or (set_acceptances s X) x 0) Y ≡ false)
                  → (i : ℕ) × (bit (get_or (set_acceptances s X) x 0) i ≡ 1) × (bit Y i ≡ 1)
              pick (inl t) = meets→ (get_or (set_acceptances s X) x 0) Y t
              pick (inr t) = absurd (f (v, n, (j, b, rw e (meets_not (get_or (set_acceptances s X) x 0) Y t))))

  -- the minimal sets that meet them all are the probes for the nodes
  pub together_means : (Y : ℕ) → Probe (set_acceptances s X) Y ↔ Together s X Y
  together_means Y = (
    λ p. record { met = (hits_nodes Y).0 p.hits; minimal = λ Z w f. p.minimal Z w ((hits_nodes Z).1 f) },
    λ t. record { hits = (hits_nodes Y).1 t.met; minimal = λ Z w h. t.minimal Z w ((hits_nodes Z).0 h) },
  )

-- some node of two sets may refuse Y exactly if one of the first or one of the second may
pub refuses_either : (s : Sheet) (X X' Y : ℕ) → SomeRefuses s (bit_or X X') Y ↔ (SomeRefuses s X Y ⊎ SomeRefuses s X' Y)
refuses_either s X X' Y = (forth, back)
  where
    forth : SomeRefuses s (bit_or X X') Y → SomeRefuses s X Y ⊎ SomeRefuses s X' Y
    forth (v, (k, b), r) = go (ℕ_discrete (bit X v) 1)
      where
        go : Dec (bit X v ≡ 1) → SomeRefuses s X Y ⊎ SomeRefuses s X' Y
        go (yes e) = inl (v, (k, e), r)
        go (no n) = inr (v, (k, omega (arith, b, bit_or_lem v X X', bit≤1 X v, n)), r)

    back : SomeRefuses s X Y ⊎ SomeRefuses s X' Y → SomeRefuses s (bit_or X X') Y
    back (inl (v, (k, b), r)) = (v, (k, omega (arith, b, bit_or_lem v X X', bit≤1 X' v)), r)
    back (inr (v, (k, b), r)) = (v, (k, omega (arith, b, bit_or_lem v X X', bit≤1 X v)), r)

-- ---- one node

-- where only list v is not empty, all lists one after another are that one
joined_only : (f : ℕ → List ℕ) (v n : ℕ) → v < n → ((u : ℕ) → v ≢ u → f u ≡ []) → joined f n ≡ f v
unfolding joined
joined_only f v zero l h = absurd (omega arith)
joined_only f v (suc n) l h = go (eq-or-lt_of_le l) (λ k. joined_only f v n k h)
  where
    before : (m : ℕ) → m ≤ v → joined f m ≡ []
    before zero k = refl
    before (suc m) k = rw (before m (omega arith), h m (λ e. omega arith))

    go : (suc v ≡ suc n) ⊎ (suc v < suc n) → (v < n → joined f n ≡ f v) → joined f n ++ f n ≡ f v
    go (inl e) ih = let q : v ≡ n = omega arith in rw (before n (omega arith), q)
    go (inr k) ih = rw (h n (λ e. omega arith), ih (omega arith)) (append-nil (f v))

-- a set of one node gives that node's list
pub nodes_one : (s : Sheet) (v : ℕ) → v < s.n → nodes_probes s (2 ^ v) ≡ node_probes s v
unfolding nodes_probes node_probes set_acceptances
nodes_one s v l = ap (λ (accs : List ℕ). probes accs s.e) (joined_only (of s (2 ^ v)) v s.n l others ∙ of_yes s (2 ^ v) v (has← (2 ^ v) v (bit_one v)))
  where
    others : (u : ℕ) → v ≢ u → of s (2 ^ v) u ≡ []
    others u n = of_no s (2 ^ v) u (not_i (λ t. omega (arith, has→ (2 ^ v) u t, bit_other v u n)))

-- ---- the probes for the nodes of a sheet that is not refused

module _ (s : Sheet) (h : sheet_fault s ≡ 0) (X : ℕ) where
  sound : Sound s
  sound = check_sound s h

  -- the acceptances have only events of the sheet
  pub nodes_narrow : Narrow (set_acceptances s X) s.e
  nodes_narrow x l = go ((in_nodes s X (get_or (set_acceptances s X) x 0)).0 (x, l, refl))
    where
      go : (v : ℕ) × Named s X v × ((j : ℕ) × (j < (row s v).c) × (acceptance (row s v) j ≡ get_or (set_acceptances s X) x 0)) → get_or (set_acceptances s X) x 0 < 2 ^ s.e
      go (v, (k, _), (j, b, e)) = rw (← e) (sound.narrow v j k b)

  -- there are at most 512 of them
  pub nodes_sets : length (set_acceptances s X) ≤ 512
  unfolding set_acceptances
  nodes_sets = omega (arith, joined_length (of s X) 16 s.n (λ v l. few v l (dec (has X v))), sound.ranges.n_high)
    where
      few : (v : ℕ) → v < s.n → (has X v ≡ true) ⊎ (has X v ≡ false) → length (of s X v) ≤ 16
      few v l (inl t) = omega (arith, ap length (of_yes s X v t), acceptances_length (row s v), (sound.counts v l).1)
      few v l (inr t) = omega (arith, ap length (of_no s X v t))

  -- what is listed are the minimal sets that no node of the set may refuse
  pub nodes_probe : (Y : ℕ) → In (nodes_probes s X) Y ↔ Together s X Y
  unfolding nodes_probes
  nodes_probe Y =
      let r = probes_are (set_acceptances s X) s.e nodes_narrow in
      let t = together_means s X Y in
      ((λ i. t.0 ((r.just Y).0 i)), λ w. (r.just Y).1 (t.1 w))

  -- fewer events come first, and of as many the lower number
  pub nodes_ordered : Sorted Before (nodes_probes s X)
  unfolding nodes_probes
  nodes_ordered = probes_ordered (set_acceptances s X) s.e

  -- a list that has just these, in their order, is the list
  pub nodes_only : (ps : List ℕ) → ((Y : ℕ) → In ps Y ↔ Together s X Y) → Sorted Before ps → ps ≡ nodes_probes s X
  unfolding nodes_probes
  nodes_only ps f o =
      probes_only (set_acceptances s X) s.e nodes_narrow ps
      (record { just = λ Y. let t = together_means s X Y in ((λ i. t.1 ((f Y).0 i)), λ p. (f Y).1 (t.0 p)); ordered = o })

  -- how many are listed is how many there are
  pub nodes_counted : Counted (Probe (set_acceptances s X)) (length (nodes_probes s X))
  unfolding nodes_probes
  nodes_counted = probes_counted (set_acceptances s X) s.e nodes_narrow

  -- and in words of the nodes
  pub nodes_together : Counted (Together s X) (length (nodes_probes s X))
  nodes_together = counted_as (together_means s X) nodes_counted

  -- there are at most 4,096
  pub nodes_few : length (nodes_probes s X) ≤ 4096
  unfolding nodes_probes
  nodes_few = probes_most (set_acceptances s X) s.e sound.ranges.e_high

  -- there is none exactly if some node of the set may stop
  pub nodes_stop : (length (nodes_probes s X) ≡ 0) ↔ ((v : ℕ) × Named s X v × (may_stop (row s v) ≡ true))
  unfolding nodes_probes
  nodes_stop = (forth, back)
    where
      back : (v : ℕ) × Named s X v × (may_stop (row s v) ≡ true) → length (probes (set_acceptances s X) s.e) ≡ 0
      back (v, n, t) =
          let m = (may_stop_means (row s v) (sound.counts v n.0).1).0 t in
          let w = (in_nodes s X 0).1 (v, n, (m.0, m.1, m.2)) in
          probes_none (set_acceptances s X) s.e w.0 w.1 w.2

      found : (n : ℕ) → n ≤ length (set_acceptances s X) → ((x : ℕ) × (x < length (set_acceptances s X)) × (get_or (set_acceptances s X) x 0 ≡ 0)) ⊎ ((x : ℕ) → x < n → get_or (set_acceptances s X) x 0 ≢ 0)
      found zero l = inr (λ x k. absurd (omega arith))
      found (suc n) l = go (found n (omega arith)) (ℕ_discrete (get_or (set_acceptances s X) n 0) 0)
        where
          go : ((x : ℕ) × (x < length (set_acceptances s X)) × (get_or (set_acceptances s X) x 0 ≡ 0)) ⊎ ((x : ℕ) → x < n → get_or (set_acceptances s X) x 0 ≢ 0) → Dec (get_or (set_acceptances s X) n 0 ≡ 0)
              → ((x : ℕ) × (x < length (set_acceptances s X)) × (get_or (set_acceptances s X) x 0 ≡ 0)) ⊎ ((x : ℕ) → x < suc n → get_or (set_acceptances s X) x 0 ≢ 0)
          go (inl w) d = inl w
          go (inr f) (yes e) = inl (n, omega arith, e)
          go (inr f) (no e) = inr (λ x k. at x (eq-or-lt_of_le k))
            where
              at : (x : ℕ) → (suc x ≡ suc n) ⊎ (suc x < suc n) → get_or (set_acceptances s X) x 0 ≢ 0
              at x (inl q) = let r : x ≡ n = omega arith in rw r e
              at x (inr k) = f x (omega arith)

      forth : length (probes (set_acceptances s X) s.e) ≡ 0 → (v : ℕ) × Named s X v × (may_stop (row s v) ≡ true)
      forth z = go (found (length (set_acceptances s X)) (omega arith))
        where
          go : ((x : ℕ) × (x < length (set_acceptances s X)) × (get_or (set_acceptances s X) x 0 ≡ 0)) ⊎ ((x : ℕ) → x < length (set_acceptances s X) → get_or (set_acceptances s X) x 0 ≢ 0) → (v : ℕ) × Named s X v × (may_stop (row s v) ≡ true)
          go (inr f) = absurd (omega (arith, z, probes_some (set_acceptances s X) s.e nodes_narrow f))
          go (inl (x, l, e)) = at ((in_nodes s X 0).0 (x, l, e))
            where
              at : (v : ℕ) × Named s X v × ((j : ℕ) × (j < (row s v).c) × (acceptance (row s v) j ≡ 0)) → (v : ℕ) × Named s X v × (may_stop (row s v) ≡ true)
              at (v, n, w) = (v, n, (may_stop_means (row s v) (sound.counts v n.0).1).1 w)

-- a probe for more nodes has one for fewer inside it
pub nodes_more : (s : Sheet) → sheet_fault s ≡ 0 → (X X' : ℕ) → Within X X' → (Y : ℕ) → In (nodes_probes s X') Y → (Z : ℕ) × In (nodes_probes s X) Z × Within Z Y
nodes_more s h X X' w Y i =
    let t = (nodes_probe s h X' Y).0 i in
    let p = probe_inside (set_acceptances s X) Y ((hits_nodes s X Y).1 (λ r. t.met (fewer r))) in
    (p.0, (nodes_probe s h X p.0).1 ((together_means s X p.0).0 p.1), p.2)
  where
    fewer : SomeRefuses s X Y → SomeRefuses s X' Y
    fewer (v, (k, b), r) = (v, (k, omega (arith, w v, b, bit≤1 X' v)), r)

-- ---- the refusals of the call

-- a set of nodes is good exactly if it is not empty and has only nodes on the sheet
pub nodes_finds : (s : Sheet) (X : ℕ) → Finds (node_set_ok s.n X) (NoneNamed X ⊎ Foreign s X)
unfolding node_set_ok
nodes_finds s X = record { clear = clear' finds.clear; fault = λ t. fault' (finds.fault t) }
  where
    finds : Finds (not (eqb X 0) && ltb X (2 ^ s.n)) ((X ≡ 0) ⊎ (2 ^ s.n ≤ X))
    finds = finds_and (finds_not (λ t. eqb-true X 0 t) (λ t e. clash (eq-eqb X 0 e) t)) (finds_lt X (2 ^ s.n))

    zero_of : NoneNamed X → X ≡ 0
    zero_of f = go (ℕ_discrete X 0)
      where
        go : Dec (X ≡ 0) → X ≡ 0
        go (yes e) = e
        go (no n) = let w = some_bit X n in absurd (f w.0 w.1)

    high_of : Foreign s X → 2 ^ s.n ≤ X
    high_of (v, l, b) = go (lt_or_ge X (2 ^ s.n))
      where
        go : (X < 2 ^ s.n) ⊎ (2 ^ s.n ≤ X) → 2 ^ s.n ≤ X
        go (inl k) = absurd (omega (arith, b, bit_high s.n v X k l))
        go (inr k) = k

    clear' : ((not (eqb X 0) && ltb X (2 ^ s.n)) ≡ true → (X ≡ 0) ⊎ (2 ^ s.n ≤ X) → ⊥) → (not (eqb X 0) && ltb X (2 ^ s.n)) ≡ true → NoneNamed X ⊎ Foreign s X → ⊥
    clear' c t (inl f) = c t (inl (zero_of f))
    clear' c t (inr f) = c t (inr (high_of f))

    foreign : (n : ℕ) → ((v : ℕ) × (s.n ≤ v) × (v < n) × (bit X v ≡ 1)) ⊎ ((v : ℕ) → s.n ≤ v → v < n → bit X v ≢ 1)
    foreign zero = inr (λ v a b. absurd (omega arith))
    foreign (suc n) = go (foreign n) (lt_or_ge n s.n) (ℕ_discrete (bit X n) 1)
      where
        go : ((v : ℕ) × (s.n ≤ v) × (v < n) × (bit X v ≡ 1)) ⊎ ((v : ℕ) → s.n ≤ v → v < n → bit X v ≢ 1) → (n < s.n) ⊎ (s.n ≤ n) → Dec (bit X n ≡ 1)
            → ((v : ℕ) × (s.n ≤ v) × (v < suc n) × (bit X v ≡ 1)) ⊎ ((v : ℕ) → s.n ≤ v → v < suc n → bit X v ≢ 1)
        go (inl (v, a, b, e)) c d = inl (v, a, omega arith, e)
        go (inr f) (inr c) (yes e) = inl (n, c, omega arith, e)
        go (inr f) (inl c) d = inr (λ v a b. f v a (omega arith))
        go (inr f) (inr c) (no e) = inr (λ v a b. at v a (eq-or-lt_of_le b))
          where
            at : (v : ℕ) → s.n ≤ v → (suc v ≡ suc n) ⊎ (suc v < suc n) → bit X v ≢ 1
            at v a (inl q) = let r : v ≡ n = omega arith in rw r e
            at v a (inr k) = f v a (omega arith)

    small : (v : ℕ) → X < 2 ^ X
    small v = lt_pow X
      where
        lt_pow : (x : ℕ) → x < 2 ^ x
        lt_pow zero = omega arith
        lt_pow (suc x) = omega (arith, lt_pow x)

    fault' : (X ≡ 0) ⊎ (2 ^ s.n ≤ X) → NoneNamed X ⊎ Foreign s X
    fault' (inl e) = inl (λ v b. omega (arith, b, ap (λ (y : ℕ). bit y v) e, bits_zero v))
    fault' (inr l) = go (foreign X)
      where
        go : ((v : ℕ) × (s.n ≤ v) × (v < X) × (bit X v ≡ 1)) ⊎ ((v : ℕ) → s.n ≤ v → v < X → bit X v ≢ 1) → NoneNamed X ⊎ Foreign s X
        go (inl (v, a, b, e)) = inr (v, a, e)
        go (inr f) = absurd (omega (arith, l, narrow s.n X below))
          where
            below : (i : ℕ) → bit X i ≡ 1 → i < s.n
            below i b = pick (lt_or_ge i s.n) (lt_or_ge i X)
              where
                pick : (i < s.n) ⊎ (s.n ≤ i) → (i < X) ⊎ (X ≤ i) → i < s.n
                pick (inl k) m = k
                pick (inr k) (inl m) = absurd (f i k m b)
                pick (inr k) (inr m) = absurd (omega (arith, b, bit_high X i X (small i) m))

module _ (s : Sheet) (X : ℕ) (out : List ℕ) where
  -- what is looked for after the sheet and after 29
  after_29 : ℕ
  after_29 = unless (leb (length (nodes_probes s X)) (length out)) 10 0

  -- the sheet's own refusal comes first
  pub nodes_sheet : sheet_fault s ≢ 0 → nodes_fault s X out ≡ sheet_fault s
  unfolding nodes_fault
  nodes_sheet n = or_else_some (sheet_fault s) _ (omega (arith, n))

  -- the sheet's own number is given exactly for it
  pub nodes_own : (m : ℕ) → Own m → (nodes_fault s X out ≡ m) ↔ (sheet_fault s ≡ m)
  unfolding nodes_fault
  nodes_own m o =
      or_else_first (sheet_fault s) _ m (λ e. omega (arith, o.0))
      (unless_other (node_set_ok s.n X) (own_other o (omega arith, λ p. omega arith))
      (unless_other (leb (length (nodes_probes s X)) (length out)) (own_other o (omega arith, λ p. omega arith)) (λ e. omega (arith, o.0))))

  -- 29: of a sheet that is not refused, a set that is empty or names a node not on the sheet
  pub nodes_29 : (nodes_fault s X out ≡ 29) ↔ ((sheet_fault s ≡ 0) × (NoneNamed X ⊎ Foreign s X))
  unfolding nodes_fault
  nodes_29 =
      let a = or_else_then (sheet_fault s) (unless (node_set_ok s.n X) 29 after_29) 29 (inl (check_other s 29 (omega arith, λ p. omega arith))) in
      let b = unless_hit 29 after_29 (nodes_finds s X) (unfold after_29 in unless_other (leb (length (nodes_probes s X)) (length out)) (omega arith) (omega arith)) in
      unfold after_29 in ((λ x. ((a.0 x).0, b.0 (a.0 x).1)), λ y. a.1 (y.0, b.1 y.1))

  -- 10: of a sheet that is not refused and a good set, a list shorter than the probes
  pub nodes_10 : (nodes_fault s X out ≡ 10) ↔ ((sheet_fault s ≡ 0) × (¬ (NoneNamed X ⊎ Foreign s X)) × (length out < length (nodes_probes s X)))
  unfolding nodes_fault after_29
  nodes_10 =
      let a = or_else_then (sheet_fault s) (unless (node_set_ok s.n X) 29 after_29) 10 (inl (check_other s 10 (omega arith, λ p. omega arith))) in
      let b = unless_pass 29 after_29 10 (nodes_finds s X) (omega arith) in
      let c = unless_hit 10 0 (finds_le (length (nodes_probes s X)) (length out)) (omega arith) in
      ((λ x. let w = b.0 (a.0 x).1 in ((a.0 x).0, w.0, c.0 w.1)), λ y. a.1 (y.0, b.1 (y.1, c.1 y.2)))

  -- no refusal: a sheet that is not refused, a good set, and a list that is long enough
  pub nodes_0 : (nodes_fault s X out ≡ 0) ↔ ((sheet_fault s ≡ 0) × (¬ (NoneNamed X ⊎ Foreign s X)) × (¬ (length out < length (nodes_probes s X))))
  unfolding nodes_fault after_29
  nodes_0 =
      let a = or_else_then (sheet_fault s) (unless (node_set_ok s.n X) 29 after_29) 0 (inr refl) in
      let b = unless_pass 29 after_29 0 (nodes_finds s X) (omega arith) in
      let c = unless_none 10 (finds_le (length (nodes_probes s X)) (length out)) (omega arith) in
      ((λ x. let w = b.0 (a.0 x).1 in ((a.0 x).0, w.0, c.0 w.1)), λ y. a.1 (y.0, b.1 (y.1, c.1 y.2)))

  module _ (n : nodes_fault s X out ≢ 0) where
    -- a refusal answers its number, has no count beside it, and alters nothing
    pub nodes_denied : nodes_listed s X out ≡ Err (nodes_fault s X out)
    unfolding nodes_listed
    nodes_denied = rw (ne_eqb (nodes_fault s X out) 0 n)

    pub nodes_untouched : nodes_list_after s X out ≡ out
    unfolding nodes_list_after
    nodes_untouched = rw (ne_eqb (nodes_fault s X out) 0 n)

    pub nodes_countless : nodes_count s X out ≡ 0
    unfolding nodes_count
    nodes_countless = rw (ne_eqb (nodes_fault s X out) 0 n)

  module _ (z : nodes_fault s X out ≡ 0) where
    -- without a refusal the number of probes is answered, and they stand at the front of the list
    pub nodes_listed_lem : nodes_listed s X out ≡ Ok (length (nodes_probes s X))
    unfolding nodes_listed
    nodes_listed_lem = rw (eq-eqb (nodes_fault s X out) 0 z)

    pub nodes_given : nodes_count s X out ≡ length (nodes_probes s X)
    unfolding nodes_count
    nodes_given = rw (eq-eqb (nodes_fault s X out) 0 z)

    pub nodes_front : nodes_list_after s X out ≡ at_front out (nodes_probes s X)
    unfolding nodes_list_after
    nodes_front = rw (eq-eqb (nodes_fault s X out) 0 z)

    pub nodes_at_lem : (x : ℕ) → x < length (nodes_probes s X) → get_or (nodes_list_after s X out) x 0 ≡ get_or (nodes_probes s X) x 0
    nodes_at_lem x l = rw nodes_front (at_front_before out (nodes_probes s X) x 0 l)

    pub nodes_rest : (x : ℕ) → length (nodes_probes s X) ≤ x → get_or (nodes_list_after s X out) x 0 ≡ get_or out x 0
    nodes_rest x l = rw nodes_front (at_front_behind out (nodes_probes s X) x 0 l)

  -- the two numbers of the answer are its refusal and its count
  pub nodes_numbers : listed_numbers (nodes_listed s X out) ≡ (nodes_fault s X out, nodes_count s X out)
  unfolding listed_numbers
  nodes_numbers = go (dec (eqb (nodes_fault s X out) 0))
    where
      go : (eqb (nodes_fault s X out) 0 ≡ true) ⊎ (eqb (nodes_fault s X out) 0 ≡ false) → listed_numbers (nodes_listed s X out) ≡ (nodes_fault s X out, nodes_count s X out)
      go (inl t) = let z = eqb-true (nodes_fault s X out) 0 t in rw (nodes_listed_lem z, nodes_given z, z)
      go (inr t) = let n = eqb-false (nodes_fault s X out) 0 t in rw (nodes_denied n, nodes_countless n)

-- the call for a set of one node is the call for that node: its refusal, its answer, and the list after it
pub nodes_one_call : (s : Sheet) (v : ℕ) (out : List ℕ) → v < s.n
    → (nodes_fault s (2 ^ v) out ≡ list_fault s v out) × (nodes_listed s (2 ^ v) out ≡ listed_of s v out) × (nodes_list_after s (2 ^ v) out ≡ list_after s v out)
nodes_one_call s v out l = (fault, (unfold nodes_listed listed_of in rw (fault, nodes_one s v l)), (unfold nodes_list_after list_after in rw (fault, nodes_one s v l)))
  where
    good : node_set_ok s.n (2 ^ v) ≡ true
    good = unfold node_set_ok in rw (ne_eqb (2 ^ v) 0 (λ e. omega (arith, e, pow_pos v)), lt-ltb (2 ^ v) (2 ^ s.n) (pow-lt l))

    fault : nodes_fault s (2 ^ v) out ≡ list_fault s v out
    fault = unfold nodes_fault list_fault in rw (good, lt-ltb v s.n l, nodes_one s v l)

-- 29 in numbers: 0, or 2 ^ N or more
pub nodes_29_number : (s : Sheet) (X : ℕ) (out : List ℕ) → (nodes_fault s X out ≡ 29) ↔ ((sheet_fault s ≡ 0) × ((X ≡ 0) ⊎ (2 ^ s.n ≤ X)))
unfolding nodes_fault node_set_ok
nodes_29_number s X out =
    let a = or_else_then (sheet_fault s) (unless (node_set_ok s.n X) 29 (unless (leb (length (nodes_probes s X)) (length out)) 10 0)) 29 (inl (check_other s 29 (omega arith, λ p. omega arith))) in
    let f : Finds (not (eqb X 0) && ltb X (2 ^ s.n)) ((X ≡ 0) ⊎ (2 ^ s.n ≤ X)) = finds_and (finds_not (λ t. eqb-true X 0 t) (λ t e. clash (eq-eqb X 0 e) t)) (finds_lt X (2 ^ s.n)) in
    let b = unless_hit 29 (unless (leb (length (nodes_probes s X)) (length out)) 10 0) f (unless_other (leb (length (nodes_probes s X)) (length out)) (omega arith) (omega arith)) in
    ((λ x. ((a.0 x).0, b.0 (a.0 x).1)), λ y. a.1 (y.0, b.1 y.1))

-- no other number is given
pub nodes_numbers_29 : (s : Sheet) (X : ℕ) (out : List ℕ) → (nodes_fault s X out ≡ 0) ⊎ ((nodes_fault s X out ≡ sheet_fault s) ⊎ ((nodes_fault s X out ≡ 29) ⊎ (nodes_fault s X out ≡ 10)))
nodes_numbers_29 s X out = go (ℕ_discrete (sheet_fault s) 0) (dec (node_set_ok s.n X)) (dec (leb (length (nodes_probes s X)) (length out)))
  where
    go : Dec (sheet_fault s ≡ 0) → (node_set_ok s.n X ≡ true) ⊎ (node_set_ok s.n X ≡ false) → (leb (length (nodes_probes s X)) (length out) ≡ true) ⊎ (leb (length (nodes_probes s X)) (length out) ≡ false)
        → (nodes_fault s X out ≡ 0) ⊎ ((nodes_fault s X out ≡ sheet_fault s) ⊎ ((nodes_fault s X out ≡ 29) ⊎ (nodes_fault s X out ≡ 10)))
    go (no n) y z = inr (inl (nodes_sheet s X out n))
    go (yes e) (inr y) z = inr (inr (inl (unfold nodes_fault in rw (e, y))))
    go (yes e) (inl y) (inr z) = inr (inr (inr (unfold nodes_fault in rw (e, y, z))))
    go (yes e) (inl y) (inl z) = inl (unfold nodes_fault in rw (e, y, z))
