-- Nothing to believe: laws. The refusals of bytes: each number is given exactly if its fault is there and no earlier
-- one is (01, "Checks run in the order of the numbers, each over the whole sheet", 4 and 5 by position; 02, K1: 18
-- "after the codes are known to be complete and before the nodes are walked").
use Rattle.std.specs.Prelude.{◌≡◌, refl, ◌⊎◌, ◌≢◌, ◌↔◌, ◌&&◌, List, ℕ, ◌+◌, ◌≤◌, ◌<◌, eqb, leb, length}
use Rattle.std.proofs.Common.{sym, ◌∙◌, arith}
use Rattle.std.proofs.Math.Logic.{inl, inr}
use Rattle.std.proofs.Math.Logic.Iff as Iff
use Rattle.std.proofs.Math.Decide.{ℕ_discrete}
use Rattle.std.proofs.lemmas.Bool.{lt-leb}
use Rattle.base.proofs.Truth.{lt_or_ge}
use Rattle.base.proofs.Finds.{Finds, finds_as, finds_le, finds_eq, finds_and, finds_or}
use Rattle.base.specs.Refusal.{unless, or_else}
use Rattle.base.proofs.Refusal.{unless_hit, unless_pass, unless_other, unless_none, or_else_first, or_else_then, or_else_either, or_else_other}
use Rattle.sheet_spec.specs.declared.Sheet.{Sheet}
use Rattle.sheet_spec.specs.Rules.{version_ok, ranges_ok, codes_ok, successors_ok, sets_ok, reached_ok}
use Rattle.sheet_spec.specs.Spelling.{length_field, version, event_count, node_count, nodes_at, codes_of, sheet_of}
use Rattle.sheet_spec.specs.Refusals.{head_fault, codes_fault, layout_fault, graph_fault, bytes_fault, Own}
use Rattle.sheet_spec.specs.Faults.{RangeFault, CodeTwice, SuccessorFault, SetFault, ReachFault, LengthFault, VersionFault, CodesCut, BytesCodeTwice, CutFault, BytesCountFault, ReadClear1, ReadClear2, ReadClear3, ReadClear18, ReadClear5, ReadClear6, ReadClear7}
use Rattle.sheet_spec.proofs.RuleLaws.{ranges_find, in_range, codes_find, successors_find, sets_find, reached_finds}
use Rattle.sheet_spec.proofs.Chains.{further, finally, Above, less, above}
use Rattle.sheet_spec.specs.Form.{Bytes}
use Rattle.sheet_spec.proofs.Places.{nodes_at_1, nodes_at_2, code_at_1, code_at_2}
use Rattle.sheet_spec.proofs.Walked.{layout_other}
use Rattle.sheet_spec.proofs.Ends.{layout_4, layout_5, layout_0}

-- the graph gives 6 to 8 or none
graph_high : {m : ℕ} → 0 < m → m < 6 → (s : Sheet) → graph_fault s ≢ m
unfolding graph_fault
graph_high z l s = unless_other (successors_ok s) (λ p. omega arith) (unless_other (sets_ok s) (λ p. omega arith) (unless_other (reached_ok s) (λ p. omega arith) (λ p. omega arith)))

graph_low : {m : ℕ} → 8 < m → (s : Sheet) → graph_fault s ≢ m
unfolding graph_fault
graph_low l s = unless_other (successors_ok s) (λ p. omega arith) (unless_other (sets_ok s) (λ p. omega arith) (unless_other (reached_ok s) (λ p. omega arith) (λ p. omega arith)))

module _ (b : List ℕ) where
  -- what is tested after the nodes are known to be whole
  abbrev graph_part : ℕ
  graph_part = graph_fault (sheet_of b)

  -- what is tested after the codes are known to be whole and to differ
  abbrev nodes_part : ℕ
  nodes_part = or_else (layout_fault b (event_count b) (node_count b) (nodes_at b)) graph_part

  -- what is tested after the codes
  abbrev codes_part : ℕ
  codes_part = or_else (codes_fault b) nodes_part

  version_finds : Finds (version_ok (version b)) (VersionFault b)
  version_finds = finds_or (finds_eq (version b) 1) (finds_eq (version b) 2)

  size_finds : Finds (leb 7 (length b) && eqb (length_field b + 4) (length b)) (LengthFault b)
  size_finds = finds_and (finds_le 7 (length b)) (finds_eq (length_field b + 4) (length b))

  -- the head gives no number above 3, and 0 exactly if it has no fault
  head_pass : (m : ℕ) → Above 3 m → (head_fault b ≡ m) ↔ (ReadClear3 b × (0 ≡ m))
  unfolding head_fault
  head_pass m h =
      further (further (unless_pass 1 _ m size_finds (above (omega arith) (omega arith) h)) (λ f. unless_pass 2 _ m version_finds (above (omega arith) (omega arith) h)))
      (λ f. unless_pass 3 0 m (ranges_find (event_count b) (node_count b)) (above (omega arith) (omega arith) h))

  head_clear : (head_fault b ≡ 0) ↔ ReadClear3 b
  head_clear = let w = head_pass 0 (inr refl) in ((λ p. (w.0 p).0), λ f. w.1 (f, refl))

  head_low : {m : ℕ} → 3 < m → head_fault b ≢ m
  head_low h e = omega (arith, ((head_pass _ (inl h)).0 e).1)

  nodes_high : {m : ℕ} → 0 < m → m < 4 → nodes_part ≢ m
  nodes_high z l = or_else_other (layout_fault b (event_count b) (node_count b) (nodes_at b)) graph_part (layout_other z (inl l) b (event_count b) (node_count b) (nodes_at b)) (graph_high z (omega arith) (sheet_of b))

  -- the codes give 4, 18 or none
  codes_other : {m : ℕ} → 4 ≢ m → 18 ≢ m → 0 ≢ m → codes_fault b ≢ m
  unfolding codes_fault
  codes_other p q z = unless_other (leb (nodes_at b) (length b)) p (unless_other (codes_ok (event_count b) (codes_of b)) q z)

  -- a number of the head is given by the head
  in_head : (m : ℕ) → 0 < m → m < 4 → (bytes_fault b ≡ m) ↔ (head_fault b ≡ m)
  unfolding bytes_fault
  in_head m z l =
      or_else_first (head_fault b) codes_part m (λ p. omega arith)
      (or_else_other (codes_fault b) nodes_part (codes_other (λ p. omega arith) (λ p. omega arith) (λ p. omega arith)) (nodes_high z l))

  -- a number of the codes, of the nodes or of the graph, or none, is given after a head without fault
  in_codes : (m : ℕ) → Above 3 m → (bytes_fault b ≡ m) ↔ (ReadClear3 b × (codes_part ≡ m))
  unfolding bytes_fault
  in_codes m h = Iff.trans (or_else_then (head_fault b) codes_part m (past h)) (Iff.and head_clear Iff.rfl)
    where
      past : Above 3 m → (head_fault b ≢ m) ⊎ (m ≡ 0)
      past (inl l) = inl (head_low l)
      past (inr e) = inr e

  some : ReadClear3 b → 1 ≤ node_count b
  some f = (in_range (event_count b) (node_count b) f.1).n_low

  high : ReadClear3 b → event_count b ≤ 12
  high f = (in_range (event_count b) (node_count b) f.1).e_high

  long : ReadClear3 b → 7 ≤ length b
  long f = go (lt_or_ge (length b) 7)
    where
      go : (length b < 7) ⊎ (7 ≤ length b) → 7 ≤ length b
      go (inl l) = absurd (f.0.0 (inl l))
      go (inr l) = l

  -- the test of whole codes finds its fault
  cut_finds : ReadClear3 b → Finds (leb (nodes_at b) (length b)) (CodesCut b)
  cut_finds f = finds_as (finds_le (nodes_at b) (length b)) (λ l. go (ℕ_discrete (version b) 2) l) (λ c. rw (nodes_at_2 b c.0) c.1)
    where
      go : Dec (version b ≡ 2) → length b < nodes_at b → CodesCut b
      go (yes p) l = (p, rw (nodes_at_2 b p) at l)
      go (no n) l = absurd (omega (arith, l, nodes_at_1 b n, long f))

  -- the test of equal codes finds its fault
  twice_finds : ReadClear3 b → Finds (codes_ok (event_count b) (codes_of b)) (BytesCodeTwice b)
  twice_finds f = finds_as (codes_find (event_count b) (codes_of b)) (λ w. go (ℕ_discrete (version b) 2) w) back
    where
      go : Dec (version b ≡ 2) → CodeTwice (event_count b) (codes_of b) → BytesCodeTwice b
      go (yes p) (i, j, k, l, n, q) =
          (p, (i, j, k, l, n, sym (code_at_2 b p i (omega (arith, k, high f)) k) ∙ q ∙ code_at_2 b p j (omega (arith, l, high f)) l))
      go (no n) (i, j, k, l, m, q) =
          absurd (m (omega (arith, q, code_at_1 b n i (omega (arith, k, high f)) k, code_at_1 b n j (omega (arith, l, high f)) l)))

      back : BytesCodeTwice b → CodeTwice (event_count b) (codes_of b)
      back (p, (i, j, k, l, n, q)) =
          (i, j, k, l, n, code_at_2 b p i (omega (arith, k, high f)) k ∙ q ∙ sym (code_at_2 b p j (omega (arith, l, high f)) l))

  codes_4 : ReadClear3 b → (codes_fault b ≡ 4) ↔ CodesCut b
  unfolding codes_fault
  codes_4 f = unless_hit 4 _ (cut_finds f) (unless_other (codes_ok (event_count b) (codes_of b)) (λ p. omega arith) (λ p. omega arith))

  codes_18 : ReadClear3 b → (codes_fault b ≡ 18) ↔ ((¬ CodesCut b) × BytesCodeTwice b)
  unfolding codes_fault
  codes_18 f = finally (unless_pass 4 _ 18 (cut_finds f) (λ p. omega arith)) (λ c. unless_hit 18 0 (twice_finds f) (λ p. omega arith))

  codes_0 : ReadClear3 b → (codes_fault b ≡ 0) ↔ ((¬ CodesCut b) × (¬ BytesCodeTwice b))
  unfolding codes_fault
  codes_0 f = finally (unless_pass 4 _ 0 (cut_finds f) (λ p. omega arith)) (λ c. unless_none 18 (twice_finds f) (λ p. omega arith))

  -- a number of the nodes or of the graph, or none, is given after codes without fault
  in_nodes : (m : ℕ) → Above 4 m → 18 ≢ m → (bytes_fault b ≡ m) ↔ (ReadClear18 b × (nodes_part ≡ m))
  in_nodes m h n = further (in_codes m (less (omega arith) h)) (λ f. Iff.trans (or_else_then (codes_fault b) nodes_part m (past h)) (Iff.and (codes_0 f) Iff.rfl))
    where
      past : Above 4 m → (codes_fault b ≢ m) ⊎ (m ≡ 0)
      past (inl l) = inl (codes_other (λ p. omega arith) n (λ p. omega arith))
      past (inr e) = inr e

  -- codes without fault are whole
  in_bytes : ReadClear18 b → nodes_at b ≤ length b
  in_bytes f = go (lt_or_ge (length b) (nodes_at b))
    where
      go : (length b < nodes_at b) ⊎ (nodes_at b ≤ length b) → nodes_at b ≤ length b
      go (inl l) = absurd (f.1.0 ((cut_finds f.0).fault (lt-leb (nodes_at b) (length b) l)))
      go (inr l) = l

  pub read_1 : (bytes_fault b ≡ 1) ↔ LengthFault b
  unfolding head_fault
  read_1 = Iff.trans (in_head 1 (omega arith) (omega arith))
      (unless_hit 1 _ size_finds (unless_other (version_ok (version b)) (λ p. omega arith) (unless_other (ranges_ok (event_count b) (node_count b)) (λ p. omega arith) (λ p. omega arith))))

  pub read_2 : (bytes_fault b ≡ 2) ↔ (ReadClear1 b × VersionFault b)
  unfolding head_fault
  read_2 = Iff.trans (in_head 2 (omega arith) (omega arith)) (finally (unless_pass 1 _ 2 size_finds (λ p. omega arith))
      (λ f. unless_hit 2 _ version_finds (unless_other (ranges_ok (event_count b) (node_count b)) (λ p. omega arith) (λ p. omega arith))))

  pub read_3 : (bytes_fault b ≡ 3) ↔ (ReadClear2 b × RangeFault (event_count b) (node_count b))
  unfolding head_fault
  read_3 = Iff.trans (in_head 3 (omega arith) (omega arith))
      (finally (further (unless_pass 1 _ 3 size_finds (λ p. omega arith)) (λ f. unless_pass 2 _ 3 version_finds (λ p. omega arith)))
      (λ f. unless_hit 3 0 (ranges_find (event_count b) (node_count b)) (λ p. omega arith)))

  -- 18: a code is given twice, where the codes are whole
  pub read_18 : (bytes_fault b ≡ 18) ↔ (ReadClear3 b × ((¬ CodesCut b) × BytesCodeTwice b))
  read_18 = finally (in_codes 18 (inl (omega arith))) (λ f. Iff.trans (or_else_first (codes_fault b) nodes_part 18 (λ p. omega arith) later) (codes_18 f))
    where
      later : nodes_part ≢ 18
      later =
          or_else_other (layout_fault b (event_count b) (node_count b) (nodes_at b)) graph_part
          (layout_other (omega arith) (inr (omega arith)) b (event_count b) (node_count b) (nodes_at b)) (graph_low (omega arith) (sheet_of b))

  -- bytes that are refused get a sheet's own number
  pub read_own : bytes_fault b ≢ 0 → Own (bytes_fault b)
  unfolding bytes_fault
  read_own n = (omega (arith, n), go (lt_or_ge 8 (bytes_fault b)) (ℕ_discrete (bytes_fault b) 18))
    where
      never : {m : ℕ} → 8 < m → m ≢ 18 → bytes_fault b ≢ m
      never l n =
          or_else_other (head_fault b) codes_part (head_low (omega arith))
          (or_else_other (codes_fault b) nodes_part (codes_other (λ p. omega arith) (λ p. n (sym p)) (λ p. omega arith))
          (or_else_other (layout_fault b (event_count b) (node_count b) (nodes_at b)) graph_part
          (layout_other (omega arith) (inr (omega arith)) b (event_count b) (node_count b) (nodes_at b)) (graph_low l (sheet_of b))))

      go : (8 < bytes_fault b) ⊎ (bytes_fault b ≤ 8) → Dec (bytes_fault b ≡ 18) → (bytes_fault b ≤ 8) ⊎ (bytes_fault b ≡ 18)
      go (inr l) d = inl l
      go (inl l) (yes p) = inr p
      go (inl l) (no n) = absurd (never l n refl)

  -- bytes get no number above 18
  pub read_numbers_lem : bytes_fault b ≤ 18
  read_numbers_lem = go (ℕ_discrete (bytes_fault b) 0)
    where
      own : (bytes_fault b ≤ 8) ⊎ (bytes_fault b ≡ 18) → bytes_fault b ≤ 18
      own (inl l) = omega arith
      own (inr p) = omega arith

      go : Dec (bytes_fault b ≡ 0) → bytes_fault b ≤ 18
      go (yes p) = omega arith
      go (no n) = own (read_own n).1

  -- 4 and 5 are said by the encoding, so the laws from 4 on are of lists of bytes, as all lists that the code reads are
  module _ (y : Bytes b) where
    -- 4: the codes are cut off; or they are whole and differ, and the nodes are cut off or bytes remain
    pub read_4 : (bytes_fault b ≡ 4) ↔ (ReadClear3 b × (CodesCut b ⊎ (((¬ CodesCut b) × (¬ BytesCodeTwice b)) × CutFault b)))
    read_4 = finally (in_codes 4 (inl (omega arith))) (λ f. Iff.trans (or_else_either (codes_fault b) nodes_part 4 (λ p. omega arith)) (to f, from f))
      where
        nodes : ReadClear3 b → (¬ CodesCut b) × (¬ BytesCodeTwice b) → (nodes_part ≡ 4) ↔ CutFault b
        nodes f c =
            Iff.trans
            (or_else_first (layout_fault b (event_count b) (node_count b) (nodes_at b)) graph_part 4 (λ p. omega arith) (graph_high (omega arith) (omega arith) (sheet_of b)))
            (layout_4 b y (in_bytes (f, c)) (high f) (some f))

        to : ReadClear3 b → (codes_fault b ≡ 4) ⊎ ((codes_fault b ≡ 0) × (nodes_part ≡ 4)) → CodesCut b ⊎ (((¬ CodesCut b) × (¬ BytesCodeTwice b)) × CutFault b)
        to f (inl p) = inl ((codes_4 f).0 p)
        to f (inr (p, q)) = let c = (codes_0 f).0 p in inr (c, (nodes f c).0 q)

        from : ReadClear3 b → CodesCut b ⊎ (((¬ CodesCut b) × (¬ BytesCodeTwice b)) × CutFault b) → (codes_fault b ≡ 4) ⊎ ((codes_fault b ≡ 0) × (nodes_part ≡ 4))
        from f (inl p) = inl ((codes_4 f).1 p)
        from f (inr (c, q)) = inr ((codes_0 f).1 c, (nodes f c).1 q)

    pub read_5 : (bytes_fault b ≡ 5) ↔ (ReadClear18 b × BytesCountFault b)
    read_5 = finally (in_nodes 5 (inl (omega arith)) (λ p. omega arith))
        (λ f. Iff.trans (or_else_first (layout_fault b (event_count b) (node_count b) (nodes_at b)) graph_part 5 (λ p. omega arith) (graph_high (omega arith) (omega arith) (sheet_of b)))
        (layout_5 b y (in_bytes f) (high f.0) (some f.0)))

    -- a number of the graph, or none, is given after a head, codes and nodes without fault
    in_graph : (m : ℕ) → Above 5 m → 18 ≢ m → (bytes_fault b ≡ m) ↔ (ReadClear5 b × (graph_part ≡ m))
    in_graph m h n = further (in_nodes m (less (omega arith) h) n)
        (λ f. Iff.trans (or_else_then (layout_fault b (event_count b) (node_count b) (nodes_at b)) graph_part m (past h)) (Iff.and (layout_0 b y (in_bytes f) (high f.0) (some f.0)) Iff.rfl))
      where
        past : Above 5 m → (layout_fault b (event_count b) (node_count b) (nodes_at b) ≢ m) ⊎ (m ≡ 0)
        past (inl l) = inl (layout_other (omega arith) (inr l) b (event_count b) (node_count b) (nodes_at b))
        past (inr e) = inr e

    -- the tests of 7 and 8 find their faults, once E and N are in range
    read_finds_7 : ReadClear5 b → Finds (sets_ok (sheet_of b)) (SetFault (sheet_of b))
    unfolding sheet_of
    read_finds_7 f = sets_find (sheet_of b) (in_range (event_count b) (node_count b) f.0.0.1).e_high

    read_finds_8 : ReadClear5 b → Finds (reached_ok (sheet_of b)) (ReachFault (sheet_of b))
    unfolding sheet_of
    read_finds_8 f = reached_finds (sheet_of b) (in_range (event_count b) (node_count b) f.0.0.1).n_low

    pub read_6 : (bytes_fault b ≡ 6) ↔ (ReadClear5 b × SuccessorFault (sheet_of b))
    unfolding graph_fault
    read_6 = finally (in_graph 6 (inl (omega arith)) (λ p. omega arith))
        (λ f. unless_hit 6 _ (successors_find (sheet_of b)) (unless_other (sets_ok (sheet_of b)) (λ p. omega arith) (unless_other (reached_ok (sheet_of b)) (λ p. omega arith) (λ p. omega arith))))

    past_6 : (m : ℕ) → Above 6 m → 18 ≢ m → (bytes_fault b ≡ m) ↔ (ReadClear6 b × (unless (sets_ok (sheet_of b)) 7 (unless (reached_ok (sheet_of b)) 8 0) ≡ m))
    unfolding graph_fault
    past_6 m h n = further (in_graph m (less (omega arith) h) n) (λ f. unless_pass 6 _ m (successors_find (sheet_of b)) (above (omega arith) (omega arith) h))

    past_7 : (m : ℕ) → Above 7 m → 18 ≢ m → (bytes_fault b ≡ m) ↔ (ReadClear7 b × (unless (reached_ok (sheet_of b)) 8 0 ≡ m))
    past_7 m h n = further (past_6 m (less (omega arith) h) n) (λ f. unless_pass 7 _ m (read_finds_7 f.0) (above (omega arith) (omega arith) h))

    pub read_7 : (bytes_fault b ≡ 7) ↔ (ReadClear6 b × SetFault (sheet_of b))
    read_7 = finally (past_6 7 (inl (omega arith)) (λ p. omega arith)) (λ f. unless_hit 7 _ (read_finds_7 f.0) (unless_other (reached_ok (sheet_of b)) (λ p. omega arith) (λ p. omega arith)))

    pub read_8 : (bytes_fault b ≡ 8) ↔ (ReadClear7 b × ReachFault (sheet_of b))
    read_8 = finally (past_7 8 (inl (omega arith)) (λ p. omega arith)) (λ f. unless_hit 8 0 (read_finds_8 f.0.0) (λ p. omega arith))

    -- bytes get no refusal exactly if they have no fault
    pub read_0 : (bytes_fault b ≡ 0) ↔ (ReadClear7 b × (¬ ReachFault (sheet_of b)))
    read_0 = finally (past_7 0 (inr refl) (λ p. omega arith)) (λ f. unless_none 8 (read_finds_8 f.0.0) (λ p. omega arith))
