-- Nothing to believe: laws. What the comparison's definitions mean, for two sheets that are not refused and have equal
-- event counts.
use Rattle.std.specs.Prelude.{◌≡◌, ◌↔◌, Bool, List, ℕ, ◌*◌, ◌≤◌, ◌<◌, length}
use Rattle.std.proofs.Common.{sym, ◌∙◌, arith}
use Rattle.walks.specs.Order.{Lex}
use Rattle.walks.proofs.Order.{lex_antisym}
use Rattle.walks.specs.Pairs.{PairLists, PairReachedBefore, PairReachable, pair_cleared}
use Rattle.walks.proofs.Pairs.{pair_trace_length, pair_distance_le, pair_distance≤, pair_distance<, pair_trace_leads, pair_trace_least, pair_cleared_means, pair_cleared_all}
use Rattle.sheet_spec.specs.declared.Sheet.{Sheet}
use Rattle.sheet_spec.specs.Kept.{graph}
use Rattle.sheet_spec.specs.Sound.{Sound}
use Rattle.refinement_spec.specs.Refinement.{ViolationIn, RefinesIn}
use Rattle.refinement_spec.specs.ViolatingPairs.{violating}
use Rattle.refinement_spec.proofs.RefinementLaws.{after_walk, walk_after, violation_means, refines_distance}
use Rattle.comparison_spec.specs.Comparison.{pair_count, nearest, nearest_trace}
use Rattle.comparison_spec.specs.Meaning.{ReachedBefore, ReachedEver, Number, Nearest}

-- a list of pairs with one property lists them by an equal one
lists_as : (P Q : Sheet) {A B : ℕ → ℕ → Type 0} {L : ℕ} {N M : ℕ → ℕ} → ((n m : ℕ) → n < P.n → m < Q.n → A n m ↔ B n m)
    → PairLists (graph P) (graph Q) A L N M → PairLists (graph P) (graph Q) B L N M
lists_as P Q {N = N} {M = M} h l = record {
  in_r = l.in_r;
  in_d = l.in_d;
  holds = λ x k. (h (N x) (M x) (l.in_r x k) (l.in_d x k)).0 (l.holds x k);
  differ = l.differ;
  every = λ n m a b q. l.every n m a b ((h n m a b).1 q);
}

module _ {P Q : Sheet} (op : Sound P) (oq : Sound Q) (same : P.e ≡ Q.e) where
  -- a common trace in the sheets is one in their graphs
  before_means : (d n m : ℕ) → n < P.n → m < Q.n → PairReachedBefore (graph P) (graph Q) d n m ↔ ReachedBefore P Q d n m
  before_means d n m a b = (trace_only, from)
    where
      trace_only : PairReachedBefore (graph P) (graph Q) d n m → ReachedBefore P Q d n m
      trace_only (t, l, p, q) = (t, l, rw p at (walk_after op t (rw p a)), rw q at (walk_after oq t (rw q b)))

      from : ReachedBefore P Q d n m → PairReachedBefore (graph P) (graph Q) d n m
      from (t, l, p, q) = (t, l, after_walk op t n p, after_walk oq t m q)

  ever_means : (n m : ℕ) → n < P.n → m < Q.n → PairReachable (graph P) (graph Q) n m ↔ ReachedEver P Q n m
  ever_means n m a b = (trace_only, from)
    where
      trace_only : PairReachable (graph P) (graph Q) n m → ReachedEver P Q n m
      trace_only (t, p, q) = (t, rw p at (walk_after op t (rw p a)), rw q at (walk_after oq t (rw q b)))

      from : ReachedEver P Q n m → PairReachable (graph P) (graph Q) n m
      from (t, p, q) = (t, after_walk op t n p, after_walk oq t m q)

  -- "cleared" below a distance d counts the pairs reached by common traces shorter than d
  pub cleared_before : (d L : ℕ) → (pair_cleared (graph P) (graph Q) d ≡ L) ↔ Number P Q (ReachedBefore P Q d) L
  cleared_before d L =
      let w = pair_cleared_means op.graphed oq.graphed d L in (
        (λ e. let l = w.0 e in (l.0, l.1, lists_as P Q (before_means d) l.2)),
        λ l. w.1 (l.0, l.1, lists_as P Q (λ n m a b. ((before_means d n m a b).1, (before_means d n m a b).0)) l.2),
      )

  -- where d is at least the number of pairs, "cleared" counts the pairs reached by any common trace
  pub cleared_ever : (d L : ℕ) → P.n * Q.n ≤ d → (pair_cleared (graph P) (graph Q) d ≡ L) ↔ Number P Q (ReachedEver P Q) L
  cleared_ever d L h =
      let w = pair_cleared_all op.graphed oq.graphed d L h in (
        (λ e. let l = w.0 e in (l.0, l.1, lists_as P Q ever_means l.2)),
        λ l. w.1 (l.0, l.1, lists_as P Q (λ n m a b. ((ever_means n m a b).1, (ever_means n m a b).0)) l.2),
      )

  module _ (trace_only : Bool) where
    -- the distance is at most p times q; below it there is a violation, and the definition's trace is the nearest
    pub nearest_le : nearest trace_only P Q ≤ pair_count P Q
    unfolding nearest pair_count
    nearest_le = pair_distance_le (graph P) (graph Q) (violating trace_only P Q)

    pub trace_length : length (nearest_trace trace_only P Q) ≡ nearest trace_only P Q
    unfolding nearest nearest_trace
    trace_length = pair_trace_length (graph P) (graph Q) (violating trace_only P Q)

    pub nearest_first : (t : List ℕ) → ViolationIn trace_only P Q t → nearest trace_only P Q ≤ length t
    unfolding nearest
    nearest_first t f = pair_distance≤ op.graphed oq.graphed (violating trace_only P Q) t ((violation_means op oq same trace_only t).0 f)

    pub nearest_below : (t : List ℕ) → ViolationIn trace_only P Q t → nearest trace_only P Q < pair_count P Q
    unfolding nearest pair_count
    nearest_below t f = pair_distance< op.graphed oq.graphed (violating trace_only P Q) t ((violation_means op oq same trace_only t).0 f)

    pub trace_violates : nearest trace_only P Q < pair_count P Q → ViolationIn trace_only P Q (nearest_trace trace_only P Q)
    unfolding nearest nearest_trace pair_count
    trace_violates l = (violation_means op oq same trace_only (nearest_trace trace_only P Q)).1 (pair_trace_leads op.graphed oq.graphed (violating trace_only P Q) l)

    pub trace_least : (t : List ℕ) → length t ≡ nearest trace_only P Q → ViolationIn trace_only P Q t → Lex (nearest_trace trace_only P Q) t
    unfolding nearest nearest_trace
    trace_least t e f = pair_trace_least op.graphed oq.graphed (violating trace_only P Q) t e ((violation_means op oq same trace_only t).0 f)

    pub nearest_is : nearest trace_only P Q < pair_count P Q → Nearest trace_only P Q (nearest trace_only P Q) (nearest_trace trace_only P Q)
    nearest_is l = record { violates = trace_violates l; long = trace_length; shortest = nearest_first; least = λ s f e. trace_least s e f }

    -- whatever is nearest is what the definition gives
    pub nearest_only : (d : ℕ) (t : List ℕ) → Nearest trace_only P Q d t → (d ≡ nearest trace_only P Q) × (t ≡ nearest_trace trace_only P Q)
    nearest_only d t w = (same_d, lex_antisym t (nearest_trace trace_only P Q) (w.long ∙ same_d ∙ sym trace_length) (w.least (nearest_trace trace_only P Q) violation (trace_length ∙ sym same_d)) (trace_least t (w.long ∙ same_d) w.violates))
      where
        violation : ViolationIn trace_only P Q (nearest_trace trace_only P Q)
        violation = trace_violates (nearest_below t w.violates)

        same_d : d ≡ nearest trace_only P Q
        same_d = omega (arith, nearest_first t w.violates, w.long, w.shortest (nearest_trace trace_only P Q) violation, trace_length)

    -- the device refines the reference exactly if no violating pair is nearer than there are pairs
    pub refines_nearest : RefinesIn trace_only P Q ↔ (pair_count P Q ≤ nearest trace_only P Q)
    unfolding nearest pair_count
    refines_nearest = refines_distance op oq same trace_only
