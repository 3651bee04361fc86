-- Nothing to believe: laws of what specs/Pairs.antt defines.
use Rattle.std.specs.Prelude.{◌≡◌, refl, ◌↔◌, Bool, length}
use Rattle.std.proofs.Math.Path.{sym}
use Rattle.std.proofs.Common.{ap, ◌∙◌, arith}
use mathlib.Core.List.{List}
use Prim.Native.Nat.{ℕ, ◌*◌, ◌/◌, ◌%◌, ◌≤◌, ◌<◌}
use Rattle.base.specs.Counted.{Listing}
use Rattle.walks.specs.Graph.{Graph, WellFormed, walk, Trace}
use Rattle.walks.proofs.Bound.{bound}
use Rattle.walks.specs.Reach.{ReachedBefore, Reachable}
use Rattle.walks.specs.Order.{Lex}
use Rattle.walks.specs.Near.{LeadsToBad}
use Rattle.walks.proofs.Near.{distance_le, distance≤, distance<, distance_means}
use Rattle.walks.specs.Near.{least_trace}
use Rattle.walks.proofs.Near.{least_trace_length, least_trace_leads, least_trace_least, least_trace_unique}
use Rattle.walks.proofs.Cleared.{cleared_means, cleared_all, cleared_more}
use Rattle.walks.specs.Product.{code}
use Rattle.walks.proofs.Product.{code_div, code_mod, code_lt, code_unique, code_split, code_start, code_div_lt, code_mod_lt}
use Rattle.walks.specs.Product.{product}
use Rattle.walks.proofs.Product.{product_well_formed, product_walk, product_both, product_trace, product_at}
use Rattle.walks.specs.Pairs.{PairLeads, PairLists, PairReachable, PairReachedBefore, on_codes, pair_cleared, pair_distance, pair_trace}

pub on_codes_code : (d : Graph) (bad : ℕ → ℕ → Bool) (n m : ℕ) → m < d.size → on_codes d bad (code d n m) ≡ bad n m
unfolding on_codes
on_codes_code d bad n m h = rw (code_div d n m h, code_mod d n m h)

pub pair_distance_le : (r d : Graph) (bad : ℕ → ℕ → Bool) → pair_distance r d bad ≤ r.size * d.size
unfolding pair_distance product
pair_distance_le r d bad = distance_le (product r d) (on_codes d bad)

pub pair_trace_length : (r d : Graph) (bad : ℕ → ℕ → Bool) → length (pair_trace r d bad) ≡ pair_distance r d bad
unfolding pair_trace pair_distance
pair_trace_length r d bad = least_trace_length (product r d) (on_codes d bad)

module _ {r d : Graph} (wr : WellFormed r) (wd : WellFormed d) where
  -- the product is well_formed
  w : WellFormed (product r d)
  w = product_well_formed wr wd

  -- whatever pair a common trace reaches, one shorter than the number of pairs reaches
  pub pair_bound : (t : List ℕ) → Trace r t → Trace d t → (s : List ℕ) × (length s < r.size * d.size) × (walk r 0 s ≡ walk r 0 t) × (walk d 0 s ≡ walk d 0 t)
  unfolding product
  pair_bound t h k =
      let s = bound w t ((product_trace wr wd t).1 (h, k)) in
      let e = (product_at wr wd s.0 (walk r 0 t) (walk d 0 t) h k).0 (s.2 ∙ (product_at wr wd t (walk r 0 t) (walk d 0 t) h k).1 (refl, refl)) in
      (s.0, s.1, e.0, e.1)

  -- to lead to a bad pair is to lead to a bad node of the product
  pub pair_leads→ : (bad : ℕ → ℕ → Bool) (n m : ℕ) (t : List ℕ) → PairLeads r d bad n m t → LeadsToBad (product r d) (on_codes d bad) (code d n m) t
  unfolding product
  pair_leads→ bad n m t l =
      let e = product_walk wr wd n m t l.in_r l.in_d in
      record {
        inside = rw e (code_lt r d (walk r n t) (walk d m t) l.in_r l.in_d);
        ends = rw (e, on_codes_code d bad (walk r n t) (walk d m t) l.in_d) l.ends;
      }

  pub pair_leads← : (bad : ℕ → ℕ → Bool) (n m : ℕ) (t : List ℕ) → n < r.size → m < d.size
      → LeadsToBad (product r d) (on_codes d bad) (code d n m) t → PairLeads r d bad n m t
  unfolding product
  pair_leads← bad n m t h k l =
      let b = product_both wr wd n m t h k l.inside in
      let e = product_walk wr wd n m t b.0 b.1 in
      record { in_r = b.0; in_d = b.1; ends = sym (on_codes_code d bad (walk r n t) (walk d m t) b.1) ∙ sym (ap (on_codes d bad) e) ∙ l.ends }

  module _ (bad : ℕ → ℕ → Bool) where
    -- a list to a bad pair, in the product
    to : (t : List ℕ) → PairLeads r d bad 0 0 t → LeadsToBad (product r d) (on_codes d bad) 0 t
    to t l = rw (code_start d) at (pair_leads→ bad 0 0 t l)

    -- a list to a bad node of the product, in the two graphs
    from : (t : List ℕ) → LeadsToBad (product r d) (on_codes d bad) 0 t → PairLeads r d bad 0 0 t
    from t l = pair_leads← bad 0 0 t wr.start wd.start (rw (code_start d) l)

    -- no common trace to a bad pair is shorter than the distance
    pub pair_distance≤ : (t : List ℕ) → PairLeads r d bad 0 0 t → pair_distance r d bad ≤ length t
    unfolding pair_distance
    pair_distance≤ t l = distance≤ (product r d) (on_codes d bad) w t (to t l)

    -- a bad pair that any common trace reaches is nearer than the number of pairs
    pub pair_distance< : (t : List ℕ) → PairLeads r d bad 0 0 t → pair_distance r d bad < r.size * d.size
    unfolding pair_distance product
    pair_distance< t l = distance< (product r d) (on_codes d bad) w t (to t l)

    -- the distance is below the number of pairs exactly if some common trace, however long, leads to a bad pair
    pub pair_distance_means : (pair_distance r d bad < r.size * d.size) ↔ ((t : List ℕ) × PairLeads r d bad 0 0 t)
    unfolding pair_distance product
    pair_distance_means = (forth, λ l. pair_distance< l.0 l.1)
      where
        forth : pair_distance r d bad < r.size * d.size → (t : List ℕ) × PairLeads r d bad 0 0 t
        forth h = let l = (distance_means (product r d) (on_codes d bad) w).0 h in (l.0, from l.0 l.1)

    -- where the distance is the number of pairs, no common trace leads to a bad pair
    pub pair_distance_none : r.size * d.size ≤ pair_distance r d bad → (t : List ℕ) → PairLeads r d bad 0 0 t → ⊥
    pair_distance_none h t l = omega (arith, pair_distance< t l)

    -- where a bad pair is reached at all, the least trace is a common trace to one
    pub pair_trace_leads : pair_distance r d bad < r.size * d.size → PairLeads r d bad 0 0 (pair_trace r d bad)
    unfolding pair_trace pair_distance product
    pair_trace_leads h = from (least_trace (product r d) (on_codes d bad)) (least_trace_leads (product r d) (on_codes d bad) w h)

    -- the least trace comes first in event order among all common traces of its length to a bad pair
    pub pair_trace_least : (t : List ℕ) → length t ≡ pair_distance r d bad → PairLeads r d bad 0 0 t → Lex (pair_trace r d bad) t
    unfolding pair_trace pair_distance
    pair_trace_least t e l = least_trace_least (product r d) (on_codes d bad) w t e (to t l)

    -- the least trace is the only common trace that comes first among those of its length to a bad pair
    pub pair_trace_unique : (s : List ℕ) → length s ≡ pair_distance r d bad → PairLeads r d bad 0 0 s
        → ((t : List ℕ) → length t ≡ pair_distance r d bad → PairLeads r d bad 0 0 t → Lex s t) → s ≡ pair_trace r d bad
    unfolding pair_trace pair_distance
    pair_trace_unique s e l h = least_trace_unique (product r d) (on_codes d bad) w s e (to s l) (λ t f k. h t f (from t k))

  -- a pair is reached before k as a node of the product exactly if it is as a pair
  before : (k n m : ℕ) → n < r.size → m < d.size → ReachedBefore (product r d) k (code d n m) ↔ PairReachedBefore r d k n m
  before k n m h l = (forth, back)
    where
      forth : ReachedBefore (product r d) k (code d n m) → PairReachedBefore r d k n m
      forth (t, s, e) = let b = (product_at wr wd t n m h l).0 e in (t, s, b.0, b.1)

      back : PairReachedBefore r d k n m → ReachedBefore (product r d) k (code d n m)
      back (t, s, a, b) = (t, s, (product_at wr wd t n m h l).1 (a, b))

  -- a pair is reached at all as a node of the product exactly if it is as a pair
  ever : (n m : ℕ) → n < r.size → m < d.size → Reachable (product r d) (code d n m) ↔ PairReachable r d n m
  ever n m h l = (forth, back)
    where
      forth : Reachable (product r d) (code d n m) → PairReachable r d n m
      forth (t, e) = let b = (product_at wr wd t n m h l).0 e in (t, b.0, b.1)

      back : PairReachable r d n m → Reachable (product r d) (code d n m)
      back (t, a, b) = (t, (product_at wr wd t n m h l).1 (a, b))

  module _ {P : ℕ → Type 0} {R : ℕ → ℕ → Type 0} (same : (n m : ℕ) → n < r.size → m < d.size → P (code d n m) ↔ R n m) where
    -- a listing of codes lists pairs
    decode : {L : ℕ} {Q : ℕ → ℕ} → Listing (λ c. (c < r.size * d.size) × P c) L Q → PairLists r d R L (λ x. Q x / d.size) (λ x. Q x % d.size)
    decode {L} {Q} l = record {
      in_r = inside;
      in_d = λ x k. code_mod_lt d (Q x) wd.start;
      holds = λ x k. (same (Q x / d.size) (Q x % d.size) (inside x k) (code_mod_lt d (Q x) wd.start)).0 (rw (code_split d (Q x)) (l.holds x k).1);
      differ = λ x y k m e. l.differ x y k m (sym (code_split d (Q x)) ∙ pair x y e.0 e.1 ∙ code_split d (Q y));
      every = λ n m h k p. let v = l.every (code d n m) (code_lt r d n m h k, (same n m h k).1 p) in
          (v.0, v.1, ap (λ (a : ℕ). a / d.size) v.2 ∙ code_div d n m k, ap (λ (a : ℕ). a % d.size) v.2 ∙ code_mod d n m k);
    }
      where
        inside : (x : ℕ) → x < L → Q x / d.size < r.size
        inside x k = code_div_lt r d (Q x) wd.start (l.holds x k).0

        pair : (x y : ℕ) → Q x / d.size ≡ Q y / d.size → Q x % d.size ≡ Q y % d.size
            → code d (Q x / d.size) (Q x % d.size) ≡ code d (Q y / d.size) (Q y % d.size)
        pair x y e f = rw (e, f)

    -- a listing of pairs lists their codes
    encode : {L : ℕ} {N M : ℕ → ℕ} → PairLists r d R L N M → Listing (λ c. (c < r.size * d.size) × P c) L (λ x. code d (N x) (M x))
    encode {L} {N} {M} l = record {
      holds = λ x k. (code_lt r d (N x) (M x) (l.in_r x k) (l.in_d x k), (same (N x) (M x) (l.in_r x k) (l.in_d x k)).1 (l.holds x k));
      differ = λ x y k m e. l.differ x y k m (code_unique d (N x) (M x) (N y) (M y) (l.in_d x (omega arith)) (l.in_d y m) e);
      every = λ c p. every' c p.0 p.1;
    }
      where
        every' : (c : ℕ) → c < r.size * d.size → P c → (x : ℕ) × (x < L) × (code d (N x) (M x) ≡ c)
        every' c h p =
            let a : c / d.size < r.size = code_div_lt r d c wd.start h in
            let b : c % d.size < d.size = code_mod_lt d c wd.start in
            let v = l.every (c / d.size) (c % d.size) a b ((same (c / d.size) (c % d.size) a b).0 (rw (code_split d c) p)) in
            (v.0, v.1, ap (λ (x : ℕ). code d x (M v.0)) v.2 ∙ ap (λ (x : ℕ). code d (c / d.size) x) v.3 ∙ code_split d c)

  -- the count is L exactly if L places list, each once, the pairs that a common list of fewer than k events reaches
  pub pair_cleared_means : (k L : ℕ) → (pair_cleared r d k ≡ L) ↔ ((N : ℕ → ℕ) × (M : ℕ → ℕ) × PairLists r d (PairReachedBefore r d k) L N M)
  unfolding pair_cleared product
  pair_cleared_means k L = (forth, back)
    where
      forth : pair_cleared r d k ≡ L → (N : ℕ → ℕ) × (M : ℕ → ℕ) × PairLists r d (PairReachedBefore r d k) L N M
      forth e = let l = (cleared_means w k L).0 e in (λ x. l.0 x / d.size, λ x. l.0 x % d.size, decode (before k) l.1)

      back : (N : ℕ → ℕ) × (M : ℕ → ℕ) × PairLists r d (PairReachedBefore r d k) L N M → pair_cleared r d k ≡ L
      back (N, M, l) = (cleared_means w k L).1 (λ x. code d (N x) (M x), encode (before k) l)

  -- from the number of pairs on, all pairs are counted that a common list of any length reaches
  pub pair_cleared_all : (k L : ℕ) → r.size * d.size ≤ k → (pair_cleared r d k ≡ L) ↔ ((N : ℕ → ℕ) × (M : ℕ → ℕ) × PairLists r d (PairReachable r d) L N M)
  unfolding pair_cleared product
  pair_cleared_all k L q = (forth, back)
    where
      forth : pair_cleared r d k ≡ L → (N : ℕ → ℕ) × (M : ℕ → ℕ) × PairLists r d (PairReachable r d) L N M
      forth e = let l = (cleared_all w k L q).0 e in (λ x. l.0 x / d.size, λ x. l.0 x % d.size, decode ever l.1)

      back : (N : ℕ → ℕ) × (M : ℕ → ℕ) × PairLists r d (PairReachable r d) L N M → pair_cleared r d k ≡ L
      back (N, M, l) = (cleared_all w k L q).1 (λ x. code d (N x) (M x), encode ever l)

  pub pair_cleared_more : (k : ℕ) → r.size * d.size ≤ k → pair_cleared r d k ≡ pair_cleared r d (r.size * d.size)
  unfolding pair_cleared product
  pair_cleared_more k q = cleared_more w k q
