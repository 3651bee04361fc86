-- The rounds of the loops over layers: of one test, what is left of it gives the whole answer; of many, what was seen
-- and what is left of each give its answer.
use mathlib.Core.Path.{◌≡◌, refl, sym, ap, ◌∙◌}
use mathlib.Core.Bool.{Bool, true, false, ◌||◌}
use mathlib.Core.List.{List, [], ◌∷◌, ◌++◌, append_assoc}
use Prim.Native.Nat.{ℕ, suc, ◌+◌, ◌-◌, ◌≤◌, ◌<◌}
use native.Mathlib.Omega.{arith}
use native.Mathlib.Nat.{sub-zero, zero-add, add-zero}
use native.Mathlib.Numerals.{add-one}
use lib.ListN.{length, get_or, set, drop, length-set}
use lib.Seq.{set_at, drop-cons}
use Rattle.base.proofs.Truth.{or_assoc}
use Rattle.base.specs.Table.{up_to}
use Rattle.base.proofs.Table.{length_up_to}
use Rattle.verdicts_layers.specs.ImageShapes.{next, layer_hits, start}
use Rattle.verdicts_layers.specs.LayerShapes.{fails_on, kind_of}

module _ (mine theirs early late : List ℕ) (p e k : ℕ) where
  -- after j layers: what the rest of the test finds from the layer is what the test finds
  pub record Left (j : ℕ) (layer : List ℕ) : Type 0 where
    pub below : j ≤ k
    pub same : fails_on mine theirs early late p e (k - j) layer ≡ fails_on mine theirs early late p e k start

  pub at_first : {layer : List ℕ} → layer ≡ start → Left 0 layer
  at_first h = record { below = omega arith; same = rw (sub-zero, h) }

  module _ {j : ℕ} {layer : List ℕ} {t : Bool} (h : Left j layer) where
    pub at_hit : j < k → t ≡ layer_hits layer early p → t ≡ true → true ≡ fails_on mine theirs early late p e k start
    unfolding fails_on
    at_hit l a b =
        let z : k - j ≡ suc (k - (j + 1)) = omega arith in
        let w : fails_on mine theirs early late p e (suc (k - (j + 1))) layer ≡ fails_on mine theirs early late p e k start = rw z at h.same in
        rw (sym a ∙ b) at w

    pub at_next : {after : List ℕ} → j < k → t ≡ layer_hits layer early p → t ≡ false → after ≡ next mine theirs p e layer p → Left (j + 1) after
    unfolding fails_on
    at_next {after} l a b n =
        let z : k - j ≡ suc (k - (j + 1)) = omega arith in
        let w : fails_on mine theirs early late p e (suc (k - (j + 1))) layer ≡ fails_on mine theirs early late p e k start = rw z at h.same in
        let v : fails_on mine theirs early late p e (k - (j + 1)) (next mine theirs p e layer p) ≡ fails_on mine theirs early late p e k start = rw (sym a ∙ b) at w in
        record { below = omega arith; same = rw n v }

    pub at_last : k ≤ j → t ≡ layer_hits layer late p → t ≡ fails_on mine theirs early late p e k start
    unfolding fails_on
    at_last l a =
        let z : k - j ≡ 0 = omega arith in
        let w : fails_on mine theirs early late p e 0 layer ≡ fails_on mine theirs early late p e k start = rw z at h.same in
        a ∙ w

-- one place more of a list is filled
pub fill_place : (f : ℕ → ℕ) (o : List ℕ) (i : ℕ) → i < length o → set (up_to f i ++ drop i o) i (f i) ≡ up_to f (i + 1) ++ drop (i + 1) o
unfolding up_to
fill_place f o i l =
    rw (drop-cons o i 0 l, set_at (up_to f i) (get_or o i 0) (drop (suc i) o) (f i) i (length_up_to f i), add-one i, append_assoc (up_to f i) (f i ∷ []) (drop (suc i) o))

module _ (mine theirs early late : List ℕ) (p e total : ℕ) (o : List ℕ) where
  -- the number of test k's verdict
  abbrev pub kind : ℕ → ℕ
  kind k = kind_of (fails_on mine theirs early late p e k start)

  -- after k layers: a test with m events from here fails exactly if there was an early fault or its rest fails; the
  -- first k verdicts are written
  pub record Judged (k : ℕ) (layer : List ℕ) (faulty : Bool) (out : List ℕ) : Type 0 where
    pub below : k ≤ total
    pub rest : (m : ℕ) → fails_on mine theirs early late p e (k + m) start ≡ (faulty || fails_on mine theirs early late p e m layer)
    pub written : out ≡ up_to kind k ++ drop k o
    pub kept : length out ≡ length o

  pub judged_none : {layer : List ℕ} → layer ≡ start → Judged 0 layer false o
  unfolding up_to
  judged_none h = record { below = omega arith; rest = λ m. rw (zero-add m, h); written = refl; kept = refl }

  pub judged_more : {k x : ℕ} {layer after out : List ℕ} {faulty now : Bool} → Judged k layer faulty out → k < total → total ≤ length o
      → x ≡ kind_of (faulty || layer_hits layer late p) → now ≡ (faulty || layer_hits layer early p) → after ≡ next mine theirs p e layer p
      → Judged (k + 1) after now (set out k x)
  unfolding fails_on
  judged_more {k} {x} {layer} {after} {out} {faulty} {now} h l room a b n =
      record {
        below = omega arith;
        rest = λ m.
            let z : k + 1 + m ≡ k + suc m = omega arith in
            rw (z, b, n) (h.rest (suc m) ∙ sym (or_assoc faulty (layer_hits layer early p) (fails_on mine theirs early late p e m (next mine theirs p e layer p))));
        written =
            let y : x ≡ kind k = a ∙ ap kind_of (sym (h.rest 0) ∙ rw (add-zero k)) in
            rw (h.written, y) (fill_place kind o k (omega arith));
        kept = length-set out k x ∙ h.kept;
      }

  pub judged_all : {k : ℕ} {layer out : List ℕ} {faulty : Bool} → Judged k layer faulty out → total ≤ k → out ≡ up_to kind total ++ drop total o
  judged_all {k} h l = let z : k ≡ total = omega (arith, h.below) in rw z at h.written

-- the rounds of one test
pub ruleset layer_by_layer = (at_first, at_hit, at_next, at_last)
