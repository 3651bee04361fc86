-- Nothing to believe: laws. What upper crates may rely on: the promise of the probe lists. They are the lists with just
-- the minimal hitting sets in their order, and no other list is one.
use Rattle.std.specs.Prelude.{◌≡◌, refl, ◌⊎◌, ◌↔◌, ◌≢◌, Bool, true, false, not, ◌&&◌, cond, List, ℕ, suc, ◌+◌, ◌%◌, ◌^◌, ◌≤◌, ◌<◌, eqb, length, get_or}
use Rattle.std.proofs.Common.{sym, ap, ◌∙◌, inl, inr, mod-lt, mod-eq_of_lt, eq-or-lt_of_le, arith, pow_mono, eqb-true, eq-eqb}
use Rattle.base.proofs.Truth.{dec, lt_or_ge, and_l, and_r, and_i, not_i, not_t, t_not}
use Rattle.base.proofs.Pigeon.{pigeonhole}
use Rattle.base.specs.Counted.{Counted}
use Rattle.base.specs.Gather.{gather, select}
use Rattle.base.proofs.Gather.{gather_room, gather_has, gather_from, select_ascends}
use Rattle.base.specs.Joined.{joined}
use Rattle.base.proofs.JoinedLaws.{joined_more, joined_mono, joined_room, joined_has, joined_from}
use Rattle.base.specs.Sorted.{Sorted}
use Rattle.base.proofs.SortedLaws.{sorted_once, sorted_one}
use Rattle.events.specs.Bit.{bit, set_of, Within, Apart}
use Rattle.events.proofs.Bit.{bit≤1, bit_and_lem, bit_one, bit_high, bits_zero, some_bit, narrow, set_of_lt, bit_set_of}
use Rattle.events.specs.Sets.{has, inside}
use Rattle.events.proofs.Sets.{has→, has_not, inside→, inside_missing}
use Rattle.events.specs.Size.{size}
use Rattle.events.proofs.SizeLaws.{size_few}
use Rattle.probes_spec.specs.Probes.{is_probe, probes_of, probes, Hits, Probe, Before, ProbeList, Narrow}
use Rattle.probes_spec.proofs.HitLaws.{is_probe→, is_probe←, probe_inside, probe→alone}
use Rattle.probes_spec.proofs.OrderLaws.{before_never, before_through}

-- the test `is_probe` passes exactly for the minimal hitting sets
pub is_probe_means : (accs : List ℕ) (X : ℕ) → (is_probe accs X ≡ true) ↔ Probe accs X
is_probe_means accs X = (is_probe→ accs X, is_probe← accs X)

-- whether a set is a probe that has j events
abbrev of_j : List ℕ → ℕ → ℕ → Bool
of_j accs j x = eqb (size x) j && is_probe accs x

-- where an element of the list of probes comes from: the probes of its size
record From (accs : List ℕ) (e x : ℕ) : Type 0 where
  size_of : ℕ
  place : ℕ
  set : ℕ
  place_in : place < length (probes_of accs e size_of)
  at : x ≡ length (joined (probes_of accs e) size_of) + place
  is : get_or (probes accs e) x 0 ≡ set
  sized : size set ≡ size_of
  small : set < 2 ^ e
  probe : is_probe accs set ≡ true
  among : get_or (probes_of accs e size_of) place 0 ≡ set

from : (accs : List ℕ) (e x : ℕ) → x < length (probes accs e) → From accs e x
unfolding probes probes_of select
from accs e x l =
    let w = joined_from (probes_of accs e) (suc e) x l in
    let g = gather_from (of_j accs w.0) (λ y. y) (2 ^ e) w.1 w.3 in
    record {
      size_of = w.0;
      place = w.1;
      set = g.0;
      place_in = w.3;
      at = w.4;
      is = w.5 ∙ g.4;
      sized = eqb-true (size g.0) w.0 (and_l (eqb (size g.0) w.0) (is_probe accs g.0) g.2);
      small = g.1;
      probe = and_r (eqb (size g.0) w.0) (is_probe accs g.0) g.2;
      among = g.4;
    }

-- what is listed is a probe, and a set of events below e
pub probe_at : (accs : List ℕ) (e x : ℕ) → x < length (probes accs e) → Probe accs (get_or (probes accs e) x 0)
probe_at accs e x l = let w = from accs e x l in rw w.is (is_probe→ accs w.set w.probe)

pub probe_small : (accs : List ℕ) (e x : ℕ) → x < length (probes accs e) → get_or (probes accs e) x 0 < 2 ^ e
probe_small accs e x l = let w = from accs e x l in rw w.is w.small

-- a probe has events of the acceptances only
pub probe_events : (accs : List ℕ) (X i : ℕ) → Probe accs X → bit X i ≡ 1 → (j : ℕ) × (j < length accs) × (bit (get_or accs j 0) i ≡ 1)
probe_events accs X i p b =
    let w = probe→alone accs X p i b in
    (w.0, w.1, omega (arith, bit_and_lem i (get_or accs w.0 0) X, ap (λ (y : ℕ). bit y i) w.2, bit_one i, bit≤1 (get_or accs w.0 0) i))

-- a probe is a set of events below e if the acceptances are
probe_narrow : (accs : List ℕ) (e : ℕ) → Narrow accs e → (X : ℕ) → Probe accs X → X < 2 ^ e
probe_narrow accs e n X p = narrow e X (λ i b. below i (probe_events accs X i p b))
  where
    below : (i : ℕ) → (j : ℕ) × (j < length accs) × (bit (get_or accs j 0) i ≡ 1) → i < e
    below i (j, l, b) = go (lt_or_ge i e)
      where
        go : (i < e) ⊎ (e ≤ i) → i < e
        go (inl h) = h
        go (inr h) = absurd (omega (arith, bit_high e i (get_or accs j 0) (n j l) h))

-- every probe is listed
pub probe_listed : (accs : List ℕ) (e : ℕ) → Narrow accs e → (X : ℕ) → Probe accs X → (x : ℕ) × (x < length (probes accs e)) × (get_or (probes accs e) x 0 ≡ X)
unfolding probes probes_of select
probe_listed accs e n X p =
    let l = probe_narrow accs e n X p in
    let t : of_j accs (size X) X ≡ true = and_i (eq-eqb (size X) (size X) refl) (is_probe← accs X p) in
    let k : size X < suc e = omega (arith, size_few e X l) in
    let y = length (gather (of_j accs (size X)) (λ y. y) X) in
    let r = gather_room (of_j accs (size X)) (λ y. y) X (2 ^ e) l t in (
      length (joined (probes_of accs e) (size X)) + y,
      joined_room (probes_of accs e) (suc e) (size X) y k r,
      joined_has (probes_of accs e) (suc e) (size X) y k r ∙ gather_has (of_j accs (size X)) (λ y. y) X (2 ^ e) l t,
    )

-- of probes of as many events the lower numbers come first
rises : (accs : List ℕ) (e j x y : ℕ) → x < y → y < length (probes_of accs e j) → get_or (probes_of accs e j) x 0 < get_or (probes_of accs e j) y 0
unfolding probes_of
rises accs e j = select_ascends (of_j accs j) (2 ^ e)

-- the order of the list of probes: fewer events first, and of as many the lower number first
pub probes_ordered : (accs : List ℕ) (e : ℕ) → Sorted Before (probes accs e)
probes_ordered accs e x y l h = go (from accs e x (omega arith)) (from accs e y h)
  where
    go : From accs e x → From accs e y → Before (get_or (probes accs e) x 0) (get_or (probes accs e) y 0)
    go v w = rw (v.is, w.is) (pick (lt_or_ge v.size_of w.size_of))
      where
        pick : (v.size_of < w.size_of) ⊎ (w.size_of ≤ v.size_of) → Before v.set w.set
        pick (inl k) = inl (omega (arith, v.sized, w.sized))
        pick (inr k) = equal (eq-or-lt_of_le k)
          where
            equal : (w.size_of ≡ v.size_of) ⊎ (w.size_of < v.size_of) → Before v.set w.set
            equal (inr m) = absurd (omega (arith, v.at, w.at, w.place_in, joined_more (probes_of accs e) w.size_of, joined_mono (probes_of accs e) (suc w.size_of) v.size_of m))
            equal (inl q) =
                let k : w.place < length (probes_of accs e v.size_of) = rw (← q) w.place_in in
                let g : get_or (probes_of accs e v.size_of) w.place 0 ≡ w.set = rw (← q) w.among in
                let r : v.place < w.place = omega (arith, v.at, w.at, ap (λ (j : ℕ). length (joined (probes_of accs e) j)) q) in
                inr (v.sized ∙ sym q ∙ sym w.sized, omega (arith, rises accs e v.size_of v.place w.place r k, v.among, g))

-- no probe is listed twice
pub probe_once : (accs : List ℕ) (e x y : ℕ) → x < y → y < length (probes accs e) → get_or (probes accs e) x 0 ≢ get_or (probes accs e) y 0
probe_once accs e = sorted_once Before before_never (probes accs e) (probes_ordered accs e)

-- there are no more probes than sets of events below e
pub probes_few : (accs : List ℕ) (e : ℕ) → length (probes accs e) ≤ 2 ^ e
probes_few accs e = go (lt_or_ge (2 ^ e) (length (probes accs e)))
  where
    go : (2 ^ e < length (probes accs e)) ⊎ (length (probes accs e) ≤ 2 ^ e) → length (probes accs e) ≤ 2 ^ e
    go (inr h) = h
    go (inl h) =
        let w = pigeonhole (2 ^ e) (λ x. get_or (probes accs e) x 0) (λ x l. probe_small accs e x (omega arith)) in
        absurd (probe_once accs e w.0 w.1 w.2 (omega (arith, w.3)) w.4)

-- of at most 12 events there are at most 4,096
pub probes_most : (accs : List ℕ) (e : ℕ) → e ≤ 12 → length (probes accs e) ≤ 4096
probes_most accs e h = let k : 2 ^ e ≤ 2 ^ 12 = pow_mono h in omega (arith, probes_few accs e)

-- the list of probes is the probe list: just the minimal hitting sets, in their order
pub probes_are : (accs : List ℕ) (e : ℕ) → Narrow accs e → ProbeList accs (probes accs e)
probes_are accs e n = record { just = λ X. ((λ w. rw (← w.2) (probe_at accs e w.0 w.1)), λ p. probe_listed accs e n X p); ordered = probes_ordered accs e }

-- and no other list is
pub probes_only : (accs : List ℕ) (e : ℕ) → Narrow accs e → (l : List ℕ) → ProbeList accs l → l ≡ probes accs e
probes_only accs e n l q =
    let r = probes_are accs e n in
    sorted_one Before before_never before_through l (probes accs e) q.ordered r.ordered (λ X. ((λ i. (r.just X).1 ((q.just X).0 i)), λ i. (q.just X).1 ((r.just X).0 i)))

-- the list has as many places as there are minimal hitting sets, whatever their order
pub probes_counted : (accs : List ℕ) (e : ℕ) → Narrow accs e → Counted (Probe accs) (length (probes accs e))
probes_counted accs e n = ((λ x. get_or (probes accs e) x 0), record { holds = probe_at accs e; differ = probe_once accs e; every = λ X p. probe_listed accs e n X p })

-- 001's Lemma 4, forth: where a set A includes no acceptance, some probe has no event of it. The events outside A hit,
-- and a probe inside them misses A
pub missed→ : (accs : List ℕ) (e : ℕ) → Narrow accs e → (A : ℕ) → ((j : ℕ) → j < length accs → ¬ Within (get_or accs j 0) A) → (X : ℕ) × Probe accs X × Apart X A
missed→ accs e n A h = let w = probe_inside accs rest rest_hits in (w.0, w.1, λ i. omega (arith, w.2 i, rest_apart i))
  where
    outside : ℕ → Bool
    outside i = not (has A i)

    rest : ℕ
    rest = set_of outside e

    rest_has : (i : ℕ) → i < e → bit A i ≡ 0 → bit rest i ≡ 1
    rest_has i l z = let f : has A i ≡ false = not_i (λ t. no_bit t) in bit_set_of outside e i l ∙ ap (λ (b : Bool). cond b 1 0) (not_t f)
      where
        no_bit : has A i ≡ true → ⊥
        no_bit t = omega (arith, z, has→ A i t)

    rest_apart : Apart rest A
    rest_apart i = go (lt_or_ge i e) (dec (has A i))
      where
        go : (i < e) ⊎ (e ≤ i) → (has A i ≡ true) ⊎ (has A i ≡ false) → bit rest i + bit A i ≤ 1
        go (inl l) (inl t) = omega (arith, bit_set_of outside e i l ∙ ap (λ (b : Bool). cond b 1 0) (t_not t), bit≤1 A i)
        go (inl l) (inr t) = omega (arith, has_not A i t, bit≤1 rest i)
        go (inr l) t = omega (arith, bit_high e i rest (set_of_lt outside e) l, bit≤1 A i)

    rest_hits : Hits accs rest
    rest_hits j l = go (dec (inside (get_or accs j 0) A))
      where
        go : (inside (get_or accs j 0) A ≡ true) ⊎ (inside (get_or accs j 0) A ≡ false) → (i : ℕ) × (bit (get_or accs j 0) i ≡ 1) × (bit rest i ≡ 1)
        go (inl t) = absurd (h j l (inside→ (get_or accs j 0) A t))
        go (inr t) = let w = inside_missing (get_or accs j 0) A t in (w.0, w.1, rest_has w.0 (below w.0 w.1 (lt_or_ge w.0 e)) w.2)
          where
            below : (i : ℕ) → bit (get_or accs j 0) i ≡ 1 → (i < e) ⊎ (e ≤ i) → i < e
            below i b (inl k) = k
            below i b (inr k) = absurd (omega (arith, bit_high e i (get_or accs j 0) (n j l) k))

-- 001's Lemma 4, back: where a probe has no event of A, A includes no acceptance. One inside A would give the probe an
-- event of A
pub missed← : (accs : List ℕ) (X A : ℕ) → Probe accs X → Apart X A → (j : ℕ) → j < length accs → ¬ Within (get_or accs j 0) A
missed← accs X A p z j l w = let m = p.hits j l in omega (arith, w m.0, m.1, m.2, z m.0)

-- with the empty set among the acceptances there is no probe
pub probes_none : (accs : List ℕ) (e j : ℕ) → j < length accs → get_or accs j 0 ≡ 0 → length (probes accs e) ≡ 0
probes_none accs e j l z = go (lt_or_ge 0 (length (probes accs e)))
  where
    go : (0 < length (probes accs e)) ⊎ (length (probes accs e) ≤ 0) → length (probes accs e) ≡ 0
    go (inl h) = let w = (probe_at accs e 0 h).hits j l in absurd (omega (arith, w.1, ap (λ (y : ℕ). bit y w.0) z, bits_zero w.0))
    go (inr h) = omega arith

-- without the empty set among the acceptances there is a probe
pub probes_some : (accs : List ℕ) (e : ℕ) → Narrow accs e → ((j : ℕ) → j < length accs → get_or accs j 0 ≢ 0) → 0 < length (probes accs e)
probes_some accs e n h =
    let m = missed→ accs e n 0 (λ j l w. let b = some_bit (get_or accs j 0) (h j l) in omega (arith, w b.0, b.1, bits_zero b.0)) in
    let w = probe_listed accs e n m.0 m.1 in omega (arith, w.1)

-- the choice number of a run picks a probe
pub choice_probe : (accs : List ℕ) (e h : ℕ) → 0 < length (probes accs e) → Probe accs (get_or (probes accs e) (h % length (probes accs e)) 0)
choice_probe accs e h l = probe_at accs e (h % length (probes accs e)) (mod-lt h l)

-- every probe is picked by a choice number of 16 bits
pub probe_chosen : (accs : List ℕ) (e : ℕ) → e ≤ 12 → Narrow accs e → (X : ℕ) → Probe accs X → (h : ℕ) × (h < 65536) × (get_or (probes accs e) (h % length (probes accs e)) 0 ≡ X)
probe_chosen accs e b n X p =
    let w = probe_listed accs e n X p in
    (w.0, omega (arith, w.1, probes_most accs e b), ap (λ (x : ℕ). get_or (probes accs e) x 0) (mod-eq_of_lt w.1) ∙ w.2)
