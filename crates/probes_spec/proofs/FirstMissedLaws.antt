-- Nothing to believe: laws. What the comparison's definition names, in plain words and both directions; and that it
-- names something exactly if some device acceptance includes no reference acceptance.
use Rattle.std.specs.Prelude.{◌≡◌, ◌⊎◌, ◌↔◌, Bool, true, false, cond, List, [], ◌∷◌, ℕ, Option, Some, None, zero, suc, ◌≤◌, ◌<◌, length, get_or}
use Rattle.std.proofs.Math.Path.{refl}
use Rattle.std.proofs.Common.{sym, ap, ◌∙◌, subst, inl, inr, arith}
use Rattle.base.proofs.Truth.{dec, clash, lt_or_ge}
use Rattle.base.specs.Range.{any}
use Rattle.base.proofs.Range.{any→, not_any}
use Rattle.events.specs.Bit.{Within, Apart}
use Rattle.events.specs.Sets.{inside, meets}
use Rattle.events.proofs.Sets.{inside→, inside←, meets_not, meets_apart}
use Rattle.probes_spec.specs.declared.Missed.{Missed}
use Rattle.probes_spec.specs.Probes.{probes, Narrow}
use Rattle.probes_spec.proofs.ProbeLaws.{probe_at, probe_listed, missed→, missed←}
use Rattle.probes_spec.specs.FirstMissed.{missing, or_next, first_missing, first_missed, missed_numbers, NoneMissed, MissedFirst}

-- what an answer about a list of sets says, in plain words
abbrev Says : List ℕ → List ℕ → Option Missed → Type 0
Says ps dev None = NoneMissed ps dev
Says ps dev (Some m) = MissedFirst ps dev m.probe m.acceptance

-- what an answer about one set says, in plain words
abbrev SaysOne : ℕ → List ℕ → Option Missed → Type 0
SaysOne p dev None = (j : ℕ) → j < length dev → ¬ Apart p (get_or dev j 0)
SaysOne p dev (Some m) = (m.probe ≡ p) × ((j : ℕ) × (j < length dev) × (get_or dev j 0 ≡ m.acceptance) × Apart p m.acceptance × ((k : ℕ) → k < j → ¬ Apart p (get_or dev k 0)))

says_one : (p : ℕ) (dev : List ℕ) → SaysOne p dev (missing p dev)
unfolding missing
says_one p [] = λ j l. absurd (omega arith)
says_one p (a ∷ dev) = go (meets p a) refl (missing p dev) (says_one p dev)
  where
    met : meets p a ≡ true → ¬ Apart p a
    met t h = clash t (meets_apart p a h)

    none : meets p a ≡ true → ((j : ℕ) → j < length dev → ¬ Apart p (get_or dev j 0)) → (j : ℕ) → j < length (a ∷ dev) → ¬ Apart p (get_or (a ∷ dev) j 0)
    none t h zero l = met t
    none t h (suc j) l = h j (omega arith)

    before : meets p a ≡ true → (j : ℕ) → ((k : ℕ) → k < j → ¬ Apart p (get_or dev k 0)) → (k : ℕ) → k < suc j → ¬ Apart p (get_or (a ∷ dev) k 0)
    before t j h zero l = met t
    before t j h (suc k) l = h k (omega arith)

    go : (b : Bool) → meets p a ≡ b → (m : Option Missed) → SaysOne p dev m → SaysOne p (a ∷ dev) (cond b m (Some (record { probe = p; acceptance = a })))
    go false t m s = (refl, (0, omega arith, refl, meets_not p a t, λ k l. absurd (omega arith)))
    go true t None s = none t s
    go true t (Some m) (r, (j, l, e, z, h)) = (r, (suc j, omega arith, e, z, before t j h))

says : (ps dev : List ℕ) → Says ps dev (first_missing ps dev)
unfolding first_missing or_next
says [] dev = λ x l. absurd (omega arith)
says (p ∷ ps) dev = go (missing p dev) (first_missing ps dev) (says_one p dev) (says ps dev)
  where
    none : ((j : ℕ) → j < length dev → ¬ Apart p (get_or dev j 0)) → NoneMissed ps dev → NoneMissed (p ∷ ps) dev
    none h g zero l = h
    none h g (suc x) l = g x (omega arith)

    before : ((j : ℕ) → j < length dev → ¬ Apart p (get_or dev j 0)) → (y : ℕ) → ((x : ℕ) → x < y → (j : ℕ) → j < length dev → ¬ Apart (get_or ps x 0) (get_or dev j 0))
        → (x : ℕ) → x < suc y → (j : ℕ) → j < length dev → ¬ Apart (get_or (p ∷ ps) x 0) (get_or dev j 0)
    before h y g zero l = h
    before h y g (suc x) l = g x (omega arith)

    go : (m n : Option Missed) → SaysOne p dev m → Says ps dev n → Says (p ∷ ps) dev (or_next m n)
    go (Some m) n (r, (j, l, e, z, h)) t = rw r (record {
      place = 0;
      place_in = omega arith;
      probe = refl;
      spot = j;
      spot_in = l;
      acceptance = e;
      misses = z;
      earlier = λ x k. absurd (omega arith);
      lower = h;
    })
    go None (Some m) s t = record {
      place = suc t.place;
      place_in = omega (arith, t.place_in);
      probe = t.probe;
      spot = t.spot;
      spot_in = t.spot_in;
      acceptance = t.acceptance;
      misses = t.misses;
      earlier = before s t.place t.earlier;
      lower = t.lower;
    }
    go None None s t = none s t

-- two answers of which each is the first are one
pub missed_once : (ps dev : List ℕ) (p a q b : ℕ) → MissedFirst ps dev p a → MissedFirst ps dev q b → (p ≡ q) × (a ≡ b)
missed_once ps dev p a q b m n = (same_probe, sym m.acceptance ∙ ap (λ (j : ℕ). get_or dev j 0) same_spot ∙ n.acceptance)
  where
    apart_at : (c d : ℕ) (r : MissedFirst ps dev c d) → Apart (get_or ps r.place 0) (get_or dev r.spot 0)
    apart_at c d r = rw (r.probe, r.acceptance) r.misses

    same_place : m.place ≡ n.place
    same_place = go (lt_or_ge m.place n.place) (lt_or_ge n.place m.place)
      where
        go : (m.place < n.place) ⊎ (n.place ≤ m.place) → (n.place < m.place) ⊎ (m.place ≤ n.place) → m.place ≡ n.place
        go (inl l) h = absurd (n.earlier m.place l m.spot m.spot_in (apart_at p a m))
        go (inr l) (inl k) = absurd (m.earlier n.place k n.spot n.spot_in (apart_at q b n))
        go (inr l) (inr k) = omega arith

    same_probe : p ≡ q
    same_probe = sym m.probe ∙ ap (λ (x : ℕ). get_or ps x 0) same_place ∙ n.probe

    same_spot : m.spot ≡ n.spot
    same_spot = go (lt_or_ge m.spot n.spot) (lt_or_ge n.spot m.spot)
      where
        go : (m.spot < n.spot) ⊎ (n.spot ≤ m.spot) → (n.spot < m.spot) ⊎ (m.spot ≤ n.spot) → m.spot ≡ n.spot
        go (inl l) h = absurd (n.lower m.spot l (rw (← same_probe, m.acceptance) m.misses))
        go (inr l) (inl k) = absurd (m.lower n.spot k (rw (same_probe, n.acceptance) n.misses))
        go (inr l) (inr k) = omega arith

-- where no set of a list is missed, none is the first missed
none_or_first : (ps dev : List ℕ) (p a : ℕ) → NoneMissed ps dev → MissedFirst ps dev p a → ⊥
none_or_first ps dev p a h m = h m.place m.place_in m.spot m.spot_in (rw (m.probe, m.acceptance) m.misses)

-- nothing is named exactly if no probe is missed
pub missed_nothing : (accs : List ℕ) (e : ℕ) (dev : List ℕ) → (first_missed accs e dev ≡ None) ↔ NoneMissed (probes accs e) dev
unfolding first_missed
missed_nothing accs e dev = ((λ q. subst (Says (probes accs e) dev) q (says (probes accs e) dev)), λ h. go h (first_missing (probes accs e) dev) refl (says (probes accs e) dev))
  where
    go : NoneMissed (probes accs e) dev → (m : Option Missed) → first_missing (probes accs e) dev ≡ m → Says (probes accs e) dev m → first_missing (probes accs e) dev ≡ None
    go h None q s = q
    go h (Some m) q s = absurd (none_or_first (probes accs e) dev m.probe m.acceptance h s)

-- a probe and an acceptance are named exactly if they are the first
pub missed_found : (accs : List ℕ) (e : ℕ) (dev : List ℕ) (p a : ℕ) → (first_missed accs e dev ≡ Some (record { probe = p; acceptance = a })) ↔ MissedFirst (probes accs e) dev p a
unfolding first_missed
missed_found accs e dev p a = ((λ q. subst (Says (probes accs e) dev) q (says (probes accs e) dev)), λ h. go h (first_missing (probes accs e) dev) refl (says (probes accs e) dev))
  where
    go : MissedFirst (probes accs e) dev p a → (m : Option Missed) → first_missing (probes accs e) dev ≡ m → Says (probes accs e) dev m → first_missing (probes accs e) dev ≡ Some (record { probe = p; acceptance = a })
    go h None q s = absurd (none_or_first (probes accs e) dev p a s h)
    go h (Some m) q s = let w = missed_once (probes accs e) dev m.probe m.acceptance p a s h in rw (q, ← w.0, ← w.1)

module _ (accs : List ℕ) (e : ℕ) (dev : List ℕ) where
  -- "found" is 0 exactly if no probe is missed
  pub found_0 : ((missed_numbers (first_missed accs e dev)).found ≡ 0) ↔ NoneMissed (probes accs e) dev
  unfolding missed_numbers
  found_0 = (λ z. (missed_nothing accs e dev).0 (forth (first_missed accs e dev) z), λ h. rw ((missed_nothing accs e dev).1 h))
    where
      forth : (m : Option Missed) → (missed_numbers m).found ≡ 0 → m ≡ None
      forth None z = refl
      forth (Some m) z = absurd (omega arith)

  -- "found" is 1 exactly if some probe is missed by some acceptance
  pub found_1 : ((missed_numbers (first_missed accs e dev)).found ≡ 1) ↔ (¬ NoneMissed (probes accs e) dev)
  unfolding missed_numbers
  found_1 = (λ z h. omega (arith, z, found_0.1 h), λ n. forth (first_missed accs e dev) (λ q. n ((missed_nothing accs e dev).0 q)))
    where
      forth : (m : Option Missed) → (¬ (m ≡ None)) → (missed_numbers m).found ≡ 1
      forth None n = absurd (n refl)
      forth (Some m) n = refl

  -- where no probe is missed, the probe and the acceptance are 0
  pub none_named : NoneMissed (probes accs e) dev → ((missed_numbers (first_missed accs e dev)).probe ≡ 0) × ((missed_numbers (first_missed accs e dev)).acceptance ≡ 0)
  unfolding missed_numbers
  none_named h = rw ((missed_nothing accs e dev).1 h) (refl, refl)

  -- where some probe is missed, the probe is the first such probe of the list, the acceptance the first that misses it
  pub first_named : (¬ NoneMissed (probes accs e) dev)
      → MissedFirst (probes accs e) dev (missed_numbers (first_missed accs e dev)).probe (missed_numbers (first_missed accs e dev)).acceptance
  unfolding missed_numbers
  first_named n = go (first_missed accs e dev) refl
    where
      go : (m : Option Missed) → first_missed accs e dev ≡ m → MissedFirst (probes accs e) dev (missed_numbers m).probe (missed_numbers m).acceptance
      go None q = absurd (n ((missed_nothing accs e dev).0 q))
      go (Some m) q = (missed_found accs e dev m.probe m.acceptance).0 q

-- every device acceptance includes a reference acceptance exactly if nothing is named (Lemma 4 over the two lists)
pub missed_none : (accs : List ℕ) (e : ℕ) → Narrow accs e → (dev : List ℕ)
    → (first_missed accs e dev ≡ None) ↔ ((k : ℕ) → k < length dev → (j : ℕ) × (j < length accs) × Within (get_or accs j 0) (get_or dev k 0))
missed_none accs e n dev = (to, from)
  where
    part : ℕ → ℕ → Bool
    part k j = inside (get_or accs j 0) (get_or dev k 0)

    to : first_missed accs e dev ≡ None → (k : ℕ) → k < length dev → (j : ℕ) × (j < length accs) × Within (get_or accs j 0) (get_or dev k 0)
    to q k l = go (dec (any (part k) (length accs)))
      where
        go : (any (part k) (length accs) ≡ true) ⊎ (any (part k) (length accs) ≡ false) → (j : ℕ) × (j < length accs) × Within (get_or accs j 0) (get_or dev k 0)
        go (inl t) = let w = any→ (part k) (length accs) t in (w.0, w.1, inside→ (get_or accs w.0 0) (get_or dev k 0) w.2)
        go (inr t) =
            let m = missed→ accs e n (get_or dev k 0) (λ j h w. clash (inside← (get_or accs j 0) (get_or dev k 0) w) (not_any (part k) (length accs) j t h)) in
            let x = probe_listed accs e n m.0 m.1 in
            absurd ((missed_nothing accs e dev).0 q x.0 x.1 k l (rw x.2 m.2))

    from : ((k : ℕ) → k < length dev → (j : ℕ) × (j < length accs) × Within (get_or accs j 0) (get_or dev k 0)) → first_missed accs e dev ≡ None
    from h = (missed_nothing accs e dev).1 (λ x l k b z. let w = h k b in missed← accs (get_or (probes accs e) x 0) (get_or dev k 0) (probe_at accs e x l) z w.0 w.1 w.2)
