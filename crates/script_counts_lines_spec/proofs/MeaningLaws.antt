-- Nothing to believe: laws. What the printed numbers mean, with no count and no list of a program in it: five lines are
-- printed after two accepted sheets exactly if these agree, the word is the length of a script, and the numbers are
-- those of different scripts of so many events: all, those that both sheets walk, those that the device stops, those
-- that the reference stops, and those that end early.
use Rattle.std.specs.Prelude.{◌≡◌, ◌⊎◌, ◌↔◌, List, ℕ, ◌+◌, ◌^◌}
use Rattle.std.proofs.Common.{ap, ◌∙◌, inl, inr, arith}
use Rattle.base.specs.Counted.{Counted}
use Rattle.base.proofs.CountedLaws.{counted_as, counted_either, counted_unique}
use Rattle.sheet_spec.specs.declared.Sheet.{Sheet}
use Rattle.sheet_spec.specs.Refusals.{Agree}
use Rattle.sheet_spec.specs.Sound.{Sound}
use Rattle.sheet_spec.proofs.SoundLaws.{check_sound}
use Rattle.text_spec.specs.Lines.{value_from}
use Rattle.text_pair_spec.specs.BackToBack.{BackToBack, after_sheets}
use Rattle.scripts_spec.specs.Scripts.{Fate, Walked, DeviceStops, ReferenceStops, by_fate, count_of}
use Rattle.scripts_spec.specs.Fates.{Script, Goes}
use Rattle.scripts_spec.proofs.FateLaws.{fate_some, fate_one}
use Rattle.scripts_spec.proofs.CountLaws.{scripts_counted, counted}
use Rattle.script_counts_lines_spec.specs.Program.{scripts_text}
use Rattle.script_counts_lines_spec.specs.Says.{IsLength, spelled, Means}
use Rattle.script_counts_lines_spec.proofs.ProgramLaws.{says_counts, says_numbers}

module _ {P Q : Sheet} (op : Sound P) (oq : Sound Q) (L : ℕ) where
  -- a script has one fate
  apart : (t : List ℕ) (f g : Fate) → Goes P Q t f → Goes P Q t g → by_fate 0 1 2 f ≡ by_fate 0 1 2 g
  apart t f g x y = ap (by_fate 0 1 2) (fate_one op oq t f g x y)

  -- as many scripts end early as the device and the reference stop
  early : Counted (λ t. Script P.e L t × (¬ Goes P Q t Walked)) (count_of P Q L DeviceStops + count_of P Q L ReferenceStops)
  early =
      counted_as (λ t. (to t, from t))
      (counted_either (counted op oq L DeviceStops) (counted op oq L ReferenceStops) (λ t x y. omega (arith, apart t DeviceStops ReferenceStops x.1 y.1)))
    where
      to : (t : List ℕ) → (Script P.e L t × Goes P Q t DeviceStops) ⊎ (Script P.e L t × Goes P Q t ReferenceStops) → Script P.e L t × (¬ Goes P Q t Walked)
      to t (inl x) = (x.0, λ y. omega (arith, apart t DeviceStops Walked x.1 y))
      to t (inr x) = (x.0, λ y. omega (arith, apart t ReferenceStops Walked x.1 y))

      from : (t : List ℕ) → Script P.e L t × (¬ Goes P Q t Walked) → (Script P.e L t × Goes P Q t DeviceStops) ⊎ (Script P.e L t × Goes P Q t ReferenceStops)
      from t x = go (fate_some op oq t)
        where
          go : (f : Fate) × Goes P Q t f → (Script P.e L t × Goes P Q t DeviceStops) ⊎ (Script P.e L t × Goes P Q t ReferenceStops)
          go (Walked, g) = absurd (x.1 g)
          go (DeviceStops, g) = inl (x.0, g)
          go (ReferenceStops, g) = inr (x.0, g)

  -- the numbers that are printed mean what they say
  counts_mean : Means P Q L (P.e ^ L) (count_of P Q L Walked) (count_of P Q L DeviceStops) (count_of P Q L ReferenceStops) (count_of P Q L DeviceStops + count_of P Q L ReferenceStops)
  counts_mean = record {
    all = scripts_counted P.e L;
    walked = counted op oq L Walked;
    device_stops = counted op oq L DeviceStops;
    reference_stops = counted op oq L ReferenceStops;
    ends_early = early;
  }

-- five lines are printed exactly if the sheets agree, the word is their L, and the numbers are those of the scripts
pub says_means : (word input : List ℕ) (P Q : Sheet) → BackToBack input P Q → (L n w d r m : ℕ)
    → (scripts_text word input ≡ after_sheets P Q (spelled L n w d r m)) ↔ (Agree P Q × IsLength word × (L ≡ value_from 0 word) × Means P Q L n w d r m)
says_means word input P Q b L n w d r m = (to, from)
  where
    op : Sound P
    op = check_sound P b.reference_accepted.1

    oq : Sound Q
    oq = check_sound Q b.device_accepted.1

    to : scripts_text word input ≡ after_sheets P Q (spelled L n w d r m) → Agree P Q × IsLength word × (L ≡ value_from 0 word) × Means P Q L n w d r m
    to t =
        let x = says_numbers word input P Q b L n w d r m t in
        let y = (says_counts word input P Q b).0 (t ∙ rw (x.1, x.5, x.2, x.3, x.4, x.0)) in
        (y.0, y.1, x.0, rw (x.1, x.5, x.2, x.3, x.4) (counts_mean op oq L))

    from : Agree P Q × IsLength word × (L ≡ value_from 0 word) × Means P Q L n w d r m → scripts_text word input ≡ after_sheets P Q (spelled L n w d r m)
    from (a, x, e, c) =
        let p : n ≡ P.e ^ L = counted_unique c.all (scripts_counted P.e L) in
        let q : w ≡ count_of P Q L Walked = counted_unique c.walked (counted op oq L Walked) in
        let s : d ≡ count_of P Q L DeviceStops = counted_unique c.device_stops (counted op oq L DeviceStops) in
        let u : r ≡ count_of P Q L ReferenceStops = counted_unique c.reference_stops (counted op oq L ReferenceStops) in
        let y : m ≡ count_of P Q L DeviceStops + count_of P Q L ReferenceStops = counted_unique c.ends_early (early op oq L) in
        (says_counts word input P Q b).1 (a, x) ∙ rw (p, q, s, u, y, e)
