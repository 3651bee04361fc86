-- How many scripts of L events go where (02, K2). P is the reference, Q the device. A count for l events is worked from
-- those for one event fewer. What becomes of a script, with no count in it, is said in Fates; that these are the
-- numbers of such scripts, in CountLaws.
use Rattle.std.specs.Prelude.{cond, ℕ, zero, suc, Result, Ok, Err, ◌^◌, eqb, ltb, leb}
use Rattle.refusals.specs.declared.Refusal.{Refusal}
use Rattle.refusals.specs.Numbers.{number}
use Rattle.base.specs.Refusal.{unless}
use Rattle.base.specs.Sum.{sum}
use Rattle.sheet_spec.specs.declared.Sheet.{Sheet}
use Rattle.sheet_spec.specs.Kept.{step}
use Rattle.sheet_spec.specs.Refusals.{pair_fault}
use Rattle.scripts_spec.specs.declared.Counts.{Counts}
use Rattle.scripts_spec.specs.declared.Scripts.{Scripts}

-- what becomes of a script: both walk it to the end; it stops first at an event that the device cannot do; it stops
-- first at an event that the device can do and the reference cannot
pub data Fate : Type 0 where
  Walked : Fate
  DeviceStops : Fate
  ReferenceStops : Fate

-- a number for each fate
abbrev pub by_fate : ℕ → ℕ → ℕ → Fate → ℕ
by_fate w d r Walked = w
by_fate w d r DeviceStops = d
by_fate w d r ReferenceStops = r

-- how many scripts of event i and l events more have a fate at the pair (n, m): if the device cannot do i, all stop
-- there, by the device; if it can and the reference cannot, all stop there, by the reference; if both can, it is as
-- many as have the fate after i
unfoldable pub beginning : Sheet → Sheet → ℕ → ℕ → ℕ → ℕ → ℕ → Fate → ℕ
beginning P Q l n m i after f =
    cond (ltb (step Q m i) Q.n) (cond (ltb (step P n i) P.n) after (by_fate 0 0 (P.e ^ l) f)) (by_fate 0 (P.e ^ l) 0 f)

-- how many scripts of l events have a fate from the pair (n, m) on
unfoldable pub count_from : Sheet → Sheet → ℕ → ℕ → ℕ → Fate → ℕ
count_from P Q zero n m f = by_fate 1 0 0 f
count_from P Q (suc l) n m f =
    sum (λ i. beginning P Q l n m i (count_from P Q l (step P n i) (step Q m i) f) f) P.e

-- how many scripts of L events have a fate
unfoldable pub count_of : Sheet → Sheet → ℕ → Fate → ℕ
count_of P Q L f = count_from P Q L 0 0 f

-- the refusal of a call: the reference's own, the device's own; 11: E differs; 19: a code differs; 20: L above 16
unfoldable pub scripts_fault : Sheet → Sheet → ℕ → ℕ
scripts_fault P Q L = pair_fault P Q (unless (leb L 16) 20 0)

-- the answer of a call: the three counts; if it is refused, its number and 0 in their places
unfoldable pub scripts_of : Sheet → Sheet → ℕ → Scripts
scripts_of P Q L =
    cond (eqb (scripts_fault P Q L) 0)
    (record { refusal = 0; walked = count_of P Q L Walked; device = count_of P Q L DeviceStops; reference = count_of P Q L ReferenceStops })
    (record { refusal = scripts_fault P Q L; walked = 0; device = 0; reference = 0 })

-- what C is told of an answer: its counts, or the number of its refusal and 0 in their places
unfoldable pub counted : Result Counts Refusal → Scripts
counted (Ok c) = record { refusal = 0; walked = c.walked; device = c.device; reference = c.reference }
counted (Err cause) = record { refusal = number cause; walked = 0; device = 0; reference = 0 }
