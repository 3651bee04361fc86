-- Nothing to believe: words for laws alone. What a script is, and what becomes of it (02, K2): in words of traces, with
-- no count and no test in it (`Goes`), and as a walk of both sheets (`fate_from`). FateLaws says that the two agree,
-- CountLaws that the counts are the numbers of such scripts.
use Rattle.std.specs.Prelude.{◌≡◌, cond, List, [], ◌∷◌, ◌++◌, ℕ, ltb, length}
use Rattle.walks.specs.Graph.{Below}
use Rattle.sheet_spec.specs.declared.Sheet.{Sheet}
use Rattle.sheet_spec.specs.Kept.{step}
use Rattle.refinement_spec.specs.Refinement.{Trace, Does}
use Rattle.scripts_spec.specs.declared.Scripts.{Scripts}
use Rattle.scripts_spec.specs.Scripts.{Fate, Walked, DeviceStops, ReferenceStops, by_fate}

-- a script of L events: a list of L events below E, a trace or not
abbrev pub Script : ℕ → ℕ → List ℕ → Type 0
Script E L t = (length t ≡ L) × Below E t

-- both sheets walk t up to event i, which comes after s
pub record ComesTo (P Q : Sheet) (t s : List ℕ) (i : ℕ) : Type 0 where
  pub rest : List ℕ
  pub split : t ≡ s ++ (i ∷ rest)
  pub reference : Trace P s
  pub device : Trace Q s

-- what a fate means: t is a trace of both; or both come to an event that the device cannot do, whatever the reference
-- can; or both come to an event that the device can do and the reference cannot
abbrev pub Goes : Sheet → Sheet → List ℕ → Fate → Type 0
Goes P Q t Walked = Trace P t × Trace Q t
Goes P Q t DeviceStops = (s : List ℕ) × (i : ℕ) × ComesTo P Q t s i × (¬ Does Q s i)
Goes P Q t ReferenceStops = (s : List ℕ) × (i : ℕ) × ComesTo P Q t s i × Does Q s i × (¬ Does P s i)

-- the fate of a list of events from the pair (n, m) on, event by event; the device is asked first
unfoldable pub fate_from : Sheet → Sheet → ℕ → ℕ → List ℕ → Fate
fate_from P Q n m [] = Walked
fate_from P Q n m (i ∷ t) =
    cond (ltb (step Q m i) Q.n) (cond (ltb (step P n i) P.n) (fate_from P Q (step P n i) (step Q m i) t) ReferenceStops) DeviceStops

-- the number that an answer has for a fate
abbrev pub told : Scripts → Fate → ℕ
told a f = by_fate a.walked a.device a.reference f

-- one sheet has the E, the N and the successors of another
pub record SameSteps (s u : Sheet) : Type 0 where
  pub e : s.e ≡ u.e
  pub n : s.n ≡ u.n
  pub steps : (v i : ℕ) → step s v i ≡ step u v i
