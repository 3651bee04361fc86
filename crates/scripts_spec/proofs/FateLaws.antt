-- Nothing to believe: laws. What becomes of a list of events, walked event by event, is what the traces of the two
-- sheets say (`Goes`); each list has one fate, and no other.
use Rattle.std.specs.Prelude.{◌≡◌, ◌⊎◌, ◌↔◌}
use Rattle.std.proofs.Math.Path.{refl, ap}
use Rattle.std.proofs.Common.{sym, ◌∙◌, inl, inr, arith}
use mathlib.Core.List.{List, [], ◌∷◌, ◌++◌, append-nil}
use Prim.Native.Nat.{ℕ, ◌≤◌, ◌<◌}
use Rattle.std.proofs.Math.Seq.{append_snoc}
use borrow.Author.Tests.{lt-ltb, le-ltb}
use Rattle.base.proofs.Truth.{lt_or_ge}
use Rattle.walks.specs.Graph.{walk}
use Rattle.walks.proofs.Graph.{walk_snoc, ahead}
use Rattle.sheet_spec.specs.declared.Sheet.{Sheet}
use Rattle.sheet_spec.specs.Kept.{step, graph}
use Rattle.sheet_spec.specs.Sound.{Sound}
use Rattle.refinement_spec.specs.Refinement.{Trace, Does}
use Rattle.refinement_spec.proofs.RefinementLaws.{trace_means, trace_empty, does_means}
use Rattle.scripts_spec.specs.Scripts.{Fate, Walked, DeviceStops, ReferenceStops}
use Rattle.scripts_spec.specs.Fates.{ComesTo, Goes, fate_from}

-- one event, by what the two sheets can do
module _ (P Q : Sheet) (n m i : ℕ) (t : List ℕ) where
  fate_device : Q.n ≤ step Q m i → fate_from P Q n m (i ∷ t) ≡ DeviceStops
  unfolding fate_from
  fate_device h = rw (le-ltb (step Q m i) Q.n h)

  fate_reference : step Q m i < Q.n → P.n ≤ step P n i → fate_from P Q n m (i ∷ t) ≡ ReferenceStops
  unfolding fate_from
  fate_reference h k = rw (lt-ltb (step Q m i) Q.n h, le-ltb (step P n i) P.n k)

  fate_on : step Q m i < Q.n → step P n i < P.n → fate_from P Q n m (i ∷ t) ≡ fate_from P Q (step P n i) (step Q m i) t
  unfolding fate_from
  fate_on h k = rw (lt-ltb (step Q m i) Q.n h, lt-ltb (step P n i) P.n k)

module _ {P Q : Sheet} (op : Sound P) (oq : Sound Q) where
  -- where both walk s, the fate of s and more is that of what comes after s
  fate_after : (n m : ℕ) (s t : List ℕ) → walk (graph P) n s < P.n → walk (graph Q) m s < Q.n
      → fate_from P Q n m (s ++ t) ≡ fate_from P Q (walk (graph P) n s) (walk (graph Q) m s) t
  unfolding walk
  fate_after n m [] t h k = refl
  fate_after n m (i ∷ s) t h k =
      fate_on P Q n m i (s ++ t) (ahead oq.graphed (step Q m i) s k) (ahead op.graphed (step P n i) s h)
      ∙ fate_after (step P n i) (step Q m i) s t h k

-- after a trace the sheet does an event exactly if the event leads on from the node reached
does_step : {s : Sheet} → Sound s → (t : List ℕ) (i : ℕ) → Does s t i ↔ (step s (walk (graph s) 0 t) i < s.n)
does_step {s} o t i = (forth, back)
  where
    forth : Does s t i → step s (walk (graph s) 0 t) i < s.n
    forth d = rw (walk_snoc (graph s) 0 t i) at ((trace_means o (t ++ (i ∷ []))).0 ((does_means o t i).0 d))

    back : step s (walk (graph s) 0 t) i < s.n → Does s t i
    back h = (does_means o t i).1 ((trace_means o (t ++ (i ∷ []))).1 (rw (walk_snoc (graph s) 0 t i) h))

-- an event that the sheet does not do after a trace leads nowhere, and the other way round
undone_step : {s : Sheet} → Sound s → (t : List ℕ) (i : ℕ) → (¬ Does s t i) ↔ (s.n ≤ step s (walk (graph s) 0 t) i)
undone_step {s} o t i = (forth, back)
  where
    forth : ¬ Does s t i → s.n ≤ step s (walk (graph s) 0 t) i
    forth no-does = go (lt_or_ge (step s (walk (graph s) 0 t) i) s.n)
      where
        go : (step s (walk (graph s) 0 t) i < s.n) ⊎ (s.n ≤ step s (walk (graph s) 0 t) i) → s.n ≤ step s (walk (graph s) 0 t) i
        go (inl h) = absurd (no-does ((does_step o t i).1 h))
        go (inr h) = h

    back : s.n ≤ step s (walk (graph s) 0 t) i → ¬ Does s t i
    back h d = omega (arith, (does_step o t i).0 d)

module _ {P Q : Sheet} (op : Sound P) (oq : Sound Q) where
  -- a list that goes as f has the fate f
  goes_fate : (t : List ℕ) (f : Fate) → Goes P Q t f → fate_from P Q 0 0 t ≡ f
  unfolding fate_from
  goes_fate t Walked (x, y) =
      ap (fate_from P Q 0 0) (sym (append-nil t)) ∙ fate_after op oq 0 0 t [] ((trace_means op t).0 x) ((trace_means oq t).0 y)
  goes_fate t DeviceStops (s, i, c, no-does) =
      ap (fate_from P Q 0 0) c.split
      ∙ fate_after op oq 0 0 s (i ∷ c.rest) ((trace_means op s).0 c.reference) ((trace_means oq s).0 c.device)
      ∙ fate_device P Q _ _ i c.rest ((undone_step oq s i).0 no-does)
  goes_fate t ReferenceStops (s, i, c, does, no-does) =
      ap (fate_from P Q 0 0) c.split
      ∙ fate_after op oq 0 0 s (i ∷ c.rest) ((trace_means op s).0 c.reference) ((trace_means oq s).0 c.device)
      ∙ fate_reference P Q _ _ i c.rest ((does_step oq s i).0 does) ((undone_step op s i).0 no-does)

  -- a list whose front s both walk goes as its rest does from there
  fate_goes : (s t : List ℕ) → Trace P s → Trace Q s → Goes P Q (s ++ t) (fate_from P Q (walk (graph P) 0 s) (walk (graph Q) 0 s) t)
  unfolding fate_from
  fate_goes s [] x y = rw (append-nil s) (x, y)
  fate_goes s (i ∷ t) x y = go (lt_or_ge (step Q m i) Q.n) (lt_or_ge (step P n i) P.n) (fate_goes (s ++ (i ∷ [])) t)
    where
      n : ℕ
      n = walk (graph P) 0 s

      m : ℕ
      m = walk (graph Q) 0 s

      comes : ComesTo P Q (s ++ (i ∷ t)) s i
      comes = record { rest = t; split = refl; reference = x; device = y }

      go : (step Q m i < Q.n) ⊎ (Q.n ≤ step Q m i) → (step P n i < P.n) ⊎ (P.n ≤ step P n i)
          → (Trace P (s ++ (i ∷ [])) → Trace Q (s ++ (i ∷ []))
          → Goes P Q ((s ++ (i ∷ [])) ++ t) (fate_from P Q (walk (graph P) 0 (s ++ (i ∷ []))) (walk (graph Q) 0 (s ++ (i ∷ []))) t))
          → Goes P Q (s ++ (i ∷ t)) (fate_from P Q n m (i ∷ t))
      go (inr h) k on = rw (fate_device P Q n m i t h) (s, i, comes, (undone_step oq s i).1 h)
      go (inl h) (inr k) on = rw (fate_reference P Q n m i t h k) (s, i, comes, (does_step oq s i).1 h, (undone_step op s i).1 k)
      go (inl h) (inl k) on =
          rw (fate_on P Q n m i t h k)
          (rw (walk_snoc (graph P) 0 s i, walk_snoc (graph Q) 0 s i, append_snoc s i t) at
          (on ((does_means op s i).0 ((does_step op s i).1 k)) ((does_means oq s i).0 ((does_step oq s i).1 h))))

  -- the fate of a list, worked event by event, is what its traces say, and nothing else is
  pub fate_means : (t : List ℕ) (f : Fate) → (fate_from P Q 0 0 t ≡ f) ↔ Goes P Q t f
  unfolding walk
  fate_means t f = (λ e. rw e at (fate_goes [] t (trace_empty op) (trace_empty oq)), goes_fate t f)

  -- each list of events goes one way
  pub fate_some : (t : List ℕ) → (f : Fate) × Goes P Q t f
  fate_some t = (fate_from P Q 0 0 t, (fate_means t (fate_from P Q 0 0 t)).0 refl)

  -- and no list goes two ways
  pub fate_one : (t : List ℕ) (f g : Fate) → Goes P Q t f → Goes P Q t g → f ≡ g
  fate_one t f g x y = sym ((fate_means t f).1 x) ∙ (fate_means t g).1 y
