-- Nothing to believe: laws. The walk of a seed on a sheet that is not refused is a trace, each place holds what the
-- paper says, it is shorter than the wish only where there are no initials, a shorter wish gives its front, and no
-- other list of events is so.
use Rattle.std.specs.Prelude.{◌≡◌, ◌⊎◌, ◌≢◌, cond, eqb, get_or, take}
use Rattle.std.proofs.Math.Path.{refl, sym, ap}
use Rattle.std.proofs.Common.{◌∙◌, inl, inr, add-one, arith}
use mathlib.Core.List.{List, [], ◌∷◌}
use Prim.Native.Nat.{ℕ, zero, suc, ◌+◌, ◌%◌, ◌≤◌, ◌<◌}
use Rattle.std.proofs.Math.ListN.{length}
use borrow.Author.Tests.{lt-ltb, eq-eqb, ne_eqb}
use Rattle.base.proofs.CountedLaws.{counted_unique}
use Rattle.sheet_spec.specs.declared.Sheet.{Sheet}
use Rattle.sheet_spec.specs.Kept.{recoded, row, successor, Initial, step, Walk}
use Rattle.sheet_spec.specs.Refusals.{sheet_fault}
use Rattle.sheet_spec.proofs.RuleLaws.{Walk→}
use Rattle.sheet_spec.specs.Sound.{Sound}
use Rattle.sheet_spec.proofs.SoundLaws.{check_sound}
use Rattle.refinement_spec.specs.Refinement.{After, Trace}
use Rattle.refinement_spec.proofs.RefinementLaws.{after_unique}
use Rattle.load_spec.specs.Xorshift.{next_state, state_after}
use Rattle.load_spec.proofs.StateLaws.{after_next}
use Rattle.load_spec.specs.Walks.{initials_at, drawn, walk_from, walk_of}
use Rattle.load_spec.specs.Meaning.{Load}
use Rattle.load_spec.proofs.DrawLaws.{initials_counted, none_means, drawn_numbered, drawn_only, drawn_initial}

-- ---- one step

-- of a walk that goes on from node v, where the state is x: its first event, the node that this leads to, and the state
-- there
abbrev first_of : Sheet → ℕ → ℕ → ℕ
first_of s v x = drawn s v (next_state x)

abbrev onward : Sheet → ℕ → ℕ → ℕ
onward s v x = step s v (drawn s v (next_state x))

abbrev following : ℕ → ℕ
following x = next_state x

module _ (s : Sheet) (l v x : ℕ) where
  -- where there are no initials the walk ends
  pub from_ends : length (initials_at s v) ≡ 0 → walk_from s (suc l) v x ≡ []
  unfolding walk_from
  from_ends z = rw (eq-eqb (length (initials_at s v)) 0 z)

  -- else the event that the next state draws comes first, and the walk goes on from the node that it leads to
  pub from_goes : length (initials_at s v) ≢ 0 → walk_from s (suc l) v x ≡ first_of s v x ∷ walk_from s l (onward s v x) (following x)
  unfolding walk_from
  from_goes n = rw (ne_eqb (length (initials_at s v)) 0 n)

-- a node has no initials, or some
pub none_or_some : (n : ℕ) → (n ≡ 0) ⊎ (n ≢ 0)
none_or_some zero = inl refl
none_or_some (suc n) = inr (λ e. omega arith)

-- ---- a walk from any node on

-- it has at most the wished length
from_short : (s : Sheet) (l v x : ℕ) → length (walk_from s l v x) ≤ l
unfolding walk_from
from_short s zero v x = omega arith
from_short s (suc l) v x = go (none_or_some (length (initials_at s v))) (from_short s l _ _)
  where
    go : (length (initials_at s v) ≡ 0) ⊎ (length (initials_at s v) ≢ 0)
        → length (walk_from s l (onward s v x) (following x)) ≤ l → length (walk_from s (suc l) v x) ≤ suc l
    go (inl z) ih = rw (from_ends s l v x z) (omega arith)
    go (inr n) ih = rw (from_goes s l v x n) (omega arith)

-- a shorter wish gives the front
from_front : (s : Sheet) (l m v x : ℕ) → l ≤ m → walk_from s l v x ≡ take l (walk_from s m v x)
unfolding walk_from
from_front s zero m v x h = refl
from_front s (suc l) zero v x h = absurd (omega arith)
from_front s (suc l) (suc m) v x h = go (none_or_some (length (initials_at s v))) (from_front s l m _ _ (omega arith))
  where
    go : (length (initials_at s v) ≡ 0) ⊎ (length (initials_at s v) ≢ 0)
        → walk_from s l (onward s v x) (following x) ≡ take l (walk_from s m (onward s v x) (following x))
        → walk_from s (suc l) v x ≡ take (suc l) (walk_from s (suc m) v x)
    go (inl z) ih = rw (from_ends s l v x z, from_ends s m v x z)
    go (inr n) ih = rw (from_goes s l v x n, from_goes s m v x n) (ap (λ (t : List ℕ). first_of s v x ∷ t) ih)

-- the codes of the sheet play no part
from_recoded : (s : Sheet) (codes : List ℕ) (l v x : ℕ) → walk_from (recoded s codes) l v x ≡ walk_from s l v x
unfolding walk_from drawn initials_at step
from_recoded s codes zero v x = refl
from_recoded s codes (suc l) v x =
    ap (λ (t : List ℕ). cond (eqb (length (initials_at s v)) 0) [] (first_of s v x ∷ t)) (from_recoded s codes l (onward s v x) (following x))

module _ (s : Sheet) (o : Sound s) where
  few : s.e ≤ 12
  few = o.ranges.e_high

  -- at a node an event below E leads to its successor
  pub step_is : (v i : ℕ) → v < s.n → i < s.e → step s v i ≡ successor (row s v) i
  unfolding step
  step_is v i l h = rw (lt-ltb v s.n l, lt-ltb i s.e h)

  -- the event that is drawn leads to a node
  pub drawn_leads : (v x : ℕ) → v < s.n → length (initials_at s v) ≢ 0 → step s v (drawn s v x) < s.n
  drawn_leads v x l n =
      let c = drawn_initial s few v x (omega (arith, n)) in
      rw (step_is v (drawn s v x) l c.0) (go c.1 (o.successors v (drawn s v x) l c.0))
    where
      go : {y : ℕ} → y ≢ 255 → (y ≡ 255) ⊎ (y < s.n) → y < s.n
      go k (inl e) = absurd (k e)
      go k (inr h) = h

  -- a list of events with the one that is drawn at its front leads where the rest leads from the next node on
  walk_goes : (v x : ℕ) (t : List ℕ) (w : ℕ) → v < s.n → length (initials_at s v) ≢ 0 → Walk s (step s v (drawn s v x)) t w → Walk s v (drawn s v x ∷ t) w
  unfolding Walk
  walk_goes v x t w l n h =
      let c = drawn_initial s few v x (omega (arith, n)) in
      (l, c.0, rw (step_is v (drawn s v x) l c.0) at h)

  walk_rest : (v i : ℕ) (t : List ℕ) (w : ℕ) → Walk s v (i ∷ t) w → (v < s.n) × (i < s.e) × Walk s (step s v i) t w
  unfolding Walk
  walk_rest v i t w (l, h, k) = (l, h, rw (step_is v i l h) k)

  -- it leads to a node; and if it is shorter than the wish, that has no initials
  abbrev Ends : ℕ → ℕ → List ℕ → Type 0
  Ends l v t = (w : ℕ) × Walk s v t w × (w < s.n) × (length t < l → length (initials_at s w) ≡ 0)

  from_leads : (l v x : ℕ) → v < s.n → Ends l v (walk_from s l v x)
  unfolding walk_from
  from_leads zero v x h = (v, unfold Walk in refl, h, λ k. absurd (omega arith))
  from_leads (suc l) v x h = go (none_or_some (length (initials_at s v))) (from_leads l (onward s v x) (following x))
    where
      go : (length (initials_at s v) ≡ 0) ⊎ (length (initials_at s v) ≢ 0)
          → (onward s v x < s.n → Ends l (onward s v x) (walk_from s l (onward s v x) (following x)))
          → Ends (suc l) v (walk_from s (suc l) v x)
      go (inl z) ih = rw (from_ends s l v x z) (v, unfold Walk in refl, h, λ k. z)
      go (inr n) ih =
          let w = ih (drawn_leads v _ h n) in
          rw (from_goes s l v x n) (w.0, walk_goes v _ _ w.0 h n w.1, w.2, λ k. w.3 (omega arith))

  -- at each place is the event that the state draws there at the node reached, which has initials
  abbrev Takes : ℕ → ℕ → List ℕ → Type 0
  Takes v x t = (j w : ℕ) → j < length t → Walk s v (take j t) w → w < s.n → (length (initials_at s w) ≢ 0) × (get_or t j 0 ≡ drawn s w (state_after x (suc j)))

  from_takes : (l v x : ℕ) → Takes v x (walk_from s l v x)
  unfolding walk_from Walk state_after
  from_takes zero v x = λ j w h. absurd (omega arith)
  from_takes (suc l) v x = go (none_or_some (length (initials_at s v))) (from_takes l (onward s v x) (following x))
    where
      go : (length (initials_at s v) ≡ 0) ⊎ (length (initials_at s v) ≢ 0)
          → Takes (onward s v x) (following x) (walk_from s l (onward s v x) (following x))
          → Takes v x (walk_from s (suc l) v x)
      go (inl z) ih = rw (from_ends s l v x z) (λ j w h. absurd (omega arith))
      go (inr n) ih = rw (from_goes s l v x n) place
        where
          place : Takes v x (first_of s v x ∷ walk_from s l (onward s v x) (following x))
          place zero w h k d = rw (← k) (n, refl)
          place (suc j) w h k d =
              let r = walk_rest v (first_of s v x) (take j (walk_from s l (onward s v x) (following x))) w k in
              let p = ih j w (omega arith) r.2 d in
              (p.0, p.1 ∙ ap (drawn s w) (after_next x (suc j)))

  -- a list of events that is so is the walk
  from_only : (l v x : ℕ) (t : List ℕ) → v < s.n → length t ≤ l → ((w : ℕ) → Walk s v t w → length t < l → length (initials_at s w) ≡ 0)
      → ((w : ℕ) × Walk s v t w) → Takes v x t → t ≡ walk_from s l v x
  unfolding walk_from
  from_only zero v x [] h f e w k = refl
  from_only zero v x (i ∷ t) h f e w k = absurd (omega arith)
  from_only (suc l) v x [] h f e w k = sym (from_ends s l v x (e v (unfold Walk in refl) (omega arith)))
  from_only (suc l) v x (i ∷ t) h f e (w, d) k =
      let r = walk_rest v i t w d in
      let p = k 0 v (omega arith) (unfold Walk in refl) h in
      go p.0 (unfold state_after in p.1) r.2 (λ u. from_only l (onward s v x) (following x) t u (omega arith))
    where
      go : length (initials_at s v) ≢ 0 → i ≡ first_of s v x → Walk s (step s v i) t w
          → (onward s v x < s.n → ((u : ℕ) → Walk s (onward s v x) t u → length t < l → length (initials_at s u) ≡ 0)
          → ((u : ℕ) × Walk s (onward s v x) t u) → Takes (onward s v x) (following x) t
          → t ≡ walk_from s l (onward s v x) (following x))
          → i ∷ t ≡ walk_from s (suc l) v x
      go n q b ih =
          let same = ih (drawn_leads v _ h n) (λ u a c. e u (rw (← q) at (walk_goes v _ t u h n a)) (omega arith)) (w, rw q at b) later in
          rw (from_goes s l v x n, q) (ap (λ (y : List ℕ). first_of s v x ∷ y) same)
        where
          later : Takes (onward s v x) (following x) t
          later j u a c g =
              let p = k (suc j) u (omega arith) (rw (← q) at (walk_goes v _ (take j t) u h n c)) g in
              (p.0, p.1 ∙ ap (drawn s u) (sym (after_next x (suc j))))

-- ---- the walk of a seed

-- it has at most the wished length
pub walk_short : (s : Sheet) (seed wish : ℕ) → length (walk_of s seed wish) ≤ wish
unfolding walk_of
walk_short s seed wish = from_short s wish 0 seed

-- a shorter wish gives the front of a longer one
pub walk_front : (s : Sheet) (seed wish more : ℕ) → wish ≤ more → walk_of s seed wish ≡ take wish (walk_of s seed more)
unfolding walk_of
walk_front s seed wish more h = from_front s wish more 0 seed h

-- sheets alike but for codes have the same walk
pub recoded_walk : (s : Sheet) (codes : List ℕ) (seed wish : ℕ) → walk_of (recoded s codes) seed wish ≡ walk_of s seed wish
unfolding walk_of
recoded_walk s codes seed wish = from_recoded s codes _ _ seed

module _ (s : Sheet) (h : sheet_fault s ≡ 0) (seed wish : ℕ) where
  sound : Sound s
  sound = check_sound s h

  -- every walk is a trace
  pub walk_trace : Trace s (walk_of s seed wish)
  unfolding walk_of
  walk_trace = let w = from_leads s sound wish 0 seed sound.ranges.n_low in (w.0, (w.1, w.2))

  -- it is shorter than the wish only where the node reached has no initials
  pub walk_early : length (walk_of s seed wish) < wish → (v : ℕ) → After s (walk_of s seed wish) v → (i : ℕ) → ¬ Initial s.e (row s v) i
  unfolding walk_of
  walk_early l v a =
      let w = from_leads s sound wish 0 seed sound.ranges.n_low in
      let e : w.0 ≡ v = after_unique sound (walk_from s wish 0 seed) w.0 v (w.1, w.2) a in
      (none_means s (few s sound) v).0 (rw e at (w.3 l))

  -- place j holds the event that the state after j + 1 steps from the seed draws at the node reached by the events
  -- before it
  walk_takes : (j v : ℕ) → j < length (walk_of s seed wish) → After s (take j (walk_of s seed wish)) v → get_or (walk_of s seed wish) j 0 ≡ drawn s v (state_after seed (j + 1))
  unfolding walk_of
  walk_takes j v l a = rw (add-one j) (from_takes s sound wish 0 seed j v l a.0 a.1).1

  -- that is, of the initials of that node, ascending, number (that state) remainder how many they are, counted from 0
  pub walk_at : (j v : ℕ) → j < length (walk_of s seed wish) → After s (take j (walk_of s seed wish)) v
      → get_or (walk_of s seed wish) j 0 ≡ get_or (initials_at s v) (state_after seed (j + 1) % length (initials_at s v)) 0
  unfolding drawn
  walk_at j v l a = walk_takes j v l a

  -- at each place the node reached by the events before it has initials
  walk_some : (j v : ℕ) → j < length (walk_of s seed wish) → After s (take j (walk_of s seed wish)) v → length (initials_at s v) ≢ 0
  unfolding walk_of
  walk_some j v l a = (from_takes s sound wish 0 seed j v l a.0 a.1).0

  -- the walk is what the paper says
  pub walk_is : Load s seed wish (walk_of s seed wish)
  walk_is = record {
    trace = walk_trace;
    few = walk_short s seed wish;
    early = λ l i d. walk_early l d.0 d.1 i d.2;
    each = λ j v m l a c.
        let n = walk_some j v l a in
        let e : m ≡ length (initials_at s v) = counted_unique c (initials_counted s (few s sound) v) in
        rw (walk_takes j v l a) (drawn_numbered s (few s sound) v (state_after seed (j + 1)) m c (omega (arith, e, n)));
  }

  -- and nothing else is
  pub walk_only : (t : List ℕ) → Load s seed wish t → t ≡ walk_of s seed wish
  unfolding walk_of
  walk_only t p =
      from_only s sound wish 0 seed t sound.ranges.n_low p.few early (p.trace.0, p.trace.1.0) takes
    where
      early : (w : ℕ) → Walk s 0 t w → length t < wish → length (initials_at s w) ≡ 0
      early w a l =
          let e : p.trace.0 ≡ w = unique w a in
          (none_means s (few s sound) w).1 (λ i n. p.early l i (w, (a, rw e at p.trace.1.1), n))
        where
          unique : (w : ℕ) → Walk s 0 t w → p.trace.0 ≡ w
          unique w a = sym (Walk→ s 0 t p.trace.0 p.trace.1.0) ∙ Walk→ s 0 t w a

      takes : Takes s sound 0 seed t
      takes j w l a d =
          let c = initials_counted s (few s sound) w in
          let n = p.each j w (length (initials_at s w)) l (a, d) c in (
            (λ z. (none_means s (few s sound) w).0 z (get_or t j 0) n.initial),
            rw (← add-one j) (drawn_only s (few s sound) w (state_after seed (j + 1)) (length (initials_at s w)) (get_or t j 0) c n),
          )
