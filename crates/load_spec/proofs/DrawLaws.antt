-- Nothing to believe: laws. Which event a state draws at a node: of its m initials, ascending, number (x remainder m),
-- counted from 0.
use Rattle.std.specs.Prelude.{◌≡◌, ◌⊎◌, ◌↔◌, ℕ, ◌%◌, ◌≤◌, ◌<◌, get_or}
use Rattle.std.proofs.Common.{sym, inl, inr, mod-lt, arith}
use Rattle.std.proofs.Math.ListN.{length}
use Rattle.base.proofs.Truth.{lt_or_ge}
use Rattle.base.specs.Counted.{Counted}
use Rattle.base.proofs.CountedLaws.{counted_unique, counted_some}
use Rattle.events.proofs.Sets.{has→, has←}
use Rattle.events.proofs.ListLaws.{events_has, events_all, events_ascend}
use Rattle.sheet_spec.specs.declared.Sheet.{Sheet}
use Rattle.sheet_spec.specs.Kept.{row, initials, Initial}
use Rattle.sheet_spec.proofs.RuleLaws.{initials→, initials←}
use Rattle.load_spec.specs.Walks.{initials_at, drawn}
use Rattle.load_spec.specs.Meaning.{Numbered}

module _ (s : Sheet) (few : s.e ≤ 12) (v : ℕ) where
  -- what stands in the list is an initial, and below what stands after it
  pub at_initial : (r : ℕ) → r < length (initials_at s v) → Initial s.e (row s v) (get_or (initials_at s v) r 0)
  unfolding initials_at
  at_initial r l = initials→ s.e (row s v) few _ (has→ _ _ (events_has (initials s.e (row s v)) 12 r l).0)

  pub at_ascends : (r q : ℕ) → r < q → q < length (initials_at s v) → get_or (initials_at s v) r 0 < get_or (initials_at s v) q 0
  unfolding initials_at
  at_ascends r q l h = events_ascend (initials s.e (row s v)) 12 r q l h

  -- every initial stands in it
  pub initial_at : (i : ℕ) → Initial s.e (row s v) i → (r : ℕ) × (r < length (initials_at s v)) × (get_or (initials_at s v) r 0 ≡ i)
  unfolding initials_at
  initial_at i h = events_all (initials s.e (row s v)) 12 i (omega (arith, h.0)) (has← _ i (initials← s.e (row s v) few i h))

  -- its length is how many initials the node has
  pub initials_counted : Counted (Initial s.e (row s v)) (length (initials_at s v))
  initials_counted = (
    (λ r. get_or (initials_at s v) r 0),
    record {
      holds = at_initial;
      differ = λ r q l h e. omega (arith, at_ascends r q l h, e);
      every = initial_at;
    },
  )

  -- place r of it has number r of the initials
  pub at_numbered : (r : ℕ) → r < length (initials_at s v) → Numbered s v r (get_or (initials_at s v) r 0)
  at_numbered r l = record {
    initial = at_initial r l;
    lower = (
      (λ q. get_or (initials_at s v) q 0),
      record {
        holds = λ q h. (at_ascends q r h l, at_initial q (omega arith));
        differ = λ p q h k e. omega (arith, at_ascends p q h (omega arith), e);
        every = λ i h. let w = initial_at i h.1 in (w.0, below w.0 w.1 (omega (arith, h.0, w.2)) (lt_or_ge w.0 r), w.2);
      },
    );
  }
    where
      below : (q : ℕ) → q < length (initials_at s v) → get_or (initials_at s v) q 0 < get_or (initials_at s v) r 0 → (q < r) ⊎ (r ≤ q) → q < r
      below q h d (inl k) = k
      below q h d (inr k) = go (lt_or_ge r q)
        where
          go : (r < q) ⊎ (q ≤ r) → q < r
          go (inl j) = absurd (omega (arith, at_ascends r q j h))
          go (inr j) = let e : q ≡ r = omega arith in absurd (omega (arith, rw e at d))

  -- an event is number r of the initials exactly if place r of the list has it
  pub numbered_means : (r i : ℕ) → Numbered s v r i ↔ ((r < length (initials_at s v)) × (get_or (initials_at s v) r 0 ≡ i))
  numbered_means r i = (to, λ w. rw w.1 at (at_numbered r w.0))
    where
      to : Numbered s v r i → (r < length (initials_at s v)) × (get_or (initials_at s v) r 0 ≡ i)
      to n =
          let w = initial_at i n.initial in
          let m : Numbered s v w.0 i = rw w.2 at (at_numbered w.0 w.1) in
          let e : r ≡ w.0 = counted_unique n.lower m.lower in
          rw e (w.1, w.2)

  -- a node has no initials exactly if the list is empty
  pub none_means : (length (initials_at s v) ≡ 0) ↔ ((i : ℕ) → ¬ Initial s.e (row s v) i)
  none_means = (λ z i h. omega (arith, z, (counted_some initials_counted).1 (i, h)), λ n. go (lt_or_ge 0 (length (initials_at s v))) n)
    where
      go : (0 < length (initials_at s v)) ⊎ (length (initials_at s v) ≤ 0) → ((i : ℕ) → ¬ Initial s.e (row s v) i) → length (initials_at s v) ≡ 0
      go (inl l) n = absurd (n _ (at_initial 0 l))
      go (inr l) n = omega arith

  -- where there are m initials, some, the event that a state x draws is number (x remainder m) of them
  pub drawn_numbered : (x m : ℕ) → Counted (Initial s.e (row s v)) m → 0 < m → Numbered s v (x % m) (drawn s v x)
  unfolding drawn
  drawn_numbered x m c l = let e : m ≡ length (initials_at s v) = counted_unique c initials_counted in rw e (at_numbered (x % length (initials_at s v)) (mod-lt x (rw (← e) l)))

  -- and no other event is
  pub drawn_only : (x m i : ℕ) → Counted (Initial s.e (row s v)) m → Numbered s v (x % m) i → i ≡ drawn s v x
  unfolding drawn
  drawn_only x m i c n = let e : m ≡ length (initials_at s v) = counted_unique c initials_counted in rw (← e) (sym ((numbered_means (x % m) i).0 n).1)

  pub drawn_initial : (x : ℕ) → 0 < length (initials_at s v) → Initial s.e (row s v) (drawn s v x)
  drawn_initial x l = (drawn_numbered x (length (initials_at s v)) initials_counted l).initial
