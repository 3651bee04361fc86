-- Nothing to believe: laws. The events that are listed of a set are those in it, each once and in order.
use Rattle.std.specs.Prelude.{◌≡◌, true, false, [], ◌∷◌, ◌++◌, ℕ, suc, ◌≤◌, ◌<◌, length, get_or}
use Rattle.base.specs.Gather.{gather, select}
use Rattle.base.proofs.Gather.{gather_yes, gather_no, gather_short, gather_room, gather_has, gather_from, select_ascends}
use Rattle.events.specs.Sets.{has}
use Rattle.events.specs.Lists.{events_in}

-- one event more: it joins the list if it is in the set
pub events_more : (x n : ℕ) → has x n ≡ true → events_in x (suc n) ≡ events_in x n ++ (n ∷ [])
unfolding events_in select
events_more x n h = gather_yes (has x) (λ i. i) n h

pub events_same : (x n : ℕ) → has x n ≡ false → events_in x (suc n) ≡ events_in x n
unfolding events_in select
events_same x n h = gather_no (has x) (λ i. i) n h

-- there are no more of them than numbers below n
pub events_few : (x n : ℕ) → length (events_in x n) ≤ n
unfolding events_in select
events_few x n = gather_short (has x) (λ i. i) n

-- each event of the list is in the set, and below n
pub events_has : (x n j : ℕ) → j < length (events_in x n) → (has x (get_or (events_in x n) j 0) ≡ true) × (get_or (events_in x n) j 0 < n)
unfolding events_in select
events_has x n j l = let w = gather_from (has x) (λ i. i) n j l in rw w.4 (w.2, w.1)

-- each event of the set below n is in the list
pub events_all : (x n i : ℕ) → i < n → has x i ≡ true → (j : ℕ) × (j < length (events_in x n)) × (get_or (events_in x n) j 0 ≡ i)
unfolding events_in select
events_all x n i l h = (length (gather (has x) (λ i. i) i), gather_room (has x) (λ i. i) i n l h, gather_has (has x) (λ i. i) i n l h)

-- the events of the list ascend
pub events_ascend : (x n j k : ℕ) → j < k → k < length (events_in x n) → get_or (events_in x n) j 0 < get_or (events_in x n) k 0
unfolding events_in
events_ascend x n j k l h = select_ascends (has x) n j k l h
