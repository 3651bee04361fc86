-- Nothing to believe: laws. What one event more adds to a set as it is printed.
use Rattle.std.specs.Prelude.{◌≡◌, true, false, ◌++◌, ℕ, suc}
use Rattle.std.proofs.Common.{ap, ◌∙◌}
use Rattle.events.specs.Sets.{has}
use Rattle.events.specs.Lists.{events_in}
use Rattle.events.proofs.ListLaws.{events_more, events_same}
use Rattle.text_spec.specs.Lines.{ascii, decimal, event_list}
use Rattle.text_spec.proofs.AddsLaws.{events_snoc}

-- what one event more adds to the printed list
pub members_more : (x n : ℕ) → has x n ≡ true → event_list (events_in x (suc n)) ≡ event_list (events_in x n) ++ (ascii " " ++ decimal n)
members_more x n h = ap event_list (events_more x n h) ∙ events_snoc (events_in x n) n

pub members_same : (x n : ℕ) → has x n ≡ false → event_list (events_in x (suc n)) ≡ event_list (events_in x n)
members_same x n h = ap event_list (events_same x n h)
