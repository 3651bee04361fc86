-- The events of a set, one after another.
use Rattle.std.specs.Prelude.{◌≡◌, refl, Bool, true, false, ◌++◌, ℕ, suc, ◌+◌}
use Rattle.std.proofs.Common.{sym, add-one, append-nil}
use Rattle.base.specs.Gather.{gather, select}
use Rattle.events.specs.Sets.{has}
use Rattle.events.specs.Lists.{events_in}
use Rattle.text_spec.specs.Lines.{event_list}
use Rattle.text.specs.declared.Page.{Page}
use Rattle.text.specs.Pages.{Puts}
use Rattle.text.proofs.PageLaws.{puts_none, puts_then}
use Rattle.text_spec.proofs.SetLaws.{members_more, members_same}
use Rattle.text.specs.Shapes.{member_words}

-- there is no event below 0
pub members_start : (x : ℕ) (p : Page) → Puts (event_list (events_in x 0)) p p
unfolding event_list events_in select gather
members_start x p = puts_none p

-- the events below i, and what is put of event i, are the events below i + 1
member_words_lem : (x i : ℕ) → event_list (events_in x i) ++ member_words x i ≡ event_list (events_in x (suc i))
unfolding member_words
member_words_lem x i = go (has x i) refl
  where
    go : (b : Bool) → has x i ≡ b → event_list (events_in x i) ++ member_words x i ≡ event_list (events_in x (suc i))
    go true h = rw h (sym (members_more x i h))
    go false h = rw (h, append-nil (event_list (events_in x i))) (sym (members_same x i h))

pub members_next : {p q r : Page} (x i : ℕ) → Puts (event_list (events_in x i)) p q → Puts (member_words x i) q r → Puts (event_list (events_in x (i + 1))) p r
members_next x i a b = rw (add-one i, ← member_words_lem x i) (puts_then a b)

-- for the loop over the events of a set
pub ruleset members_put = (members_start, members_next)
