-- A set of events as it is printed: its number and its events.
use Rattle.std.specs.Prelude.{List, ◌++◌, ℕ}
use Rattle.events.specs.Lists.{events_in}
use Rattle.text_spec.specs.Lines.{ascii, decimal, event_list}

-- the events of a set, a blank before each; a set has 16 bits
unfoldable pub members : ℕ → List ℕ
members x = event_list (events_in x 16)

-- a set as `x ( e e )`: the number, and its events
unfoldable pub set_words : ℕ → List ℕ
set_words x = decimal x ++ (ascii " (" ++ (members x ++ ascii " )"))
