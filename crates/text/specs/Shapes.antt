-- Nothing to believe: the shape of an inner function.
use Rattle.std.specs.Prelude.{cond, List, [], ◌++◌, ℕ}
use Rattle.events.specs.Sets.{has}
use Rattle.text_spec.specs.Lines.{ascii, decimal}

-- event i with a blank before it, if it is in the set
unfoldable pub member_words : ℕ → ℕ → List ℕ
member_words x i = cond (has x i) (ascii " " ++ decimal i) []
