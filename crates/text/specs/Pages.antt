-- What a piece of text adds to a page.
use Rattle.std.specs.Prelude.{◌≡◌, List, ℕ}
use Rattle.text_spec.specs.Adds.{Adds}
use Rattle.text.specs.declared.Page.{Page}

-- a text is put from the next place of a page on, in the same list; what has no room is left out
pub record Puts (text : List ℕ) (before after : Page) : Type 0 where
  pub adds : Adds text before.list.now before.at after.list.now after.at
  pub same_list : after.list.ghost_name ≡ before.list.ghost_name
