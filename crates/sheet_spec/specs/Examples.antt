-- Nothing to believe: the sheets of 01's and 02's cases, as bytes. Every crate with cases takes them from here.
use Rattle.std.specs.Prelude.{List, [], ◌∷◌, ℕ}
use Rattle.sheet_spec.specs.declared.Sheet.{Sheet}
use Rattle.sheet_spec.specs.Reading.{read_sheet}

-- the reference of 01's example
unfoldable pub example_reference : List ℕ
example_reference =
    0 ∷ 0 ∷ 0 ∷ 15 ∷ 1 ∷ 2 ∷ 2 ∷
    1 ∷ 1 ∷ 2 ∷ 0 ∷ 1 ∷ 0 ∷ 2 ∷
    0 ∷ 0 ∷ 1 ∷ 0 ∷ 3 ∷ []

-- the device of 01's example
unfoldable pub example_device : List ℕ
example_device =
    0 ∷ 0 ∷ 0 ∷ 18 ∷ 1 ∷ 2 ∷ 3 ∷
    1 ∷ 1 ∷ 1 ∷ 0 ∷ 3 ∷
    2 ∷ 2 ∷ 1 ∷ 0 ∷ 3 ∷
    0 ∷ 255 ∷ 1 ∷ 0 ∷ 1 ∷ []

-- the reference of 01's example in version 2, with the codes 257 and 258
unfoldable pub coded_reference : List ℕ
coded_reference =
    0 ∷ 0 ∷ 0 ∷ 19 ∷ 2 ∷ 2 ∷ 2 ∷ 1 ∷ 1 ∷ 1 ∷ 2 ∷
    1 ∷ 1 ∷ 2 ∷ 0 ∷ 1 ∷ 0 ∷ 2 ∷
    0 ∷ 0 ∷ 1 ∷ 0 ∷ 3 ∷ []

-- the device of 01's example in version 2, with the codes 1 and 2, which a version 1 sheet counts as having
unfoldable pub coded_device : List ℕ
coded_device =
    0 ∷ 0 ∷ 0 ∷ 22 ∷ 2 ∷ 2 ∷ 3 ∷ 0 ∷ 1 ∷ 0 ∷ 2 ∷
    1 ∷ 1 ∷ 1 ∷ 0 ∷ 3 ∷
    2 ∷ 2 ∷ 1 ∷ 0 ∷ 3 ∷
    0 ∷ 255 ∷ 1 ∷ 0 ∷ 1 ∷ []

-- one node with two events, of which it loops on only event 0
unfoldable pub only_zero : List ℕ
only_zero = 0 ∷ 0 ∷ 0 ∷ 8 ∷ 1 ∷ 2 ∷ 1 ∷ 0 ∷ 255 ∷ 1 ∷ 0 ∷ 1 ∷ []

-- one node with two events, of which it loops on only event 1
unfoldable pub only_one : List ℕ
only_one = 0 ∷ 0 ∷ 0 ∷ 8 ∷ 1 ∷ 2 ∷ 1 ∷ 255 ∷ 0 ∷ 1 ∷ 0 ∷ 2 ∷ []

-- one node with one event, looping on it with acceptance 0
unfoldable pub may_loop : List ℕ
may_loop = 0 ∷ 0 ∷ 0 ∷ 7 ∷ 1 ∷ 1 ∷ 1 ∷ 0 ∷ 1 ∷ 0 ∷ 0 ∷ []

-- one node with one event, looping on it with acceptance 1
unfoldable pub must_loop : List ℕ
must_loop = 0 ∷ 0 ∷ 0 ∷ 7 ∷ 1 ∷ 1 ∷ 1 ∷ 0 ∷ 1 ∷ 0 ∷ 1 ∷ []

-- one node with one event, on which it has no successor, with acceptance 0
unfoldable pub stopped : List ℕ
stopped = 0 ∷ 0 ∷ 0 ∷ 7 ∷ 1 ∷ 1 ∷ 1 ∷ 255 ∷ 1 ∷ 0 ∷ 0 ∷ []

-- two nodes with two events: the first goes on with event 0 and stays with event 1, the second has no successor
unfoldable pub ending : List ℕ
ending =
    0 ∷ 0 ∷ 0 ∷ 13 ∷ 1 ∷ 2 ∷ 2 ∷
    1 ∷ 0 ∷ 1 ∷ 0 ∷ 3 ∷
    255 ∷ 255 ∷ 1 ∷ 0 ∷ 0 ∷ []

-- the sheet that is read of bytes, all 0 if they are refused
unfoldable pub sheet : List ℕ → Sheet
sheet b = (read_sheet b).sheet
