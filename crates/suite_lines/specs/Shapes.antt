-- Nothing to believe: what an inner function needs.
use Rattle.std.specs.Prelude.{List, ℕ, ◌≤◌, length, Result, Ok, Err}

-- a list has a place for each test that was judged
unfoldable pub Room : Result ℕ ℕ → List ℕ → Type 0
Room (Ok n) verdicts = n ≤ length verdicts
Room (Err k) verdicts = Unit {0}
