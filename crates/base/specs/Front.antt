-- What a call leaves in a lent list: others written over its front, and its rest untouched.
use Rattle.std.specs.Prelude.{List, ◌++◌, ℕ, length, drop}

-- a list with others written over its front, and its rest untouched
abbrev pub at_front : List ℕ → List ℕ → List ℕ
at_front out ps = ps ++ drop (length ps) out
