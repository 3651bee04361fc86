-- How much of an input counts (01, "The program `compare`").
use Rattle.std.specs.Prelude.{List, ℕ, take}

-- what counts of an input: no more than 4,096 bytes are read; later bytes count as absent
unfoldable pub cut_input : List ℕ → List ℕ
cut_input input = take 4096 input
