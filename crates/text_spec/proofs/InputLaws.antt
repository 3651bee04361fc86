-- Nothing to believe: laws. How much of an input counts: at most 4,096 bytes, all of them if there are no more; later
-- ones play no part.
use Rattle.std.specs.Prelude.{◌≡◌, List, ◌++◌, ℕ, ◌≤◌, length}
use Rattle.std.proofs.Common.{arith, length-take, take_all}
use Rattle.std.proofs.lemmas.List.{take-append-le}
use Rattle.text_spec.specs.Input.{cut_input}

-- at most 4,096 bytes are read
pub cut_length : (input : List ℕ) → length (cut_input input) ≤ 4096
unfolding cut_input
cut_length input = omega (arith, length-take 4096 input)

-- all bytes of an input are read, if there are no more than 4,096
pub cut_short : (input : List ℕ) → length input ≤ 4096 → cut_input input ≡ input
unfolding cut_input
cut_short input h = take_all 4096 input h

-- what stands behind 4,096 bytes plays no part
pub cut_more : (input more : List ℕ) → length input ≡ 4096 → cut_input (input ++ more) ≡ cut_input input
unfolding cut_input
cut_more input more h = take-append-le 4096 input more (omega arith)
