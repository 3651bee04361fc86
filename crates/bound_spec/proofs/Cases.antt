-- Nothing to believe: cases. The bytes of the pair of 1 and 1, which is 01's pair of loops, those of 2 and 2 and of
-- 3 and 4, and the longest pair.
use Rattle.std.specs.Prelude.{◌≡◌, refl, [], ◌∷◌, Ok, replicate}
use Rattle.base.specs.Table.{up_to}
use Rattle.sheet_spec.specs.Encoding.{two, four, encode_words, encode_row, encode_rows, encode_codes, encode_body, encode}
use Rattle.sheet_spec.specs.Examples.{only_zero, only_one}
use Rattle.bound_spec.specs.Sheets.{reference_row, device_row, bound_reference, bound_device, reference_bytes, device_bytes}
use Rattle.bound_spec.specs.Calls.{sizes_ok, room_ok, bound_fault, bound_of}

-- p = q = 1: one node that does only 0, and one that does only 1
one_one : (reference_bytes 1 ≡ only_zero) × (device_bytes 1 ≡ only_one)
unfolding bound_reference bound_device reference_row device_row up_to encode encode_body encode_codes encode_rows encode_row encode_words four two only_zero only_one
one_one = (refl, refl)

-- p = 2: node 0 stays and climbs, node 1 stays; q = 2: node 0 climbs on 0, node 1 returns on 1
two_two : (reference_bytes 2 ≡ 0 ∷ 0 ∷ 0 ∷ 15 ∷ 1 ∷ 2 ∷ 2 ∷ 0 ∷ 1 ∷ 2 ∷ 0 ∷ 1 ∷ 0 ∷ 2 ∷ 1 ∷ 255 ∷ 1 ∷ 0 ∷ 1 ∷ [])
    × (device_bytes 2 ≡ 0 ∷ 0 ∷ 0 ∷ 13 ∷ 1 ∷ 2 ∷ 2 ∷ 1 ∷ 255 ∷ 1 ∷ 0 ∷ 1 ∷ 255 ∷ 0 ∷ 1 ∷ 0 ∷ 2 ∷ [])
unfolding bound_reference bound_device reference_row device_row up_to encode encode_body encode_codes encode_rows encode_row encode_words four two
two_two = (refl, refl)

-- p = 3: nodes 0 and 1 stay and climb, node 2 stays
three : reference_bytes 3 ≡ 0 ∷ 0 ∷ 0 ∷ 22 ∷ 1 ∷ 2 ∷ 3 ∷ 0 ∷ 1 ∷ 2 ∷ 0 ∷ 1 ∷ 0 ∷ 2 ∷ 1 ∷ 2 ∷ 2 ∷ 0 ∷ 1 ∷ 0 ∷ 2 ∷ 2 ∷ 255 ∷ 1 ∷ 0 ∷ 1 ∷ []
unfolding bound_reference reference_row up_to encode encode_body encode_codes encode_rows encode_row encode_words four two
three = refl

-- q = 4: nodes 0 to 2 climb on 0, node 3 returns on 1
four_nodes : device_bytes 4 ≡ 0 ∷ 0 ∷ 0 ∷ 23 ∷ 1 ∷ 2 ∷ 4 ∷ 1 ∷ 255 ∷ 1 ∷ 0 ∷ 1 ∷ 2 ∷ 255 ∷ 1 ∷ 0 ∷ 1 ∷ 3 ∷ 255 ∷ 1 ∷ 0 ∷ 1 ∷ 255 ∷ 0 ∷ 1 ∷ 0 ∷ 2 ∷ []
unfolding bound_device device_row up_to encode encode_body encode_codes encode_rows encode_row encode_words four two
four_nodes = refl

-- the longest: 229 and 167 bytes, in lists of just that room
longest : bound_of 32 32 (replicate 229 0) (replicate 167 0) ≡ Ok (record { reference = 229; device = 167 })
unfolding bound_of bound_fault sizes_ok room_ok bound_reference bound_device reference_row device_row up_to encode encode_body encode_codes encode_rows encode_row encode_words four two
longest = refl
