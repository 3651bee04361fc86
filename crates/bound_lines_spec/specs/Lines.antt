-- What `bound_pair` writes for an answer of the call, as the codes of its characters or as bytes; p and q are the
-- numbers of nodes that were asked for.
use Rattle.std.specs.Prelude.{List, [], ◌++◌, ℕ, Result, Ok, Err, ◌-◌, ◌*◌, take}
use Rattle.bound_spec.specs.declared.Lengths.{Lengths}
use Rattle.text_spec.specs.Lines.{ascii, number_line, numbers_text}

-- the line of a sheet: whose it is, its nodes, its bytes
unfoldable pub bytes_line : List ℕ → ℕ → ℕ → List ℕ
bytes_line who n bytes = numbers_text who n (ascii " nodes ") bytes (ascii " bytes\n")

-- the line of a refused call
unfoldable pub refused_line : ℕ → List ℕ
refused_line k = number_line (ascii "bound refused ") k

-- the lines of an answer: those of the two sheets and the number of the first failing test, or the refusal
unfoldable pub bound_lines : ℕ → ℕ → Result Lengths ℕ → List ℕ
bound_lines p q (Ok l) =
    bytes_line (ascii "reference ") p l.reference ++ (bytes_line (ascii "device ") q l.device ++ number_line (ascii "first failing test ") (p * q - 1))
bound_lines p q (Err k) = refused_line k

-- the bytes of the reference, from the front of its list, and of the device; none of a refused call
unfoldable pub reference_part : Result Lengths ℕ → List ℕ → List ℕ
reference_part (Ok l) list = take l.reference list
reference_part (Err k) list = []

unfoldable pub device_part : Result Lengths ℕ → List ℕ → List ℕ
device_part (Ok l) list = take l.device list
device_part (Err k) list = []

-- the refusal of a call where bytes were asked for; nothing of a call that is not refused
unfoldable pub refusal_part : Result Lengths ℕ → List ℕ
refusal_part (Ok l) = []
refusal_part (Err k) = refused_line k
