-- What `bound_pair` writes to standard output (`bound_text`) and to standard error (`bound_error`), as functions of the
-- three words that it is started with: p, q and what is asked for.
use Rattle.std.specs.Prelude.{cond, List, [], ℕ, Option, Some, None, Result, replicate}
use Rattle.bound_spec.specs.declared.Lengths.{Lengths}
use Rattle.bound_spec.specs.Calls.{bound_of, reference_after, device_after}
use Rattle.text_spec.specs.Lines.{ascii}
use Rattle.words_spec.specs.Numbers.{number_in}
use Rattle.words_spec.specs.Same.{same_text}
use Rattle.bound_lines_spec.specs.declared.Asked.{Asked}
use Rattle.bound_lines_spec.specs.declared.Asked.TheVariants.{Lines, Reference, Device}
use Rattle.bound_lines_spec.specs.Lines.{bound_lines, reference_part, device_part, refusal_part}

-- the number of nodes that a word is: one to three digits, up to 32; every other word counts as 33, which is refused
-- with 30
unfoldable pub size_of : List ℕ → ℕ
size_of word = number_in 3 32 word

-- what a word asks for, if it is one that the program knows
unfoldable pub asked_of : List ℕ → Option Asked
asked_of word =
    cond (same_text word (ascii "lines")) (Some Lines)
    (cond (same_text word (ascii "reference")) (Some Reference)
    (cond (same_text word (ascii "device")) (Some Device) None))

-- the lists that the program lends: 229 and 167 places
unfoldable pub lent_reference : List ℕ
lent_reference = replicate 229 0

unfoldable pub lent_device : List ℕ
lent_device = replicate 167 0

-- the answer of the call with these lists
unfoldable pub answered : ℕ → ℕ → Result Lengths ℕ
answered p q = bound_of p q lent_reference lent_device

-- what is written for what is asked: lines, or just the bytes of a sheet
unfoldable pub told_of : ℕ → ℕ → Option Asked → List ℕ
told_of p q (Some Lines) = bound_lines p q (answered p q)
told_of p q (Some Reference) = reference_part (answered p q) (reference_after p q lent_reference lent_device)
told_of p q (Some Device) = device_part (answered p q) (device_after p q lent_reference lent_device)
told_of p q None = []

-- what is said on standard error: the refusal where bytes were asked for, so that no line is taken for a sheet; and
-- which words there are, where none of them was given
unfoldable pub said_of : ℕ → ℕ → Option Asked → List ℕ
said_of p q (Some Lines) = []
said_of p q (Some Reference) = refusal_part (answered p q)
said_of p q (Some Device) = refusal_part (answered p q)
said_of p q None = ascii "bound_pair: WORD is reference, device or lines\n"

-- standard output and standard error for three words
unfoldable pub bound_text : List ℕ → List ℕ → List ℕ → List ℕ
bound_text p q word = told_of (size_of p) (size_of q) (asked_of word)

unfoldable pub bound_error : List ℕ → List ℕ → List ℕ → List ℕ
bound_error p q word = said_of (size_of p) (size_of q) (asked_of word)
