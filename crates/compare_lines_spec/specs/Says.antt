-- Nothing to believe: words for laws alone. Which text an input gets from `compare`, in words of bytes and sheets:
-- which part is refused, and by what number of reading (its laws say when), else whether the device refines the
-- reference, and if not, what demand 3 says of the violation. No list is lent in it. SaysLaws says that the program's
-- text is so described, and no other. No contract uses it.
use Rattle.std.specs.Prelude.{◌≡◌, ◌≢◌, false, List, ◌++◌, ℕ, take, Result, Ok}
use Rattle.sheet_spec.specs.declared.Sheet.{Sheet}
use Rattle.sheet_spec.specs.Refusals.{Agree, CodesDiffer}
use Rattle.sheet_spec.specs.Reading.{read_sheet}
use Rattle.refinement_spec.specs.Refinement.{RefinesIn}
use Rattle.comparison_spec.specs.declared.Outcome.{Outcome}
use Rattle.comparison_spec.specs.declared.Outcome.TheVariants.{Stray, Refusal}
use Rattle.comparison_spec.specs.Meaning.{ReachedEver, Number}
use Rattle.claim.specs.Claim.{Violated}
use Rattle.text_spec.specs.Lines.{ascii, number_line, sheet_line, trace_line}
use Rattle.text_spec.specs.Input.{cut_input}
use Rattle.text_pair_spec.specs.Split.{first_sheet}
use Rattle.text_pair_spec.specs.BackToBack.{Begins, BackToBack, after_sheets}
use Rattle.compare_lines_spec.specs.Lines.{violates_line, refused_probe_line}

-- the last line of a violation: the stray event that an answer names, or the probe and the acceptance
pub data LastLine : Result Outcome ℕ → List ℕ → Type 0 where
  of_stray : (d cleared i : ℕ) → LastLine (Ok (Stray d cleared i)) (number_line (ascii "stray ") i)
  of_refusal : (d cleared X A : ℕ) → LastLine (Ok (Refusal d cleared X A)) (refused_probe_line X A)

-- the text that an input gets: one constructor for each kind of text
pub data Says (input : List ℕ) : List ℕ → Type 0 where
  -- the first sheet is refused by m: the line of this refusal alone
  reference_refused : (m : ℕ) → m ≢ 0 → (read_sheet (first_sheet (cut_input input))).refusal ≡ m → Says input (number_line (ascii "reference refused ") m)
  -- an accepted sheet stands in front, and what follows it is refused by m: the line of the one, the refusal of the
  -- other
  device_refused : (P : Sheet) (rest : List ℕ) (m : ℕ) → Begins input P rest → m ≢ 0 → (read_sheet rest).refusal ≡ m
      → Says input (sheet_line (ascii "reference ") P.n P.e ++ number_line (ascii "device refused ") m)
  -- two accepted sheets whose E differ: 11, and no other refusal
  unequal : (P Q : Sheet) → BackToBack input P Q → P.e ≢ Q.e → Says input (after_sheets P Q (number_line (ascii "comparison refused ") 11))
  -- two accepted sheets with one E, of which some event has another code: 19, and no other refusal
  unequal_codes : (P Q : Sheet) → BackToBack input P Q → P.e ≡ Q.e → CodesDiffer P Q → Says input (after_sheets P Q (number_line (ascii "comparison refused ") 19))
  -- two accepted sheets that agree, and the device refines the reference: the number of all pairs reached by common
  -- traces
  refines : (P Q : Sheet) → BackToBack input P Q → Agree P Q → RefinesIn false P Q → (cleared : ℕ) → Number P Q (ReachedEver P Q) cleared
      → Says input (after_sheets P Q (number_line (ascii "refines cleared ") cleared))
  -- two accepted sheets that agree, and the device does not refine the reference: the d, the count, the trace and the
  -- witness of demand 3
  violates : (P Q : Sheet) → BackToBack input P Q → Agree P Q → ¬ RefinesIn false P Q → (o : Result Outcome ℕ) (after : List ℕ) (v : Violated false P Q o after) (end : List ℕ) → LastLine o end
      → Says input (after_sheets P Q (violates_line v.d v.cleared ++ (trace_line (take v.d after) ++ end)))
