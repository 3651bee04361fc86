-- The lines that `script_counts` prints after the two sheets, as the codes of their characters. The counts are the
-- answer's; how many scripts there are is worked from E and L alone.
use Rattle.std.specs.Prelude.{cond, List, ◌++◌, ℕ, ◌+◌, ◌^◌, eqb}
use Rattle.text_spec.specs.Lines.{ascii, decimal, number_line}
use Rattle.scripts_spec.specs.declared.Scripts.{Scripts}

-- the line of all scripts of L events: `scripts of L events n`
unfoldable pub total_line : ℕ → ℕ → List ℕ
total_line L n = ascii "scripts of " ++ (decimal L ++ number_line (ascii " events ") n)

-- the line of all scripts, then how many both walk, how many the device stops, how many the reference stops, and how
-- many end early, which are those that either stops
unfoldable pub count_lines : ℕ → ℕ → ℕ → ℕ → ℕ → List ℕ
count_lines L n walked device reference =
    total_line L n
    ++ (number_line (ascii "walked ") walked
    ++ (number_line (ascii "device stops ") device
    ++ (number_line (ascii "reference stops ") reference
    ++ number_line (ascii "ends early ") (device + reference))))

-- the lines of an answer for scripts of L events, where there are E events: the counts, of E to the power L scripts; or
-- the refusal
unfoldable pub scripts_lines : ℕ → ℕ → Scripts → List ℕ
scripts_lines E L a =
    cond (eqb a.refusal 0) (count_lines L (E ^ L) a.walked a.device a.reference) (number_line (ascii "scripts refused ") a.refusal)
