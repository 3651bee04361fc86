-- The lines of the sheets are the text, or what is found of two accepted ones makes it whole.
use Rattle.text_pair_spec.specs.Program.{pair_text}
use Rattle.text_pair_spec.proofs.OpeningLaws.{opens_found, opens_refused}
use Rattle.compare_lines_spec.specs.Program.{compared_lines, compare_text}
use Rattle.compare_lines.proofs.put_text.Goals as goal

pub returns-in-Some : goal.returns-in-Some
unfolding compare_text pair_text
returns-in-Some c =
    opens_found compared_lines c.put_pair-reference.ensures (rw (c.zip.ensures, c.ok.ensures.value, c.ok-2.ensures.value) at c.in-Some.is) c.put_compared.ensures

pub returns-in_default : goal.returns-in_default
unfolding compare_text pair_text
returns-in_default c =
    opens_refused compared_lines c.put_pair-reference.ensures (rw (c.zip.ensures, c.ok.ensures.value, c.ok-2.ensures.value) at c.in_default.is)
