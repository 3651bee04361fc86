-- `named::name`: a stray is told before a refusal.
use Rattle.std.proofs.Common.{rules, sym, ◌∙◌}
use Rattle.sheet_rows.proofs.Shape.{row_form}
use Rattle.comparison.proofs.named.Names.{front_sets, named_stray, named_nothing, named_found}
use Rattle.comparison.proofs.named.name.Goals as goal

pub returns-in-Some : goal.returns-in-Some
returns-in-Some c =
    let a = c.args in
    named_stray a.d a.cleared a.e c.requires.1 a.reference a.device c.initials_of-x.ensures c.initials_of-y.ensures c.stray_events-strays.ensures
    (sym c.first_event.ensures ∙ c.in-Some.is)

pub returns-in-Some-first_missed : goal.returns-in-Some-first_missed
returns-in-Some-first_missed c =
    let a = c.args in
    named_found a.d a.cleared a.e c.requires.1 a.reference a.device c.initials_of-x.ensures c.initials_of-y.ensures c.stray_events-strays.ensures
    (sym c.first_event.ensures ∙ search rules)
    (front_sets a.reference (row_form a.reference _ c.well_formed.0) c.from-c.ensures c.requires.0)
    (front_sets a.device (row_form a.device _ c.well_formed.1.0) c.from-k.ensures c.requires.2)
    c.first_missed.ensures.0 c.in-Some-first_missed.is

pub returns-in-None : goal.returns-in-None
returns-in-None c =
    let a = c.args in
    named_nothing a.d a.cleared a.e c.requires.1 a.reference a.device c.initials_of-x.ensures c.initials_of-y.ensures c.stray_events-strays.ensures
    (sym c.first_event.ensures ∙ search rules)
    (front_sets a.reference (row_form a.reference _ c.well_formed.0) c.from-c.ensures c.requires.0)
    (front_sets a.device (row_form a.device _ c.well_formed.1.0) c.from-k.ensures c.requires.2)
    c.first_missed.ensures.0 c.in-None.is
