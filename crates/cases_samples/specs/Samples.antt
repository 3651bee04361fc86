-- Nothing to believe: for the programs of cases. The sheets that the Run programs name: their bytes, and how a sheet is
-- changed to deserve a refusal.
use Rattle.std.specs.Prelude.{cond, List, [], ◌∷◌, ℕ, ◌+◌, eqb, ltb, set}
use Rattle.sheet_spec.specs.declared.Row.{Row}
use Rattle.sheet_spec.specs.declared.Sheet.{Sheet}
use Rattle.sheet_spec.specs.Kept.{code, recoded, row}
use Rattle.sheet_spec.specs.Reading.{read_sheet}
use Rattle.sheet_spec.specs.Examples.{example_reference, example_device, coded_reference, coded_device, only_zero, only_one, may_loop, must_loop, stopped}

-- a sheet of two nodes and two events: event 0 leads to a node that has no successor
unfoldable pub leads_to_end : List ℕ
leads_to_end = 0 ∷ 0 ∷ 0 ∷ 13 ∷ 1 ∷ 2 ∷ 2 ∷ 1 ∷ 255 ∷ 1 ∷ 0 ∷ 1 ∷ 255 ∷ 255 ∷ 1 ∷ 0 ∷ 0 ∷ []

-- the bytes of the small sheets; no other number has bytes
unfoldable pub small_bytes : ℕ → List ℕ
small_bytes which =
    cond (eqb which 1) example_reference
    (cond (eqb which 2) example_device
    (cond (eqb which 3) only_zero
    (cond (eqb which 4) only_one
    (cond (eqb which 5) may_loop
    (cond (eqb which 6) stopped
    (cond (eqb which 7) must_loop
    (cond (eqb which 8) leads_to_end [])))))))

-- one node that loops on three events, with the acceptances 5 and 6, whose probes are 4 and 3
unfoldable pub small_probe_first : List ℕ
small_probe_first = 0 ∷ 0 ∷ 0 ∷ 11 ∷ 1 ∷ 3 ∷ 1 ∷ 0 ∷ 0 ∷ 0 ∷ 2 ∷ 0 ∷ 5 ∷ 0 ∷ 6 ∷ []

-- the same with the acceptances 3 and 4, one of which misses the first of these probes, the other the second
unfoldable pub misses_both : List ℕ
misses_both = 0 ∷ 0 ∷ 0 ∷ 11 ∷ 1 ∷ 3 ∷ 1 ∷ 0 ∷ 0 ∷ 0 ∷ 2 ∷ 0 ∷ 3 ∷ 0 ∷ 4 ∷ []

-- the same with the acceptance 4, which misses only the second
unfoldable pub misses_second : List ℕ
misses_second = 0 ∷ 0 ∷ 0 ∷ 9 ∷ 1 ∷ 3 ∷ 1 ∷ 0 ∷ 0 ∷ 0 ∷ 1 ∷ 0 ∷ 4 ∷ []

-- the same with the acceptance 0, which misses every probe
unfoldable pub misses_all : List ℕ
misses_all = 0 ∷ 0 ∷ 0 ∷ 9 ∷ 1 ∷ 3 ∷ 1 ∷ 0 ∷ 0 ∷ 0 ∷ 1 ∷ 0 ∷ 0 ∷ []

-- two nodes and four events: event 0 leads to a node that loops on three, with the acceptances 5 and 6
unfoldable pub small_probe_later : List ℕ
small_probe_later = 0 ∷ 0 ∷ 0 ∷ 19 ∷ 1 ∷ 4 ∷ 2 ∷ 1 ∷ 255 ∷ 255 ∷ 255 ∷ 1 ∷ 0 ∷ 1 ∷ 1 ∷ 1 ∷ 1 ∷ 255 ∷ 2 ∷ 0 ∷ 5 ∷ 0 ∷ 6 ∷ []

-- the same with the acceptances 3 and 4
unfoldable pub misses_later : List ℕ
misses_later = 0 ∷ 0 ∷ 0 ∷ 19 ∷ 1 ∷ 4 ∷ 2 ∷ 1 ∷ 255 ∷ 255 ∷ 255 ∷ 1 ∷ 0 ∷ 1 ∷ 1 ∷ 1 ∷ 1 ∷ 255 ∷ 2 ∷ 0 ∷ 3 ∷ 0 ∷ 4 ∷ []

-- one node that loops on 12 events, with each of the first eleven beside the last as acceptances
unfoldable pub last_with_each : List ℕ
last_with_each = 0 ∷ 0 ∷ 0 ∷ 38 ∷ 1 ∷ 12 ∷ 1 ∷ 0 ∷ 0 ∷ 0 ∷ 0 ∷ 0 ∷ 0 ∷ 0 ∷ 0 ∷ 0 ∷ 0 ∷ 0 ∷ 0 ∷ 11 ∷ 8 ∷ 1 ∷ 8 ∷ 2 ∷ 8 ∷ 4 ∷ 8 ∷ 8 ∷ 8 ∷ 16 ∷ 8 ∷ 32 ∷ 8 ∷ 64 ∷ 8 ∷ 128 ∷ 9 ∷ 0 ∷ 10 ∷ 0 ∷ 12 ∷ 0 ∷ []

-- one node that loops on 12 events, with each event alone as acceptances
unfoldable pub each_alone : List ℕ
each_alone = 0 ∷ 0 ∷ 0 ∷ 40 ∷ 1 ∷ 12 ∷ 1 ∷ 0 ∷ 0 ∷ 0 ∷ 0 ∷ 0 ∷ 0 ∷ 0 ∷ 0 ∷ 0 ∷ 0 ∷ 0 ∷ 0 ∷ 12 ∷ 0 ∷ 1 ∷ 0 ∷ 2 ∷ 0 ∷ 4 ∷ 0 ∷ 8 ∷ 0 ∷ 16 ∷ 0 ∷ 32 ∷ 0 ∷ 64 ∷ 0 ∷ 128 ∷ 1 ∷ 0 ∷ 2 ∷ 0 ∷ 4 ∷ 0 ∷ 8 ∷ 0 ∷ []

-- the bytes of the sheets whose probes show their order, and of the small ones
unfoldable pub ordered_bytes : ℕ → List ℕ
ordered_bytes which =
    cond (eqb which 20) small_probe_first
    (cond (eqb which 21) misses_both
    (cond (eqb which 22) misses_second
    (cond (eqb which 23) misses_all
    (cond (eqb which 24) small_probe_later
    (cond (eqb which 25) misses_later
    (cond (eqb which 26) last_with_each
    (cond (eqb which 27) each_alone (small_bytes which))))))))

-- one node that loops on 12 events, with sixteen pairs of events as acceptances
unfoldable pub sixteen_pairs : List ℕ
sixteen_pairs = 0 ∷ 0 ∷ 0 ∷ 48 ∷ 1 ∷ 12 ∷ 1 ∷ 0 ∷ 0 ∷ 0 ∷ 0 ∷ 0 ∷ 0 ∷ 0 ∷ 0 ∷ 0 ∷ 0 ∷ 0 ∷ 0 ∷ 16 ∷ 0 ∷ 3 ∷ 0 ∷ 5 ∷ 0 ∷ 6 ∷ 0 ∷ 9 ∷ 0 ∷ 10 ∷ 0 ∷ 12 ∷ 0 ∷ 17 ∷ 0 ∷ 18 ∷ 0 ∷ 20 ∷ 0 ∷ 24 ∷ 0 ∷ 33 ∷ 0 ∷ 34 ∷ 0 ∷ 36 ∷ 0 ∷ 40 ∷ 0 ∷ 48 ∷ 0 ∷ 65 ∷ []

-- one node that loops on 12 events, with sixteen other pairs of events as acceptances
unfoldable pub sixteen_others : List ℕ
sixteen_others = 0 ∷ 0 ∷ 0 ∷ 48 ∷ 1 ∷ 12 ∷ 1 ∷ 0 ∷ 0 ∷ 0 ∷ 0 ∷ 0 ∷ 0 ∷ 0 ∷ 0 ∷ 0 ∷ 0 ∷ 0 ∷ 0 ∷ 16 ∷ 0 ∷ 3 ∷ 0 ∷ 5 ∷ 0 ∷ 6 ∷ 0 ∷ 9 ∷ 0 ∷ 10 ∷ 0 ∷ 12 ∷ 1 ∷ 1 ∷ 1 ∷ 2 ∷ 1 ∷ 4 ∷ 1 ∷ 8 ∷ 2 ∷ 1 ∷ 2 ∷ 2 ∷ 4 ∷ 1 ∷ 4 ∷ 2 ∷ 8 ∷ 1 ∷ 12 ∷ 0 ∷ []

-- one node that loops on 12 events, with four acceptances of three events each
unfoldable pub four_triples : List ℕ
four_triples = 0 ∷ 0 ∷ 0 ∷ 24 ∷ 1 ∷ 12 ∷ 1 ∷ 0 ∷ 0 ∷ 0 ∷ 0 ∷ 0 ∷ 0 ∷ 0 ∷ 0 ∷ 0 ∷ 0 ∷ 0 ∷ 0 ∷ 4 ∷ 0 ∷ 7 ∷ 0 ∷ 56 ∷ 1 ∷ 192 ∷ 14 ∷ 0 ∷ []

-- two nodes and two events: node 0 loops on one, and the other leads to a node that leads back
unfoldable pub leads_back : List ℕ
leads_back = 0 ∷ 0 ∷ 0 ∷ 13 ∷ 1 ∷ 2 ∷ 2 ∷ 0 ∷ 1 ∷ 1 ∷ 0 ∷ 1 ∷ 0 ∷ 255 ∷ 1 ∷ 0 ∷ 1 ∷ []

-- one node that loops on both of two events
unfoldable pub loops_on_both : List ℕ
loops_on_both = 0 ∷ 0 ∷ 0 ∷ 8 ∷ 1 ∷ 2 ∷ 1 ∷ 0 ∷ 0 ∷ 1 ∷ 0 ∷ 1 ∷ []

-- the bytes of all sheets, with those whose probes show their order and the small ones
unfoldable pub sample_bytes : ℕ → List ℕ
sample_bytes which =
    cond (eqb which 9) sixteen_pairs
    (cond (eqb which 10) sixteen_others
    (cond (eqb which 11) four_triples
    (cond (eqb which 12) leads_back
    (cond (eqb which 13) loops_on_both
    (cond (eqb which 16) coded_reference
    (cond (eqb which 17) coded_device (ordered_bytes which)))))))

-- the sheet that a number names
unfoldable pub sample_of : ℕ → Sheet
sample_of which = (read_sheet (sample_bytes which)).sheet

-- a sheet with a node more, a copy of node 0, where there is room
unfoldable pub with_new_node : Sheet → Sheet
with_new_node s = cond (ltb s.n 32) (record { rows = set s.rows s.n (row s 0); e = s.e; n = s.n + 1; codes = s.codes }) s

-- a row with another C
unfoldable pub with_count : Row → ℕ → Row
with_count r c = record { succ = r.succ; sets = r.sets; c = c }

-- a sheet with another row v
unfoldable pub with_row : Sheet → ℕ → Row → Sheet
with_row s v r = record { rows = set s.rows v r; e = s.e; n = s.n; codes = s.codes }

-- a sheet with another code of event 1
unfoldable pub with_code : Sheet → ℕ → Sheet
with_code s x = recoded s (set s.codes 1 x)

-- a sheet with the change that deserves a refusal, 18 and 19 if it has two events; as it is for any other number
unfoldable pub changed_to : Sheet → ℕ → Sheet
changed_to s refusal =
    cond (eqb refusal 3) (record { rows = s.rows; e = 13; n = s.n; codes = s.codes })
    (cond (eqb refusal 5) (with_row s 0 (with_count (row s 0) 17))
    (cond (eqb refusal 6) (with_row s 0 (record { succ = set (row s 0).succ 0 40; sets = (row s 0).sets; c = (row s 0).c }))
    (cond (eqb refusal 7) (with_row s 31 (with_count (row s 31) 1))
    (cond (eqb refusal 8) (with_new_node s)
    (cond (eqb refusal 18) (with_code s (code s 0))
    (cond (eqb refusal 19) (with_code s 500) s))))))
