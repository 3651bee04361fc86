-- What `probe_list` prints of one node: a line with its probes, and one with the events that are optional there.
use Rattle.std.specs.Prelude.{not, ◌&&◌, cond, List, [], ◌++◌, ℕ, eqb, length, get_or, replicate}
use Rattle.base.specs.Range.{any}
use Rattle.base.specs.Joined.{joined}
use Rattle.events.specs.Bit.{set_of}
use Rattle.events.specs.Sets.{has}
use Rattle.sheet_spec.specs.declared.Row.{Row}
use Rattle.sheet_spec.specs.declared.Sheet.{Sheet}
use Rattle.sheet_spec.specs.Kept.{row, acceptance, initials, may_stop}
use Rattle.probes_spec.specs.Listing.{node_probes, list_fault}
use Rattle.text_spec.specs.Lines.{ascii, decimal, numbers_text}
use Rattle.text_spec.specs.Sets.{members, set_words}

-- the list that is lent to the probe call: 4,096 places, which is enough for every node
unfoldable pub probe_space : List ℕ
probe_space = replicate 4096 0

-- the set at place j of a list, with a blank before it
unfoldable pub place_words : List ℕ → ℕ → List ℕ
place_words sets j = ascii " " ++ set_words (get_or sets j 0)

-- the sets of a list in order, a blank before each
unfoldable pub set_list : List ℕ → List ℕ
set_list sets = joined (place_words sets) (length sets)

-- the line of a node with its probes: `node v probes x ( e ) x ( e )`
unfoldable pub probes_line : ℕ → List ℕ → List ℕ
probes_line v sets = ascii "node " ++ (decimal v ++ (ascii " probes" ++ (set_list sets ++ ascii "\n")))

-- the line of a node that may stop: `node v may stop`
unfoldable pub may_stop_line : ℕ → List ℕ
may_stop_line v = ascii "node " ++ (decimal v ++ ascii " may stop\n")

-- the line of a refused probe call: `node v refused k`
unfoldable pub denied_line : ℕ → ℕ → List ℕ
denied_line v k = numbers_text (ascii "node ") v (ascii " refused ") k (ascii "\n")

-- the line of node v: its probes in order, or that it may stop; where the probe call is refused, the number of the
-- refusal
unfoldable pub node_line : Sheet → ℕ → List ℕ
node_line s v =
    cond (eqb (list_fault s v probe_space) 0)
    (cond (may_stop (row s v)) (may_stop_line v) (probes_line v (node_probes s v)))
    (denied_line v (list_fault s v probe_space))

-- the optional events of a row, as a set: the initials that stand in none of its acceptances; a device need not do them
unfoldable pub optional : ℕ → Row → ℕ
optional e r = set_of (λ i. has (initials e r) i && not (any (λ j. has (acceptance r j) i) r.c)) 12

-- the line of the optional events x of node v: `node v optional e e`
unfoldable pub optional_line : ℕ → ℕ → List ℕ
optional_line v x = ascii "node " ++ (decimal v ++ (ascii " optional" ++ (members x ++ ascii "\n")))

-- the line of the optional events of node v where there are any, else nothing
unfoldable pub optional_text : ℕ → ℕ → List ℕ
optional_text v x = cond (eqb x 0) [] (optional_line v x)

-- the text of node v: its line, and where the probe call is not refused the line of its optional events
unfoldable pub node_text : Sheet → ℕ → List ℕ
node_text s v = node_line s v ++ cond (eqb (list_fault s v probe_space) 0) (optional_text v (optional s.e (row s v))) []
