-- Nothing to believe: the shapes of loops and tables. Inner functions cite them; laws join them to the test of a pair.
use Rattle.std.specs.Prelude.{Bool, not, ◌&&◌, ◌||◌, cond, List, ℕ, ◌+◌, ◌*◌, ◌/◌, ◌%◌, eqb, ltb, get_or}
use Rattle.std.specs.Int.Bits.{bit_or}
use Rattle.base.specs.Table.{up_to}
use Rattle.events.specs.Bit.{set_of}
use Rattle.nodes.specs.NodeSets.{with_node}
use Rattle.sheet_spec.specs.declared.Row.{Row}
use Rattle.sheet_spec.specs.Kept.{may_stop}
use Rattle.sheet_rows.specs.Tables.{row_in, initials_in, flat_at}
use Rattle.refinement_spec.specs.ViolatingPairs.{strays, has_refusal}
use Rattle.verdicts_tables.specs.declared.Tables.{Tables}

-- a set of nodes, with node v if the test passes
unfoldable pub node_if : ℕ → ℕ → Bool → ℕ
node_if x v t = cond t (with_node x v) x

-- the successor of node v on event i in a table of successors
abbrev pub leads_to : List ℕ → ℕ → ℕ → ℕ
leads_to t v i = get_or t (v * 12 + i) 0

-- of the first q nodes of the device, those with an initial outside x
unfoldable pub stray_word : ℕ → List ℕ → ℕ → ℕ
stray_word x ys q = set_of (λ m. not (eqb (strays x (get_or ys m 0)) 0)) q

-- of the first q nodes of the device, those that may stop
unfoldable pub stop_word : List Row → ℕ → ℕ
stop_word rows q = set_of (λ m. may_stop (row_in rows m)) q

-- of the first q nodes of the device, those with a refusal against a row
unfoldable pub refusal_word : Row → List Row → ℕ → ℕ
refusal_word r rows q = set_of (λ m. has_refusal r (row_in rows m)) q

-- the nodes of the device at which a test fails before its last event: a stray or, unless traces alone count or the
-- reference may stop, a stop
unfoldable pub early_word : Bool → ℕ → Bool → ℕ → ℕ
early_word trace_only stray stops theirs = cond (trace_only || stops) stray (bit_or stray theirs)

-- the nodes of the device at which a test fails at its last event: a stray or, unless traces alone count, a refusal
unfoldable pub late_word : Bool → ℕ → Row → List Row → ℕ → ℕ
late_word trace_only stray r rows q = cond trace_only stray (bit_or stray (refusal_word r rows q))

-- beside node n of the reference, the device's nodes that have a stray
unfoldable pub stray_words : List ℕ → List ℕ → ℕ → ℕ → ℕ
stray_words xs ys q n = stray_word (get_or xs n 0) ys q

-- beside node n of the reference, the device's nodes at which a test fails early
unfoldable pub early_words : Bool → List ℕ → List Row → ℕ → ℕ → ℕ
early_words trace_only strays mine theirs n = early_word trace_only (get_or strays n 0) (may_stop (row_in mine n)) theirs

-- beside node n of the reference, the device's nodes at which a test fails late
unfoldable pub late_words : Bool → List ℕ → List Row → List Row → ℕ → ℕ → ℕ
late_words trace_only strays mine theirs q n = late_word trace_only (get_or strays n 0) (row_in mine n) theirs q

-- the successors as sets of one node, thirty-two to an event: what stands at place j, empty where there is no node
-- below q
unfoldable pub bit_at : List ℕ → ℕ → ℕ → ℕ
bit_at t q j = node_if 0 (leads_to t (j % 32) (j / 32)) (ltb (j % 32) q && ltb (leads_to t (j % 32) (j / 32)) q)

-- the set to which event i leads from node m, from a table of such sets
abbrev pub leads_into : List ℕ → ℕ → ℕ → ℕ
leads_into b m i = get_or b (i * 32 + m) 0

-- the table of strays, filled once: a word for each node of the reference
abbrev pub stray_table : List Row → List Row → ℕ → ℕ → List ℕ
stray_table mine theirs q e = up_to (stray_words (up_to (initials_in e mine) 32) (up_to (initials_in e theirs) 32) q) 32

-- the table of early faults, filled once: a word for each node of the reference
abbrev pub early_table : Bool → List Row → List Row → ℕ → ℕ → List ℕ
early_table trace_only mine theirs q e = up_to (early_words trace_only (stray_table mine theirs q e) mine (stop_word theirs q)) 32

-- the table of late faults, filled once: a word for each node of the reference
abbrev pub late_table : Bool → List Row → List Row → ℕ → ℕ → List ℕ
late_table trace_only mine theirs q e = up_to (late_words trace_only (stray_table mine theirs q e) mine theirs q) 32

-- all tables that are filled once: the successors of both, and the early and late faults
unfoldable pub tables_of : Bool → List Row → List Row → ℕ → ℕ → Tables
tables_of trace_only mine theirs q e =
    record {
      mine = up_to (flat_at mine) 384;
      theirs = up_to (bit_at (up_to (flat_at theirs) 384) q) 384;
      early = early_table trace_only mine theirs q e;
      late = late_table trace_only mine theirs q e;
    }
