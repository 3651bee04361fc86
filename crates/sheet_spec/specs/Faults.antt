-- Nothing to believe: words for laws alone. What breaks the rules of a sheet (01, "Who can cause a refusal"; 02, K1),
-- said with "there is" and "for every" over nodes, places, events and lists, with no test in it but where the nodes
-- begin (`nodes_at`); then what has no fault up to a number, for bytes and for a kept sheet. CheckLaws and ReadLaws say
-- that each refusal is given exactly for its fault.
use Rattle.std.specs.Prelude.{◌≡◌, ◌⊎◌, ◌≢◌, List, ◌++◌, ℕ, ◌+◌, ◌*◌, ◌≤◌, ◌<◌, length, get_or, drop}
use Rattle.events.specs.Bit.{bit, Within}
use Rattle.sheet_spec.specs.declared.Row.{Row}
use Rattle.sheet_spec.specs.declared.Sheet.{Sheet}
use Rattle.sheet_spec.specs.Kept.{no_row, code_at, code, row, successor, acceptance, Walk, Initial}
use Rattle.sheet_spec.specs.Spelling.{word, length_field, version, event_count, node_count, nodes_at, sheet_of}
use Rattle.sheet_spec.specs.Encoding.{encode_rows}
use Rattle.sheet_spec.specs.Form.{RowForm}

-- 3: E is not 1 to 12, or N not 1 to 32
abbrev pub RangeFault : ℕ → ℕ → Type 0
RangeFault e n = ((e < 1) ⊎ (12 < e)) ⊎ ((n < 1) ⊎ (32 < n))

-- 18: a code given twice: two different events below e have one code
abbrev pub CodeTwice : ℕ → List ℕ → Type 0
CodeTwice e codes = (i : ℕ) × (j : ℕ) × (i < e) × (j < e) × (i ≢ j) × (code_at codes i ≡ code_at codes j)

-- 5: a C that is not 1 to 16
abbrev pub BadCount : ℕ → Type 0
BadCount c = (c < 1) ⊎ (16 < c)

-- 5, of a kept sheet: the C of some node is not 1 to 16
abbrev pub CountFault : Sheet → Type 0
CountFault s = (v : ℕ) × (v < s.n) × BadCount (row s v).c

-- 6: some node has on some event a successor that is neither 255 nor below N
abbrev pub SuccessorFault : Sheet → Type 0
SuccessorFault s = (v : ℕ) × (v < s.n) × ((i : ℕ) × (i < s.e) × ((successor (row s v) i ≢ 255) × (s.n ≤ successor (row s v) i)))

-- 7: the sets of a row are not strictly ascending, one has an event that is no initial, one is included in another, or
-- the empty set does not stand alone
pub data RowSetFault (e : ℕ) (r : Row) : Type 0 where
  descends : (j k : ℕ) → j < k → k < r.c → acceptance r k ≤ acceptance r j → RowSetFault e r
  outside : (j i : ℕ) → j < r.c → bit (acceptance r j) i ≡ 1 → ¬ Initial e r i → RowSetFault e r
  includes : (j k : ℕ) → j < r.c → k < r.c → j ≢ k → Within (acceptance r j) (acceptance r k) → RowSetFault e r
  stops : (j : ℕ) → j < r.c → acceptance r j ≡ 0 → r.c ≢ 1 → RowSetFault e r

-- 7: the sets of some node have a fault
abbrev pub SetFault : Sheet → Type 0
SetFault s = (v : ℕ) × (v < s.n) × RowSetFault s.e (row s v)

-- 7, of a kept sheet: an unused place that holds something else than 255 (a successor) or 0 (a set, the C of an unused
-- node, a code)
pub data UnusedFault (s : Sheet) : Type 0 where
  event : (v i : ℕ) → v < s.n → s.e ≤ i → i < 12 → successor (row s v) i ≢ 255 → UnusedFault s
  place : (v j : ℕ) → v < s.n → (row s v).c ≤ j → j < 16 → acceptance (row s v) j ≢ 0 → UnusedFault s
  node_successor : (v i : ℕ) → s.n ≤ v → v < 32 → i < 12 → successor (row s v) i ≢ 255 → UnusedFault s
  node_set : (v j : ℕ) → s.n ≤ v → v < 32 → j < 16 → acceptance (row s v) j ≢ 0 → UnusedFault s
  node_count_lem : (v : ℕ) → s.n ≤ v → v < 32 → (row s v).c ≢ 0 → UnusedFault s
  event_code : (i : ℕ) → s.e ≤ i → i < 12 → code s i ≢ 0 → UnusedFault s

-- codes that are refused neither with 18 nor, in their unused places, with 7
abbrev pub GoodCodes : ℕ → List ℕ → Type 0
GoodCodes e codes = (¬ CodeTwice e codes) × ((i : ℕ) → e ≤ i → i < 12 → code_at codes i ≡ 0)

-- 8: some node to which no list of events leads from node 0
abbrev pub ReachFault : Sheet → Type 0
ReachFault s = (v : ℕ) × (v < s.n) × ((t : List ℕ) → ¬ Walk s 0 t v)

-- 1: fewer than 7 bytes, or the length field plus 4 is not their number
abbrev pub LengthFault : List ℕ → Type 0
LengthFault b = (length b < 7) ⊎ (length_field b + 4 ≢ length b)

-- 2: the version is neither 1 nor 2
abbrev pub VersionFault : List ℕ → Type 0
VersionFault b = (version b ≢ 1) × (version b ≢ 2)

-- 4: codes cut off: in version 2 there are fewer bytes than the seven of the head and two for each event
abbrev pub CodesCut : List ℕ → Type 0
CodesCut b = (version b ≡ 2) × (length b < 7 + event_count b * 2)

-- 18, of bytes: in version 2 two different events have the same two bytes after the head
abbrev pub BytesCodeTwice : List ℕ → Type 0
BytesCodeTwice b =
    (version b ≡ 2)
    × ((i : ℕ) × (j : ℕ) × (i < event_count b) × (j < event_count b) × (i ≢ j) × (word b (7 + i * 2) ≡ word b (7 + j * 2)))

-- rows of nodes: each has the machine's form and a C of 1 to 16
abbrev pub GoodRows : List Row → Type 0
GoodRows rows = (v : ℕ) → v < length rows → RowForm (get_or rows v no_row) × (¬ BadCount (get_or rows v no_row).c)

-- after the head and the codes come the bytes of these rows, and then this rest
abbrev pub Follow : List ℕ → List Row → List ℕ → Type 0
Follow b rows rest = GoodRows rows × (drop (nodes_at b) b ≡ encode_rows (event_count b) rows ++ rest)

-- bytes that end before their node does: at most e bytes, so no C; or a C of 1 to 16 at place e, and fewer than e + 1 +
-- 2 C bytes
abbrev pub ShortNode : ℕ → List ℕ → Type 0
ShortNode e rest = (length rest ≤ e) ⊎ ((e < length rest) × (¬ BadCount (get_or rest e 0)) × (length rest < e + 1 + get_or rest e 0 * 2))

-- 4: after the codes come the rows of some nodes; these are fewer than N and the rest ends before its node does, or
-- they are N and bytes remain
abbrev pub CutFault : List ℕ → Type 0
CutFault b =
    (rows : List Row) × (rest : List ℕ) × Follow b rows rest
    × (((length rows < node_count b) × ShortNode (event_count b) rest) ⊎ ((length rows ≡ node_count b) × (0 < length rest)))

-- 5, of bytes: after the codes come the rows of some nodes, fewer than N, and the rest has the byte of its C, which is
-- not 1 to 16
abbrev pub BytesCountFault : List ℕ → Type 0
BytesCountFault b =
    (rows : List Row) × (rest : List ℕ) × Follow b rows rest
    × (length rows < node_count b) × (event_count b < length rest) × BadCount (get_or rest (event_count b) 0)

-- bytes have no fault whose number is up to 1
abbrev pub ReadClear1 : List ℕ → Type 0
ReadClear1 b = ¬ LengthFault b

-- bytes have no fault whose number is up to 2
abbrev pub ReadClear2 : List ℕ → Type 0
ReadClear2 b = ReadClear1 b × (¬ VersionFault b)

-- bytes have no fault whose number is up to 3
abbrev pub ReadClear3 : List ℕ → Type 0
ReadClear3 b = ReadClear2 b × (¬ RangeFault (event_count b) (node_count b))

-- bytes have no fault that is looked for before the nodes: their codes are whole, and none is given twice
abbrev pub ReadClear18 : List ℕ → Type 0
ReadClear18 b = ReadClear3 b × ((¬ CodesCut b) × (¬ BytesCodeTwice b))

-- bytes have no fault that is looked for before 6; 4 and 5 of the nodes are found by position
abbrev pub ReadClear5 : List ℕ → Type 0
ReadClear5 b = ReadClear18 b × ((¬ CutFault b) × (¬ BytesCountFault b))

-- bytes have no fault that is looked for before 7
abbrev pub ReadClear6 : List ℕ → Type 0
ReadClear6 b = ReadClear5 b × (¬ SuccessorFault (sheet_of b))

-- bytes have no fault that is looked for before 8
abbrev pub ReadClear7 : List ℕ → Type 0
ReadClear7 b = ReadClear6 b × (¬ SetFault (sheet_of b))

-- a kept sheet has no fault whose number is up to 3
abbrev pub Clear3 : Sheet → Type 0
Clear3 s = ¬ RangeFault s.e s.n

-- a kept sheet has no fault that is looked for before 5
abbrev pub Clear18 : Sheet → Type 0
Clear18 s = Clear3 s × (¬ CodeTwice s.e s.codes)

-- a kept sheet has no fault that is looked for before 6
abbrev pub Clear5 : Sheet → Type 0
Clear5 s = Clear18 s × (¬ CountFault s)

-- a kept sheet has no fault that is looked for before 7
abbrev pub Clear6 : Sheet → Type 0
Clear6 s = Clear5 s × (¬ SuccessorFault s)

-- a kept sheet has no fault that is looked for before 8
abbrev pub Clear7 : Sheet → Type 0
Clear7 s = Clear6 s × (¬ (SetFault s ⊎ UnusedFault s))
