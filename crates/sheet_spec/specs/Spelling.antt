-- The sheet that bytes spell (01, "A sheet"; 02, K1), whatever they are: where each part stands, and the rows and codes
-- that are kept. A byte past the end reads as 0.
use Rattle.std.specs.Prelude.{cond, List, ℕ, zero, suc, ◌+◌, ◌*◌, eqb, ltb, get_or, replicate}
use Rattle.base.specs.Table.{up_to}
use Rattle.sheet_spec.specs.declared.Row.{Row}
use Rattle.sheet_spec.specs.declared.Sheet.{Sheet}

-- the byte at a place
abbrev pub byte : List ℕ → ℕ → ℕ
byte b i = get_or b i 0

-- the number in the two bytes at a place, big-endian
abbrev pub word : List ℕ → ℕ → ℕ
word b i = byte b i * 256 + byte b (i + 1)

-- the first four bytes, big-endian: how many bytes follow these four
unfoldable pub length_field : List ℕ → ℕ
length_field b = word b 0 * 65536 + word b 2

-- the version: the byte after the length field
abbrev pub version : List ℕ → ℕ
version b = byte b 4

-- E: the byte after the version
abbrev pub event_count : List ℕ → ℕ
event_count b = byte b 5

-- N: the byte after E
abbrev pub node_count : List ℕ → ℕ
node_count b = byte b 6

-- the place after N: the codes stand there in version 2, the nodes in version 1
abbrev pub after_head : ℕ
after_head = 7

-- the place from which on the nodes stand: version 2 has two bytes for each event before them
unfoldable pub nodes_at : List ℕ → ℕ
nodes_at b = cond (eqb (version b) 2) (after_head + event_count b * 2) after_head

-- the code of event i: in version 2 its two bytes, in version 1 i + 1; 0 where it is unused
unfoldable pub code_of : List ℕ → ℕ → ℕ
code_of b i = cond (ltb i (event_count b)) (cond (eqb (version b) 2) (word b (after_head + i * 2)) (i + 1)) 0

-- the twelve codes that are kept
abbrev pub codes_of : List ℕ → List ℕ
codes_of b = up_to (code_of b) 12

-- the C of the node that begins at a place, after its e successors
abbrev pub count_at : List ℕ → ℕ → ℕ → ℕ
count_at b e at = byte b (at + e)

-- where the node after the one that begins at a place begins: e successors, C, and C two-byte sets
unfoldable pub next_at : List ℕ → ℕ → ℕ → ℕ
next_at b e at = at + e + 1 + count_at b e at * 2

-- where node v begins
unfoldable pub start_of : List ℕ → ℕ → ℕ → ℕ
start_of b e zero = nodes_at b
start_of b e (suc v) = next_at b e (start_of b e v)

-- event i of the node that begins at a place: its successor, 255 where it is unused
unfoldable pub succ_of : List ℕ → ℕ → ℕ → ℕ → ℕ
succ_of b at e i = cond (ltb i e) (byte b (at + i)) 255

-- place j of the sets that begin at a place: its two bytes, 0 where it is unused
unfoldable pub sets_of : List ℕ → ℕ → ℕ → ℕ → ℕ
sets_of b at c j = cond (ltb j c) (word b (at + j * 2)) 0

-- the row of the node that begins at a place
unfoldable pub row_at : List ℕ → ℕ → ℕ → Row
row_at b e at = record { succ = up_to (succ_of b at e) 12; sets = up_to (sets_of b (at + e + 1) (count_at b e at)) 16; c = count_at b e at }

-- the row of an unused node
abbrev pub unused_row : Row
unused_row = record { succ = replicate 12 255; sets = replicate 16 0; c = 0 }

-- the row of node v, that of an unused node from n on
unfoldable pub row_of : List ℕ → ℕ → ℕ → ℕ → Row
row_of b e n v = cond (ltb v n) (row_at b e (start_of b e v)) unused_row

-- the sheet that the bytes spell
unfoldable pub sheet_of : List ℕ → Sheet
sheet_of b = record { rows = up_to (row_of b (event_count b) (node_count b)) 32; e = event_count b; n = node_count b; codes = codes_of b }
