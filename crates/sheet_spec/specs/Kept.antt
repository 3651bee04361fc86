-- A kept sheet (01, "A sheet"; 02, K1): its rows, the initials of a node, the graph that its successors draw, and the
-- catalogue codes of its events.
use Rattle.std.specs.Prelude.{◌≢◌, ◌≡◌, Bool, not, ◌&&◌, cond, List, [], ◌∷◌, ℕ, ◌+◌, ◌<◌, eqb, ltb, get_or}
use Rattle.base.specs.Range.{any}
use Rattle.base.specs.Table.{up_to}
use Rattle.events.specs.Bit.{set_of}
use Rattle.walks.specs.Graph.{Graph}
use Rattle.sheet_spec.specs.declared.Row.{Row}
use Rattle.sheet_spec.specs.declared.Sheet.{Sheet}

-- what a place beyond the last row reads as
abbrev pub no_row : Row
no_row = record { succ = []; sets = []; c = 0 }

-- the code at place i of codes
abbrev pub code_at : List ℕ → ℕ → ℕ
code_at codes i = get_or codes i 0

-- the catalogue code of event i
abbrev pub code : Sheet → ℕ → ℕ
code s i = code_at s.codes i

-- the twelve codes of a version 1 sheet with e events: i + 1 for event i, 0 in unused places
abbrev pub first_codes : ℕ → List ℕ
first_codes e = up_to (λ i. cond (ltb i e) (i + 1) 0) 12

-- the sheet of these rows, E and N, with the codes of version 1
abbrev pub sheet_with : List Row → ℕ → ℕ → Sheet
sheet_with rows e n = record { rows = rows; e = e; n = n; codes = first_codes e }

-- the sheet with other codes
abbrev pub recoded : Sheet → List ℕ → Sheet
recoded s codes = record { rows = s.rows; e = s.e; n = s.n; codes = codes }

-- the row of node v
abbrev pub row : Sheet → ℕ → Row
row s v = get_or s.rows v no_row

-- the successor of a row on event i, 255 for none
unfoldable pub successor : Row → ℕ → ℕ
successor r i = get_or r.succ i 255

-- the set at place j of a row
unfoldable pub acceptance : Row → ℕ → ℕ
acceptance r j = get_or r.sets j 0

-- the minimal acceptances of a row, as a list
unfoldable pub acceptances : Row → List ℕ
acceptances r = up_to (acceptance r) r.c

-- the initials of a row, as a set: the events below e with a successor
unfoldable pub initials : ℕ → Row → ℕ
initials e r = set_of (λ i. ltb i e && not (eqb (successor r i) 255)) 12

-- event i, below e, has a successor in a row
abbrev pub Initial : ℕ → Row → ℕ → Type 0
Initial e r i = (i < e) × (successor r i ≢ 255)

-- the node may stop: one of its sets is the empty one
unfoldable pub may_stop : Row → Bool
may_stop r = any (λ j. ltb j r.c && eqb (acceptance r j) 0) 16

-- the node after event i at node v; a number not below N stands for none
unfoldable pub step : Sheet → ℕ → ℕ → ℕ
step s v i = cond (ltb v s.n && ltb i s.e) (successor (row s v) i) s.n

-- the graph of a sheet, for the theory of walks
abbrev pub graph : Sheet → Graph
graph s = record { events = s.e; size = s.n; next = step s }

-- a list of events leads from node u to v (which is a node if it is below N)
unfoldable pub Walk : Sheet → ℕ → List ℕ → ℕ → Type 0
Walk s u [] v = u ≡ v
Walk s u (i ∷ t) v = (u < s.n) × (i < s.e) × Walk s (successor (row s u) i) t v
