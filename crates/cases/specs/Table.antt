-- Nothing to believe: 01's cases (P) as one table, to be read beside 01 and in its order: each row is a call or a whole
-- run, beside it stand the numbers that it answers, and one equation has them all. Comments that begin with 01 have the
-- words of its case. The rows that are for a request of 02 name it (K1 to K7, K9, K11). Sheets come as bytes, through
-- the definition of reading. The rows compute through the definitions that the contracts cite, the probe lists among
-- them.
use Rattle.std.specs.Prelude.{◌≡◌, Bool, true, false, List, [], ◌∷◌, ◌++◌, map, ℕ, ◌+◌, ◌-◌, ◌*◌, length, replicate, drop}
use Rattle.base.specs.Range.{first}
use Rattle.base.specs.Table.{up_to}
use Rattle.base.specs.Joined.{joined}
use Rattle.events.specs.Sets.{insert}
use Rattle.events.specs.Size.{size}
use Rattle.walks.specs.Cleared.{cleared}
use Rattle.walks.specs.Product.{code}
use Rattle.sheet_spec.specs.declared.Row.{Row}
use Rattle.sheet_spec.specs.declared.Sheet.{Sheet}
use Rattle.sheet_spec.specs.declared.ReadSheet.{ReadSheet}
use Rattle.sheet_spec.specs.Kept.{recoded, acceptance}
use Rattle.sheet_spec.specs.Refusals.{sheet_fault}
use Rattle.sheet_spec.specs.Reading.{read_sheet, answer}
use Rattle.probes_spec.specs.Listing.{listed_numbers, listed_of, list_after}
use Rattle.tests_spec.specs.declared.Run.{Run}
use Rattle.tests_spec.specs.declared.Report.{Report}
use Rattle.tests_spec.specs.declared.Report.TheVariants.{Event, Blocked}
use Rattle.tests_spec.specs.declared.Stepped.{Stepped}
use Rattle.tests_spec.specs.Runs.{open_of, step_of}
use Rattle.verdicts_spec.specs.Verdicts.{verdict_fault, verdict_of}
use Rattle.verdicts_spec.specs.Suites.{suite_fault}
use Rattle.tests_spec.specs.Numbers.{Said, said}
use Rattle.verdicts_spec.specs.Numbers.{Judgement, judged}
use Rattle.comparison_spec.specs.Comparison.{compare_fault, outcome_of, trace_after, work_after}
use Rattle.comparison_spec.specs.Numbers.{Compared, compared}
use Rattle.scripts_spec.specs.declared.Scripts.{Scripts}
use Rattle.scripts_spec.specs.Scripts.{scripts_fault, scripts_of}
use Rattle.keypad_spec.specs.Calls.{keypad_of, found_of}
use Rattle.keypad_spec.specs.Numbers.{Keyed, keyed, Looked, looked}
use Rattle.load_spec.specs.Calls.{walked_numbers, walked_of, walk_after}
use Rattle.bound_spec.specs.Calls.{bound_numbers, bound_of, reference_after, device_after}
use Rattle.sheet_spec.specs.Examples.{example_reference, example_device, coded_reference, coded_device, only_zero, only_one, may_loop, must_loop, stopped, ending, sheet}

-- a row of the table
pub data Case : Type 0 where
  -- the bytes are read
  reading : List ℕ → Case
  -- the probes of a node of a sheet are listed, in a lent list of so many places that hold 9
  listing : List ℕ → ℕ → ℕ → Case
  -- a set with each of the twelve events added, a number for each event (02, K5)
  adding : ℕ → Case
  -- the verdict of a reference on a device for test k, trace-only or not
  verdict : List ℕ → List ℕ → ℕ → Bool → Case
  -- a run of test k with choice number h, trace-only or not, through these reports
  running : List ℕ → ℕ → ℕ → Bool → List Report → Case
  -- the comparison of a reference with a device, with a work list of 28 words that hold 7 and a trace list of 8 places
  -- that hold 9
  comparing : List ℕ → List ℕ → Bool → Case
  -- the refusal of a comparison with a work list of so many words, which hold 7, and a trace list of so many places;
  -- and what the work list then holds (02, K7)
  lending : List ℕ → List ℕ → ℕ → ℕ → Case
  -- the refusal of a kept sheet: the one of these bytes, with these codes and 0 in the other places (02, K1)
  checking : List ℕ → List ℕ → Case
  -- the refusals of two such sheets, the reference first, by each call that takes two: the comparison with empty lists,
  -- the verdict for k 1,024, all verdicts in an empty list, the scripts of 17 events (02, K1, K2)
  pairing : List ℕ → List ℕ → List ℕ → List ℕ → Case
  -- the scripts of so many events for a reference and a device (02, K2)
  counting : List ℕ → List ℕ → ℕ → Case
  -- a check of a keypad's table with a sheet (02, K6)
  keying : List ℕ → List ℕ → Case
  -- a lookup of a code in a keypad's table with a sheet (02, K6)
  looking : List ℕ → List ℕ → ℕ → Case
  -- the walk of a seed on a sheet for a wished length, in a lent list of so many places that hold 9 (02, K9)
  walking : List ℕ → ℕ → ℕ → ℕ → Case
  -- the pair of sheets of p and q nodes that reaches the bound, in two lent lists of so many places that hold 9, the
  -- reference's first (02, K11)
  bounding : ℕ → ℕ → ℕ → ℕ → Case

-- sets below 256 as bytes, two for each
unfoldable pub set_bytes : List ℕ → List ℕ
set_bytes [] = []
set_bytes (x ∷ xs) = 0 ∷ x ∷ set_bytes xs

-- the bytes of a sheet with so many events and one node, which loops on each of them and has these acceptances
unfoldable pub looping : ℕ → List ℕ → List ℕ
looping e sets = 0 ∷ 0 ∷ 0 ∷ (4 + e + 2 * length sets) ∷ 1 ∷ e ∷ 1 ∷ (replicate e 0 ++ (length sets ∷ set_bytes sets))

-- the same with three events
unfoldable pub accepting : List ℕ → List ℕ
accepting sets = looping 3 sets

-- the bytes of the device of 01's example in version 2, with the codes in these bytes
unfoldable pub device_with : List ℕ → List ℕ
device_with bytes = 0 ∷ 0 ∷ 0 ∷ 22 ∷ 2 ∷ 2 ∷ 3 ∷ (bytes ++ drop 7 example_device)

-- the numbers of rows, one row after the other: twelve successors, sixteen sets and C
unfoldable pub row_numbers : List Row → List ℕ
row_numbers [] = []
row_numbers (r ∷ rs) = r.succ ++ (r.sets ++ (r.c ∷ row_numbers rs))

-- the numbers of a reading: the refusal, E, N, the twelve codes, and all 32 rows
unfoldable pub read_numbers : ReadSheet → List ℕ
read_numbers a = a.refusal ∷ a.sheet.e ∷ a.sheet.n ∷ (a.sheet.codes ++ row_numbers a.sheet.rows)

-- the numbers of a probe call: the refusal, how many probes there are, and what the lent list then holds
unfoldable pub list_numbers : Sheet → ℕ → List ℕ → List ℕ
list_numbers s v out = (listed_numbers (listed_of s v out)).0 ∷ (listed_numbers (listed_of s v out)).1 ∷ list_after s v out

-- the numbers of an answer: the refusal, the kind and the value
unfoldable pub numbers : Said → List ℕ
numbers a = a.refusal ∷ a.kind ∷ a.value ∷ []

-- the numbers of a verdict: the refusal and the kind
unfoldable pub judged_numbers : Judgement → List ℕ
judged_numbers a = a.refusal ∷ a.kind ∷ []

-- the numbers of a record: k, h, the flag of trace-only, the flag of ended, node and depth
unfoldable pub record_numbers : Run → List ℕ
record_numbers r = r.k ∷ r.h ∷ r.trace_only ∷ r.ended ∷ r.node ∷ r.depth ∷ []

-- the numbers of a run's answers, one after the other, and the record in the end
unfoldable pub answers_of : Sheet → Stepped → List Report → List ℕ
answers_of s z [] = numbers (said z.answer) ++ record_numbers z.run
answers_of s z (x ∷ xs) = numbers (said z.answer) ++ answers_of s (step_of s z.run x) xs

-- the numbers of a comparison's answer: the refusal, the kind, d, cleared, the event, the probe and the acceptance
unfoldable pub compared_numbers : Compared → List ℕ
compared_numbers a = a.refusal ∷ a.kind ∷ a.d ∷ a.cleared ∷ a.event ∷ a.probe ∷ a.acceptance ∷ []

-- the work list lent to a comparison: 28 words that hold 7
unfoldable pub work : List ℕ
work = replicate 28 7

-- the trace list lent to a comparison: 8 places that hold 9
unfoldable pub trace : List ℕ
trace = replicate 8 9

-- numbers, and a filler behind them up to a length
unfoldable pub filled : ℕ → ℕ → List ℕ → List ℕ
filled size filler l = l ++ replicate (size - length l) filler

-- a kept sheet: the one of these bytes, with these codes and 0 in the other places
unfoldable pub kept_with : List ℕ → List ℕ → Sheet
kept_with b codes = recoded (sheet b) (filled 12 0 codes)

-- the refusals of two kept sheets by each call that takes two, which lack their lists, k is 1,024, and L is 17
unfoldable pub pair_numbers : Sheet → Sheet → List ℕ
pair_numbers P Q = compare_fault P Q [] [] ∷ verdict_fault P Q 1024 ∷ suite_fault P Q [] ∷ scripts_fault P Q 17 ∷ []

-- the numbers of a count: the refusal, how many scripts both walk, how many the device stops, and the reference
unfoldable pub scripts_numbers : Scripts → List ℕ
scripts_numbers a = a.refusal ∷ a.walked ∷ a.device ∷ a.reference ∷ []

-- the numbers of a check of a keypad's table: the refusal, the kind, the code and the two rules
unfoldable pub keyed_numbers : Keyed → List ℕ
keyed_numbers a = a.refusal ∷ a.kind ∷ a.code ∷ a.first ∷ a.second ∷ []

-- the numbers of a lookup in it: the refusal, the kind, the event, the code and the two rules
unfoldable pub looked_numbers : Looked → List ℕ
looked_numbers a = a.refusal ∷ a.kind ∷ a.event ∷ a.code ∷ a.first ∷ a.second ∷ []

-- the numbers of a walk: the refusal, its length, and what the lent list then holds
unfoldable pub walk_numbers : Sheet → ℕ → ℕ → List ℕ → List ℕ
walk_numbers s seed wish out = (walked_numbers (walked_of s seed wish out)).0 ∷ (walked_numbers (walked_of s seed wish out)).1 ∷ walk_after s seed wish out

-- the numbers of the call that writes a pair: the refusal, the two lengths, and what the two lent lists then hold
unfoldable pub pair_written : ℕ → ℕ → List ℕ → List ℕ → List ℕ
pair_written p q reference device =
    let a = bound_numbers (bound_of p q reference device) in
    a.0 ∷ a.1 ∷ a.2 ∷ (reference_after p q reference device ++ device_after p q reference device)

-- the reference of p nodes and the device of q that a call writes to lists of just their lengths
unfoldable pub reference_of : ℕ → ℕ → List ℕ
reference_of p q = reference_after p q (replicate (7 * p + 5) 9) (replicate (5 * q + 7) 9)

unfoldable pub device_of : ℕ → ℕ → List ℕ
device_of p q = device_after p q (replicate (7 * p + 5) 9) (replicate (5 * q + 7) 9)

-- the first n of the 64 rules that each match four codes: mask 252, values 0, 4, 8 and so on, event 1
unfoldable pub rules : ℕ → List ℕ
rules n = joined (λ i. 252 ∷ 4 * i ∷ 1 ∷ []) n

-- what a row answers
unfoldable pub numbers_of : Case → List ℕ
numbers_of (reading b) = read_numbers (read_sheet b)
numbers_of (listing b v places) = list_numbers (sheet b) v (replicate places 9)
numbers_of (adding x) = up_to (insert x) 12
numbers_of (verdict P Q k trace_only) = judged_numbers (judged (verdict_of trace_only (sheet P) (sheet Q) k))
numbers_of (running P k h trace_only reports) = answers_of (sheet P) (open_of trace_only (sheet P) k h) reports
numbers_of (comparing P Q trace_only) = compared_numbers (compared (outcome_of trace_only (sheet P) (sheet Q) work trace)) ++ (trace_after trace_only (sheet P) (sheet Q) work trace ++ work_after (sheet P) (sheet Q) work trace)
numbers_of (lending P Q words places) =
    compare_fault (sheet P) (sheet Q) (replicate words 7) (replicate places 9) ∷ work_after (sheet P) (sheet Q) (replicate words 7) (replicate places 9)
numbers_of (checking b codes) = sheet_fault (kept_with b codes) ∷ []
numbers_of (pairing P codes Q others) = pair_numbers (kept_with P codes) (kept_with Q others)
numbers_of (counting P Q L) = scripts_numbers (scripts_of (sheet P) (sheet Q) L)
numbers_of (keying b table) = keyed_numbers (keyed (keypad_of (sheet b) table))
numbers_of (looking b table c) = looked_numbers (looked (found_of (sheet b) table c))
numbers_of (walking b seed wish places) = walk_numbers (sheet b) seed wish (replicate places 9)
numbers_of (bounding p q places others) = pair_written p q (replicate places 9) (replicate others 9)

-- the numbers of a kept node with these successors and these sets: unused successors are 255, unused sets 0, then C
unfoldable pub kept_node : List ℕ → List ℕ → List ℕ
kept_node succ sets = filled 12 255 succ ++ (filled 16 0 sets ++ (length sets ∷ []))

-- the numbers of nodes, one node after the other
unfoldable pub node_numbers : List (List ℕ) → List ℕ
node_numbers [] = []
node_numbers (l ∷ ls) = l ++ node_numbers ls

-- what an accepted reading answers: no refusal, E, N, the codes in use and 0 up to twelve, the nodes in use, and unused
-- nodes up to 32
unfoldable pub kept : ℕ → ℕ → List ℕ → List (List ℕ) → List ℕ
kept e n codes nodes =
    0 ∷ e ∷ n ∷ (filled 12 0 codes ++ (node_numbers nodes ++ node_numbers (replicate (32 - length nodes) (kept_node [] []))))

-- what a refused reading answers: the refusal, then 0 for E, N, twelve codes and the 29 numbers of each of 32 rows
unfoldable pub unread : ℕ → List ℕ
unread refusal = refusal ∷ replicate (2 + 12 + 32 * 29) 0

-- what a row of a comparison answers: its numbers, the trace list with this trace at its front, and the work list with
-- so many words that are 0; the rest of both lists is untouched
unfoldable pub lists : List ℕ → List ℕ → ℕ → List ℕ
lists numbers traced zeros = numbers ++ (filled 8 9 traced ++ filled 28 7 (replicate zeros 0))

-- what a row of a lent list answers: a refusal, and a work list with so many words that are 0 and then so many as they
-- were
unfoldable pub lent : ℕ → ℕ → ℕ → List ℕ
lent refusal zeros left = refusal ∷ (replicate zeros 0 ++ replicate left 7)

-- the bytes of the reference of p nodes, each but the last with the successors v and v + 1 and the sets 1 and 2, the
-- last with the successors p - 1 and none and the set 1
unfoldable pub staying : ℕ → List ℕ
staying p =
    0 ∷ 0 ∷ 0 ∷ (7 * p + 1) ∷ 1 ∷ 2 ∷ p
    ∷ (joined (λ v. v ∷ (v + 1) ∷ 2 ∷ 0 ∷ 1 ∷ 0 ∷ 2 ∷ []) (p - 1) ++ ((p - 1) ∷ 255 ∷ 1 ∷ 0 ∷ 1 ∷ []))

-- the bytes of the device of q nodes, each but the last with the successors v + 1 and none and the set 1, the last with
-- the successors none and 0 and the set 2
unfoldable pub climbing : ℕ → List ℕ
climbing q =
    0 ∷ 0 ∷ 0 ∷ (5 * q + 3) ∷ 1 ∷ 2 ∷ q
    ∷ (joined (λ v. (v + 1) ∷ 255 ∷ 1 ∷ 0 ∷ 1 ∷ []) (q - 1) ++ (255 ∷ 0 ∷ 1 ∷ 0 ∷ 2 ∷ []))

-- the reference of 3 nodes and the device of 4, byte by byte
unfoldable pub staying_three : List ℕ
staying_three =
    0 ∷ 0 ∷ 0 ∷ 22 ∷ 1 ∷ 2 ∷ 3
    ∷ 0 ∷ 1 ∷ 2 ∷ 0 ∷ 1 ∷ 0 ∷ 2
    ∷ 1 ∷ 2 ∷ 2 ∷ 0 ∷ 1 ∷ 0 ∷ 2
    ∷ 2 ∷ 255 ∷ 1 ∷ 0 ∷ 1
    ∷ []

unfoldable pub climbing_four : List ℕ
climbing_four =
    0 ∷ 0 ∷ 0 ∷ 23 ∷ 1 ∷ 2 ∷ 4
    ∷ 1 ∷ 255 ∷ 1 ∷ 0 ∷ 1
    ∷ 2 ∷ 255 ∷ 1 ∷ 0 ∷ 1
    ∷ 3 ∷ 255 ∷ 1 ∷ 0 ∷ 1
    ∷ 255 ∷ 0 ∷ 1 ∷ 0 ∷ 2
    ∷ []

-- what a row of a written pair answers: no refusal, the two lengths, and each list with these bytes at its front and so
-- many places as they were
unfoldable pub written : ℕ → ℕ → List ℕ → ℕ → List ℕ → ℕ → List ℕ
written l m reference left device others = 0 ∷ l ∷ m ∷ (reference ++ (replicate left 9 ++ (device ++ replicate others 9)))

-- what a row of a refused pair answers: the refusal, 0 for both lengths, and two lists of so many places as they were
unfoldable pub unwritten : ℕ → ℕ → ℕ → List ℕ
unwritten refusal places others = refusal ∷ 0 ∷ 0 ∷ (replicate places 9 ++ replicate others 9)

-- 01's cases and others of the base, each beside its answer
unfoldable pub rows_of01 : List (Case × List ℕ)
rows_of01 =
    -- the reference of 01's example: two nodes, two events
    (reading example_reference, kept 2 2 (1 ∷ 2 ∷ []) (kept_node (1 ∷ 1 ∷ []) (1 ∷ 2 ∷ []) ∷ kept_node (0 ∷ 0 ∷ []) (3 ∷ []) ∷ []))
    -- the device of 01's example: three nodes, two events
    ∷ (
      reading example_device,
      kept 2 3 (1 ∷ 2 ∷ []) (kept_node (1 ∷ 1 ∷ []) (3 ∷ []) ∷ kept_node (2 ∷ 2 ∷ []) (3 ∷ []) ∷ kept_node (0 ∷ 255 ∷ []) (1 ∷ []) ∷ []),
    )
    -- one node that loops on event 0 alone, of two
    ∷ (reading only_zero, kept 2 1 (1 ∷ 2 ∷ []) (kept_node (0 ∷ 255 ∷ []) (1 ∷ []) ∷ []))
    -- one node that loops on event 1 alone, of two
    ∷ (reading only_one, kept 2 1 (1 ∷ 2 ∷ []) (kept_node (255 ∷ 0 ∷ []) (2 ∷ []) ∷ []))
    -- one node that loops on its one event, with acceptance 0
    ∷ (reading may_loop, kept 1 1 (1 ∷ []) (kept_node (0 ∷ []) (0 ∷ []) ∷ []))
    -- one node that loops on its one event, with acceptance 1
    ∷ (reading must_loop, kept 1 1 (1 ∷ []) (kept_node (0 ∷ []) (1 ∷ []) ∷ []))
    -- one node without successors, with acceptance 0
    ∷ (reading stopped, kept 1 1 (1 ∷ []) (kept_node (255 ∷ []) (0 ∷ []) ∷ []))
    -- a sheet of the probe rows: one node that loops on three events, with acceptances 3, 5, 6
    ∷ (reading (accepting (3 ∷ 5 ∷ 6 ∷ [])), kept 3 1 (1 ∷ 2 ∷ 3 ∷ []) (kept_node (0 ∷ 0 ∷ 0 ∷ []) (3 ∷ 5 ∷ 6 ∷ []) ∷ []))
    -- sets that do not ascend break a set rule, 7; any other part of a refusal is 0
    ∷ (reading (accepting (6 ∷ 3 ∷ [])), unread 7)
    -- 01: acceptances 3 give probes 1, 2 (no refusal, their number, the probes, and three places that are untouched)
    ∷ (listing (accepting (3 ∷ [])) 0 5, 0 ∷ 2 ∷ 1 ∷ 2 ∷ 9 ∷ 9 ∷ 9 ∷ [])
    -- 01: acceptances 3, 6 give probes 2, 5
    ∷ (listing (accepting (3 ∷ 6 ∷ [])) 0 5, 0 ∷ 2 ∷ 2 ∷ 5 ∷ 9 ∷ 9 ∷ 9 ∷ [])
    -- 01: acceptances 1, 2 give probes 3
    ∷ (listing (accepting (1 ∷ 2 ∷ [])) 0 5, 0 ∷ 1 ∷ 3 ∷ 9 ∷ 9 ∷ 9 ∷ 9 ∷ [])
    -- 01: acceptances 3, 5, 6 give probes 3, 5, 6
    ∷ (listing (accepting (3 ∷ 5 ∷ 6 ∷ [])) 0 5, 0 ∷ 3 ∷ 3 ∷ 5 ∷ 6 ∷ 9 ∷ 9 ∷ [])
    -- 01: acceptances 0 give no probes
    ∷ (listing (accepting (0 ∷ [])) 0 5, 0 ∷ 0 ∷ 9 ∷ 9 ∷ 9 ∷ 9 ∷ 9 ∷ [])
    -- 02, K3: acceptances 5, 6 now give 4, 3 in place of 01's case
    ∷ (listing (accepting (5 ∷ 6 ∷ [])) 0 5, 0 ∷ 2 ∷ 4 ∷ 3 ∷ 9 ∷ 9 ∷ 9 ∷ [])
    -- acceptances 1 give probes 1
    ∷ (listing (accepting (1 ∷ [])) 0 5, 0 ∷ 1 ∷ 1 ∷ 9 ∷ 9 ∷ 9 ∷ 9 ∷ [])
    -- acceptances 1, 6 give probes 3, 5
    ∷ (listing (accepting (1 ∷ 6 ∷ [])) 0 5, 0 ∷ 2 ∷ 3 ∷ 5 ∷ 9 ∷ 9 ∷ 9 ∷ [])
    -- acceptances 6 give probes 2, 4
    ∷ (listing (accepting (6 ∷ [])) 0 5, 0 ∷ 2 ∷ 2 ∷ 4 ∷ 9 ∷ 9 ∷ 9 ∷ [])
    -- a probe list just as long as the probes is filled
    ∷ (listing (accepting (3 ∷ 6 ∷ [])) 0 2, 0 ∷ 2 ∷ 2 ∷ 5 ∷ [])
    -- a probe list that is one place short is refused with 10 and untouched
    ∷ (listing (accepting (3 ∷ 6 ∷ [])) 0 1, 10 ∷ 0 ∷ 9 ∷ [])
    -- the probes of a node that is not below N are refused with 9, and the list is untouched
    ∷ (listing (accepting (3 ∷ 6 ∷ [])) 1 5, 9 ∷ 0 ∷ 9 ∷ 9 ∷ 9 ∷ 9 ∷ 9 ∷ [])
    -- node 1 of 01's reference has acceptances 3 of two events: probes 1, 2
    ∷ (listing example_reference 1 5, 0 ∷ 2 ∷ 1 ∷ 2 ∷ 9 ∷ 9 ∷ 9 ∷ [])
    -- 01: the pair above (01's example) passes tests 0 to 4
    ∷ (verdict example_reference example_device 0 false, 0 ∷ 11 ∷ [])
    ∷ (verdict example_reference example_device 1 false, 0 ∷ 11 ∷ [])
    ∷ (verdict example_reference example_device 2 false, 0 ∷ 11 ∷ [])
    ∷ (verdict example_reference example_device 3 false, 0 ∷ 11 ∷ [])
    ∷ (verdict example_reference example_device 4 false, 0 ∷ 11 ∷ [])
    -- 01: the pair above (01's example) fails 5
    ∷ (verdict example_reference example_device 5 false, 0 ∷ 12 ∷ [])
    -- 01: the pair above (01's example) passes 6
    ∷ (verdict example_reference example_device 6 false, 0 ∷ 11 ∷ [])
    -- the pair of 01's example passes the trace-only test 5: its refusal is no stray
    ∷ (verdict example_reference example_device 5 true, 0 ∷ 11 ∷ [])
    -- a verdict for k above 1,023 is refused with 14
    ∷ (verdict example_reference example_device 1024 false, 14 ∷ 0 ∷ [])
    -- 01, the output for its example: violates after 5, cleared 5, trace 0 0 0 0 0, refused 2 by 1
    ∷ (
      comparing example_reference example_device false,
      lists (0 ∷ 23 ∷ 5 ∷ 5 ∷ 0 ∷ 2 ∷ 1 ∷ []) (0 ∷ 0 ∷ 0 ∷ 0 ∷ 0 ∷ []) 12,
    )
    -- by traces alone the device of 01's example refines the reference, cleared 6
    ∷ (comparing example_reference example_device true, lists (0 ∷ 21 ∷ 0 ∷ 6 ∷ 0 ∷ 0 ∷ 0 ∷ []) [] 12)
    -- 01: one-node sheets, reference only event 0, device only event 1 of two, each looping: d = 0, stray 1
    ∷ (comparing only_zero only_one false, lists (0 ∷ 22 ∷ 0 ∷ 0 ∷ 1 ∷ 0 ∷ 0 ∷ []) [] 2)
    -- one-node sheets, reference only event 0, device only event 1, by traces alone: d = 0, stray 1
    ∷ (comparing only_zero only_one true, lists (0 ∷ 22 ∷ 0 ∷ 0 ∷ 1 ∷ 0 ∷ 0 ∷ []) [] 2)
    -- the device that does only event 1 fails test 0 of the reference that does only event 0
    ∷ (verdict only_zero only_one 0 false, 0 ∷ 12 ∷ [])
    -- the device that does only event 1 fails the trace-only test 3 of the reference that does only event 0
    ∷ (verdict only_zero only_one 3 true, 0 ∷ 12 ∷ [])
    -- 01: a reference of one node looping on 0 with acceptance 0, against a device of one node without successors,
    -- acceptance 0, E 1 in both: refines, cleared 1
    ∷ (comparing may_loop stopped false, lists (0 ∷ 21 ∷ 0 ∷ 1 ∷ 0 ∷ 0 ∷ 0 ∷ []) [] 2)
    -- the stopped node passes tests 0 and 1 of the looping reference with acceptance 0, which may stop
    ∷ (verdict may_loop stopped 0 false, 0 ∷ 11 ∷ [])
    ∷ (verdict may_loop stopped 1 false, 0 ∷ 11 ∷ [])
    -- 01: reference looping on 0 with acceptance 1 against that stopped node: d = 0, refused 1 by 0
    ∷ (comparing must_loop stopped false, lists (0 ∷ 23 ∷ 0 ∷ 0 ∷ 0 ∷ 1 ∷ 0 ∷ []) [] 2)
    -- by traces alone the stopped node refines the looping reference with acceptance 1, cleared 1
    ∷ (comparing must_loop stopped true, lists (0 ∷ 21 ∷ 0 ∷ 1 ∷ 0 ∷ 0 ∷ 0 ∷ []) [] 2)
    -- the stopped node fails tests 0 and 1 of the looping reference with acceptance 1
    ∷ (verdict must_loop stopped 0 false, 0 ∷ 12 ∷ [])
    ∷ (verdict must_loop stopped 1 false, 0 ∷ 12 ∷ [])
    -- the stopped node passes the trace-only test 0 of the looping reference with acceptance 1
    ∷ (verdict must_loop stopped 0 true, 0 ∷ 11 ∷ [])
    -- 01: any case sheet against itself refines (`outcome_self` says so of every accepted sheet)
    ∷ (comparing example_reference example_reference false, lists (0 ∷ 21 ∷ 0 ∷ 2 ∷ 0 ∷ 0 ∷ 0 ∷ []) [] 8)
    ∷ (comparing example_device example_device false, lists (0 ∷ 21 ∷ 0 ∷ 3 ∷ 0 ∷ 0 ∷ 0 ∷ []) [] 18)
    ∷ (comparing only_zero only_zero false, lists (0 ∷ 21 ∷ 0 ∷ 1 ∷ 0 ∷ 0 ∷ 0 ∷ []) [] 2)
    ∷ (comparing only_one only_one false, lists (0 ∷ 21 ∷ 0 ∷ 1 ∷ 0 ∷ 0 ∷ 0 ∷ []) [] 2)
    ∷ (comparing may_loop may_loop false, lists (0 ∷ 21 ∷ 0 ∷ 1 ∷ 0 ∷ 0 ∷ 0 ∷ []) [] 2)
    ∷ (comparing must_loop must_loop false, lists (0 ∷ 21 ∷ 0 ∷ 1 ∷ 0 ∷ 0 ∷ 0 ∷ []) [] 2)
    ∷ (comparing stopped stopped false, lists (0 ∷ 21 ∷ 0 ∷ 1 ∷ 0 ∷ 0 ∷ 0 ∷ []) [] 2)
    -- a verdict on sheets whose E differs is refused with 11
    ∷ (verdict example_reference stopped 0 false, 11 ∷ 0 ∷ [])
    -- a comparison of sheets whose E differs is refused with 11, and both lists are untouched
    ∷ (comparing example_reference stopped false, lists (11 ∷ 0 ∷ 0 ∷ 0 ∷ 0 ∷ 0 ∷ 0 ∷ []) [] 0)
    -- at depth 5 the run offers probe 2 alone; blocked there it has failed as refused; a later report is refused with
    -- 16; the last six numbers of a run are its record in the end
    ∷ (
      running example_reference 5 1 false (Event 0 ∷ Event 0 ∷ Event 0 ∷ Event 0 ∷ Event 0 ∷ Blocked ∷ Blocked ∷ []),
      0 ∷ 1 ∷ 3 ∷ 0 ∷ 1 ∷ 3 ∷ 0 ∷ 1 ∷ 3 ∷ 0 ∷ 1 ∷ 3 ∷ 0 ∷ 1 ∷ 3 ∷ 0 ∷ 1 ∷ 2 ∷ 0 ∷ 3 ∷ 2 ∷ 16 ∷ 0 ∷ 0 ∷ 5 ∷ 1 ∷ 0 ∷ 1 ∷ 1 ∷ 5 ∷ [],
    )
    -- an event not below E is refused with 15, at depth 5 an event not offered with 17, and neither alters the record;
    -- the probe's event passes
    ∷ (
      running example_reference 5 0 false (Event 0 ∷ Event 1 ∷ Event 0 ∷ Event 1 ∷ Event 2 ∷ Event 0 ∷ Event 1 ∷ Event 0 ∷ []),
      0 ∷ 1 ∷ 3 ∷ 0 ∷ 1 ∷ 3 ∷ 0 ∷ 1 ∷ 3 ∷ 0 ∷ 1 ∷ 3 ∷ 0 ∷ 1 ∷ 3 ∷ 15 ∷ 0 ∷ 0 ∷ 0 ∷ 1 ∷ 1 ∷ 17 ∷ 0 ∷ 0 ∷ 0 ∷ 4 ∷ 0 ∷ 5 ∷ 0 ∷ 0 ∷ 1 ∷ 1 ∷ 5 ∷ [],
    )
    -- an event outside the initials is offered too, and fails as stray
    ∷ (running only_zero 0 0 false (Event 1 ∷ []), 0 ∷ 1 ∷ 3 ∷ 0 ∷ 2 ∷ 1 ∷ 0 ∷ 0 ∷ 0 ∷ 1 ∷ 0 ∷ 0 ∷ [])
    -- a trace-only run of test 2 passes with its third accepted event
    ∷ (
      running only_zero 2 0 true (Event 0 ∷ Event 0 ∷ Event 0 ∷ []),
      0 ∷ 1 ∷ 3 ∷ 0 ∷ 1 ∷ 3 ∷ 0 ∷ 1 ∷ 3 ∷ 0 ∷ 4 ∷ 0 ∷ 2 ∷ 0 ∷ 1 ∷ 1 ∷ 0 ∷ 2 ∷ [],
    )
    -- a trace-only run passes when blocked at depth k; below it, it is inconclusive (02, K4)
    ∷ (
      running only_zero 2 0 true (Event 0 ∷ Event 0 ∷ Blocked ∷ []),
      0 ∷ 1 ∷ 3 ∷ 0 ∷ 1 ∷ 3 ∷ 0 ∷ 1 ∷ 3 ∷ 0 ∷ 4 ∷ 0 ∷ 2 ∷ 0 ∷ 1 ∷ 1 ∷ 0 ∷ 2 ∷ [],
    )
    ∷ (
      running only_zero 2 0 true (Event 0 ∷ Blocked ∷ []),
      0 ∷ 1 ∷ 3 ∷ 0 ∷ 1 ∷ 3 ∷ 0 ∷ 5 ∷ 0 ∷ 2 ∷ 0 ∷ 1 ∷ 1 ∷ 0 ∷ 1 ∷ [],
    )
    -- a trace-only run fails as stray
    ∷ (
      running only_zero 2 0 true (Event 0 ∷ Event 1 ∷ []),
      0 ∷ 1 ∷ 3 ∷ 0 ∷ 1 ∷ 3 ∷ 0 ∷ 2 ∷ 1 ∷ 2 ∷ 0 ∷ 1 ∷ 1 ∷ 0 ∷ 1 ∷ [],
    )
    -- at depth k a node that may stop offers no probe: its event is refused with 17, and blocked passes
    ∷ (
      running may_loop 1 7 false (Event 0 ∷ Event 0 ∷ Blocked ∷ []),
      0 ∷ 1 ∷ 1 ∷ 0 ∷ 1 ∷ 0 ∷ 17 ∷ 0 ∷ 0 ∷ 0 ∷ 4 ∷ 0 ∷ 1 ∷ 7 ∷ 0 ∷ 1 ∷ 0 ∷ 1 ∷ [],
    )
    -- opening a run for k above 1,023 is refused with 14, and its record is 0
    ∷ (running may_loop 1024 0 false [], 14 ∷ 0 ∷ 0 ∷ 0 ∷ 0 ∷ 0 ∷ 0 ∷ 0 ∷ 0 ∷ [])
    ∷ []

-- the cases of 02's requests, each beside its answer
unfoldable pub rows_of02 : List (Case × List ℕ)
rows_of02 =
    -- 02, K5: each event added to the empty set
    (adding 0, 1 ∷ 2 ∷ 4 ∷ 8 ∷ 16 ∷ 32 ∷ 64 ∷ 128 ∷ 256 ∷ 512 ∷ 1024 ∷ 2048 ∷ [])
    -- 02, K5: an event that is there already changes nothing
    ∷ (
      adding 65535,
      65535 ∷ 65535 ∷ 65535 ∷ 65535 ∷ 65535 ∷ 65535 ∷ 65535 ∷ 65535 ∷ 65535 ∷ 65535 ∷ 65535 ∷ 65535 ∷ [],
    )
    -- 02, K5: the even events are there already, the odd ones are not
    ∷ (adding 1365, 1365 ∷ 1367 ∷ 1365 ∷ 1373 ∷ 1365 ∷ 1397 ∷ 1365 ∷ 1493 ∷ 1365 ∷ 1877 ∷ 1365 ∷ 3413 ∷ [])
    -- 02, K7: the work list holds 2·p·q words, here 12, and they are 0 at the end
    ∷ (lending example_reference example_device 12 5, lent 0 12 0)
    -- 02, K7: below 2·p·q words 12 applies, and the list is untouched
    ∷ (lending example_reference example_device 11 5, lent 12 0 11)
    -- 02, K7: words from 2·p·q on are left: one word more
    ∷ (lending example_reference example_device 13 5, lent 0 12 1)
    -- 02, K7: words from 2·p·q on are left: one word short of 3·p·q
    ∷ (lending example_reference example_device 17 5, lent 0 12 5)
    -- 02, K7: words from 2·p·q on are left: 3·p·q words
    ∷ (lending example_reference example_device 18 5, lent 0 12 6)
    -- a trace list below p·q − 1 bytes is refused with 13
    ∷ (lending example_reference example_device 12 4, lent 13 0 12)
    -- where both lists are too short, 12 comes before 13
    ∷ (lending example_reference example_device 11 4, lent 12 0 11)
    -- empty lists are refused with 12
    ∷ (lending example_reference example_device 0 0, lent 12 0 0)
    -- where E differs and the lists are too short, 11 comes before 12
    ∷ (lending example_reference stopped 0 0, lent 11 0 0)
    -- 02, K7: one pair needs two words, and no place for a trace
    ∷ (lending only_zero only_one 2 0, lent 0 2 0)
    -- 02, K7: one word is too few for one pair
    ∷ (lending only_zero only_one 1 0, lent 12 0 1)
    -- 02, K1: the reference in version 2: after N, one two-byte code for each event
    ∷ (
      reading coded_reference,
      kept 2 2 (257 ∷ 258 ∷ []) (kept_node (1 ∷ 1 ∷ []) (1 ∷ 2 ∷ []) ∷ kept_node (0 ∷ 0 ∷ []) (3 ∷ []) ∷ []),
    )
    -- 02, K1: a version 2 device with other codes; a code may be 0, and the high byte comes first
    ∷ (
      reading (device_with (255 ∷ 254 ∷ 0 ∷ 0 ∷ [])),
      kept 2 3 (65534 ∷ 0 ∷ []) (kept_node (1 ∷ 1 ∷ []) (3 ∷ []) ∷ kept_node (2 ∷ 2 ∷ []) (3 ∷ []) ∷ kept_node (0 ∷ 255 ∷ []) (1 ∷ []) ∷ []),
    )
    -- 02, K1: refusal 2 now means neither version: 3, and 0
    ∷ (reading (0 ∷ 0 ∷ 0 ∷ 7 ∷ 3 ∷ 1 ∷ 1 ∷ 0 ∷ 1 ∷ 0 ∷ 1 ∷ []), unread 2)
    ∷ (reading (0 ∷ 0 ∷ 0 ∷ 7 ∷ 0 ∷ 1 ∷ 1 ∷ 0 ∷ 1 ∷ 0 ∷ 1 ∷ []), unread 2)
    -- 02, K1: codes cut off count as 4: the second ends after one byte, and a third where two are equal
    ∷ (reading (0 ∷ 0 ∷ 0 ∷ 6 ∷ 2 ∷ 2 ∷ 1 ∷ 0 ∷ 1 ∷ 0 ∷ []), unread 4)
    ∷ (reading (0 ∷ 0 ∷ 0 ∷ 8 ∷ 2 ∷ 3 ∷ 1 ∷ 0 ∷ 1 ∷ 0 ∷ 1 ∷ 0 ∷ []), unread 4)
    -- 02, K1: a code given twice is refused with 18, after the codes are known to be complete: they are, and nothing
    -- else is there; codes that differ leave the node that is not there, 4
    ∷ (reading (0 ∷ 0 ∷ 0 ∷ 7 ∷ 2 ∷ 2 ∷ 1 ∷ 0 ∷ 1 ∷ 0 ∷ 1 ∷ []), unread 18)
    ∷ (reading (0 ∷ 0 ∷ 0 ∷ 7 ∷ 2 ∷ 2 ∷ 1 ∷ 0 ∷ 1 ∷ 0 ∷ 2 ∷ []), unread 4)
    -- 02, K1: and before the nodes are walked: the C of node 0 is 0; codes that differ leave 5
    ∷ (reading (0 ∷ 0 ∷ 0 ∷ 10 ∷ 2 ∷ 2 ∷ 1 ∷ 0 ∷ 1 ∷ 0 ∷ 1 ∷ 0 ∷ 0 ∷ 0 ∷ []), unread 18)
    ∷ (reading (0 ∷ 0 ∷ 0 ∷ 10 ∷ 2 ∷ 2 ∷ 1 ∷ 0 ∷ 1 ∷ 0 ∷ 2 ∷ 0 ∷ 0 ∷ 0 ∷ []), unread 5)
    -- 02, K1: a version 1 sheet counts as having code i + 1 for event i: it agrees with a version 2 device that has
    -- those codes, and the answer is that of 01's example
    ∷ (
      comparing example_reference coded_device false,
      lists (0 ∷ 23 ∷ 5 ∷ 5 ∷ 0 ∷ 2 ∷ 1 ∷ []) (0 ∷ 0 ∷ 0 ∷ 0 ∷ 0 ∷ []) 12,
    )
    -- 02, K1: two version 2 sheets with equal codes
    ∷ (
      comparing coded_reference (device_with (1 ∷ 1 ∷ 1 ∷ 2 ∷ [])) false,
      lists (0 ∷ 23 ∷ 5 ∷ 5 ∷ 0 ∷ 2 ∷ 1 ∷ []) (0 ∷ 0 ∷ 0 ∷ 0 ∷ 0 ∷ []) 12,
    )
    -- 02, K1: a comparison of sheets with unequal codes is refused with 19, and both lists are untouched; by traces
    -- alone too
    ∷ (comparing coded_reference coded_device false, lists (19 ∷ 0 ∷ 0 ∷ 0 ∷ 0 ∷ 0 ∷ 0 ∷ []) [] 0)
    ∷ (comparing coded_reference coded_device true, lists (19 ∷ 0 ∷ 0 ∷ 0 ∷ 0 ∷ 0 ∷ 0 ∷ []) [] 0)
    -- 02, K1: version 2 with version 1, whose codes are others
    ∷ (comparing coded_reference example_device false, lists (19 ∷ 0 ∷ 0 ∷ 0 ∷ 0 ∷ 0 ∷ 0 ∷ []) [] 0)
    -- 02, K1: the same two codes, each of the other event; and only the last event with another code
    ∷ (comparing coded_reference (device_with (1 ∷ 2 ∷ 1 ∷ 1 ∷ [])) false, lists (19 ∷ 0 ∷ 0 ∷ 0 ∷ 0 ∷ 0 ∷ 0 ∷ []) [] 0)
    ∷ (comparing coded_reference (device_with (1 ∷ 1 ∷ 1 ∷ 3 ∷ [])) false, lists (19 ∷ 0 ∷ 0 ∷ 0 ∷ 0 ∷ 0 ∷ 0 ∷ []) [] 0)
    -- 02, K1: 19 comes directly after 11: where E differs too it is 11
    ∷ (comparing coded_reference stopped false, lists (11 ∷ 0 ∷ 0 ∷ 0 ∷ 0 ∷ 0 ∷ 0 ∷ []) [] 0)
    -- 02, K1: a verdict on sheets that agree in codes, and on others, for a test and a trace-only one
    ∷ (verdict example_reference coded_device 5 false, 0 ∷ 12 ∷ [])
    ∷ (verdict coded_reference coded_device 5 false, 19 ∷ 0 ∷ [])
    ∷ (verdict coded_reference coded_device 5 true, 19 ∷ 0 ∷ [])
    -- 02, K1: of a verdict 19 comes before 14
    ∷ (verdict coded_reference coded_device 1024 false, 19 ∷ 0 ∷ [])
    -- 02, K1: of a comparison 19 comes before 12, and the list is untouched
    ∷ (lending coded_reference coded_device 0 0, lent 19 0 0)
    ∷ (lending coded_reference coded_device 11 5, lent 19 0 11)
    -- 02, K1: later calls check 18 again; the two zeros of a sheet without codes are one code twice
    ∷ (checking example_reference (7 ∷ 7 ∷ []), 18 ∷ [])
    ∷ (checking example_reference [], 18 ∷ [])
    -- 02, K1: unused codes hold 0, which may be used too, and a wrong one counts as 7; 18 comes before it
    ∷ (checking example_reference (0 ∷ 7 ∷ []), 0 ∷ [])
    ∷ (checking example_reference (1 ∷ 2 ∷ 3 ∷ []), 7 ∷ [])
    ∷ (checking example_reference (7 ∷ 7 ∷ 3 ∷ []), 18 ∷ [])
    -- 02, K1, K2: sheets that agree get the refusals of the calls themselves: 12, 14, 10 and 20
    ∷ (pairing example_reference (5 ∷ 9 ∷ []) example_device (5 ∷ 9 ∷ []), 12 ∷ 14 ∷ 10 ∷ 20 ∷ [])
    -- 02, K1: unequal codes get 19 before them
    ∷ (pairing example_reference (5 ∷ 9 ∷ []) example_device (9 ∷ 5 ∷ []), 19 ∷ 19 ∷ 19 ∷ 19 ∷ [])
    -- 02, K1: E differs and so does a code: 11
    ∷ (pairing example_reference (5 ∷ 9 ∷ []) stopped (6 ∷ []), 11 ∷ 11 ∷ 11 ∷ 11 ∷ [])
    -- 02, K1: 18 is the sheet writer's: of the reference it comes before a device's 7, and a reference's 7 before it
    ∷ (pairing example_reference (7 ∷ 7 ∷ []) example_device (1 ∷ 2 ∷ 3 ∷ []), 18 ∷ 18 ∷ 18 ∷ 18 ∷ [])
    ∷ (pairing example_reference (1 ∷ 2 ∷ 3 ∷ []) example_device (7 ∷ 7 ∷ []), 7 ∷ 7 ∷ 7 ∷ 7 ∷ [])
    -- 02, K1: of a device it comes before 19, and before 11
    ∷ (pairing example_reference (1 ∷ 2 ∷ []) example_device (7 ∷ 7 ∷ []), 18 ∷ 18 ∷ 18 ∷ 18 ∷ [])
    ∷ (pairing stopped (1 ∷ []) example_device (7 ∷ 7 ∷ []), 18 ∷ 18 ∷ 18 ∷ 18 ∷ [])
    -- 02, K2: of 01's pair, by length: no refusal, walked by both, stopped by the device, stopped by the reference
    ∷ (counting example_reference example_device 0, 0 ∷ 1 ∷ 0 ∷ 0 ∷ [])
    ∷ (counting example_reference example_device 1, 0 ∷ 2 ∷ 0 ∷ 0 ∷ [])
    ∷ (counting example_reference example_device 2, 0 ∷ 4 ∷ 0 ∷ 0 ∷ [])
    ∷ (counting example_reference example_device 3, 0 ∷ 4 ∷ 4 ∷ 0 ∷ [])
    ∷ (counting example_reference example_device 6, 0 ∷ 16 ∷ 48 ∷ 0 ∷ [])
    -- 02, K2: of 01's pair exchanged: what stopped the device now stops the reference
    ∷ (counting example_device example_reference 3, 0 ∷ 4 ∷ 0 ∷ 4 ∷ [])
    -- 02, K2: of version 2, where the codes agree
    ∷ (counting example_reference coded_device 3, 0 ∷ 4 ∷ 4 ∷ 0 ∷ [])
    -- 02, K2: of the reference that does only event 0 and the device that does only event 1
    ∷ (counting only_zero only_one 1, 0 ∷ 0 ∷ 1 ∷ 1 ∷ [])
    ∷ (counting only_zero only_one 3, 0 ∷ 0 ∷ 4 ∷ 4 ∷ [])
    -- 02, K2: an event that neither can do stops the device, which is asked first
    ∷ (counting stopped stopped 1, 0 ∷ 0 ∷ 1 ∷ 0 ∷ [])
    ∷ (counting only_zero only_zero 3, 0 ∷ 1 ∷ 7 ∷ 0 ∷ [])
    -- 02, K2: the looping reference with acceptance 1 against the stopped node, and exchanged
    ∷ (counting must_loop stopped 2, 0 ∷ 0 ∷ 1 ∷ 0 ∷ [])
    ∷ (counting stopped must_loop 2, 0 ∷ 0 ∷ 0 ∷ 1 ∷ [])
    -- 02, K2: acceptances play no part: a device that may stop walks
    ∷ (counting must_loop may_loop 2, 0 ∷ 1 ∷ 0 ∷ 0 ∷ [])
    -- 02, K2: L 16 is counted, above it 20 applies, and all counts are 0
    ∷ (counting must_loop must_loop 16, 0 ∷ 1 ∷ 0 ∷ 0 ∷ [])
    ∷ (counting must_loop must_loop 17, 20 ∷ 0 ∷ 0 ∷ 0 ∷ [])
    ∷ (counting example_reference example_device 17, 20 ∷ 0 ∷ 0 ∷ 0 ∷ [])
    ∷ (counting example_reference example_device 65535, 20 ∷ 0 ∷ 0 ∷ 0 ∷ [])
    -- 02, K2: 11 and 19 hold here too, and come before 20
    ∷ (counting example_reference stopped 2, 11 ∷ 0 ∷ 0 ∷ 0 ∷ [])
    ∷ (counting example_reference stopped 17, 11 ∷ 0 ∷ 0 ∷ 0 ∷ [])
    ∷ (counting coded_reference coded_device 2, 19 ∷ 0 ∷ 0 ∷ 0 ∷ [])
    ∷ (counting coded_reference coded_device 17, 19 ∷ 0 ∷ 0 ∷ 0 ∷ [])
    ∷ (counting coded_reference stopped 17, 11 ∷ 0 ∷ 0 ∷ 0 ∷ [])
    -- 02, K2: a sheet's own refusal comes before them: that of a refused reading, all 0, is 3
    ∷ (counting [] example_device 2, 3 ∷ 0 ∷ 0 ∷ 0 ∷ [])
    ∷ (counting example_reference [] 17, 3 ∷ 0 ∷ 0 ∷ 0 ∷ [])
    -- 02, K3: a list with just the two places, and one that is one place short
    ∷ (listing (accepting (5 ∷ 6 ∷ [])) 0 2, 0 ∷ 2 ∷ 4 ∷ 3 ∷ [])
    ∷ (listing (accepting (5 ∷ 6 ∷ [])) 0 1, 10 ∷ 0 ∷ 9 ∷ [])
    -- 02, K3: of four events acceptances 7, 9, 10, 12 give probes 9, 10, 12 of two events, by number, then 7 of three
    ∷ (listing (looping 4 (7 ∷ 9 ∷ 10 ∷ 12 ∷ [])) 0 5, 0 ∷ 4 ∷ 9 ∷ 10 ∷ 12 ∷ 7 ∷ 9 ∷ [])
    -- 02, K3: the choice h follows the new order: at a node with acceptances 5, 6 number 0 offers 4, number 1 offers 3,
    -- and number 2 again 4; what is outside the probe is refused with 17, an event of it passes, blocked has failed
    ∷ (
      running (accepting (5 ∷ 6 ∷ [])) 0 0 false (Event 0 ∷ Event 2 ∷ []),
      0 ∷ 1 ∷ 4 ∷ 17 ∷ 0 ∷ 0 ∷ 0 ∷ 4 ∷ 0 ∷ 0 ∷ 0 ∷ 0 ∷ 1 ∷ 0 ∷ 0 ∷ [],
    )
    ∷ (
      running (accepting (5 ∷ 6 ∷ [])) 0 1 false (Event 2 ∷ Blocked ∷ []),
      0 ∷ 1 ∷ 3 ∷ 17 ∷ 0 ∷ 0 ∷ 0 ∷ 3 ∷ 3 ∷ 0 ∷ 1 ∷ 0 ∷ 1 ∷ 0 ∷ 0 ∷ [],
    )
    ∷ (running (accepting (5 ∷ 6 ∷ [])) 0 2 false [], 0 ∷ 1 ∷ 4 ∷ 0 ∷ 2 ∷ 0 ∷ 0 ∷ 0 ∷ 0 ∷ [])
    -- 02, K3: the refused probe that a comparison names follows the new order: a device that may stop misses both
    -- probes, and 4 is named; one that accepts 3, 4 misses 4 by 3, and 3, which is named no more, by 4
    ∷ (comparing (accepting (5 ∷ 6 ∷ [])) (accepting (0 ∷ [])) false, lists (0 ∷ 23 ∷ 0 ∷ 0 ∷ 0 ∷ 4 ∷ 0 ∷ []) [] 2)
    ∷ (comparing (accepting (5 ∷ 6 ∷ [])) (accepting (3 ∷ 4 ∷ [])) false, lists (0 ∷ 23 ∷ 0 ∷ 0 ∷ 0 ∷ 4 ∷ 3 ∷ []) [] 2)
    -- a device that accepts 4 misses 3 alone, the second in the list
    ∷ (comparing (accepting (5 ∷ 6 ∷ [])) (accepting (4 ∷ [])) false, lists (0 ∷ 23 ∷ 0 ∷ 0 ∷ 0 ∷ 3 ∷ 4 ∷ []) [] 2)
    -- whether a device can fail a test does not hang on the order: two fail by some choice, the sheet itself passes
    ∷ (verdict (accepting (5 ∷ 6 ∷ [])) (accepting (3 ∷ 4 ∷ [])) 0 false, 0 ∷ 12 ∷ [])
    ∷ (verdict (accepting (5 ∷ 6 ∷ [])) (accepting (4 ∷ [])) 0 false, 0 ∷ 12 ∷ [])
    ∷ (verdict (accepting (5 ∷ 6 ∷ [])) (accepting (5 ∷ 6 ∷ [])) 0 false, 0 ∷ 11 ∷ [])
    -- 02, K4: a trace-only run blocked at depth 4 of test 5 is inconclusive; it is marked as ended, its node, its depth
    -- and all else stay, and every later report is refused with 16
    ∷ (
      running example_reference 5 1 true (Event 0 ∷ Event 1 ∷ Event 0 ∷ Event 1 ∷ Blocked ∷ Blocked ∷ Event 0 ∷ []),
      0 ∷ 1 ∷ 3 ∷ 0 ∷ 1 ∷ 3 ∷ 0 ∷ 1 ∷ 3 ∷ 0 ∷ 1 ∷ 3 ∷ 0 ∷ 1 ∷ 3 ∷ 0 ∷ 5 ∷ 0 ∷ 16 ∷ 0 ∷ 0 ∷ 16 ∷ 0 ∷ 0 ∷ 5 ∷ 1 ∷ 1 ∷ 1 ∷ 0 ∷ 4 ∷ [],
    )
    -- 02, K4: at depth 5 of test 5 it passes
    ∷ (
      running example_reference 5 0 true (Event 0 ∷ Event 1 ∷ Event 0 ∷ Event 1 ∷ Event 0 ∷ Blocked ∷ []),
      0 ∷ 1 ∷ 3 ∷ 0 ∷ 1 ∷ 3 ∷ 0 ∷ 1 ∷ 3 ∷ 0 ∷ 1 ∷ 3 ∷ 0 ∷ 1 ∷ 3 ∷ 0 ∷ 1 ∷ 3 ∷ 0 ∷ 4 ∷ 0 ∷ 5 ∷ 0 ∷ 1 ∷ 1 ∷ 1 ∷ 5 ∷ [],
    )
    -- 02, K4: in a run that is not trace-only blocked at depth 4 of test 5 has failed, as before
    ∷ (
      running example_reference 5 0 false (Event 0 ∷ Event 1 ∷ Event 0 ∷ Event 1 ∷ Blocked ∷ []),
      0 ∷ 1 ∷ 3 ∷ 0 ∷ 1 ∷ 3 ∷ 0 ∷ 1 ∷ 3 ∷ 0 ∷ 1 ∷ 3 ∷ 0 ∷ 1 ∷ 3 ∷ 0 ∷ 3 ∷ 3 ∷ 5 ∷ 0 ∷ 0 ∷ 1 ∷ 0 ∷ 4 ∷ [],
    )
    -- 02, K4: test 0 has nothing below depth k: blocked passes, where the node may stop and where it may not
    ∷ (running may_loop 0 0 true (Blocked ∷ []), 0 ∷ 1 ∷ 1 ∷ 0 ∷ 4 ∷ 0 ∷ 0 ∷ 0 ∷ 1 ∷ 1 ∷ 0 ∷ 0 ∷ [])
    ∷ (running must_loop 0 0 true (Blocked ∷ []), 0 ∷ 1 ∷ 1 ∷ 0 ∷ 4 ∷ 0 ∷ 0 ∷ 0 ∷ 1 ∷ 1 ∷ 0 ∷ 0 ∷ [])
    -- 02, K4: in test 1 both are inconclusive at depth 0, and so is a node without initials; at depth 1 they pass; not
    -- trace-only the node that may stop passes at depth 0, as before
    ∷ (running may_loop 1 0 true (Blocked ∷ []), 0 ∷ 1 ∷ 1 ∷ 0 ∷ 5 ∷ 0 ∷ 1 ∷ 0 ∷ 1 ∷ 1 ∷ 0 ∷ 0 ∷ [])
    ∷ (running must_loop 1 0 true (Blocked ∷ []), 0 ∷ 1 ∷ 1 ∷ 0 ∷ 5 ∷ 0 ∷ 1 ∷ 0 ∷ 1 ∷ 1 ∷ 0 ∷ 0 ∷ [])
    ∷ (running stopped 1 0 true (Blocked ∷ []), 0 ∷ 1 ∷ 1 ∷ 0 ∷ 5 ∷ 0 ∷ 1 ∷ 0 ∷ 1 ∷ 1 ∷ 0 ∷ 0 ∷ [])
    ∷ (running may_loop 1 0 true (Event 0 ∷ Blocked ∷ []), 0 ∷ 1 ∷ 1 ∷ 0 ∷ 1 ∷ 1 ∷ 0 ∷ 4 ∷ 0 ∷ 1 ∷ 0 ∷ 1 ∷ 1 ∷ 0 ∷ 1 ∷ [])
    ∷ (running must_loop 1 0 true (Event 0 ∷ Blocked ∷ []), 0 ∷ 1 ∷ 1 ∷ 0 ∷ 1 ∷ 1 ∷ 0 ∷ 4 ∷ 0 ∷ 1 ∷ 0 ∷ 1 ∷ 1 ∷ 0 ∷ 1 ∷ [])
    ∷ (running may_loop 1 0 false (Blocked ∷ []), 0 ∷ 1 ∷ 1 ∷ 0 ∷ 4 ∷ 0 ∷ 1 ∷ 0 ∷ 0 ∷ 1 ∷ 0 ∷ 0 ∷ [])
    -- 02, K4: the last test, at its start: inconclusive
    ∷ (running must_loop 1023 7 true (Blocked ∷ []), 0 ∷ 1 ∷ 1 ∷ 0 ∷ 5 ∷ 0 ∷ 1023 ∷ 7 ∷ 1 ∷ 1 ∷ 0 ∷ 0 ∷ [])
    -- 02, K4: a device that stops at once trace-refines one that must loop, and meets no failure in a trace-only test;
    -- each other test it fails
    ∷ (comparing must_loop stopped true, lists (0 ∷ 21 ∷ 0 ∷ 1 ∷ 0 ∷ 0 ∷ 0 ∷ []) [] 2)
    ∷ (verdict must_loop stopped 0 true, 0 ∷ 11 ∷ [])
    ∷ (verdict must_loop stopped 1 true, 0 ∷ 11 ∷ [])
    ∷ (verdict must_loop stopped 1023 true, 0 ∷ 11 ∷ [])
    ∷ (verdict must_loop stopped 0 false, 0 ∷ 12 ∷ [])
    ∷ (verdict must_loop stopped 1 false, 0 ∷ 12 ∷ [])
    ∷ []

-- the rows of keypads
unfoldable pub rows_of_keypads : List (Case × List ℕ)
rows_of_keypads =
    -- 02, K6: one rule that matches every code, with E 1; two that share the codes, with E 2: good
    (keying may_loop (0 ∷ 0 ∷ 0 ∷ []), 0 ∷ 31 ∷ 0 ∷ 0 ∷ 0 ∷ [])
    ∷ (keying example_reference (128 ∷ 0 ∷ 0 ∷ 128 ∷ 128 ∷ 1 ∷ []), 0 ∷ 31 ∷ 0 ∷ 0 ∷ 0 ∷ [])
    -- 02, K6: the smallest code that no rule matches is a gap: 128, with one rule and with three
    ∷ (keying example_reference (128 ∷ 0 ∷ 0 ∷ []), 0 ∷ 32 ∷ 128 ∷ 0 ∷ 0 ∷ [])
    ∷ (keying example_reference (192 ∷ 0 ∷ 0 ∷ 192 ∷ 64 ∷ 1 ∷ 192 ∷ 192 ∷ 0 ∷ []), 0 ∷ 32 ∷ 128 ∷ 0 ∷ 0 ∷ [])
    -- 02, K6: the smallest code that more than one rule matches is an overlap, with the two lowest rules that match it,
    -- also where they have one event
    ∷ (keying example_reference (128 ∷ 0 ∷ 0 ∷ 0 ∷ 0 ∷ 1 ∷ []), 0 ∷ 33 ∷ 0 ∷ 0 ∷ 1 ∷ [])
    ∷ (keying example_reference (0 ∷ 0 ∷ 0 ∷ 0 ∷ 0 ∷ 0 ∷ []), 0 ∷ 33 ∷ 0 ∷ 0 ∷ 1 ∷ [])
    ∷ (keying example_reference (1 ∷ 0 ∷ 0 ∷ 1 ∷ 1 ∷ 1 ∷ 3 ∷ 2 ∷ 1 ∷ []), 0 ∷ 33 ∷ 2 ∷ 0 ∷ 2 ∷ [])
    ∷ (keying example_reference (255 ∷ 7 ∷ 0 ∷ 0 ∷ 0 ∷ 1 ∷ 15 ∷ 7 ∷ 0 ∷ 255 ∷ 7 ∷ 1 ∷ []), 0 ∷ 33 ∷ 7 ∷ 0 ∷ 1 ∷ [])
    -- 02, K6: a gap and an overlap in one table: the smaller code is named
    ∷ (keying example_reference (128 ∷ 0 ∷ 0 ∷ 192 ∷ 0 ∷ 1 ∷ []), 0 ∷ 33 ∷ 0 ∷ 0 ∷ 1 ∷ [])
    ∷ (keying example_reference (128 ∷ 128 ∷ 0 ∷ 192 ∷ 192 ∷ 1 ∷ []), 0 ∷ 32 ∷ 0 ∷ 0 ∷ 0 ∷ [])
    -- 02, K6: code 255 alone is bad: a gap, an overlap
    ∷ (keying example_reference (128 ∷ 0 ∷ 0 ∷ 192 ∷ 128 ∷ 1 ∷ 224 ∷ 192 ∷ 0 ∷ 240 ∷ 224 ∷ 1 ∷ 248 ∷ 240 ∷ 0 ∷ 252 ∷ 248 ∷ 1 ∷ 254 ∷ 252 ∷ 0 ∷ 255 ∷ 254 ∷ 1 ∷ []), 0 ∷ 32 ∷ 255 ∷ 0 ∷ 0 ∷ [])
    ∷ (keying example_reference (0 ∷ 0 ∷ 0 ∷ 255 ∷ 255 ∷ 1 ∷ []), 0 ∷ 33 ∷ 255 ∷ 0 ∷ 1 ∷ [])
    -- 02, K6: 65 rules, none, and a part of one, after 64 too, are refused with 21
    ∷ (keying example_reference (rules 65), 21 ∷ 0 ∷ 0 ∷ 0 ∷ 0 ∷ [])
    ∷ (keying example_reference [], 21 ∷ 0 ∷ 0 ∷ 0 ∷ 0 ∷ [])
    ∷ (keying example_reference (0 ∷ []), 21 ∷ 0 ∷ 0 ∷ 0 ∷ 0 ∷ [])
    ∷ (keying example_reference (0 ∷ 0 ∷ []), 21 ∷ 0 ∷ 0 ∷ 0 ∷ 0 ∷ [])
    ∷ (keying example_reference (0 ∷ 0 ∷ 0 ∷ 0 ∷ []), 21 ∷ 0 ∷ 0 ∷ 0 ∷ 0 ∷ [])
    ∷ (keying example_reference (0 ∷ rules 64), 21 ∷ 0 ∷ 0 ∷ 0 ∷ 0 ∷ [])
    -- 02, K6: a value with a bit outside its mask is refused with 22, an event that is not below E with 23, after 22 in
    -- any rule; 21 comes before both
    ∷ (keying example_reference (128 ∷ 1 ∷ 0 ∷ []), 22 ∷ 0 ∷ 0 ∷ 0 ∷ 0 ∷ [])
    ∷ (keying example_reference (128 ∷ 128 ∷ 9 ∷ []), 23 ∷ 0 ∷ 0 ∷ 0 ∷ 0 ∷ [])
    ∷ (keying example_reference (0 ∷ 0 ∷ 2 ∷ []), 23 ∷ 0 ∷ 0 ∷ 0 ∷ 0 ∷ [])
    ∷ (keying example_reference (0 ∷ 0 ∷ 1 ∷ []), 0 ∷ 31 ∷ 0 ∷ 0 ∷ 0 ∷ [])
    ∷ (keying example_reference (0 ∷ 0 ∷ 9 ∷ 128 ∷ 1 ∷ 0 ∷ []), 22 ∷ 0 ∷ 0 ∷ 0 ∷ 0 ∷ [])
    ∷ (keying example_reference (0 ∷ 1 ∷ 9 ∷ 0 ∷ []), 21 ∷ 0 ∷ 0 ∷ 0 ∷ 0 ∷ [])
    -- 02, K6: the sheet's own refusal comes first: that of a refused reading, all 0, is 3
    ∷ (keying [] [], 3 ∷ 0 ∷ 0 ∷ 0 ∷ 0 ∷ [])
    ∷ (looking [] (0 ∷ 0 ∷ 0 ∷ []) 0, 3 ∷ 0 ∷ 0 ∷ 0 ∷ 0 ∷ 0 ∷ [])
    -- 02, K6: a good table turns a code into its event
    ∷ (looking example_reference (128 ∷ 0 ∷ 0 ∷ 128 ∷ 128 ∷ 1 ∷ []) 0, 0 ∷ 34 ∷ 0 ∷ 0 ∷ 0 ∷ 0 ∷ [])
    ∷ (looking example_reference (128 ∷ 0 ∷ 0 ∷ 128 ∷ 128 ∷ 1 ∷ []) 127, 0 ∷ 34 ∷ 0 ∷ 0 ∷ 0 ∷ 0 ∷ [])
    ∷ (looking example_reference (128 ∷ 0 ∷ 0 ∷ 128 ∷ 128 ∷ 1 ∷ []) 128, 0 ∷ 34 ∷ 1 ∷ 0 ∷ 0 ∷ 0 ∷ [])
    ∷ (looking example_reference (128 ∷ 0 ∷ 0 ∷ 128 ∷ 128 ∷ 1 ∷ []) 255, 0 ∷ 34 ∷ 1 ∷ 0 ∷ 0 ∷ 0 ∷ [])
    -- 02, K6: a lookup in a bad one returns that same gap or overlap, whatever code is asked
    ∷ (looking example_reference (128 ∷ 0 ∷ 0 ∷ []) 200, 0 ∷ 32 ∷ 0 ∷ 128 ∷ 0 ∷ 0 ∷ [])
    ∷ (looking example_reference (128 ∷ 0 ∷ 0 ∷ []) 5, 0 ∷ 32 ∷ 0 ∷ 128 ∷ 0 ∷ 0 ∷ [])
    ∷ (looking example_reference (1 ∷ 0 ∷ 0 ∷ 1 ∷ 1 ∷ 1 ∷ 3 ∷ 2 ∷ 1 ∷ []) 2, 0 ∷ 33 ∷ 0 ∷ 2 ∷ 0 ∷ 2 ∷ [])
    ∷ (looking example_reference (1 ∷ 0 ∷ 0 ∷ 1 ∷ 1 ∷ 1 ∷ 3 ∷ 2 ∷ 1 ∷ []) 1, 0 ∷ 33 ∷ 0 ∷ 2 ∷ 0 ∷ 2 ∷ [])
    ∷ (looking example_reference (128 ∷ 1 ∷ 0 ∷ []) 5, 22 ∷ 0 ∷ 0 ∷ 0 ∷ 0 ∷ 0 ∷ [])
    ∷ []

-- the rows of walks
unfoldable pub rows_of_walks : List (Case × List ℕ)
rows_of_walks =
    -- 02, K9: 01's reference and device, and the highest seed: each step takes the next state first, so that seed 1
    -- takes 270369 remainder 2 = 1; the rest of the list is as it was
    (walking example_reference 1 8 10, 0 ∷ 8 ∷ 1 ∷ 1 ∷ 1 ∷ 1 ∷ 1 ∷ 0 ∷ 0 ∷ 0 ∷ 9 ∷ 9 ∷ [])
    ∷ (walking example_device 1 8 8, 0 ∷ 8 ∷ 1 ∷ 1 ∷ 0 ∷ 1 ∷ 1 ∷ 0 ∷ 0 ∷ 0 ∷ [])
    ∷ (walking example_device 4294967295 8 8, 0 ∷ 8 ∷ 1 ∷ 1 ∷ 0 ∷ 0 ∷ 1 ∷ 0 ∷ 0 ∷ 1 ∷ [])
    -- 02, K9: a shorter wish gives the front of a longer walk; the codes play no part
    ∷ (walking example_reference 1 6 7, 0 ∷ 6 ∷ 1 ∷ 1 ∷ 1 ∷ 1 ∷ 1 ∷ 0 ∷ 9 ∷ [])
    ∷ (walking coded_reference 1 6 7, 0 ∷ 6 ∷ 1 ∷ 1 ∷ 1 ∷ 1 ∷ 1 ∷ 0 ∷ 9 ∷ [])
    -- 02, K9: of the initials alone, ascending: the one that there is, whichever its number; of three, numbers 0, 1, 2
    ∷ (walking only_zero 1 3 3, 0 ∷ 3 ∷ 0 ∷ 0 ∷ 0 ∷ [])
    ∷ (walking only_one 1 3 3, 0 ∷ 3 ∷ 1 ∷ 1 ∷ 1 ∷ [])
    ∷ (walking (accepting (1 ∷ [])) 1 8 8, 0 ∷ 8 ∷ 0 ∷ 1 ∷ 0 ∷ 2 ∷ 2 ∷ 1 ∷ 1 ∷ 0 ∷ [])
    -- 02, K9: of five, and of twelve, each in its turn, with the highest seed
    ∷ (walking (looping 5 (1 ∷ [])) 1 8 8, 0 ∷ 8 ∷ 4 ∷ 4 ∷ 1 ∷ 0 ∷ 3 ∷ 4 ∷ 2 ∷ 0 ∷ [])
    ∷ (walking (looping 12 (1 ∷ [])) 4294967295 8 8, 0 ∷ 8 ∷ 3 ∷ 11 ∷ 3 ∷ 10 ∷ 5 ∷ 0 ∷ 0 ∷ 11 ∷ [])
    -- 02, K9: a walk ends early where there are no initials, and the list from there on, below the wish too, is as it
    -- was; at the start too
    ∷ (walking ending 1 8 9, 0 ∷ 6 ∷ 1 ∷ 1 ∷ 1 ∷ 1 ∷ 1 ∷ 0 ∷ 9 ∷ 9 ∷ 9 ∷ [])
    ∷ (walking ending 2 8 8, 0 ∷ 1 ∷ 0 ∷ 9 ∷ 9 ∷ 9 ∷ 9 ∷ 9 ∷ 9 ∷ 9 ∷ [])
    ∷ (walking ending 1 5 5, 0 ∷ 5 ∷ 1 ∷ 1 ∷ 1 ∷ 1 ∷ 1 ∷ [])
    ∷ (walking stopped 7 3 3, 0 ∷ 0 ∷ 9 ∷ 9 ∷ 9 ∷ [])
    -- 02, K9: no event wished, with and without a list
    ∷ (walking example_reference 1 0 2, 0 ∷ 0 ∷ 9 ∷ 9 ∷ [])
    ∷ (walking example_reference 1 0 0, 0 ∷ 0 ∷ [])
    -- 02, K9: seed 0 is refused with 27, and then a list shorter than the wish, however short the walk, or a wish over
    -- 4,096, with 28
    ∷ (walking example_reference 0 2 2, 27 ∷ 0 ∷ 9 ∷ 9 ∷ [])
    ∷ (walking example_reference 0 3 2, 27 ∷ 0 ∷ 9 ∷ 9 ∷ [])
    ∷ (walking example_reference 0 4097 0, 27 ∷ 0 ∷ [])
    ∷ (walking example_reference 1 3 2, 28 ∷ 0 ∷ 9 ∷ 9 ∷ [])
    ∷ (walking ending 2 5 3, 28 ∷ 0 ∷ 9 ∷ 9 ∷ 9 ∷ [])
    ∷ (walking stopped 7 1 0, 28 ∷ 0 ∷ [])
    ∷ (walking example_reference 1 4097 2, 28 ∷ 0 ∷ 9 ∷ 9 ∷ [])
    ∷ (walking example_reference 1 65535 0, 28 ∷ 0 ∷ [])
    -- 02, K9: the sheet's own refusal comes first: that of a refused reading, all 0, is 3
    ∷ (walking [] 0 1 0, 3 ∷ 0 ∷ [])
    ∷ (walking [] 1 1 1, 3 ∷ 0 ∷ 9 ∷ [])
    ∷ []

-- the rows of the bound
unfoldable pub rows_of_bounds : List (Case × List ℕ)
rows_of_bounds =
    -- 02, K11: the pair of 1 and 1 is 01's: one node that loops on event 0 alone, one on event 1 alone; the lengths,
    -- the reference's first
    (bounding 1 1 12 12, written 12 12 only_zero 0 only_one 0)
    -- 02, K11: the reference stays on 0 and climbs on 1, with the sets 1 and 2; at its last node it knows only 0,
    -- staying
    ∷ (
      bounding 2 1 19 12,
      written 19 12 (0 ∷ 0 ∷ 0 ∷ 15 ∷ 1 ∷ 2 ∷ 2 ∷ 0 ∷ 1 ∷ 2 ∷ 0 ∷ 1 ∷ 0 ∷ 2 ∷ 1 ∷ 255 ∷ 1 ∷ 0 ∷ 1 ∷ []) 0 only_one 0,
    )
    -- 02, K11: the device does only 0 to climb, and at its last node only 1, back to its first
    ∷ (
      bounding 1 2 12 17,
      written 12 17 only_zero 0 (0 ∷ 0 ∷ 0 ∷ 13 ∷ 1 ∷ 2 ∷ 2 ∷ 1 ∷ 255 ∷ 1 ∷ 0 ∷ 1 ∷ 255 ∷ 0 ∷ 1 ∷ 0 ∷ 2 ∷ []) 0,
    )
    -- 02, K11: the pair of 3 and 4, byte by byte, and as `staying` and `climbing` make it; the longest pair
    ∷ (bounding 3 4 26 27, written 26 27 staying_three 0 climbing_four 0)
    ∷ (bounding 3 4 26 27, written 26 27 (staying 3) 0 (climbing 4) 0)
    ∷ (bounding 32 32 229 167, written 229 167 (staying 32) 0 (climbing 32) 0)
    -- 02, K11: each sheet fills the front of its own list and the rest is untouched
    ∷ (bounding 1 1 15 13, written 12 12 only_zero 3 only_one 1)
    ∷ (bounding 2 1 20 14, written 19 12 (staying 2) 1 only_one 2)
    ∷ (bounding 1 2 13 20, written 12 17 only_zero 1 (climbing 2) 3)
    ∷ (bounding 3 4 28 27, written 26 27 (staying 3) 2 (climbing 4) 0)
    ∷ (bounding 3 4 26 30, written 26 27 (staying 3) 0 (climbing 4) 3)
    ∷ (bounding 3 4 28 30, written 26 27 (staying 3) 2 (climbing 4) 3)
    ∷ (bounding 32 32 230 169, written 229 167 (staying 32) 1 (climbing 32) 2)
    -- 02, K11: a list too short for its sheet is refused with 31, and neither is written: the reference's, the
    -- device's, both
    ∷ (bounding 1 1 11 12, unwritten 31 11 12)
    ∷ (bounding 1 1 12 11, unwritten 31 12 11)
    ∷ (bounding 1 1 11 11, unwritten 31 11 11)
    ∷ (bounding 2 1 18 12, unwritten 31 18 12)
    ∷ (bounding 2 1 19 11, unwritten 31 19 11)
    ∷ (bounding 2 1 18 11, unwritten 31 18 11)
    ∷ (bounding 1 2 11 17, unwritten 31 11 17)
    ∷ (bounding 1 2 12 16, unwritten 31 12 16)
    ∷ (bounding 1 2 11 16, unwritten 31 11 16)
    ∷ (bounding 3 4 25 27, unwritten 31 25 27)
    ∷ (bounding 3 4 26 26, unwritten 31 26 26)
    ∷ (bounding 3 4 25 26, unwritten 31 25 26)
    ∷ (bounding 32 32 228 167, unwritten 31 228 167)
    ∷ (bounding 32 32 229 166, unwritten 31 229 166)
    ∷ (bounding 32 32 228 166, unwritten 31 228 166)
    -- 02, K11: however long the other list is; lists without a place
    ∷ (bounding 3 4 25 60, unwritten 31 25 60)
    ∷ (bounding 3 4 60 26, unwritten 31 60 26)
    ∷ (bounding 1 1 0 12, unwritten 31 0 12)
    ∷ (bounding 1 1 12 0, unwritten 31 12 0)
    ∷ (bounding 1 1 0 0, unwritten 31 0 0)
    -- 02, K11: p or q out of range is refused with 30
    ∷ (bounding 0 1 12 12, unwritten 30 12 12)
    ∷ (bounding 1 0 12 12, unwritten 30 12 12)
    ∷ (bounding 0 0 12 12, unwritten 30 12 12)
    ∷ (bounding 33 1 236 12, unwritten 30 236 12)
    ∷ (bounding 1 33 12 172, unwritten 30 12 172)
    ∷ (bounding 33 33 236 172, unwritten 30 236 172)
    ∷ (bounding 255 1 40 40, unwritten 30 40 40)
    ∷ (bounding 1 255 40 40, unwritten 30 40 40)
    -- 02, K11: 31 comes after 30: with lists that are too short, p or q out of range is still refused with 30
    ∷ (bounding 0 1 0 0, unwritten 30 0 0)
    ∷ (bounding 1 0 0 0, unwritten 30 0 0)
    ∷ (bounding 33 1 0 0, unwritten 30 0 0)
    ∷ (bounding 1 33 0 0, unwritten 30 0 0)
    ∷ (bounding 255 1 0 0, unwritten 30 0 0)
    ∷ (bounding 1 255 0 0, unwritten 30 0 0)
    ∷ (bounding 0 0 0 0, unwritten 30 0 0)
    ∷ (bounding 255 255 0 0, unwritten 30 0 0)
    ∷ (bounding 0 4 5 26, unwritten 30 5 26)
    ∷ (bounding 3 33 25 172, unwritten 30 25 172)
    -- 02, K11: the written pair compared: the nearest violation is stray 1, after p·q − 1 events; by traces alone too
    ∷ (comparing (reference_of 1 1) (device_of 1 1) false, lists (0 ∷ 22 ∷ 0 ∷ 0 ∷ 1 ∷ 0 ∷ 0 ∷ []) [] 2)
    ∷ (comparing (reference_of 1 1) (device_of 1 1) true, lists (0 ∷ 22 ∷ 0 ∷ 0 ∷ 1 ∷ 0 ∷ 0 ∷ []) [] 2)
    ∷ (comparing (reference_of 2 1) (device_of 2 1) false, lists (0 ∷ 22 ∷ 1 ∷ 1 ∷ 1 ∷ 0 ∷ 0 ∷ []) (1 ∷ []) 4)
    ∷ (comparing (reference_of 1 2) (device_of 1 2) false, lists (0 ∷ 22 ∷ 1 ∷ 1 ∷ 1 ∷ 0 ∷ 0 ∷ []) (0 ∷ []) 4)
    ∷ (comparing (reference_of 2 2) (device_of 2 2) false, lists (0 ∷ 22 ∷ 3 ∷ 3 ∷ 1 ∷ 0 ∷ 0 ∷ []) (0 ∷ 1 ∷ 0 ∷ []) 8)
    ∷ (comparing (reference_of 2 2) (device_of 2 2) true, lists (0 ∷ 22 ∷ 3 ∷ 3 ∷ 1 ∷ 0 ∷ 0 ∷ []) (0 ∷ 1 ∷ 0 ∷ []) 8)
    ∷ (
      comparing (reference_of 3 2) (device_of 3 2) false,
      lists (0 ∷ 22 ∷ 5 ∷ 5 ∷ 1 ∷ 0 ∷ 0 ∷ []) (0 ∷ 1 ∷ 0 ∷ 1 ∷ 0 ∷ []) 12,
    )
    ∷ (
      comparing (reference_of 3 2) (device_of 3 2) true,
      lists (0 ∷ 22 ∷ 5 ∷ 5 ∷ 1 ∷ 0 ∷ 0 ∷ []) (0 ∷ 1 ∷ 0 ∷ 1 ∷ 0 ∷ []) 12,
    )
    -- 02, K11: the first failing test of the written pair is number p·q − 1: of 2 and 2, number 3; it fails as stray,
    -- so that the next fails too
    ∷ (verdict (reference_of 2 2) (device_of 2 2) 0 false, 0 ∷ 11 ∷ [])
    ∷ (verdict (reference_of 2 2) (device_of 2 2) 1 false, 0 ∷ 11 ∷ [])
    ∷ (verdict (reference_of 2 2) (device_of 2 2) 2 false, 0 ∷ 11 ∷ [])
    ∷ (verdict (reference_of 2 2) (device_of 2 2) 3 false, 0 ∷ 12 ∷ [])
    ∷ (verdict (reference_of 2 2) (device_of 2 2) 4 false, 0 ∷ 12 ∷ [])
    ∷ (verdict (reference_of 2 2) (device_of 2 2) 0 true, 0 ∷ 11 ∷ [])
    ∷ (verdict (reference_of 2 2) (device_of 2 2) 1 true, 0 ∷ 11 ∷ [])
    ∷ (verdict (reference_of 2 2) (device_of 2 2) 2 true, 0 ∷ 11 ∷ [])
    ∷ (verdict (reference_of 2 2) (device_of 2 2) 3 true, 0 ∷ 12 ∷ [])
    ∷ (verdict (reference_of 2 2) (device_of 2 2) 4 true, 0 ∷ 12 ∷ [])
    -- 02, K11: the first failing test of 1 and 1 is number 0, of 3 and 2 number 5
    ∷ (verdict (reference_of 1 1) (device_of 1 1) 0 false, 0 ∷ 12 ∷ [])
    ∷ (verdict (reference_of 1 1) (device_of 1 1) 0 true, 0 ∷ 12 ∷ [])
    ∷ (verdict (reference_of 3 2) (device_of 3 2) 4 false, 0 ∷ 11 ∷ [])
    ∷ (verdict (reference_of 3 2) (device_of 3 2) 5 false, 0 ∷ 12 ∷ [])
    ∷ (verdict (reference_of 3 2) (device_of 3 2) 4 true, 0 ∷ 11 ∷ [])
    ∷ (verdict (reference_of 3 2) (device_of 3 2) 5 true, 0 ∷ 12 ∷ [])
    ∷ []

-- the whole table
unfoldable pub table : List (Case × List ℕ)
table = rows_of01 ++ (rows_of02 ++ (rows_of_keypads ++ (rows_of_walks ++ rows_of_bounds)))

-- each of some rows answers the numbers beside it
abbrev pub Hold : List (Case × List ℕ) → Type 0
Hold rows = map (λ (c : Case × List ℕ). numbers_of c.0) rows ≡ map (λ (c : Case × List ℕ). c.1) rows
