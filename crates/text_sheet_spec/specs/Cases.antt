-- Nothing to believe: cases. Texts of `show`, one for each kind of line and each refusal; lines of `probe_list`.
use Rattle.std.specs.Prelude.{List, [], ◌∷◌, ℕ}
use Rattle.sheet_spec.specs.declared.Row.{Row}
use Rattle.sheet_spec.specs.Examples.{coded_reference, coded_device}
use Rattle.text_spec.specs.Lines.{ascii}

-- three nodes with two events; node 2 may stop
unfoldable pub three_nodes : List ℕ
three_nodes =
    0 ∷ 0 ∷ 0 ∷ 20 ∷ 1 ∷ 2 ∷ 3 ∷
    1 ∷ 2 ∷ 2 ∷ 0 ∷ 1 ∷ 0 ∷ 2 ∷
    0 ∷ 255 ∷ 1 ∷ 0 ∷ 1 ∷
    255 ∷ 255 ∷ 1 ∷ 0 ∷ 0 ∷ []

-- inputs: three nodes of which one may stop; no byte; version 3; 13 events; a byte too many; no acceptance; a successor
-- 1 of one node; a set with an event that has no successor; a node that nothing leads to. Of version 2: the example's
-- reference with the codes 257 and 258; its device with the codes 1 and 2; the codes 65,535 and 0; the codes 1 and 3;
-- codes cut off; one code for events 0 and 2, and nothing after the codes; bytes that are whole in version 1
unfoldable pub inputs : List (List ℕ)
inputs =
    three_nodes
    ∷ []
    ∷ (0 ∷ 0 ∷ 0 ∷ 7 ∷ 3 ∷ 1 ∷ 1 ∷ 0 ∷ 1 ∷ 0 ∷ 1 ∷ [])
    ∷ (0 ∷ 0 ∷ 0 ∷ 7 ∷ 1 ∷ 13 ∷ 1 ∷ 0 ∷ 1 ∷ 0 ∷ 1 ∷ [])
    ∷ (0 ∷ 0 ∷ 0 ∷ 8 ∷ 1 ∷ 1 ∷ 1 ∷ 0 ∷ 1 ∷ 0 ∷ 1 ∷ 0 ∷ [])
    ∷ (0 ∷ 0 ∷ 0 ∷ 5 ∷ 1 ∷ 1 ∷ 1 ∷ 0 ∷ 0 ∷ [])
    ∷ (0 ∷ 0 ∷ 0 ∷ 7 ∷ 1 ∷ 1 ∷ 1 ∷ 1 ∷ 1 ∷ 0 ∷ 1 ∷ [])
    ∷ (0 ∷ 0 ∷ 0 ∷ 7 ∷ 1 ∷ 1 ∷ 1 ∷ 255 ∷ 1 ∷ 0 ∷ 1 ∷ [])
    ∷ (0 ∷ 0 ∷ 0 ∷ 11 ∷ 1 ∷ 1 ∷ 2 ∷ 0 ∷ 1 ∷ 0 ∷ 1 ∷ 0 ∷ 1 ∷ 0 ∷ 1 ∷ [])
    ∷ coded_reference
    ∷ coded_device
    ∷ (0 ∷ 0 ∷ 0 ∷ 12 ∷ 2 ∷ 2 ∷ 1 ∷ 255 ∷ 255 ∷ 0 ∷ 0 ∷ 0 ∷ 255 ∷ 1 ∷ 0 ∷ 1 ∷ [])
    ∷ (0 ∷ 0 ∷ 0 ∷ 12 ∷ 2 ∷ 2 ∷ 1 ∷ 0 ∷ 1 ∷ 0 ∷ 3 ∷ 0 ∷ 255 ∷ 1 ∷ 0 ∷ 1 ∷ [])
    ∷ (0 ∷ 0 ∷ 0 ∷ 6 ∷ 2 ∷ 2 ∷ 1 ∷ 0 ∷ 1 ∷ 0 ∷ [])
    ∷ (0 ∷ 0 ∷ 0 ∷ 9 ∷ 2 ∷ 3 ∷ 1 ∷ 1 ∷ 0 ∷ 0 ∷ 1 ∷ 1 ∷ 0 ∷ [])
    ∷ (0 ∷ 0 ∷ 0 ∷ 7 ∷ 2 ∷ 1 ∷ 1 ∷ 0 ∷ 1 ∷ 0 ∷ 1 ∷ [])
    ∷ []

-- what `show` prints for each of the inputs
unfoldable pub texts : List (List ℕ)
texts =
    ascii "sheet 3 nodes 2 events\nnode 0\nevent 0 to 1\nevent 1 to 2\naccepts 1 ( 0 )\naccepts 2 ( 1 )\nnode 1\nevent 0 to 0\naccepts 1 ( 0 )\nnode 2\nmay stop\n"
    ∷ ascii "sheet refused 1 too short or its length field is wrong\n"
    ∷ ascii "sheet refused 2 version is neither 1 nor 2\n"
    ∷ ascii "sheet refused 3 events or nodes out of range\n"
    ∷ ascii "sheet refused 4 the bytes end too early or some remain\n"
    ∷ ascii "sheet refused 5 number of acceptances out of range\n"
    ∷ ascii "sheet refused 6 a successor is no node\n"
    ∷ ascii "sheet refused 7 a rule of acceptances is broken\n"
    ∷ ascii "sheet refused 8 a node cannot be reached\n"
    ∷ ascii "sheet 2 nodes 2 events\ncode 0 257\ncode 1 258\nnode 0\nevent 0 to 1\nevent 1 to 1\naccepts 1 ( 0 )\naccepts 2 ( 1 )\nnode 1\nevent 0 to 0\nevent 1 to 0\naccepts 3 ( 0 1 )\n"
    ∷ ascii "sheet 3 nodes 2 events\nnode 0\nevent 0 to 1\nevent 1 to 1\naccepts 3 ( 0 1 )\nnode 1\nevent 0 to 2\nevent 1 to 2\naccepts 3 ( 0 1 )\nnode 2\nevent 0 to 0\naccepts 1 ( 0 )\n"
    ∷ ascii "sheet 1 nodes 2 events\ncode 0 65535\ncode 1 0\nnode 0\nevent 0 to 0\naccepts 1 ( 0 )\n"
    ∷ ascii "sheet 1 nodes 2 events\ncode 0 1\ncode 1 3\nnode 0\nevent 0 to 0\naccepts 1 ( 0 )\n"
    ∷ ascii "sheet refused 4 the bytes end too early or some remain\n"
    ∷ ascii "sheet refused 18 a code is given twice\n"
    ∷ ascii "sheet refused 4 the bytes end too early or some remain\n"
    ∷ []

-- rows of three events: events 0 and 2 with the acceptances 1 and 4; with 4 alone; with 0, so that it may stop; no
-- event at all; and all three events with the acceptances 1 and 2
unfoldable pub rows : List Row
rows =
    record { succ = 0 ∷ 255 ∷ 0 ∷ []; sets = 1 ∷ 4 ∷ []; c = 2 }
    ∷ record { succ = 0 ∷ 255 ∷ 0 ∷ []; sets = 4 ∷ 0 ∷ []; c = 1 }
    ∷ record { succ = 0 ∷ 255 ∷ 0 ∷ []; sets = 0 ∷ 0 ∷ []; c = 1 }
    ∷ record { succ = 255 ∷ 255 ∷ 255 ∷ []; sets = 0 ∷ 0 ∷ []; c = 1 }
    ∷ record { succ = 0 ∷ 0 ∷ 0 ∷ []; sets = 1 ∷ 2 ∷ []; c = 2 }
    ∷ []
