-- Nothing to believe: cases. The states that follow those of one bit, the first states of two seeds, and walks.
use Rattle.std.specs.Prelude.{◌≡◌, refl, [], ◌∷◌, ◌^◌}
use Rattle.base.specs.Gather.{gather, select}
use Rattle.base.specs.Table.{up_to}
use Rattle.events.specs.Bit.{bit, set_of}
use Rattle.events.specs.Sets.{has}
use Rattle.events.specs.Lists.{events_in}
use Rattle.sheet_spec.specs.declared.Sheet.{Sheet}
use Rattle.sheet_spec.specs.Kept.{sheet_with, successor, initials, step}
use Rattle.load_spec.specs.Xorshift.{shifted_left, shifted_right, mixed_left, mixed_right, next_state, state_after}
use Rattle.load_spec.specs.Walks.{initials_at, drawn, walk_from, walk_of}

-- state 1 is followed by 270369
pub after_one : next_state 1 ≡ 270369
unfolding next_state mixed_left mixed_right shifted_left shifted_right
after_one = refl

-- what follows each of the 32 states of one bit
pub one_bit_states : up_to (λ i. next_state (2 ^ i)) 32
    ≡ (270369 ∷ 540738 ∷ 1081476 ∷ 2162952 ∷ 4325937 ∷ 8651874 ∷ 17303748 ∷ 34607496 ∷ 69214992 ∷ 138429984 ∷ 276859968 ∷ 553719936 ∷ 1107439872 ∷ 2214879744 ∷ 134792192 ∷ 269584384 ∷ 539168768 ∷ 1078337569 ∷ 2156675138 ∷ 17301636 ∷ 34603272 ∷ 69206544 ∷ 138413088 ∷ 276826176 ∷ 553652352 ∷ 1107304704 ∷ 2214609408 ∷ 134251520 ∷ 268503040 ∷ 537006080 ∷ 1074012160 ∷ 2148024320 ∷ [])
unfolding up_to next_state mixed_left mixed_right shifted_left shifted_right
one_bit_states = refl

-- the first states of seed 1, and of the highest seed
pub first_states : up_to (state_after 1) 6 ≡ (1 ∷ 270369 ∷ 67634689 ∷ 2647435461 ∷ 307599695 ∷ 2398689233 ∷ [])
unfolding up_to state_after next_state mixed_left mixed_right shifted_left shifted_right
first_states = refl

pub highest_states : up_to (state_after 4294967295) 4 ≡ (4294967295 ∷ 253983 ∷ 4228382207 ∷ 1958451267 ∷ [])
unfolding up_to state_after next_state mixed_left mixed_right shifted_left shifted_right
highest_states = refl

-- one node with six events, of which it loops on five
unfoldable pub five_of_six : Sheet
five_of_six = sheet_with (record { succ = 0 ∷ 255 ∷ 0 ∷ 0 ∷ 0 ∷ 0 ∷ []; sets = 1 ∷ []; c = 1 } ∷ []) 6 1

-- its walk of seed 1, and that of the highest seed, of 8 events
pub walks_hold : (walk_of five_of_six 1 8 ≡ (5 ∷ 5 ∷ 2 ∷ 0 ∷ 4 ∷ 5 ∷ 3 ∷ 0 ∷ [])) × (walk_of five_of_six 4294967295 8 ≡ (4 ∷ 3 ∷ 3 ∷ 5 ∷ 0 ∷ 4 ∷ 4 ∷ 5 ∷ []))
unfolding five_of_six walk_of walk_from drawn initials_at initials events_in select gather set_of has bit successor step next_state mixed_left mixed_right shifted_left shifted_right
walks_hold = (refl, refl)
