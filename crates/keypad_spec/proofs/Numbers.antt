-- Nothing to believe: laws of what specs/Numbers.antt defines.
use Rattle.std.specs.Prelude.{◌≡◌, refl, ℕ, Result, Ok, Err, cond, eqb}
use Rattle.std.proofs.Common.{sym, ap, ◌∙◌}
use Rattle.keypad_spec.specs.declared.Keypad.{Keypad}
use Rattle.keypad_spec.specs.declared.Keypad.TheVariants.{Good, Gap, Overlap}
use Rattle.keypad_spec.specs.declared.Found.{Found}
use Rattle.keypad_spec.specs.declared.Found.TheVariants.{Event, Gap as GapFound, Overlap as OverlapFound}
use Rattle.keypad_spec.specs.Numbers.{Keyed, Looked, event_number, gap_number, good_number, keyed, looked}

-- the answers that have the given numbers
keypad_back : Keyed → Result Keypad ℕ
keypad_back n =
    cond (eqb n.kind 0) (Err n.refusal)
    (Ok (cond (eqb n.kind good_number) Good (cond (eqb n.kind gap_number) (Gap n.code) (Overlap n.code n.first n.second))))

found_back : Looked → Result Found ℕ
found_back n =
    cond (eqb n.kind 0) (Err n.refusal)
    (Ok (cond (eqb n.kind event_number) (Event n.event) (cond (eqb n.kind gap_number) (GapFound n.code) (OverlapFound n.code n.first n.second))))

keyed_back : (a : Result Keypad ℕ) → keypad_back (keyed a) ≡ a
unfolding keyed keypad_back
keyed_back (Ok Good) = refl
keyed_back (Ok (Gap c)) = refl
keyed_back (Ok (Overlap c i k)) = refl
keyed_back (Err m) = refl

looked_back : (a : Result Found ℕ) → found_back (looked a) ≡ a
unfolding looked found_back
looked_back (Ok (Event e)) = refl
looked_back (Ok (GapFound c)) = refl
looked_back (Ok (OverlapFound c i k)) = refl
looked_back (Err m) = refl

-- answers with the same numbers are the same
pub keyed_once : (a b : Result Keypad ℕ) → keyed a ≡ keyed b → a ≡ b
keyed_once a b e = sym (keyed_back a) ∙ ap keypad_back e ∙ keyed_back b

pub looked_once : (a b : Result Found ℕ) → looked a ≡ looked b → a ≡ b
looked_once a b e = sym (looked_back a) ∙ ap found_back e ∙ looked_back b
