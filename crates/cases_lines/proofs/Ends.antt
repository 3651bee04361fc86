-- Nothing to believe: laws. Which lines end among some bytes.
use Rattle.std.specs.Prelude.{◌≡◌, true, false, ◌&&◌, List, [], ◌∷◌, ℕ, eqb, length, refl}
use Rattle.std.proofs.Common.{arith}
use Rattle.cases_lines.specs.declared.Line.{Line}
use Rattle.cases_lines.specs.Lines.{new_line, line_after, ended}

-- at the end of a line
pub ended_here : (l : Line) {h n : Line} {b : ℕ} {bs rest : List ℕ} {x : _} → rest ≡ b ∷ bs → h ≡ line_after l b → x ≡ (l.named && eqb b 10) → x ≡ true → n ≡ new_line
    → ended l rest ≡ h ∷ ended n bs
unfolding ended
ended_here l e a p q k = rw (e, a, k, ← p, q)

-- inside a line
pub ended_later : (l : Line) {h : Line} {b : ℕ} {bs rest : List ℕ} {x : _} → rest ≡ b ∷ bs → h ≡ line_after l b → x ≡ (l.named && eqb b 10) → x ≡ false → ended l rest ≡ ended h bs
unfolding ended
ended_later l e a p q = rw (e, a, ← p, q)

-- among no bytes
pub ended_none : (l : Line) (rest : List ℕ) → length rest ≡ 0 → ended l rest ≡ []
unfolding ended
ended_none l [] e = refl
ended_none l (b ∷ bs) e = absurd (omega (arith, e))
