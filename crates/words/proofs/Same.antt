-- Two texts are tested byte by byte.
use Rattle.std.specs.Prelude.{◌≡◌, Bool, List, ℕ}
use Rattle.std.specs.Str.{bytes_eq}
use Rattle.std.proofs.lemmas.Slice.Eq.{bytes_eq-Decides}
use Rattle.std.proofs.Common.{◌∙◌}
use Rattle.base.proofs.Truth.{same}
use Rattle.words_spec.specs.Same.{same_text}
use Rattle.words_spec.proofs.SameLaws.{same→, same←}

-- the test of all bytes is that of the definition
pub same_bytes : (a b : List ℕ) → bytes_eq a b ≡ same_text a b
same_bytes a b = let d = bytes_eq-Decides a b in same (bytes_eq a b) (same_text a b) (λ t. same← a b (d.0 t)) (λ t. d.1 (same→ a b t))

pub same_decided : (a b : List ℕ) {r : Bool} → r ≡ bytes_eq a b → r ≡ same_text a b
same_decided a b e = e ∙ same_bytes a b
