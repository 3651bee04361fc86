-- Which code an event has, test by test; one law for each way out.
use mathlib.Core.Path.{◌≡◌}
use mathlib.Core.List.{List}
use Prim.Native.Nat.{ℕ, ◌+◌, ◌*◌, ◌≤◌, ◌<◌}
use borrow.Author.Tests.{lt-ltb, le-ltb, eq-eqb, ne_eqb}
use Rattle.sheet_spec.specs.Spelling.{byte, word, code_of}

-- the code of event i: x and y are E, v the version, w the two bytes of the code
module _ (b : List ℕ) (i : ℕ) {x y : ℕ} (p : x ≡ byte b 5) (q : y ≡ x) where
  pub unused : y ≤ i → 0 ≡ code_of b i
  unfolding code_of
  unused l = rw (← p, ← q, le-ltb i y l)

  module _ {v : ℕ} (l : i < y) (r : v ≡ byte b 4) where
    pub written : {w : ℕ} → v ≡ 2 → w ≡ word b (7 + i * 2) → w ≡ code_of b i
    unfolding code_of
    written h s = rw (← p, ← q, lt-ltb i y l, ← r, eq-eqb v 2 h) s

    pub counted : (v ≡ 2 → ⊥) → i + 1 ≡ code_of b i
    unfolding code_of
    counted h = rw (← p, ← q, lt-ltb i y l, ← r, ne_eqb v 2 h)
