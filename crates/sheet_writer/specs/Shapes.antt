-- Nothing to believe: words for laws alone. The bytes of a sheet in the shape of the loops that put them, and how many
-- they are.
use Rattle.std.specs.Prelude.{cond, List, [], ◌∷◌, ◌++◌, ℕ, zero, suc, ◌+◌, ◌*◌, ◌≤◌, ◌<◌, eqb}
use Rattle.base.specs.Joined.{joined}
use Rattle.sheet_spec.specs.declared.Row.{Row}
use Rattle.sheet_spec.specs.declared.Sheet.{Sheet}
use Rattle.sheet_spec.specs.Kept.{code_at, row, successor, acceptance}
use Rattle.sheet_spec.specs.Rules.{first_codes_ok}
use Rattle.sheet_spec.specs.Encoding.{two}

-- the version, by E and the codes
unfoldable pub version_of : ℕ → List ℕ → ℕ
version_of e codes = cond (first_codes_ok e codes) 1 2

-- the code of event i
unfoldable pub code_bytes : List ℕ → ℕ → List ℕ
code_bytes codes i = two (code_at codes i)

-- the codes of the first e events in a version, and how many bytes they are
unfoldable pub codes_bytes : ℕ → List ℕ → ℕ → List ℕ
codes_bytes version codes e = cond (eqb version 2) (joined (code_bytes codes) e) []

unfoldable pub codes_size : ℕ → ℕ → ℕ
codes_size version e = cond (eqb version 2) (e * 2) 0

-- the successor of a row on event i, and its set at place j
unfoldable pub succ_byte : Row → ℕ → List ℕ
succ_byte r i = successor r i ∷ []

unfoldable pub set_bytes : Row → ℕ → List ℕ
set_bytes r j = two (acceptance r j)

-- a row, and that of node v; how many bytes it is
unfoldable pub row_bytes : ℕ → Row → List ℕ
row_bytes e r = joined (succ_byte r) e ++ (r.c ∷ joined (set_bytes r) r.c)

unfoldable pub node_bytes : Sheet → ℕ → List ℕ
node_bytes s v = row_bytes s.e (row s v)

unfoldable pub row_size : ℕ → Row → ℕ
row_size e r = e + 1 + r.c * 2

-- how many bytes the first v nodes are
unfoldable pub size_to : Sheet → ℕ → ℕ
size_to s zero = 0
size_to s (suc v) = size_to s v + row_size s.e (row s v)

-- how many bytes follow the first four
unfoldable pub body_size : Sheet → ℕ → ℕ
body_size s version = 3 + codes_size version s.e + size_to s s.n

-- the first seven bytes
unfoldable pub head_bytes : ℕ → ℕ → ℕ → ℕ → List ℕ
head_bytes size version e n = two 0 ++ (two size ++ (version ∷ (e ∷ (n ∷ []))))

-- all bytes, one piece after another
unfoldable pub all_bytes : Sheet → ℕ → List ℕ
all_bytes s version =
    head_bytes (body_size s version) version s.e s.n ++ (codes_bytes version s.codes s.e ++ joined (node_bytes s) s.n)

-- E, N and every C in range
pub record Small (s : Sheet) : Type 0 where
  pub e_high : s.e ≤ 12
  pub n_high : s.n ≤ 32
  pub counts : (v : ℕ) → v < s.n → (row s v).c ≤ 16
