-- Nothing to believe: words for laws alone. How many things have a property: a list of so many names them, each once.
use Rattle.std.specs.Prelude.{◌≡◌, ◌≢◌, ℕ, ◌<◌}

-- the first n places of T name, each once, the things with the property P
pub record Listing {A : Type 0} (P : A → Type 0) (n : ℕ) (T : ℕ → A) : Type 0 where
  -- what is named has the property
  pub holds : (x : ℕ) → x < n → P (T x)
  -- nothing is named twice
  pub differ : (x y : ℕ) → x < y → y < n → T x ≢ T y
  -- everything with the property is named
  pub every : (a : A) → P a → (x : ℕ) × (x < n) × (T x ≡ a)

-- just n things have the property
abbrev pub Counted : {A : Type 0} → (A → Type 0) → ℕ → Type 0
Counted {A} P n = (T : ℕ → A) × Listing P n T
