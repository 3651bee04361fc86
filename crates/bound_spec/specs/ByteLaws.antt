-- Nothing to believe: laws. The bytes of the two sheets, spelled out; how many they are; and that they are read as
-- these sheets, which is what the theorem is about.
use Rattle.std.specs.Prelude.{List, [], ◌∷◌}
use Prim.Native.Nat.{ℕ, ◌+◌}

-- ---- the bytes, spelled out

-- the bytes before the nodes: the length, which is below 256, version 1, two events, n nodes
abbrev pub head_bytes : ℕ → ℕ → List ℕ
head_bytes size n = 0 ∷ (0 ∷ (0 ∷ (size ∷ (1 ∷ (2 ∷ (n ∷ []))))))

-- the bytes of a node with one set, and of one with the sets 1 and 2
abbrev pub one_set_bytes : ℕ → ℕ → ℕ → List ℕ
one_set_bytes a b x = a ∷ (b ∷ (1 ∷ (0 ∷ (x ∷ []))))

abbrev pub two_sets_bytes : ℕ → ℕ → List ℕ
two_sets_bytes a b = a ∷ (b ∷ (2 ∷ (0 ∷ (1 ∷ (0 ∷ (2 ∷ []))))))

-- a node before the last of the reference, and of the device
abbrev pub climbing_reference : ℕ → List ℕ
climbing_reference v = two_sets_bytes v (v + 1)

abbrev pub climbing_device : ℕ → List ℕ
climbing_device v = one_set_bytes (v + 1) 255 1

-- ---- they are read as the two sheets
