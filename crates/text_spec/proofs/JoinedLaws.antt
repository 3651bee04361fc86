-- Nothing to believe: laws. Texts that are added one after another: none, one more, and all of them.
use Rattle.std.specs.Prelude.{◌≡◌, List, ℕ, ◌+◌, ◌≤◌}
use Rattle.std.proofs.Common.{add-one, arith}
use Rattle.base.specs.Joined.{joined}
use Rattle.text_spec.specs.Adds.{Adds}
use Rattle.text_spec.proofs.AddsLaws.{adds_none, adds_then}

-- no text at all adds nothing
pub joined_none : (f : ℕ → List ℕ) (out : List ℕ) (at : ℕ) → Adds (joined f 0) out at out at
unfolding joined
joined_none f out at = adds_none out at

-- one text more is added after those before
pub joined_next : {a b c : List ℕ} {k l m : ℕ} (f : ℕ → List ℕ) (i : ℕ) → Adds (joined f i) a k b l → Adds (f i) b l c m → Adds (joined f (i + 1)) a k c m
unfolding joined
joined_next f i p q = rw (add-one i) (adds_then p q)

-- all n texts are added
pub joined_end : {a b : List ℕ} {k l : ℕ} (f : ℕ → List ℕ) (n i : ℕ) → n ≤ i → i ≤ n → Adds (joined f i) a k b l → Adds (joined f n) a k b l
joined_end f n i x y p = let e : n ≡ i = omega arith in rw e p
