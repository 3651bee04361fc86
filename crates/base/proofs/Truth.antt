-- Nothing to believe: laws of truth values. A test passes if it is `true`; these are the laws of "and", "or" and "not"
-- in that form.
use Rattle.std.specs.Prelude.{◌≡◌, refl, ◌⊎◌, Bool, true, false, not, ◌&&◌, ◌||◌, ℕ, zero, suc, ◌≤◌, ◌<◌}
use Rattle.std.proofs.Common.{sym, ◌∙◌, inl, inr, true≢false, arith}
use Rattle.std.proofs.lemmas.Bool.{false≢true}

pub dec : (b : Bool) → (b ≡ true) ⊎ (b ≡ false)
dec true = inl refl
dec false = inr refl

pub clash : {b : Bool} → b ≡ true → b ≡ false → ⊥
clash p q = true≢false (sym p ∙ q)

pub lt_or_ge : (a b : ℕ) → (a < b) ⊎ (b ≤ a)
lt_or_ge zero zero = inr (omega arith)
lt_or_ge zero (suc b) = inl (omega arith)
lt_or_ge (suc a) zero = inr (omega arith)
lt_or_ge (suc a) (suc b) = step (lt_or_ge a b)
  where
    step : (a < b) ⊎ (b ≤ a) → (suc a < suc b) ⊎ (suc b ≤ suc a)
    step (inl l) = inl (omega arith)
    step (inr l) = inr (omega arith)

pub and_l : (a b : Bool) → (a && b) ≡ true → a ≡ true
and_l true b t = refl
and_l false b t = t

pub and_r : (a b : Bool) → (a && b) ≡ true → b ≡ true
and_r true b t = t
and_r false b t = absurd (false≢true t)

pub and_i : {a b : Bool} → a ≡ true → b ≡ true → (a && b) ≡ true
and_i s t = cc

pub or_e : (a b : Bool) → (a || b) ≡ true → (a ≡ true) ⊎ (b ≡ true)
or_e true b t = inl refl
or_e false b t = inr t

pub or_l : {a : Bool} (b : Bool) → a ≡ true → (a || b) ≡ true
or_l b t = cc

pub or_r : (a : Bool) {b : Bool} → b ≡ true → (a || b) ≡ true
or_r true t = refl
or_r false t = t

pub or_false : (a : Bool) → a ≡ (a || false)
or_false true = refl
or_false false = refl

pub or_assoc : (a b c : Bool) → ((a || b) || c) ≡ (a || (b || c))
or_assoc true b c = refl
or_assoc false b c = refl

pub not_i : {a : Bool} → (a ≡ true → ⊥) → a ≡ false
not_i {a = true} h = absurd (h refl)
not_i {a = false} h = refl

pub not_t : {a : Bool} → a ≡ false → not a ≡ true
not_t t = cc

pub same : (a b : Bool) → (a ≡ true → b ≡ true) → (b ≡ true → a ≡ true) → a ≡ b
same true b f g = sym (f refl)
same false b f g = sym (not_i (λ t. false≢true (g t)))

pub t_not : {a : Bool} → a ≡ true → not a ≡ false
t_not t = cc
