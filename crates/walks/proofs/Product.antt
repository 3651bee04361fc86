-- Nothing to believe: laws of what specs/Product.antt defines.
use Rattle.std.specs.Prelude.{◌≡◌, ◌⊎◌, ◌↔◌, true, false, ◌&&◌, ℕ, ◌*◌, ◌/◌, ◌%◌, ◌≤◌, ◌<◌, ltb}
use Rattle.std.proofs.Math.Path.{refl, ap}
use Rattle.std.proofs.Common.{sym, ◌∙◌, inl, inr, arith, mod-lt, div-add-mod', div-lt_iff_lt-mul, le-div_iff_mul-le, ltb-true, lt-ltb}
use mathlib.Core.List.{List, [], ◌∷◌}
use Rattle.std.proofs.Math.Nat.{mul-pos}
use Rattle.std.proofs.Math.Arith.{digits_lt, digits_div, digits_mod}
use Rattle.base.proofs.Truth.{dec, and_l, and_r, lt_or_ge}
use Rattle.walks.specs.Graph.{Graph, WellFormed, walk, Trace}
use Rattle.walks.proofs.Graph.{ahead}
use Rattle.walks.specs.Product.{code, pair_next, product}

pub code_div : (d : Graph) (n m : ℕ) → m < d.size → code d n m / d.size ≡ n
unfolding code
code_div d n m h = digits_div n h

pub code_mod : (d : Graph) (n m : ℕ) → m < d.size → code d n m % d.size ≡ m
unfolding code
code_mod d n m h = digits_mod n h

pub code_lt : (r d : Graph) (n m : ℕ) → n < r.size → m < d.size → code d n m < r.size * d.size
unfolding code
code_lt r d n m h k = digits_lt h k

-- different pairs have different codes
pub code_unique : (d : Graph) (n m n' m' : ℕ) → m < d.size → m' < d.size → code d n m ≡ code d n' m' → (n ≡ n') × (m ≡ m')
code_unique d n m n' m' h k e =
    (sym (code_div d n m h) ∙ ap (λ (x : ℕ). x / d.size) e ∙ code_div d n' m' k, sym (code_mod d n m h) ∙ ap (λ (x : ℕ). x % d.size) e ∙ code_mod d n' m' k)

-- every number is the code of its quotient and its remainder by the size of d
pub code_split : (d : Graph) (c : ℕ) → code d (c / d.size) (c % d.size) ≡ c
unfolding code
code_split d c = div-add-mod' c d.size

pub code_start : (d : Graph) → code d 0 0 ≡ 0
unfolding code
code_start d = omega arith

pub code_div_lt : (r d : Graph) (c : ℕ) → 0 < d.size → c < r.size * d.size → c / d.size < r.size
code_div_lt r d c h k = (div-lt_iff_lt-mul h).1 k

pub code_mod_lt : (d : Graph) (c : ℕ) → 0 < d.size → c % d.size < d.size
code_mod_lt d c h = mod-lt c h

pub pair_next← : (r d : Graph) (n m i : ℕ) → r.next n i < r.size → d.next m i < d.size → pair_next r d n m i ≡ code d (r.next n i) (d.next m i)
unfolding pair_next
pair_next← r d n m i h k = rw (lt-ltb _ _ h, lt-ltb _ _ k)

pub pair_next→ : (r d : Graph) (n m i : ℕ) → pair_next r d n m i < r.size * d.size → (r.next n i < r.size) × (d.next m i < d.size)
unfolding pair_next
pair_next→ r d n m i h = go (dec (ltb (r.next n i) r.size && ltb (d.next m i) d.size))
  where
    go : ((ltb (r.next n i) r.size && ltb (d.next m i) d.size) ≡ true) ⊎ ((ltb (r.next n i) r.size && ltb (d.next m i) d.size) ≡ false)
        → (r.next n i < r.size) × (d.next m i < d.size)
    go (inl t) = (
      ltb-true _ _ (and_l (ltb (r.next n i) r.size) (ltb (d.next m i) d.size) t),
      ltb-true _ _ (and_r (ltb (r.next n i) r.size) (ltb (d.next m i) d.size) t),
    )
    go (inr t) = let k : r.size * d.size < r.size * d.size = rw t at h in absurd (omega arith)

pub product_next : (r d : Graph) (n m i : ℕ) → m < d.size → (product r d).next (code d n m) i ≡ pair_next r d n m i
unfolding product
product_next r d n m i h = rw (code_div d n m h, code_mod d n m h)

module _ {r d : Graph} (wr : WellFormed r) (wd : WellFormed d) where
  pub product_well_formed : WellFormed (product r d)
  unfolding product
  product_well_formed = record {
    start = mul-pos wr.start wd.start;
    none = none';
    labels = λ c i h. wr.labels (c / d.size) i (pair_next→ r d (c / d.size) (c % d.size) i h).0;
  }
    where
      none' : (c i : ℕ) → r.size * d.size ≤ c → r.size * d.size ≤ pair_next r d (c / d.size) (c % d.size) i
      none' c i h = pick (lt_or_ge (pair_next r d (c / d.size) (c % d.size) i) (r.size * d.size))
        where
          pick : (pair_next r d (c / d.size) (c % d.size) i < r.size * d.size) ⊎ (r.size * d.size ≤ pair_next r d (c / d.size) (c % d.size) i)
              → r.size * d.size ≤ pair_next r d (c / d.size) (c % d.size) i
          pick (inl l) = absurd (omega (arith, wr.none (c / d.size) i ((le-div_iff_mul-le wd.start).1 h), (pair_next→ r d (c / d.size) (c % d.size) i l).0))
          pick (inr l) = l

  -- what both graphs walk, the product walks
  pub product_walk : (n m : ℕ) (t : List ℕ) → walk r n t < r.size → walk d m t < d.size → walk (product r d) (code d n m) t ≡ code d (walk r n t) (walk d m t)
  unfolding walk
  product_walk n m [] h k = refl
  product_walk n m (i ∷ t) h k =
      let a : r.next n i < r.size = ahead wr (r.next n i) t h in
      let b : d.next m i < d.size = ahead wd (d.next m i) t k in
      ap (λ (x : ℕ). walk (product r d) x t) (product_next r d n m i (ahead wd m (i ∷ t) k) ∙ pair_next← r d n m i a b)
      ∙ product_walk (r.next n i) (d.next m i) t h k

  -- what the product walks, both graphs walk
  pub product_both : (n m : ℕ) (t : List ℕ) → n < r.size → m < d.size → walk (product r d) (code d n m) t < r.size * d.size
      → (walk r n t < r.size) × (walk d m t < d.size)
  unfolding walk
  product_both n m [] h k l = (h, k)
  product_both n m (i ∷ t) h k l =
      let e : (product r d).next (code d n m) i ≡ pair_next r d n m i = product_next r d n m i k in
      let a : pair_next r d n m i < r.size * d.size = step (pair_next r d n m i) t (rw e at l) in
      let b = pair_next→ r d n m i a in
      product_both (r.next n i) (d.next m i) t b.0 b.1 (rw (← pair_next← r d n m i b.0 b.1, ← e) l)
    where
      step : (c : ℕ) (t : List ℕ) → walk (product r d) c t < r.size * d.size → c < r.size * d.size
      step c t q = unfold product in ahead product_well_formed c t q

  pub product_inside : (n m : ℕ) (t : List ℕ) → n < r.size → m < d.size
      → (walk (product r d) (code d n m) t < r.size * d.size) ↔ ((walk r n t < r.size) × (walk d m t < d.size))
  product_inside n m t h k = (product_both n m t h k, back)
    where
      back : (walk r n t < r.size) × (walk d m t < d.size) → walk (product r d) (code d n m) t < r.size * d.size
      back (a, b) = rw (product_walk n m t a b) (code_lt r d (walk r n t) (walk d m t) a b)

  -- the traces of the product are the common traces
  pub product_trace : (t : List ℕ) → Trace (product r d) t ↔ (Trace r t × Trace d t)
  unfolding product
  product_trace t = (forth, back)
    where
      forth : Trace (product r d) t → Trace r t × Trace d t
      forth h = (product_inside 0 0 t wr.start wd.start).0 (rw (code_start d) h)

      back : Trace r t × Trace d t → Trace (product r d) t
      back h = rw (code_start d) at ((product_inside 0 0 t wr.start wd.start).1 h)

  -- a list leads in the product to the pair to which it leads in the graphs
  pub product_at : (t : List ℕ) (n m : ℕ) → n < r.size → m < d.size → (walk (product r d) 0 t ≡ code d n m) ↔ ((walk r 0 t ≡ n) × (walk d 0 t ≡ m))
  product_at t n m h k = (forth, back)
    where
      from_start : Trace r t → Trace d t → walk (product r d) 0 t ≡ code d (walk r 0 t) (walk d 0 t)
      from_start a b = rw (code_start d) at (product_walk 0 0 t a b)

      forth : walk (product r d) 0 t ≡ code d n m → (walk r 0 t ≡ n) × (walk d 0 t ≡ m)
      forth e =
          let l : walk (product r d) (code d 0 0) t < r.size * d.size = rw (code_start d, e) (code_lt r d n m h k) in
          let b = product_both 0 0 t wr.start wd.start l in
          code_unique d (walk r 0 t) (walk d 0 t) n m b.1 k (sym (from_start b.0 b.1) ∙ e)

      back : (walk r 0 t ≡ n) × (walk d 0 t ≡ m) → walk (product r d) 0 t ≡ code d n m
      back (e, f) = from_start (rw e h) (rw f k) ∙ ap (λ (x : ℕ). code d x (walk d 0 t)) e ∙ ap (λ (x : ℕ). code d n x) f
