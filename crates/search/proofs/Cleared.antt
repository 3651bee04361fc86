-- What a part of the work list that was set to 0 says of the whole list.
use mathlib.Core.Path.{◌≡◌, ap, ◌∙◌}
use mathlib.Core.List.{List, ◌++◌}
use Prim.Native.Nat.{ℕ, ◌-◌, ◌≤◌}
use lib.ListN.{length, take, drop, replicate}
use lib.Seq.{length-take-le}
use borrow.Rule.Slice.PartMut.{mid_of, post_of, put_mid, mid_len, Post-is}

-- a list whose words from a up to b were set to 0
pub cleared_part : (a b : ℕ) (w part : List ℕ) → a ≤ b → b ≤ length w → part ≡ replicate (length (mid_of a (b - a) w)) 0
    → put_mid a (b - a) w part ≡ take a w ++ (replicate (b - a) 0 ++ drop b w)
cleared_part a b w part le fits c =
    ap (λ (l : List ℕ). take a w ++ (l ++ post_of a (b - a) w)) (c ∙ ap (λ (k : ℕ). replicate k 0) (mid_len a b w fits))
    ∙ ap (λ (l : List ℕ). take a w ++ (replicate (b - a) 0 ++ l)) (Post-is a b w le)

-- a list whose words before b were set to 0
pub cleared_front : (b : ℕ) (w part : List ℕ) → b ≤ length w → part ≡ replicate (length (take b w)) 0 → part ++ drop b w ≡ replicate b 0 ++ drop b w
cleared_front b w part fits c = ap (λ (l : List ℕ). l ++ drop b w) (c ∙ ap (λ (k : ℕ). replicate k 0) (length-take-le b w fits))
