-- Nothing to believe: laws. The lines of different walks differ, and so do those of a walk and a refusal; so a text can
-- be read back.
use Rattle.std.specs.Prelude.{◌≡◌, refl, ◌≢◌, List, [], ◌++◌, ℕ, Ok, Err, length, get_or, take}
use Rattle.std.proofs.Common.{ap, ◌∙◌, append_assoc, arith}
use Rattle.text_spec.specs.Lines.{ascii, decimal, event_list, trace_line, number_line}
use Rattle.text_spec.proofs.TellLaws.{same_rest, after_number, events_tell}
use Rattle.walk_lines_spec.specs.Lines.{length_line, walk_lines}
use Rattle.walk_lines_spec.specs.Says.{walked_text, refused_text}

-- the lines of a walk, in pieces: its events are the first of the list, as many as its length says
pub length_parts : (wish l : ℕ) (list t : List ℕ) → take l list ≡ t → length t ≡ l → walk_lines wish (Ok l) list ≡ walked_text wish t
unfolding walk_lines length_line trace_line
length_parts wish l list t e n =
    rw (e, ← n)
    (append_assoc (ascii "walked ") (decimal (length t) ++ (ascii " of " ++ (decimal wish ++ ascii "\n"))) (ascii "trace" ++ (event_list t ++ ascii "\n"))
    ∙ ap (λ (x : List ℕ). ascii "walked " ++ x)
    (append_assoc (decimal (length t)) (ascii " of " ++ (decimal wish ++ ascii "\n")) (ascii "trace" ++ (event_list t ++ ascii "\n"))
    ∙ ap (λ (x : List ℕ). decimal (length t) ++ x)
    (append_assoc (ascii " of ") (decimal wish ++ ascii "\n") (ascii "trace" ++ (event_list t ++ ascii "\n"))
    ∙ ap (λ (x : List ℕ). ascii " of " ++ x) (append_assoc (decimal wish) (ascii "\n") (ascii "trace" ++ (event_list t ++ ascii "\n"))))))

-- the same, spelled out over any list
pub lines_spelled : (wish l : ℕ) (list : List ℕ)
    → walk_lines wish (Ok l) list
    ≡ (ascii "walked " ++ (decimal l ++ (ascii " of " ++ (decimal wish ++ ascii "\n")))) ++ (ascii "trace" ++ (event_list (take l list) ++ ascii "\n"))
unfolding walk_lines length_line trace_line
lines_spelled wish l list = refl

pub denied_parts : (wish m : ℕ) (list : List ℕ) → walk_lines wish (Err m) list ≡ refused_text m
unfolding walk_lines number_line
denied_parts wish m list = refl

-- a walk is not a refusal
pub not_refused : (wish m : ℕ) (t : List ℕ) → walked_text wish t ≢ refused_text m
not_refused wish m t e = let z = ap (λ (l : List ℕ). get_or l 4 0) e in omega (arith, z)

-- the same lines tell the same wish and the same walk
pub walked_tells : (w w' : ℕ) (t u : List ℕ) → walked_text w t ≡ walked_text w' u → (w ≡ w') × (t ≡ u)
walked_tells w w' t u e =
    let a = after_number 32 (omega arith) (length t) (length u) _ _ (same_rest (ascii "walked ") _ _ e) in
    let b = after_number 10 (omega arith) w w' _ _ (same_rest (ascii "of ") _ _ a.1) in
    (b.0, events_tell t u [] [] (same_rest (ascii "trace") _ _ b.1))

pub refused_tells : (m k : ℕ) → refused_text m ≡ refused_text k → m ≡ k
refused_tells m k e = (after_number 10 (omega arith) m k [] [] (same_rest (ascii "walk refused ") _ _ e)).0
