-- Nothing to believe: laws. A list that texts are added to: one byte, one piece after another, the steps of loops over
-- words and events, and the whole.
use Rattle.std.specs.Prelude.{◌≡◌, refl, List, [], ◌∷◌, ◌++◌, ℕ, suc, ◌+◌, ◌≤◌, ◌<◌, min, length, get_or, take, drop, set}
use Rattle.std.proofs.Common.{sym, ap, ◌∙◌, append_assoc, append-nil, add-one, arith, length-append, length-take, length-drop, drop_of_length-le, take-append-drop, length-take-le, take_all, drop-cons, take-suc}
use Rattle.std.proofs.Math.Seq.{take-nil}
use Rattle.std.proofs.lemmas.List.{set_at, take-append-le}
use Rattle.text_spec.specs.Lines.{ascii, decimal, event_list}
use Rattle.text_spec.specs.Adds.{over, Holds, Adds}

pub length_over : (text o : List ℕ) → length (over text o) ≡ length o
unfolding over
length_over text o = rw (length-append (take (length o) text) (drop (length text) o), length-take (length o) text, length-drop (length text) o) (omega arith)

-- a text that fits stands whole
pub over_fits : (text o : List ℕ) → length text ≤ length o → over text o ≡ text ++ drop (length text) o
unfolding over
over_fits text o h = rw (take_all (length o) text h)

-- to a full list nothing is added
over_full : (text more o : List ℕ) → length o ≤ length text → over text o ≡ over (text ++ more) o
unfolding over
over_full text more o h =
    rw (drop_of_length-le o h, take-append-le (length o) text more h, drop_of_length-le o {i = length (text ++ more)} (omega (arith, length-append text more)))

-- adding no text changes nothing
pub adds_none : (out : List ℕ) (at : ℕ) → Adds [] out at out at
adds_none out at = record { adds = λ o text h. rw (append-nil text) h; beyond = λ h. (refl, refl) }

-- one piece added after another adds both
pub adds_then : {x y a b c : List ℕ} {i j k : ℕ} → Adds x a i b j → Adds y b j c k → Adds (x ++ y) a i c k
adds_then {x} {y} {a} {b} {c} {i} {j} {k} p q =
    record {
      adds = λ o text h. rw (← append_assoc text x y) (q.adds o (text ++ x) (p.adds o text h));
      beyond = λ h. go h (p.beyond h);
    }
  where
    go : length a < i → (b ≡ a) × (j ≡ i) → (c ≡ a) × (k ≡ i)
    go h (e, f) = let w = q.beyond (omega (arith, ap length e)) in (w.0 ∙ e, w.1 ∙ f)

-- a text added from the front of a list stands over its front
pub adds_all : {text out out' : List ℕ} {r : ℕ} → Adds text out 0 out' r → (out' ≡ over text out) × (r ≡ min (length text) (length out))
unfolding over
adds_all {text} {out} p = p.adds out [] (rw (take-nil (length out)), omega arith)

module _ (o text : List ℕ) (b : ℕ) where
  one_more : length (text ++ (b ∷ [])) ≡ suc (length text)
  one_more = length-append text (b ∷ []) ∙ omega arith

  store : length text < length o → set (over text o) (length text) b ≡ over (text ++ (b ∷ [])) o
  store h =
      let f : over (text ++ (b ∷ [])) o ≡ (text ++ (b ∷ [])) ++ drop (length (text ++ (b ∷ []))) o = over_fits (text ++ (b ∷ [])) o (omega (arith, one_more)) in
      rw (f, over_fits text o (omega arith), one_more, drop-cons o (length text) 0 h, set_at text (get_or o (length text) 0) (drop (suc (length text)) o) b (length text) refl, append_assoc text (b ∷ []) (drop (suc (length text)) o))

-- a byte is added where there is room
pub byte_in : (out : List ℕ) (at b : ℕ) → at < length out → Adds (b ∷ []) out at (set out at b) (at + 1)
byte_in out at b h = record { adds = λ o text w. go o text w.0 w.1; beyond = λ g. absurd (omega arith) }
  where
    go : (o text : List ℕ) → out ≡ over text o → at ≡ min (length text) (length o) → Holds o (text ++ (b ∷ [])) (set out at b) (at + 1)
    go o text p q =
        let n : length out ≡ length o = ap length p ∙ length_over text o in
        let e : at ≡ length text = omega arith in
        (rw (p, e) (store o text b (omega arith)), omega (arith, one_more o text b))

-- a byte changes nothing where there is no room
pub byte_out : (out : List ℕ) (at b : ℕ) → length out ≤ at → Adds (b ∷ []) out at out at
byte_out out at b h = record { adds = λ o text w. go o text w.0 w.1; beyond = λ g. (refl, refl) }
  where
    go : (o text : List ℕ) → out ≡ over text o → at ≡ min (length text) (length o) → Holds o (text ++ (b ∷ [])) out at
    go o text p q =
        let n : length out ≡ length o = ap length p ∙ length_over text o in
        (p ∙ over_full text (b ∷ []) o (omega arith), omega (arith, one_more o text b))

pub take_more : (w : List ℕ) (i : ℕ) → i < length w → take (i + 1) w ≡ take i w ++ (get_or w i 0 ∷ [])
take_more w i h = rw (add-one i, take-suc w i 0 h)

-- one byte more of some words is added
pub words_next : {a b c : List ℕ} {k l m : ℕ} (w : List ℕ) (i : ℕ) → i < length w → Adds (take i w) a k b l → Adds (get_or w i 0 ∷ []) b l c m → Adds (take (i + 1) w) a k c m
words_next w i h p q = rw (take_more w i h) (adds_then p q)

-- all bytes of some words are added
pub words_end : {a b : List ℕ} {k l : ℕ} (w : List ℕ) (i : ℕ) → length w ≤ i → Adds (take i w) a k b l → Adds w a k b l
words_end w i h p = rw (take_all i w h) at p

pub events_snoc : (t : List ℕ) (e : ℕ) → event_list (t ++ (e ∷ [])) ≡ event_list t ++ (ascii " " ++ decimal e)
unfolding event_list
events_snoc [] e = append-nil (ascii " " ++ decimal e)
events_snoc (x ∷ t) e =
    ap (λ (l : List ℕ). (ascii " " ++ decimal x) ++ l) (events_snoc t e) ∙ sym (append_assoc (ascii " " ++ decimal x) (event_list t) (ascii " " ++ decimal e))

-- one event more of a trace is added
pub events_next : {a b c d : List ℕ} {k l m n : ℕ} (t : List ℕ) (i : ℕ) → i < length t → Adds (event_list (take i t)) a k b l → Adds (32 ∷ []) b l c m
    → Adds (decimal (get_or t i 0)) c m d n → Adds (event_list (take (i + 1) t)) a k d n
events_next t i h p q r = rw (take_more t i h, events_snoc (take i t) (get_or t i 0)) (adds_then p (adds_then q r))

-- all events of a trace are added
pub events_end : {a b : List ℕ} {k l : ℕ} (t : List ℕ) (i : ℕ) → length t ≤ i → Adds (event_list (take i t)) a k b l → Adds (event_list t) a k b l
events_end t i h p = rw (take_all i t h) at p

-- what is added is settled by the record: from a place inside the list, the text stands from there on; from a place
-- beyond it, nothing changes
pub adds_inside : {more out out' : List ℕ} {at at' : ℕ} → Adds more out at out' at' → at ≤ length out
    → (out' ≡ over (take at out ++ more) out) × (at' ≡ min (at + length more) (length out))
unfolding over
adds_inside {more} {out} {out'} {at} {at'} p h =
    let l : length (take at out) ≡ at = length-take-le at out h in
    let w = p.adds out (take at out) (rw (take_all (length out) (take at out) (omega arith), l) (sym (take-append-drop at out)), omega arith) in
    (w.0, omega (arith, w.1, length-append (take at out) more))
