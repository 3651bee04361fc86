-- Nothing to believe: laws. What pieces add to a page, one after another.
use Rattle.std.specs.Prelude.{◌≡◌, ℕ, List, [], ◌∷◌, ◌++◌, ◌+◌, ◌≤◌, ◌<◌, refl, length, take, get_or}
use Rattle.std.proofs.Common.{◌∙◌, add-one, arith}
use Rattle.base.specs.Joined.{joined}
use Rattle.text_spec.specs.Adds.{Holds}
use Rattle.text_spec.specs.Lines.{decimal, event_list}
use Rattle.text_spec.proofs.DecimalLaws.{decimal_small, decimal_large}
use Rattle.text_spec.proofs.AddsLaws.{adds_none, adds_then, adds_all, words_next, words_end, events_next, events_end}
use Rattle.text.specs.declared.Page.{Page}
use Rattle.text.specs.Pages.{Puts}

-- no text
pub puts_none : (p : Page) → Puts [] p p
puts_none p = record { adds = adds_none p.list.now p.at; same_list = refl }

-- one piece after another
pub puts_then : {x y : List ℕ} {p q r : Page} → Puts x p q → Puts y q r → Puts (x ++ y) p r
puts_then h k = record { adds = adds_then h.adds k.adds; same_list = k.same_list ∙ h.same_list }

-- one byte more of some words, and all of them
pub byte_next : {p q r : Page} (w : List ℕ) (i : ℕ) → i < length w → Puts (take i w) p q → Puts (get_or w i 0 ∷ []) q r → Puts (take (i + 1) w) p r
byte_next w i h a b = record { adds = words_next w i h a.adds b.adds; same_list = b.same_list ∙ a.same_list }

pub bytes_end : {p q : Page} (w : List ℕ) (i : ℕ) → length w ≤ i → Puts (take i w) p q → Puts w p q
bytes_end w i h a = record { adds = words_end w i h a.adds; same_list = a.same_list }

-- one event more of a trace, and all of them
pub event_next : {p q r s : Page} (t : List ℕ) (i : ℕ) → i < length t → Puts (event_list (take i t)) p q → Puts (32 ∷ []) q r → Puts (decimal (get_or t i 0)) r s
    → Puts (event_list (take (i + 1) t)) p s
event_next t i h a b c = record { adds = events_next t i h a.adds b.adds c.adds; same_list = c.same_list ∙ b.same_list ∙ a.same_list }

pub events_all : {p q : Page} (t : List ℕ) (i : ℕ) → length t ≤ i → Puts (event_list (take i t)) p q → Puts (event_list t) p q
events_all t i h a = record { adds = events_end t i h a.adds; same_list = a.same_list }

-- texts that are put one after another: none, one more, and all of them
pub joined_none : (f : ℕ → List ℕ) (p : Page) → Puts (joined f 0) p p
unfolding joined
joined_none f p = puts_none p

pub joined_next : {p q r : Page} (f : ℕ → List ℕ) (i : ℕ) → Puts (joined f i) p q → Puts (f i) q r → Puts (joined f (i + 1)) p r
unfolding joined
joined_next f i a b = rw (add-one i) (puts_then a b)

pub joined_end : {p q : Page} (f : ℕ → List ℕ) (n i : ℕ) → n ≤ i → i ≤ n → Puts (joined f i) p q → Puts (joined f n) p q
joined_end f n i x y a = let e : n ≡ i = omega arith in rw e a

-- a text that is put on a page with nothing on it stands over the front of its list
pub page_holds : {text : List ℕ} {p q : Page} → Puts text p q → p.at ≡ 0 → Holds p.list.now text q.list.now q.at
page_holds h e = adds_all (rw e at h.adds)

-- for chains of pieces, for loops over bytes, events and texts that are put one after another, and for digits
pub ruleset pieces = (puts_none, puts_then)

pub ruleset bytes = (puts_none, byte_next, bytes_end)

pub ruleset events = (puts_none, event_next, events_all)

pub ruleset joins = (joined_none, joined_next, joined_end)

pub ruleset digits = (puts_then, decimal_small, decimal_large)
