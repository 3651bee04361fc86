-- The probes as they are found, by their number: which are seen below a set, the room for them, and the list that is
-- filled.
use Rattle.std.proofs.Common.{◌≡◌, ℕ, suc, ◌+◌, ◌^◌, ◌<◌, ◌≤◌, true, false, List, [], ◌∷◌, ◌++◌, length, drop, set, sym, refl, ap, ◌∙◌, append_assoc, add-one, length-append, drop-cons}
use lib.Seq.{set-append_seam}
use Rattle.base.specs.Front.{at_front}
use Rattle.base.specs.Gather.{select, gather}
use Rattle.base.proofs.Gather.{gather_yes, gather_no, gather_short, gather_room}
use Rattle.probes_spec.specs.Probes.{is_probe}
use Rattle.probes_spec.specs.Shapes.{probes_by_number}

-- ---- the list that is filled

-- one set more is written after those that stand at the front
pub front_put : (out ps : List ℕ) (v : ℕ) → length ps < length out → set (at_front out ps) (length ps) v ≡ at_front out (ps ++ (v ∷ []))
front_put out ps v h =
    ap (λ (r : List ℕ). set (ps ++ r) (length ps) v) (drop-cons out (length ps) 0 h) ∙ set-append_seam ps _ _ v
    ∙ sym (append_assoc ps (v ∷ []) (drop (suc (length ps)) out))
    ∙ ap (λ (n : ℕ). (ps ++ (v ∷ [])) ++ drop n out) (sym (length-append ps (v ∷ []) ∙ add-one (length ps)))

-- ---- the probes that were seen

-- the probes below x
abbrev pub seen : List ℕ → ℕ → List ℕ
seen accs x = gather (is_probe accs) (λ y. y) x

pub seen_none : (accs : List ℕ) → seen accs 0 ≡ []
unfolding gather
seen_none accs = refl

module _ (accs : List ℕ) (x : ℕ) where
  pub seen_no : is_probe accs x ≡ false → seen accs (x + 1) ≡ seen accs x
  seen_no t = rw (add-one x) (gather_no (is_probe accs) (λ y. y) x t)

  pub seen_short : length (seen accs x) ≤ x
  seen_short = gather_short (is_probe accs) (λ y. y) x

  module _ (t : is_probe accs x ≡ true) where
    seen_yes : seen accs (x + 1) ≡ seen accs x ++ (x ∷ [])
    seen_yes = rw (add-one x) (gather_yes (is_probe accs) (λ y. y) x t)

    -- behind a probe one more was seen
    pub seen_count : length (seen accs (x + 1)) ≡ length (seen accs x) + 1
    seen_count = rw seen_yes (length-append (seen accs x) (x ∷ []))

    -- there is room for x in a list that has room for all
    pub seen_room : (e : ℕ) → x < 2 ^ e → length (seen accs x) < length (probes_by_number accs e)
    unfolding probes_by_number select
    seen_room e h = gather_room (is_probe accs) (λ y. y) x (2 ^ e) h t

    -- x is written after the probes that were seen
    pub seen_put : (out : List ℕ) {now : List ℕ} {n : ℕ} → n ≡ length (seen accs x) → now ≡ at_front out (seen accs x) → length (seen accs x) < length out
        → set now n x ≡ at_front out (seen accs (x + 1))
    seen_put out p q h = rw (seen_yes, p, q) (front_put out (seen accs x) x h)

-- at the end all were seen
pub seen_all : (accs : List ℕ) (e x : ℕ) → x ≡ 2 ^ e → seen accs x ≡ probes_by_number accs e
unfolding probes_by_number select
seen_all accs e x h = rw h
