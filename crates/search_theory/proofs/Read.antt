-- Nothing to believe: laws of what specs/Read.antt defines.
use Rattle.std.specs.Prelude.{◌≡◌, ◌⊎◌, ◌≢◌, Bool, set, take}
use Rattle.std.proofs.Math.Path.{refl, sym, ap}
use Rattle.std.proofs.Common.{◌∙◌, inl, inr, eq-zero-or-pos, length-set, drop_at, get_or-set_same, drop-set-lt, length-take-le, lt-ltb, le-ltb}
use mathlib.Core.List.{List, [], ◌∷◌, ◌++◌}
use Prim.Native.Nat.{ℕ, zero, suc, ◌+◌, ◌-◌, ◌*◌, ◌/◌, ◌%◌, ◌≤◌, ◌<◌}
use native.Mathlib.Omega.{arith}
use Rattle.std.proofs.Math.Numerals.{add-one}
use Rattle.std.proofs.Math.ListN.{length, get_or, drop, replicate, get_or-append}
use Rattle.std.proofs.lemmas.List.{length-replicate, get_or-replicate}
use Rattle.std.proofs.Math.Seq.{drop-cons, append_snoc, set_at, get_or-append-add, get_or-drop, drop-append-add, drop-drop}
use Rattle.base.specs.Table.{up_to}
use Rattle.base.proofs.Table.{length_up_to, get_or_up_to, up_to_ext, up_to_all}
use Rattle.base.proofs.Front.{at_front_count}
use Rattle.walks.specs.Graph.{Graph}
use Rattle.search_theory.specs.declared.Found.{Found}
use Rattle.search_theory.specs.declared.Found.TheVariants.{Clear, Bad}
use Rattle.search_theory.specs.Tables.{table_pairs, bad_code}
use Rattle.search_theory.specs.Queue.{entry_of, event_of, Made, read_back}
use Rattle.search_theory.proofs.Queue.{read_back_length}
use Rattle.search_theory.specs.Words.{words_for, St, node_at, link_at, Running}
use Rattle.search_theory.specs.Found.{Ended, settled, read_out, Searched, work_found}
use Rattle.search_theory.proofs.FoundLaws.{settled_is, read_out_is}
use Rattle.search_theory.specs.Steps.{Sizes, RunOk, Seat}
use Rattle.search_theory.proofs.Steps.{pairs_size, small_product, seat}
use Rattle.search_theory.specs.Read.{BackOk, Deep, Link, SearchOk, SettleOk, TraceOk, entry_link, front_of, link_in, linked}

-- ---- the trace

module _ (m : ℕ) (N K : ℕ → ℕ) (x : ℕ) where
  -- to follow no link asks nothing
  pub deep_none : Deep m N K x 0
  unfolding Deep
  deep_none = tt

  -- one link more can be followed
  deep_more : (d j : ℕ) → x < m → 2 ≤ K (N x) → entry_of (K (N x)) ≡ j → Deep m N K j d → Deep m N K x (suc d)
  unfolding Deep
  deep_more d j a c e D = (a, c, rw e D)

module _ (N K : ℕ → ℕ) (x : ℕ) where
  -- the last event is the one of the entry's own link
  read_open : (d : ℕ) → d ≢ 0 → read_back N K d x ≡ read_back N K (d - 1) (entry_of (K (N x))) ++ (event_of (K (N x)) ∷ [])
  unfolding read_back
  read_open zero ne = absurd (ne refl)
  read_open (suc d) ne = let e : suc d - 1 ≡ d = omega arith in rw e

  -- where no link is left, nothing is written
  pub read_none : (d : ℕ) (o : List ℕ) → d ≡ 0 → o ≡ read_back N K d x ++ drop d o
  unfolding read_back
  read_none d o z = rw z

  -- where a link is left, the last event goes to the place before the rest of the list, and what leads there in front
  -- of it
  pub read_more : (d link : ℕ) (o o' : List ℕ) → d ≢ 0 → d ≤ length o → link ≡ K (N x)
      → o' ≡ read_back N K (d - 1) (entry_of link) ++ drop (d - 1) (set o (d - 1) (event_of link))
      → o' ≡ read_back N K d x ++ drop d o
  read_more d link o o' ne l c e =
      let i = event_of link in
      let q : suc (d - 1) ≡ d = omega (arith, ne) in
      let b : d - 1 < length o = omega (arith, ne) in
      let p = read_back N K (d - 1) (entry_of link) in
      let tail : drop (d - 1) (set o (d - 1) i) ≡ i ∷ drop d o =
      drop-cons (set o (d - 1) i) (d - 1) 0 (omega (arith, length-set o (d - 1) i))
      ∙ ap (λ (y : ℕ). y ∷ drop (suc (d - 1)) (set o (d - 1) i)) (get_or-set_same o (d - 1) i 0 b)
      ∙ ap (λ (r : List ℕ). i ∷ r) (drop-set-lt (suc (d - 1)) o (d - 1) i (omega arith) ∙ ap (λ (y : ℕ). drop y o) q)
      in
      let whole : p ++ (i ∷ []) ≡ read_back N K d x =
      ap (λ (y : ℕ). read_back N K (d - 1) (entry_of y) ++ (event_of y ∷ [])) c ∙ sym (read_open d ne)
      in
      e ∙ ap (λ (r : List ℕ). p ++ r) tail ∙ sym (append_snoc p i (drop d o)) ∙ ap (λ (r : List ℕ). r ++ drop d o) whole

-- no event is written to the front
pub front_none : (l t : List ℕ) → t ≡ front_of l 0 ++ drop 0 t
unfolding front_of up_to
front_none l t = refl

-- one event more is written to the front
pub front_next : (l t v : List ℕ) (i : ℕ) → i < length t → v ≡ front_of l i ++ drop i t → set v i (get_or l i 0) ≡ front_of l (i + 1) ++ drop (i + 1) t
unfolding front_of up_to
front_next l t v i h e =
    let f : ℕ → ℕ = λ i. get_or l i 0 in
    rw (e, drop-cons t i 0 h, set_at (up_to f i) (get_or t i 0) (drop (suc i) t) (f i) i (length_up_to f i), add-one i)
    (sym (append_snoc (up_to f i) (f i) (drop (suc i) t)))

-- the front of a list that begins with d events is these
pub front_is : (r t : List ℕ) (d : ℕ) → length r ≡ d → front_of (r ++ t) d ≡ r
unfolding front_of
front_is r t d e =
    up_to_ext (λ i. get_or (r ++ t) i 0) (λ i. get_or r i 0) d (λ i h. get_or-append r t 0 i (omega arith)) ∙ up_to_all r d 0 e

-- d events read back to the front of one list and copied to the front of another
pub write_whole : (N K : ℕ → ℕ) (d x : ℕ) (events events' o o' : List ℕ) → events' ≡ read_back N K d x ++ drop d events
    → o' ≡ front_of events' d ++ drop d o → o' ≡ read_back N K d x ++ drop d o
write_whole N K d x events events' o o' ee eo =
    let r = read_back N K d x in
    eo ∙ ap (λ (l : List ℕ). front_of l d ++ drop d o) ee
    ∙ ap (λ (l : List ℕ). l ++ drop d o) (front_is r (drop d events) d (read_back_length N K d x))

-- ---- the links in the places of their entries

module _ (n : ℕ) (w : List ℕ) where
  -- with the links of no entry the work list is as it was
  pub linked_none : w ≡ linked n w 0
  unfolding linked up_to
  linked_none = refl

  module _ (m : ℕ) where
    -- the place of an entry whose link was put there holds the link
    linked_at : (x : ℕ) → x < m → link_in (linked n w m) x ≡ link_at n w (node_at w x)
    unfolding link_in linked
    linked_at x l = get_or-append (up_to (entry_link n w) m) (drop m w) 0 x (omega (arith, length_up_to (entry_link n w) m)) ∙ get_or_up_to (entry_link n w) m x 0 l

    -- a place after the links that were put is as it was
    linked_later : (v : List ℕ) → v ≡ linked n w m → (i : ℕ) → m ≤ i → get_or v i 0 ≡ get_or w i 0
    unfolding linked
    linked_later v c i l =
        let e : i ≡ length (up_to (entry_link n w) m) + (i - m) = omega (arith, length_up_to (entry_link n w) m) in
        let f : m + (i - m) ≡ i = omega arith in
        ap (λ (y : List ℕ). get_or y i 0) c ∙ ap (λ (y : ℕ). get_or (up_to (entry_link n w) m ++ drop m w) y 0) e
        ∙ get_or-append-add (up_to (entry_link n w) m) (drop m w) (i - m) 0 ∙ get_or-drop m w (i - m) 0 ∙ ap (λ (y : ℕ). get_or w y 0) f

    -- the next entry's node, and its link, are read as before the links were put
    module _ (v : List ℕ) (c : v ≡ linked n w m) (node : ℕ) (e : node ≡ get_or v m 0) where
      pub linked_node : node ≡ node_at w m
      unfolding node_at
      linked_node = e ∙ linked_later v c m (omega arith)

      pub linked_link : m ≤ n → get_or v (n + node) 0 ≡ link_at n w (node_at w m)
      unfolding link_at
      linked_link l = linked_later v c (n + node) (omega arith) ∙ ap (λ (y : ℕ). get_or w (n + y) 0) linked_node

    -- one link more is put in its entry's place
    pub linked_next : (v : List ℕ) (link : ℕ) → v ≡ linked n w m → m < length w → link ≡ entry_link n w m → set v m link ≡ linked n w (m + 1)
    unfolding linked up_to
    linked_next v link c l e =
        rw (c, e, drop-cons w m 0 l, set_at (up_to (entry_link n w) m) (get_or w m 0) (drop (suc m) w) (entry_link n w m) m (length_up_to (entry_link n w) m), add-one m)
        (sym (append_snoc (up_to (entry_link n w) m) (entry_link n w m) (drop (suc m) w)))

    -- the words behind the links that were put are as they were
    pub linked_rest : (k : ℕ) → m ≤ k → drop k (linked n w m) ≡ drop k w
    unfolding linked
    linked_rest k l =
        let e : k ≡ length (up_to (entry_link n w) m) + (k - m) = omega (arith, length_up_to (entry_link n w) m) in
        let f : m + (k - m) ≡ k = omega arith in
        ap (λ (y : ℕ). drop y (up_to (entry_link n w) m ++ drop m w)) e ∙ drop-append-add (up_to (entry_link n w) m) (drop m w) (k - m)
        ∙ drop-drop (k - m) m w ∙ ap (λ (y : ℕ). drop y w) f

    -- links that can be followed in the work list can be followed in the entries' places
    pub linked_deep : (l : List ℕ) → l ≡ linked n w m → (d x : ℕ) → Deep m (node_at w) (link_at n w) x d → Deep m (λ x. x) (link_in l) x d
    unfolding Deep
    linked_deep l c d x D = rw c (go d x D)
      where
        go : (d x : ℕ) → Deep m (node_at w) (link_at n w) x d → Deep m (λ x. x) (link_in (linked n w m)) x d
        go zero x D = tt
        go (suc d) x D = rw (linked_at x D.0) (D.0, D.1, go d (entry_of (link_at n w (node_at w x))) D.2)

    -- links that are followed in the entries' places lead by the same events as in the work list
    pub linked_read : (l : List ℕ) → l ≡ linked n w m → (d x : ℕ) → Deep m (node_at w) (link_at n w) x d
        → read_back (λ x. x) (link_in l) d x ≡ read_back (node_at w) (link_at n w) d x
    unfolding Deep read_back
    linked_read l c d x D = rw c (go d x D)
      where
        go : (d x : ℕ) → Deep m (node_at w) (link_at n w) x d → read_back (λ x. x) (link_in (linked n w m)) d x ≡ read_back (node_at w) (link_at n w) d x
        go zero x D = refl
        go (suc d) x D = rw (linked_at x D.0, go d (entry_of (link_at n w (node_at w x))) D.2)

-- where links are left, one can be followed
pub back_link : (l : List ℕ) (x d : ℕ) → d ≢ 0 → BackOk l x d → Link l x d
unfolding Deep
back_link l x zero ne o = absurd (ne refl)
back_link l x (suc d) ne o = let e : suc d - 1 ≡ d = omega arith in record {
  small = omega (arith, o.links.0, o.small);
  inside = omega (arith, o.links.0, o.room);
  link = o.links.1;
  rest = record { most = o.most; small = o.small; room = o.room; links = rw e o.links.2; few = omega (arith, o.few) };
}

-- with the links in the entries' places the events may be read back
pub trace_back_ok : (n : ℕ) (w l : List ℕ) (x d : ℕ) → TraceOk n w x d → l ≡ linked n w (x + 1) → length l ≡ length w → BackOk l x d
trace_back_ok n w l x d o c e = record {
  most = x + 1;
  small = omega (arith, o.entries);
  room = omega (arith, o.entries);
  links = linked_deep n w (x + 1) l c d x o.links;
  few = o.few;
}

-- as many links as its distance can be followed from an entry, and all entries on the way are before it
pub deep : (g : Graph) (D : ℕ → ℕ) (h k : ℕ) (s : St) → Running g D h k s → (m x : ℕ) → x < m → x < s.tail
    → Deep m (node_at s.work) (link_at g.size s.work) x (D (node_at s.work x))
deep g D h k s r m x b l = go (suc x) x (omega arith) b l
  where
    n : ℕ
    n = g.size

    To : ℕ → Type 0
    To x = Deep m (node_at s.work) (link_at n s.work) x (D (node_at s.work x))

    more : (x j i : ℕ) → x < m → Made g (node_at s.work) (link_at n s.work) D x j i → To j → To x
    more x j i b a t =
        rw (a.depth ∙ add-one (D (node_at s.work j)))
        (deep_more m (node_at s.work) (link_at n s.work) x (D (node_at s.work j)) j b (omega (arith, a.link))
        (omega (arith, a.link, a.event, r.queue.few)) t)

    go : (c x : ℕ) → x < c → x < m → x < s.tail → To x
    go zero x a b l = absurd (omega arith)
    go (suc c) x a b l = pick (eq-zero-or-pos x) (go c)
      where
        pick : (x ≡ 0) ⊎ (0 < x) → ((y : ℕ) → y < c → y < m → y < s.tail → To y) → To x
        pick (inl z) ih = rw (z, r.queue.root.0, r.queue.root.2) (deep_none m (node_at s.work) (link_at n s.work) 0)
        pick (inr p) ih =
            let o = r.queue.made x p l in
            more x o.0 o.1 b o.2 (ih o.0 (omega (arith, o.2.before)) (omega (arith, o.2.before)) (omega (arith, o.2.before)))

-- ---- the answer

-- the words behind the search's own are as they were when the links are in their places
pub settle_rest : (n : ℕ) (w v : List ℕ) (x : ℕ) {d : ℕ} → TraceOk n w x d → v ≡ linked n w (x + 1) → drop (words_for n) v ≡ drop (words_for n) w
settle_rest n w v x o c = ap (drop (words_for n)) c ∙ linked_rest n w (x + 1) (words_for n) (omega (arith, o.entries))

module _ (q n : ℕ) (w : List ℕ) (h t d c : ℕ) where
  -- the answer at a bad entry
  pub settle_bad : (node : ℕ) (o o' : List ℕ) → h < t → node ≡ node_at w h → o' ≡ read_back (node_at w) (link_at n w) d h ++ drop d o
      → (Bad d (node / q) (node % q) c ≡ settled q w h t d c) × (o' ≡ read_out n w h t d o)
  unfolding settled read_out
  settle_bad node o o' l en eo = (
    rw (lt-ltb h t l, en),
    rw (lt-ltb h t l) (eo ∙ sym (at_front_count o (read_back (node_at w) (link_at n w) d h) (read_back_length (node_at w) (link_at n w) d h))),
  )

  -- the answer where no entry is bad
  pub settle_clear : (o : List ℕ) → t ≤ h → (Clear t ≡ settled q w h t d c) × (o ≡ read_out n w h t d o)
  unfolding settled read_out
  settle_clear o l = (rw (le-ltb h t l), rw (le-ltb h t l))

-- ---- the whole

-- a list with 0 from place a up to place b
module _ (a b : ℕ) (w v : List ℕ) (le : a ≤ b) (fits : b ≤ length w) (c : v ≡ take a w ++ (replicate (b - a) 0 ++ drop b w)) where
  -- the list is 0 from place a up to place b
  zero_at : (i : ℕ) → a ≤ i → i < b → get_or v i 0 ≡ 0
  zero_at i l h =
      let front = length-take-le a w (omega arith) in
      let e : i ≡ length (take a w) + (i - a) = omega arith in
      rw (c, e)
      (get_or-append-add (take a w) (replicate (b - a) 0 ++ drop b w) (i - a) 0
      ∙ get_or-append (replicate (b - a) 0) (drop b w) 0 (i - a) (omega (arith, length-replicate {A = ℕ} (b - a) 0))
      ∙ get_or-replicate (b - a) (i - a) 0 0 (omega arith))

  -- from place b on the list is as it was
  zero_rest : drop b v ≡ drop b w
  zero_rest =
      let front = length-take-le a w (omega arith) in
      let e : b ≡ length (take a w) + (b - a) = omega arith in
      let zeros = length-replicate {A = ℕ} (b - a) 0 in
      ap (drop b) c ∙ ap (λ (y : ℕ). drop y (take a w ++ (replicate (b - a) 0 ++ drop b w))) e
      ∙ drop-append-add (take a w) (replicate (b - a) 0 ++ drop b w) (b - a)
      ∙ drop_at (replicate (b - a) 0) (drop b w) (b - a) zeros

module _ (p q e : ℕ) (work trace : List ℕ) (o : SearchOk p q e work trace) where
  -- the sizes are in range
  pub search_sizes : Sizes p q e (p * q)
  search_sizes = record { some_p = o.first_some; some_q = o.second_some; rows = o.first_most; columns = o.second_most; events = o.events; size = refl }

  -- there are at most 1,024 pairs
  pub search_small : p * q ≤ 1024
  search_small = small_product p q o.first_most o.second_most

  -- the work list with its links set to 0
  abbrev pub clean_links : List ℕ
  clean_links = take (p * q) work ++ (replicate (words_for (p * q) - p * q) 0 ++ drop (words_for (p * q)) work)

  -- a search may start in the work list with its links set to 0
  pub search_run_ok : (v : List ℕ) → v ≡ clean_links → length v ≡ length work → RunOk p q e (p * q) v
  search_run_ok v c l = record {
    sizes = search_sizes;
    room = omega (arith, o.words);
    clean = λ x h. (unfold link_at in zero_at (p * q) (words_for (p * q)) work v (omega arith) o.words c (p * q + x) (omega arith) (omega arith));
  }

  module _ (a b : List ℕ) (bad : List Bool) (h d c : ℕ) (s : St) (end : Ended (table_pairs a b p q e) (bad_code bad q) h d c s) where
    -- where the search ended, the answer may be read off
    pub search_settle_ok : SettleOk (p * q) s.work h s.tail d trace
    search_settle_ok = record {
      some = λ l. at h l;
      back = λ l. record {
        entries = record {
          small = search_small;
          room = rw (← m) end.running.room;
          upto = omega (arith, (at h l).inside);
          nodes = λ x k. (at x (omega arith)).node;
        };
        links = rw (← end.depth l, ← m) (deep (table_pairs a b p q e) end.far h 0 s end.running (h + 1) h (omega arith) l);
        few = omega (arith, close l, (at h l).inside, search_small);
      };
      fits = λ l. omega (arith, close l, (at h l).inside, o.places);
    }
      where
        m : (table_pairs a b p q e).size ≡ p * q
        m = pairs_size a b p q e (p * q) search_sizes

        at : (x : ℕ) → x < s.tail → Seat (p * q) x s.work
        at x l = seat a b p q e (p * q) end.far h 0 s search_sizes end.running x l

        close : h < s.tail → d ≤ h
        close l = omega (arith, end.depth l, end.running.queue.near h l)

    -- what was read off the queue, and a list whose words are set to 0 at the end, are the answer
    pub search_whole : (v u w' o' : List ℕ) (f : Found) → v ≡ clean_links → drop (words_for (p * q)) s.work ≡ drop (words_for (p * q)) v
        → drop (words_for (p * q)) u ≡ drop (words_for (p * q)) s.work
        → (f ≡ settled q s.work h s.tail d c) × (o' ≡ read_out (p * q) s.work h s.tail d trace)
        → w' ≡ replicate (words_for (p * q)) 0 ++ drop (words_for (p * q)) u
        → Searched a b p q e bad work trace w' o' f
    search_whole v u w' o' f cv cs cu cf cw = record {
      answer = cf.0 ∙ settled_is a b p q e bad h d c s o.first_some o.second_some end;
      traced = cf.1 ∙ read_out_is a b p q e bad h d c s o.first_some o.second_some end trace;
      zeroed = unfold work_found in (cw ∙ ap (λ (y : List ℕ). replicate m 0 ++ y)
          (cu ∙ cs ∙ zero_rest (p * q) m work v (omega arith) o.words cv) ∙ sym (at_front_count work (replicate m 0) (length-replicate m 0)));
    }
      where
        m : ℕ
        m = words_for (p * q)
