-- What a site writes of its doors is read back, whatever it reports: the check accepts it, and it has the doors, the roots and the rows
-- that were written. Assumes nothing.
use mathlib.Core.Path.{◌≡◌, refl, sym, ◌∙◌, ap, ap₂, subst}
use mathlib.Core.Logic.{◌⊎◌, inl, inr}
use mathlib.Core.Bool.{Bool, true, false, cond, not, ◌&&◌, ◌||◌}
use mathlib.Core.List.Memᴰ
use mathlib.Core.List.{List, [], ◌∷◌, ◌++◌, map, flatten, append_assoc, append-nil, map-id}
use Prim.Native.Nat.{ℕ, suc, ◌^◌, ◌≤◌, ◌<◌}
use native.Mathlib.Omega.{arith}
use lib.Dec.{T}
use lib.ListN.{length}
use borrow.Author.Tests.{eq-eqb, ne_eqb}
use Rattle.sets.specs.Sets.{Mem, here, there, Ascending, Distinct, filter}
use Rattle.sets.proofs.Sets.{flatten_map_iff}
use Rattle.sets.proofs.Filter.{filter_append, filter_none, filter_all}
use Rattle.files.specs.Field.{kind_of, node_of, root_of, door_root_of, state_of, pair, pair_node, pair_state, door_word, row_word, reach_word}
use Rattle.files.specs.declared.reply.ReplySeen.{ReplySeen}
use Rattle.files.specs.Reply.{start, is_door_word, is_row, is_reach, scan, doors, roots, front, row, rows}
use Rattle.files.proofs.Checks.{checks}
use Rattle.files.proofs.Fields.{Door, door, Row, Holder, holder, node_below, pair_node_lem, pair_state_lem}
use Rattle.files.proofs.Fields as field
use Rattle.files.proofs.Ordered.{Rising, rising_all}
use Rattle.files.proofs.Replies.{door_scan, row_scan, reach_scan}
use Rattle.files.proofs.Rows.{Stops, rows_flatten}
use Rattle.walks.specs.Product.{positions}
use Rattle.walks.proofs.Product.{states_iff, states_ascending}
use Rattle.first_replies.specs.FirstReply.{row_words}

-- what may stand in a row: pairs in order, with states up to n
pub record Good (n : ℕ) (cs : List ℕ) : Type 0 where
  pub ascends : Ascending cs
  pub each : (c : ℕ) → Mem c cs → (c < 2 ^ 20) × (pair_state c ≤ n)

-- the words of the rows of some states, with f q in the row of q; and a door's words, with r x q reported of the node x in the state q
abbrev pub rows_of : (ℕ → List ℕ) → List ℕ → List ℕ
rows_of f qs = flatten (map (λ q. row_words q (f q)) qs)

abbrev pub block : (ℕ → ℕ → List ℕ) → ℕ → ℕ → List ℕ
block r n w = door_word (node_of w) (root_of w) ∷ rows_of (r (node_of w)) (0 ∷ positions n)

-- a reach word as it is read
reach : (c : ℕ) → c < 2 ^ 20 → Holder 10 c (reach_word c)
reach c h = holder 10 c (omega arith) h

-- The check

module _ (n : ℕ) (small : n < 16) where
  -- each state that has a row is one of the n, and has a good one
  abbrev Rows : (ℕ → List ℕ) → List ℕ → Type 0
  Rows f qs = (q : ℕ) → Mem q qs → (q ≤ n) × Good n (f q)

  module _ (low : ℕ) (rooted : Bool) where
    abbrev seen : ℕ → ℕ → ReplySeen
    seen last state = record { last = last; low = low; state = state; rooted = rooted }

    -- words that are accepted where a row of a state from `least` on may come, and behind a reach word where a pair from `least` on may
    abbrev FromRow : ℕ → List ℕ → Type 0
    FromRow least ws = (last state : ℕ) → T (not (is_row last)) → state ≤ least → scan n (seen last state) ws ≡ 0

    abbrev FromReach : ℕ → ℕ → List ℕ → Type 0
    FromReach state least ws = (last : ℕ) → kind_of last ≡ 10 → last < reach_word least → scan n (seen last state) ws ≡ 0

    -- a reach word behind a row word or another
    reach_read : (rest : List ℕ) (last state c : ℕ) → (c < 2 ^ 20) × (pair_state c ≤ n) → T (is_row last || is_reach last) → last < reach_word c
        → FromReach state (suc c) rest → scan n (seen last state) (reach_word c ∷ rest) ≡ 0
    reach_read rest last state c b t l k =
        let h = reach c b.0 in
        reach_scan n (seen last state) (reach_word c) rest h.kind_is (simp checks ((h.zeros, t), (omega (arith, h.state_is), l)))
        (k (reach_word c) h.kind_is (omega arith))

    more_read : (rest : List ℕ) (state : ℕ) → ((last : ℕ) → T (not (is_row last)) → scan n (seen last state) rest ≡ 0)
        → (least : ℕ) (cs : List ℕ) → Rising least cs → ((c : ℕ) → Mem c cs → (c < 2 ^ 20) × (pair_state c ≤ n)) → FromReach state least (map reach_word cs ++ rest)
    more_read rest state k least cs a = rising_all (λ c. c) (λ least cs. FromReach state least (map reach_word cs ++ rest)) (λ c. (c < 2 ^ 20) × (pair_state c ≤ n))
        (λ least last e l. k last (rw e tt)) (λ least c cs h b i last e l. reach_read (map reach_word cs ++ rest) last state c b (rw e tt) (omega arith) i)
        least cs (rw map-id a)

    -- a row: its words, or none if it holds nothing
    row_read : (rest : List ℕ) (q : ℕ) (cs : List ℕ) → 0 < low → q ≤ n → Good n cs → FromRow (suc q) rest → FromRow q (row_words q cs ++ rest)
    row_read rest q [] l h g k last state t s = k last state t (omega arith)
    row_read rest q (c ∷ cs) l h g k last state t s =
        let r = field.row q (omega arith) in
        let state' = suc (state_of (row_word q)) in
        row_scan n (seen last state) (row_word q) (map reach_word (c ∷ cs) ++ rest) r.kind_is
        (simp checks (((r.zeros, l), t), (omega (arith, r.state_is), omega (arith, r.state_is))))
        (reach_read (map reach_word cs ++ rest) (row_word q) state' c (g.each c (here refl)) (rw r.kind_is tt) (omega arith)
        (more_read rest state' (λ last' t'. k last' state' t' (omega (arith, r.state_is))) (suc c) cs g.ascends (λ d m. g.each d (there m))))

    rows_read : (rest : List ℕ) (f : ℕ → List ℕ) → 0 < low → ((least : ℕ) → FromRow least rest) → (qs : List ℕ) → Ascending qs → Rows f qs → FromRow 0 (rows_of f qs ++ rest)
    unfolding flatten
    rows_read rest f l k qs a = rising_all (λ q. q) (λ least qs. FromRow least (rows_of f qs ++ rest)) (λ q. (q ≤ n) × Good n (f q)) k
        (λ least q qs h g i last state t s. rw (append_assoc (row_words q (f q)) (rows_of f qs) rest)
        (row_read (rows_of f qs ++ rest) q (f q) l g.0 g.1 i last state t (omega arith))) 0 qs (λ q m. omega arith, rw map-id a)

  -- The words of rows

  -- a word that stands in a row is a row word or a reach word of what is reported
  row_words_lem : (q : ℕ) (cs : List ℕ) (w : ℕ) → Mem w (row_words q cs) → (w ≡ row_word q) ⊎ ((c : ℕ) × Mem c cs × (reach_word c ≡ w))
  row_words_lem q [] w m = elim m [ ]
  row_words_lem q (c ∷ cs) w (here e) = inl e
  row_words_lem q (c ∷ cs) w (there m) = inr (Memᴰ.of_map reach_word (c ∷ cs) m)

  -- a property of these words is one of the words of all rows
  rows_words : (P : ℕ → Type 0) (f : ℕ → List ℕ) (qs : List ℕ) → Rows f qs
      → ((q w : ℕ) → Row q w → P w) → ((q c w : ℕ) → q ≤ n → Mem c (f q) → Holder 10 c w → P w)
      → (w : ℕ) → Mem w (rows_of f qs) → P w
  rows_words P f qs g a b w m =
      let r = (flatten_map_iff (λ q. row_words q (f q)) w qs).0 m in
      let h = g r.0 r.1 in
      elim (row_words_lem r.0 (f r.0) w r.2) [
        | inl e ↦ rw e (a r.0 (row_word r.0) (field.row r.0 (omega (arith, h.0))))
        | inr k ↦ rw k.2 at (b r.0 k.0 (reach_word k.0) h.0 k.1 (reach k.0 (h.1.each k.0 k.1).0))
      ]

  -- the pairs of reach words, which a row of another state passes over
  front_made : (cs rest : List ℕ) → ((c : ℕ) → Mem c cs → c < 2 ^ 20) → front (map reach_word cs ++ rest) ≡ cs ++ front rest
  front_made [] rest b = refl
  front_made (c ∷ cs) rest b =
      let h = reach c (b c (here refl)) in
      rw (h.kind_is, h.pair_is) (ap (c ∷◌) (front_made cs rest (λ d m. b d (there m))))

  row_passes : (cs rest : List ℕ) (q : ℕ) → ((c : ℕ) → Mem c cs → c < 2 ^ 20) → row (map reach_word cs ++ rest) q ≡ row rest q
  row_passes [] rest q b = refl
  row_passes (c ∷ cs) rest q b = rw (reach c (b c (here refl))).kind_is (row_passes cs rest q (λ d m. b d (there m)))

  row_other : (p q : ℕ) (cs rest : List ℕ) → p ≤ n → (p ≡ q → ⊥) → Good n cs → row (row_words p cs ++ rest) q ≡ row rest q
  row_other p q [] rest h d g = refl
  row_other p q (c ∷ cs) rest h d g =
      let r = field.row p (omega arith) in
      rw (r.kind_is, r.state_is, ne_eqb p q d) (row_passes (c ∷ cs) rest q (λ c m. (g.each c m).0))

  row_own : (q : ℕ) (cs rest : List ℕ) → q ≤ n → Good n cs → row rest q ≡ [] → front rest ≡ [] → row (row_words q cs ++ rest) q ≡ cs
  row_own q [] rest h g k e = k
  row_own q (c ∷ cs) rest h g k e =
      let r = field.row q (omega arith) in
      rw (r.kind_is, r.state_is, eq-eqb q q refl) (front_made (c ∷ cs) rest (λ c m. (g.each c m).0) ∙ rw (e, append-nil (c ∷ cs)))

  module _ (f : ℕ → List ℕ) where
    -- no row is read of a state that has none, and rows do not begin with a reach word
    row_absent : (qs : List ℕ) (q : ℕ) → Rows f qs → (Mem q qs → ⊥) → row (rows_of f qs) q ≡ []
    unfolding flatten
    row_absent [] q g d = refl
    row_absent (p ∷ qs) q g d =
        let h = g p (here refl) in
        row_other p q (f p) (rows_of f qs) h.0 (λ e. d (here (sym e))) h.1 ∙ row_absent qs q (λ p m. g p (there m)) (λ m. d (there m))

    front_rows : (qs : List ℕ) → Rows f qs → front (rows_of f qs) ≡ []
    unfolding flatten
    front_rows [] g = refl
    front_rows (p ∷ qs) g = begins (f p) (g p (here refl)).0 (front_rows qs (λ p m. g p (there m)))
      where
        begins : (cs : List ℕ) → p ≤ n → front (rows_of f qs) ≡ [] → front (row_words p cs ++ rows_of f qs) ≡ []
        begins [] h k = k
        begins (c ∷ cs) h k = rw (field.row p (omega arith)).kind_is

    -- the row of a state is read
    row_made : (qs : List ℕ) (q : ℕ) → Ascending qs → Rows f qs → Mem q qs → row (rows_of f qs) q ≡ f q
    unfolding flatten
    row_made (p ∷ qs) q a g (here e) =
        let h = g p (here refl) in
        let g' : Rows f qs = λ p m. g p (there m) in
        rw e (row_own p (f p) (rows_of f qs) h.0 h.1 (row_absent qs p g' (λ m. omega (arith, a.0 p m))) (front_rows qs g'))
    row_made (p ∷ qs) q a g (there m) =
        let h = g p (here refl) in
        row_other p q (f p) (rows_of f qs) h.0 (λ e. omega (arith, a.0 q m)) h.1 ∙ row_made qs q a.1 (λ p m. g p (there m)) m
    row_made [] q a g x3 = elim x3 [ ]

  -- The doors' words, one door after another

  module _ (r : ℕ → ℕ → List ℕ) (good : (x q : ℕ) → x < 2 ^ 16 → q ≤ n → Good n (r x q)) where
    abbrev states : List ℕ
    states = 0 ∷ positions n

    good_rows : (w : ℕ) → Rows (r (node_of w)) states
    good_rows w q m = let h = (states_iff n q).0 m in (h, good (node_of w) q (node_below w) h)

    made : (w : ℕ) → Door (node_of w) (root_of w) (door_word (node_of w) (root_of w))
    made w = door (node_of w) (root_of w) (node_below w)

    -- one door, where at most one root may still come
    roots_left : (root rooted : Bool) (w : ℕ) (ds : List ℕ) → length (cond root (w ∷ ds) ds) ≤ cond rooted 0 1
        → T (not root || not rooted) × (length ds ≤ cond (rooted || root) 0 1)
    roots_left true true w ds h = absurd (omega arith)
    roots_left true false w ds h = (tt, omega arith)
    roots_left false true w ds h = (tt, h)
    roots_left false false w ds h = (tt, h)

    -- the check accepts them, if they ascend and at most one is a root
    pub doors_read : (ds : List ℕ) → Ascending (map node_of ds) → length (filter root_of ds) ≤ 1 → scan n start (flatten (map (block r n) ds)) ≡ 0
    unfolding flatten
    doors_read ds a h = rising_all node_of
        (λ least ds. (last low state : ℕ) (rooted : Bool) → T (not (is_row last)) → low ≤ least → length (filter root_of ds) ≤ cond rooted 0 1
        → scan n (seen low rooted last state) (flatten (map (block r n) ds)) ≡ 0) (λ w. Unit {0}) (λ least last low state rooted t l h. simp checks t)
        (λ least v ds g q i last low state rooted t l h.
        let w = door_word (node_of v) (root_of v) in
        let f = made v in
        let rest = flatten (map (block r n) ds) in
        let o = roots_left (root_of v) rooted v (filter root_of ds) h in
        door_scan n (seen low rooted last state) w (rows_of (r (node_of v)) states ++ rest) f.kind_is
        (simp checks ((f.zeros, t), (omega (arith, f.node_is), rw f.root_is o.0)))
        (rows_read (suc (node_of w)) (rooted || door_root_of w) rest (r (node_of v)) (omega arith)
        (λ least last' state' t' s. i last' (suc (node_of w)) state' (rooted || door_root_of w) t' (omega (arith, f.node_is)) (rw f.root_is o.1))
        states (states_ascending n) (good_rows v) w 0 (rw f.kind_is tt) (omega arith)))
        0 ds (λ y m. omega arith, a) (λ w m. tt) 0 0 0 false tt (omega arith) h

    -- every word is one of 32 bits
    pub written_words : (ds : List ℕ) (v : ℕ) → Mem v (flatten (map (block r n) ds)) → v < 2 ^ 32
    written_words ds v m = let k = (flatten_map_iff (block r n) v ds).0 m in go k.0 k.2
      where
        go : (w : ℕ) → Mem v (block r n w) → v < 2 ^ 32
        go w (here e) = rw e (made w).word
        go w (there m) = rows_words (λ v. v < 2 ^ 32) (r (node_of w)) states (good_rows w) (λ q v h. h.word) (λ q c v i k h. h.word) v m

    -- a test that no row or reach word passes chooses among the door words
    chosen_written : (p t : ℕ → Bool) → ((v : ℕ) → kind_of v ≡ 9 → p v ≡ false) → ((v : ℕ) → kind_of v ≡ 10 → p v ≡ false)
        → ((w : ℕ) → p (door_word (node_of w) (root_of w)) ≡ t w)
        → (ds : List ℕ) → map node_of (filter p (flatten (map (block r n) ds))) ≡ map node_of (filter t ds)
    unfolding flatten
    chosen_written p t a b c [] = refl
    chosen_written p t a b c (w ∷ ds) =
        let rest = flatten (map (block r n) ds) in
        let e : filter p (rows_of (r (node_of w)) states) ≡ [] = filter_none p (rows_of (r (node_of w)) states)
        (rows_words (λ v. p v ≡ false) (r (node_of w)) states (good_rows w) (λ q v h. a v h.kind_is) (λ q d v i k h. b v h.kind_is)) in
        rw (filter_append p (block r n w) rest, c w, e) (go (t w) (filter p rest) (chosen_written p t a b c ds))
      where
        go : (x : Bool) (vs : List ℕ) → map node_of vs ≡ map node_of (filter t ds)
            → map node_of (cond x (door_word (node_of w) (root_of w) ∷ []) [] ++ vs) ≡ map node_of (cond x (w ∷ filter t ds) (filter t ds))
        go true vs e = ap₂ ◌∷◌ (made w).node_is e
        go false vs e = e

    pub doors_written : (ds : List ℕ) → doors (flatten (map (block r n) ds)) ≡ map node_of ds
    doors_written ds = chosen_written is_door_word (λ w. true) (λ v e. rw e) (λ v e. rw e) (λ w. rw (made w).kind_is) ds
        ∙ ap (map node_of) (filter_all (λ w. true) ds (λ w m. refl))

    pub roots_written : (ds : List ℕ) → roots (flatten (map (block r n) ds)) ≡ map node_of (filter root_of ds)
    roots_written ds =
        chosen_written (λ w. is_door_word w && door_root_of w) root_of (λ v e. rw e) (λ v e. rw e) (λ w. rw ((made w).kind_is, (made w).root_is)) ds

    -- behind a door word stand the door's rows
    rows_behind : (ds : List ℕ) → Distinct (map node_of ds) → (w q : ℕ) → Mem w ds → q < 16
        → rows (flatten (map (block r n) ds)) (pair (node_of w) q) ≡ row (rows_of (r (node_of w)) states) q
    rows_behind ds d w q m h = rows_flatten (pair (node_of w) q) stops (rw doors_written d) (Memᴰ.map (block r n) m) stands
        ∙ rw ((made w).kind_is, (made w).node_is, pair_node_lem (node_of w) q h, eq-eqb (node_of w) (node_of w) refl, pair_state_lem (node_of w) q h)
      where
        stops : (vs : List ℕ) → Mem vs (map (block r n) ds) → Stops vs
        stops vs m = let k = Memᴰ.of_map (block r n) ds m in subst Stops k.2 (rw (made k.0).kind_is (refl, refl))

        stands : Mem (pair_node (pair (node_of w) q)) (doors (block r n w))
        stands = rw (made w).kind_is (here (pair_node_lem (node_of w) q h ∙ sym (made w).node_is))

    -- the rows of a door are what is reported of it, and there is none for a state above n
    pub rows_written : (ds : List ℕ) → Distinct (map node_of ds) → (w q : ℕ) → Mem w ds → q ≤ n
        → rows (flatten (map (block r n) ds)) (pair (node_of w) q) ≡ r (node_of w) q
    rows_written ds d w q m h = rows_behind ds d w q m (omega arith) ∙ row_made (r (node_of w)) states q (states_ascending n) (good_rows w) ((states_iff n q).1 h)

    pub rows_above : (ds : List ℕ) → Distinct (map node_of ds) → (w q : ℕ) → Mem w ds → n < q → q < 16
        → rows (flatten (map (block r n) ds)) (pair (node_of w) q) ≡ []
    rows_above ds d w q m h l = rows_behind ds d w q m l ∙ row_absent (r (node_of w)) states q (good_rows w) (λ i. omega (arith, (good_rows w q i).0))
