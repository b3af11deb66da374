-- The search by places: a turn takes the door on top of the stack and follows the rows of its pending states; where no door waits, the table holds
-- the called pairs, and all of them name doors. Assumes nothing.
use mathlib.Core.Path.{◌≡◌, refl, sym, ◌∙◌}
use mathlib.Core.Logic.{inl, inr, ⊎_elim, ◌↔◌}
use mathlib.Core.Bool.{true, false, not, ◌&&◌}
use mathlib.Core.List.Memᴰ
use mathlib.Core.List.{List, [], ◌∷◌}
use Prim.Native.Nat.{ℕ, zero, suc, ◌+◌, ◌-◌, ◌≤◌, ◌<◌}
use native.Mathlib.Omega.{arith}
use lib.Count.{count_trailing_zeros}
use lib.Dec.{eqb}
use lib.ListN.{length, get_or, drop}
use Rattle.sets.specs.Sets.{Mem}
use Rattle.sets.specs.Reach.{seed as reach-seed, next as reach-next}
use Rattle.sets.specs.States.{has_state}
use Rattle.sets.specs.Table.{half, put_half}
use Rattle.sets.proofs.Tests.{either, and_iff}
use Rattle.sets.proofs.Cases.{and_left, and_right, and_intro, or_left, or_right, clash, not_known}
use Rattle.sets.proofs.StateSets.{has_empty, lowest_is}
use Rattle.sets.proofs.Stacks.{stacked_same, stacked_empty, stacked_pop}
use Rattle.sets.proofs.Tallies.{tally_le}
use Rattle.sets.proofs.Tables.{half_other}
use Rattle.sets.proofs.Searches.{Comes, seed, step, Marked, Searching, search_start, search_end, Turn, Turned, search_turn, turn_holds, open_in}
use Rattle.sets.proofs.Filter.{map_filter_mono}
use Rattle.files.specs.Field.{node_of, door_root_of, pair, pair_node, pair_state}
use Rattle.files.specs.Reply.{is_door_word, is_row, is_reach, doors, roots, row, rows, is_door_of}
use Rattle.files.specs.Limits.{bundle_words}
use Rattle.files.proofs.Fields.{pair_node_lem, pair_state_lem}
use Rattle.door_index.specs.Index.{DoorAt, Indexed, index_at}
use Rattle.door_index.proofs.Doors.{door_later, place_node}
use Rattle.row_scan.specs.Following.{in_rows}
use Rattle.hub_search.specs.Search.{expands, reached_at, pending_at, waits_in, place_in, Waiting, Roomy, IndexKept, PairsEntered, Placed, RowLeads, InRows, Stray, Homely, Followed, IsRoot, Called, PairsCalled, Searched}
use Rattle.hub_search.proofs.Places.{at_within, expand_door, expand_within}
use Rattle.hub_search.proofs.Entries.{some_state, kept_then, roomy_same, put_here, put_index, put_kept, put_rows}
use Rattle.hub_search.proofs.Seeks.{door_at_lem, indexed_kept}

-- A pair's row stands behind its node's door

rows_door : (c d : ℕ) (ws : List ℕ) → Mem d (rows ws c) → (j : ℕ) × DoorAt ws (pair_node c) j × Mem d (row (drop (suc j) ws) (pair_state c))
rows_door c d [] m = elim m [ ]
rows_door c d (w ∷ ws) m = elim (either (is_door_of (pair_node c) w)) [
  | inl t ↦ (0, record { within = omega arith; is = t; first = λ k l. absurd (omega arith) }, rw t at m)
  | inr t ↦ let r = rows_door c d ws (rw t at m) in (suc r.0, door_later t r.1, r.2)
]

rows_at : (c : ℕ) (ws : List ℕ) (j : ℕ) → DoorAt ws (pair_node c) j → rows ws c ≡ row (drop (suc j) ws) (pair_state c)
rows_at c [] j d = absurd (omega (arith, d.within))
rows_at c (w ∷ ws) zero d = rw d.is
rows_at c (w ∷ ws) (suc j) d = rw (d.first 0 (omega arith)) (rows_at c ws j (record { within = omega (arith, d.within); is = d.is; first = λ k l. d.first (suc k) (omega arith) }))

-- only a door with rows leads anywhere
row_expands : (ws : List ℕ) (i q c : ℕ) → is_door_word (get_or ws i 0) ≡ true → Mem c (row (drop (suc i) ws) q) → expands ws i ≡ true
row_expands ws i q c t m = and_intro (is_door_word (get_or ws i 0)) _ t (behind (suc i) m)
  where
    first_word : (v : ℕ) (vs : List ℕ) → Mem c (row (v ∷ vs) q) → in_rows v ≡ true
    first_word v vs m = elim (either (in_rows v)) [
      | inl z ↦ z
      | inr z ↦
          let a = not_known (λ t. clash (or_left (is_row v) (is_reach v) t) z) in
          let b = not_known (λ t. clash (or_right (is_row v) (is_reach v) t) z) in
          elim (rw (a, b) at m) [ ]
    ]

    behind : (k : ℕ) → Mem c (row (drop k ws) q) → in_rows (get_or ws k 0) ≡ true
    behind k m = go ws k m
      where
        go : (ws : List ℕ) (k : ℕ) → Mem c (row (drop k ws) q) → in_rows (get_or ws k 0) ≡ true
        go [] zero m = elim m [ ]
        go [] (suc k) m = elim m [ ]
        go (w ∷ ws) zero m = first_word w ws m
        go (w ∷ ws) (suc k) m = go ws k m

-- What the steps between places come to is what the rows reach

module _ (ws d w₀ : List ℕ) {n : ℕ} (none : (j q : ℕ) → reached_at ws d j q ≡ false) (g : PairsEntered ws n (Placed ws (IsRoot ws)) d w₀) where
  abbrev Come : ℕ → ℕ → Type 0
  Come = Comes (Marked (length ws) (reached_at ws w₀)) (RowLeads ws)

  come_reach : {j q : ℕ} → Come j q → (c : ℕ) × DoorAt ws (pair_node c) j × (q ≡ pair_state c) × Called ws c
  come_reach (seed {i} {q} (l, h)) =
      ⊎_elim (λ a. absurd (clash a (none i q)))
      (λ (c, (z, m), d, e). (c, d, e, reach-seed (rw (← root_pair c z) (Memᴰ.map (λ x. pair x 0) m))))
      (g.only i q h)
    where
      root_pair : (c : ℕ) → pair_state c ≡ 0 → pair (pair_node c) 0 ≡ c
      root_pair c z = omega arith
  come_reach (step {i} {q} {j} {p} r (t, (c, m, d, e))) =
      let (b, db, eb, rb) = come_reach r in
      let k : Mem c (rows ws b) = rw (rows_at b ws i db, ← eb) m in
      (c, d, e, reach-next rb k)

  reach_come : {c : ℕ} → Called ws c → (j : ℕ) → DoorAt ws (pair_node c) j → Come j (pair_state c)
  reach_come {c} (reach-seed m) j d =
      let (x, k, e) = Memᴰ.of_map (λ x. pair x 0) (roots ws) m in
      let z : pair_state c ≡ 0 = omega (arith, e) in
      let n : x ≡ pair_node c = omega (arith, e) in
      let i : Mem (pair_node c) (roots ws) = rw n at k in
      seed (d.within, ⊎_elim (λ a. a) (λ a. absurd a) (g.all j (pair_state c) (c, (z, i), d, refl)))
  reach_come {c} (reach-next {x} r m) j d =
      let (i, di, k) = rows_door x c ws m in
      step (reach_come r i di) (door_at_lem di, (c, k, d, refl))

-- a root is a door
root_door : (ws : List ℕ) (x : ℕ) → Mem x (roots ws) → Mem x (doors ws)
root_door ws = map_filter_mono node_of (λ w. is_door_word w && door_root_of w) is_door_word ws ws (λ w i t. (i, ((and_iff (is_door_word w) (door_root_of w)).0 t).0))

-- The loop

-- the pairs of a pair's row name doors
abbrev RowHome : List ℕ → ℕ → ℕ → Type 0
RowHome ws j q = Homely ws (λ c. Mem c (row (drop (suc j) ws) q))

pub record Running (ws o : List ℕ) (n : ℕ) (w₀ w : List ℕ) (top : ℕ) : Type 0 where
  pub searching : Searching (length ws) (RowLeads ws) (reached_at ws w₀) (reached_at ws w) (pending_at ws w)
  pub home : (j q : ℕ) → j < length ws → is_door_word (get_or ws j 0) ≡ true → reached_at ws w j q ≡ true → pending_at ws w j q ≡ false → RowHome ws j q
  pub waiting : Waiting ws n w top
  pub roomy : Roomy ws n w
  pub indexed : Indexed ws o w n
  pub kept : IndexKept n w₀ w

-- how many pairs are open
abbrev pub open_pairs : List ℕ → List ℕ → ℕ
open_pairs ws w = open_in (length ws) (reached_at ws w) (pending_at ws w)

-- a table of zeros has no pairs
module _ (ws w : List ℕ) (few : length ws ≤ bundle_words) (z : (i : ℕ) → i < bundle_words → half w 0 i ≡ 0) where
  pub none_reached : (j q : ℕ) → reached_at ws w j q ≡ false
  none_reached j q = elim (either (is_door_word (get_or ws j 0))) [
    | inl t ↦ rw (t, z j (omega (arith, at_within is_door_word refl ws j t))) (has_empty q)
    | inr t ↦ rw t
  ]

  pub none_pending : (j q : ℕ) → pending_at ws w j q ≡ false
  none_pending j q = elim (either (expands ws j)) [
    | inl t ↦ rw (t, z (suc j) (omega (arith, expand_within ws j t))) (has_empty q)
    | inr t ↦ rw t
  ]

  pub none_waiting : (d : ℕ) → Waiting ws d w 0
  none_waiting d = stacked_empty (length ws) (waits_in ws w) (place_in d w) (λ j l. idle j)
    where
      idle : (j : ℕ) → waits_in ws w j ≡ false
      idle j = elim (either (expands ws j)) [
        | inl t ↦ rw (t, z (suc j) (omega (arith, expand_within ws j t)))
        | inr t ↦ rw t
      ]

pub running_first : (ws o : List ℕ) {n : ℕ} {d w : List ℕ} {top : ℕ} → Indexed ws o d n → Roomy ws n d → ((i : ℕ) → i < bundle_words → half d 0 i ≡ 0)
    → PairsEntered ws n (Placed ws (IsRoot ws)) d w → Waiting ws n w top → Running ws o n w w top
running_first ws o {n} {d} {w} x r z g st = record {
  searching = search_start (length ws) (RowLeads ws) (reached_at ws w) (pending_at ws w) inside (λ j q k p l m (t, (c, i, at, e)). leads j q m (row_expands ws j q c t i));
  home = λ j q l t m f c i. absurd (clash (leads j q m (row_expands ws j q c t i)) f);
  waiting = st;
  roomy = roomy_same r g.kept.long;
  indexed = indexed_kept x g.kept;
  kept = record { index = λ k l. refl; long = refl };
}
  where
    same : (j q : ℕ) → pending_at ws w j q ≡ (expands ws j && (reached_at ws w j q && true))
    same j q = g.fresh j q ∙ rw (none_pending ws d r.few z j q, none_reached ws d r.few z j q)

    inside : (j q : ℕ) → j < length ws → pending_at ws w j q ≡ true → reached_at ws w j q ≡ true
    inside j q l m = and_left (reached_at ws w j q) true (and_right (expands ws j) _ (sym (same j q) ∙ m))

    leads : (j q : ℕ) → reached_at ws w j q ≡ true → expands ws j ≡ true → pending_at ws w j q ≡ true
    leads j q m t = same j q ∙ rw (t, m)

-- A turn: the door on top is taken, with its pending states

module _ {ws o : List ℕ} {n : ℕ} {w₀ w : List ℕ} {top : ℕ} (f : Running ws o n w₀ w top) (pos : 0 < top) where
  pub top_room : n + (top - 1) < bundle_words
  top_room = omega (arith, f.roomy.places, f.waiting.count, tally_le (waits_in ws w) (expands ws) (length ws) (λ j l h. and_left (expands ws j) _ h))

  module _ {i : ℕ} (ei : i ≡ index_at w (n + (top - 1))) where
    i_within : i < length ws
    i_within = rw ei (f.waiting.below (top - 1) (omega arith))

    i_waits : waits_in ws w i ≡ true
    i_waits = rw ei (f.waiting.live (top - 1) (omega arith))

    i_expands : expands ws i ≡ true
    i_expands = and_left (expands ws i) _ i_waits

    pub turn_place : suc i < length ws
    turn_place = expand_within ws i i_expands

module _ {ws o : List ℕ} {n : ℕ} {w₀ w : List ℕ} {top : ℕ} (f : Running ws o n w₀ w top) (pos : 0 < top) {i s : ℕ} (ei : i ≡ index_at w (n + (top - 1)))
    (es : s ≡ half w 0 (suc i)) where
  abbrev inside : i < length ws
  inside = i_within f pos ei

  abbrev behind : suc i < length ws
  behind = turn_place f pos ei

  abbrev grows : expands ws i ≡ true
  grows = i_expands f pos ei

  s_some : s ≡ 0 → ⊥
  s_some z = clash (and_right (expands ws i) (not (eqb (half w 0 (suc i)) 0)) (i_waits f pos ei)) (rw (← es, z))

  abbrev taken : List ℕ
  taken = put_half w 0 (suc i) 0

  reached₁ : (j q : ℕ) → reached_at ws taken j q ≡ reached_at ws w j q
  reached₁ j q = put_rows ws n w (suc i) 0 f.roomy behind (and_right (is_door_word (get_or ws i 0)) _ grows) (λ a. has_state a q) j

  here₁ : half taken 0 (suc i) ≡ 0
  here₁ = put_here ws n w (suc i) 0 f.roomy behind

  there₁ : (j : ℕ) → (j ≡ i → ⊥) → half taken 0 (suc j) ≡ half w 0 (suc j)
  there₁ j m = half_other w 0 (suc i) 0 (suc j) (λ e. m (omega arith))

  kept₁ : IndexKept n w taken
  kept₁ = put_kept ws n w (suc i) 0 f.roomy behind

  -- the rest of the stack waits
  pub rest_waiting : Waiting ws n taken (top - 1)
  rest_waiting = stacked_same (length ws) (waits_in ws taken) (waits_in ws taken) (place_in n w) (place_in n taken) (top - 1) (λ j l. refl)
      (λ k l. put_index ws n w (suc i) 0 f.roomy behind (n + k))
      (stacked_pop (length ws) (waits_in ws w) (waits_in ws taken) (place_in n w) top pos f.waiting (rw (← ei) (rw (grows, here₁)))
      (λ j l m. rw (there₁ j (λ e. m (e ∙ ei)))))

  pub turn_ready : Indexed ws o taken n × Roomy ws n taken × (i < length ws)
  turn_ready = (indexed_kept f.indexed kept₁, roomy_same f.roomy kept₁.long, inside)

  pending_is : (q : ℕ) → pending_at ws w i q ≡ has_state s q
  pending_is q = rw (grows, es)

  -- a stray is met: a pair of the rows that are followed is called
  pub running_stray : {d w' : List ℕ} → ((j q : ℕ) → reached_at ws d j q ≡ false) → PairsEntered ws n (Placed ws (IsRoot ws)) d w₀
      → Stray ws (InRows s (drop (suc i) ws)) → Searched ws n d w' true
  running_stray {d} none rooted (c, m, x) = record {
    strays = λ e. (c, row_called c m, x);
    homely = λ e. absurd (clash refl e);
    called = λ e. absurd (clash refl e);
    kept = λ e. absurd (clash refl e);
  }
    where
      row_called : (c : ℕ) → InRows s (drop (suc i) ws) c → Called ws c
      row_called c (q, h, m) =
          let p : pending_at ws w i q ≡ true = pending_is q ∙ h in
          let (b, db, eb, rb) = come_reach ws d w₀ none rooted (f.searching.sound i q inside (f.searching.within i q inside p)) in
          let k : Mem c (rows ws b) = rw (rows_at b ws i db, ← eb) m in
          reach-next rb k

  module _ (small : s < 65536) {w₂ : List ℕ} {height : ℕ} (g : Followed ws n i s taken w₂ height) where
    abbrev grown : PairsEntered ws n (Placed ws (InRows s (drop (suc i) ws))) taken w₂
    grown = g.enters

    turn : Turn (length ws) (RowLeads ws) (expands ws) i (reached_at ws w) (pending_at ws w) (pending_at ws taken) (reached_at ws w₂) (pending_at ws w₂)
    turn = record {
      here = λ q. rw (grows, here₁) (has_empty q);
      there = λ j q h m. rw (there₁ j m);
      kept = λ j q h m. grown.more j q (reached₁ j q ∙ m);
      fresh = λ j q h. grown.fresh j q ∙ rw (reached₁ j q);
      only = λ j x h m. ⊎_elim (λ a. inl (sym (reached₁ j x) ∙ a))
          (λ (c, (q, hs, k), at, r). inr (q, pending_is q ∙ hs, (expand_door ws i grows, (c, k, at, r)))) (grown.only j x m);
      all = λ q j x h m (e, (c, k, at, r)). ⊎_elim (λ a. a) (λ a. absurd a) (grown.all j x (c, (q, sym (pending_is q) ∙ m, k), at, r));
    }

    abbrev low : ℕ
    low = count_trailing_zeros 16 s

    low_is : (low < 16) × (pending_at ws w i low ≡ true)
    low_is = let l = lowest_is 16 s (omega (arith, s_some)) small in (l.0, pending_is low ∙ l.1)

    turned : Turned (length ws) (RowLeads ws) (reached_at ws w₀) (reached_at ws w) (pending_at ws w) (reached_at ws w₂) (pending_at ws w₂)
    turned = search_turn (length ws) (RowLeads ws) (expands ws) i (reached_at ws w₀) (reached_at ws w) (pending_at ws w) (pending_at ws taken) (reached_at ws w₂) (pending_at ws w₂)
        inside (λ i q j x h (e, (c, k, at, r)). at.within) (λ i q j x (e, (c, k, at, r)). row_expands ws i q c e k) f.searching turn low low_is.0 low_is.1

    home : (j q : ℕ) → j < length ws → is_door_word (get_or ws j 0) ≡ true → reached_at ws w₂ j q ≡ true → pending_at ws w₂ j q ≡ false → RowHome ws j q
    home j q l dr m p c k =
        turn_holds (length ws) (RowLeads ws) (expands ws) i (reached_at ws w₀) (reached_at ws w) (pending_at ws w) (pending_at ws taken) (reached_at ws w₂) (pending_at ws w₂)
        inside (λ i q j x h (e, (c, k, at, r)). at.within) (λ i q j x (e, (c, k, at, r)). row_expands ws i q c e k) f.searching turn low low_is.0 low_is.1
        (λ j q. is_door_word (get_or ws j 0) ≡ true → RowHome ws j q) (λ j q l a b dr. f.home j q l dr a b)
        (λ q a dr c k. g.homely c (q, sym (pending_is q) ∙ a, k)) j q l (row_expands ws j q c dr k) m p dr c k

    pub running_turn : Running ws o n w₀ w₂ height
    running_turn = record {
      searching = turned.next;
      home = home;
      waiting = g.waiting;
      roomy = roomy_same f.roomy (grown.kept.long ∙ kept₁.long);
      indexed = indexed_kept f.indexed (kept_then kept₁ grown.kept);
      kept = kept_then f.kept (kept_then kept₁ grown.kept);
    }

    pub running_less : open_pairs ws w₂ < open_pairs ws w
    running_less = turned.less

-- where no door waits
pub running_last : {ws o : List ℕ} {n : ℕ} {d w₀ w : List ℕ} {top : ℕ} → Running ws o n w₀ w top → ((j q : ℕ) → reached_at ws d j q ≡ false)
    → PairsEntered ws n (Placed ws (IsRoot ws)) d w₀ → top ≡ 0 → Searched ws n d w false
running_last {ws} {o} {n} {d} {w₀} {w} {top} f clear rooted e =
    record { strays = λ z. absurd (clash z refl); homely = λ z. homely; called = λ z. called; kept = λ z. kept_then rooted.kept f.kept }
  where
    none : (j q : ℕ) → j < length ws → pending_at ws w j q ≡ false
    none j q l = not_known (λ (t : pending_at ws w j q ≡ true).
        let x = and_left (expands ws j) _ t in
        let m : waits_in ws w j ≡ true = rw (x, some_state (half w 0 (suc j)) q (and_right (expands ws j) _ t)) in
        let (k, b, p) = f.waiting.held j l m in
        omega (arith, b, e))

    ends : (j q : ℕ) → j < length ws → (reached_at ws w j q ≡ true) ↔ Comes (Marked (length ws) (reached_at ws w₀)) (RowLeads ws) j q
    ends = search_end (length ws) (RowLeads ws) (reached_at ws w₀) (reached_at ws w) (pending_at ws w) (λ i q j x l (t, (c, k, at, r)). at.within) f.searching (λ k p l. none k p l)

    called : PairsCalled ws w
    called x j q at small = (to, from)
      where
        to : has_state (half w 0 j) q ≡ true → Called ws (pair x q)
        to t =
            let (c, dc, ec, r) = come_reach ws d w₀ clear rooted ((ends j q at.within).0 (rw (door_at_lem at) t)) in
            let n : x ≡ pair_node c = place_node at dc in
            let e : c ≡ pair x q = omega (arith, n, ec) in
            rw e at r

        from : Called ws (pair x q) → has_state (half w 0 j) q ≡ true
        from r =
            let k = reach_come ws d w₀ clear rooted r j (rw (pair_node_lem x q small) at) in
            let t = (ends j q at.within).1 (rw (pair_state_lem x q small) at k) in
            and_right (is_door_word (get_or ws j 0)) _ t

    homely : Homely ws (Called ws)
    homely c (reach-seed m) =
        let (x, k, e) = Memᴰ.of_map (λ x. pair x 0) (roots ws) m in
        let n : x ≡ pair_node c = omega (arith, e) in
        rw (← n) (root_door ws x k)
    homely c (reach-next {x} r m) =
        let (i, di, k) = rows_door x c ws m in
        let come = reach_come ws d w₀ clear rooted r i di in
        f.home i (pair_state x) di.within (door_at_lem di) ((ends i (pair_state x) di.within).1 come) (none i (pair_state x) di.within) c k
