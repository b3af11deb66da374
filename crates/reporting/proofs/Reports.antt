-- The rows that a first reply's code writes are those of the definitions. Assumes nothing.
use mathlib.Core.Path.{◌≡◌, refl, sym, ◌∙◌, ap, subst}
use mathlib.Core.Logic.{◌↔◌, ◌⊎◌, inl, inr, ⊎_elim}
use mathlib.Core.Bool.{Bool, true, false}
use mathlib.Core.List.Memᴰ
use mathlib.Core.List.{List, [], ◌∷◌, ◌++◌, map}
use Prim.Native.Nat.{ℕ, zero, suc, ◌+◌, ◌≤◌, ◌<◌}
use native.Mathlib.Omega.{arith}
use native.Mathlib.Numerals.{add-one}
use lib.ListN.{length, get_or, drop, length-append, length-map}
use Rattle.sets.specs.Sets.{Mem, here, there, Ascending, member}
use Rattle.sets.specs.Reach.{Reach, seed, next}
use Rattle.sets.specs.States.{has_state, states_of}
use Rattle.sets.proofs.Members.{members_in, in_members}
use Rattle.sets.proofs.Reach.{reach_trans}
use Rattle.sets.proofs.Sets.{append_ascending, lists_unique, member_iff}
use Rattle.sets.proofs.Tests.{either, passed, is_true}
use Rattle.sets.proofs.Cases.{eq_or_ne, and_left, clash}
use Rattle.files.specs.Field.{node_of, door_of, root_of, door_word, row_word, reach_word, pair, pair_node, pair_state}
use Rattle.files.specs.Part.{is_node, is_door, nodes}
use Rattle.files.specs.Limits.{reply_words}
use Rattle.expressions.specs.Expr.{Expr, count}
use Rattle.slots.specs.Slots.{node_at, number, place_of, reached_of, is_reached, Laid}
use Rattle.walks.specs.Product.{step_in}
use Rattle.part_search.specs.Search.{Begun, Blank, Follow, Tables, Sought, Seeded, Searched, Fresh}
use Rattle.slots.proofs.Storing.{kept_refl, kept_trans, kept_sym}
use Rattle.part_search.proofs.Stepping.{tables_kept}
use Rattle.part_search.proofs.Seeding.{marks_none, marks_sought, closed_blank}
use Rattle.part_search.proofs.Finding.{outside_at, outside_found}
use Rattle.listing.specs.Rows.{Places, pairs_at, pairs_up_to}
use Rattle.listing.proofs.Answering.{number_below}
use Rattle.listing.proofs.Rowing.{pairs_few}
use Rattle.output.specs.Writer.{Puts, Counts, Writes}
use Rattle.output.proofs.Ranges.{pairs_ascending}
use Rattle.output.proofs.Writing.{written_full, writes_counted, writes_none, writes_more}
use Rattle.first_replies.specs.FirstReply.{reported, row_words}
use Rattle.reporting.specs.Reporting.{Idle, Ready, MayReport, Reports, row_at, rows_below, door_at, words_at, words_below}
use Rattle.first_replies.proofs.Reported.{reported_lists}
use Rattle.reporting.proofs.Wording.{door_is}

-- ---- counts, whatever stands in the output

module _ (limit : ℕ) where
  counts_none : (c : ℕ) → Counts limit c 0 c
  counts_none c m h = omega (arith, h)

  counts_more : {a b c : ℕ} (j k : ℕ) → Counts limit a j b → Counts limit b k c → Counts limit a (j + k) c
  counts_more j k f g m h = omega (arith, g (m + j) (f m h))

  -- past the limit nothing is counted
  counts_full : {c : ℕ} (k : ℕ) → limit < c → Counts limit c k c
  counts_full k l m h = omega (arith, h)

-- ---- a row

-- the words of a row, if it has any
row_none : (q : ℕ) (cs : List ℕ) → length cs ≡ 0 → [] ≡ row_words q cs
row_none q [] h = refl
row_none q (c ∷ cs) h = absurd (omega arith)

row_some : (q : ℕ) (cs : List ℕ) → (length cs ≡ 0 → ⊥) → row_word q ∷ map reach_word cs ≡ row_words q cs
row_some q [] h = absurd (h refl)
row_some q (c ∷ cs) h = refl

-- what a pair of a place is
at_place : (ws w : List ℕ) (k c : ℕ) → Mem c (pairs_at ws w k) ↔ ((pair_node c ≡ number ws (place_of w k)) × (is_reached w (place_of w k) (pair_state c) ≡ true))
at_place ws w k c = (to, from)
  where
    to : Mem c (pairs_at ws w k) → (pair_node c ≡ number ws (place_of w k)) × (is_reached w (place_of w k) (pair_state c) ≡ true)
    to m =
        let (q, i, e) = Memᴰ.of_map (pair (number ws (place_of w k))) (states_of (reached_of w (place_of w k))) m in
        let (a, l, h) = in_members (has_state (reached_of w (place_of w k))) 0 16 q i in
        let p : q ≡ pair_state c = omega (arith, l, e) in
        (omega (arith, l, e), subst (λ y. is_reached w (place_of w k) y ≡ true) p h)

    from : (pair_node c ≡ number ws (place_of w k)) × (is_reached w (place_of w k) (pair_state c) ≡ true) → Mem c (pairs_at ws w k)
    from (n, h) =
        subst (λ y. Mem y (pairs_at ws w k)) (omega (arith, n)) (Memᴰ.map (pair (number ws (place_of w k)))
        (members_in (has_state (reached_of w (place_of w k))) 0 16 (pair_state c) (omega arith) (omega arith) h))

-- the pairs of the first t places
up_to : (ws w : List ℕ) (t c : ℕ) → Mem c (pairs_up_to ws w t) ↔ ((k : ℕ) × (k < t) × Mem c (pairs_at ws w k))
up_to ws w zero c = (λ m. elim m [ ], λ (k, l, m). absurd (omega arith))
up_to ws w (suc t) c = (
  λ m. elim (Memᴰ.append_cases (pairs_up_to ws w t) m) [
    | inl i ↦ let (k, l, h) = (up_to ws w t c).0 i in (k, omega arith, h)
    | inr i ↦ (t, omega arith, i)
  ],
  λ (k, l, m). elim (eq_or_ne k t) [
    | inl e ↦ Memᴰ.append_right (pairs_up_to ws w t) (subst (λ j. Mem c (pairs_at ws w j)) e m)
    | inr n ↦ Memᴰ.append_left (pairs_at ws w t) ((up_to ws w t c).1 (k, omega (arith, n), m))
  ],
)

up_to_rises : (ws w : List ℕ) (t : ℕ) → ((k l : ℕ) → k < l → l < t → number ws (place_of w k) < number ws (place_of w l)) → Ascending (pairs_up_to ws w t)
up_to_rises ws w zero h = tt
up_to_rises ws w (suc t) h = append_ascending (pairs_up_to ws w t) (pairs_at ws w t)
    (up_to_rises ws w t (λ k l a b. h k l a (omega arith))) (pairs_ascending (number ws (place_of w t)) (reached_of w (place_of w t)))
    (λ x y m n.
    let (k, l, i) = (up_to ws w t x).0 m in
    omega (arith, h k t l (omega arith), ((at_place ws w k x).0 i).0, ((at_place ws w t y).0 n).0))

-- what is reached from a pair and others is reached from it, or from the others
reach_split : {step : ℕ → List ℕ} {c : ℕ} {cs : List ℕ} {d : ℕ} → Reach step (c ∷ cs) d → Reach step (c ∷ []) d ⊎ Reach step cs d
reach_split (seed (here e)) = inl (seed (here e))
reach_split (seed (there m)) = inr (seed m)
reach_split (next r m) = ⊎_elim (λ a. inl (next a m)) (λ a. inr (next a m)) (reach_split r)

reach_none : {step : ℕ → List ℕ} {d : ℕ} → Reach step [] d → ⊥
reach_none (seed m) = elim m [ ]
reach_none (next r m) = reach_none r

mem_or : (x : ℕ) (ys : List ℕ) → Mem x ys ⊎ (Mem x ys → ⊥)
mem_or x ys = ⊎_elim (λ t. inl ((member_iff x ys).0 (passed t))) (λ f. inr (λ m. clash (is_true (member x ys) ((member_iff x ys).1 m)) f)) (either (member x ys))

-- tables without marks are ready
pub ready_blank : (ws : List ℕ) (t : ℕ) (follow w : List ℕ) → Begun ws t w 0 → Blank ws w → Ready ws t follow w
ready_blank ws t follow w g b = record {
  begun = g;
  closed = closed_blank ws w follow b;
  idle = λ e f tables. record { seeds = []; sought = marks_sought ws e w [] (marks_none ws w b); inside = λ c r. absurd (reach_none r) };
}

module _ (ws : List ℕ) (t i q : ℕ) {w₁ w₂ w₃ follow : List ℕ} {top : ℕ} (ready : Ready ws t follow w₁) (node : node_at ws i ≡ true) (state : q < 16)
    (seeded : Seeded ws t w₁ w₂ i q top) (searched : Searched ws t follow w₂ w₃) where
  module _ (e : Expr) (f : Follow e follow) (tables : Tables ws e t w₁) where
    tab : Tables ws e t w₂
    tab = tables_kept seeded.kept tables

    seeds : List ℕ
    seeds = pair (number ws i) q ∷ (ready.idle e f tables).seeds

    sought : Sought ws e w₂ seeds
    unfolding seeds
    sought = seeded.sought e (ready.idle e f tables).seeds (ready.idle e f tables).sought

    -- what is read off the tables is reached outside
    read_off : (c : ℕ) → Mem c (pairs_up_to ws w₃ t) ↔ (Reach (step_in (drop 1 ws) e) seeds c × (Mem (pair_node c) (nodes (drop 1 ws)) → ⊥))
    read_off c = (
      λ m.
          let (k, l, p) = (up_to ws w₃ t c).0 m in
          let (n, h) = (at_place ws w₃ k c).0 p in
          (outside_found ws e t follow w₂ w₃ seeds tab f sought searched c).1
          (k, l, outside_at ws t w₂ tab.laid k l ∙ ap (number ws) (sym (searched.kept.places k l)) ∙ sym n, h),
      λ r.
          let (k, l, n, h) = (outside_found ws e t follow w₂ w₃ seeds tab f sought searched c).0 r in
          (up_to ws w₃ t c).1 (k, l, (at_place ws w₃ k c).1 (sym n ∙ outside_at ws t w₂ tab.laid k l ∙ ap (number ws) (sym (searched.kept.places k l)), h)),
    )

    -- what is reached outside is reached from the door: the earlier pairs reach nothing there
    from_door : (c : ℕ) → (Reach (step_in (drop 1 ws) e) seeds c × (Mem (pair_node c) (nodes (drop 1 ws)) → ⊥))
        ↔ (Reach (step_in (drop 1 ws) e) (pair (number ws i) q ∷ []) c × (Mem (pair_node c) (nodes (drop 1 ws)) → ⊥))
    unfolding seeds
    from_door c = (
      λ (r, n). (⊎_elim (λ a. a) (λ a. absurd (n ((ready.idle e f tables).inside c a))) (reach_split r), n),
      λ (r, n). (reach_trans (λ d m. seed (here (Memᴰ.eq_of_singleton m))) c r, n),
    )

    -- the row that is read off the tables is the one that is to be reported
    row_reported : pairs_up_to ws w₃ t ≡ reported (drop 1 ws) e (number ws i) q
    row_reported = lists_unique (record {
      ascending = up_to_rises ws w₃ t (λ k l a b. rw (searched.kept.places k (omega arith), searched.kept.places l b) (tab.laid.ascending k l a b));
      sound = λ c m. (read_off c).0 m;
      complete = λ c r. (read_off c).1 r;
    }) (reported_lists (drop 1 ws) e f.small (number ws i) q (omega (arith, number_below ws i))) from_door

  -- a row is written, and counted by its k pairs; then the marks are taken away
  pub row_added : {w₄ out out' : List ℕ} {c r k : ℕ} → ((us : List ℕ) → k ≡ length (pairs_up_to us w₃ t)) → (k ≡ 0 → ⊥)
      → Puts reply_words (length out) out c out' (row_word q ∷ map reach_word (pairs_up_to ws w₃ t)) → Counts reply_words c (k + 1) r → Fresh ws t w₃ w₄
      → length out' ≡ length out → Reports ws t follow w₁ out c w₄ out' r (row_at ws i q)
  row_added {w₄} {k = k} l z h g fresh same = record {
    again = record {
      kept = kept_trans seeded.kept (kept_trans searched.kept fresh.kept);
      ready = ready_blank ws t follow w₄ fresh.begun fresh.blank;
    };
    same = same;
    adds = λ e f tab. rw (sym (words e f tab)) (writes_counted (row_word q ∷ map reach_word (pairs_up_to ws w₃ t)) h g size);
    counts = λ e f tab. rw (sym (words e f tab), ← size) g;
  }
    where
      size : k + 1 ≡ length (row_word q ∷ map reach_word (pairs_up_to ws w₃ t))
      size = simp length-map (omega (arith, l ws))

      words : (e : Expr) (f : Follow e follow) (tab : Tables ws e t w₁) → row_word q ∷ map reach_word (pairs_up_to ws w₃ t) ≡ row_at ws i q e
      words e f tab = row_some q (pairs_up_to ws w₃ t) (λ o. z (l ws ∙ o)) ∙ ap (row_words q) (row_reported e f tab)

  -- no row is written, and the marks stay
  module _ {k : ℕ} (l : (us : List ℕ) → k ≡ length (pairs_up_to us w₃ t)) (z : k ≡ 0) where
    no_member : (c : ℕ) (cs : List ℕ) → length cs ≡ 0 → Mem c cs → ⊥
    no_member c [] e m = elim m [ ]
    no_member c (d ∷ cs) e m = absurd (omega arith)

    idle : (e : Expr) → Follow e follow → Tables ws e t w₃ → Idle ws e w₃
    unfolding seeds
    idle e f tab₃ =
        let tab₁ = tables_kept (kept_sym (kept_trans seeded.kept searched.kept)) tab₃ in
        record {
          seeds = seeds e f tab₁;
          sought = searched.sought e (seeds e f tab₁) f (tab e f tab₁).masked (sought e f tab₁);
          inside = λ c r. ⊎_elim (λ m. m)
              (λ n. absurd (no_member c (pairs_up_to ws w₃ t) (sym (l ws) ∙ z) ((read_off e f tab₁ c).1 (r, n))))
              (mem_or (pair_node c) (nodes (drop 1 ws)));
        }

    pub row_empty : {out : List ℕ} {c : ℕ} → Reports ws t follow w₁ out c w₃ out c (row_at ws i q)
    row_empty {out} {c} = record {
      again = record {
        kept = kept_trans seeded.kept searched.kept;
        ready = record { begun = searched.begun; closed = searched.closed; idle = idle };
      };
      same = refl;
      adds = λ e f tab. rw (sym (none e f tab)) (writes_none reply_words (length out) out c);
      counts = λ e f tab. rw (sym (none e f tab)) (counts_none reply_words c);
    }
      where
        none : (e : Expr) (f : Follow e follow) (tab : Tables ws e t w₁) → [] ≡ row_at ws i q e
        none e f tab = row_none q (pairs_up_to ws w₃ t) (sym (l ws) ∙ z) ∙ ap (row_words q) (row_reported e f tab)

-- what a row needs of the tables
pub row_room : {ws : List ℕ} {t : ℕ} {w : List ℕ} → Laid ws t w → Places w t
row_room laid = record {
  few = omega (arith, laid.roomy.places);
  below = λ k l. omega (arith, (laid.listed k l).below, laid.roomy.few);
  long = laid.roomy.long;
}

-- a row has at most 16 pairs for each outside target
pub row_few : {ws : List ℕ} {t k : ℕ} {w : List ℕ} → Laid ws t w → ((us : List ℕ) → k ≡ length (pairs_up_to us w t)) → k ≤ 65536
row_few {t = t} {w = w} laid l = omega (arith, l [], pairs_few [] w t, (row_room laid).few)

-- ---- reports, one after another

module _ {ws : List ℕ} {t : ℕ} {follow : List ℕ} where
  pub reports_none : (w out : List ℕ) (count : ℕ) → Ready ws t follow w → Reports ws t follow w out count w out count (λ e. [])
  reports_none w out count r =
      record {
        again = record { kept = kept_refl ws t w; ready = r };
        same = refl;
        adds = λ e f tab. writes_none reply_words (length out) out count;
        counts = λ e f tab. counts_none reply_words count;
      }

  pub reports_more : {w w' w'' out out' out'' : List ℕ} {count r s : ℕ} (us vs : Expr → List ℕ) → Reports ws t follow w out count w' out' r us
      → Reports ws t follow w' out' r w'' out'' s vs → Reports ws t follow w out count w'' out'' s (λ e. us e ++ vs e)
  reports_more us vs a b = record {
    again = record { kept = kept_trans a.again.kept b.again.kept; ready = b.again.ready };
    same = b.same ∙ a.same;
    adds = λ e f tab. writes_more (us e) (vs e) (a.adds e f tab) (rw a.same at (b.adds e f (tables_kept a.again.kept tab)));
    counts = λ e f tab. rw length-append (counts_more reply_words (length (us e)) (length (vs e)) (a.counts e f tab) (b.counts e f (tables_kept a.again.kept tab)));
  }

  -- a report of some words is one of equal words
  pub reports_as : {w w' out out' : List ℕ} {count r : ℕ} (us vs : Expr → List ℕ) → ((e : Expr) → us e ≡ vs e) → Reports ws t follow w out count w' out' r us
      → Reports ws t follow w out count w' out' r vs
  reports_as us vs h a =
      record { again = a.again; same = a.same; adds = λ e f tab. rw (h e) at (a.adds e f tab); counts = λ e f tab. rw (h e) at (a.counts e f tab) }

  -- a loop: `below k` are the words of the turns before turn k, and turn k adds `turn k`
  pub reports_next : {w w' w'' out out' out'' : List ℕ} {count r s : ℕ} (below turn : ℕ → Expr → List ℕ) (k : ℕ)
      → ((e : Expr) → below k e ++ turn k e ≡ below (k + 1) e) → Reports ws t follow w out count w' out' r (below k)
      → Reports ws t follow w' out' r w'' out'' s (turn k) → Reports ws t follow w out count w'' out'' s (below (k + 1))
  reports_next below turn k h a b = reports_as (λ e. below k e ++ turn k e) (below (k + 1)) h (reports_more (below k) (turn k) a b)

  pub reports_end : {w w' out out' : List ℕ} {count r : ℕ} (below : ℕ → Expr → List ℕ) (k l : ℕ) → k ≡ l → Reports ws t follow w out count w' out' r (below k)
      → Reports ws t follow w out count w' out' r (below l)
  reports_end below k l h a = rw h at a

  -- another may begin, where the output is as long
  pub may_report_as : {w out out' : List ℕ} → MayReport ws t follow w out → length out' ≡ length out → MayReport ws t follow w out'
  may_report_as a h = record { ready = a.ready; room = omega (arith, a.room, h) }

pub rows_next : (ws : List ℕ) (i q : ℕ) (e : Expr) → rows_below ws i q e ++ row_at ws i q e ≡ rows_below ws i (q + 1) e
rows_next ws i q e = rw add-one

pub words_next : (ws : List ℕ) (n i : ℕ) (e : Expr) → words_below ws n i e ++ words_at ws n i e ≡ words_below ws n (i + 1) e
words_next ws n i e = rw add-one

-- ---- a door

-- the door word is put, and counted as one word; c₁ is what its writer counts
pub door_added : {t : ℕ} {follow w₁ w₂ a b d : List ℕ} {c c₁ r s w v : ℕ} (ws : List ℕ) (n i : ℕ) → Ready ws t follow w₁ → w ≡ get_or ws i 0
    → v ≡ door_word (node_of w) (root_of w) → Writes reply_words (length a) a c b c₁ (v ∷ []) → Counts reply_words c 1 r → length b ≡ length a
    → Reports ws t follow w₁ b r w₂ d s (rows_below ws i (n + 1)) → Reports ws t follow w₁ a c w₂ d s (door_at ws n i)
door_added {t} {follow} {w₁} {a = a} {b = b} {c = c} {r = r} {v = v} ws n i g q h f k l m =
    let one : Reports ws t follow w₁ a c w₁ b r (λ e. v ∷ []) = record {
      again = record { kept = kept_refl ws t w₁; ready = g };
      same = l;
      adds = λ e y tab. writes_counted (v ∷ []) (λ us p. (f us p).out_is) k refl;
      counts = λ e y tab. k;
    } in
    reports_as (λ e. v ∷ rows_below ws i (n + 1) e) (door_at ws n i) (λ e. door_is ws n i e q h) (reports_more (λ e. v ∷ []) (rows_below ws i (n + 1)) one m)

-- ---- a position

-- past the limit nothing changes
pub over_added : {ws : List ℕ} {t : ℕ} {follow w out : List ℕ} {c : ℕ} (owed : Expr → List ℕ) → Ready ws t follow w → reply_words < c
    → Reports ws t follow w out c w out c owed
over_added {ws} {t} {w = w} {out = out} owed g h =
    record {
      again = record { kept = kept_refl ws t w; ready = g };
      same = refl;
      adds = λ e f tab us r. written_full reply_words (length out) us (owed e) h r;
      counts = λ e f tab. counts_full reply_words (length (owed e)) h;
    }

module _ {t : ℕ} {follow : List ℕ} (ws : List ℕ) (n i : ℕ) where
  pub here_some : {w w' a b : List ℕ} {c r : ℕ} → is_door (get_or ws i 0) ≡ true → Reports ws t follow w a c w' b r (door_at ws n i)
      → Reports ws t follow w a c w' b r (words_at ws n i)
  here_some d m = reports_as (door_at ws n i) (words_at ws n i) (λ e. rw d) m

  pub here_none : {w a : List ℕ} {c : ℕ} → is_door (get_or ws i 0) ≡ false → Ready ws t follow w → Reports ws t follow w a c w a c (words_at ws n i)
  here_none {w} {a} {c} d m = reports_as (λ e. []) (words_at ws n i) (λ e. rw d) (reports_none w a c m)

-- whether a door stands at position i, by the word that was read there
pub door_read : (ws : List ℕ) (i : ℕ) {v : ℕ} {x y : Bool} → v ≡ get_or ws i 0 → x ≡ is_door v → x ≡ y → is_door (get_or ws i 0) ≡ y
door_read ws i f g h = ap is_door (sym f) ∙ sym g ∙ h

pub door_node : (ws : List ℕ) (i : ℕ) → is_door (get_or ws i 0) ≡ true → node_at ws i ≡ true
unfolding node_at
door_node ws i d = and_left (is_node (get_or ws i 0)) (door_of (get_or ws i 0)) d
