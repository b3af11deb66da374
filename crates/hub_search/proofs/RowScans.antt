-- The rows behind a door word by word: what is left of the rows of a set of states, where the row at hand is followed or not. Assumes nothing.
use mathlib.Core.Path.{◌≡◌, refl, sym, ap, ◌∙◌}
use mathlib.Core.Logic.{◌⊎◌, inl, inr, ⊎_elim}
use mathlib.Core.Bool.{true, false, ◌&&◌, and-false}
use mathlib.Core.List.Memᴰ
use mathlib.Core.List.{List, [], ◌∷◌}
use Prim.Native.Nat.{ℕ, suc, ◌+◌, ◌<◌}
use native.Mathlib.Omega.{arith}
use native.Mathlib.Numerals.{add-one}
use borrow.Author.Tests.{eqb-true, eq-eqb, ne_eqb}
use lib.ListN.{length, get_or, drop, drop_of_length-le}
use lib.Seq.{drop-cons}
use Rattle.sets.specs.Sets.{Mem, here, there}
use Rattle.sets.specs.States.{has_state}
use Rattle.sets.proofs.Tests.{either}
use Rattle.sets.proofs.Cases.{eq_or_ne, lt_or_le, and_left, and_right, or_elim, or_left, or_right, clash, not_known}
use Rattle.files.specs.Field.{kind_of, state_of, pair_of, pair_node}
use Rattle.files.specs.Reply.{is_row, is_reach, front, row, doors}
use Rattle.door_index.specs.Index.{DoorAt, Indexed}
use Rattle.door_index.proofs.Doors.{door_mem}
use Rattle.row_scan.specs.declared.rows.Rows.{Rows}
use Rattle.row_scan.specs.Following.{in_rows, TurnsRow}
use Rattle.hub_search.specs.Search.{Waiting, Roomy, Entered, Growing, Placed, InRows, Stray, Followed}
use Rattle.hub_search.proofs.Places.{at_within}
use Rattle.hub_search.proofs.Entries.{roomy_same}
use Rattle.hub_search.proofs.Growing.{growing_first, growing_more, growing_left, entered_pair}
use Rattle.hub_search.proofs.Seeks.{indexed_kept}

-- what is left: the reach words at the front, where their row is followed, and the rows of the states that are left
abbrev pub Left : Rows → List ℕ → ℕ → Type 0
Left a ws c = ((a.on ≡ true) × Mem c (front ws)) ⊎ InRows a.left ws c

module _ (a : Rows) (v : ℕ) (ws : List ℕ) (c : ℕ) where
  -- a row word: its row is followed if its state belongs, and no later row of that state
  module _ (b : Rows) (k : is_row v ≡ true) (t : TurnsRow a v b) where
    no_reach : is_reach v ≡ false
    no_reach = rw (eqb-true (kind_of v) 9 k)

    row_here : (q : ℕ) → state_of v ≡ q → row (v ∷ ws) q ≡ front ws
    row_here q e = rw (k, eq-eqb (state_of v) q e)

    row_there : (q : ℕ) → (state_of v ≡ q → ⊥) → row (v ∷ ws) q ≡ row ws q
    row_there q n = rw (k, ne_eqb (state_of v) q n)

    row_down : Left a (v ∷ ws) c → Left b ws c
    row_down (inl (o, m)) = elim (rw no_reach at m) [ ]
    row_down (inr (q, h, m)) =
        ⊎_elim (λ e. inl (t.on k ∙ ap (has_state a.left) e ∙ h, rw (row_here q e) at m))
        (λ n. inr (q, t.left k q ∙ rw (h, ne_eqb q (state_of v) (λ z. n (sym z))), rw (row_there q n) at m))
        (eq_or_ne (state_of v) q)

    row_up : Left b ws c → Left a (v ∷ ws) c
    row_up (inl (o, m)) = inr (state_of v, sym (t.on k) ∙ o, rw (row_here (state_of v) refl) m)
    row_up (inr (q, h, m)) =
        ⊎_elim (λ e. absurd (clash h (t.left k q ∙ rw (eq-eqb q (state_of v) (sym e)) (and-false (has_state a.left q)))))
        (λ n. inr (q, and_left (has_state a.left q) _ (sym (t.left k q) ∙ h), rw (row_there q n) m))
        (eq_or_ne (state_of v) q)

  -- a reach word: its pair, where its row is followed, and what the words behind it have
  module _ (k : is_reach v ≡ true) where
    no_row : is_row v ≡ false
    no_row = rw (eqb-true (kind_of v) 10 k)

    reach_down : Left a (v ∷ ws) c → ((a.on ≡ true) × (c ≡ pair_of v)) ⊎ Left a ws c
    reach_down (inl (o, m)) = ⊎_elim (λ e. inl (o, e)) (λ z. inr (inl (o, z))) (Memᴰ.cases_cons (rw k at m))
    reach_down (inr (q, h, m)) = inr (inr (q, h, rw (no_row, k) at m))

    reach_here : (a.on ≡ true) × (c ≡ pair_of v) → Left a (v ∷ ws) c
    reach_here (o, e) = inl (o, rw k (here e))

    reach_up : Left a ws c → Left a (v ∷ ws) c
    reach_up (inl (o, m)) = inl (o, rw k (there m))
    reach_up (inr (q, h, m)) = inr (q, h, rw (no_row, k) m)

  -- another word ends the rows
  rows_stop : in_rows v ≡ false → Left a (v ∷ ws) c → ⊥
  rows_stop n (inl (o, m)) = elim (rw (not_known (λ t. clash (or_right (is_row v) (is_reach v) t) n)) at m) [ ]
  rows_stop n (inr (q, h, m)) = elim (rw (not_known (λ t. clash (or_left (is_row v) (is_reach v) t) n), not_known (λ t. clash (or_right (is_row v) (is_reach v) t) n)) at m) [ ]

rows_end : (a : Rows) (c : ℕ) → Left a [] c → ⊥
rows_end a c (inl (o, m)) = elim m [ ]
rows_end a c (inr (q, h, m)) = elim m [ ]

-- where no word of the rows stands, nothing is left
left_none : (ws : List ℕ) (k : ℕ) (a : Rows) (c : ℕ) → in_rows (get_or ws k 0) ≡ false → Left a (drop k ws) c → ⊥
left_none ws k a c n m = ⊎_elim
    (λ (l : k < length ws). rows_stop a (get_or ws k 0) (drop (suc k) ws) c n (rw (drop-cons ws k 0 l) at m))
    (λ l. rows_end a c (rw (drop_of_length-le ws {i = k} l) at m)) (lt_or_le k (length ws))

-- The loop over the rows behind place i

pub record Following (ws o : List ℕ) (d i s : ℕ) (w₀ w : List ℕ) (a : Rows) (k top : ℕ) : Type 0 where
  pub grown : Growing ws d (Placed ws (InRows s (drop (suc i) ws))) (Placed ws (Left a (drop k ws))) w₀ w
  pub inside : (c : ℕ) → Left a (drop k ws) c → InRows s (drop (suc i) ws) c
  pub named : (c : ℕ) → InRows s (drop (suc i) ws) c → Mem (pair_node c) (doors ws) ⊎ Left a (drop k ws) c
  pub waiting : Waiting ws d w top
  pub roomy : Roomy ws d w
  pub indexed : Indexed ws o w d

pub following_first : (ws o : List ℕ) (d i s : ℕ) (w : List ℕ) (top : ℕ) → Indexed ws o w d → Roomy ws d w → Waiting ws d w top
    → Following ws o d i s w w (record { left = s; on = false }) (i + 1) top
following_first ws o d i s w top x r st = rw (add-one i) (record {
  grown = growing_first (λ j p (c, m, d, e). (c, inr m, d, e));
  inside = λ c m. ⊎_elim (λ (z, a). absurd (clash z refl)) (λ a. a) m;
  named = λ c m. inr (inr m);
  waiting = st;
  roomy = r;
  indexed = x;
})

module _ {ws o : List ℕ} {d i s : ℕ} {w₀ w : List ℕ} {a : Rows} {k top : ℕ} (f : Following ws o d i s w₀ w a k top) where
  -- a word of the rows
  module _ {v : ℕ} {b : Rows} (ev : v ≡ get_or ws k 0) (r : in_rows (get_or ws k 0) ≡ true) (t : TurnsRow a v b) where
    rest : drop k ws ≡ v ∷ drop (k + 1) ws
    rest = rw (ev, add-one k) (drop-cons ws k 0 (at_within in_rows refl ws k r))

    reaches : is_row v ≡ false → is_reach v ≡ true
    reaches n = ⊎_elim (λ z. absurd (clash z n)) (λ z. z) (or_elim (is_row v) (is_reach v) (rw ev r))

    -- none of its row is followed: it begins a row, or belongs to one that is not followed
    module _ (n : (b.on && is_reach v) ≡ false) where
      down : (c : ℕ) → Left a (drop k ws) c → Left b (drop (k + 1) ws) c
      down c m = elim (either (is_row v)) [
        | inl z ↦ row_down a v (drop (k + 1) ws) c b z t (rw rest at m)
        | inr z ↦ ⊎_elim (λ (on, e). absurd (clash (rw (t.other z, on, reaches z)) n)) (λ u. rw (t.other z) u) (reach_down a v (drop (k + 1) ws) c (reaches z) (rw rest at m))
      ]

      up : (c : ℕ) → Left b (drop (k + 1) ws) c → Left a (drop k ws) c
      up c m = elim (either (is_row v)) [
        | inl z ↦ rw rest (row_up a v (drop (k + 1) ws) c b z t m)
        | inr z ↦ rw rest (reach_up a v (drop (k + 1) ws) c (reaches z) (rw (t.other z) at m))
      ]

      pub following_pass : Following ws o d i s w₀ w b (k + 1) top
      following_pass = record {
        grown = growing_left f.grown (λ j p (c, m, x, y). (c, down c m, x, y));
        inside = λ c m. f.inside c (up c m);
        named = λ c m. ⊎_elim (λ z. inl z) (λ z. inr (down c z)) (f.named c m);
        waiting = f.waiting;
        roomy = f.roomy;
        indexed = f.indexed;
      }

    -- a reach word of a row that is followed
    module _ (y : (b.on && is_reach v) ≡ true) where
      reach : is_reach v ≡ true
      reach = and_right b.on (is_reach v) y

      same : b ≡ a
      same = t.other (no_row a v [] 0 reach)

      on : a.on ≡ true
      on = rw (← same) (and_left b.on (is_reach v) y)

      stands : InRows s (drop (suc i) ws) (pair_of v)
      stands = f.inside (pair_of v) (rw rest (reach_here a v (drop (k + 1) ws) (pair_of v) reach (on, refl)))

      -- its node is no door
      pub following_stray : ¬ Mem (pair_node (pair_of v)) (doors ws) → Stray ws (InRows s (drop (suc i) ws))
      following_stray n = (pair_of v, stands, n)

      -- it is entered
      pub following_enter : {j q : ℕ} {w' : List ℕ} {top' : ℕ} → DoorAt ws (pair_node (pair_of v)) j → q ≡ state_of v → Entered ws d w w' j q → Waiting ws d w' top'
          → Following ws o d i s w₀ w' b (k + 1) top'
      following_enter {j} {q} at eq g st = rw same (record {
        grown = growing_more f.grown (entered_pair (pair_of v) g at (omega (arith, eq)))
            (λ i p (c, m, x, y). (c, rw m stands, x, y))
            (λ i p (c, m, x, y). ⊎_elim (λ (z, e). inl (c, e, x, y)) (λ z. inr (c, z, x, y)) (reach_down a v (drop (k + 1) ws) c reach (rw rest at m)));
        inside = λ c m. f.inside c (rw rest (reach_up a v (drop (k + 1) ws) c reach m));
        named = λ c m. ⊎_elim (λ z. inl z)
            (λ z. ⊎_elim (λ (o, e). inl (rw e (door_mem (pair_node (pair_of v)) ws j at.is))) (λ u. inr u) (reach_down a v (drop (k + 1) ws) c reach (rw rest at z)))
            (f.named c m);
        waiting = st;
        roomy = roomy_same f.roomy g.kept.long;
        indexed = indexed_kept f.indexed g.kept;
      })

  -- the rows are at their end
  pub following_last : in_rows (get_or ws k 0) ≡ false → Followed ws d i s w₀ w top
  following_last n = record {
    homely = λ c m. ⊎_elim (λ z. z) (λ z. absurd (left_none ws k a c n z)) (f.named c m);
    enters = growing_left f.grown (λ j p (c, m, x, y). left_none ws k a c n m);
    waiting = f.waiting;
  }
