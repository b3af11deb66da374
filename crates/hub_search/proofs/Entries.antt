-- A state entered at a door's place, and the stack of the doors that wait. Assumes nothing.
use mathlib.Core.Path.{◌≡◌, refl, ap, ◌∙◌}
use mathlib.Core.Logic.{inl, inr, ⊎_elim}
use mathlib.Core.Bool.{Bool, true, false, not, ◌&&◌, ◌||◌, or-false, and-true, and-false}
use mathlib.Core.List.{List}
use Prim.Native.Nat.{ℕ, zero, suc, ◌+◌, ◌<◌}
use native.Mathlib.Omega.{arith}
use native.Mathlib.Numerals.{add-one}
use borrow.Author.Tests.{eqb-true, eq-eqb, ne_eqb}
use lib.Dec.{eqb, eqb-suc-zero}
use lib.ListN.{length, get_or}
use Rattle.sets.specs.States.{has_state}
use Rattle.sets.specs.Table.{half, put_half}
use Rattle.sets.proofs.Cases.{eq_or_ne, and_left, clash}
use Rattle.sets.proofs.Tables.{length_put, half_same, half_other, half_apart}
use Rattle.sets.proofs.StateSets.{has_empty}
use Rattle.sets.proofs.Stacks.{stacked_same, stacked_push, stacked_room}
use Rattle.files.specs.Reply.{is_door_word}
use Rattle.files.specs.Limits.{bundle_words}
use Rattle.door_index.specs.Index.{index_base, index_at}
use Rattle.row_scan.specs.Following.{in_rows}
use Rattle.hub_search.specs.Search.{expands, reached_at, pending_at, waits_in, place_in, Waiting, Roomy, IndexKept, Entered, Waits}
use Rattle.hub_search.proofs.Places.{at_within, word_rows, rows_no_door, door_no_rows, expand_rows, expand_within, door_by_lem, rows_by}

-- a set with a state is not empty
pub some_state : (s q : ℕ) → has_state s q ≡ true → eqb s 0 ≡ false
some_state zero q h = absurd (clash h (has_empty q))
some_state (suc s) q h = eqb-suc-zero s

pub kept_then : {d : ℕ} {w w₁ w₂ : List ℕ} → IndexKept d w w₁ → IndexKept d w₁ w₂ → IndexKept d w w₂
kept_then f g = record { index = λ k l. g.index k l ∙ f.index k l; long = g.long ∙ f.long }

-- the room is the same in a buffer of the same length
pub roomy_same : {ws : List ℕ} {d : ℕ} {w w' : List ℕ} → Roomy ws d w → length w' ≡ length w → Roomy ws d w'
roomy_same r e = record { few = r.few; long = omega (arith, r.long); places = r.places }

-- A number of the table is put: what the other places and the index keep

module _ (ws : List ℕ) (d : ℕ) (w : List ℕ) (at v : ℕ) (roomy : Roomy ws d w) (l : at < length ws) where
  abbrev pub put : List ℕ
  put = put_half w 0 at v

  pub put_here : half put 0 at ≡ v
  put_here = half_same w 0 at v (omega (arith, roomy.few, roomy.long))

  pub put_index : (k : ℕ) → index_at put k ≡ index_at w k
  put_index k = half_apart w 0 at v index_base k (inr (omega (arith, roomy.few)))

  pub put_kept : IndexKept d w put
  put_kept = record { index = λ k i. put_index k; long = length_put w 0 at v }

  -- at the place of a word of the rows: no door's states change
  pub put_rows : in_rows (get_or ws at 0) ≡ true → (F : ℕ → Bool) (i : ℕ) → (is_door_word (get_or ws i 0) && F (half put 0 i)) ≡ (is_door_word (get_or ws i 0) && F (half w 0 i))
  put_rows t F i = ⊎_elim (λ (e : i ≡ at). rw (e, rows_no_door (get_or ws at 0) t)) (λ n. rw (half_other w 0 at v i n)) (eq_or_ne i at)

  -- at the place of a door: no pending states change
  put_door : is_door_word (get_or ws at 0) ≡ true → (F : ℕ → Bool) (i : ℕ) → (expands ws i && F (half put 0 (suc i))) ≡ (expands ws i && F (half w 0 (suc i)))
  put_door t F i = ⊎_elim (λ (e : suc i ≡ at). rw (e, door_no_rows (get_or ws at 0) t, and-false (is_door_word (get_or ws i 0)))) (λ n. rw (half_other w 0 at v (suc i) n)) (eq_or_ne (suc i) at)

-- a door with rows has a place behind it
pub wait_place : {ws : List ℕ} {d : ℕ} {w : List ℕ} (j : ℕ) → Roomy ws d w → expands ws j ≡ true → j + 1 < bundle_words
wait_place {ws} j r ex = omega (arith, r.few, expand_within ws j ex)

-- a door has a place in the table
pub enter_place : {ws : List ℕ} {d : ℕ} {w : List ℕ} (j : ℕ) → Roomy ws d w → is_door_word (get_or ws j 0) ≡ true → j < bundle_words
enter_place {ws} j r t = omega (arith, r.few, at_within is_door_word refl ws j t)

-- w is the word behind the door at j
pub behind : (ws : List ℕ) (j : ℕ) {w : ℕ} {b v : Bool} → w ≡ get_or ws (j + 1) 0 → b ≡ in_rows w → b ≡ v → in_rows (get_or ws (suc j) 0) ≡ v
behind ws j ew eb t = rw (← add-one j) (word_rows ws (j + 1) ew eb t)

-- The door at j waits in state q too: p are the states in which it waits, v those with q

module _ (ws : List ℕ) (d : ℕ) (w : List ℕ) (j q top : ℕ) (roomy : Roomy ws d w) (ex : expands ws j ≡ true) (st : Waiting ws d w top)
    (p v : ℕ) (ep : p ≡ half w 0 (suc j)) (ev : (x : ℕ) → has_state v x ≡ (has_state p x || eqb x q)) where
  inside : suc j < length ws
  inside = expand_within ws j ex

  abbrev waits₁ : List ℕ
  waits₁ = put_half w 0 (suc j) v

  v_some : eqb v 0 ≡ false
  v_some = some_state v q (ev q ∙ rw (eq-eqb q q refl) (or_true (has_state p q)))
    where
      or_true : (a : Bool) → (a || true) ≡ true
      or_true true = refl
      or_true false = refl

  pending_here : half waits₁ 0 (suc j) ≡ v
  pending_here = put_here ws d w (suc j) v roomy inside

  pending_there : (i : ℕ) → (i ≡ j → ⊥) → half waits₁ 0 (suc i) ≡ half w 0 (suc i)
  pending_there i n = half_other w 0 (suc j) v (suc i) (λ e. n (omega arith))

  waits_more : Waits ws d w waits₁ j q
  waits_more = record {
    reached = λ i x. put_rows ws d w (suc j) v roomy inside (expand_rows ws j ex) (λ s. has_state s x) i;
    pending = λ i x. ⊎_elim (λ (e : i ≡ j). rw (e, ex, pending_here, ev x, ← ep, eq-eqb j j refl)) (λ n. rw (pending_there i n, ne_eqb i j n, or-false)) (eq_or_ne i j);
    kept = put_kept ws d w (suc j) v roomy inside;
  }

  -- it waited before
  pub wait_again : (p ≡ 0 → ⊥) → Waits ws d w waits₁ j q × Waiting ws d waits₁ top
  wait_again n = (
    waits_more,
    stacked_same (length ws) (waits_in ws w) (waits_in ws waits₁) (place_in d w) (place_in d waits₁) top same (λ k l. put_index ws d w (suc j) v roomy inside (d + k)) st,
  )
    where
      same : (i : ℕ) → i < length ws → waits_in ws waits₁ i ≡ waits_in ws w i
      same i l = ⊎_elim (λ (e : i ≡ j). rw (e, ex, pending_here, v_some, ← ep, ne_eqb p 0 n)) (λ m. rw (pending_there i m)) (eq_or_ne i j)

  -- it goes on top of the stack, which has room for it
  module _ (z : p ≡ 0) where
    idle : waits_in ws w j ≡ false
    idle = rw (ex, ← ep, z)

    pub wait_room : d + top < bundle_words
    wait_room = omega (
      arith,
      roomy.places,
      stacked_room (length ws) (waits_in ws w) (expands ws) (place_in d w) top j (λ i l h. and_left (expands ws i) _ h) (omega (arith, inside)) idle ex st,
    )

    abbrev waits₂ : List ℕ
    waits₂ = put_half waits₁ index_base (d + top) j

    long₁ : length waits₁ ≡ length w
    long₁ = length_put w 0 (suc j) v

    front : (i : ℕ) → i < bundle_words → half waits₂ 0 i ≡ half waits₁ 0 i
    front i l = half_apart waits₁ index_base (d + top) j 0 i (inl (omega arith))

    waits_by : (i : ℕ) → waits_in ws waits₂ i ≡ waits_in ws waits₁ i
    waits_by = rows_by ws roomy.few (λ s. not (eqb s 0)) waits₁ waits₂ front

    place_other : (k : ℕ) → (k ≡ d + top → ⊥) → index_at waits₂ k ≡ index_at w k
    place_other k n = half_other waits₁ index_base (d + top) j k n ∙ put_index ws d w (suc j) v roomy inside k

    pub wait_first : Waits ws d w waits₂ j q × Waiting ws d waits₂ (top + 1)
    wait_first = (
      record {
        reached = λ i x. door_by_lem ws roomy.few (λ s. has_state s x) waits₁ waits₂ front i ∙ waits_more.reached i x;
        pending = λ i x. rows_by ws roomy.few (λ s. has_state s x) waits₁ waits₂ front i ∙ waits_more.pending i x;
        kept = record { index = λ k l. place_other k (λ e. omega arith); long = length_put waits₁ index_base (d + top) j ∙ long₁ };
      },
      stacked_push (length ws) (waits_in ws w) (waits_in ws waits₂) (place_in d w) (place_in d waits₂) top j (omega (arith, inside)) idle
          (waits_by j ∙ rw (ex, pending_here, v_some)) (λ i l n. waits_by i ∙ rw (pending_there i n))
          (λ k l. place_other (d + k) (λ e. omega arith))
          (half_same waits₁ index_base (d + top) j (omega (arith, long₁, wait_room, roomy.long))) st,
    )

-- State q is entered at the door at j: r are the states there, u those with q

-- what is new of a state that is entered
new_state : (r a : Bool) → (a ≡ true → r ≡ false) → a ≡ ((r || a) && not r)
new_state true true h = absurd (clash refl (h refl))
new_state true false h = refl
new_state false a h = rw and-true

pub fresh_none : (x r p : Bool) → p ≡ (p || (x && (r && not r)))
fresh_none true true p = rw or-false
fresh_none true false p = rw or-false
fresh_none false r p = rw or-false

-- it is there already
pub enter_known : (ws : List ℕ) (d : ℕ) (w : List ℕ) (j q : ℕ) {r : ℕ} {b : Bool} → is_door_word (get_or ws j 0) ≡ true → r ≡ half w 0 j → b ≡ has_state r q → b ≡ true → Entered ws d w w j q
enter_known ws d w j q dr er eb t = record {
  reached = λ i x. ⊎_elim (λ (e : i ≡ j). rw (e, eq-eqb j j refl) (known x)) (λ n. rw (ne_eqb i j n, or-false)) (eq_or_ne i j);
  fresh = λ i x. fresh_none (expands ws i) (reached_at ws w i x) (pending_at ws w i x);
  kept = record { index = λ k l. refl; long = refl };
}
  where
    known : (x : ℕ) → reached_at ws w j x ≡ (reached_at ws w j x || eqb x q)
    known x = ⊎_elim (λ (e : x ≡ q). rw (e, dr, ← er, ← eb, t)) (λ n. rw (ne_eqb x q n, or-false)) (eq_or_ne x q)

module _ (ws : List ℕ) (d : ℕ) (w : List ℕ) (j q top : ℕ) (roomy : Roomy ws d w) (dr : is_door_word (get_or ws j 0) ≡ true) (st : Waiting ws d w top)
    (r u : ℕ) (er : r ≡ half w 0 j) (new : has_state r q ≡ false) (eu : (x : ℕ) → has_state u x ≡ (has_state r x || eqb x q)) where
  place : j < length ws
  place = at_within is_door_word refl ws j dr

  abbrev gained : List ℕ
  gained = put_half w 0 j u

  pub gained_roomy : Roomy ws d gained
  gained_roomy = roomy_same roomy (length_put w 0 j u)

  gained_by : (F : ℕ → Bool) (i : ℕ) → (expands ws i && F (half gained 0 (suc i))) ≡ (expands ws i && F (half w 0 (suc i)))
  gained_by = put_door ws d w j u roomy place dr

  pub gained_waiting : Waiting ws d gained top
  gained_waiting = stacked_same (length ws) (waits_in ws w) (waits_in ws gained) (place_in d w) (place_in d gained) top
      (λ i l. gained_by (λ s. not (eqb s 0)) i) (λ k l. put_index ws d w j u roomy place (d + k)) st

  gained_reached : (i x : ℕ) → reached_at ws gained i x ≡ (reached_at ws w i x || (eqb i j && eqb x q))
  gained_reached i x = ⊎_elim (λ (e : i ≡ j). rw (e, dr, put_here ws d w j u roomy place, eu x, ← er, eq-eqb j j refl))
      (λ n. rw (half_other w 0 j u i n, ne_eqb i j n, or-false)) (eq_or_ne i j)

  -- a door without rows does not wait
  pub enter_plain : in_rows (get_or ws (suc j) 0) ≡ false → Entered ws d w gained j q
  enter_plain n = record {
    reached = gained_reached;
    fresh = λ i x. gained_by (λ s. has_state s x) i ∙ ⊎_elim (λ (e : i ≡ j). rw (e, n, and-false (is_door_word (get_or ws j 0))))
        (λ m. rw (half_other w 0 j u i m) (fresh_none (expands ws i) (reached_at ws w i x) (pending_at ws w i x))) (eq_or_ne i j);
    kept = put_kept ws d w j u roomy place;
  }

  -- a door with rows waits
  pub enter_waits : (w' : List ℕ) → in_rows (get_or ws (suc j) 0) ≡ true → Waits ws d gained w' j q → Entered ws d w w' j q
  enter_waits w' t f = record { reached = reached; fresh = fresh; kept = kept_then (put_kept ws d w j u roomy place) f.kept }
    where
      reached : (i x : ℕ) → reached_at ws w' i x ≡ (reached_at ws w i x || (eqb i j && eqb x q))
      reached i x = f.reached i x ∙ gained_reached i x

      fresh : (i x : ℕ) → pending_at ws w' i x ≡ (pending_at ws w i x || (expands ws i && (reached_at ws w' i x && not (reached_at ws w i x))))
      fresh i x = f.pending i x ∙ rw (gained_by (λ s. has_state s x) i, reached i x) (⊎_elim here there (eq_or_ne i j))
        where
          here : i ≡ j → (pending_at ws w i x || (eqb i j && eqb x q))
              ≡ (pending_at ws w i x || (expands ws i && ((reached_at ws w i x || (eqb i j && eqb x q)) && not (reached_at ws w i x))))
          here e = rw (e, dr, t, eq-eqb j j refl, ← er) (ap (λ (a : Bool). has_state (half w 0 (suc j)) x || a) (new_state (has_state r x) (eqb x q) (λ h. rw (eqb-true x q h) new)))

          there : (i ≡ j → ⊥) → (pending_at ws w i x || (eqb i j && eqb x q))
              ≡ (pending_at ws w i x || (expands ws i && ((reached_at ws w i x || (eqb i j && eqb x q)) && not (reached_at ws w i x))))
          there n = rw (ne_eqb i j n, or-false, or-false) (fresh_none (expands ws i) (reached_at ws w i x) (pending_at ws w i x))
