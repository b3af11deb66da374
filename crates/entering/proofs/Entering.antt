-- The stores of a search as laws on its tables: a node waits, a slot is entered, the slots of a node's edges are entered one after the
-- other. Assumes nothing.
use mathlib.Core.Path.{◌≡◌, refl, sym, ap, ◌∙◌}
use mathlib.Core.Logic.{◌⊎◌, inl, inr, ⊎_elim, ◌↔◌}
use mathlib.Core.Bool.{Bool, true, false, not, ◌&&◌, ◌||◌, or-false, and-true, and-false}
use mathlib.Core.List.{List}
use Prim.Native.Nat.{ℕ, ◌+◌, ◌-◌, ◌^◌, ◌≤◌, ◌<◌}
use native.Mathlib.Omega.{arith}
use borrow.Author.Tests.{eq-eqb, eqb-true, ne_eqb}
use lib.Bits.{bit_and, bit_or, or_add_and, and_le_l}
use lib.Dec.{eqb}
use lib.ListN.{length}
use Rattle.files.specs.Limits.{part_words}
use Rattle.sets.specs.States.{has_state}
use Rattle.sets.specs.Table.{put_half}
use Rattle.sets.proofs.Cases.{by_eq, eq_or_ne, or_left, or_right, or_elim, and_left, and_right, and_intro}
use Rattle.sets.proofs.StateSets.{has_or, has_minus, has_empty}
use Rattle.sets.proofs.Stacks.{stacked_same, stacked_push, stacked_room}
use Rattle.sets.proofs.Tables.{length_put, half_same, half_apart, half_other}
use Rattle.sets.proofs.Tallies.{tally_le}
use Rattle.slots.specs.Slots.{reached_base, pending_base, places_base, node_at, reached_of, pending_of, is_reached, is_pending, place_of, Roomy, waits_in, place_in}
use Rattle.entering.specs.Entering.{Grown, Entered, Waits, Walked, Waiting}
use Rattle.slots.proofs.Storing.{kept_refl, kept_trans, kept_reached, kept_pending, kept_place}

-- ---- a node waits in the states of m too

pub waits_yes : (b : Bool) (x : ℕ) → b ≡ true → (x ≡ 0 → ⊥) → (b && not (eqb x 0)) ≡ true
waits_yes b x e h = rw (e, ne_eqb x 0 h)

pub waits_no : (b : Bool) (x : ℕ) → x ≡ 0 → (b && not (eqb x 0)) ≡ false
waits_no b x h = rw (eq-eqb x 0 h) (and-false b)

-- a set that is joined to another is not empty where that is not
or_some : (a b : ℕ) → 0 < b → bit_or a b ≡ 0 → ⊥
or_some a b h e = omega (arith, or_add_and a b, and_le_l a b)

module _ (ws : List ℕ) (t : ℕ) (w : List ℕ) (s m top : ℕ) (roomy : Roomy ws t w) (hs : s < length ws) (node : node_at ws s ≡ true) (pos : 0 < m)
    (st : Waiting ws t w top) (old : ℕ) (is : old ≡ pending_of w s) where
  small : s < part_words
  small = omega (arith, roomy.few)

  abbrev more : List ℕ
  more = put_half w pending_base s (bit_or old m)

  more_here : pending_of more s ≡ bit_or old m
  more_here = half_same w pending_base s (bit_or old m) (omega (arith, small, roomy.long))

  more_other : (j : ℕ) → (j ≡ s → ⊥) → pending_of more j ≡ pending_of w j
  more_other j n = half_other w pending_base s (bit_or old m) j n

  more_place : (k : ℕ) → place_of more k ≡ place_of w k
  more_place k = half_apart w pending_base s (bit_or old m) places_base k (inr (omega (arith, small)))

  more_pending : (j p : ℕ) → is_pending ws more j p ≡ (is_pending ws w j p || (eqb j s && has_state m p))
  more_pending j p =
      by_eq s (λ x b. is_pending ws more x p ≡ (is_pending ws w x p || (b && has_state m p)))
      (rw (more_here, node, ← is) (has_or old m p)) (λ x n. rw (more_other x n) (sym (or-false (is_pending ws w x p)))) j

  more_waits : Waits ws t w more s m
  more_waits =
      record {
        kept = kept_pending ws t w s (bit_or old m) small node;
        reached = λ j l. half_apart w pending_base s (bit_or old m) reached_base j (inl (omega arith));
        pending = λ j p l. more_pending j p;
      }

  now_waits : waits_in ws more s ≡ true
  now_waits = waits_yes (node_at ws s) (pending_of more s) node (λ e. or_some old m pos (sym more_here ∙ e))

  others_wait : (j : ℕ) → (j ≡ s → ⊥) → waits_in ws more j ≡ waits_in ws w j
  others_wait j d = rw (more_other j d)

  -- a node that waits already
  pub wait_again : (old ≡ 0 → ⊥) → Waits ws t w more s m × Waiting ws t more top
  wait_again h =
      let waited : waits_in ws w s ≡ true = waits_yes (node_at ws s) (pending_of w s) node (λ e. h (is ∙ e)) in (
        more_waits,
        stacked_same (length ws) (waits_in ws w) (waits_in ws more) (place_in t w) (place_in t more) top
            (λ j l. ⊎_elim (λ (e : j ≡ s). rw e (now_waits ∙ sym waited)) (others_wait j) (eq_or_ne j s)) (λ k l. more_place (t + k)) st,
      )

  -- a node that begins to wait
  module _ (none : old ≡ 0) where
    idle : waits_in ws w s ≡ false
    idle = waits_no (node_at ws s) (pending_of w s) (sym is ∙ none)

    pub wait_room : t + top < part_words
    wait_room =
        omega (
          arith,
          roomy.places,
          stacked_room (length ws) (waits_in ws w) (node_at ws) (place_in t w) top s (λ j l h. and_left (node_at ws j) (not (eqb (pending_of w j) 0)) h) hs idle node st,
        )

    abbrev pushed : List ℕ
    pushed = put_half more places_base (t + top) s

    same_pending : (j : ℕ) → j < part_words → pending_of pushed j ≡ pending_of more j
    same_pending j l = half_apart more places_base (t + top) s pending_base j (inl (omega arith))

    same_reached : (j : ℕ) → j < part_words → reached_of pushed j ≡ reached_of more j
    same_reached j l = half_apart more places_base (t + top) s reached_base j (inl (omega arith))

    still : (j : ℕ) → j < length ws → waits_in ws pushed j ≡ waits_in ws more j
    still j l = rw (same_pending j (omega (arith, roomy.few)))

    pub wait_first : Waits ws t w pushed s m × Waiting ws t pushed (top + 1)
    wait_first = (
      record {
        kept = kept_trans more_waits.kept (kept_place ws t more (t + top) s (omega arith));
        reached = λ j l. same_reached j l ∙ more_waits.reached j l;
        pending = λ j p l. rw (same_pending j l) (more_pending j p);
      },
      stacked_push (length ws) (waits_in ws w) (waits_in ws pushed) (place_in t w) (place_in t pushed) top s hs idle (still s hs ∙ now_waits)
          (λ j l d. still j l ∙ others_wait j d)
          (λ k l. half_other more places_base (t + top) s (t + k) (λ e. omega arith) ∙ more_place (t + k))
          (half_same more places_base (t + top) s (omega (arith, wait_room, roomy.long, length_put w pending_base s (bit_or old m)))) st,
    )

-- ---- a slot is entered in the states of m

fresh_none : (a b n : Bool) → b ≡ (b || (n && (a && not a)))
fresh_none true true n = refl
fresh_none true false n = sym (and-false n)
fresh_none false true n = refl
fresh_none false false n = sym (and-false n)

pub grown_refl : (ws : List ℕ) (t : ℕ) (w : List ℕ) → Grown ws t w w
grown_refl ws t w =
    record {
      kept = kept_refl ws t w;
      more = λ j p h m. m;
      fresh = λ j p h. fresh_none (is_reached w j p) (is_pending ws w j p) (node_at ws j);
    }

fresh_twice : (n a a' a'' b b' b'' : Bool) → (a ≡ true → a' ≡ true) → (a' ≡ true → a'' ≡ true) → b' ≡ (b || (n && (a' && not a)))
    → b'' ≡ (b' || (n && (a'' && not a'))) → b'' ≡ (b || (n && (a'' && not a)))
fresh_twice false a a' a'' b b' b'' h k e f = rw (f, e) (or-false (b || false))
fresh_twice true true a' a'' b b' b'' h k e f = rw (f, e, h refl, k (h refl)) (or-false (b || false))
fresh_twice true false true a'' b b' b'' h k e f = rw (f, e, k refl) (or-false (b || true))
fresh_twice true false false a'' b b' b'' h k e f = rw (f, e, or-false)

pub grown_trans : {ws : List ℕ} {t : ℕ} {w w' w'' : List ℕ} → Grown ws t w w' → Grown ws t w' w'' → Grown ws t w w''
grown_trans {ws} {t} {w} {w'} {w''} g h =
    record {
      kept = kept_trans g.kept h.kept;
      more = λ j p l m. h.more j p l (g.more j p l m);
      fresh = λ j p l.
          fresh_twice (node_at ws j) (is_reached w j p) (is_reached w' j p) (is_reached w'' j p) (is_pending ws w j p) (is_pending ws w' j p) (is_pending ws w'' j p)
          (g.more j p l) (h.more j p l) (g.fresh j p l) (h.fresh j p l);
    }

-- what a slot has, with what is new to it
gain : (a m : Bool) → (a || (m && not a)) ≡ (a || m)
gain true m = refl
gain false m = and-true m

gain_fresh : (a m : Bool) → (m && not a) ≡ ((a || (m && not a)) && not a)
gain_fresh true m = and-false m
gain_fresh false m = sym (and-true (m && true))

module _ (ws : List ℕ) (t : ℕ) (w : List ℕ) (s m top : ℕ) (roomy : Roomy ws t w) (hs : s < length ws) (st : Waiting ws t w top)
    (old : ℕ) (is : old ≡ reached_of w s) (hm : m < 2 ^ 16) (ho : old < 2 ^ 16) where
  slot_small : s < part_words
  slot_small = omega (arith, roomy.few)

  abbrev new : ℕ
  new = bit_and m (65535 - old)

  new_has : (p : ℕ) → has_state new p ≡ (has_state m p && not (has_state old p))
  new_has p = has_minus 16 m old p hm ho

  -- nothing is new
  pub enter_none : new ≡ 0 → Entered ws t w w s m
  enter_none e =
      record {
        grown = grown_refl ws t w;
        reached = λ j p l. by_eq s (λ x b. is_reached w x p ≡ (is_reached w x p || (b && has_state m p))) (here p) (λ x n. sym (or-false (is_reached w x p))) j;
      }
    where
      here : (p : ℕ) → is_reached w s p ≡ (is_reached w s p || has_state m p)
      here p =
          let none : (has_state m p && not (has_state old p)) ≡ false = sym (new_has p) ∙ rw e (has_empty p) in
          rw (← is) (sym (or-false (has_state old p)) ∙ rw (← none) (gain (has_state old p) (has_state m p)))

  -- the slot has what is new
  abbrev gained : List ℕ
  gained = put_half w reached_base s (bit_or old new)

  gained_here : reached_of gained s ≡ bit_or old new
  gained_here = half_same w reached_base s (bit_or old new) (omega (arith, slot_small, roomy.long))

  gained_other : (j : ℕ) → (j ≡ s → ⊥) → reached_of gained j ≡ reached_of w j
  gained_other j n = half_other w reached_base s (bit_or old new) j n

  gained_pending : (j : ℕ) → pending_of gained j ≡ pending_of w j
  gained_pending j = half_apart w reached_base s (bit_or old new) pending_base j (inr (omega (arith, slot_small)))

  gained_place : (k : ℕ) → place_of gained k ≡ place_of w k
  gained_place k = half_apart w reached_base s (bit_or old new) places_base k (inr (omega (arith, slot_small)))

  gained_reached : (j p : ℕ) → is_reached gained j p ≡ (is_reached w j p || (eqb j s && has_state m p))
  gained_reached j p =
      by_eq s (λ x b. is_reached gained x p ≡ (is_reached w x p || (b && has_state m p)))
      (rw (gained_here, ← is, has_or, new_has p) (gain (has_state old p) (has_state m p)))
      (λ x n. rw (gained_other x n) (sym (or-false (is_reached w x p)))) j

  pub gained_waiting : Waiting ws t gained top
  gained_waiting =
      stacked_same (length ws) (waits_in ws w) (waits_in ws gained) (place_in t w) (place_in t gained) top
      (λ j l. rw (gained_pending j)) (λ k l. gained_place (t + k)) st

  -- an outside target does not wait
  pub enter_outer : node_at ws s ≡ false → Entered ws t w gained s m
  enter_outer f =
      record {
        grown =
            record {
              kept = kept_reached ws t w s (bit_or old new) slot_small;
              more = λ j p l h. gained_reached j p ∙ or_left (is_reached w j p) (eqb j s && has_state m p) h;
              fresh = λ j p l.
                  by_eq s (λ x b. is_pending ws gained x p ≡ (is_pending ws w x p || (node_at ws x && (is_reached gained x p && not (is_reached w x p)))))
                  (rw (gained_pending s, f)) (λ x n. rw (gained_pending x, gained_other x n) (fresh_none (is_reached w x p) (is_pending ws w x p) (node_at ws x))) j;
            };
        reached = λ j p l. gained_reached j p;
      }

  -- a node waits in what is new
  pub enter_node : (w' : List ℕ) → node_at ws s ≡ true → Waits ws t gained w' s new → Entered ws t w w' s m
  enter_node w' n x =
      record {
        grown =
            record {
              kept = kept_trans (kept_reached ws t w s (bit_or old new) slot_small) x.kept;
              more = λ j p l h. reached j p l ∙ or_left (is_reached w j p) (eqb j s && has_state m p) h;
              fresh = fresh;
            };
        reached = reached;
      }
    where
      reached : (j p : ℕ) → j < part_words → is_reached w' j p ≡ (is_reached w j p || (eqb j s && has_state m p))
      reached j p l = rw (x.reached j l) (gained_reached j p)

      fresh : (j p : ℕ) → j < part_words → is_pending ws w' j p ≡ (is_pending ws w j p || (node_at ws j && (is_reached w' j p && not (is_reached w j p))))
      fresh j p l =
          x.pending j p l
          ∙ by_eq s (λ y b. y < part_words → (is_pending ws gained y p || (b && has_state new p)) ≡ (is_pending ws w y p || (node_at ws y && (is_reached w' y p && not (is_reached w y p)))))
          (λ b. rw (gained_pending s, x.reached s b, gained_here, ← is, n, has_or, new_has p)
          (ap (λ (y : Bool). has_state (pending_of w s) p || y) (gain_fresh (has_state old p) (has_state m p))))
          (λ y d b. rw (gained_pending y, x.reached y b, gained_other y d) (or-false (is_pending ws w y p) ∙ fresh_none (is_reached w y p) (is_pending ws w y p) (node_at ws y)))
          j l

-- ---- pairs are entered a slot after the other

-- slot s is entered in the states of m: the pairs of Hit, with those, are those of Hit'
module _ (ws : List ℕ) (t : ℕ) (Hit Hit' : ℕ → ℕ → Type 0) (w w' w'' : List ℕ) (s m : ℕ) (had : Walked ws t Hit w w') (now : Entered ws t w' w'' s m)
    (same : (j p : ℕ) → Hit' j p ↔ (Hit j p ⊎ ((j ≡ s) × (has_state m p ≡ true)))) where
  more_only : (j p : ℕ) → j < part_words → is_reached w'' j p ≡ true → (is_reached w j p ≡ true) ⊎ Hit' j p
  more_only j p l h =
      ⊎_elim (λ a. ⊎_elim (λ b. inl b) (λ b. inr ((same j p).1 (inl b))) (had.only j p l a))
      (λ a. inr ((same j p).1 (inr (eqb-true j s (and_left (eqb j s) (has_state m p) a), and_right (eqb j s) (has_state m p) a))))
      (or_elim (is_reached w' j p) (eqb j s && has_state m p) (sym (now.reached j p l) ∙ h))

  more_all : (j p : ℕ) → j < part_words → Hit' j p → is_reached w'' j p ≡ true
  more_all j p l h =
      ⊎_elim (λ a. now.grown.more j p l (had.all j p l a))
      (λ (e, a). now.reached j p l ∙ or_right (is_reached w' j p) (eqb j s && has_state m p) (and_intro (eqb j s) (has_state m p) (eq-eqb j s e) a))
      ((same j p).0 h)

  pub walk_more : Walked ws t Hit' w w''
  walk_more = record { grown = grown_trans had.grown now.grown; only = more_only; all = more_all }

-- the stack stands behind the outside targets, inside its table
pub waiting_room : (ws : List ℕ) (t : ℕ) (w : List ℕ) (top : ℕ) → Roomy ws t w → Waiting ws t w top → t + top ≤ part_words
waiting_room ws t w top r st =
    omega (
      arith,
      r.places,
      st.count,
      tally_le (waits_in ws w) (node_at ws) (length ws) (λ j l h. and_left (node_at ws j) (not (eqb (pending_of w j) 0)) h),
    )
