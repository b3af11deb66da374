-- The turns of a search of a part, by its tables: the node on top of the stack is taken off, its pending states are taken, and its edge words
-- followed. Assumes nothing.
use mathlib.Core.Path.{◌≡◌, refl, sym, ap, ◌∙◌}
use mathlib.Core.Logic.{◌⊎◌, inl, inr, ⊎_elim}
use mathlib.Core.Bool.{true, false, not, and-false}
use mathlib.Core.List.{List}
use Prim.Native.Nat.{ℕ, ◌+◌, ◌-◌, ◌^◌, ◌≤◌, ◌<◌}
use native.Mathlib.Omega.{arith}
use lib.Count.{count_trailing_zeros}
use lib.Dec.{eqb}
use lib.ListN.{length}
use Rattle.sets.specs.Follow.{Follows}
use Rattle.sets.specs.States.{has_state}
use Rattle.sets.specs.Table.{put_half}
use Rattle.sets.proofs.Cases.{eq_or_ne, and_left, and_right, and_intro, clash}
use Rattle.sets.proofs.StateSets.{has_empty, has_below, lowest_is}
use Rattle.sets.proofs.Stacks.{stacked_same, stacked_pop}
use Rattle.sets.proofs.Searches.{Searching, seed, Turn, Turned, search_turn, search_end}
use Rattle.sets.proofs.Tables.{half_same, half_apart, half_other}
use Rattle.sets.proofs.Tests.{either}
use Rattle.files.specs.Field.{pair_state}
use Rattle.files.specs.Limits.{part_words, work_bytes}
use Rattle.slots.specs.Slots.{reached_base, pending_base, places_base, node_at, reached_of, pending_of, place_of, is_reached, is_pending, Laid, Kept, waits_in, place_in}
use Rattle.entering.specs.Entering.{Hit, Walked, Waiting}
use Rattle.part_search.specs.Search.{Begun, Step, StepClosed, Searched}
use Rattle.slots.proofs.Storing.{kept_trans, kept_sym, kept_pending, laid_kept}
use Rattle.entering.proofs.Walking.{edge_kept}
use Rattle.part_search.proofs.Stepping.{step_kept, step_from, step_inside}
use Rattle.entering.proofs.Entering.{waits_yes, waits_no}
use Rattle.part_search.proofs.Reaching.{came_reach, comes_reach}

-- ---- where it begins

pub turn_start : (ws : List ℕ) (t : ℕ) (w follow : List ℕ) (top : ℕ) → Begun ws t w top → StepClosed ws follow w
    → Searching (length ws) (Step ws w follow) (is_reached w) (is_reached w) (is_pending ws w)
turn_start ws t w follow top b c = record { seeds = λ j q l m. m; sound = λ j q l m. seed (l, m); within = b.within; closed = c }

-- ---- a turn

-- the node on top of the stack
pub top_below : (ws : List ℕ) (t : ℕ) (w : List ℕ) (top i : ℕ) → 0 < top → Waiting ws t w top → i ≡ place_in t w (top - 1) → i < length ws
top_below ws t w top i pos st is = rw is (st.below (top - 1) (omega arith))

module _ (ws : List ℕ) (t : ℕ) (follow w₀ w w₁ : List ℕ) (top i : ℕ) (laid : Laid ws t w₀) (kept : Kept ws t w₀ w) (pos : 0 < top)
    (st : Waiting ws t w top) (is : i ≡ place_in t w (top - 1)) (cleared : w₁ ≡ put_half w pending_base i 0) where
  few : length ws ≤ part_words
  few = laid.roomy.few

  long : work_bytes ≤ length w
  long = omega (arith, kept.long, laid.roomy.long)

  pop_below : i < length ws
  pop_below = top_below ws t w top i pos st is

  pop_waits : waits_in ws w i ≡ true
  pop_waits = rw is (st.live (top - 1) (omega arith))

  pub pop_node : node_at ws i ≡ true
  pop_node = and_left (node_at ws i) (not (eqb (pending_of w i) 0)) pop_waits

  pub pop_some : pending_of w i ≡ 0 → ⊥
  pop_some e = clash pop_waits (waits_no (node_at ws i) (pending_of w i) e)

  pub pop_kept : Kept ws t w₀ w₁
  pop_kept = kept_trans kept (rw cleared (kept_pending ws t w i 0 (omega (arith, pop_below, few)) pop_node))

  here₁ : pending_of w₁ i ≡ 0
  here₁ = rw cleared (half_same w pending_base i 0 (omega (arith, pop_below, few, long)))

  other₁ : (j : ℕ) → (j ≡ i → ⊥) → pending_of w₁ j ≡ pending_of w j
  other₁ j d = rw cleared (half_other w pending_base i 0 j d)

  place₁ : (k : ℕ) → place_of w₁ k ≡ place_of w k
  place₁ k = rw cleared (half_apart w pending_base i 0 places_base k (inr (omega (arith, pop_below, few))))

  reached₁ : (j : ℕ) → j < length ws → reached_of w₁ j ≡ reached_of w j
  reached₁ j l = rw cleared (half_apart w pending_base i 0 reached_base j (inl (omega (arith, few))))

  pub pop_stack : Waiting ws t w₁ (top - 1)
  pop_stack =
      stacked_same (length ws) (waits_in ws w₁) (waits_in ws w₁) (place_in t w) (place_in t w₁) (top - 1) (λ j l. refl) (λ k l. place₁ (t + k))
      (stacked_pop (length ws) (waits_in ws w) (waits_in ws w₁) (place_in t w) top pos st
      (rw (← is) (waits_no (node_at ws i) (pending_of w₁ i) here₁))
      (λ j l d. rw (other₁ j (λ e. d (e ∙ is)))))

  module _ (w₂ : List ℕ) (s u : ℕ) (taken : s ≡ pending_of w i) (fits : s < 2 ^ 16) (follows : Follows follow s u)
      (x : Walked ws t (Hit ws w₁ i u (length ws)) w₁ w₂) (old : Searching (length ws) (Step ws w₀ follow) (is_reached w₀) (is_reached w) (is_pending ws w)) where
    small : {j : ℕ} → j < length ws → j < part_words
    small l = omega (arith, few)

    same_reached : (j p : ℕ) → j < length ws → is_reached w₁ j p ≡ is_reached w j p
    same_reached j p l = ap (λ y. has_state y p) (reached₁ j l)

    only : (j p : ℕ) → j < length ws → is_reached w₂ j p ≡ true → (is_reached w j p ≡ true) ⊎ ((q : ℕ) × (is_pending ws w i q ≡ true) × Step ws w₀ follow i q j p)
    only j p l h =
        ⊎_elim (λ a. inl (sym (same_reached j p l) ∙ a))
        (λ ((y, d), m).
        let (q, a, f) = (follows p).0 m in
        inr (
          q,
          and_intro (node_at ws i) (has_state (pending_of w i) q) pop_node (rw (← taken) a),
          (has_below 16 s q fits a, (y, edge_kept few (kept_sym pop_kept) d), f),
        ))
        (x.only j p (small l) h)

    all : (q j p : ℕ) → j < length ws → is_pending ws w i q ≡ true → Step ws w₀ follow i q j p → is_reached w₂ j p ≡ true
    all q j p l h (b, (y, d), f) =
        x.all j p (small l) ((y, edge_kept few pop_kept d), (follows p).1 (q, rw taken (and_right (node_at ws i) (has_state (pending_of w i) q) h), f))

    turn : Turn (length ws) (Step ws w₀ follow) (node_at ws) i (is_reached w) (is_pending ws w) (is_pending ws w₁) (is_reached w₂) (is_pending ws w₂)
    turn =
        record {
          here = λ q. rw here₁ (rw (has_empty q) (and-false (node_at ws i)));
          there = λ j q l d. rw (other₁ j d);
          kept = λ j q l h. x.grown.more j q (small l) (same_reached j q l ∙ h);
          fresh = λ j q l. x.grown.fresh j q (small l) ∙ rw (reached₁ j l);
          only = only;
          all = all;
        }

    pub turned : Turned (length ws) (Step ws w₀ follow) (is_reached w₀) (is_reached w) (is_pending ws w) (is_reached w₂) (is_pending ws w₂)
    turned =
        let low = lowest_is 16 s (omega (arith, taken, pop_positive)) fits in
        search_turn (length ws) (Step ws w₀ follow) (node_at ws) i (is_reached w₀) (is_reached w) (is_pending ws w) (is_pending ws w₁) (is_reached w₂) (is_pending ws w₂) pop_below
        (step_inside ws t w₀ follow laid) (step_from ws w₀ follow) old turn (count_trailing_zeros 16 s) low.0
        (and_intro (node_at ws i) (has_state (pending_of w i) (count_trailing_zeros 16 s)) pop_node (rw (← taken) low.1))
      where
        pop_positive : 0 < pending_of w i
        pop_positive = ⊎_elim (λ e. absurd (pop_some e)) (λ d. omega arith) (eq_or_ne (pending_of w i) 0)

-- ---- where it ends

pub turn_end : (ws : List ℕ) (t : ℕ) (follow w₀ w : List ℕ) (top : ℕ) → Laid ws t w₀ → Kept ws t w₀ w → top ≡ 0 → Waiting ws t w top
    → Searching (length ws) (Step ws w₀ follow) (is_reached w₀) (is_reached w) (is_pending ws w) → Searched ws t follow w₀ w
turn_end ws t follow w₀ w top laid kept z st s =
    record {
      kept = kept;
      exact = λ e cs table masks sought j q slot b.
          let i = search_end (length ws) (Step ws w₀ follow) (is_reached w₀) (is_reached w) (is_pending ws w) (step_inside ws t w₀ follow laid) s none j q slot.0 in
          let k = comes_reach ws t w₀ laid follow e cs table masks sought j q slot b in
          (λ h. k.0 (i.0 h), λ h. i.1 (k.1 h));
      begun = record { laid = laid_kept kept laid; within = s.within; stack = rw z at st };
      closed = λ i q j p l r f x. s.closed i q j p l r f (step_kept follow laid.roomy.few (kept_sym kept) x);
      sought = λ e cs table masks sought. record {
        sound = λ j q l b h. came_reach ws t w₀ laid follow e cs table masks sought (s.sound j q l h) b;
        complete = λ c m. let (j, l, n, q, h) = sought.complete c m in (j, l, n, q, s.seeds j (pair_state c) l h);
      };
    }
  where
    none : (j q : ℕ) → j < length ws → is_pending ws w j q ≡ false
    none j q l =
        ⊎_elim (λ e. rw e (rw (has_empty q) (and-false (node_at ws j))))
        (λ d. ⊎_elim (λ n. absurd (let r = st.held j l (waits_yes (node_at ws j) (pending_of w j) n d) in omega (arith, r.1))) (λ n. rw n) (either (node_at ws j)))
        (eq_or_ne (pending_of w j) 0)
