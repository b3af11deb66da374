-- Where a search begins: tables with no marks, and a node that is marked. Assumes nothing.
use mathlib.Core.Path.{◌≡◌, refl, sym, ap, ◌∙◌}
use mathlib.Core.Logic.{◌⊎◌, inl, inr, ⊎_elim}
use mathlib.Core.Bool.{true, false, not, ◌&&◌, ◌||◌}
use mathlib.Core.List.{List, [], ◌∷◌}
use Prim.Native.Nat.{ℕ, ◌+◌, ◌≤◌, ◌<◌}
use native.Mathlib.Omega.{arith}
use borrow.Author.Tests.{eq-eqb, eqb-true}
use lib.Dec.{eqb}
use lib.ListN.{length}
use Rattle.sets.specs.Sets.{Mem, here, there, Same}
use Rattle.sets.specs.Reach.{seed}
use Rattle.sets.specs.States.{has_state}
use Rattle.sets.specs.Table.{put_half}
use Rattle.sets.proofs.Cases.{eq_or_ne, or_elim, or_right, and_left, and_right, and_intro, clash}
use Rattle.sets.proofs.Reach.{reach_trans}
use Rattle.sets.proofs.StateSets.{has_empty}
use Rattle.sets.proofs.Stacks.{stacked_empty}
use Rattle.sets.proofs.Tables.{length_put, half_same, half_apart, half_other}
use Rattle.sets.proofs.Tests.{either}
use Rattle.sets.proofs.Searches.{done_before}
use Rattle.files.specs.Field.{pair, pair_node, pair_state}
use Rattle.files.proofs.Fields.{pair_node_lem, pair_state_lem}
use Rattle.files.specs.Limits.{part_words, work_bytes}
use Rattle.expressions.specs.Expr.{Expr}
use Rattle.slots.specs.Slots.{reached_base, pending_base, node_at, number, reached_of, pending_of, is_reached, is_pending, Laid, Kept, waits_in, place_in}
use Rattle.entering.specs.Entering.{Entered, Waiting}
use Rattle.part_search.specs.Search.{Begun, StepClosed, Marks, Sought, Blank, Forgot, Fresh, Seeded}
use Rattle.slots.proofs.Storing.{kept_trans, kept_sym, kept_reached, kept_pending, laid_kept}
use Rattle.part_search.proofs.Stepping.{step_kept, step_from, step_inside}
use Rattle.entering.proofs.Entering.{waits_no}
use Rattle.slots.proofs.Places.{node_below}

-- ---- nothing is marked

pub marks_none : (ws w : List ℕ) → Blank ws w → Marks ws w []
marks_none ws w b =
    record {
      sound = λ j q l s h. absurd (clash h (rw (b.reached j l) (has_empty q)));
      complete = λ c m. elim m [ ];
    }

-- tables without marks are closed
pub closed_blank : (ws w follow : List ℕ) → Blank ws w → StepClosed ws follow w
closed_blank ws w follow b i q j p l h f s = absurd (clash h (rw (b.reached i l) (has_empty q)))

-- marked pairs, before any step
pub marks_sought : (ws : List ℕ) (e : Expr) (w cs : List ℕ) → Marks ws w cs → Sought ws e w cs
marks_sought ws e w cs m = record { sound = λ j q l s h. seed (m.sound j q l s h).1; complete = m.complete }

-- marked pairs in another order
pub marks_same : {ws w cs ds : List ℕ} → Same cs ds → Marks ws w cs → Marks ws w ds
marks_same h m =
    record {
      sound = λ j q l s r. let k = m.sound j q l s r in (k.0, h.0 _ k.1);
      complete = λ c k. m.complete c (h.1 c k);
    }

pub begun_blank : (ws : List ℕ) (t : ℕ) (w : List ℕ) → Laid ws t w → Blank ws w → Begun ws t w 0
begun_blank ws t w laid b =
    record {
      laid = laid;
      within = λ j q l h.
          let n = and_left (node_at ws j) (has_state (pending_of w j) q) h in
          absurd (clash (and_right (node_at ws j) (has_state (pending_of w j) q) h) (rw (b.pending j l n) (has_empty q)));
      stack = stacked_empty (length ws) (waits_in ws w) (place_in t w) (idle laid b);
    }
  where
    idle : Laid ws t w → Blank ws w → (j : ℕ) → j < length ws → waits_in ws w j ≡ false
    idle laid b j l =
        ⊎_elim (λ n. waits_no (node_at ws j) (pending_of w j) (b.pending j l n)) (λ n. rw n) (either (node_at ws j))

-- ---- the marks are taken away, a position after the other

module _ (ws w : List ℕ) (i : ℕ) (hi : i < length ws) (few : length ws ≤ part_words) (long : work_bytes ≤ length w) where
  abbrev off : List ℕ
  off = put_half w reached_base i 0

  pub forgot_edge : node_at ws i ≡ false → Forgot ws w off i
  forgot_edge f =
      record {
        kept = λ t. kept_reached ws t w i 0 (omega arith);
        reached = half_same w reached_base i 0 (omega arith);
        pending = λ n. absurd (clash n f);
        others = λ j l d. (half_other w reached_base i 0 j d, half_apart w reached_base i 0 pending_base j (inr (omega arith)));
      }

  pub forgot_node : node_at ws i ≡ true → Forgot ws w (put_half off pending_base i 0) i
  forgot_node n =
      record {
        kept = λ t. kept_trans (kept_reached ws t w i 0 (omega arith)) (kept_pending ws t off i 0 (omega arith) n);
        reached = half_apart off pending_base i 0 reached_base i (inl (omega arith)) ∙ half_same w reached_base i 0 (omega arith);
        pending = λ m. half_same off pending_base i 0 (omega (arith, length_put w reached_base i 0));
        others = λ j l d. (
          half_apart off pending_base i 0 reached_base j (inl (omega arith)) ∙ half_other w reached_base i 0 j d,
          half_other off pending_base i 0 j d ∙ half_apart w reached_base i 0 pending_base j (inr (omega arith)),
        );
      }

-- the positions below i have no marks
pub record Forgetting (ws : List ℕ) (t : ℕ) (w w' : List ℕ) (i : ℕ) : Type 0 where
  pub kept : Kept ws t w w'
  pub done : (j : ℕ) → j < i → (reached_of w' j ≡ 0) × (node_at ws j ≡ true → pending_of w' j ≡ 0)

pub forget_more : {ws : List ℕ} {t : ℕ} {w w' w'' : List ℕ} {i : ℕ} → i < part_words → Forgetting ws t w w' i → Forgot ws w' w'' i → Forgetting ws t w w'' (i + 1)
forget_more {ws} {t} {w} {w'} {w''} {i} b f x =
    record {
      kept = kept_trans f.kept (x.kept t);
      done = λ j l.
          ⊎_elim (λ (e : j ≡ i). rw e (x.reached, x.pending))
          (λ d. let o = x.others j (omega arith) d in let r = f.done j (omega arith) in (o.0 ∙ r.0, λ n. o.1 ∙ r.1 n))
          (eq_or_ne j i);
    }

pub forget_all : {ws : List ℕ} {t : ℕ} {w w' : List ℕ} {i : ℕ} → length ws ≤ i → Laid ws t w → Forgetting ws t w w' i → Fresh ws t w w'
forget_all {ws} {t} {w} {w'} {i} h laid f =
    let b : Blank ws w' = record { reached = λ j l. (f.done j (omega arith)).0; pending = λ j l n. (f.done j (omega arith)).1 n } in
    record { kept = f.kept; blank = b; begun = begun_blank ws t w' (laid_kept f.kept laid) b }

-- ---- a node is marked

module _ (ws : List ℕ) (t : ℕ) (w w' : List ℕ) (i q m top r : ℕ) (b : Begun ws t w top) (node : node_at ws i ≡ true) (small : q < 16)
    (has : (p : ℕ) → has_state m p ≡ (has_state 0 p || eqb p q)) (x : Entered ws t w w' i m) (st : Waiting ws t w' r) where
  below : i < length ws
  below = node_below ws i node

  few : length ws ≤ part_words
  few = b.laid.roomy.few

  one : (p : ℕ) → has_state m p ≡ eqb p q
  one p = has p ∙ rw (has_empty p)

  within : (j p : ℕ) → j < length ws → is_pending ws w' j p ≡ true → is_reached w' j p ≡ true
  within j p l h =
      ⊎_elim (λ a. x.grown.more j p (omega (arith, few)) (b.within j p l a))
      (λ a. and_left (is_reached w' j p) (not (is_reached w j p)) (and_right (node_at ws j) (is_reached w' j p && not (is_reached w j p)) a))
      (or_elim (is_pending ws w j p) (node_at ws j && (is_reached w' j p && not (is_reached w j p))) (sym (x.grown.fresh j p (omega (arith, few))) ∙ h))

  closed : (follow : List ℕ) → StepClosed ws follow w → StepClosed ws follow w'
  closed follow c k p j y l h f s =
      let n = step_from ws w' follow k p j y s in
      let g : is_pending ws w' k p ≡ (is_pending ws w k p || (is_reached w' k p && not (is_reached w k p))) =
      x.grown.fresh k p (omega (arith, few)) ∙ ap (λ u. is_pending ws w k p || (u && (is_reached w' k p && not (is_reached w k p)))) n in
      let (r, o) = done_before (is_reached w k p) (is_reached w' k p) (is_pending ws w k p) (is_pending ws w' k p) g f h in
      let s' = step_kept follow few (kept_sym x.grown.kept) s in
      x.grown.more j y (omega (arith, few, step_inside ws t w follow b.laid k p j y l s')) (c k p j y l r o s')

  -- a pair that is reached at its node word
  abbrev Held : List ℕ → ℕ → Type 0
  Held v c = (j : ℕ) × (j < length ws) × (node_at ws j ≡ true) × (number ws j ≡ pair_node c) × (is_reached v j (pair_state c) ≡ true)

  held : (cs : List ℕ) → ((c : ℕ) → Mem c cs → Held w c) → (c : ℕ) → Mem c (pair (number ws i) q ∷ cs) → Held w' c
  held cs k c (here e) = (
    i,
    below,
    node,
    sym (ap pair_node e ∙ pair_node_lem (number ws i) q small),
    rw (e, pair_state_lem (number ws i) q small) (x.reached i q (omega (arith, few, below))
        ∙ or_right (is_reached w i q) (eqb i i && has_state m q) (and_intro (eqb i i) (has_state m q) (eq-eqb i i refl) (one q ∙ eq-eqb q q refl))),
  )
  held cs k c (there y) =
      let (j, l, n, e, h) = k c y in
      (j, l, n, e, x.grown.more j (pair_state c) (omega (arith, few)) h)

  -- what is reached was so before, or is the pair that was marked
  either_way : (j p : ℕ) → j < length ws → is_reached w' j p ≡ true → (is_reached w j p ≡ true) ⊎ ((j ≡ i) × (p ≡ q))
  either_way j p l h =
      ⊎_elim inl
      (λ a. inr (eqb-true j i (and_left (eqb j i) (has_state m p) a), eqb-true p q (sym (one p) ∙ and_right (eqb j i) (has_state m p) a)))
      (or_elim (is_reached w j p) (eqb j i && has_state m p) (sym (x.reached j p (omega (arith, few))) ∙ h))

  marks : (cs : List ℕ) → Marks ws w cs → Marks ws w' (pair (number ws i) q ∷ cs)
  marks cs k =
      record {
        sound = λ j p l s h.
            ⊎_elim (λ a. let y = k.sound j p l s a in (y.0, there y.1)) (λ (e, d). rw (e, d) (node, here refl)) (either_way j p l h);
        complete = held cs k.complete;
      }

  sought : (e : Expr) (cs : List ℕ) → Sought ws e w cs → Sought ws e w' (pair (number ws i) q ∷ cs)
  sought e cs k =
      record {
        sound = λ j p l s h.
            ⊎_elim (λ a. reach_trans (λ c n. seed (there n)) _ (k.sound j p l s a)) (λ (u, v). rw (u, v) (seed (here refl))) (either_way j p l h);
        complete = held cs k.complete;
      }

  pub seeded : Seeded ws t w w' i q r
  seeded = record {
    kept = x.grown.kept;
    begun = record { laid = laid_kept x.grown.kept b.laid; within = within; stack = st };
    closed = closed;
    marks = marks;
    sought = sought;
  }
