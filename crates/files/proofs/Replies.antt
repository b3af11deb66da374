-- The check of a first reply, word by word: what a door, row or reach word asks of the words before it; and that the
-- doors and the pairs of a row of an accepted one ascend.
-- Assumes nothing.
use mathlib.Core.Path.{◌≡◌, refl}
use mathlib.Core.Logic.{inl, inr}
use mathlib.Core.Bool.{◌&&◌, ◌||◌}
use mathlib.Core.List.{List, ◌∷◌}
use Prim.Native.Nat.{ℕ, suc, ◌-◌, ◌^◌, ◌≤◌, ◌<◌}
use native.Mathlib.Omega.{arith}
use lib.Dec.{T, eqb, eqb→eq}
use borrow.Author.Tests.{eqb-true}
use Rattle.sets.specs.Sets.{Mem, here, there, Ascending}
use Rattle.sets.proofs.Tests.{either}
use Rattle.files.specs.Field.{kind_of, node_of, door_root_of, state_of, pair_of, pair_node, pair_state, word_of}
use Rattle.files.specs.declared.reply.ReplySeen.{ReplySeen}
use Rattle.files.specs.Reply.{start, is_door_word, is_row, is_reach, door_check, row_check, reach_check, word_check, end_check, next, scan, doors, front, row, rows}
use Rattle.files.proofs.Checks.{checks, then_iff}
use Rattle.files.proofs.Fields.{holder_made}
use Rattle.files.proofs.Ordered.{Rising, adds, skips, ends, restarts, scan_checked, scan_rises}

module _ (n : ℕ) (st : ReplySeen) (w : ℕ) (ws : List ℕ) where
  pub door_scan : kind_of w ≡ 8 → door_check st w ≡ 0
      → scan n (record { last = w; low = suc (node_of w); state = 0; rooted = st.rooted || door_root_of w }) ws ≡ 0 → scan n st (w ∷ ws) ≡ 0
  door_scan k c r = rw k ((then_iff (door_check st w) _).1 (c, r))

  pub row_scan : kind_of w ≡ 9 → row_check n st w ≡ 0
      → scan n (record { last = w; low = st.low; state = suc (state_of w); rooted = st.rooted }) ws ≡ 0 → scan n st (w ∷ ws) ≡ 0
  row_scan k c r = rw k ((then_iff (row_check n st w) _).1 (c, r))

  pub reach_scan : kind_of w ≡ 10 → reach_check n st w ≡ 0
      → scan n (record { last = w; low = st.low; state = st.state; rooted = st.rooted }) ws ≡ 0 → scan n st (w ∷ ws) ≡ 0
  reach_scan k c r = rw k ((then_iff (reach_check n st w) _).1 (c, r))

-- no state of an accepted reply's reach words is above n
pub reach_states : (n : ℕ) (st : ReplySeen) (ws : List ℕ) → scan n st ws ≡ 0 → (w : ℕ) → Mem w ws → T (is_reach w) → state_of w ≤ n
reach_states n st ws s w m t = (simp checks at (rw (eqb→eq (kind_of w) 10 t) at (scan_checked (word_check n) next end_check st ws s w m).1)).1.0

-- An accepted reply's doors ascend, and the pairs of a row do, if its words have 32 bits.

module _ (n : ℕ) where
  -- a reach word is made of its kind and its pair, so pairs are in the words' order; a row word is below every reach word
  front_rises : (st : ReplySeen) (ws : List ℕ) → ((w : ℕ) → Mem w ws → w < 2 ^ 32) → scan n st ws ≡ 0 → Rising (suc st.last - word_of 10 0) (front ws)
  front_rises st ws b = scan_rises (word_check n) next end_check (λ st. suc st.last - word_of 10 0) front refl st ws (λ u v vs i c s. elim (either (is_reach v)) [
    | inl r ↦
        let k = eqb-true (kind_of v) 10 r in
        let h = simp checks at (rw k at c) in
        let e = holder_made 10 v (b v (i v (here refl))) k h.0.0 in
        adds (pair_of v) (rw r) (omega arith) (rw k (omega arith))
    | inr r ↦ ends (rw r)
  ])

  row_rises : (q : ℕ) (st : ReplySeen) (ws : List ℕ) → ((w : ℕ) → Mem w ws → w < 2 ^ 32) → scan n st ws ≡ 0 → Rising 0 (row ws q)
  row_rises q st ws b = scan_rises (word_check n) next end_check (λ st. 0) (λ ws. row ws q) refl st ws (λ u v vs i c s. elim (either (is_row v && eqb (state_of v) q)) [
    | inl r ↦ restarts (rw r (λ y m. omega arith, (front_rises (next u v) vs (λ w m. b w (i w (there m))) s).1))
    | inr r ↦ elim (either (is_row v || is_reach v)) [ inl k ↦ skips (rw (r, k)) (omega arith) | inr k ↦ ends (rw (r, k)) ]
  ])

  module _ (ws : List ℕ) (accepted : scan n start ws ≡ 0) where
    pub doors_ascending : Ascending (doors ws)
    doors_ascending = (scan_rises (word_check n) next end_check (λ st. st.low) doors refl start ws (λ u v vs i c s. elim (either (is_door_word v)) [
      | inl d ↦ adds (node_of v) (rw d) (simp checks at (rw d at c)).1.0 (rw d (omega arith))
      | inr d ↦ skips (rw d) (rw d (omega arith))
    ]) accepted).1

    pub rows_ascending : ((w : ℕ) → Mem w ws → w < 2 ^ 32) → (c : ℕ) → Ascending (rows ws c)
    rows_ascending b c = (scan_rises (word_check n) next end_check (λ st. 0) (λ ws. rows ws c) refl start ws (λ u v vs i e s. elim (either (is_door_word v && eqb (node_of v) (pair_node c))) [
      | inl d ↦ restarts (rw d (row_rises (pair_state c) (next u v) vs (λ w m. b w (i w (there m))) s))
      | inr d ↦ skips (rw d) (omega arith)
    ]) accepted).1
