-- A row that gets a number, and the list of the nodes that have it: what is written, what stays, and that the list has them again. Assumes nothing.
use mathlib.Core.Path.{◌≡◌, refl, sym, subst, ◌∙◌}
use mathlib.Core.Logic.{◌⊎◌, inl, inr, ⊎_elim}
use mathlib.Core.Bool.{Bool, true, false, cond, not, ◌&&◌}
use mathlib.Core.List.{List}
use Prim.Native.Nat.{ℕ, ◌+◌, ◌*◌, ◌≤◌, ◌<◌}
use native.Mathlib.Omega.{arith}
use lib.ListN.{length}
use Rattle.sets.specs.Table.{half, put_half}
use Rattle.sets.proofs.Tests.{either}
use Rattle.sets.proofs.Cases.{clash, and_left, and_right, and_intro, not_elim, not_known, eq_or_ne}
use Rattle.sets.proofs.Stacks.{stacked_same, stacked_push, stacked_room}
use Rattle.sets.proofs.Tables.{length_put, half_same, half_other, half_apart}
use Rattle.sets.proofs.Tallies.{tally_bound}
use Rattle.files.specs.Limits.{shown_words}
use Rattle.paths.specs.declared.automaton.Automaton.{Automaton}
use Rattle.slots.specs.Slots.{owners_base, node_at}
use Rattle.slots.proofs.Places.{node_below, edge_no_node}
use Rattle.walk_rows.specs.Distances.{numbered, Hit}
use Rattle.walk_rows.proofs.Cells.{hit_apart, hit_grown, numbered_apart, numbered_stays}
use Rattle.walk_links.specs.Tables.{first_base, heads_base, Measurable, Edged}
use Rattle.walk_links.proofs.Linking.{row_kept}
use Rattle.walk_distances.specs.Rounds.{Waiting, IsList, Ready, Written}

-- ---- what is written

pub written_refl : (ws : List ℕ) (to v : ℕ) (w o : List ℕ) → Written ws to v w w o o
written_refl ws to v w o = record { grown = λ m. inl refl; rows = λ x k e l. refl; list = λ b j l. refl; long = refl; long_out = refl }

pub written_trans : {ws : List ℕ} {to v : ℕ} {w w' w'' o o' o'' : List ℕ} → Written ws to v w w' o o' → Written ws to v w' w'' o' o'' → Written ws to v w w'' o o''
written_trans f g = record {
  grown = λ m. ⊎_elim
      (λ e. ⊎_elim (λ d. inl (e ∙ d)) (λ (z, d). inr (z, e ∙ d)) (f.grown m))
      (λ (z, e). ⊎_elim (λ d. inr (sym d ∙ z, e)) (λ (y, d). inr (y, e)) (f.grown m))
      (g.grown m);
  rows = λ x k e l. g.rows x k e l ∙ f.rows x k e l;
  list = λ b j l. g.list b j l ∙ f.list b j l;
  long = g.long ∙ f.long;
  long_out = g.long_out ∙ f.long_out;
}

-- both lists have room in the output
pub list_above : {base : ℕ} → IsList base → first_base ≤ base
list_above l = ⊎_elim (λ e. omega arith) (λ e. omega arith) l

pub list_room : {ws w o : List ℕ} {base : ℕ} → IsList base → Measurable ws w o → base + 2 * shown_words ≤ length o
list_room l m = ⊎_elim (λ e. omega (arith, m.holds)) (λ e. omega (arith, m.holds)) l

-- the tables of the edges are still there
pub edged_written : {ws : List ℕ} {a : Automaton} {to v : ℕ} {w w' o o' : List ℕ} → Written ws to v w w' o o' → Edged ws a w → Edged ws a w'
edged_written f e x i =
    let z : 16 * x ≡ 16 * x + 0 = omega arith in
    row_kept _ _ _ _ _ (rw z (f.rows x 0 i (omega arith))) (f.rows x 1 i (omega arith)) (f.rows x 2 i (omega arith)) (e x i)

pub ready_written : {ws : List ℕ} {a : Automaton} {to v : ℕ} {w w' o o' : List ℕ} → IsList to → Written ws to v w w' o o' → Ready ws a w o → Ready ws a w' o'
ready_written {ws} {o = o} {o' = o'} l f r =
    let m = r.measurable in
    record {
      measurable = record { accepted = m.accepted; few = m.few; works = omega (arith, f.long, m.works); holds = omega (arith, f.long_out, m.holds) };
      edged = edged_written f r.edged;
      indexed = record {
        owned = λ i p b. rw (f.list owners_base i (inl (omega (arith, m.few, list_above l)))) (r.indexed.owned i p b);
        head = λ i n. f.list heads_base i (inl (omega (arith, m.few, list_above l, node_below ws i n))) ∙ r.indexed.head i n;
      };
    }

-- ---- the node at j is hit, and noted on the list at `to` where it is new there

module _ {ws : List ℕ} {to v top j : ℕ} {hits : ℕ → Bool} {w w' o : List ℕ} {new : Bool} (n : node_at ws j ≡ true) (pos : 0 < v) (few : length ws ≤ shown_words)
    (r : Hit hits j 16 v w w') (is : new ≡ (numbered w' j v && not (numbered w j v))) (s : Waiting ws w o to v top) where
  was : new ≡ true → (node_at ws j && numbered w j v) ≡ false
  was t = rw n (not_elim (numbered w j v) (and_right (numbered w' j v) (not (numbered w j v)) (sym is ∙ t)))

  -- a new one has room
  pub note_room : new ≡ true → top < shown_words
  note_room t = omega (
    arith,
    stacked_room (length ws) (λ j. node_at ws j && numbered w j v) (node_at ws) (half o to) top j (λ i l e. and_left (node_at ws i) (numbered w i v) e)
        (node_below ws j n) (was t) n s.stacked,
    tally_bound (node_at ws) (length ws),
  )

  module _ {height : ℕ} {o' : List ℕ} (room : to + 2 * shown_words ≤ length o) (out : o' ≡ cond new (put_half o to top j) o) (h : height ≡ cond new (top + 1) top) where
    pub note_written : Written ws to v w w' o o'
    note_written = record {
      grown = hit_grown r;
      rows = λ x k e l. hit_apart r x k (λ z. clash n (subst (λ x. node_at ws x ≡ false) z (edge_no_node ws x e))) l;
      list = λ b i l. elim (either new) [
        | inl t ↦
            let q = note_room t in
            rw (out, t) (half_apart o to top j b i (⊎_elim (λ k. inl (omega arith)) (λ k. inr (omega arith)) l))
        | inr t ↦ rw (out, t)
      ];
      long = r.same;
      long_out = elim (either new) [ inl t ↦ rw (out, t) (length_put o to top j) | inr t ↦ rw (out, t) ];
    }

    others : (i : ℕ) → (i ≡ j → ⊥) → (node_at ws i && numbered w' i v) ≡ (node_at ws i && numbered w i v)
    others i d = rw (numbered_apart r i v d)

    note_new : new ≡ true → Waiting ws w' o' to v height
    note_new t =
        let q = note_room t in
        let p : o' ≡ put_half o to top j = rw t at out in
        let z : height ≡ top + 1 = rw t at h in
        subst (Waiting ws w' o' to v) (sym z) (record {
          stacked = stacked_push (length ws) (λ j. node_at ws j && numbered w j v) (λ j. node_at ws j && numbered w' j v)
              (half o to) (half o' to) top j (node_below ws j n) (was t)
              (and_intro (node_at ws j) (numbered w' j v) n (and_left (numbered w' j v) (not (numbered w j v)) (sym is ∙ t)))
              (λ i l d. others i d) (λ k l. rw p (half_other o to top j k (λ e. omega arith))) (rw p (half_same o to top j (omega arith))) s.stacked;
        })

    note_old : new ≡ false → Waiting ws w' o' to v height
    note_old t =
        let p : o' ≡ o = rw t at out in
        let z : height ≡ top = rw t at h in
        subst (Waiting ws w' o' to v) (sym z) (record {
          stacked = stacked_same (length ws) (λ j. node_at ws j && numbered w j v) (λ j. node_at ws j && numbered w' j v)
              (half o to) (half o' to) top
              (λ i l. ⊎_elim (λ (e : i ≡ j). rw (e, here (either (numbered w j v)))) (others i) (eq_or_ne i j)) (λ k l. rw p) s.stacked;
        })
      where
        here : ((numbered w j v ≡ true) ⊎ (numbered w j v ≡ false)) → numbered w' j v ≡ numbered w j v
        here (inl e) = numbered_stays r j v pos e ∙ sym e
        here (inr e) = not_known (λ i. clash (and_intro (numbered w' j v) (not (numbered w j v)) i (rw e)) (sym is ∙ t)) ∙ sym e

    pub note_waiting : Waiting ws w' o' to v height
    note_waiting = ⊎_elim note_new note_old (either new)
