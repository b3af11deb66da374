-- The edge words of a node, one after the other, in tables that a search left as they were. Assumes nothing.
use mathlib.Core.Path.{◌≡◌, sym, ◌∙◌}
use mathlib.Core.Logic.{◌⊎◌, inl, inr, ⊎_elim, ◌↔◌}
use mathlib.Core.Bool.{true}
use mathlib.Core.List.{List}
use Prim.Native.Nat.{ℕ, ◌+◌, ◌≤◌, ◌<◌}
use native.Mathlib.Omega.{arith}
use lib.Bits.{bit_and}
use lib.ListN.{length}
use Rattle.sets.specs.States.{has_state}
use Rattle.files.specs.Limits.{part_words}
use Rattle.sets.proofs.Cases.{and_left, and_right, and_intro, lt_or_le}
use Rattle.sets.proofs.StateSets.{has_and}
use Rattle.slots.proofs.Places.{edge_below, edge_no_node}
use Rattle.slots.specs.Slots.{node_at, edge_at, slot_of, mask_of, Kept}
use Rattle.entering.specs.Entering.{Edge, Hit}

-- the words between i and x are edge words
abbrev pub Run : List ℕ → ℕ → ℕ → Type 0
Run ws i x = (i < x) × ((k : ℕ) → i < k → k < x → edge_at ws k ≡ true)

pub run_more : (ws : List ℕ) (i x : ℕ) → Run ws i x → edge_at ws x ≡ true → Run ws i (x + 1)
run_more ws i x r e =
    (omega (arith, r.0), λ k a b. ⊎_elim (λ (l : k < x). r.1 k a l) (λ l. let q : k ≡ x = omega arith in rw q e) (lt_or_le k x))

module _ (ws w : List ℕ) (i u : ℕ) where
  module _ (x : ℕ) (run : Run ws i x) where
    -- one more edge word
    module _ (node : node_at ws i ≡ true) (edge : edge_at ws x ≡ true) (s m : ℕ) (is : s ≡ slot_of w x) (has : m ≡ mask_of w x) (j p : ℕ) where
      hit_split : Hit ws w i u (x + 1) j p → Hit ws w i u x j p ⊎ ((j ≡ s) × (has_state (bit_and m u) p ≡ true))
      hit_split ((y, d), h) = ⊎_elim old new (lt_or_le y x)
        where
          old : y < x → Hit ws w i u x j p ⊎ ((j ≡ s) × (has_state (bit_and m u) p ≡ true))
          old l = inl ((y, record { behind = d.behind; before = l; target = d.target; mask = d.mask }), h)

          new : x ≤ y → Hit ws w i u x j p ⊎ ((j ≡ s) × (has_state (bit_and m u) p ≡ true))
          new l =
              let q : y ≡ x = omega (arith, d.before) in
              let d' : Edge ws w i (x + 1) j p x = rw q at d in
              inr (sym d'.target ∙ sym is, rw has (has_and (mask_of w x) u p ∙ and_intro _ _ d'.mask h))

      hit_join : Hit ws w i u x j p ⊎ ((j ≡ s) × (has_state (bit_and m u) p ≡ true)) → Hit ws w i u (x + 1) j p
      hit_join (inl ((y, d), h)) = ((y, record { behind = d.behind; before = omega (arith, d.before); target = d.target; mask = d.mask }), h)
      hit_join (inr (q, h)) =
          let b = sym (has_and m u p) ∙ h in (
            (
              x,
              record {
                behind = record { node = node; after = run.0; below = edge_below ws x edge; edges = λ k a l. (run_more ws i x run edge).1 k a (omega arith) };
                before = omega arith;
                target = sym is ∙ sym q;
                mask = rw (← has) (and_left (has_state m p) (has_state u p) b);
              },
            ),
            and_right (has_state m p) (has_state u p) b,
          )

      pub hit_more : Hit ws w i u (x + 1) j p ↔ (Hit ws w i u x j p ⊎ ((j ≡ s) × (has_state (bit_and m u) p ≡ true)))
      hit_more = (hit_split, hit_join)

-- tables that were kept have the same edges
pub edge_kept : {ws : List ℕ} {t : ℕ} {w w' : List ℕ} {i to j p x : ℕ} → length ws ≤ part_words → Kept ws t w w' → Edge ws w i to j p x → Edge ws w' i to j p x
edge_kept {ws} {x = x} few k d =
    let b = d.behind in
    let l : x < part_words = omega (arith, b.below) in
    record {
      behind = b;
      before = d.before;
      target = k.slots x l ∙ d.target;
      mask = rw (k.masks x l (edge_no_node ws x (b.edges x b.after (omega arith)))) d.mask;
    }
