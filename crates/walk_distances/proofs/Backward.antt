-- One edge word in the tables: where no state is entered nothing changes, else the row and the list of its node have what is new. Assumes nothing.
use mathlib.Core.Path.{◌≡◌, sym, ap, subst, ◌∙◌}
use mathlib.Core.Bool.{Bool, true, cond, not, ◌&&◌, ◌||◌}
use mathlib.Core.List.{List}
use Prim.Native.Nat.{ℕ, zero, suc, ◌+◌, ◌*◌, ◌<◌}
use native.Mathlib.Omega.{arith}
use lib.Bits.{bit_and}
use lib.Dec.{eqb, ltb}
use lib.ListN.{get_or}
use Rattle.sets.specs.Sets.{any}
use Rattle.sets.specs.States.{has_state, states_of}
use Rattle.sets.specs.Table.{half, put_half}
use Rattle.sets.proofs.Cases.{clash}
use Rattle.sets.proofs.StateSets.{has_and}
use Rattle.files.specs.Limits.{shown_words}
use Rattle.files.specs.Part.{part_check}
use Rattle.files.proofs.Parts.{whole_part}
use Rattle.paths.specs.declared.automaton.Automaton.{Automaton}
use Rattle.slots.specs.Slots.{owners_base, node_at, edge_at, Behind}
use Rattle.slots.specs.Layout.{Owner}
use Rattle.slots.proofs.Places.{node_below, edge_below}
use Rattle.slots.proofs.Owning.{header_edge}
use Rattle.walk_rows.specs.Distances.{numbered, Hit}
use Rattle.walk_links.specs.Tables.{target_at, mask_at}
use Rattle.walk_distances.specs.Rounds.{Turns, Waiting, Numbering, Written}
use Rattle.walk_distances.proofs.Handling.{owner_behind, edge_turns, edge_turns_none}
use Rattle.walk_distances.proofs.Noting.{written_refl, list_room, note_room, note_written, note_waiting}

-- the edge word at x is handled, and r nodes are on the list
pub record Handles (ws : List ℕ) (a : Automaton) (x v to : ℕ) (w w' o o' : List ℕ) (r : ℕ) : Type 0 where
  pub turns : (done : ℕ → Bool) → Turns ws a v w w' done (λ z. done z || eqb z x)
  pub written : Written ws to v w w' o o'
  pub waiting : Waiting ws w' o' to v r

module _ {ws : List ℕ} {a : Automaton} {w o : List ℕ} {to top v : ℕ} (x f m : ℕ) (g : Numbering ws a w o to v top)
    (edge : edge_at ws x ≡ true) (known : (p : ℕ) → has_state f p ≡ (ltb p 16 && eqb (suc (half w 0 (16 * target_at w x + p))) v)) (read : m ≡ mask_at w x) where
  abbrev c : part_check ws ≡ 0
  c = whole_part ws g.ready.measurable.accepted

  positive : (x : ℕ) → edge_at ws x ≡ true → 0 < x
  positive zero e = absurd (clash e (header_edge ws c))
  positive (suc x) e = omega arith

  own : Owner ws (half o owners_base x) x
  own = g.ready.indexed.owned x (positive x edge) (edge_below ws x edge)

  behind : Behind ws (half o owners_base x) x
  behind = owner_behind ws c (half o owners_base x) x own edge

  both : (p : ℕ) → has_state (bit_and m f) p ≡ (has_state (mask_at w x) p && has_state f p)
  both p = has_and m f p ∙ ap (λ m. has_state m p && has_state f p) read

  pub back_none : bit_and m f ≡ 0 → Handles ws a x v to w w o o top
  back_none z = record {
    turns = edge_turns_none ws c a x (half o owners_base x) v f (bit_and m f) w behind (g.ready.edged x edge) known both z;
    written = written_refl ws to v w o;
    waiting = g.waiting;
  }

  module _ {j : ℕ} (is : j ≡ half o owners_base x) where
    back_node : node_at ws j ≡ true
    back_node = subst (λ j. node_at ws j ≡ true) (sym is) own.node

    pub back_small : j < shown_words
    back_small = omega (arith, node_below ws j back_node, g.ready.measurable.few)

    module _ (set : ℕ) {w' : List ℕ} {new : Bool} (comes : (p : ℕ) → has_state set p ≡ (ltb p 16 && any (has_state (bit_and m f)) (states_of (get_or a.follow p 0))))
        (r : Hit (has_state set) j 16 v w w') (tells : new ≡ (numbered w' j v && not (numbered w j v))) where
      pub back_room : new ≡ true → top < shown_words
      back_room = note_room back_node (omega arith) g.ready.measurable.few r tells g.waiting

      pub back_some : {o' : List ℕ} {height : ℕ} → o' ≡ cond new (put_half o to top j) o → height ≡ cond new (top + 1) top → Handles ws a x v to w w' o o' height
      back_some p h = record {
        turns = edge_turns ws c a x j v f (bit_and m f) set w w' (subst (λ j. Behind ws j x) (sym is) behind) (g.ready.edged x edge) known both comes r;
        written = note_written back_node (omega arith) g.ready.measurable.few r tells g.waiting (list_room g.list g.ready.measurable) p h;
        waiting = note_waiting back_node (omega arith) g.ready.measurable.few r tells g.waiting (list_room g.list g.ready.measurable) p h;
      }
