-- A node's door looked for in the index, from where its cell's doors begin. Assumes nothing.
use mathlib.Core.Path.{◌≡◌, sym, ◌∙◌}
use mathlib.Core.Bool.{Bool, true, false}
use mathlib.Core.List.{List}
use Prim.Native.Nat.{ℕ, ◌+◌, ◌*◌, ◌/◌, ◌≤◌, ◌<◌}
use native.Mathlib.Omega.{arith}
use borrow.Author.Count.{below_more}
use lib.ListN.{get_or}
use Rattle.sets.specs.Sets.{Mem}
use Rattle.sets.specs.Table.{half}
use Rattle.sets.specs.NodeSet.{node_set_bytes, node_cells}
use Rattle.sets.proofs.Cases.{clash}
use Rattle.files.specs.Reply.{is_door_word, is_door_of, doors}
use Rattle.door_index.specs.Index.{DoorAt, rank, door_nodes, index_at, Indexed}
use Rattle.door_index.proofs.Doors.{door_node, door_word_lem}
use Rattle.door_index.proofs.Ranking.{ranks_agree, rank_at, rank_mono}
use Rattle.hub_search.specs.Search.{IndexKept}

pub door_at_lem : {ws : List ℕ} {x j : ℕ} → DoorAt ws x j → is_door_word (get_or ws j 0) ≡ true
door_at_lem {ws} {x} {j} d = door_word_lem x (get_or ws j 0) d.is

-- the index is the same in a buffer that keeps it
pub indexed_kept : {ws o w w' : List ℕ} {d : ℕ} → Indexed ws o w d → IndexKept d w w' → Indexed ws o w' d
indexed_kept f k = record { ranks = f.ranks; all = f.all; places = λ i l. rw (k.index i l) (f.places i l) }

-- x's door is none of those from the start on up to `at`, and no others can be x's
pub record Sought (ws o w : List ℕ) (d x from at : ℕ) : Type 0 where
  pub indexed : Indexed ws o w d
  pub start : from ≡ half o node_set_bytes (x / 16)
  pub none : (k : ℕ) → k < at → from ≤ k → is_door_of x (get_or ws (index_at w k) 0) ≡ false
  pub within : at ≤ d

module _ {ws o w : List ℕ} {d x : ℕ} where
  start_rank : {from : ℕ} → Indexed ws o w d → x < 16 * node_cells → from ≡ half o node_set_bytes (x / 16) → from ≡ rank ws (16 * (x / 16))
  start_rank f l e = e ∙ f.ranks.counts.counts (x / 16) (omega arith) ∙ ranks_agree ws f.ranks (16 * (x / 16)) (omega arith)

  pub sought_first : {from : ℕ} → Indexed ws o w d → x < 16 * node_cells → from ≡ half o node_set_bytes (x / 16) → Sought ws o w d x from from
  sought_first f l e = record {
    indexed = f;
    start = e;
    none = λ k b a. absurd (omega arith);
    within = omega (arith, start_rank f l e, rank_mono ws (16 * (x / 16)) (16 * node_cells) (omega arith), f.all);
  }

  module _ {from at : ℕ} (f : Sought ws o w d x from at) where
    module _ {v : ℕ} {b : Bool} (n : at ≡ d → ⊥) (ev : v ≡ get_or ws (index_at w at) 0) (eb : b ≡ is_door_of x v) where
      pub sought_more : b ≡ false → Sought ws o w d x from (at + 1)
      sought_more t = record {
        indexed = f.indexed;
        start = f.start;
        none = below_more _ at f.none (λ a. rw (← ev, ← eb) t);
        within = omega (arith, f.within);
      }

      -- the door at number `at` of the index is x's
      found : b ≡ true → DoorAt ws x (index_at w at)
      found t =
          let h = f.indexed.places at (omega (arith, f.within)) in
          let y : ℕ = get_or (door_nodes ws) at 0 in
          let e : y ≡ x = sym (door_node y (get_or ws (index_at w at) 0) h.is) ∙ door_node x (get_or ws (index_at w at) 0) (rw (← ev, ← eb) t) in
          rw e at h

      pub sought_found : {j : ℕ} → j ≡ index_at w at → b ≡ true → DoorAt ws x j
      sought_found e t = rw e (found t)

    -- x is no door
    pub sought_none : at ≡ d → x < 16 * node_cells → Mem x (doors ws) → ⊥
    sought_none e l m =
        let (b, g) = rank_at ws x l m in
        let h = f.indexed.places (rank ws x) (omega (arith, f.indexed.all)) in
        let i : from ≤ rank ws x = omega (arith, start_rank f.indexed l f.start, rank_mono ws (16 * (x / 16)) x (omega arith)) in
        clash (rw g at h.is) (f.none (rank ws x) (omega (arith, f.indexed.all)) i)
