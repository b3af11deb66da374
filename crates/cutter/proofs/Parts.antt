-- Nodes, roots, doors and edges of the part that the cutter makes for a site, by the whole's blocks of that site; and what an accepted cut
-- list is; and the call. Assumes nothing.
use mathlib.Core.Path.{◌≡◌, refl, sym, ◌∙◌, ap, subst}
use mathlib.Core.Logic.{◌↔◌, inr}
use mathlib.Core.Bool.{Bool, not, ◌&&◌}
use mathlib.Core.List.{List}
use Prim.Native.Nat.{ℕ, ◌*◌, ◌^◌, ◌≤◌, ◌<◌}
use native.Mathlib.Omega.{arith}
use lib.Dec.{T, eqb, leb, leb→le, eqb→eq}
use lib.ListN.{length, drop}
use borrow.Author.Tests.{ne_eqb, eq-eqb}
use Rattle.sets.specs.Sets.{Mem}
use Rattle.sets.proofs.Lengths.{ascending_distinct}
use Rattle.sets.proofs.Tests.{is_true, or_iff}
use Rattle.sets.proofs.Filter.{any_iff, all_iff}
use Rattle.files.specs.Word.{bytes_of}
use Rattle.files.specs.Outcome.{accepted, outcome}
use Rattle.files.specs.Field.{root_of, door_of, stopped_of, target_of, kind_of}
use Rattle.files.specs.Part.{is_node, part_check, whole_check, nodes, nodes_with, roots, doors, stopped, edges}
use Rattle.files.proofs.Checks.{checks, then_zero, room_checked, outcome_gives}
use Rattle.files.proofs.Words.{words_bytes, size_checked}
use Rattle.files.proofs.Fields.{Node}
use Rattle.files.proofs.Blocks.{Block, number, blocks, block_node, block_edge, nodes_iff, marked_iff, edges_block, block_edges}
use Rattle.files.proofs.Parts.{nodes_ascending, whole_part, part_some}
use Rattle.files.specs.Cuts.{cut_check}
use Rattle.files.specs.Limits.{part_words, work_bytes}
use Rattle.cutter.specs.Cut.{remarked, elsewhere, cut, cut_call}
use Rattle.cutter.proofs.Sited.{Fit, sited, sited_block}
use Rattle.cutter.proofs.Choose.{chosen_iff}
use Rattle.cutter.proofs.Remark.{crossed, remark, remarked_node}
use Rattle.cutter.proofs.Cutter.{cut_length, cut_accepted, cut_blocks}

-- an accepted cut list has one site, at most 15, for each node word
pub cuts_fit : (ws cuts : List ℕ) (site : ℕ) → cut_check ws cuts site ≡ 0 → Fit ws cuts × ((c : ℕ) → Mem c cuts → c < 16) × (site < 16)
cuts_fit ws cuts site e =
    let h = simp checks at e in (
      h.0.0,
      λ c m. omega (arith, leb→le c 15 ((all_iff (λ c. leb c 15) cuts).0 h.0.1 c m)),
      omega (arith, h.1),
    )

module _ (f cuts : List ℕ) (p : part_check f ≡ 0) (c : Fit (drop 1 f) cuts) (s : ℕ) (h : s < 16) where
  abbrev all : List (Block × ℕ)
  all = sited (blocks (drop 1 f)) cuts

  abbrev part : List ℕ
  part = drop 1 (cut f cuts s)

  -- the fields of a block's word in the part
  fields : (a : Block) → Mem (a, s) all → Node (number a) (crossed (elsewhere f cuts s) a.word) (root_of a.word) (stopped_of a.word) (remarked (elsewhere f cuts s) a.word)
  fields a m = remarked_node (elsewhere f cuts s) a.word (is_true _ (block_node a (drop 1 f) (sited_block (drop 1 f) cuts c m)).1)

  pub cut_nodes : (x : ℕ) → Mem x (nodes part) ↔ ((a : Block) × Mem (a, s) all × (number a ≡ x))
  cut_nodes x = (
    λ m.
        let (b, k, q) = (nodes_iff x part).0 m in
        let (a, k, e) = (cut_blocks f cuts p c s h b).0 k in
        (a, k, sym (fields a k).node_is ∙ ap number e ∙ q),
    λ m.
        let (a, k, q) = m in
        (nodes_iff x part).1 (remark (elsewhere f cuts s) a, (cut_blocks f cuts p c s h _).1 (a, k, refl), (fields a k).node_is ∙ q),
  )

  -- the nodes that the part marks, where its test t of a word is the test u of the whole's word
  marked : (t u : ℕ → Bool) → ((a : Block) → Mem (a, s) all → t (remarked (elsewhere f cuts s) a.word) ≡ u a.word)
      → (x : ℕ) → Mem x (nodes_with t part) ↔ ((a : Block) × Mem (a, s) all × T (u a.word) × (number a ≡ x))
  marked t u same x = (
    λ m.
        let (b, k, r, q) = (marked_iff t x part).0 m in
        let (a, k, e) = (cut_blocks f cuts p c s h b).0 k in
        (a, k, rw (← same a k) (subst (λ (b : Block). T (t b.word)) (sym e) r), sym (fields a k).node_is ∙ ap number e ∙ q),
    λ m.
        let (a, k, r, q) = m in
        (marked_iff t x part).1 (remark (elsewhere f cuts s) a, (cut_blocks f cuts p c s h _).1 (a, k, refl), rw (same a k) r, (fields a k).node_is ∙ q),
  )

  pub cut_roots_lem : (x : ℕ) → Mem x (roots part) ↔ ((a : Block) × Mem (a, s) all × T (root_of a.word) × (number a ≡ x))
  cut_roots_lem = marked root_of root_of (λ a m. (fields a m).root_is)

  pub cut_stopped : (x : ℕ) → Mem x (stopped part) ↔ ((a : Block) × Mem (a, s) all × T (stopped_of a.word) × (number a ≡ x))
  cut_stopped = marked stopped_of stopped_of (λ a m. (fields a m).stopped_is)

  cut_doors_lem : (x : ℕ) → Mem x (doors part) ↔ ((a : Block) × Mem (a, s) all × T (crossed (elsewhere f cuts s) a.word) × (number a ≡ x))
  cut_doors_lem = marked door_of (crossed (elsewhere f cuts s)) (λ a m. (fields a m).door_is)

  pub cut_edges : (w x : ℕ) → Mem w (edges part x) ↔ ((a : Block) × Mem (a, s) all × (number a ≡ x) × Mem w a.links)
  cut_edges w x = (
    λ m.
        let (b, k, q, l) = edges_block w x part m in
        let (a, k, e) = (cut_blocks f cuts p c s h b).0 k in
        (a, k, sym (fields a k).node_is ∙ ap number e ∙ q, subst (λ (b : Block). Mem w b.links) (sym e) l),
    λ m.
        let (a, k, q, l) = m in
        subst (λ x. Mem w (edges part x)) ((fields a k).node_is ∙ q) (block_edges (remark (elsewhere f cuts s) a) w part
        (ascending_distinct (nodes part) (nodes_ascending (cut f cuts s) (cut_accepted f cuts p c s h)))
        ((cut_blocks f cuts p c s h _).1 (a, k, refl)) l),
  )

  -- the target of a link from another site's node is a door
  pub cut_crossed : (a b : Block) (w t : ℕ) → Mem (a, s) all → Mem (b, t) all → (t ≡ s → ⊥) → Mem w b.links → target_of w ≡ number a → Mem (number a) (doors part)
  cut_crossed a b w t k l n m e =
      let (i, j) = block_edge b w (elsewhere f cuts s) ((chosen_iff (λ c. not (eqb c s)) b (drop 1 f) cuts c).1 (t, l, rw (ne_eqb t s n) tt)) m in
      (cut_doors_lem (number a)).1 (
        a,
        k,
        (or_iff (root_of a.word) _).1 (inr ((any_iff (λ v. not (is_node v) && eqb (target_of v) (number a)) (elsewhere f cuts s)).1
            (w, i, rw (ne_eqb (kind_of w) 2 (λ q. omega (arith, eqb→eq (kind_of w) 3 j)), eq-eqb (target_of w) (number a) e) tt))),
        refl,
      )

-- The call

-- written as bytes, an accepted whole is cut for every site, whatever the accepted cut list
pub cut_call_lem : (out work : ℕ) (f cuts : List ℕ) (site : ℕ) → 4 * part_words ≤ out → work_bytes ≤ work
    → ((w : ℕ) → Mem w f → w < 2 ^ 32) → length f ≤ part_words → whole_check f ≡ 0 → cut_check (drop 1 f) cuts site ≡ 0
    → cut_call out work (bytes_of f) cuts site ≡ accepted (cut f cuts site)
unfolding cut_call
cut_call_lem out work f cuts site h k v l c d =
    let p = whole_part f c in
    let (fit, small, s) = cuts_fit (drop 1 f) cuts site d in
    rw (words_bytes f v) (ap (λ c. outcome c part_words (cut f cuts site))
    (then_zero (room_checked part_words out work h k) (then_zero (size_checked part_words f (part_some f p) l) (then_zero c d)))
    ∙ outcome_gives part_words (cut f cuts site) (omega (arith, cut_length f cuts p fit site s)))
