-- Parts that are composed node by node, each node's word with its edge words behind it: they are accepted, and read as they were composed.
-- Assumes nothing.
use mathlib.Core.Path.{◌≡◌, refl, sym, ◌∙◌, ap, ap₂}
use mathlib.Core.Logic.{inl, inr}
use mathlib.Core.Bool.{Bool, true, false, ◌&&◌, ◌||◌}
use mathlib.Core.List.{List, [], ◌∷◌, ◌++◌, map, flatten}
use Prim.Native.Nat.{ℕ, ◌^◌, ◌≤◌, ◌<◌}
use native.Mathlib.Omega.{arith}
use lib.Dec.{T, eqb}
use lib.ListN.{length, get_or}
use borrow.Author.Tests.{eq-eqb, ne_eqb, eqb-true, eqb-false}
use Rattle.sets.specs.Sets.{Mem, here, there, Ascending, filter, member}
use Rattle.sets.proofs.Tests.{either, passed, both, or_iff, eq_iff}
use Rattle.sets.proofs.Sets.{on_cons, flatten_map_iff, member_iff}
use Rattle.sets.proofs.Filter.{filter_append, filter_none, any_iff, all_that_iff, map_filter_iff}
use Rattle.files.specs.Field.{bits, kind_of, node_of, door_of, root_of, target_of, file}
use Rattle.files.specs.declared.part.PartSeen.{PartSeen}
use Rattle.files.specs.Part.{is_node, is_edge, is_root, start, scan, part_check, whole_check, nodes, nodes_with, front, edges}
use Rattle.files.specs.Limits.{part_words}
use Rattle.files.proofs.Checks.{checks, then_zero}
use Rattle.files.proofs.Fields.{Header, header}
use Rattle.files.proofs.Files.{header_checked}
use Rattle.files.proofs.Parts.{node_iff, edge_iff, next_node, next_edge}

-- an edge word, which is above every node word
pub record Link (w : ℕ) : Type 0 where
  pub kind_is : kind_of w ≡ 3
  pub word : w < 2 ^ 32

link_no_node : {w : ℕ} → Link w → is_node w ≡ false
link_no_node {w} l = ne_eqb (kind_of w) 2 (λ q. omega (arith, l.kind_is))

link_edge_lem : {w : ℕ} → Link w → is_edge w ≡ true
link_edge_lem {w} l = eq-eqb (kind_of w) 3 l.kind_is

-- node x with the word w and the edge words ls
pub record Composes (x w : ℕ) (ls : List ℕ) : Type 0 where
  pub kind_is : kind_of w ≡ 2
  pub zeros : bits 27 19 w ≡ 0
  pub node_is : node_of w ≡ x
  pub door : T (root_of w) → T (door_of w)
  pub word : w < 2 ^ 32
  pub rises : Ascending ls
  pub links : (v : ℕ) → Mem v ls → Link v

-- edge words and what is behind them
scan_links : (ls rest : List ℕ) (st : PartSeen) → Ascending ls → ((w : ℕ) → Mem w ls → Link w) → ((w : ℕ) → Mem w ls → st.last < w) → 0 < st.low
    → ((last : ℕ) → scan (record { last = last; low = st.low; rooted = st.rooted }) rest ≡ 0) → scan st (ls ++ rest) ≡ 0
scan_links [] rest st a k l b z = z st.last
scan_links (w ∷ ls) rest st (f, a) k l b z =
    let e = k w (here refl) in
    then_zero ((edge_iff st w (link_no_node e)).1 (record { edge = link_edge_lem e; behind = b; above = l w (here refl) }))
    (rw (next_edge st w (link_no_node e)) (scan_links ls rest (record { last = w; low = st.low; rooted = st.rooted }) a (λ v m. k v (there m)) f b z))

front_links : (ls rest : List ℕ) → ((w : ℕ) → Mem w ls → Link w) → front rest ≡ [] → front (ls ++ rest) ≡ ls
front_links [] rest k e = e
front_links (w ∷ ls) rest k e = rw (link_edge_lem (k w (here refl))) (ap (w ∷◌) (front_links ls rest (λ v m. k v (there m)) e))

edges_links : (ls rest : List ℕ) (x : ℕ) → ((w : ℕ) → Mem w ls → Link w) → edges (ls ++ rest) x ≡ edges rest x
edges_links [] rest x k = refl
edges_links (w ∷ ls) rest x k = rw (link_no_node (k w (here refl))) (edges_links ls rest x (λ v m. k v (there m)))

-- the words of nodes xs
module _ (word : ℕ → ℕ) (links : ℕ → List ℕ) where
  abbrev pub composed : List ℕ → List ℕ
  composed xs = flatten (map (λ x. word x ∷ links x) xs)

  abbrev pub All : List ℕ → Type 0
  All xs = (x : ℕ) → Mem x xs → Composes x (word x) (links x)

  -- no root comes after a root
  pub record OneRoot (rooted : Bool) (xs : List ℕ) : Type 0 where
    pub none : T rooted → (x : ℕ) → Mem x xs → T (root_of (word x)) → ⊥
    pub one : (x y : ℕ) → Mem x xs → Mem y xs → x < y → T (root_of (word x)) → T (root_of (word y)) → ⊥

  pub scan_composed : (xs : List ℕ) (st : PartSeen) → Ascending xs → All xs → OneRoot st.rooted xs → ((x : ℕ) → Mem x xs → st.low ≤ x) → scan st (composed xs) ≡ 0
  unfolding flatten
  scan_composed [] st a c r l = refl
  scan_composed (x ∷ xs) st (f, a) c r l =
      let w = word x in
      let k = c x (here refl) in
      let n : is_node w ≡ true = eq-eqb (kind_of w) 2 k.kind_is in
      let rest : OneRoot (st.rooted || root_of w) xs = record {
        none = λ t y m u. elim ((or_iff st.rooted (root_of w)).0 t) [ inl s ↦ r.none s y (there m) u | inr s ↦ r.one x y (here refl) (there m) (f y m) s u ];
        one = λ y z m k h. r.one y z (there m) (there k) h;
      } in
      then_zero ((node_iff st w n).1 (record { zeros = k.zeros; above = omega (arith, k.node_is, l x (here refl)); root = λ t. (k.door t, λ s. r.none s x (here refl) t) }))
      (rw (next_node st w n) (scan_links (links x) (composed xs) _ k.rises k.links (λ v m. let e = k.links v m in omega (arith, e.kind_is, e.word, k.kind_is, k.word)) (omega arith)
      (λ last. scan_composed xs _ a (λ y m. c y (there m)) rest (λ y m. omega (arith, k.node_is, f y m)))))

  -- the nodes whose words pass a test
  pub with_composed : (mark : ℕ → Bool) (xs : List ℕ) → All xs → nodes_with mark (composed xs) ≡ filter (λ x. mark (word x)) xs
  unfolding flatten
  with_composed mark [] c = refl
  with_composed mark (x ∷ xs) c =
      let k = c x (here refl) in
      let p : ℕ → Bool = λ w. is_node w && mark w in
      let none : filter p (links x) ≡ [] = filter_none p (links x) (λ w m. rw (link_no_node (k.links w m))) in
      let rest = with_composed mark xs (λ y m. c y (there m)) in
      rw (filter_append p (links x) (composed xs), none, eq-eqb (kind_of (word x)) 2 k.kind_is) (elim (either (mark (word x))) [
        | inl e ↦ rw e (ap₂ ◌∷◌ k.node_is rest)
        | inr e ↦ rw e rest
      ])

  pub nodes_composed : (xs : List ℕ) → All xs → nodes (composed xs) ≡ xs
  unfolding flatten
  nodes_composed [] c = refl
  nodes_composed (x ∷ xs) c =
      let k = c x (here refl) in
      let none : filter is_node (links x) ≡ [] = filter_none is_node (links x) (λ w m. link_no_node (k.links w m)) in
      rw (filter_append is_node (links x) (composed xs), none, eq-eqb (kind_of (word x)) 2 k.kind_is) (ap₂ ◌∷◌ k.node_is (nodes_composed xs (λ y m. c y (there m))))

  front_composed : (xs : List ℕ) → All xs → front (composed xs) ≡ []
  unfolding flatten
  front_composed [] c = refl
  front_composed (x ∷ xs) c = rw (c x (here refl)).kind_is

  pub edges_composed : (xs : List ℕ) → All xs → (x : ℕ) → Mem x xs → edges (composed xs) x ≡ links x
  unfolding flatten
  edges_composed [] c x m = elim m [ ]
  edges_composed (y ∷ xs) c x m =
      let k = c y (here refl) in
      let d : All xs = λ z m. c z (there m) in
      rw (k.kind_is, k.node_is) (elim (either (eqb y x)) [
        | inl e ↦ rw e (front_links (links y) (composed xs) k.links (front_composed xs d) ∙ ap links (eqb-true y x e))
        | inr e ↦ rw (e, edges_links (links y) (composed xs) x k.links) (edges_composed xs d x (elim m [ here q ↦ absurd (eqb-false y x e (sym q)) | there m ↦ m ]))
      ])

  -- what holds of every node word and of every edge word
  pub each_word : (P : ℕ → Type 0) (xs : List ℕ) → ((x : ℕ) → Mem x xs → P (word x)) → ((x w : ℕ) → Mem x xs → Mem w (links x) → P w)
      → (w : ℕ) → Mem w (composed xs) → P w
  each_word P xs f g w m = let (x, i, k) = (flatten_map_iff (λ x. word x ∷ links x) w xs).0 m in on_cons P (f x i) (λ v l. g x v i l) w k

  -- The file of a site

  abbrev pub composed_file : ℕ → List ℕ → List ℕ
  composed_file site xs = file 1 site 0 (composed xs)

  module _ (site : ℕ) (xs : List ℕ) (small : site < 16) (short : length (composed xs) < part_words) (c : All xs) where
    pub file_header : Header 1 site 0 (length (composed_file site xs)) (get_or (composed_file site xs) 0 0)
    file_header = header 1 site 0 (length (composed_file site xs)) (omega arith) small (omega arith) (omega arith)

    pub file_small : (w : ℕ) → Mem w (composed_file site xs) → w < 2 ^ 32
    file_small = on_cons (λ w. w < 2 ^ 32) file_header.word (each_word (λ w. w < 2 ^ 32) xs (λ x m. (c x m).word) (λ x w m k. ((c x m).links w k).word))

    module _ (a : Ascending xs) (one : OneRoot false xs) where
      pub file_part : part_check (composed_file site xs) ≡ 0
      file_part =
          then_zero (header_checked true false 1 site 0 (length (composed_file site xs)) _ file_header tt tt) (scan_composed xs start a c one (λ x m. omega arith))

      -- with a root, and every target among the nodes
      pub file_whole : (r : ℕ) → Mem r xs → T (root_of (word r)) → ((x w : ℕ) → Mem x xs → Mem w (links x) → Mem (target_of w) xs) → whole_check (composed_file site xs) ≡ 0
      file_whole r m t among = then_zero file_part (simp checks (
        (any_iff is_root (composed_file site xs)).1 (word r, there (node_there r m), both (is_node (word r)) (root_of (word r)) (node_word_lem r m) t),
        (all_that_iff is_edge (λ w. member (target_of w) (nodes (composed_file site xs))) (composed_file site xs)).1 (λ w k e.
            (member_iff (target_of w) (nodes (composed_file site xs))).1 (node_mem (target_of w) (target w k e))),
      ))
        where
          node_word_lem : (x : ℕ) → Mem x xs → T (is_node (word x))
          node_word_lem x m = passed (eq-eqb (kind_of (word x)) 2 (c x m).kind_is)

          node_there : (x : ℕ) → Mem x xs → Mem (word x) (composed xs)
          node_there x m = (flatten_map_iff (λ x. word x ∷ links x) (word x) xs).1 (x, m, here refl)

          node_mem : (x : ℕ) → Mem x xs → Mem x (nodes (composed_file site xs))
          node_mem x m = (map_filter_iff node_of is_node x (composed_file site xs)).1 (word x, there (node_there x m), node_word_lem x m, (c x m).node_is)

          target : (w : ℕ) → Mem w (composed_file site xs) → T (is_edge w) → Mem (target_of w) xs
          target = on_cons (λ w. T (is_edge w) → Mem (target_of w) xs)
              (λ e. absurd (omega (arith, file_header.kind_is, (eq_iff (kind_of (get_or (composed_file site xs) 0 0)) 3).0 e)))
              (each_word (λ w. T (is_edge w) → Mem (target_of w) xs) xs
              (λ x m e. absurd (omega (arith, (c x m).kind_is, (eq_iff (kind_of (word x)) 3).0 e))) (λ x w m k e. among x w m k))
