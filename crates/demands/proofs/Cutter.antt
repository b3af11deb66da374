-- The cutter makes true cuts: from an accepted file, whole or with links that end nowhere, and an accepted cut list, the parts for the sites that the
-- cut list names, ascending, are a true cut of the file's plant; in a whole's parts no link ends nowhere, and of any file's a test tells whether one is
-- walked. A true cut has one to sixteen parts. Assumes nothing.
use mathlib.Core.Path.{◌≡◌, sym, ◌∙◌, ap, subst}
use mathlib.Core.Bool.{Bool, not}
use mathlib.Core.Logic.{◌↔◌}
use mathlib.Core.List.Memᴰ
use mathlib.Core.List.{List, map, map-map}
use Prim.Native.Nat.{ℕ, ◌≤◌, ◌<◌}
use native.Mathlib.Omega.{arith}
use lib.Dec.{T}
use lib.ListN.{length, get_or, length-map}
use Rattle.sets.specs.Sets.{Mem, here, there, Distinct, set_of, member, any}
use Rattle.sets.specs.Reach.{next}
use Rattle.sets.proofs.Sets.{set_of_lists, member_iff}
use Rattle.sets.proofs.Filter.{map_fixed, all_iff}
use Rattle.sets.proofs.Lengths.{ascending_distinct, pigeonhole_below}
use Rattle.files.specs.Field.{site_of, root_of, stopped_of, pair, pair_node}
use Rattle.files.specs.Groups.{our_groups}
use Rattle.files.specs.Part.{part_check, whole_check, nodes, nodes_with, doors, edges}
use Rattle.files.proofs.Fields.{site_below, pair_node_lem}
use Rattle.files.proofs.Blocks.{Block, number, blocks, nodes_iff, marked_iff, edges_block, block_edges}
use Rattle.files.proofs.Parts.{whole_part, nodes_ascending}
use Rattle.files.specs.Cuts.{cut_check}
use Rattle.cutter.specs.Cut.{cut}
use Rattle.cutter.proofs.Sited.{Fit, sited, site_known, sited_block, block_sited, sited_once}
use Rattle.cutter.proofs.Cutter.{cut_accepted, cut_length, cut_site, cut_words}
use Rattle.cutter.proofs.Parts.{cuts_fit, cut_nodes, cut_roots_lem, cut_stopped, cut_edges, cut_crossed}
use Rattle.expressions.specs.Expr.{Expr, count}
use Rattle.expressions.specs.Labels.{holds}
use Rattle.expressions.proofs.Ranges.{step_range}
use Rattle.walks.specs.Product.{reached}
use Rattle.walks.proofs.Product.{exits_iff, pair_step_iff, reached_lists}
use Rattle.old.proofs.OldSearch.{root_pairs}
use Rattle.demands.specs.Plant.{Plant, OneRoot, TrueCut, Unwalked, Holds, HasEdge, AcceptedPart, Words, body}
use Rattle.demands.specs.PlantOf.{plant_of, parts_of}
use Rattle.demands.proofs.PlantOf.{plant_holds, plant_closed}
use Rattle.demands.proofs.LeftOut.{OnlyLinks, plant-unwalked, closed_unwalked}
use Rattle.demands.proofs.Comes.{begin, walk_end, comes_state, walk_comes}
use Rattle.demands.proofs.OldSearch.{comes_reach, roots_below}

-- any true cut of a plant with a root has some part, and at most sixteen, as sites are different and below 16
pub some_part : {p : Plant} {parts : List (List ℕ)} → OneRoot p → TrueCut p parts → 1 ≤ length parts
some_part {p} one cut = some (cut.every one.root (p.root_node one.root one.is)).1
  where
    some : {f : List ℕ} {fs : List (List ℕ)} → Mem f fs → 1 ≤ length fs
    some (here e) = omega arith
    some (there m) = omega arith

pub few_parts : {p : Plant} {parts : List (List ℕ)} → TrueCut p parts → length parts ≤ 16
few_parts {parts} cut = omega (
  arith,
  length-map parts (λ f. site_of (get_or f 0 0)),
  pigeonhole_below (map (λ f. site_of (get_or f 0 0)) parts) 16 cut.sites
      (λ s m. let (f, i, e) = Memᴰ.of_map (λ f. site_of (get_or f 0 0)) parts m in rw (← e) (site_below (get_or f 0 0))),
)

-- the file need not be a whole: its links may end nowhere
module _ (f cuts : List ℕ) (p : part_check f ≡ 0) (site : ℕ) (listed : cut_check (body f) cuts site ≡ 0) where
  -- each of its node words has a site
  c : Fit (body f) cuts
  c = (cuts_fit (body f) cuts site listed).0

  small : (s : ℕ) → Mem s (set_of cuts) → s < 16
  small s m = (cuts_fit (body f) cuts site listed).1 s ((set_of_lists cuts).sound s m)

  distinct : Distinct (nodes (body f))
  distinct = ascending_distinct (nodes (body f)) (nodes_ascending f p)

  abbrev all : List (Block × ℕ)
  all = sited (blocks (body f)) cuts

  -- a block with the number of a node of a part is that node's block
  same : {a b : Block} {s : ℕ} → Mem (a, s) all → Mem b (blocks (body f)) → number a ≡ number b → b ≡ a
  same {a} {b} {s} k l e =
      let (t, m) = block_sited (body f) cuts c b l in
      ap (λ p. p.0) (sited_once (body f) cuts c distinct m k (sym e))

  -- a mark that the cutter keeps is on just those nodes of the part that have it in the file
  module _ (s : ℕ) (h : s < 16) (mark : ℕ → Bool)
      (kept : (x : ℕ) → Mem x (nodes_with mark (body (cut f cuts s))) ↔ ((a : Block) × Mem (a, s) all × T (mark a.word) × (number a ≡ x))) where
    has_mark : (x : ℕ) → Mem x (nodes (body (cut f cuts s))) → Mem x (nodes_with mark (body f)) → Mem x (nodes_with mark (body (cut f cuts s)))
    has_mark x m r =
        let (a, k, q) = (cut_nodes f cuts p c s h x).0 m in
        let (b, j, t, n) = (marked_iff mark x (body f)).0 r in
        (kept x).1 (a, k, subst (λ (b : Block). T (mark b.word)) (same k j (q ∙ sym n)) t, q)

    is_mark : (x : ℕ) → Mem x (nodes_with mark (body (cut f cuts s))) → Mem x (nodes_with mark (body f))
    is_mark x m = let (a, k, t, q) = (kept x).0 m in (marked_iff mark x (body f)).1 (a, sited_block (body f) cuts c k, t, q)

  -- a part's edges are the file's
  part_edge : (s : ℕ) → s < 16 → (x l y : ℕ) → HasEdge (cut f cuts s) x l y → HasEdge f x l y
  part_edge s h x l y (w, i, v, u) =
      let (a, k, q, i) = (cut_edges f cuts p c s h w x).0 i in
      (w, subst (λ x. Mem w (edges (body f) x)) q (block_edges a w (body f) distinct (sited_block (body f) cuts c k) i), v, u)

  part_holds : (s : ℕ) → s < 16 → Holds (plant_of f) (cut f cuts s)
  part_holds s h = record {
    is_node_lem = λ x m. let (a, k, q) = (cut_nodes f cuts p c s h x).0 m in (nodes_iff x (body f)).1 (a, sited_block (body f) cuts c k, q);
    has_link = λ x l y m e o.
        let (w, i, v, u) = e in
        let (a, k, q) = (cut_nodes f cuts p c s h x).0 m in
        let (b, j, n, i) = edges_block w x (body f) i in
        (w, (cut_edges f cuts p c s h w x).1 (a, k, q, subst (λ (b : Block). Mem w b.links) (same k j (q ∙ sym n)) i), v, u);
    is_link = λ x l y e o. part_edge s h x l y e;
    has_root = has_mark s h root_of (cut_roots_lem f cuts p c s h);
    is_root_lem = is_mark s h root_of (cut_roots_lem f cuts p c s h);
    has_stopped = has_mark s h stopped_of (cut_stopped f cuts p c s h);
    is_stopped_lem = is_mark s h stopped_of (cut_stopped f cuts p c s h);
  }

  -- each node is in a part, and in one alone
  part_every : (x : ℕ) → Mem x (nodes (body f)) → (g : List ℕ) × Mem g (parts_of f cuts) × Mem x (nodes (body g))
  part_every x m =
      let (b, k, q) = (nodes_iff x (body f)).0 m in
      let (s, l) = block_sited (body f) cuts c b k in
      let i = (set_of_lists cuts).complete s (site_known (blocks (body f)) cuts l) in
      (cut f cuts s, Memᴰ.map (cut f cuts) i, (cut_nodes f cuts p c s (small s i) x).1 (b, l, q))

  part_once : (x s t : ℕ) → s < 16 → t < 16 → Mem x (nodes (body (cut f cuts s))) → Mem x (nodes (body (cut f cuts t))) → s ≡ t
  part_once x s t h i m n =
      let (a, k, q) = (cut_nodes f cuts p c s h x).0 m in
      let (b, l, r) = (cut_nodes f cuts p c t i x).0 n in
      ap (λ p. p.1) (sited_once (body f) cuts c distinct k l (q ∙ sym r))

  -- the target of an edge from another part is a door
  part_crossed : (x l y s t : ℕ) → s < 16 → t < 16 → (s ≡ t → ⊥) → HasEdge (cut f cuts s) x l y
      → Mem y (nodes (body (cut f cuts t))) → Mem y (doors (body (cut f cuts t)))
  part_crossed x l y s t h i n e m =
      let (w, v, d, u) = e in
      let (b, v, r, o) = (cut_edges f cuts p c s h w x).0 v in
      let (a, k, q) = (cut_nodes f cuts p c t i y).0 m in
      subst (λ y. Mem y (doors (body (cut f cuts t)))) q (cut_crossed f cuts p c t i a b w s k v n o (u ∙ sym q))

  -- what holds of the part of each site holds of each part
  each : (P : List ℕ → Type 0) → ((s : ℕ) → Mem s (set_of cuts) → P (cut f cuts s)) → (g : List ℕ) → Mem g (parts_of f cuts) → P g
  each P h g m = let (s, k, e) = Memᴰ.of_map (cut f cuts) (set_of cuts) m in subst P e (h s k)

  each₂ : (P : List ℕ → List ℕ → Type 0) → ((s t : ℕ) → Mem s (set_of cuts) → Mem t (set_of cuts) → P (cut f cuts s) (cut f cuts t))
      → (g g' : List ℕ) → Mem g (parts_of f cuts) → Mem g' (parts_of f cuts) → P g g'
  each₂ P h g g' m m' = each (λ g. P g g') (λ s i. each (P (cut f cuts s)) (λ t j. h s t i j) g' m') g m

  pub true_cut : Words f → length f ≤ 4096 → TrueCut (plant_of f) (parts_of f cuts)
  true_cut word few = record {
    part = each AcceptedPart (λ s m. (
      cut_words f cuts p c s (small s m) word,
      omega (arith, cut_length f cuts p c s (small s m)),
      cut_accepted f cuts p c s (small s m),
    ));
    holds = each (Holds (plant_of f)) (λ s m. part_holds s (small s m));
    sites = rw (map-map, map_fixed _ (set_of cuts) (λ s m. cut_site f cuts p c s (small s m))) (ascending_distinct (set_of cuts) (set_of_lists cuts).ascending);
    every = part_every;
    once = λ x. each₂ (λ g g'. Mem x (nodes (body g)) → Mem x (nodes (body g')) → g ≡ g')
        (λ s t i j k l. ap (cut f cuts) (part_once x s t (small s i) (small t j) k l));
    crossed = λ x l y. each₂ (λ g g'. (g ≡ g' → ⊥) → HasEdge g x l y → Mem y (nodes (body g')) → Mem y (doors (body g')))
        (λ s t i j n. part_crossed x l y s t (small s i) (small t j) (λ e. n (ap (cut f cuts) e)));
  }

  pub part_links : OnlyLinks (plant_of f) (parts_of f cuts)
  part_links = each (λ g. (x l y : ℕ) → HasEdge g x l y → HasEdge f x l y) (λ s m. part_edge s (small s m))

-- no link of a whole ends nowhere
pub whole_unwalked : (groups f cuts : List ℕ) → whole_check f ≡ 0 → (site : ℕ) → cut_check (body f) cuts site ≡ 0
    → (e : Expr) → Unwalked groups (plant_of f) (parts_of f cuts) e
whole_unwalked groups f cuts whole site listed e =
    closed_unwalked groups (plant_of f) (parts_of f cuts) e (part_links f cuts (whole_part f whole) site listed) (plant_closed f whole)

-- Of any file: where the search of the file as it stands comes to no node that the file has not, no walk takes a link that ends nowhere
pub search_unwalked : (f cuts : List ℕ) → part_check f ≡ 0 → (site : ℕ) → cut_check (body f) cuts site ≡ 0 → (e : Expr) → count e ≤ 15
    → T (not (any (λ c. not (member (pair_node c) (nodes (body f)))) (reached (body f) e (root_pairs f)))) → Unwalked our_groups (plant_of f) (parts_of f cuts) e
search_unwalked f cuts p site listed e small test =
    plant-unwalked our_groups (plant_of f) (parts_of f cuts) e (part_links f cuts p site listed) (λ r x a y q t w k v run (u, i, j, l) out s.
    let c = walk_comes (plant_of f) e (begin k) v run in
    let b : t < 16 = omega (arith, step_range holds e q a t s) in
    let d = comes_reach (plant_of f) f (plant_holds f) (λ x n. n) e small c in
    let z = next d ((pair_step_iff (body f) e small x q y t (omega (arith, comes_state (plant_of f) e c)) b).1
    (u, (exits_iff (body f) x u).1 (i, (walk_end v).1), l, rw j s)) in
    let all = (all_iff (λ c. member (pair_node c) (nodes (body f))) (reached (body f) e (root_pairs f))).0 test (pair y t)
    ((reached_lists (body f) e small (root_pairs f) (roots_below f)).complete (pair y t) z) in
    out (rw (pair_node_lem y t b) at ((member_iff (pair_node (pair y t)) (nodes (body f))).0 all)))
