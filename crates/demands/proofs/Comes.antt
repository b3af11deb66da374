-- Where a plant's walks come to, in which state of the position automaton: `Found` by single links, and the links of a part as steps of the product.
-- Assumes nothing.
use mathlib.Core.Path.{refl, sym, subst}
use mathlib.Core.Logic.Iff
use mathlib.Core.Logic.{◌↔◌}
use mathlib.Core.List.{List, [], ◌∷◌, ◌++◌, map, flatten}
use Prim.Native.Nat.{ℕ, ◌≤◌, ◌<◌}
use native.Mathlib.Omega.{arith}
use lib.Dec.{T}
use Rattle.sets.specs.Sets.{Mem}
use Rattle.sets.specs.Reach.{Reach}
use Rattle.sets.proofs.Sets.{mem_dec, flatten_map_iff}
use Rattle.sets.proofs.Reach.{reach_least}
use Rattle.files.specs.Field.{label_of, pair, pair_node, pair_state}
use Rattle.files.specs.Groups.{our_groups}
use Rattle.files.specs.Part.{nodes, running}
use Rattle.files.proofs.Fields.{pair_node_lem, pair_state_lem}
use Rattle.files.proofs.Blocks.{running_iff}
use Rattle.expressions.specs.Expr.{Expr, count}
use Rattle.expressions.specs.Positions.{step, accepts, Run}
use Rattle.expressions.specs.Labels.{holds}
use Rattle.expressions.proofs.Ranges.{step_range}
use Rattle.expressions.proofs.Glushkov.{glushkov}
use Rattle.walks.specs.Product.{step_in}
use Rattle.walks.proofs.Product.{accepts_small, exits_iff, exits_running, step_iff, pair_step_iff}
use Rattle.demands.specs.Plant.{Plant, Running, Walk, stay, go, Found, body, HasEdge, Holds, TrueCut, Unwalked}

-- some walk from a root would end in the node and take the automaton from 0 to the state: all nodes before it are running, and it may be
-- stopped itself, as a sender does not know that. No link of the walk ends nowhere.
pub data Comes (p : Plant) (e : Expr) : ℕ → ℕ → Type 0 where
  begin : {r : ℕ} → p.Root r → Comes p e r 0
  link : {x a y q t : ℕ} → Comes p e x q → Running p x → p.Link x a y → p.Node y → T (step holds e q a t) → Comes p e y t

-- a walk starts at a running node, and ends at one
pub walk_start : {p : Plant} {x y : ℕ} {w : List ℕ} → Walk p x w y → Running p x
walk_start (stay n) = n
walk_start (go n l k) = n

pub walk_end : {p : Plant} {x y : ℕ} {w : List ℕ} → Walk p x w y → Running p y
walk_end (stay n) = n
walk_end (go n l k) = walk_end k

-- the walks of a plant are walks of one that has its running nodes, running, and its links between nodes
pub walk_kept : {p p' : Plant} → ((x : ℕ) → Running p x → Running p' x) → ((x a y : ℕ) → p.Node y → p.Link x a y → p'.Link x a y)
    → {x y : ℕ} {w : List ℕ} → Walk p x w y → Walk p' x w y
walk_kept runs links (stay {x = x} n) = stay (runs x n)
walk_kept runs links (go {x = x} {a = a} {y = y} n l k) = go (runs x n) (links x a y (walk_start k).0 l) (walk_kept runs links k)

module _ (p : Plant) (e : Expr) where
  pub comes_state : {x q : ℕ} → Comes p e x q → q ≤ count e
  comes_state (begin r) = omega arith
  comes_state (link {a = a} {q = q} {t = t} c n l m s) = (step_range holds e q a t s).1

  pub walk_comes : {x y q t : ℕ} {w : List ℕ} → Comes p e x q → Walk p x w y → Run holds e q w t → Comes p e y t
  walk_comes {x} c (stay n) r = subst (Comes p e x) r c
  walk_comes c (go n l k) r = walk_comes (link c n l (walk_start k).0 r.1) k r.2

  -- a walk and a run, one link longer
  walk_on : {x y z a : ℕ} {w : List ℕ} → Walk p x w y → p.Link y a z → Running p z → Walk p x (w ++ a ∷ []) z
  walk_on (stay n) l k = go n l (stay k)
  walk_on (go n m v) l k = go n m (walk_on v l k)

  run_on : (w : List ℕ) (q t a s : ℕ) → Run holds e q w t → T (step holds e t a s) → Run holds e q (w ++ a ∷ []) s
  run_on [] q t a s r k = (s, subst (λ u. T (step holds e u a s)) (sym r) k, refl)
  run_on (b ∷ w) q t a s r k = (r.0, r.1, run_on w r.0 t a s r.2 k)

  comes_walk : {x q : ℕ} → Comes p e x q → Running p x → (r : ℕ) × (w : List ℕ) × p.Root r × Walk p r w x × Run holds e 0 w q
  comes_walk (begin {r = r} k) n = (r, [], k, stay n, refl)
  comes_walk (link {a = a} {q = q} {t = t} c m l o s) n =
      let (r, w, k, v, run) = comes_walk c m in
      (r, w ++ a ∷ [], k, walk_on v l n, run_on w 0 q a t run s)

  -- the nodes found are the running ones come to in an accepting state
  pub found_iff : (x : ℕ) → Found p e x ↔ (Running p x × ((q : ℕ) × Comes p e x q × T (accepts e q)))
  found_iff x = (
    λ (r, w, k, v, m). let (q, run, t) = (glushkov holds e w).0 m in (walk_end v, (q, walk_comes (begin k) v run, t)),
    λ (n, (q, c, t)). let (r, w, k, v, run) = comes_walk c n in (r, w, k, v, (glushkov holds e w).1 (q, run, t)),
  )

  pub comes_node : {x q : ℕ} → Comes p e x q → p.Node x
  comes_node (begin {r = r} k) = p.root_node r k
  comes_node (link c n l m s) = m

-- a pair whose node is come to in its state
abbrev pub ComesTo : Plant → Expr → ℕ → Type 0
ComesTo p e c = Comes p e (pair_node c) (pair_state c)

pub pair_comes : (p : Plant) (e : Expr) (x q : ℕ) → q < 16 → ComesTo p e (pair x q) ↔ Comes p e x q
pair_comes p e x q h = rw (pair_node_lem x q h, pair_state_lem x q h) Iff.rfl

-- the edges of a part that can be taken where the plant's walks come to end at nodes of the plant
pub record Ends (p : Plant) (e : Expr) (f : List ℕ) : Type 0 where
  pub node : (x a y q t : ℕ) → Comes p e x q → Running p x → HasEdge f x a y → T (step holds e q a t) → p.Node y

-- so it is in each part of a true cut whose links that end nowhere are not walked: whether y is a node of the plant can be decided there
pub unwalked_ends : (p : Plant) (parts : List (List ℕ)) (e : Expr) → TrueCut p parts → Unwalked our_groups p parts e → (f : List ℕ) → Mem f parts → Ends p e f
unwalked_ends p parts e cut none f m = record {
  node = λ x a y q t c n h s. elim (mem_dec y (flatten (map (λ g. nodes (body g)) parts))) [
    | yes i ↦ let (g, k, j) = (flatten_map_iff (λ g. nodes (body g)) y parts).0 i in (cut.holds g k).is_node_lem y j
    | no i ↦
        let (r, w, k, v, run) = comes_walk p e c n in
        let out : p.Node y → ⊥ = λ u. let (g, l, j) = cut.every y u in i ((flatten_map_iff (λ g. nodes (body g)) y parts).1 (g, l, j)) in
        absurd (none r x a y q t w f k v run m h out s)
  ];
}

-- and only there
pub ends_unwalked : (p : Plant) (parts : List (List ℕ)) (e : Expr) → ((f : List ℕ) → Mem f parts → Ends p e f) → Unwalked our_groups p parts e
ends_unwalked p parts e ends r x a y q t w f k v run m h out s = out ((ends f m).node x a y q t (walk_comes p e (begin k) v run) (walk_end v) h s)

-- a part that holds some of the plant's nodes
module _ (p : Plant) (e : Expr) (small : count e ≤ 15) (f : List ℕ) (part : Holds p f) where
  -- the part's running nodes are the plant's
  running_is : (x : ℕ) → Mem x (running (body f)) ↔ (Mem x (nodes (body f)) × Running p x)
  running_is x =
      let i = running_iff (body f) x in (
        λ m. let (n, a) = i.0 m in (n, (part.is_node_lem x n, λ s. a (part.has_stopped x n s))),
        λ (n, r). i.1 (n, λ s. r.1 (part.is_stopped_lem x s)),
      )

  -- walks in the part from pairs come to lead to pairs come to
  pub reach_comes : Ends p e f → (seeds : List ℕ) → ((c : ℕ) → Mem c seeds → ComesTo p e c) → (c : ℕ) → Reach (step_in (body f) e) seeds c → ComesTo p e c
  reach_comes ends seeds s = reach_least (ComesTo p e) s (λ c d r k m.
      let (w, i, t, s) = (step_iff (body f) e small c d).0 m in
      let n = ((running_is (pair_node c)).0 (exits_running (body f) (pair_node c) w i)).1 in
      let h : HasEdge f (pair_node c) (label_of w) (pair_node d) = (w, ((exits_iff (body f) (pair_node c) w).0 i).0, refl, t) in
      let o = ends.node (pair_node c) (label_of w) (pair_node d) (pair_state c) (pair_state d) k n h s in
      link k n (part.is_link (pair_node c) (label_of w) (pair_node d) h o) o s)

  -- an edge of the part from a running node is a step, and so is a link of the plant between its nodes
  pub edge_step : {x a y q : ℕ} (t : ℕ) → Comes p e x q → Running p x → HasEdge f x a y → T (step holds e q a t) → Mem (pair y t) (step_in (body f) e (pair x q))
  edge_step {x} {a} {y} {q} t c n (w, k, i, j) s =
      (pair_step_iff (body f) e small x q y t (omega (arith, comes_state p e c)) (omega (arith, step_range holds e q a t s))).1
      (w, (exits_iff (body f) x w).1 (k, λ u. n.1 (part.is_stopped_lem x u)), j, rw i s)

  pub link_step : {x a y q : ℕ} (t : ℕ) → Comes p e x q → Mem x (nodes (body f)) → Running p x → p.Link x a y → p.Node y → T (step holds e q a t)
      → Mem (pair y t) (step_in (body f) e (pair x q))
  link_step {x} {a} {y} t c m n l o s = edge_step t c n (part.has_link x a y m l o) s

  -- where walks in the part from seeds come to reach all that is come to at its node x, they reach x, running, in an accepting state just if
  -- x is found
  pub found_reach : Ends p e f → (seeds : List ℕ) (x : ℕ) → ((c : ℕ) → Mem c seeds → ComesTo p e c)
      → (Mem x (nodes (body f)) → (q : ℕ) → Comes p e x q → Reach (step_in (body f) e) seeds (pair x q))
      → (Mem x (running (body f)) × ((q : ℕ) × Reach (step_in (body f) e) seeds (pair x q) × T (accepts e q)))
      ↔ (Mem x (nodes (body f)) × Found p e x)
  found_reach ends seeds x sound complete = (
    λ (m, (q, r, t)).
        let h : q < 16 = omega (arith, accepts_small e q t) in
        let (n, k) = (running_is x).0 m in
        (n, (found_iff p e x).1 (k, (q, (pair_comes p e x q h).0 (reach_comes ends seeds sound (pair x q) r), t))),
    λ (n, f). let (k, (q, c, t)) = (found_iff p e x).0 f in ((running_is x).1 (n, k), (q, complete n q c, t)),
  )
