-- Believed. A plant, its walks, demand 2's list, and what it is to cut a plant into parts. Document 01, "Plant", "Cutter", "The whole question".
use Rattle.std.specs.Prelude.{ℕ, ◌^◌, ◌≤◌, ◌<◌, ◌≡◌, List, [], ◌∷◌, map, T, length, drop, get_or}
use Rattle.sets.specs.Sets.{Mem, Distinct, Lists}
use Rattle.files.specs.Field.{site_of, label_of, target_of, file, answer_word}
use Rattle.files.specs.Groups.{our_groups}
use Rattle.files.specs.Part.{nodes, roots, doors, stopped, edges, part_check, whole_check}
use Rattle.expressions.specs.Expr.{Expr, Matches}
use Rattle.expressions.specs.Positions.{step, Run}
use Rattle.expressions.specs.Labels.{holds_by}

-- Document 01's "plant": a set of nodes, with roots among them, and for each node a set of links; a link is a label and a target. Some of its
-- nodes are stopped (document 02, request 7). Sets are predicates: no file, and no bound on its size.
pub record Plant : Type 1 where
  pub Node : ℕ → Type 0
  pub Root : ℕ → Type 0
  pub Stopped : ℕ → Type 0
  pub Link : ℕ → ℕ → ℕ → Type 0
  pub root_node : (x : ℕ) → Root x → Node x
  pub stopped_node : (x : ℕ) → Stopped x → Node x
  pub link_node : (x a y : ℕ) → Link x a y → Node x

-- a node that is not stopped
abbrev pub Running : Plant → ℕ → Type 0
Running p x = p.Node x × (p.Stopped x → ⊥)

-- Document 01's "walk": it starts at a node and takes zero or more links, each from the node where the last one ended; it spells their
-- labels in order. Document 02: it may not enter or start at a stopped node, so each of its nodes is running, its first and its last too.
pub data Walk (p : Plant) : ℕ → List ℕ → ℕ → Type 0 where
  stay : {x : ℕ} → Running p x → Walk p x [] x
  go : {x a y z : ℕ} {w : List ℕ} → Running p x → p.Link x a y → Walk p y w z → Walk p x (a ∷ w) z

-- some walk from a root to x spells a word of the expression, textbook meaning, where word g of the groups stands for group g
abbrev pub FoundBy : List ℕ → Plant → Expr → ℕ → Type 0
FoundBy groups p e x = (r : ℕ) × (w : List ℕ) × p.Root r × Walk p r w x × Matches (holds_by groups) e w

-- "Demand 2's list": the nodes to which a walk from the root spells a word of the path's expression, ascending, each once, written as a final
-- list
abbrev pub FinalListBy : List ℕ → Plant → Expr → List ℕ → Type 0
FinalListBy groups p e ws = (xs : List ℕ) × Lists (FoundBy groups p e) xs × (ws ≡ file 15 0 0 (map answer_word xs))

-- with our own groups
abbrev pub Found : Plant → Expr → ℕ → Type 0
Found p e x = FoundBy our_groups p e x

abbrev pub FinalList : Plant → Expr → List ℕ → Type 0
FinalList p e ws = FinalListBy our_groups p e ws

-- one root
pub record OneRoot (p : Plant) : Type 0 where
  pub root : ℕ
  pub is : p.Root root
  pub only : (x : ℕ) → p.Root x → x ≡ root

-- no link ends nowhere: each target is a node of the plant
abbrev pub Closed : Plant → Type 0
Closed p = (x a y : ℕ) → p.Link x a y → p.Node y

-- the words of a part after its header
abbrev pub body : List ℕ → List ℕ
body f = drop 1 f

-- the part's node x has an edge with label a and target y
abbrev pub HasEdge : List ℕ → ℕ → ℕ → ℕ → Type 0
HasEdge f x a y = (w : ℕ) × Mem w (edges (body f) x) × (label_of w ≡ a) × (target_of w ≡ y)

-- the part's nodes are nodes of the plant, each with just its links; the plant's root, and no other node, is marked as root; and just the
-- plant's stopped nodes are marked as stopped. Links that end nowhere, whose target is no node of the plant, are left out on both sides
-- (document 02, request 5): the plant's need not stand in the part, and the part's need not be the plant's.
pub record Holds (p : Plant) (f : List ℕ) : Type 0 where
  pub is_node_lem : (x : ℕ) → Mem x (nodes (body f)) → p.Node x
  pub has_link : (x a y : ℕ) → Mem x (nodes (body f)) → p.Link x a y → p.Node y → HasEdge f x a y
  pub is_link : (x a y : ℕ) → HasEdge f x a y → p.Node y → p.Link x a y
  pub has_root : (x : ℕ) → Mem x (nodes (body f)) → p.Root x → Mem x (roots (body f))
  pub is_root_lem : (x : ℕ) → Mem x (roots (body f)) → p.Root x
  pub has_stopped : (x : ℕ) → Mem x (nodes (body f)) → p.Stopped x → Mem x (stopped (body f))
  pub is_stopped_lem : (x : ℕ) → Mem x (stopped (body f)) → p.Stopped x

-- words of 32 bits
abbrev pub Words : List ℕ → Type 0
Words f = (w : ℕ) → Mem w f → w < 2 ^ 32

-- a part that the reader accepts, by its words
abbrev pub AcceptedPart : List ℕ → Type 0
AcceptedPart f = Words f × (length f ≤ 4096) × (part_check f ≡ 0)

-- Document 01's "true cut", links that end nowhere left out: parts with different sites; each node with its edges in exactly one, and no other
-- node or edge in any; the root, and no other node, marked as root in its part; the stopped nodes, and no others, marked as stopped; each target
-- of an edge from another part marked as a door. Further doors may be marked.
pub record TrueCut (p : Plant) (parts : List (List ℕ)) : Type 0 where
  pub part : (f : List ℕ) → Mem f parts → AcceptedPart f
  pub holds : (f : List ℕ) → Mem f parts → Holds p f
  pub sites : Distinct (map (λ f. site_of (get_or f 0 0)) parts)
  pub every : (x : ℕ) → p.Node x → (f : List ℕ) × Mem f parts × Mem x (nodes (body f))
  pub once : (x : ℕ) (f g : List ℕ) → Mem f parts → Mem g parts → Mem x (nodes (body f)) → Mem x (nodes (body g)) → f ≡ g
  pub crossed : (x a y : ℕ) (f g : List ℕ) → Mem f parts → Mem g parts → (f ≡ g → ⊥)
      → HasEdge f x a y → Mem y (nodes (body g)) → Mem y (doors (body g))

-- Document 02, request 5: "no walk on which the path's states can step from the root uses" a link that ends nowhere. The parts are taken as they
-- stand, with the links that end nowhere in them: where a walk from a root takes the automaton to q, no edge of a part from there whose target is
-- no node of the plant has a label on which q steps, to whatever state. Word g of the groups stands for group g.
abbrev pub Unwalked : List ℕ → Plant → List (List ℕ) → Expr → Type 0
Unwalked groups p parts e =
    (r x a y q t : ℕ) (w f : List ℕ) → p.Root r → Walk p r w x → Run (holds_by groups) e 0 w q
    → Mem f parts → HasEdge f x a y → (p.Node y → ⊥) → T (step (holds_by groups) e q a t) → ⊥

-- the plant "fits one file": the whole file f holds exactly its nodes, links, root and stopped nodes; a whole has no link that ends nowhere, and
-- the plant's are left out
pub record Fits (p : Plant) (f : List ℕ) : Type 0 where
  pub word : Words f
  pub small : length f ≤ 4096
  pub whole : whole_check f ≡ 0
  pub holds : Holds p f
  pub every : (x : ℕ) → p.Node x → Mem x (nodes (body f))
