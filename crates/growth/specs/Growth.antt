-- Believed. What a new link, or another path beside the first, may do to the final list. Document 02, request 12.
use Rattle.std.specs.Prelude.{ℕ, ◌≡◌, ◌↔◌, ◌⊎◌, List, [], ◌∷◌, ◌++◌, map, drop}
use Rattle.sets.specs.Sets.{Perm, ◌⊆◌}
use Rattle.files.specs.Word.{words, bytes_of}
use Rattle.files.specs.Outcome.{accepted}
use Rattle.files.specs.Answers.{answers_of}
use Rattle.demands.specs.Plant.{Plant, Fits}
use Rattle.demands.specs.Grouped.{Groups, AcceptedGroups, old_call}
use Rattle.demands.specs.Question.{Room, Answer, going, ask}
use Rattle.demands.specs.Demand.{Asked, AcceptedPath}

-- "A link added between two nodes of a plant, none of them newly stopped": p' is p with such a link. Nodes may be started. Links that end nowhere are
-- left out, as in a true cut.
pub record OneMore (p p' : Plant) : Type 0 where
  pub from : ℕ
  pub label : ℕ
  pub to : ℕ
  pub from_node : p.Node from
  pub to_node : p.Node to
  pub nodes : (x : ℕ) → p.Node x ↔ p'.Node x
  pub roots : (x : ℕ) → p.Root x ↔ p'.Root x
  pub stopped : (x : ℕ) → p'.Stopped x → p.Stopped x
  pub links : (x a y : ℕ) → p.Node y → p'.Link x a y ↔ (p.Link x a y ⊎ ((x ≡ from) × (a ≡ label) × (y ≡ to)))

-- p' has all that p has, and perhaps more: any number of links and of nodes
pub record Grown (p p' : Plant) : Type 0 where
  pub nodes : (x : ℕ) → p.Node x → p'.Node x
  pub roots : (x : ℕ) → p.Root x → p'.Root x
  pub stopped : (x : ℕ) → p.Node x → p'.Stopped x → p.Stopped x
  pub links : (x a y : ℕ) → p.Node y → p.Link x a y → p'.Link x a y

-- the operator word of an or
abbrev pub or_word : ℕ
or_word = 0x60000002

-- "that path or another": the words of path' after its header are those of the one, those of the other, and an or
abbrev pub Either : List ℕ → List ℕ → List ℕ → Type 0
Either path other path' = drop 1 path' ≡ drop 1 path ++ (drop 1 other ++ (or_word ∷ []))

-- a run of the whole question that no call refuses: the sites in two orders, each once, whatever the buffers, and what it ends with
pub record Ended (q : Asked) : Type 0 where
  pub order : List (List ℕ)
  pub order' : List (List ℕ)
  pub once : Perm order q.parts
  pub once' : Perm order' q.parts
  pub room : Room
  pub answer : Answer
  pub run : ask q.groups room (bytes_of q.path) (map bytes_of order) (map bytes_of order') ≡ going answer

-- the nodes of a final list
abbrev pub listed_in : List ℕ → List ℕ
listed_in f = answers_of (drop 1 f)

-- A search of a plant by a path, with some groups, that is not refused, and the nodes that it lists: a run of the whole question, or the old search of a
-- file that the plant fits
pub data Search : Groups → Plant → List ℕ → List ℕ → Type 1 where
  split : (q : Asked) (r : Ended q) → Search q.groups q.plant q.path (listed_in (words r.answer.final))
  old : (groups : Groups) (p : Plant) (path whole f : List ℕ) (n m : ℕ) → AcceptedGroups groups → AcceptedPath path → Fits p whole
      → old_call groups n m (bytes_of whole) (bytes_of path) ≡ accepted f → Search groups p path (listed_in f)

-- Neither takes a node off the final list, so long as neither search is refused: of two runs of the whole question, with any true cuts, orders and
-- buffers of each, of the old search, and of the one beside the other. Nor do several links and nodes more.
pub record Growth : Type 1 where
  pub link : (groups : Groups) (p p' : Plant) (path xs ys : List ℕ) → OneMore p p' → Search groups p path xs → Search groups p' path ys → xs ⊆ ys
  pub path : (groups : Groups) (p : Plant) (path other path' xs ys : List ℕ) → AcceptedPath other → Either path other path'
      → Search groups p path xs → Search groups p path' ys → xs ⊆ ys
  pub several : (groups : Groups) (p p' : Plant) (path xs ys : List ℕ) → Grown p p' → Search groups p path xs → Search groups p' path ys → xs ⊆ ys
