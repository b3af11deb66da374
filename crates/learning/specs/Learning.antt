-- Believed. What a hub may learn of a part: parts of one site that no reply tells apart. Document 02, request 12.
use Rattle.std.specs.Prelude.{ℕ, ◌≡◌, ◌↔◌, ◌&&◌, List, map, eqb, get_or, drop}
use Rattle.sets.specs.Sets.{Mem, filter, member}
use Rattle.sets.specs.Reach.{Reach}
use Rattle.files.specs.Word.{words}
use Rattle.files.specs.Field.{kind_of, site_of, node_of, target_of, pair_of, pair_node}
use Rattle.files.specs.Limits.{part_words}
use Rattle.files.specs.Refuse.{size_check}
use Rattle.files.specs.Part.{is_node, nodes, doors, edges, part_check}
use Rattle.four_replies.specs.Four.{four_replies_call, four_replies_grouped_call}
use Rattle.eight_replies.specs.Eight.{eight_replies_call, eight_replies_grouped_call}
use Rattle.demands.specs.Grouped.{Groups, first_call, second_call}

-- the nodes of the part that the edges of x lead to, whatever their labels; stopped ones too, and from a stopped one on. A part is given by its
-- words after the header.
abbrev pub linked : List ℕ → ℕ → List ℕ
linked part x = filter (λ t. member t (nodes part)) (map target_of (edges part x))

-- "reached from the doors by any labels, through stopped nodes too": the least set of the part's nodes that holds its doors and is closed under its
-- edges
abbrev pub Reached : List ℕ → ℕ → Type 0
Reached part x = Reach (linked part) (doors part) x

-- the node word of x, by itself in a list if the part is accepted and has the node
abbrev pub node_words : List ℕ → ℕ → List ℕ
node_words part x = filter (λ w. is_node w && eqb (node_of w) x) part

-- "parts of the same site whose nodes reached from the doors are the same, with the same words": f and g by all their words
pub record Alike (f g : List ℕ) : Type 0 where
  pub site : site_of (get_or f 0 0) ≡ site_of (get_or g 0 0)
  pub reached : (x : ℕ) → Reached (drop 1 f) x ↔ Reached (drop 1 g) x
  pub node_word_lem : (x : ℕ) → Reached (drop 1 f) x → node_words (drop 1 f) x ≡ node_words (drop 1 g) x
  pub edge_words : (x : ℕ) → Reached (drop 1 f) x → edges (drop 1 f) x ≡ edges (drop 1 g) x

-- two such parts, by their bytes, both accepted
pub record TwoParts (part part' : List ℕ) : Type 0 where
  pub sized : size_check part_words part ≡ 0
  pub sized' : size_check part_words part' ≡ 0
  pub read : part_check (words part) ≡ 0
  pub read' : part_check (words part') ≡ 0
  pub alike : Alike (words part) (words part')

-- "names no node of the part unreached from its doors": no call word of the list does; by the words of part and list. Words of other kinds, for which
-- a list is refused, may stand in it.
abbrev pub NamesReached : List ℕ → List ℕ → Type 0
NamesReached part calls =
    (w : ℕ) → Mem w (drop 1 calls) → kind_of w ≡ 12 → Mem (pair_node (pair_of w)) (nodes (drop 1 part)) → Reached (drop 1 part) (pair_node (pair_of w))

-- What a hub may learn: both replies of two such parts are the same, number included, with buffers of the same lengths, for all bytes of a path, with
-- our groups or with any bytes for the customer's, refused ones too; the second reply for all bytes of a call list that names no node of either part
-- unreached from its doors. And so is what a visit leaves, all numbers and outputs, and what desks share, for all bytes of a bundle of paths.
pub record Learning : Type 0 where
  pub first : (part part' : List ℕ) → TwoParts part part'
      → (groups : Groups) (path : List ℕ) (out work : ℕ) → first_call groups out work part path ≡ first_call groups out work part' path
  pub second : (part part' : List ℕ) → TwoParts part part'
      → (groups : Groups) (path calls : List ℕ) → NamesReached (words part) (words calls) → NamesReached (words part') (words calls)
      → (out work : ℕ) → second_call groups out work part path calls ≡ second_call groups out work part' path calls
  pub visit : (part part' : List ℕ) → TwoParts part part' → (paths ns : List ℕ) (m : ℕ) → four_replies_call ns m part paths ≡ four_replies_call ns m part' paths
  pub visit_grouped : (part part' : List ℕ) → TwoParts part part'
      → (groups paths ns : List ℕ) (m : ℕ) → four_replies_grouped_call ns m part groups paths ≡ four_replies_grouped_call ns m part' groups paths
  pub desks : (part part' : List ℕ) → TwoParts part part' → (paths : List ℕ) (n m : ℕ) → eight_replies_call n m part paths ≡ eight_replies_call n m part' paths
  pub desks_grouped : (part part' : List ℕ) → TwoParts part part'
      → (groups paths : List ℕ) (n m : ℕ) → eight_replies_grouped_call n m part groups paths ≡ eight_replies_grouped_call n m part' groups paths
