-- Believed. What is promised of the triple edition: what the two calls make of any bytes, with any buffers, and what each makes of the other's result.
-- Document 02, request 8.
use Rattle.std.specs.Prelude.{ℕ, ◌+◌, ◌*◌, ◌≤◌, ◌<◌, ◌≡◌, ◌↔◌, ◌⊎◌, List, [], ◌∷◌, leb, length, get_or, drop}
use Rattle.sets.specs.Sets.{Mem, Same, Distinct, Lists}
pub use Rattle.files.specs.Word.{Bytes}
use Rattle.files.specs.Word.{words, bytes_of}
use Rattle.files.specs.Field.{site_of}
use Rattle.files.specs.Refuse.{◌then◌, ◌unless◌, room_check, size_check}
use Rattle.files.specs.Outcome.{Outcome, refused, accepted, leaves}
use Rattle.files.specs.Part.{whole_check, nodes, roots, doors, stopped, edges}
use Rattle.files.specs.Path.{path_check}
use Rattle.files.specs.Groups.{groups_check}
use Rattle.old.specs.Old.{old_search_call, old_search_grouped_call}
use Rattle.triples.specs.Triple.{Triple, triple, root_word, triples_in, triples_check, keys_in, IsEnd, HasEdge, HasLink, IsWholeOf, words_of, say_check, plain}
use Rattle.from_triples.specs.From.{from_call}
use Rattle.to_triples.specs.To.{to_call, leaves_counted}

-- a triple file that is read: not 2, not 18
pub record IsTriples (s : List ℕ) : Type 0 where
  pub size : size_check 12286 s ≡ 0
  pub fields : triples_check (words s) ≡ 0

-- "sorted by source, label, target", each once
abbrev pub Before : Triple → Triple → Type 0
Before t u = (t.source < u.source) ⊎ ((t.source ≡ u.source) × ((t.label < u.label) ⊎ ((t.label ≡ u.label) × (t.target < u.target))))

abbrev pub Sorted : List Triple → Type 0
Sorted [] = Unit {0}
Sorted (t ∷ ts) = ((u : Triple) → Mem u ts → Before t u) × Sorted ts

-- the words of a root and sorted triples, and no more
pub record InOrder (ws : List ℕ) : Type 0 where
  pub sorted : Sorted (triples_in ws)
  pub all : length ws ≡ 1 + 3 * length (triples_in ws)

-- ws are the triples of the whole f
pub record IsTriplesOf (f ws : List ℕ) : Type 0 where
  pub root : roots (drop 1 f) ≡ root_word ws ∷ []
  pub links : (x a y : ℕ) → Mem (triple x a y) (triples_in ws) ↔ HasEdge f x a y
  pub order : InOrder ws

-- vs are the triples of ws, sorted, each once
pub record IsSetOf (ws vs : List ℕ) : Type 0 where
  pub root : root_word vs ≡ root_word ws
  pub same : Same (triples_in vs) (triples_in ws)
  pub order : InOrder vs

abbrev pub sorted_set : List ℕ → List ℕ
sorted_set ws = root_word ws ∷ words_of (keys_in ws)

-- what triples can say: no node of the whole f is stopped, and none but the root is "with no link in or out"
pub record CanSay (f : List ℕ) : Type 0 where
  pub none_stopped : stopped (drop 1 f) ≡ []
  pub linked : (x : ℕ) → Mem x (nodes (drop 1 f)) → Mem x (roots (drop 1 f)) ⊎ HasLink f x

-- "the same whole file with site 0 and only the root as door": g is that of f
pub record IsPlainOf (f g : List ℕ) : Type 0 where
  pub whole : whole_check g ≡ 0
  pub site : site_of (get_or g 0 0) ≡ 0
  pub same_nodes : nodes (drop 1 g) ≡ nodes (drop 1 f)
  pub same_root : roots (drop 1 g) ≡ roots (drop 1 f)
  pub only_door : doors (drop 1 g) ≡ roots (drop 1 f)
  pub same_stopped : stopped (drop 1 g) ≡ stopped (drop 1 f)
  pub same_edges : (x : ℕ) → Mem x (nodes (drop 1 f)) → edges (drop 1 g) x ≡ edges (drop 1 f) x

-- the words of a whole of nodes xs and links us: a header, one for each node, one for each link
abbrev pub whole_words : List ℕ → List Triple → ℕ
whole_words xs us = 1 + length xs + length us

-- "their count of words .. (0 on a refusal)"
abbrev pub count_of : Outcome → ℕ
count_of (refused k) = 0
count_of (accepted ws) = length ws

pub record Request8 : Type 1 where
  -- From triples. With number 0 the result is the whole file of the root and the triples
  pub from_given : (out work : ℕ) (s : List ℕ) → (leaves (from_call out work s) out work).number ≡ 0
      → (f : List ℕ) × (from_call out work s ≡ accepted f) × IsWholeOf (root_word (words s)) (triples_in (words s)) f
  -- and any other number is that of buffers, 2, 18, or 15 where a whole of all ends xs and all triples us, each once, is over 4,096 words
  pub from_number : (out work : ℕ) (s xs : List ℕ) (us : List Triple)
      → Lists (IsEnd (root_word (words s)) (triples_in (words s))) xs → Distinct us → Same us (triples_in (words s))
      → (leaves (from_call out work s) out work).number
      ≡ (room_check 4096 out work then size_check 12286 s then triples_check (words s) then 15 unless leb (whole_words xs us) 4096)
  -- nothing of the file is left free; "in any order, with repeats": the same root and the same triples give the same
  pub one_whole : (root : ℕ) (ts : List Triple) (f g : List ℕ) → IsWholeOf root ts f → IsWholeOf root ts g → f ≡ g
  pub same_whole : (out work : ℕ) (s s' : List ℕ) → IsTriples s → IsTriples s' → root_word (words s) ≡ root_word (words s')
      → Same (triples_in (words s)) (triples_in (words s')) → from_call out work s ≡ from_call out work s'
  -- the old search takes it: for all bytes of a path and all buffers, what it refuses is a buffer or the path; with the customer's groups, these too
  pub old_search_lem : (out work : ℕ) (s f : List ℕ) → from_call out work s ≡ accepted f → (path : List ℕ) (n m : ℕ)
      → (leaves (old_search_call n m (bytes_of f) path) n m).number ≡ (room_check 8192 n m then size_check 64 path then path_check (words path))
  pub old_search_grouped_lem : (out work : ℕ) (s f : List ℕ) → from_call out work s ≡ accepted f → (groups path : List ℕ) (n m : ℕ)
      → (leaves (old_search_grouped_call n m (bytes_of f) groups path) n m).number
      ≡ (room_check 8192 n m then groups_check groups then size_check 64 path then path_check (words path))
  -- Back. With number 0 the result is the whole's triples; any other number is that of buffers, the whole or 19, and never 15
  pub to_given : (out work : ℕ) (s : List ℕ) → Bytes s → (leaves (to_call out work s) out work).number ≡ 0
      → (ws : List ℕ) × (to_call out work s ≡ accepted ws) × IsTriplesOf (words s) ws
  pub to_number : (out work : ℕ) (s : List ℕ)
      → (leaves (to_call out work s) out work).number ≡ (room_check 12286 out work then size_check 4096 s then whole_check (words s) then say_check (words s))
  pub nineteen : (f : List ℕ) → whole_check f ≡ 0 → (say_check f ≡ 0) ↔ CanSay f
  pub counted : (out work : ℕ) (s : List ℕ) → (leaves_counted out work s).lent ≡ count_of (to_call out work s)
  -- Back and forth, with buffers of any sufficient length: "reading them again gives the same whole file"; and triples come back sorted, each once
  pub from_to : (out work : ℕ) (s ws : List ℕ) → Bytes s → to_call out work s ≡ accepted ws → (n m : ℕ) → 16384 ≤ n → 32768 ≤ m
      → (from_call n m (bytes_of ws) ≡ accepted (plain (words s))) × IsPlainOf (words s) (plain (words s))
  pub to_from : (out work : ℕ) (s f : List ℕ) → from_call out work s ≡ accepted f → (n m : ℕ) → 49144 ≤ n → 32768 ≤ m
      → (to_call n m (bytes_of f) ≡ accepted (sorted_set (words s))) × IsSetOf (words s) (sorted_set (words s))
