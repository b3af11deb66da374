-- Believed. Walks of a whole file by its edge words: which of them a path accepts, which of these is the best, and the file of a walk. Document 02,
-- request 10. A relation over the file and the textbook meaning of the expression; no automaton and no search stands here.
-- `holds` says which labels a label word holds, `runs` which nodes a walk may start at and enter.
use Rattle.std.specs.Prelude.{◌≡◌, ◌⊎◌, Bool, List, [], ◌∷◌, map, ℕ, ◌≤◌, ◌<◌, T, length, drop}
use Rattle.sets.specs.Sets.{Mem, member}
use Rattle.files.specs.Word.{bytes_of}
use Rattle.files.specs.Field.{label_of, target_of, file}
use Rattle.files.specs.Part.{edges, roots, running}
use Rattle.files.specs.Limits.{walk_words}
use Rattle.expressions.specs.Expr.{Expr, Matches}
use Rattle.expressions.specs.Labels.{holds_by, expr_of}

-- the edge words, one after another, lead from x to y: each is an edge of the node where the last one ended, and enters a running node
abbrev pub Along : (ℕ → Bool) → List ℕ → ℕ → List ℕ → ℕ → Type 0
Along runs body x [] y = x ≡ y
Along runs body x (w ∷ ws) y = Mem w (edges body x) × T (runs (target_of w)) × Along runs body (target_of w) ws y

-- at the first difference the first list has the lower word
abbrev pub Lower : List ℕ → List ℕ → Type 0
Lower [] ws = ⊥
Lower (v ∷ vs) [] = ⊥
Lower (v ∷ vs) (w ∷ ws) = (v < w) ⊎ ((v ≡ w) × Lower vs ws)

module _ (holds : ℕ → ℕ → Bool) (runs : ℕ → Bool) (body : List ℕ) (e : Expr) (y : ℕ) where
  -- "a walk from the root to the node, by edges of the file, that the path accepts": its labels spell a word of the expression
  pub record Accepted (ws : List ℕ) : Type 0 where
    pub root : ℕ
    pub is_root_lem : Mem root (roots body)
    pub starts : T (runs root)
    pub along : Along runs body root ws y
    pub word : Matches holds e (map label_of ws)

  -- "one with the fewest links, and of those the one with the lower edge word at the first difference": none accepted is shorter, and none as short is
  -- lower
  pub record Best (ws : List ℕ) : Type 0 where
    pub accepted : Accepted ws
    pub shortest : (vs : List ℕ) → Accepted vs → length ws ≤ length vs
    pub lowest : (vs : List ℕ) → Accepted vs → length vs ≡ length ws → Lower vs ws → ⊥

-- the running nodes of a file's words behind its header
abbrev pub runs_in : List ℕ → ℕ → Bool
runs_in body x = member x (running body)

-- Of the words of a whole file and a path, where word g of the groups stands for group g: the edge words are an accepted walk to y; they are the best
abbrev pub IsWalkBy : List ℕ → List ℕ → List ℕ → ℕ → List ℕ → Type 0
IsWalkBy groups whole path y ws = Accepted (holds_by groups) (runs_in (drop 1 whole)) (drop 1 whole) (expr_of (drop 1 path)) y ws

abbrev pub IsBestBy : List ℕ → List ℕ → List ℕ → ℕ → List ℕ → Type 0
IsBestBy groups whole path y ws = Best (holds_by groups) (runs_in (drop 1 whole)) (drop 1 whole) (expr_of (drop 1 path)) y ws

-- "a kind 0 header with the length, then the edge words"
abbrev pub walk_file : List ℕ → List ℕ
walk_file ws = file 0 0 0 ws

-- "words in that layout are a walk from the root to the node, by edges of the file, that the path accepts, in at most 4,096 words", of any bytes
pub record WalkBytes (groups whole path : List ℕ) (y : ℕ) (walk : List ℕ) : Type 0 where
  pub links : List ℕ
  pub layout : walk ≡ bytes_of (walk_file links)
  pub few : length (walk_file links) ≤ walk_words
  pub accepted : IsWalkBy groups whole path y links
