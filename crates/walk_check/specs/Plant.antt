-- Inner. Where a walk stands in a whole: at the edge words of a running node, which are at the front of some words.
use Rattle.std.specs.Prelude.{◌≡◌, ◌&&◌, Option, is_some, IfSome, List, ℕ, drop}
use Rattle.sets.specs.Sets.{member}
use Rattle.files.specs.declared.word.Words.{Words}
use Rattle.files.specs.Read.{left_of}
use Rattle.files.specs.Field.{target_of}
use Rattle.files.specs.Part as part
use Rattle.files.specs.Part.{front}
use Rattle.file_walks.specs.Walks.{runs_in}

-- r begins with the edge words of the node x; there is none just if x does not run
pub record Begins (ws : List ℕ) (x : ℕ) (r : Option Words) : Type 0 where
  pub runs : is_some r ≡ runs_in (drop 1 ws) x
  pub edges : IfSome r (λ at. part.edges (drop 1 ws) x ≡ front (left_of at))

-- the word w is one of the edge words at the front of `at`, and r begins with those of its target; there is none just if w is none of them or the
-- target does not run
pub record Enters (ws at : List ℕ) (w : ℕ) (r : Option Words) : Type 0 where
  pub runs : is_some r ≡ (member w (front at) && runs_in (drop 1 ws) (target_of w))
  pub edges : IfSome r (λ at. part.edges (drop 1 ws) (target_of w) ≡ front (left_of at))
