-- Believed. How long a first reply is at most, and that the dearest part and path have one as long. Document 02, request 13. D is the number of
-- doors, T that of outside targets, n that of labels.
use Rattle.std.specs.Prelude.{ℕ, ◌+◌, ◌*◌, ◌≤◌, ◌<◌, ◌≡◌, List, [], map, length, get_or, drop}
use Rattle.files.specs.Word.{words, bytes_of}
use Rattle.files.specs.Field.{site_of, labels_of, edge_word}
use Rattle.files.specs.Outcome.{accepted, refused}
use Rattle.sets.specs.Sets.{span}
use Rattle.files.specs.Part.{part_check, nodes, roots, doors, edges, outside}
use Rattle.files.specs.Path.{path_check}
use Rattle.files.specs.Groups.{groups_check, loaded}
use Rattle.first_replies.specs.FirstReply.{IsFirstReply}
use Rattle.site_first.specs.First.{first_reply_call}
use Rattle.dearest.specs.Dearest.{dear_part, dear_path, counts_check}

-- 1 + D × (1 + (n + 1) × (1 + T × n)) words
abbrev pub longest : ℕ → ℕ → ℕ → ℕ
longest D T n = 1 + D * (1 + (n + 1) * (1 + T * n))

-- an accepted part with D doors and T outside targets
pub record PartOf (D T : ℕ) (part : List ℕ) : Type 0 where
  pub checked : part_check part ≡ 0
  pub doors_are : length (doors (drop 1 part)) ≡ D
  pub outside_are : length (outside (drop 1 part)) ≡ T

-- an accepted path of n labels, of any sort
pub record PathOf (n : ℕ) (path : List ℕ) : Type 0 where
  pub checked : path_check path ≡ 0
  pub labels_are : labels_of (get_or path 0 0) ≡ n

-- "no part with D doors and T outside targets has a longer reply for any path of n labels": the first reply that a site owes, in document 01's
-- words, however long it is; and with any groups loaded
pub record Bound : Type 0 where
  pub plain : {D T n : ℕ} (part path f : List ℕ) → PartOf D T part → PathOf n path → IsFirstReply part path f → length f ≤ longest D T n
  pub grouped : {D T n : ℕ} (part groups path f : List ℕ) → PartOf D T part → groups_check groups ≡ 0 → PathOf n path
      → IsFirstReply part (loaded (words groups) path) f → length f ≤ longest D T n

-- what the dearest part and path are, for D, T and n
pub record Dearest (D T n : ℕ) : Type 0 where
  -- both are accepted: D doors, T outside targets, n labels
  pub part_of : PartOf D T (dear_part D T)
  pub path_of : PathOf n (dear_path n)
  -- "a part of site 0, without root, with nodes 0 to D − 1 as doors, each linked with label 0 to the T nodes after them"; these are outside
  pub site : site_of (get_or (dear_part D T) 0 0) ≡ 0
  pub no_root : roots (drop 1 (dear_part D T)) ≡ []
  pub all_nodes : nodes (drop 1 (dear_part D T)) ≡ span 0 D
  pub all_doors : doors (drop 1 (dear_part D T)) ≡ span 0 D
  pub all_links : (x : ℕ) → x < D → edges (drop 1 (dear_part D T)) x ≡ map (edge_word 0) (span D T)
  pub all_outside : outside (drop 1 (dear_part D T)) ≡ span D T
  -- a reply is owed for just these two files, and it has the bound's length
  pub reply : List ℕ
  pub is_reply : IsFirstReply (dear_part D T) (dear_path n) reply
  pub owed : (f : List ℕ) → IsFirstReply (dear_part D T) (dear_path n) f → length f ≡ longest D T n
  -- so the first reply call on just their bytes, with buffers of any sufficient length, gives it; or refuses with 15 where that is over 4,096
  pub given : (out work : ℕ) → 16384 ≤ out → 32768 ≤ work → longest D T n ≤ 4096
      → first_reply_call out work (bytes_of (dear_part D T)) (bytes_of (dear_path n)) ≡ accepted reply
  pub over : (out work : ℕ) → 16384 ≤ out → 32768 ≤ work → 4096 < longest D T n
      → first_reply_call out work (bytes_of (dear_part D T)) (bytes_of (dear_path n)) ≡ refused 15

-- the request: for all counts that are not refused with 21, and the bound, which they so reach
pub record Request13 : Type 0 where
  pub dearest : (D T n : ℕ) → counts_check D T n ≡ 0 → Dearest D T n
  pub bound : Bound
