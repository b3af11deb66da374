-- Believed. What is promised of a visit. Document 02, request 6.
use Rattle.std.specs.Prelude.{ℕ, ◌/◌, ◌≤◌, ◌<◌, ◌≡◌, ◌↔◌, List, [], length, get_or}
use Rattle.files.specs.Outcome.{Outcome, zeros, leaves}
use Rattle.path_bundles.specs.Split.{IsSplit, split, split_check}
use Rattle.path_bundles.specs.Packed.{byte_at, LeftSeveral}
use Rattle.site_first.specs.First.{first_reply_call, first_reply_grouped_call}
use Rattle.visits.specs.Whole.{shortest, whole_number, whole_grouped_number}
use Rattle.four_replies.specs.Four.{visit_paths, four_replies_call, four_replies_grouped_call}

-- what a visit leaves at an output: number and bytes
pub record At (l : LeftSeveral) (i number : ℕ) (output : List ℕ) : Type 0 where
  pub number_is : byte_at i l.numbers ≡ number
  pub output_is : get_or l.outputs i [] ≡ output

-- "Each has the words and the number that one call would give": l is left by a visit with outputs of ns and a working buffer of m bytes, whose
-- whole has this number, where `reply n path` is what the call for one path answers with an output of n bytes
pub record IsVisit (number : ℕ) (reply : ℕ → List ℕ → Outcome) (ns : List ℕ) (m : ℕ) (paths : List (List ℕ)) (l : LeftSeveral) : Type 0 where
  pub path : number ≡ 0 → (i : ℕ) → i < length ns → i < length paths
      → At l i (leaves (reply (get_or ns i 0) (get_or paths i [])) (get_or ns i 0) m).number (leaves (reply (get_or ns i 0) (get_or paths i [])) (get_or ns i 0) m).output
  -- "Outputs past the last path are all zero", and their numbers 0
  pub past : number ≡ 0 → (i : ℕ) → i < length ns → length paths ≤ i → At l i 0 (zeros (get_or ns i 0))
  -- "a refusal of the whole is all of them"
  pub whole : (number ≡ 0 → ⊥) → (i : ℕ) → i < length ns → At l i number (zeros (get_or ns i 0))
  pub outputs : length l.outputs ≡ length ns
  pub work : l.work ≡ zeros m

-- "A refused path leaves its neighbours' results alone": two visits to the same site have the same at an output whose path is the same
abbrev pub Alone : (List ℕ → ℕ) → (List ℕ → LeftSeveral) → List ℕ → Type 0
Alone number call ns =
    (paths paths' : List ℕ) → number paths ≡ 0 → number paths' ≡ 0 → (i : ℕ) → i < length ns → get_or (split visit_paths paths) i [] ≡ get_or (split visit_paths paths') i []
    → At (call paths) i (byte_at i (call paths').numbers) (get_or (call paths').outputs i [])

-- Request 6, for all bytes and all buffers: the four outputs have ns bytes.
pub record Request6 : Type 0 where
  -- 17 is not given exactly if there are bytes, at most 8,192 words of them, and a way to split them; and there is one way at most
  pub seventeen : (s : List ℕ) → (split_check visit_paths s ≡ 0) ↔ ((0 < length s) × (length s / 4 ≤ 8192) × ((fs : List (List ℕ)) × IsSplit visit_paths s fs))
  pub one_way : (s : List ℕ) (fs : List (List ℕ)) → IsSplit visit_paths s fs → fs ≡ split visit_paths s
  pub four : (ns : List ℕ) (m : ℕ) (part paths : List ℕ)
      → IsVisit (whole_number visit_paths (shortest ns) m part paths) (λ n path. first_reply_call n m part path) ns m (split visit_paths paths) (four_replies_call ns m part paths)
  pub four_grouped : (ns : List ℕ) (m : ℕ) (part groups paths : List ℕ)
      → IsVisit (whole_grouped_number visit_paths (shortest ns) m part groups paths) (λ n path. first_reply_grouped_call n m part groups path) ns m (split visit_paths paths) (four_replies_grouped_call ns m part groups paths)
  pub alone : (ns : List ℕ) (m : ℕ) (part : List ℕ) → Alone (whole_number visit_paths (shortest ns) m part) (four_replies_call ns m part) ns
  pub alone_grouped : (ns : List ℕ) (m : ℕ) (part groups : List ℕ) → Alone (whole_grouped_number visit_paths (shortest ns) m part groups) (four_replies_grouped_call ns m part groups) ns
