-- Believed. What is promised of the walk beside a listed node and of the checker: for all bytes and buffers, without groups and with the customer's.
-- Document 02, request 10.
use Rattle.std.specs.Prelude.{ℕ, suc, ◌≤◌, ◌<◌, ◌≡◌, ◌↔◌, ◌⊎◌, List, [], length, drop}
use Rattle.sets.specs.Sets.{Mem, Lists}
use Rattle.files.specs.Word.{words, bytes_of, Bytes}
use Rattle.files.specs.Refuse.{◌then◌, room_check, size_check}
use Rattle.files.specs.Outcome.{Outcome, refused, accepted, zeros, left, LeftLent, left_lent}
use Rattle.files.specs.Part.{whole_check}
use Rattle.files.specs.Path.{path_check}
use Rattle.files.specs.Groups.{groups_check, our_groups}
use Rattle.files.specs.Limits.{shown_words, path_words, walk_words}
use Rattle.expressions.specs.Labels.{expr_of}
use Rattle.file_walks.specs.Walks.{IsWalkBy, IsBestBy, walk_file, WalkBytes}
use Rattle.walk_find.specs.Walk.{walk_call, walk_grouped_call}
use Rattle.walk_check.specs.Check.{leaves_checked, leaves_checked_grouped}
use Rattle.demands.specs.Plant.{FoundBy}
use Rattle.demands.specs.PlantOf.{plant_of}
use Rattle.demands.specs.Grouped.{Groups, ours, own, groups_of}

-- the calls, without groups or with the customer's
abbrev pub walk_of : Groups → ℕ → ℕ → List ℕ → List ℕ → ℕ → Outcome
walk_of ours out work whole path y = walk_call out work whole path y
walk_of (own bytes) out work whole path y = walk_grouped_call out work whole bytes path y

abbrev pub check_of : Groups → ℕ → List ℕ → List ℕ → ℕ → List ℕ → LeftLent
check_of ours work whole path y walk = leaves_checked work whole path y walk
check_of (own bytes) work whole path y walk = leaves_checked_grouped work whole bytes path y walk

-- "the file, any groups and the path": the number of their checks. "Files over 1,024 words get 2 in both calls"
abbrev pub inputs_check : Groups → List ℕ → List ℕ → ℕ
inputs_check ours whole path = size_check shown_words whole then whole_check (words whole) then size_check path_words path then path_check (words path)
inputs_check (own bytes) whole path =
    size_check shown_words whole then whole_check (words whole) then groups_check bytes then size_check path_words path then path_check (words path)

-- what the walk call answers where its checks pass, one of three
pub data Walked (g : Groups) (whole path : List ℕ) (y : ℕ) : Outcome → Type 0 where
  -- no walk is accepted
  none : ((ws : List ℕ) → IsWalkBy (groups_of g) (words whole) (words path) y ws → ⊥) → Walked g whole path y (refused 20)
  -- the best one is too long
  long : (ws : List ℕ) → IsBestBy (groups_of g) (words whole) (words path) y ws → walk_words < length (walk_file ws) → Walked g whole path y (refused 15)
  -- the best one
  best : (ws : List ℕ) → IsBestBy (groups_of g) (words whole) (words path) y ws → length (walk_file ws) ≤ walk_words → Walked g whole path y (accepted (walk_file ws))

pub record Request10 : Type 1 where
  -- The walk: a refused input or buffer has its number; else the best walk's file, 20 where there is none, 15 where it is over 4,096 words
  pub refused_first : (g : Groups) (out work : ℕ) (whole path : List ℕ) (y k : ℕ)
      → (room_check walk_words out work then inputs_check g whole path) ≡ suc k → walk_of g out work whole path y ≡ refused (suc k)
  pub walked : (g : Groups) (out work : ℕ) (whole path : List ℕ) (y : ℕ)
      → (room_check walk_words out work then inputs_check g whole path) ≡ 0 → Walked g whole path y (walk_of g out work whole path y)
  -- nothing of it is left free: of any file there is one best walk at most
  pub one_best : (g : Groups) (whole path : List ℕ) (y : ℕ) (vs ws : List ℕ)
      → IsBestBy (groups_of g) whole path y vs → IsBestBy (groups_of g) whole path y ws → vs ≡ ws
  -- "a node that isn't listed gets 20": whatever list is demand 2's, 20 is given exactly if the node is not on it
  pub unlisted : (g : Groups) (out work : ℕ) (whole path : List ℕ) (y : ℕ) (xs : List ℕ)
      → (room_check walk_words out work then inputs_check g whole path) ≡ 0
      → Lists (FoundBy (groups_of g) (plant_of (words whole)) (expr_of (drop 1 (words path)))) xs
      → (walk_of g out work whole path y ≡ refused 20) ↔ (Mem y xs → ⊥)
  -- The checker: its number is that of the working buffer and the inputs, and no other; its answer is 1 exactly if all of them pass and the bytes are an
  -- accepted walk in its layout, and else 0
  pub number : (g : Groups) (work : ℕ) (whole path : List ℕ) (y : ℕ) (walk : List ℕ)
      → (check_of g work whole path y walk).rest ≡ left (room_check 0 0 work then inputs_check g whole path) [] (zeros work)
  pub yes : (g : Groups) (work : ℕ) (whole path : List ℕ) (y : ℕ) (walk : List ℕ) → Bytes whole → Bytes walk
      → ((check_of g work whole path y walk).lent ≡ 1)
      ↔ (((room_check 0 0 work then inputs_check g whole path) ≡ 0) × WalkBytes (groups_of g) (words whole) (words path) y walk)
  pub no : (g : Groups) (work : ℕ) (whole path : List ℕ) (y : ℕ) (walk : List ℕ)
      → ((check_of g work whole path y walk).lent ≡ 0) ⊎ ((check_of g work whole path y walk).lent ≡ 1)
  -- it says yes to whatever the walk call gives
  pub checked : (g : Groups) (out work : ℕ) (whole path : List ℕ) (y : ℕ) (f : List ℕ) → Bytes whole → walk_of g out work whole path y ≡ accepted f
      → (m : ℕ) → 32768 ≤ m → check_of g m whole path y (bytes_of f) ≡ left_lent 1 (left 0 [] (zeros m))
  -- with our eight words both are the calls without groups
  pub walk_ours : (out work : ℕ) (whole path : List ℕ) (y : ℕ) → walk_grouped_call out work whole (bytes_of our_groups) path y ≡ walk_call out work whole path y
  pub check_ours : (work : ℕ) (whole path : List ℕ) (y : ℕ) (walk : List ℕ)
      → leaves_checked_grouped work whole (bytes_of our_groups) path y walk ≡ leaves_checked work whole path y walk
