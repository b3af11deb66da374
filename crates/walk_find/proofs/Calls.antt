-- The walk's calls: their checks, then 20, then 15; and with our eight words loaded every outcome is that of the call without groups. Assumes nothing.
use mathlib.Core.Path.{◌≡◌, refl, sym, ap, ◌∙◌}
use mathlib.Core.List.{List, [], ◌∷◌}
use mathlib.Core.Option.{Option, none, some}
use Prim.Native.Nat.{ℕ, zero, suc, ◌≤◌}
use lib.ListN.{drop}
use Rattle.files.specs.Word.{words, bytes_of}
use Rattle.files.specs.Refuse.{◌then◌, room_check, size_check}
use Rattle.files.specs.Outcome.{Outcome, Left, outcome, leaves}
use Rattle.files.specs.Part.{whole_check}
use Rattle.files.specs.Path.{path_check}
use Rattle.files.specs.Groups.{groups_check, loaded, our_groups}
use Rattle.files.specs.Limits.{shown_words, path_words, walk_words}
use Rattle.files.proofs.Checks.{then_iff, then_assoc}
use Rattle.files.proofs.Groups.{ours_ranges, loaded_checked}
use Rattle.expressions.specs.Expr.{count}
use Rattle.expressions.specs.Labels.{holds, expr_of}
use Rattle.expressions.proofs.Paths.{path_small}
use Rattle.file_walks.specs.Walks.{runs_in}
use Rattle.file_walks.proofs.Meaning.{walk_loaded, best_loaded}
use Rattle.best_walks.proofs.Finding.{find_best, best_found, find_none}
use Rattle.walk_find.specs.Walk.{found_walk, listed_check, file_of, walk_call, walk_grouped_call}

-- a check behind a chain of checks
abbrev chain : List ℕ → ℕ → ℕ
chain [] c = c
chain (a ∷ bs) c = a then chain bs c

chain_then : (bs : List ℕ) (c l : ℕ) → chain bs (c then l) ≡ (chain bs c then l)
chain_then [] c l = refl
chain_then (a ∷ bs) c l = ap (λ b. a then b) (chain_then bs c l) ∙ sym (then_assoc a (chain bs c) l)

-- where the checks of buffers and inputs give k
abbrev pub answered : ℕ → Option (List ℕ) → Outcome
answered k o = outcome (k then listed_check o) walk_words (file_of o)

module _ (out work : ℕ) (whole path : List ℕ) (y : ℕ) where
  abbrev pub plain_checks : ℕ
  plain_checks = room_check walk_words out work then size_check shown_words whole then whole_check (words whole) then size_check path_words path then path_check (words path)

  pub plain_is : walk_call out work whole path y ≡ answered plain_checks (found_walk (words whole) (words path) y)
  unfolding walk_call
  plain_is =
      let o = found_walk (words whole) (words path) y in
      ap (λ k. outcome k walk_words (file_of o))
      (chain_then (room_check walk_words out work ∷ size_check shown_words whole ∷ whole_check (words whole) ∷ size_check path_words path ∷ []) (path_check (words path)) (listed_check o))

module _ (out work : ℕ) (whole groups path : List ℕ) (y : ℕ) where
  abbrev pub grouped_checks : ℕ
  grouped_checks =
      room_check walk_words out work then size_check shown_words whole then whole_check (words whole) then groups_check groups
      then size_check path_words path then path_check (words path)

  pub grouped_is : walk_grouped_call out work whole groups path y ≡ answered grouped_checks (found_walk (words whole) (loaded (words groups) (words path)) y)
  unfolding walk_grouped_call
  grouped_is =
      let o = found_walk (words whole) (loaded (words groups) (words path)) y in
      ap (λ k. outcome k walk_words (file_of o))
      (chain_then (room_check walk_words out work ∷ size_check shown_words whole ∷ whole_check (words whole) ∷ groups_check groups ∷ size_check path_words path ∷ [])
      (path_check (words path)) (listed_check o))

-- our eight words say what the path says
module _ (ws path : List ℕ) (y : ℕ) (ok : whole_check ws ≡ 0) (read : path_check path ≡ 0) where
  found_ours : found_walk ws (loaded our_groups path) y ≡ found_walk ws path y
  unfolding found_walk
  found_ours = go (found_walk ws path y) refl
    where
      small : count (expr_of (drop 1 (loaded our_groups path))) ≤ 15
      small = path_small (loaded our_groups path) (loaded_checked our_groups ours_ranges path read)

      go : (o : Option (List ℕ)) → found_walk ws path y ≡ o → found_walk ws (loaded our_groups path) y ≡ found_walk ws path y
      go none i =
          (find_none holds (runs_in (drop 1 ws)) ws ok (expr_of (drop 1 (loaded our_groups path))) small y).1
          (λ us a. (find_none holds (runs_in (drop 1 ws)) ws ok (expr_of (drop 1 path)) (path_small path read) y).0 i us
          ((walk_loaded our_groups ours_ranges ws path y us).0 a)) ∙ sym i
      go (some us) i =
          best_found holds (runs_in (drop 1 ws)) ws ok (expr_of (drop 1 (loaded our_groups path))) small y us
          ((best_loaded our_groups ours_ranges ws path y us).1 (find_best holds (runs_in (drop 1 ws)) ws ok (expr_of (drop 1 path)) (path_small path read) y us i)) ∙ sym i

-- Document 02: "With our eight words loaded every result is today's." For all bytes and all buffer lengths.
pub walk_ours : (out work : ℕ) (whole path : List ℕ) (y : ℕ) → walk_grouped_call out work whole (bytes_of our_groups) path y ≡ walk_call out work whole path y
walk_ours out work whole path y =
    grouped_is out work whole (bytes_of our_groups) path y ∙ by (plain_checks out work whole path y) refl ∙ sym (plain_is out work whole path y)
  where
    by : (k : ℕ) → plain_checks out work whole path y ≡ k
        → answered (plain_checks out work whole path y) (found_walk (words whole) (loaded our_groups (words path)) y)
        ≡ answered (plain_checks out work whole path y) (found_walk (words whole) (words path) y)
    by zero e =
        let (_, a) = (then_iff (room_check walk_words out work) _).0 e in
        let (_, b) = (then_iff (size_check shown_words whole) _).0 a in
        let (c, d) = (then_iff (whole_check (words whole)) _).0 b in
        ap (answered (plain_checks out work whole path y)) (found_ours (words whole) (words path) y c ((then_iff (size_check path_words path) _).0 d).1)
    by (suc k) e = rw e refl

-- for the call without groups: g is the value that it hands in
pub walk_plain : (n m : ℕ) (whole path : List ℕ) (y : ℕ) {g : List ℕ} {l : Left} → g ≡ bytes_of our_groups → l ≡ leaves (walk_grouped_call n m whole g path y) n m
    → l ≡ leaves (walk_call n m whole path y) n m
walk_plain n m whole path y e h = h ∙ ap (λ g. leaves (walk_grouped_call n m whole g path y) n m) e ∙ ap (λ o. leaves o n m) (walk_ours n m whole path y)
