-- What is promised of the walk call: for all bytes and buffers. Assumes nothing.
use mathlib.Core.Path.{◌≡◌, refl, sym, subst, ap, ◌∙◌}
use mathlib.Core.Logic.{◌↔◌, ⊎_elim}
use mathlib.Core.List.{List}
use mathlib.Core.Option.{Option, none, some}
use Prim.Native.Nat.{ℕ, suc}
use native.Mathlib.Omega.{arith}
use lib.ListN.{length, drop}
use Rattle.sets.specs.Sets.{Mem, Lists}
use Rattle.sets.proofs.Cases.{lt_or_le}
use Rattle.files.specs.Word.{words}
use Rattle.files.specs.Refuse.{◌then◌, room_check, size_check}
use Rattle.files.specs.Outcome.{Outcome, outcome, accepted, refused}
use Rattle.files.specs.Part.{whole_check}
use Rattle.files.specs.Path.{path_check}
use Rattle.files.specs.Groups.{groups_check, our_groups}
use Rattle.files.specs.Limits.{shown_words, path_words, walk_words}
use Rattle.files.proofs.Checks.{then_iff, outcome_gives, outcome_over}
use Rattle.files.proofs.Groups.{groups_ranges, loaded_checked}
use Rattle.expressions.specs.Labels.{holds, expr_of}
use Rattle.expressions.proofs.Paths.{path_small}
use Rattle.file_walks.specs.Walks.{runs_in, IsWalkBy, IsBestBy, walk_file}
use Rattle.file_walks.proofs.Meaning.{walk_loaded, best_loaded}
use Rattle.best_walks.proofs.Finding.{find_best, find_none}
use Rattle.walk_find.specs.Walk.{found_walk, listed_check, file_of}
use Rattle.walk_find.proofs.Calls.{answered, plain_is, grouped_is}
use Rattle.demands.specs.Plant.{FoundBy}
use Rattle.demands.specs.PlantOf.{plant_of}
use Rattle.demands.specs.Grouped.{Groups, ours, own, AcceptedGroups, groups_of, asks}
use Rattle.recalls.specs.Recalls.{walk_of, inputs_check, Walked, none as unwalked, long, best}
use Rattle.recalls.proofs.Found.{found_iff}

-- accepted inputs
pub record InputsRead (g : Groups) (whole path : List ℕ) : Type 0 where
  pub whole_read : whole_check (words whole) ≡ 0
  pub groups_read : AcceptedGroups g
  pub path_read : path_check (asks g (words path)) ≡ 0

pub inputs_read : (g : Groups) (whole path : List ℕ) → inputs_check g whole path ≡ 0 → InputsRead g whole path
inputs_read ours whole path ok =
    let (a, b) = (then_iff (size_check shown_words whole) _).0 ok in
    let (c, b) = (then_iff (whole_check (words whole)) _).0 b in
    record { whole_read = c; groups_read = tt; path_read = ((then_iff (size_check path_words path) _).0 b).1 }
inputs_read (own bytes) whole path ok =
    let (a, b) = (then_iff (size_check shown_words whole) _).0 ok in
    let (c, b) = (then_iff (whole_check (words whole)) _).0 b in
    let (d, b) = (then_iff (groups_check bytes) _).0 b in
    record {
      whole_read = c;
      groups_read = d;
      path_read = loaded_checked (words bytes) (groups_ranges bytes d) (words path) ((then_iff (size_check path_words path) _).0 b).1;
    }

-- the walks of the path that is asked are those of the path, group g read by word g
pub walk_asked : (g : Groups) (whole path : List ℕ) (y : ℕ) (ws : List ℕ) → AcceptedGroups g
    → IsWalkBy our_groups whole (asks g path) y ws ↔ IsWalkBy (groups_of g) whole path y ws
walk_asked ours whole path y ws a = (λ w. w, λ w. w)
walk_asked (own bytes) whole path y ws a = walk_loaded (words bytes) (groups_ranges bytes a) whole path y ws

pub best_asked : (g : Groups) (whole path : List ℕ) (y : ℕ) (ws : List ℕ) → AcceptedGroups g
    → IsBestBy our_groups whole (asks g path) y ws ↔ IsBestBy (groups_of g) whole path y ws
best_asked ours whole path y ws a = (λ w. w, λ w. w)
best_asked (own bytes) whole path y ws a = best_loaded (words bytes) (groups_ranges bytes a) whole path y ws

-- what is found, by the words of accepted files
module _ (g : Groups) (whole path : List ℕ) (y : ℕ) (ok : whole_check whole ≡ 0) (ag : AcceptedGroups g) (read : path_check (asks g path) ≡ 0) where
  found_best : (ws : List ℕ) → found_walk whole (asks g path) y ≡ some ws → IsBestBy (groups_of g) whole path y ws
  unfolding found_walk
  found_best ws i =
      (best_asked g whole path y ws ag).0
      (find_best holds (runs_in (drop 1 whole)) whole ok (expr_of (drop 1 (asks g path))) (path_small (asks g path) read) y ws i)

  found_none : (found_walk whole (asks g path) y ≡ none) ↔ ((ws : List ℕ) → IsWalkBy (groups_of g) whole path y ws → ⊥)
  unfolding found_walk
  found_none =
      let i = find_none holds (runs_in (drop 1 whole)) whole ok (expr_of (drop 1 (asks g path))) (path_small (asks g path) read) y in (
        λ e ws a. i.0 e ws ((walk_asked g whole path y ws ag).1 a),
        λ n. i.1 (λ ws a. n ws ((walk_asked g whole path y ws ag).0 a)),
      )

  -- where 20 is not given, the file is the best walk's
  pub file_best : listed_check (found_walk whole (asks g path) y) ≡ 0
      → (ws : List ℕ) × (file_of (found_walk whole (asks g path) y) ≡ walk_file ws) × IsBestBy (groups_of g) whole path y ws
  file_best l = go (found_walk whole (asks g path) y) refl l
    where
      go : (o : Option (List ℕ)) → found_walk whole (asks g path) y ≡ o → listed_check o ≡ 0
          → (ws : List ℕ) × (file_of (found_walk whole (asks g path) y) ≡ walk_file ws) × IsBestBy (groups_of g) whole path y ws
      go none i e = absurd (omega arith)
      go (some ws) i e = (ws, ap file_of i, found_best ws i)

module _ (g : Groups) (out work : ℕ) (whole path : List ℕ) (y : ℕ) where
  abbrev checks : ℕ
  checks = room_check walk_words out work then inputs_check g whole path

  abbrev found : Option (List ℕ)
  found = found_walk (words whole) (asks g (words path)) y

call_is : (g : Groups) (out work : ℕ) (whole path : List ℕ) (y : ℕ) → walk_of g out work whole path y
    ≡ answered (checks g out work whole path y) (found g out work whole path y)
call_is ours out work whole path y = plain_is out work whole path y
call_is (own bytes) out work whole path y = grouped_is out work whole bytes path y

module _ (g : Groups) (out work : ℕ) (whole path : List ℕ) (y : ℕ) where
  pub refuses : (k : ℕ) → checks g out work whole path y ≡ suc k → walk_of g out work whole path y ≡ refused (suc k)
  refuses k e = call_is g out work whole path y ∙ rw e refl

  module _ (ok : checks g out work whole path y ≡ 0) where
    read : InputsRead g whole path
    read = inputs_read g whole path ((then_iff (room_check walk_words out work) (inputs_check g whole path)).0 ok).1

    by_found : (o : Option (List ℕ)) → found g out work whole path y ≡ o → walk_of g out work whole path y ≡ outcome (listed_check o) walk_words (file_of o)
    by_found o i = call_is g out work whole path y ∙ rw (ok, i) refl

    is_best : (ws : List ℕ) → found g out work whole path y ≡ some ws → IsBestBy (groups_of g) (words whole) (words path) y ws
    is_best = found_best g (words whole) (words path) y read.whole_read read.groups_read read.path_read

    is_none : (found g out work whole path y ≡ none) ↔ ((ws : List ℕ) → IsWalkBy (groups_of g) (words whole) (words path) y ws → ⊥)
    is_none = found_none g (words whole) (words path) y read.whole_read read.groups_read read.path_read

    pub walked : Walked g whole path y (walk_of g out work whole path y)
    walked = go (found g out work whole path y) refl
      where
        go : (o : Option (List ℕ)) → found g out work whole path y ≡ o → Walked g whole path y (walk_of g out work whole path y)
        go none i = subst (Walked g whole path y) (sym (by_found none i)) (unwalked (is_none.0 i))
        go (some ws) i = ⊎_elim
            (λ l. subst (Walked g whole path y) (sym (by_found (some ws) i ∙ outcome_over walk_words (walk_file ws) l)) (long ws (is_best ws i) l))
            (λ l. subst (Walked g whole path y) (sym (by_found (some ws) i ∙ outcome_gives walk_words (walk_file ws) l)) (best ws (is_best ws i) l))
            (lt_or_le walk_words (length (walk_file ws)))

    -- 20 exactly if no walk is accepted
    pub twenty : (walk_of g out work whole path y ≡ refused 20) ↔ ((ws : List ℕ) → IsWalkBy (groups_of g) (words whole) (words path) y ws → ⊥)
    twenty = (λ e. is_none.0 (go (found g out work whole path y) refl e), λ n. by_found none (is_none.1 n))
      where
        number : Outcome → ℕ
        number (refused k) = k
        number (accepted f) = 0

        go : (o : Option (List ℕ)) → found g out work whole path y ≡ o → walk_of g out work whole path y ≡ refused 20 → found g out work whole path y ≡ none
        go none i e = i
        go (some ws) i e = absurd (⊎_elim
            (λ l. let n = ap number (sym (by_found (some ws) i ∙ outcome_over walk_words (walk_file ws) l) ∙ e) in omega arith)
            (λ l. let n = ap number (sym (by_found (some ws) i ∙ outcome_gives walk_words (walk_file ws) l) ∙ e) in omega arith)
            (lt_or_le walk_words (length (walk_file ws))))

    pub unlisted : (xs : List ℕ) → Lists (FoundBy (groups_of g) (plant_of (words whole)) (expr_of (drop 1 (words path)))) xs
        → (walk_of g out work whole path y ≡ refused 20) ↔ (Mem y xs → ⊥)
    unlisted xs l =
        let f = found_iff (words whole) (groups_of g) (words path) y in (
          λ e m. let (ws, a) = f.0 (l.sound y m) in twenty.0 e ws a,
          λ n. twenty.1 (λ ws a. n (l.complete y (f.1 (ws, a)))),
        )
