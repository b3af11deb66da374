-- What is promised of walks and of their checker, for all bytes and buffers. Assumes nothing.
use mathlib.Core.Path.{◌≡◌, refl, sym, subst, ap, ◌∙◌}
use mathlib.Core.Logic.{◌↔◌, ◌⊎◌, inl, inr}
use mathlib.Core.Bool.{Bool, true, false}
use mathlib.Core.List.{List, []}
use Prim.Native.Nat.{ℕ, zero, suc, ◌≤◌}
use native.Mathlib.Omega.{arith}
use lib.Dec.{T}
use lib.ListN.{length, drop}
use Rattle.sets.proofs.Tests.{is_true, passed}
use Rattle.sets.proofs.Cases.{clash}
use Rattle.files.specs.Word.{words, bytes_of, Bytes}
use Rattle.files.specs.Refuse.{◌then◌, room_check}
use Rattle.files.specs.Outcome.{Outcome, outcome, accepted, refused, zeros, left, LeftLent, left_lent, leaves_lent}
use Rattle.files.specs.Groups.{our_groups}
use Rattle.files.specs.Limits.{walk_words}
use Rattle.files.proofs.Bytes.{words_below_lem}
use Rattle.files.proofs.Checks.{then_iff, then_zero, room_checked}
use Rattle.files.proofs.Groups.{groups_ranges, ours_ranges}
use Rattle.expressions.specs.Labels.{holds_by, expr_of}
use Rattle.file_walks.specs.Walks.{runs_in, IsWalkBy, walk_file, WalkBytes}
use Rattle.best_walks.proofs.Finding.{best_unique}
use Rattle.walk_find.proofs.Calls.{walk_ours}
use Rattle.walk_check.specs.Check.{says_yes, yes_of, check_walk_call, check_walk_grouped_call}
use Rattle.walk_check.proofs.Going.{ours_says, check_ours}
use Rattle.walk_check.proofs.Checking.{yes_to, grouped_iff, checker_iff}
use Rattle.demands.specs.Grouped.{Groups, ours, own, AcceptedGroups, groups_of, asks}
use Rattle.recalls.specs.Recalls.{walk_of, check_of, inputs_check, Walked, none, long, best, Request10}
use Rattle.recalls.proofs.Promised.{inputs_read, refuses, walked, unlisted}

-- ---- the checker

module _ (g : Groups) (work : ℕ) (whole path : List ℕ) (y : ℕ) (walk : List ℕ) where
  abbrev checks : ℕ
  checks = room_check 0 0 work then inputs_check g whole path

  abbrev says : Bool
  says = says_yes (words whole) (asks g (words path)) y walk

  abbrev told : ℕ → LeftLent
  told k = leaves_lent (outcome k 0 []) 0 (yes_of says) 0 work

check_is : (g : Groups) (work : ℕ) (whole path : List ℕ) (y : ℕ) (walk : List ℕ) → check_of g work whole path y walk ≡ told g work whole path y walk (checks g work whole path y walk)
unfolding check_walk_call check_walk_grouped_call
check_is ours work whole path y walk = refl
check_is (own bytes) work whole path y walk = refl

yes_iff : (g : Groups) (whole path : List ℕ) (y : ℕ) (walk : List ℕ) → AcceptedGroups g → Bytes whole → Bytes walk
    → T (says_yes (words whole) (asks g (words path)) y walk) ↔ WalkBytes (groups_of g) (words whole) (words path) y walk
yes_iff ours whole path y walk a b c = checker_iff (words whole) (words path) y (words_below_lem whole b) walk c
yes_iff (own bytes) whole path y walk a b c = grouped_iff (words bytes) (groups_ranges bytes a) (words whole) (words path) y (words_below_lem whole b) walk c

module _ (g : Groups) (work : ℕ) (whole path : List ℕ) (y : ℕ) (walk : List ℕ) where
  number : (check_of g work whole path y walk).rest ≡ left (checks g work whole path y walk) [] (zeros work)
  number = rw (check_is g work whole path y walk) (by (checks g work whole path y walk))
    where
      by : (k : ℕ) → (told g work whole path y walk k).rest ≡ left k [] (zeros work)
      by zero = refl
      by (suc k) = refl

  no : ((check_of g work whole path y walk).lent ≡ 0) ⊎ ((check_of g work whole path y walk).lent ≡ 1)
  no = rw (check_is g work whole path y walk) (by (checks g work whole path y walk) (says g work whole path y walk))
    where
      by : (k : ℕ) (b : Bool) → ((leaves_lent (outcome k 0 []) 0 (yes_of b) 0 work).lent ≡ 0) ⊎ ((leaves_lent (outcome k 0 []) 0 (yes_of b) 0 work).lent ≡ 1)
      by zero true = inr refl
      by zero false = inl refl
      by (suc k) b = inl refl

  lent_one : (k : ℕ) (b : Bool) → ((leaves_lent (outcome k 0 []) 0 (yes_of b) 0 work).lent ≡ 1) ↔ ((k ≡ 0) × (b ≡ true))
  lent_one zero true = (λ e. (refl, refl), λ r. refl)
  lent_one zero false = (λ e. absurd (omega arith), λ r. absurd (clash r.1 refl))
  lent_one (suc k) b = (λ e. absurd (omega arith), λ r. absurd (omega (arith, r.0)))

  yes : Bytes whole → Bytes walk
      → ((check_of g work whole path y walk).lent ≡ 1) ↔ ((checks g work whole path y walk ≡ 0) × WalkBytes (groups_of g) (words whole) (words path) y walk)
  yes b c =
      let l = lent_one (checks g work whole path y walk) (says g work whole path y walk) in
      rw (check_is g work whole path y walk) (
        λ e.
            let (z, t) = l.0 e in
            let i = inputs_read g whole path ((then_iff (room_check 0 0 work) (inputs_check g whole path)).0 z).1 in
            (z, (yes_iff g whole path y walk i.groups_read b c).0 (passed t)),
        λ (z, w).
            let i = inputs_read g whole path ((then_iff (room_check 0 0 work) (inputs_check g whole path)).0 z).1 in
            l.1 (z, is_true (says g work whole path y walk) ((yes_iff g whole path y walk i.groups_read b c).1 w)),
      )

-- ---- both

-- it says yes to an accepted walk's file
says_to : (g : Groups) (whole path : List ℕ) (y : ℕ) → AcceptedGroups g → Bytes whole → (ws : List ℕ) → length (walk_file ws) ≤ walk_words
    → IsWalkBy (groups_of g) (words whole) (words path) y ws → T (says_yes (words whole) (asks g (words path)) y (bytes_of (walk_file ws)))
says_to ours whole path y a b ws l w =
    subst T (ours_says (words whole) (words path) y (bytes_of (walk_file ws))) (yes_to our_groups ours_ranges (words whole) (words path) y (words_below_lem whole b) ws l w)
says_to (own bytes) whole path y a b ws l w = yes_to (words bytes) (groups_ranges bytes a) (words whole) (words path) y (words_below_lem whole b) ws l w

module _ (g : Groups) (out work : ℕ) (whole path : List ℕ) (y : ℕ) (f : List ℕ) (b : Bytes whole) (m : ℕ) (room : 32768 ≤ m) where
  abbrev Says : Type 0
  Says = check_of g m whole path y (bytes_of f) ≡ left_lent 1 (left 0 [] (zeros m))

  abbrev result_of : Outcome → List ℕ
  result_of (refused k) = []
  result_of (accepted ws) = ws

  abbrev number_of : Outcome → ℕ
  number_of (refused k) = k
  number_of (accepted ws) = 0

  by_walk : inputs_check g whole path ≡ 0 → (ws : List ℕ) → walk_file ws ≡ f → length (walk_file ws) ≤ walk_words → IsWalkBy (groups_of g) (words whole) (words path) y ws → Says
  by_walk ok ws e l w =
      let i = inputs_read g whole path ok in
      let t = subst (λ f. T (says_yes (words whole) (asks g (words path)) y (bytes_of f))) e (says_to g whole path y i.groups_read b ws l w) in
      check_is g m whole path y (bytes_of f) ∙ rw (then_zero (room_checked 0 0 m (omega arith) room) ok, is_true (says_yes (words whole) (asks g (words path)) y (bytes_of f)) t) refl

  by_outcome : (o : Outcome) → inputs_check g whole path ≡ 0 → Walked g whole path y o → o ≡ accepted f → Says
  by_outcome o ok (none n) e = absurd (let k = ap number_of e in omega arith)
  by_outcome o ok (long ws i l) e = absurd (let k = ap number_of e in omega arith)
  by_outcome o ok (best ws i l) e = by_walk ok ws (ap result_of e) l i.accepted

  checked : walk_of g out work whole path y ≡ accepted f → Says
  checked e = go (room_check walk_words out work then inputs_check g whole path) refl
    where
      go : (k : ℕ) → (room_check walk_words out work then inputs_check g whole path) ≡ k → Says
      go zero z = by_outcome (walk_of g out work whole path y) ((then_iff (room_check walk_words out work) (inputs_check g whole path)).0 z).1 (walked g out work whole path y z) e
      go (suc k) z = absurd (let n = ap number_of (sym (refuses g out work whole path y k z) ∙ e) in omega arith)

pub request_10 : Request10
request_10 = record {
  refused_first = refuses;
  walked = walked;
  one_best = λ g whole path y vs ws. best_unique (holds_by (groups_of g)) (runs_in (drop 1 whole)) (drop 1 whole) (expr_of (drop 1 path)) y vs ws;
  unlisted = λ g out work whole path y xs ok. unlisted g out work whole path y ok xs;
  number = number;
  yes = yes;
  no = no;
  checked = λ g out work whole path y f b e m room. checked g out work whole path y f b m room e;
  walk_ours = walk_ours;
  check_ours = check_ours;
}
