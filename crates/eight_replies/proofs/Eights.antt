-- One reply for eight askers: desks past the last path change nothing, and with our eight words the call is the one without groups. Assumes nothing.
use mathlib.Core.Path.{◌≡◌, refl, ◌∙◌, ap}
use mathlib.Core.List.{List, [], ◌∷◌, ◌++◌, map}
use Prim.Native.Nat.{ℕ, zero, suc, ◌-◌, ◌≤◌}
use native.Mathlib.Nat.{sub-zero}
use native.Mathlib.Omega.{arith}
use lib.ListN.{length, replicate}
use Rattle.files.specs.Word.{bytes_of}
use Rattle.files.specs.Outcome.{Outcome, accepted, Left}
use Rattle.files.specs.Groups.{our_groups}
use Rattle.path_bundles.specs.Split.{split}
use Rattle.site_first.proofs.FirstCalls.{first_ours}
use Rattle.visits.specs.Whole.{whole_number}
use Rattle.visits.specs.Visit.{answers, visit}
use Rattle.choices.specs.Shared.{leaves_shared}
use Rattle.choices.proofs.Serving.{leaves_past}
use Rattle.eight_replies.specs.Eight.{desk_count, eight_replies, eight_replies_grouped, eight_replies_call, eight_replies_grouped_call}

module _ (reply : ℕ → List ℕ → Outcome) (n : ℕ) where
  none_answered : (k : ℕ) → answers reply (replicate k n) [] ≡ replicate k (accepted [])
  none_answered zero = refl
  none_answered (suc k) = ap (accepted [] ∷◌) (none_answered k)

  -- what is answered to up to k paths at k desks
  pub answers_are : (k : ℕ) (fs : List (List ℕ)) → length fs ≤ k → answers reply (replicate k n) fs ≡ map (reply n) fs ++ replicate (k - length fs) (accepted [])
  answers_are k [] h = rw (sub-zero k) (none_answered k)
  answers_are zero (f ∷ fs) h = absurd (omega arith)
  answers_are (suc k) (f ∷ fs) h =
      let e : suc k - suc (length fs) ≡ k - length fs = omega arith in
      rw e (ap (reply n f ∷◌) (answers_are k fs (omega arith)))

  -- so the desks that have a path share the reply as by themselves
  pub answers_shared : (m k : ℕ) (fs : List (List ℕ)) → length fs ≤ k → leaves_shared (answers reply (replicate k n) fs) n m ≡ leaves_shared (map (reply n) fs) n m
  answers_shared m k fs h = ap (λ os. leaves_shared os n m) (answers_are k fs h) ∙ leaves_past (map (reply n) fs) (k - length fs) n m

-- ---- groups

-- with our eight words every result is that of the call without groups, for all bytes and all buffers
pub eight_ours : (n m : ℕ) (part paths : List ℕ) → eight_replies_grouped n m part (bytes_of our_groups) paths ≡ eight_replies n m part paths
unfolding eight_replies_grouped eight_replies
eight_ours n m part paths i =
    visit (whole_number desk_count n m part paths) (λ n path. first_ours n m part path i) (replicate desk_count n) (split desk_count paths)

pub eight_plain : (n m : ℕ) (part paths : List ℕ) {g : List ℕ} {l : Left} → g ≡ bytes_of our_groups
    → l ≡ eight_replies_grouped_call n m part g paths → l ≡ eight_replies_call n m part paths
eight_plain n m part paths e h = h ∙ ap (λ g. eight_replies_grouped_call n m part g paths) e ∙ ap (λ os. leaves_shared os n m) (eight_ours n m part paths)
