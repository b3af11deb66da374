-- What a visit answers, by the files of its bundle from header to header: one path after another. Assumes nothing.
use mathlib.Core.Path.{◌≡◌, refl, sym, ◌∙◌, ap, ap₂}
use mathlib.Core.List.{List, [], ◌∷◌}
use Prim.Native.Nat.{ℕ, zero, suc, ◌≤◌, ◌<◌}
use native.Mathlib.Omega.{arith}
use lib.ListN.{length}
use Rattle.sets.specs.Sets.{Mem, here, there}
use Rattle.files.specs.Outcome.{Outcome, accepted}
use Rattle.files.proofs.Checks.{checks}
use Rattle.path_bundles.specs.Split.{file_in, behind, split, split_check}
use Rattle.path_bundles.proofs.Splitting.{split_is}
use Rattle.site_first.specs.First.{first_reply_grouped_call}
use Rattle.visits.specs.Visit.{answers, visit}
use Rattle.visits.specs.Answered.{SiteRead, SiteReady, answered_by}
use Rattle.visits.proofs.Visiting.{path_alone, answered_some}

abbrev pub by_files : ℕ → List ℕ → List ℕ → List ℕ → List ℕ → List Outcome
by_files whole part groups [] s = []
by_files whole part groups (n ∷ ns) s = answered_by whole part groups (file_in s) ∷ by_files whole part groups ns (behind s)

module _ (m : ℕ) (part groups : List ℕ) where
  abbrev reply : ℕ → List ℕ → Outcome
  reply n path = first_reply_grouped_call n m part groups path

  none_answered : (ns : List ℕ) → answers reply ns [] ≡ by_files 0 part groups ns []
  none_answered [] = refl
  none_answered (n ∷ ns) = ap (accepted [] ∷◌) (none_answered ns)

  answers_are : (k : ℕ) (ns s : List ℕ) → length ns ≤ k → ((n : ℕ) → Mem n ns → SiteRead n m part groups) → ((f : List ℕ) → Mem f (split k s) → 0 < length f)
      → answers reply ns (split k s) ≡ by_files 0 part groups ns s
  answers_are k [] s l q p = refl
  answers_are zero (n ∷ ns) s l q p = absurd (omega arith)
  answers_are (suc k) (n ∷ ns) [] l q p = none_answered (n ∷ ns)
  answers_are (suc k) (n ∷ ns) (b ∷ s) l q p =
      let f = file_in (b ∷ s) in
      ap₂ ◌∷◌ (path_alone (q n (here refl)) f ∙ sym (answered_some part groups f (p f (here refl))))
      (answers_are k ns (behind (b ∷ s)) (omega arith) (λ n m. q n (there m)) (λ f m. p f (there m)))

  refused_are : (k : ℕ) (ns : List ℕ) (fs : List (List ℕ)) (s : List ℕ) → visit (suc k) reply ns fs ≡ by_files (suc k) part groups ns s
  refused_are k [] fs s = refl
  refused_are k (n ∷ ns) fs s = ap (answered_by (suc k) part groups (file_in s) ∷◌) (refused_are k ns fs (behind s))

  -- where the whole has this number
  pub outcomes : (most whole : ℕ) (ns paths : List ℕ) → length ns ≤ most → ((n : ℕ) → Mem n ns → SiteReady whole n m part groups) → (whole ≡ 0 → split_check most paths ≡ 0)
      → visit whole reply ns (split most paths) ≡ by_files whole part groups ns paths
  outcomes most zero ns paths l q c =
      answers_are most ns paths l (λ n i. (q n i).read refl) (split_is most paths (simp checks at (c refl)).1).some
  outcomes most (suc k) ns paths l q c = refused_are k ns (split most paths) paths
