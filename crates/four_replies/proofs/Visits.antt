-- Four paths in one visit: what all of them leave. Assumes nothing.
use mathlib.Core.Path.{◌≡◌, refl, sym, ◌∙◌, ap}
use mathlib.Core.List.{List, [], ◌∷◌, map}
use Prim.Native.Nat.{ℕ, ◌<◌}
use native.Mathlib.Omega.{arith}
use lib.ListN.{length}
use Rattle.sets.specs.Sets.{Mem}
use Rattle.files.specs.Word.{bytes_of}
use Rattle.files.specs.Outcome.{zeros}
use Rattle.files.specs.Groups.{our_groups}
use Rattle.path_bundles.specs.Split.{split}
use Rattle.path_bundles.specs.Packed.{packed, LeftSeveral, left_several, number_of, outputs_of, leaves_several}
use Rattle.site_first.proofs.FirstCalls.{first_ours}
use Rattle.visits.specs.Whole.{shortest, whole_number}
use Rattle.visits.specs.Visit.{visit}
use Rattle.visits.specs.Answered.{VisitChecked, SiteReady, PathLeft}
use Rattle.visits.proofs.Visiting.{site_ready, ready_split, left_small}
use Rattle.visits.proofs.Answering.{by_files, outcomes}
use Rattle.four_replies.specs.Four.{visit_paths, four_replies, four_replies_grouped, four_replies_call, four_replies_grouped_call}
use Rattle.four_replies.specs.Left.{VisitReady, VisitLeft}

-- ---- the call

-- the checks of the whole, where the shortest output is found
pub visit_ready : {n m l whole : ℕ} {part groups paths : List ℕ} (ns : List ℕ) → VisitChecked visit_paths n m part groups paths whole → n ≡ shortest ns → l ≡ m
    → VisitReady ns l part groups paths whole
visit_ready ns c e q = record { checked = rw (← e, q) c }

-- each path may be answered, and its number fits a byte
module _ {ns : List ℕ} {m whole : ℕ} {part groups paths : List ℕ} (v : VisitReady ns m part groups paths whole) where
  pub path_ready : {n l : ℕ} → Mem n ns → l ≡ m → SiteReady whole n l part groups
  path_ready = site_ready ns v.checked

  pub path_small : {i n r : ℕ} {out : List ℕ} → PathLeft whole part groups paths i n r out → r < 256
  path_small = left_small v.checked

-- all four paths are answered
pub visited : {part groups paths : List ℕ} {m a b c d whole r₁ r₂ r₃ r₄ r : ℕ} {o₁ o₂ o₃ o₄ : List ℕ}
    → VisitReady (a ∷ b ∷ c ∷ d ∷ []) m part groups paths whole
    → PathLeft whole part groups paths 0 a r₁ o₁ → PathLeft whole part groups paths 1 b r₂ o₂ → PathLeft whole part groups paths 2 c r₃ o₃
    → PathLeft whole part groups paths 3 d r₄ o₄ → r ≡ packed (r₁ ∷ r₂ ∷ r₃ ∷ r₄ ∷ [])
    → VisitLeft (a ∷ b ∷ c ∷ d ∷ []) m part groups paths r (o₁ ∷ o₂ ∷ o₃ ∷ o₄ ∷ [])
unfolding four_replies_grouped
visited {part} {groups} {paths} {m} {a} {b} {c} {d} {whole} v p q s t e =
    let ns : List ℕ = a ∷ b ∷ c ∷ d ∷ [] in
    let os : four_replies_grouped ns m part groups paths ≡ by_files whole part groups ns paths = rw (← v.checked.checked.is) (outcomes m part groups visit_paths whole ns paths (omega arith) (λ n i. site_ready ns v.checked i refl) (ready_split v.checked)) in
    record {
      numbers = e ∙ (λ i. packed (p.number i ∷ q.number i ∷ s.number i ∷ t.number i ∷ [])) ∙ ap (λ os. packed (map number_of os)) (sym os);
      outputs = (λ i. p.output i ∷ q.output i ∷ s.output i ∷ t.output i ∷ []) ∙ ap (λ os. outputs_of os ns) (sym os);
    }

-- and the working buffer is cleared
pub visit_settled : {ns : List ℕ} {m r : ℕ} {part groups paths w : List ℕ} {outs : List (List ℕ)} (v : List ℕ) → VisitLeft ns m part groups paths r outs
    → w ≡ zeros (length v) → length v ≡ m → left_several r outs w ≡ four_replies_grouped_call ns m part groups paths
visit_settled v a e q = λ i. left_several (a.numbers i) (a.outputs i) ((e ∙ ap zeros q) i)

-- ---- groups

-- with our eight words every result is that of the call without groups, for all bytes and all buffers
pub four_ours : (ns : List ℕ) (m : ℕ) (part paths : List ℕ) → four_replies_grouped ns m part (bytes_of our_groups) paths ≡ four_replies ns m part paths
unfolding four_replies_grouped four_replies
four_ours ns m part paths i =
    visit (whole_number visit_paths (shortest ns) m part paths) (λ n path. first_ours n m part path i) ns (split visit_paths paths)

pub four_plain : (ns : List ℕ) (m : ℕ) (part paths : List ℕ) {g : List ℕ} {l : LeftSeveral} → g ≡ bytes_of our_groups
    → l ≡ four_replies_grouped_call ns m part g paths → l ≡ four_replies_call ns m part paths
four_plain ns m part paths e h = h ∙ ap (λ g. four_replies_grouped_call ns m part g paths) e ∙ ap (λ os. leaves_several os ns m) (four_ours ns m part paths)
