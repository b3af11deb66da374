-- The laws of the whole's checker: the end of a part.
-- Assumes nothing.
use mathlib.Core.Path.{◌≡◌, refl, sym, ap, ◌∙◌}
use mathlib.Core.Logic.{inl, inr}
use mathlib.Core.Bool.{Bool, not, ◌||◌}
use mathlib.Core.List.{List, [], ◌∷◌}
use Prim.Native.Nat.{ℕ, suc}
use native.Mathlib.Omega.{arith}
use borrow.Author.Tests.{lt-ltb}
use lib.Dec.{ltb}
use lib.ListN.{length}
use Rattle.sets.specs.Sets.{any, member, filter}
use Rattle.sets.specs.NodeSet.{has_node}
use Rattle.sets.proofs.NodeSets.{nodes_none}
use Rattle.sets.proofs.Tests.{either}
use Rattle.files.specs.Word.{words}
use Rattle.files.specs.Field.{target_of}
use Rattle.files.specs.Refuse.{◌unless◌}
use Rattle.files.specs.Outcome.{zeros}
use Rattle.files.proofs.Checks.{refused_first, passed_first}
use Rattle.files.specs.Part.{is_root, nodes, lost, end_check}

-- the end of a part

any_agree : (p q : ℕ → Bool) (ws : List ℕ) → ((w : ℕ) → p w ≡ q w) → any p ws ≡ any q ws
any_agree p q [] h = refl
any_agree p q (w ∷ ws) h = rw (h w, any_agree p q ws h)

any_counted : (p : ℕ → Bool) (ws : List ℕ) → any p ws ≡ ltb 0 (length (filter p ws))
any_counted p [] = refl
any_counted p (w ∷ ws) = elim (either (p w)) [
  | inl e ↦ rw e (sym (lt-ltb 0 (suc (length (filter p ws))) (omega arith)))
  | inr e ↦ rw (e, any_counted p ws)
]

-- k roots are counted
pub no_root : (s : List ℕ) {k i : ℕ} → k ≡ length (filter is_root (words s)) → i ≡ (7 unless ltb 0 k) → (i ≡ 0 → ⊥) → i ≡ end_check (words s)
no_root s {k} f p z =
    let e : (7 unless ltb 0 k) ≡ (7 unless any is_root (words s)) = rw (any_counted is_root (words s), ← f) in refused_first _ _ z (p ∙ e)

-- and besides, d is a cleared buffer and a has the nodes
pub end_checked : (s a : List ℕ) {d : List ℕ} {b : Bool} {k j : ℕ} (n : ℕ) → d ≡ zeros n
    → ((x : ℕ) → has_node a 0 x ≡ (has_node d 0 x || member x (nodes (words s)))) → b ≡ any (lost (has_node a 0)) (words s)
    → k ≡ length (filter is_root (words s)) → 0 ≡ (7 unless ltb 0 k) → j ≡ (8 unless not b) → j ≡ end_check (words s)
end_checked s a {b = b} {k} n z h e f p q =
    let r : (7 unless ltb 0 k) ≡ (7 unless any is_root (words s)) = rw (any_counted is_root (words s), ← f) in
    let l : b ≡ any (lost (λ x. member x (nodes (words s)))) (words s) = e ∙ any_agree _ _ (words s) (λ w. rw (h (target_of w), nodes_none n 0 (target_of w) z)) in
    passed_first _ _ refl (p ∙ r) (q ∙ ap (λ t. 8 unless not t) l)
