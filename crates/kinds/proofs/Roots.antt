-- The root of an accepted whole, by the first root word: it has the mark, and its number is the root. Assumes nothing.
use mathlib.Core.Path.{◌≡◌, refl, sym, subst, ap, ◌∙◌}
use mathlib.Core.Logic.{⊎_elim}
use mathlib.Core.Bool.{true}
use mathlib.Core.List.Memᴰ
use mathlib.Core.List.{List, [], ◌∷◌}
use Prim.Native.Nat.{ℕ, zero, suc, ◌<◌}
use native.Mathlib.Omega.{arith}
use borrow.Author.Tests.{eqb-true}
use lib.ListN.{length, get_or, drop, get_or-eq_default}
use Rattle.sets.specs.Sets.{Mem, here}
use Rattle.sets.proofs.Tests.{is_true, passed}
use Rattle.sets.proofs.Cases.{lt_or_le, and_left}
use Rattle.sets.proofs.Filter.{map_filter_iff}
use Rattle.sets.proofs.Lengths.{mem_at, at_mem, mem_drop}
use Rattle.files.specs.Field.{kind_of, node_of, root_of}
use Rattle.files.specs.Part.{is_node, is_root, roots, whole_check}
use Rattle.files.proofs.Parts.{part_read, whole_part, whole_root}
use Rattle.kinds.specs.Seek.{FirstThat}
use Rattle.kinds.proofs.Seeking.{first_passes}

behind_header : (ws : List ℕ) (i : ℕ) → i < length ws → (i ≡ 0 → ⊥) → Mem (get_or ws i 0) (drop 1 ws)
behind_header [] i l n = absurd (omega arith)
behind_header (h ∷ ws) zero l n = absurd (n refl)
behind_header (h ∷ ws) (suc i) l n = at_mem 0 ws i (omega arith)

module _ (ws : List ℕ) (c : whole_check ws ≡ 0) (i : ℕ) where
  pub root_marked : FirstThat is_root ws i → is_root (get_or ws i 0) ≡ true
  root_marked f =
      let (x, only) = whole_root ws c in
      let (v, m, t, q) = (map_filter_iff node_of is_root x (drop 1 ws)).0 (subst (Mem x) (sym only) (here refl)) in
      let (j, l, k) = mem_at v ws (mem_drop ws m) in
      first_passes f j l (ap is_root k ∙ is_true (is_root v) t)

  pub marked_root : is_root (get_or ws i 0) ≡ true → roots (drop 1 ws) ≡ node_of (get_or ws i 0) ∷ []
  marked_root root =
      let (x, only) = whole_root ws c in
      let node = eqb-true (kind_of (get_or ws i 0)) 2 (and_left (is_node (get_or ws i 0)) (root_of (get_or ws i 0)) root) in
      let below : i < length ws = ⊎_elim (λ l. l) (λ l. absurd (omega (arith, get_or-eq_default ws 0 l))) (lt_or_le i (length ws)) in
      let far : i ≡ 0 → ⊥ = λ z. let k = (part_read ws (whole_part ws c)).kind in let n : kind_of (get_or ws 0 0) ≡ 2 = rw z at node in omega arith in
      let m : Mem (node_of (get_or ws i 0)) (roots (drop 1 ws)) = (map_filter_iff node_of is_root (node_of (get_or ws i 0)) (drop 1 ws)).1
      (get_or ws i 0, behind_header ws i below far, passed root, refl) in
      only ∙ ap (◌∷ []) (sym (Memᴰ.eq_of_singleton (subst (Mem (node_of (get_or ws i 0))) only m)))
