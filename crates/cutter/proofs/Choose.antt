-- What the cutter chooses: the blocks of the nodes whose site passes a test. Assumes nothing.
use mathlib.Core.Path.{◌≡◌, refl, ap, ap₂, subst}
use mathlib.Core.Logic.{◌↔◌, inl, inr}
use mathlib.Core.Bool.{Bool, true, false, cond}
use mathlib.Core.List.{List, [], ◌∷◌, map}
use Prim.Native.Nat.{ℕ, ◌≤◌}
use native.Mathlib.Omega.{arith}
use lib.Dec.{T}
use lib.ListN.{length}
use Rattle.sets.specs.Sets.{Mem, there, ◌⊆◌, filter}
use Rattle.sets.proofs.Sets.{subset_cons, filter_iff}
use Rattle.sets.proofs.Tests.{either}
use Rattle.sets.proofs.Filter.{map_iff}
use Rattle.files.specs.Part.{is_node, is_edge, front}
use Rattle.files.proofs.Blocks.{Block, blocks}
use Rattle.files.proofs.Parts.{node_not_edge}
use Rattle.cutter.specs.Cut.{choose}
use Rattle.cutter.proofs.Sited.{Fit, sited}

module _ (test : ℕ → Bool) where
  -- the choice by its steps: what it makes of words and cut list where the words so far end in a chosen node's or not
  pub data Choice : Bool → List ℕ → List ℕ → List ℕ → Type 0 where
    end : {on : Bool} → Choice on [] [] []
    taken : {on : Bool} {w c : ℕ} {ws cuts out : List ℕ}
        → is_node w ≡ true → test c ≡ true → Choice true ws cuts out → Choice on (w ∷ ws) (c ∷ cuts) (w ∷ out)
    left : {on : Bool} {w c : ℕ} {ws cuts out : List ℕ}
        → is_node w ≡ true → test c ≡ false → Choice false ws cuts out → Choice on (w ∷ ws) (c ∷ cuts) out
    kept : {w : ℕ} {ws cuts out : List ℕ} → is_node w ≡ false → Choice true ws cuts out → Choice true (w ∷ ws) cuts (w ∷ out)
    skipped : {w : ℕ} {ws cuts out : List ℕ} → is_node w ≡ false → Choice false ws cuts out → Choice false (w ∷ ws) cuts out

  other : {w : ℕ} {ws cuts out : List ℕ} (on : Bool) → is_node w ≡ false → Choice on ws cuts out → Choice on (w ∷ ws) cuts (cond on (w ∷ out) out)
  other true n r = kept n r
  other false n r = skipped n r

  pub choice : (on : Bool) (ws cuts : List ℕ) → Fit ws cuts → Choice on ws cuts (choose test on ws cuts)
  choice on [] [] f = end
  choice on [] (c ∷ cuts) f = absurd (omega arith)
  choice on (w ∷ ws) [] f = elim (either (is_node w)) [
    | inl n ↦ absurd (let g = rw n at f in omega arith)
    | inr n ↦ other on n (choice on ws [] (rw n at f))
  ]
  choice on (w ∷ ws) (c ∷ cuts) f = elim (either (is_node w)) [
    | inl n ↦
        let g : Fit ws cuts = let g = rw n at f in omega arith in
        elim (either (test c)) [ inl t ↦ rw (n, t) (taken n t (choice true ws cuts g)) | inr t ↦ rw (n, t) (left n t (choice false ws cuts g)) ]
    | inr n ↦ rw n (other on n (choice on ws (c ∷ cuts) (rw n at f)))
  ]

  front_false : {ws cuts out : List ℕ} → Choice false ws cuts out → front out ≡ []
  front_false end = refl
  front_false (taken {w = w} n t r) = rw (node_not_edge w n)
  front_false (left n t r) = front_false r
  front_false (skipped n r) = front_false r

  front_true : {ws cuts out : List ℕ} → Choice true ws cuts out → front out ≡ front ws
  front_true end = refl
  front_true (taken {w = w} n t r) = rw (node_not_edge w n)
  front_true (left {w = w} n t r) = rw (node_not_edge w n) (front_false r)
  front_true (kept {w = w} n r) = ap (λ es. cond (is_edge w) (w ∷ es) []) (front_true r)

  abbrev chosen : List Block → List ℕ → List Block
  chosen bs cuts = map (λ p. p.0) (filter (λ p. test p.1) (sited bs cuts))

  choice_blocks : {on : Bool} {ws cuts out : List ℕ} → Choice on ws cuts out → blocks out ≡ chosen (blocks ws) cuts
  choice_blocks end = refl
  choice_blocks (taken {w = w} n t r) = rw (n, t) (ap₂ (λ es bs. record { word = w; links = es } ∷ bs) (front_true r) (choice_blocks r))
  choice_blocks (left n t r) = rw (n, t) (choice_blocks r)
  choice_blocks (kept n r) = rw n (choice_blocks r)
  choice_blocks (skipped n r) = rw n (choice_blocks r)

  -- a block is chosen if its site passes the test
  pub chosen_iff : (b : Block) (ws cuts : List ℕ) → Fit ws cuts
      → Mem b (blocks (choose test false ws cuts)) ↔ ((c : ℕ) × Mem (b, c) (sited (blocks ws) cuts) × T (test c))
  chosen_iff b ws cuts f =
      let i = map_iff (λ p. p.0) b (filter (λ p. test p.1) (sited (blocks ws) cuts)) in
      rw (choice_blocks (choice false ws cuts f)) (
        λ m. let (p, k, q) = i.0 m in let (k, t) = (passing p).0 k in (p.1, subst (λ x. Mem (x, p.1) (sited (blocks ws) cuts)) q k, t),
        λ m. i.1 ((b, m.0), (passing (b, m.0)).1 (m.1, m.2), refl),
      )
    where
      passing : (p : Block × ℕ) → Mem p (filter (λ p. test p.1) (sited (blocks ws) cuts)) ↔ (Mem p (sited (blocks ws) cuts) × T (test p.1))
      passing p = filter_iff (λ p. test p.1) p (sited (blocks ws) cuts)

  -- what is chosen was there
  pub choice_subset : {on : Bool} {ws cuts out : List ℕ} → Choice on ws cuts out → out ⊆ ws
  choice_subset end z m = m
  choice_subset (taken {w = w} n t r) z m = subset_cons w (choice_subset r) z m
  choice_subset (left n t r) z m = there (choice_subset r z m)
  choice_subset (kept {w = w} n r) z m = subset_cons w (choice_subset r) z m
  choice_subset (skipped n r) z m = there (choice_subset r z m)

  pub choice_length : {on : Bool} {ws cuts out : List ℕ} → Choice on ws cuts out → length out ≤ length ws
  choice_length end = omega arith
  choice_length (taken n t r) = omega (arith, choice_length r)
  choice_length (left n t r) = omega (arith, choice_length r)
  choice_length (kept n r) = omega (arith, choice_length r)
  choice_length (skipped n r) = omega (arith, choice_length r)
