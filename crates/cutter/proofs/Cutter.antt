-- The part that the cutter makes for a site: its header, its blocks, its words, and that it is accepted. Assumes nothing.
use mathlib.Core.Path.{◌≡◌, subst}
use mathlib.Core.Logic.{◌↔◌, inl, inr}
use mathlib.Core.Bool.{false}
use mathlib.Core.List.Memᴰ
use mathlib.Core.List.{List, map}
use Prim.Native.Nat.{ℕ, suc, ◌^◌, ◌≤◌, ◌<◌}
use native.Mathlib.Omega.{arith}
use lib.Dec.{eqb, eqb_refl, eqb→eq}
use lib.ListN.{length, drop, get_or, length-map}
use Rattle.sets.specs.Sets.{Mem, here, there}
use Rattle.sets.proofs.Tests.{either}
use Rattle.sets.proofs.Filter.{map_iff}
use Rattle.sets.proofs.Lengths.{mem_drop}
use Rattle.files.specs.Field.{site_of}
use Rattle.files.specs.Part.{is_node, part_check}
use Rattle.files.proofs.Checks.{checks}
use Rattle.files.proofs.Fields.{header}
use Rattle.files.proofs.Blocks.{Block, blocks}
use Rattle.files.proofs.Parts.{part_read}
use Rattle.cutter.specs.Cut.{remarked, elsewhere, mine, cut}
use Rattle.cutter.proofs.Sited.{Fit, sited}
use Rattle.cutter.proofs.Choose.{Choice, choice, chosen_iff, choice_subset, choice_length}
use Rattle.cutter.proofs.Remark.{remark, remarked_node, remarked_blocks, scan_chosen}

module _ (f cuts : List ℕ) (p : part_check f ≡ 0) (c : Fit (drop 1 f) cuts) (s : ℕ) (h : s < 16) where
  abbrev body : List ℕ
  body = map (remarked (elsewhere f cuts s)) (mine f cuts s)

  chosen : Choice (λ c. eqb c s) false (drop 1 f) cuts (mine f cuts s)
  chosen = choice (λ c. eqb c s) false (drop 1 f) cuts c

  body_length : suc (length body) ≤ length f
  body_length = omega (arith, (part_read f p).long, choice_length _ chosen, length-map (mine f cuts s) (remarked (elsewhere f cuts s)))

  pub cut_length : length (cut f cuts s) ≤ length f
  unfolding cut
  cut_length = body_length

  small : suc (length body) < 2 ^ 14
  small = omega (arith, (part_read f p).size, body_length)

  pub cut_site : site_of (get_or (cut f cuts s) 0 0) ≡ s
  unfolding cut
  cut_site = (header 1 s 0 (suc (length body)) (omega arith) h (omega arith) small).site_is

  -- the part's blocks are those of its site, marked anew
  pub cut_blocks : (b : Block) → Mem b (blocks (drop 1 (cut f cuts s))) ↔ ((a : Block) × Mem (a, s) (sited (blocks (drop 1 f)) cuts) × (remark (elsewhere f cuts s) a ≡ b))
  unfolding cut
  cut_blocks b =
      let i = map_iff (remark (elsewhere f cuts s)) b (blocks (mine f cuts s)) in
      rw (remarked_blocks (elsewhere f cuts s) (mine f cuts s)) (
        λ m.
            let (a, k, q) = i.0 m in
            let (t, k, e) = (chosen_iff (λ c. eqb c s) a (drop 1 f) cuts c).0 k in
            (a, subst (λ t. Mem (a, t) (sited (blocks (drop 1 f)) cuts)) (eqb→eq t s e) k, q),
        λ m. i.1 (m.0, (chosen_iff (λ c. eqb c s) m.0 (drop 1 f) cuts c).1 (s, m.1, eqb_refl s), m.2),
      )

  pub cut_words : ((w : ℕ) → Mem w f → w < 2 ^ 32) → (w : ℕ) → Mem w (cut f cuts s) → w < 2 ^ 32
  unfolding cut
  cut_words k w (here e) = omega (arith, (header 1 s 0 (suc (length body)) (omega arith) h (omega arith) small).word)
  cut_words k w (there m) =
      let (v, l, q) = Memᴰ.of_map (remarked (elsewhere f cuts s)) (mine f cuts s) m in
      elim (either (is_node v)) [
        | inl n ↦ omega (arith, (remarked_node (elsewhere f cuts s) v n).word)
        | inr n ↦ omega (arith, k v (mem_drop f (choice_subset _ chosen v l)), rw n at q)
      ]

  pub cut_accepted : part_check (cut f cuts s) ≡ 0
  unfolding cut
  cut_accepted = simp checks (
    omega (arith, small),
    scan_chosen (elsewhere f cuts s) (λ c. eqb c s) chosen _ _
        (record { low = omega arith; rooted = λ t. t; behind = λ t. absurd t; last = λ t. absurd t }) (part_read f p).words,
  )
