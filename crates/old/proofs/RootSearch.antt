-- The old search's code: the search from the root, and the final list that is written. Assumes nothing.
use mathlib.Core.Path.{◌≡◌}
use mathlib.Core.Bool.{true}
use mathlib.Core.List.{List, [], ◌∷◌, map}
use Prim.Native.Nat.{ℕ, ◌^◌, ◌<◌}
use lib.ListN.{length, get_or, drop}
use Rattle.sets.proofs.Cases.{and_left}
use Rattle.files.specs.Field.{root_of, pair, answer_word}
use Rattle.files.specs.Outcome.{zeros}
use Rattle.files.specs.Part.{is_node, is_root, roots, whole_check}
use Rattle.kinds.specs.Seek.{FirstThat}
use Rattle.kinds.proofs.Roots.{root_marked, marked_root}
use Rattle.files.specs.Limits.{final_words}
use Rattle.expressions.specs.Expr.{Expr}
use Rattle.expressions.specs.Labels.{expr_of}
use Rattle.paths.specs.Letters.{reads}
use Rattle.paths.specs.Automaton.{Automates}
use Rattle.paths.specs.declared.automaton.Automaton.{Automaton}
use Rattle.slots.specs.Slots.{node_at, number}
use Rattle.walks.specs.Product.{answers}
use Rattle.part_search.specs.Search.{Seeded, Searched}
use Rattle.preparing.specs.Prepare.{Prepared}
use Rattle.part_search.proofs.Seeding.{marks_none}
use Rattle.part_search.proofs.Stepping.{tables_kept}
use Rattle.preparing.proofs.Preparing.{follows, tables}
use Rattle.output.specs.Writer.{Writes, Filed}
use Rattle.output.specs.Frame.{Closes}
use Rattle.output.proofs.Frame.{filed}
use Rattle.listing.specs.Listing.{answer_words}
use Rattle.listing.proofs.Answering.{answers_are}
use Rattle.old.specs.Old.{listed}
use Rattle.old.proofs.OldSearch.{root_pairs, listed_is}

-- a root word is a node word
pub root_node : (ws : List ℕ) (i : ℕ) → is_root (get_or ws i 0) ≡ true → node_at ws i ≡ true
unfolding node_at
root_node ws i = and_left (is_node (get_or ws i 0)) (root_of (get_or ws i 0))

module _ (ws : List ℕ) (c : whole_check ws ≡ 0) where
  pub root_is : (i : ℕ) → FirstThat is_root ws i → is_root (get_or ws i 0) ≡ true
  root_is = root_marked ws c

  -- the number at a root word is the root
  module _ (i : ℕ) (root : is_root (get_or ws i 0) ≡ true) where
    root_number : roots (drop 1 ws) ≡ number ws i ∷ []
    unfolding number
    root_number = marked_root ws c i root

    -- the search from it
    module _ (a : Automaton) (small : a.accepts < 2 ^ 16) (t : ℕ) (w₁ w₂ w₃ : List ℕ) (top : ℕ)
        (prepared : Prepared ws (reads a.letters) t w₁) (seeded : Seeded ws t w₁ w₂ i 0 top) (searched : Searched ws t a.follow w₂ w₃) where
      pub root_answers : (e : Expr) → Automates a e → answer_words ws w₃ a.accepts (length ws) ≡ map answer_word (answers (drop 1 ws) e (root_pairs ws))
      root_answers e h =
          let tab = tables_kept seeded.kept (tables ws a e t w₁ h prepared) in
          rw root_number
          (answers_are ws t a.follow w₂ w₃ searched tab.laid e (pair (number ws i) 0 ∷ []) (follows a e h) tab.masked
          (seeded.marks [] (marks_none ws w₁ prepared.blank)) a.accepts small h.accepting)

-- the answers vs, written behind the header's place and closed: of an output of m bytes, o₁ is cleared, o₂ has them, o₃ is closed
pub list_filed : (f path vs : List ℕ) {m count r : ℕ} {o₁ o₂ o₃ : List ℕ} → Closes 15 0 0 final_words o₂ count o₃ r → Writes final_words (length o₁) o₁ 1 o₂ count vs
    → vs ≡ map answer_word (answers (drop 1 f) (expr_of (drop 1 path)) (root_pairs f)) → o₁ ≡ zeros m → length o₂ ≡ m → Filed final_words m (listed f path) o₃ r
list_filed f path vs c g e z q = rw (listed_is f path, ← e) (filed vs c g z q)
