-- The second reply's code: the search from the called pairs, and the reply that is written. Assumes nothing.
use mathlib.Core.Path.{◌≡◌}
use mathlib.Core.List.{List, map}
use Prim.Native.Nat.{ℕ, ◌^◌, ◌<◌}
use lib.ListN.{length, get_or, drop}
use Rattle.files.specs.Field.{site_of, labels_of, answer_word}
use Rattle.files.specs.Outcome.{zeros}
use Rattle.files.specs.Limits.{reply_words}
use Rattle.expressions.specs.Expr.{Expr}
use Rattle.paths.specs.Letters.{reads}
use Rattle.paths.specs.Automaton.{Automates}
use Rattle.paths.specs.declared.automaton.Automaton.{Automaton}
use Rattle.walks.specs.Product.{answers}
use Rattle.part_search.specs.Search.{Searched}
use Rattle.preparing.specs.Prepare.{Prepared}
use Rattle.part_search.proofs.Stepping.{tables_kept}
use Rattle.preparing.proofs.Preparing.{follows, tables}
use Rattle.output.specs.Writer.{Writes, Filed}
use Rattle.output.specs.Frame.{Closes}
use Rattle.output.proofs.Frame.{filed}
use Rattle.listing.specs.Listing.{answer_words}
use Rattle.listing.proofs.Answering.{answers_are}
use Rattle.site_second.specs.Second.{called_in, second_reply}
use Rattle.site_calls.specs.Called.{SeededAll}
use Rattle.site_second.proofs.SecondReplies.{found, second_is}

pub called_answers : (ws cs : List ℕ) (a : Automaton) (small : a.accepts < 2 ^ 16) (t : ℕ) (w₁ w₂ w₃ : List ℕ) (top : ℕ)
    → Prepared ws (reads a.letters) t w₁ → SeededAll ws cs t w₁ w₂ top → Searched ws t a.follow w₂ w₃
    → (e : Expr) → Automates a e → answer_words ws w₃ a.accepts (length ws) ≡ map answer_word (answers (drop 1 ws) e (called_in (drop 1 ws) (drop 1 cs)))
called_answers ws cs a small t w₁ w₂ w₃ top prepared seeded searched e h =
    let tab = tables_kept seeded.kept (tables ws a e t w₁ h prepared) in
    answers_are ws t a.follow w₂ w₃ searched tab.laid e (called_in (drop 1 ws) (drop 1 cs)) (follows a e h) tab.masked
    seeded.marks a.accepts small h.accepting

-- the answers vs, written behind the header's place and closed: of an output of m bytes, o₁ is cleared, o₂ has them, o₃ is closed; v and w
-- are the headers of part and path
pub reply_filed : (f path calls vs : List ℕ) {m s n count r v w : ℕ} {o₁ o₂ o₃ : List ℕ} → Closes 13 s n reply_words o₂ count o₃ r
    → Writes reply_words (length o₁) o₁ 1 o₂ count vs → vs ≡ map answer_word (found f path calls) → s ≡ site_of v → v ≡ get_or f 0 0 → n ≡ labels_of w → w ≡ get_or path 0 0
    → o₁ ≡ zeros m → length o₂ ≡ m → Filed reply_words m (second_reply f path calls) o₃ r
reply_filed f path calls vs c g e es ev en ew z q = rw (second_is f path calls, ← e, ← ev, ← es, ← ew, ← en) (filed vs c g z q)
