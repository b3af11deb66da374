-- The pairs of an accepted bundle found: its doors stand once and its root is one, index and stack have room, and what the search says of strays is
-- number 14. Assumes nothing.
use mathlib.Core.Path.{◌≡◌, refl, sym, ◌∙◌}
use mathlib.Core.Bool.{Bool, true, false, not}
use mathlib.Core.List.{List}
use Prim.Native.Nat.{ℕ, ◌≤◌, ◌<◌, ◌/◌}
use native.Mathlib.Omega.{arith}
use borrow.Author.Tests.{eqb-true}
use lib.Dec.{eqb}
use lib.ListN.{length}
use Rattle.sets.specs.Table.{half}
use Rattle.sets.proofs.Tables.{half_zero, zero_at}
use Rattle.sets.proofs.Tests.{is_true}
use Rattle.files.specs.Word.{words}
use Rattle.files.specs.Outcome.{zeros}
use Rattle.files.specs.Refuse.{◌unless◌}
use Rattle.files.specs.Reply.{reply_check, doors, roots}
use Rattle.files.specs.Bundle.{files_check, headers, headers_check, twice, first_bundle_check}
use Rattle.files.specs.Limits.{bundle_words, work_bytes}
use Rattle.files.proofs.Checks.{then_iff, unless_iff}
use Rattle.files.proofs.Files.{twice_iff}
use Rattle.files.proofs.Words.{words_length}
use Rattle.door_index.specs.Index.{DoorsOnce, Placed, Indexed}
use Rattle.door_index.proofs.Doors.{doors_once}
use Rattle.hub_search.specs.Search.{Roomy, Searched}
use Rattle.hub_search.proofs.Places.{room_both}
use Rattle.hub_calls.specs.CallList.{stray_check}
use Rattle.hub_calls.specs.Listing.{Listable}
use Rattle.hub_calls.proofs.CallLists.{called_lists, stray_iff, stray_given}

-- an accepted bundle has one root, and no door twice
pub one_root : (ws : List ℕ) → first_bundle_check ws ≡ 0 → DoorsOnce ws × (length (roots ws) ≡ 1)
one_root ws e =
    let a = ((then_iff (files_check 7 reply_check (length ws) ws) _).0 e).1 in
    let b = ((then_iff (headers_check (headers (length ws) ws)) _).0 a).1 in
    let (c, d) = (then_iff (7 unless eqb (length (roots ws)) 1) _).0 b in
    (doors_once ws ((twice_iff (doors ws)).0 ((unless_iff 13 (not (twice (doors ws))) refl).0 d)), eqb-true (length (roots ws)) 1 (is_true _ ((unless_iff 7 (eqb (length (roots ws)) 1) refl).0 c)))

-- the second half of the working buffer has room for the index and the stack
pub roomy : (b : List ℕ) {o w : List ℕ} {d : ℕ} → length b / 4 ≤ bundle_words → work_bytes ≤ length w → Indexed (words b) o w d → Roomy (words b) d w
roomy b few long x = record { few = omega (arith, words_length b); long = long; places = omega (arith, room_both (words b), x.all, words_length b) }

-- the table is zero beside the index
pub cleared : (ws : List ℕ) (n : ℕ) {w w' : List ℕ} → w ≡ zeros n → Placed ws w w' → (i : ℕ) → i < bundle_words → half w' 0 i ≡ 0
cleared ws n z p i l = p.front i l ∙ rw z (half_zero (zeros n) 0 i (zero_at n _) (zero_at n _))

-- 14, if there is a stray
pub stray_said : (ws : List ℕ) {d : ℕ} {w w' : List ℕ} {r : Bool} → Searched ws d w w' r → (14 unless not r) ≡ stray_check ws
stray_said ws {r = true} s = let (c, m, n) = s.strays refl in sym ((stray_given ws).1 (c, (called_lists ws).complete c m, n))
stray_said ws {r = false} s = sym ((stray_iff ws).1 (λ c m. s.homely refl c ((called_lists ws).sound c m)))

-- if there is none, the called pairs can be listed
pub stray_none : {r : Bool} → (14 unless not r) ≡ 0 → r ≡ false
stray_none {r = true} e = absurd (omega (arith, e))
stray_none {r = false} e = refl

pub listable : {ws o : List ℕ} {d : ℕ} {w w' : List ℕ} {r : Bool} → Indexed ws o w d → Searched ws d w w' r → r ≡ false → Listable ws w' d
listable x s t = record { all = x.all; places = λ k l. rw ((s.kept t).index k l) (x.places k l); called = s.called t; homely = s.homely t }
