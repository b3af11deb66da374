-- Demand 3 is about questions that a call ends too: row 15's part beside a site that has the root and the targets. The other site's reply comes
-- first in the bundle and is short; row 15's is over its limit, so its call ends the question, with 15. Assumes nothing.
use mathlib.Core.Path.{◌≡◌, refl}
use mathlib.Core.List.{List, [], ◌∷◌, flatten}
use Prim.Native.Nat.{ℕ}
use native.Mathlib.Omega.{arith}
use lib.Dec.{lit≤}
use lib.ListN.{length}
use Rattle.sets.specs.Sets.{perm-swap}
use Rattle.sets.specs.Reach.{closure}
use Rattle.sets.proofs.Perm.{perm-refl}
use Rattle.files.specs.Word.{bytes_of}
use Rattle.files.proofs.Words.{words_bytes}
use Rattle.walks.specs.Product.{step_in, reached}
use Rattle.first_replies.specs.FirstReply.{reported, door_words, first_reply}
use Rattle.first_replies.proofs.FirstReplies.{first_reply_lem}
use Rattle.dearest.specs.Dearest.{dear_part, dear_path}
use Rattle.bounds.proofs.Dearest.{request_13}
use Rattle.demands.specs.Question.{first, stopped}
use Rattle.demands.specs.Demand.{AcceptedPath, Asked, Put, question, in_order, First, at_once, later, Over}
use Rattle.demands.proofs.Owed.{owed}
use Rattle.witnesses.proofs.Asked.{words_by_test, asking, two_claim}
use Rattle.witnesses.proofs.TwoSites.{Site, site_accepted, two, two_none}

-- row 15's two doors with their nine targets each, and the site of the targets, the first of them the root
abbrev pub row15 : List ℕ
row15 = dear_part 2 9

unfoldable pub targets : List ℕ
targets =
    0x1100000a ∷ 0x20030002 ∷ 0x20010003 ∷ 0x20010004 ∷ 0x20010005 ∷ 0x20010006 ∷ 0x20010007 ∷ 0x20010008 ∷ 0x20010009 ∷ 0x2001000a ∷ []

pub row15_is : Site row15 0 0 2 [] (0 ∷ 1 ∷ []) (2 ∷ 3 ∷ 4 ∷ 5 ∷ 6 ∷ 7 ∷ 8 ∷ 9 ∷ 10 ∷ [])
unfolding flatten dear_part
row15_is = record { word = tt; short = tt; read = refl; site_is = refl; above = tt; below = tt; roots_are = refl; doors_are = refl; crosses = tt }

pub targets_is : Site targets 1 2 11 (2 ∷ []) (2 ∷ 3 ∷ 4 ∷ 5 ∷ 6 ∷ 7 ∷ 8 ∷ 9 ∷ 10 ∷ []) (0 ∷ 1 ∷ [])
unfolding targets
targets_is = record { word = tt; short = tt; read = refl; site_is = refl; above = tt; below = tt; roots_are = refl; doors_are = refl; crosses = tt }

pub ranges_accepted : AcceptedPath (dear_path 15)
unfolding dear_path
ranges_accepted = (words_by_test (dear_path 15) tt, lit≤ tt, refl)

abbrev pub over : Asked
over = two row15 targets row15_is targets_is refl (dear_path 15) ranges_accepted

-- the site of the targets comes first
abbrev pub over_put : Put over
over_put = asking over (targets ∷ row15 ∷ []) (row15 ∷ targets ∷ []) (perm-swap refl refl) (perm-refl over.parts)

targets_short : length (first_reply targets (dear_path 15)) ≡ 10
unfolding targets dear_path flatten closure step_in reached reported door_words first_reply
targets_short = refl

-- by the theorem of request 13
pub row15_over : length (first_reply row15 (dear_path 15)) ≡ 4355
row15_over =
    let d = request_13.dearest 2 9 15 refl in
    d.owed (first_reply row15 (dear_path 15)) (first_reply_lem row15 (dear_path 15) d.part_of.checked d.path_of.checked)

-- the first call that owes too long a reply is the second one that is made
pub over_first : First (Over over over_put (owed over over_put)) (in_order over over_put) (first (bytes_of row15))
unfolding owed
over_first = later {d = first (bytes_of targets)}
    (λ h. omega (arith, rw (words_bytes targets (site_accepted targets_is).0) at h, targets_short))
    (at_once {c = first (bytes_of row15)} (rw (words_bytes row15 (site_accepted row15_is).0) (omega (arith, row15_over))))

-- row 15's call ends the question
pub over_stops : question over over_put ≡ stopped (first (bytes_of row15)) 15
over_stops = ((two_claim over (two_none row15 targets row15_is targets_is refl (dear_path 15) ranges_accepted) over_put (omega arith)).stops (first (bytes_of row15)) 15).1 (over_first, refl)
