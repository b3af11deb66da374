-- The plants of the load bench, asked both ways: whatever the draws, the counts within their bounds, the cut list, the groups and the path, a split
-- search that no call refuses ends with the old search's list of the generated file. Assumes nothing.
use mathlib.Core.Path.{◌≡◌, refl}
use mathlib.Core.List.{List, [], ◌∷◌, flatten}
use Prim.Native.Nat.{ℕ}
use lib.Dec.{lit≤}
use Rattle.sets.specs.Reach.{closure}
use Rattle.files.specs.Word.{words, bytes_of}
use Rattle.files.specs.Outcome.{accepted}
use Rattle.files.specs.Cuts.{cut_check}
use Rattle.files.proofs.Parts.{whole_part}
use Rattle.walks.specs.Product.{step_in, reached, answers}
use Rattle.first_replies.specs.FirstReply.{reported, door_words, first_reply}
use Rattle.site_first.specs.First.{first_reply_call}
use Rattle.site_second.specs.Second.{second_reply, second_reply_call}
use Rattle.hub_calls.specs.CallList.{called, call_list, call_list_call}
use Rattle.hub_join.specs.Join.{joined, join_call}
use Rattle.cutter.specs.Cut.{cut}
use Rattle.table.specs.Table.{b}
use Rattle.draws.specs.Draws.{drawn}
use Rattle.generator.specs.Generate.{generated, bounds_check}
use Rattle.generated.specs.Generated.{IsGenerated}
use Rattle.generated.proofs.Generated.{request_2}
use Rattle.demands.specs.Plant.{body}
use Rattle.demands.specs.Grouped.{Groups, ours, AcceptedGroups, old_call}
use Rattle.demands.specs.Question.{going, ask}
use Rattle.demands.specs.Demand.{AcceptedPath, Asked, Enough, question}
use Rattle.demands.proofs.PlantOf.{plant_one_root, plant_fits}
use Rattle.growth.specs.Growth.{Ended}
use Rattle.growth.proofs.Ended.{ended_right}
use Rattle.witnesses.proofs.Asked.{asked_of, words_by_test, in_turn, ended}

module _ (d : ℕ → ℕ) (n k : ℕ) (counts : bounds_check n k ≡ 0) (cuts path : List ℕ) (cut-read : cut_check (body (generated d n k)) cuts 0 ≡ 0)
    (path-ok : AcceptedPath path) (groups : Groups) (groups-ok : AcceptedGroups groups) where
  abbrev file : IsGenerated d n k (generated d n k)
  file = request_2.file d n k counts

  abbrev pub bench_asked : Asked
  bench_asked =
      asked_of (generated d n k) cuts path file.word file.within (whole_part (generated d n k) file.whole) (plant_one_root (generated d n k) file.whole) 0 cut-read
      path-ok groups groups-ok

  pub bench_same : (run : Ended bench_asked) (out work : ℕ) → Enough 8192 out work
      → old_call groups out work (bytes_of (generated d n k)) (bytes_of path) ≡ accepted (words run.answer.final)
  bench_same run out work = (ended_right bench_asked run).old (generated d n k) (plant_fits (generated d n k) file.word file.within file.whole) out work

-- such a run: three nodes with two edges each, from state 0, on two sites, and any number of links; all nodes are listed
abbrev any_links : List ℕ
any_links = 0x40100003 ∷ 0x51000000 ∷ 0x60000003 ∷ []

cuts_read : cut_check (body (generated (drawn 0) 3 2)) (0 ∷ 1 ∷ 0 ∷ []) 0 ≡ 0
unfolding generated flatten
cuts_read = refl

abbrev plan : Asked
plan = bench_asked (drawn 0) 3 2 refl (0 ∷ 1 ∷ 0 ∷ []) any_links cuts_read (words_by_test any_links tt, lit≤ tt, refl) ours tt

bench_run : question plan (in_turn plan) ≡ going (record { seconds = b (0xd0100003 ∷ 0xe0000000 ∷ 0xe0000002 ∷ []) ∷ b (0xd1100002 ∷ 0xe0000001 ∷ []) ∷ []; final = b (0xf0000004 ∷ 0xe0000000 ∷ 0xe0000001 ∷ 0xe0000002 ∷ []) })
unfolding ask flatten closure step_in reached answers reported door_words first_reply first_reply_call second_reply second_reply_call called call_list call_list_call joined join_call cut generated
bench_run = refl

bench_ended : Ended plan
bench_ended = ended plan (in_turn plan) _ bench_run
