-- What a call that is not refused was given: enough room, accepted inputs, and a result within its limit. Assumes nothing.
use mathlib.Core.Path.{◌≡◌}
use mathlib.Core.List.{List}
use Prim.Native.Nat.{ℕ, ◌≤◌}
use lib.ListN.{length}
use Rattle.files.specs.Word.{words}
use Rattle.files.specs.Refuse.{◌then◌, room_check, size_check}
use Rattle.files.specs.Outcome.{outcome, leaves}
use Rattle.files.specs.Groups.{loaded}
use Rattle.files.specs.Bundle.{first_bundle_check}
use Rattle.files.proofs.Checks.{checks, then_iff, zero_accepted}
use Rattle.first_replies.specs.FirstReply.{first_reply}
use Rattle.site_first.specs.First.{first_reply_call, first_reply_grouped_call}
use Rattle.site_second.specs.Second.{second_reply_call, second_reply_grouped_call}
use Rattle.hub_calls.specs.CallList.{stray_check, call_list, call_list_call}
use Rattle.hub_join.specs.Join.{join_call}
use Rattle.old.specs.Old.{old_search_call, old_search_grouped_call}
use Rattle.demands.specs.Grouped.{Groups, ours, own, asks, first_call, second_call, old_call}
use Rattle.demands.specs.Demand.{Enough}

-- every call checks the room of its result first
pub given : (limit out work rest : ℕ) (result : List ℕ) → (leaves (outcome (room_check limit out work then rest) limit result) out work).number ≡ 0
    → Enough limit out work × (rest ≡ 0) × (length result ≤ limit)
given limit out work rest result e =
    let (k, l, r) = zero_accepted (room_check limit out work then rest) limit result out work e in
    let (i, j) = (then_iff (room_check limit out work) rest).0 k in
    (simp checks at i, j, l)

module _ (out work : ℕ) where
  pub first_given : (groups : Groups) (part path : List ℕ) → (leaves (first_call groups out work part path) out work).number ≡ 0
      → Enough 4096 out work × (length (first_reply (words part) (asks groups (words path))) ≤ 4096)
  unfolding first_reply_call first_reply_grouped_call
  first_given ours part path e = let (r, k, l) = given 4096 out work _ (first_reply (words part) (words path)) e in (r, l)
  first_given (own bytes) part path e = let (r, k, l) = given 4096 out work _ (first_reply (words part) (loaded (words bytes) (words path))) e in (r, l)

  pub calls_given : (bundle : List ℕ) → (leaves (call_list_call out work bundle) out work).number ≡ 0
      → Enough 4096 out work × (size_check 8192 bundle ≡ 0) × (stray_check (words bundle) ≡ 0) × (length (call_list (words bundle)) ≤ 4096)
  unfolding call_list_call
  calls_given bundle e =
      let (r, k, l) = given 4096 out work _ (call_list (words bundle)) e in
      let (s, k) = (then_iff (size_check 8192 bundle) _).0 k in
      (r, s, ((then_iff (first_bundle_check (words bundle)) _).0 k).1, l)

  pub second_given : (groups : Groups) (part path list : List ℕ) → (leaves (second_call groups out work part path list) out work).number ≡ 0 → Enough 4096 out work
  unfolding second_reply_call second_reply_grouped_call
  second_given ours part path list e = (given 4096 out work _ _ e).0
  second_given (own bytes) part path list e = (given 4096 out work _ _ e).0

  pub join_given : (bundle : List ℕ) → (leaves (join_call out work bundle) out work).number ≡ 0 → Enough 8192 out work × (size_check 8192 bundle ≡ 0)
  unfolding join_call
  join_given bundle e = let (r, k, l) = given 8192 out work _ _ e in (r, ((then_iff (size_check 8192 bundle) _).0 k).0)

  pub old_given : (groups : Groups) (whole path : List ℕ) → (leaves (old_call groups out work whole path) out work).number ≡ 0 → Enough 8192 out work
  unfolding old_search_call old_search_grouped_call
  old_given ours whole path e = (given 8192 out work _ _ e).0
  old_given (own bytes) whole path e = (given 8192 out work _ _ e).0
