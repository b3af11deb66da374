-- A run of the whole question that no call refuses was right, whatever its buffers, bundles and links that end nowhere: its buffers were enough and its
-- bundles small, or a call would have refused; and no walk can take a link that ends nowhere, or the hub would have given 14. Assumes nothing.
use mathlib.Core.Path.{◌≡◌, sym, subst, ◌∙◌}
use mathlib.Core.List.Memᴰ
use mathlib.Core.List.{List, map}
use Prim.Native.Nat.{ℕ, ◌≤◌}
use native.Mathlib.Omega.{arith}
use lib.ListN.{length}
use Rattle.sets.specs.Sets.{Mem}
use Rattle.sets.proofs.Perm.{perm_same}
use Rattle.files.specs.Word.{bytes_of}
use Rattle.files.specs.Refuse.{size_check}
use Rattle.files.proofs.Checks.{checks}
use Rattle.files.proofs.Words.{words_bytes, bytes_length}
use Rattle.hub_calls.specs.CallList.{stray_check, call_list_call}
use Rattle.hub_join.specs.Join.{join_call}
use Rattle.demands.specs.Grouped.{first_call}
use Rattle.demands.specs.Question.{calls, join}
use Rattle.demands.specs.Demand.{Asked, NoneWalked, Put, Right, SmallBundles, Claim}
use Rattle.demands.proofs.Host.{stopped_going, going_same, bind_going, call_zero, ask_hub, ask_join, Zero, AllZero, all_zero}
use Rattle.demands.proofs.Owed.{first_of, bundle, list, bundle', owed}
use Rattle.demands.proofs.Accepts.{stray_none}
use Rattle.demands.proofs.Demand.{first_replies, to_hub, to_join, demand_3}
use Rattle.growth.specs.Growth.{Ended}
use Rattle.growth.proofs.Given.{first_given, calls_given, second_given, join_given}

-- a bundle that is read is not over its limit
short_bundle : (limit : ℕ) (f : List ℕ) → size_check limit (bytes_of f) ≡ 0 → length f ≤ limit
short_bundle limit f e = let h = simp checks at e in omega (arith, h.1, bytes_length f)

module _ (q : Asked) (r : Ended q) where
  -- each call has number 0
  abbrev all : AllZero q.groups r.room (bytes_of q.path) (map bytes_of r.order) (map bytes_of r.order')
  all = all_zero q.groups r.room (bytes_of q.path) (map bytes_of r.order) (map bytes_of r.order') r.answer r.run

  first_zero : (f : List ℕ) → Mem f q.parts → Zero (λ n m. first_call q.groups n m (bytes_of f) (bytes_of q.path)) (r.room.first (bytes_of f))
  first_zero f m = all.first_zero (bytes_of f) (Memᴰ.map bytes_of ((perm_same r.once).1 f m))

  -- the buffers were enough
  abbrev put : Put q
  put = record {
    order = r.order;
    order' = r.order';
    once = r.once;
    once' = r.once';
    room = r.room;
    enough = record {
      first = λ f m. (first_given _ _ q.groups (bytes_of f) (bytes_of q.path) (first_zero f m)).0;
      calls = (calls_given _ _ all.first_bundle all.calls_zero).0;
      second = λ f m. second_given _ _ q.groups (bytes_of f) (bytes_of q.path) all.call_list_lem
          (all.second_zero (bytes_of f) (Memᴰ.map bytes_of ((perm_same r.once').1 f m)));
      join = (join_given _ _ all.second_bundle all.join_zero).0;
    };
  }

  -- no first reply was over its limit
  short : (f : List ℕ) → Mem f q.parts → length (first_of q f) ≤ 4096
  short f m = rw (words_bytes f (q.cut.part f m).0, words_bytes q.path q.path_accepted.0) at
      (first_given _ _ q.groups (bytes_of f) (bytes_of q.path) (first_zero f m)).1

  -- the hub's turn: no bundle over its limit, no stray, no list over its limit
  hub : (length (bundle q put) ≤ 8192) × (stray_check (bundle q put) ≡ 0) × (length (list q put) ≤ 4096)
  hub =
      let (l, e, k) = bind_going (ask_hub q.groups r.room (bytes_of q.path) (bytes_of (bundle q put))) _ r.answer (sym (to_hub q put short) ∙ r.run) in
      let (n, s, t, f) = calls_given _ _ (bytes_of (bundle q put)) (call_zero calls (λ n m. call_list_call n m (bytes_of (bundle q put))) r.room.calls l e) in
      let w = words_bytes (bundle q put) (first_replies q put short).word in
      (short_bundle 8192 (bundle q put) s, subst (λ b. stray_check b ≡ 0) w t, rw w at f)

  -- so no walk can take a link that ends nowhere
  pub ended_none : NoneWalked q
  ended_none = (stray_none q (first_replies q put short)).0 hub.1

  joining : length (bundle' q put) ≤ 8192
  joining =
      let (f, e, k) = bind_going (ask_join q.groups r.room (bytes_of q.path) (bytes_of (bundle' q put))) _ r.answer
      (sym (to_join q put short ended_none hub.0 hub.2) ∙ r.run) in
      short_bundle 8192 (bundle' q put)
      (join_given _ _ (bytes_of (bundle' q put)) (call_zero join (λ n m. join_call n m (bytes_of (bundle' q put))) r.room.join f e)).1

  -- and demand 3 speaks of the run
  few : SmallBundles q put (owed q put)
  unfolding owed
  few = record { first = λ h. hub.0; second = λ n. joining }

  claim : Claim q put (owed q put)
  claim = demand_3.claim q ended_none put (owed q put) few

  pub ended_right : Right q r.answer
  ended_right =
      let (a, e, right) = claim.ends (λ by m over. let (c, e) = claim.over by m over in stopped_going (sym e ∙ r.run)) in
      subst (Right q) (going_same (sym e ∙ r.run)) right
