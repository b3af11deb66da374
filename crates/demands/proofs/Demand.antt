-- Demands 2 and 3, for every plant, cut, groups, path, two orders and buffers. Demand 3 is about the run of the whole question: each call gives what it
-- owes or is refused with 15, so the run goes on from call to call, or stops at one whose reply or list is over its limit. Assumes nothing.
use mathlib.Core.Path.{◌≡◌, refl, sym, ◌∙◌, ap, subst, subst₂}
use mathlib.Core.Logic.{◌↔◌, ◌⊎◌, inl, inr}
use mathlib.Core.List.Memᴰ
use mathlib.Core.List.{List, [], ◌∷◌, ◌++◌, map, map-map, flatten}
use Prim.Native.Nat.{ℕ, ◌≤◌, ◌<◌}
use native.Mathlib.Omega.{arith}
use native.Mathlib.Decide.{dec_lt}
use lib.ListN.{length, drop}
use Rattle.sets.specs.Sets.{Mem, here, there, Perm, Lists}
use Rattle.sets.proofs.Sets.{lists_iff, on_cons}
use Rattle.sets.proofs.Perm.{perm_same, perm_map}
use Rattle.files.specs.Word.{words, bytes_of}
use Rattle.files.specs.Outcome.{Outcome, accepted}
use Rattle.files.specs.Part.{nodes}
use Rattle.files.specs.Answers.{answers_of}
use Rattle.files.proofs.Words.{words_bytes}
use Rattle.files.proofs.Bytes.{bytes_flatten}
use Rattle.first_replies.specs.FirstReply.{first_reply}
use Rattle.site_second.specs.Second.{called_in, second_reply_call}
use Rattle.site_second.proofs.SecondReplies.{found}
use Rattle.first_replies.proofs.FirstReplies.{first_reply_lem, first_unique}
use Rattle.first_replies.proofs.Traffic.{traffic}
use Rattle.hub_calls.specs.CallList.{call_list, call_list_call}
use Rattle.hub_join.specs.Join.{joined, join_call}
use Rattle.old.specs.Old.{listed, old_search_call}
use Rattle.site_first.specs.First.{first_reply_call}
use Rattle.expressions.specs.Labels.{expr_of}
use Rattle.demands.specs.Plant.{Plant, Fits, Found, FinalList, FinalListBy, body}
use Rattle.demands.specs.Grouped.{ours, groups_of, asks, first_call, second_call}
use Rattle.demands.specs.Question.{Room, Call, first, calls, second, join, Asking, stopped, going, ◌>>=◌, call, each, Answer, ask}
use Rattle.demands.specs.Demand.{Enough, AcceptedPath, Demand2, Asked, NoneWalked, Put, Right, question, in_order, First, at_once, later, Owed, Over, NoneOver, SmallBundles, Claim, Demand3}
use Rattle.demands.proofs.Comes.{found_iff}
use Rattle.demands.proofs.Cross.{cross_answers}
use Rattle.demands.proofs.OldSearch.{final_unique, old_final}
use Rattle.demands.proofs.Accepts.{path, path_read, e, small, none_ends, firsts, Owes, Gathered, gathered, called_iff, first_call_lem, hub_call_lem, second_call_lem, Answered, answered, join_call_lem, join_lists, join_perm, first_sized, list_sized, second_sized, joined_sized, joined_words}
use Rattle.demands.proofs.Grouping.{asks_checked, asks_head, old_asked, final_asked}
use Rattle.demands.proofs.Host as host
use Rattle.demands.proofs.Host.{call_gives, call_refuses, each_gives, stops_here, stops_later, stopped_going}
use Rattle.demands.proofs.Owed.{first_of, second_of, bundle, list, bundle', owed, Agree, owed_once}

-- a plant that fits one file
pub demand_2 : Demand2
demand_2 p whole groups path fits g ok n m r = (
  listed whole (asks groups path),
  old_asked n m path ok groups whole g r fits.word fits.small fits.whole,
  (final_asked p groups path g (listed whole (asks groups path))).0
      (old_final p whole fits.whole fits.holds fits.every (asks groups path) (asks_checked groups path g ok.2)),
)

-- files written and put together are the bytes of a bundle
bundle_bytes : {A : Type 0} (write : A → List ℕ) (fs : List A) → flatten (map (λ f. bytes_of (write f)) fs) ≡ bytes_of (flatten (map write fs))
bundle_bytes write fs = ap flatten (sym (map-map bytes_of write fs)) ∙ bytes_flatten (map write fs)

module _ (q : Asked) where
  -- the parts find what walks from the root find
  found_is : {order : List (List ℕ)} → NoneWalked q → Gathered q order
      → (x : ℕ) → ((f : List ℕ) × Mem f q.parts × Mem x (found f (path q) (call_list (flatten order)))) ↔ Found q.plant (e q) x
  found_is {order} none g x = (
    λ (f, m, k). ((answers f m).sound x k).1,
    λ k.
        let (f, m, n) = q.cut.every x ((found_iff q.plant (e q) x).0 k).0.0 in
        (f, m, (answers f m).complete x (n, k)),
  )
    where
      answers : (f : List ℕ) → Mem f q.parts
          → Lists (λ x. Mem x (nodes (body f)) × Found q.plant (e q) x) (found f (path q) (call_list (flatten order)))
      answers f m = cross_answers q.plant q.parts q.cut q.one_root (e q) (small q) ((none_ends q).0 none) f m
          (called_in (body f) (drop 1 (call_list (flatten order)))) (called_iff q g f)

  module _ (u : Put q) where
    -- the sites' and the hub's calls, as the host makes them
    abbrev first_outcome : List ℕ → ℕ → ℕ → Outcome
    first_outcome part n m = first_call q.groups n m part (bytes_of q.path)

    abbrev ask_first : List ℕ → Asking (List ℕ)
    ask_first = host.ask_first q.groups u.room (bytes_of q.path)

    abbrev second_outcome : List ℕ → List ℕ → ℕ → ℕ → Outcome
    second_outcome called part n m = second_call q.groups n m part (bytes_of q.path) called

    abbrev ask_second : List ℕ → List ℕ → Asking (List ℕ)
    ask_second = host.ask_second q.groups u.room (bytes_of q.path)

    -- the question after the second bundle, after the call list, and after the first bundle
    abbrev last : List (List ℕ) → Asking Answer
    last = host.after_seconds q.groups u.room (bytes_of q.path)

    abbrev after : List ℕ → Asking Answer
    after = host.after_list q.groups u.room (bytes_of q.path) (map bytes_of u.order')

    abbrev hub : List (List ℕ) → Asking Answer
    hub = host.after_firsts q.groups u.room (bytes_of q.path) (map bytes_of u.order')

    is_run : question q u ≡ (each ask_first (map bytes_of u.order) >>= hub)
    is_run = host.ask_is q.groups u.room (bytes_of q.path) (map bytes_of u.order) (map bytes_of u.order')

    part_of : (f : List ℕ) → Mem f u.order → Mem f q.parts
    part_of = (perm_same u.once).0

    part_of' : (f : List ℕ) → Mem f u.order' → Mem f q.parts
    part_of' = (perm_same u.once').0

    first_owes : (f : List ℕ) → Mem f u.order
        → Owes (first_call q.groups (u.room.first (bytes_of f)).out (u.room.first (bytes_of f)).work (bytes_of f) (bytes_of q.path)) 4096 (first_of q f)
    first_owes f m = first_call_lem q _ _ (u.enough.first f (part_of f m)) f (part_of f m)

    abbrev Short : Type 0
    Short = (f : List ℕ) → Mem f q.parts → length (first_of q f) ≤ 4096

    first_gives : (f : List ℕ) → Mem f u.order → length (first_of q f) ≤ 4096 → ask_first (bytes_of f) ≡ going (bytes_of (first_of q f))
    first_gives f m h = call_gives (first (bytes_of f)) (first_outcome (bytes_of f)) (u.room.first (bytes_of f)) (first_of q f) (first_sized q f (part_of f m) h) ((first_owes f m).gives h)

    first_over : (f : List ℕ) → Mem f u.order → 4096 < length (first_of q f) → ask_first (bytes_of f) ≡ stopped (first (bytes_of f)) 15
    first_over f m h = call_refuses (first (bytes_of f)) (first_outcome (bytes_of f)) (u.room.first (bytes_of f)) 14 ((first_owes f m).over h)

    -- no first reply is over its limit: the hub's turn
    module _ (short : Short) where
      all : (f : List ℕ) → Mem f (firsts q) → length f ≤ 4096
      all f m = let (g, i, e) = Memᴰ.of_map (first_of q) q.parts m in subst (λ z. length z ≤ 4096) e (short g i)

      pub first_replies : Gathered q (map (first_of q) u.order)
      first_replies = gathered q all (map (first_of q) u.order) (perm_map (first_of q) u.once)

      pub to_hub : question q u ≡ (call calls (λ n m. call_list_call n m (bytes_of (bundle q u))) u.room.calls >>= after)
      to_hub =
          is_run
          ∙ ap (λ x. x >>= hub) (each_gives ask_first bytes_of (λ f. bytes_of (first_of q f)) u.order (λ f m. first_gives f m (short f (part_of f m))))
          ∙ ap (λ b. call calls (λ n m. call_list_call n m b) u.room.calls >>= after) (bundle_bytes (first_of q) u.order)

    -- nor is a link that ends nowhere walked: the call list, or 15
    module _ (short : Short) (none : NoneWalked q) (small : length (bundle q u) ≤ 8192) where
      hub_owes : Owes (call_list_call u.room.calls.out u.room.calls.work (bytes_of (bundle q u))) 4096 (list q u)
      hub_owes = hub_call_lem q (first_replies short) none small _ _ u.enough.calls

      stops_hub : 4096 < length (list q u) → question q u ≡ stopped calls 15
      stops_hub h = to_hub short ∙ ap (λ x. x >>= after) (call_refuses calls (λ n m. call_list_call n m (bytes_of (bundle q u))) u.room.calls 14 (hub_owes.over h))

      -- the call list is not over its limit either: the sites' second turn, and joining
      module _ (fits : length (list q u) ≤ 4096) where
        second_replies : Answered q (list q u) (map (second_of q (list q u)) u.order')
        second_replies = answered q (list q u) (map (second_of q (list q u)) u.order') (perm_map (second_of q (list q u)) u.once')

        second_gives : (f : List ℕ) → Mem f u.order' → ask_second (bytes_of (list q u)) (bytes_of f) ≡ going (bytes_of (second_of q (list q u) f))
        second_gives f m =
            call_gives (second (bytes_of f)) (second_outcome (bytes_of (list q u)) (bytes_of f)) (u.room.second (bytes_of f)) (second_of q (list q u) f) (second_sized q (list q u) f (part_of' f m))
            (second_call_lem q (first_replies short) fits _ _ (u.enough.second f (part_of' f m)) f (part_of' f m))

        abbrev replies : List (List ℕ)
        replies = map (λ f. bytes_of (second_of q (list q u) f)) u.order'

        pub to_join : question q u
            ≡ (call join (λ n m. join_call n m (bytes_of (bundle' q u))) u.room.join >>= (λ f. going (record { seconds = replies; final = f })))
        to_join =
            to_hub short
            ∙ ap (λ x. x >>= after) (call_gives calls (λ n m. call_list_call n m (bytes_of (bundle q u))) u.room.calls (list q u) (list_sized q (first_replies short) fits) (hub_owes.gives fits))
            ∙ ap (λ x. x >>= last)
            (each_gives (ask_second (bytes_of (list q u))) bytes_of (λ f. bytes_of (second_of q (list q u) f)) u.order' second_gives)
            ∙ ap (λ b. call join (λ n m. join_call n m b) u.room.join >>= (λ f. going (record { seconds = replies; final = f })))
            (bundle_bytes (second_of q (list q u)) u.order')

        -- nor is the second bundle over its limit
        module _ (small' : length (bundle' q u) ≤ 8192) where
          abbrev given : Answer
          given = record { seconds = replies; final = bytes_of (joined (bundle' q u)) }

          run_ends : question q u ≡ going given
          run_ends =
              to_join
              ∙ ap (λ x. x >>= (λ f. going (record { seconds = replies; final = f })))
              (call_gives join (λ n m. join_call n m (bytes_of (bundle' q u))) u.room.join (joined (bundle' q u)) (joined_sized q second_replies small')
              (join_call_lem q second_replies small' _ _ u.enough.join))

          joined_final : FinalList q.plant (e q) (joined (bundle' q u))
          joined_final =
              let (xs, all', is) = join_lists q second_replies in
              (xs, lists_iff (found_is none (first_replies short)) all', is)

          final_words_lem : words given.final ≡ joined (bundle' q u)
          final_words_lem = words_bytes (joined (bundle' q u)) (joined_words q second_replies small')

          seconds_words : words (flatten given.seconds) ≡ bundle' q u
          seconds_words =
              ap words (bundle_bytes (second_of q (list q u)) u.order')
              ∙ words_bytes (bundle' q u) second_replies.word

          ending : (a : Answer) × (question q u ≡ going a) × Right q a
          ending = (
            given,
            run_ends,
            record {
              final = (final_asked q.plant q.groups q.path q.groups_accepted (words given.final)).0 (subst (FinalList q.plant (e q)) (sym final_words_lem) joined_final);
              once = subst₂ (λ s f. Perm (answers_of s) (answers_of f)) (sym seconds_words) (sym final_words_lem)
                  (join_perm q second_replies small');
              old = λ whole fit n m r.
                  old_asked n m q.path q.path_accepted q.groups whole q.groups_accepted r fit.word fit.small fit.whole
                  ∙ ap accepted (final_unique q.plant (e q) (old_final q.plant whole fit.whole fit.holds fit.every (path q) (path_read q)) joined_final ∙ sym final_words_lem);
            },
          )

    -- the question stops at the first call that owes a reply or a list over its limit, or ends where none does
    module _ (none-walked : NoneWalked q) (o : Owed q u) (few : SmallBundles q u o) where
      same : Agree q u o (owed q u)
      same = owed_once q u o (owed q u)

      -- what a part's first reply owes, from the call's bytes
      first_is : (f : List ℕ) → Mem f q.parts → o.first_of (words (bytes_of f)) ≡ first_of q f
      unfolding owed
      first_is f m = ap o.first_of (words_bytes f (q.cut.part f m).0) ∙ same.first f m

      first_short : (f : List ℕ) → Mem f q.parts → (Over q u o (first (bytes_of f)) → ⊥) → length (first_of q f) ≤ 4096
      first_short f m n = omega (arith, rw (first_is f m) at n)

      list_short : (Over q u o calls → ⊥) → length (list q u) ≤ 4096
      unfolding owed
      list_short n = omega (arith, rw same.list_is at n)

      first_small : Short → length (bundle q u) ≤ 8192
      unfolding owed
      first_small short = rw same.bundle_is at (few.first (λ f m. rw (same.first f m) (short f m)))

      -- the sites' first calls
      firsts_run : (fs : List (List ℕ)) (cs : List Call) (by : Call) → ((f : List ℕ) → Mem f fs → Mem f u.order)
          → First (Over q u o) (map (λ f. first (bytes_of f)) fs ++ cs) by
          → (each ask_first (map bytes_of fs) ≡ stopped by 15) ⊎ (((f : List ℕ) → Mem f fs → length (first_of q f) ≤ 4096) × First (Over q u o) cs by)
      firsts_run [] cs by i r = inr (λ f m. elim m [ ], r)
      firsts_run (f ∷ fs) cs by i (at_once h) =
          let m = i f (here refl) in
          inl (stops_here ask_first bytes_of f fs (first (bytes_of f)) 15 (first_over f m (rw (first_is f (part_of f m)) at h)))
      firsts_run (f ∷ fs) cs by i (later n r) =
          let m = i f (here refl) in
          let h = first_short f (part_of f m) n in
          elim (firsts_run fs cs by (λ g k. i g (there k)) r) [
            | inl s ↦ inl (stops_later ask_first bytes_of f fs (bytes_of (first_of q f)) by 15 (first_gives f m h) s)
            | inr (a, r) ↦ inr (on_cons (λ g. length (first_of q g) ≤ 4096) h a, r)
          ]

      -- the hub's call list and what comes behind it
      abbrev hub_on : List Call
      hub_on = calls ∷ (map (λ f. second (bytes_of f)) u.order' ++ (join ∷ []))

      -- no call behind the call list owes a reply or a list over its limit
      none_behind : (fs : List (List ℕ)) (by : Call) → First (Over q u o) (map (λ f. second (bytes_of f)) fs ++ (join ∷ [])) by → ⊥
      none_behind [] by (at_once h) = h
      none_behind [] by (later n r) = elim r [ ]
      none_behind (f ∷ fs) by (at_once h) = h
      none_behind (f ∷ fs) by (later n r) = none_behind fs by r

      hub_run : Short → (by : Call) → First (Over q u o) hub_on by → question q u ≡ stopped by 15
      unfolding owed
      hub_run short by (at_once h) = stops_hub short none-walked (first_small short) (rw same.list_is at h)
      hub_run short by (later n r) = absurd (none_behind u.order' by r)

      stops : (by : Call) → First (Over q u o) (in_order q u) by → question q u ≡ stopped by 15
      stops by r = elim (firsts_run u.order hub_on by (λ f m. m) r) [
        | inl s ↦ is_run ∙ ap (λ x. x >>= hub) s
        | inr (short, r) ↦ hub_run (λ f m. short f ((perm_same u.once).1 f m)) by r
      ]

      ends : NoneOver q u o → (a : Answer) × (question q u ≡ going a) × Right q a
      unfolding owed
      ends none = ending short none-walked (first_small short) (list_short (none calls hub_call_lem)) (rw same.bundle_is' at (few.second none))
        where
          short : Short
          short f m = first_short f m (none (first (bytes_of f)) (Memᴰ.append_left hub_on (Memᴰ.map (λ f. first (bytes_of f)) ((perm_same u.once).1 f m))))

          hub_call_lem : Mem calls (in_order q u)
          hub_call_lem = Memᴰ.append_right (map (λ f. first (bytes_of f)) u.order) (here refl)

      -- whether a call owes a reply or a list over its limit can be told
      decide : (c : Call) → Dec (Over q u o c)
      decide (first part) = dec_lt 4096 (length (o.first_of (words part)))
      decide calls = dec_lt 4096 (length o.list)
      decide (second part) = no (λ h. h)
      decide join = no (λ h. h)

      some_first : (cs : List Call) → ((c : Call) × First (Over q u o) cs c) ⊎ ((c : Call) → Mem c cs → Over q u o c → ⊥)
      some_first [] = inr (λ c m. elim m [ ])
      some_first (c ∷ cs) = elim (decide c) [
        | yes h ↦ inl (c, at_once h)
        | no n ↦ elim (some_first cs) [ inl (d, r) ↦ inl (d, later n r) | inr a ↦ inr (on_cons (λ c. Over q u o c → ⊥) n a) ]
      ]

      -- a question stops in one way
      same_stop : (c d : Call) (k l : ℕ) → question q u ≡ stopped c k → question q u ≡ stopped d l → (c ≡ d) × (k ≡ l)
      same_stop c d k l p r = (cc, cc)

      claim : Claim q u o
      claim = record {
        stops = λ by k. (
          λ r. elim (some_first (in_order q u)) [
            | inl (c, s) ↦ let (i, j) = same_stop by c k 15 r (stops c s) in (subst (First (Over q u o) (in_order q u)) (sym i) s, j)
            | inr none ↦ let end = ends none in absurd (stopped_going (sym r ∙ end.1))
          ],
          λ (s, i). stops by s ∙ ap (stopped by) (sym i),
        );
        over = λ by m h. elim (some_first (in_order q u)) [ inl (c, s) ↦ (c, stops c s) | inr none ↦ absurd (none by m h) ];
        ends = ends;
      }

pub demand_3 : Demand3
demand_3 = record {
  claim = λ q none u. claim q u none;
  owed = owed;
  traffic = λ groups part path f g p a r.
      let asked = asks groups path in
      let read = asks_checked groups path g a in
      rw (first_unique part asked f (first_reply part asked) r (first_reply_lem part asked p read), ← asks_head groups path) (traffic part asked read);
}

-- The calls without groups: demand 2 of them, and the question that they ask, as they stood before there were groups. So demand 3 at `ours` is about
-- that question, and its list is `FinalList`.
pub plain_2 : (p : Plant) (whole path : List ℕ) → Fits p whole → AcceptedPath path → (n m : ℕ) → Enough 8192 n m
    → (final : List ℕ) × (old_search_call n m (bytes_of whole) (bytes_of path) ≡ accepted final) × FinalList p (expr_of (drop 1 path)) final
plain_2 p whole path fits ok = demand_2 p whole ours path fits tt ok

pub plain_ask : (room : Room) (path : List ℕ) (order order' : List (List ℕ))
    → ask ours room path order order'
    ≡ (each (λ part. call (first part) (λ n m. first_reply_call n m part path) (room.first part)) order >>= (λ firsts.
    call calls (λ n m. call_list_call n m (flatten firsts)) room.calls >>= (λ list.
    each (λ part. call (second part) (λ n m. second_reply_call n m part path list) (room.second part)) order' >>= (λ seconds.
    call join (λ n m. join_call n m (flatten seconds)) room.join >>= (λ final. going (record { seconds = seconds; final = final }))))))
unfolding ask
plain_ask room path order order' = refl

pub plain_right : (q : Asked) → q.groups ≡ ours → (a : Answer) → Right q a
    → FinalList q.plant (expr_of (drop 1 q.path)) (words a.final)
plain_right q e a r = subst (λ g. FinalListBy (groups_of g) q.plant (expr_of (drop 1 q.path)) (words a.final)) e r.final
