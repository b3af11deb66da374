-- Demand 1, for all bytes and all buffers. A call's checks give only its numbers (Numbers); and what the old search, the cutter, a second reply and
-- joining owe is within its limit wherever the checks pass, so that 15 is none of theirs; so are the two files of the planners' call, that of the load bench and the triples of a whole. Assumes nothing.
use mathlib.Core.Path.{◌≡◌, refl, sym, ◌∙◌, ap}
use mathlib.Core.Logic.{◌⊎◌, inl, inr}
use mathlib.Core.Bool.{Bool, not, ◌&&◌}
use mathlib.Core.List.{List, [], ◌∷◌, map}
use mathlib.Core.Option.{Option}
use Prim.Native.Nat.{ℕ, zero, suc, ◌*◌, ◌≤◌, ◌<◌}
use native.Mathlib.Nat.{sub-zero}
use native.Mathlib.Omega.{arith}
use native.Mathlib.Decide.{dec_le, dec_lt}
use lib.Dec.{T, leb}
use lib.ListN.{length, get_or, drop, length-map}
use Rattle.sets.specs.Sets.{Mem, here, any, member}
use Rattle.sets.proofs.Sets.{member_iff}
use Rattle.sets.proofs.Tests.{and_iff, le_iff}
use Rattle.sets.proofs.Filter.{all_iff}
use Rattle.sets.proofs.Lengths.{at_mem}
use Rattle.files.specs.Word.{words, bytes_of}
use Rattle.files.specs.Field.{size_of}
use Rattle.files.specs.Refuse.{◌then◌, room_check, size_check}
use Rattle.files.specs.Outcome.{Outcome, refused, accepted, outcome, zeros, padded, Left, leaves, leaves_lent}
use Rattle.files.specs.Limits.{part_words, triple_words}
use Rattle.files.specs.Part.{part_check, whole_check}
use Rattle.files.specs.Path.{path_check}
use Rattle.files.specs.Groups.{groups_check, loaded, our_groups}
use Rattle.files.proofs.Checks.{checks, then_iff, outcome_gives, outcome_over}
use Rattle.files.proofs.Words.{words_length}
use Rattle.files.proofs.Parts.{whole_part}
use Rattle.files.proofs.Numbers.{Among, among, among_more, among_then, among_first, size_numbers, part_numbers, whole_numbers, cuts_numbers, path_numbers, path_sized, groups_numbers, calls_numbers, firsts_numbers, seconds_numbers}
use Rattle.output.specs.Frame.{input, also, Checked, InputRead, Passed}
use Rattle.output.proofs.Frame.{passed}
use Rattle.old.specs.Old.{listed, old_search_call, old_search_grouped_call}
use Rattle.old.proofs.OldSearch.{listed_length}
use Rattle.cutter.specs.Cut.{cut_call}
use Rattle.cutter.proofs.Cutter.{cut_length}
use Rattle.cutter.proofs.Parts.{cuts_fit}
use Rattle.path_bundles.specs.Split.{split, split_check}
use Rattle.path_bundles.specs.Packed.{byte_at, LeftSeveral}
use Rattle.path_bundles.proofs.Splitting.{split_is}
use Rattle.site_first.specs.First.{first_reply_call, first_reply_grouped_call}
use Rattle.visits.specs.Whole.{shortest, whole_grouped_number}
use Rattle.visits.specs.Answered.{VisitChecked, SiteRead}
use Rattle.visits.proofs.Visiting.{site_read, bundle_split, path_alone}
use Rattle.four_replies.specs.Four.{visit_paths, four_replies_grouped_call}
use Rattle.four_replies.specs.Visit.{At, IsVisit}
use Rattle.four_replies.proofs.Visits.{four_ours}
use Rattle.four_replies.proofs.Promised.{request_6}
use Rattle.choices.specs.Shared.{Served}
use Rattle.eight_replies.specs.Eight.{desk_count, eight_replies_grouped_call}
use Rattle.eight_replies.specs.Asking.{IsShared}
use Rattle.eight_replies.proofs.Eights.{eight_ours}
use Rattle.eight_replies.proofs.Promised.{request_11}
use Rattle.site_second.specs.Second.{against_check, second_reply_call, second_reply_grouped_call}
use Rattle.site_second.proofs.SecondReplies.{second_reply_lem, second_length}
use Rattle.expressions.proofs.Loading.{ours_same}
use Rattle.first_replies.specs.FirstReply.{IsFirstReply, first_reply}
use Rattle.first_replies.proofs.FirstReplies.{first_reply_lem}
use Rattle.first_replies.proofs.Alike.{first_same}
use Rattle.hub_calls.proofs.CallLists.{call_list_lem}
use Rattle.hub_calls.specs.CallList.{stray_check, call_list_call}
use Rattle.hub_join.specs.Join.{join_call}
use Rattle.hub_join.proofs.Joining.{joined_list_lem, joined_fits}
use Rattle.dearest.specs.Dearest.{dear_part, dear_path, leaves_both, dearest_number, dearest_call}
use Rattle.dearest.specs.Answer.{Writable}
use Rattle.dearest.proofs.Answering.{writable, files_fit}
use Rattle.draws.specs.Draws.{drawn}
use Rattle.generator.specs.Generate.{generated, spent, bounds_check, generate_call}
use Rattle.generator.proofs.Answering.{within}
use Rattle.generator.proofs.Wholes.{generated_fits}
use Rattle.triples.specs.Triple.{triples_check, to_triples, say_check}
use Rattle.triples.proofs.From.{from_is}
use Rattle.from_triples.specs.From.{from_call}
use Rattle.to_triples.specs.To.{to_call}
use Rattle.to_triples.proofs.Answering as to
use Rattle.walk_find.specs.Walk.{found_walk, listed_check, walk_call, walk_grouped_call}
use Rattle.walk_check.specs.Check.{check_walk_call, check_walk_grouped_call}
use Rattle.recalls.proofs.Promised.{file_best}
use Rattle.demands.specs.PlantOf.{plant_of}
use Rattle.demands.specs.Grouped.{ours, own}
use Rattle.demand_1.specs.Demand1.{Settles, SettlesBoth, SettlesLent, SettlesEach, OwedAt, SettlesShared, dearest_numbers, generate_numbers, to_triples_numbers, visit_numbers, visit_path_numbers, grouped, rows, Demand1}
use Rattle.demands.proofs.PlantOf.{plant_holds}
use Rattle.demands.proofs.OldSearch.{old_final}
use Rattle.demands.proofs.Grouping.{asks_checked, final_asked}

-- the numbers of a call list beside a part and a path, and of the hub's set
against_numbers : (part path calls : List ℕ) → Among (12 ∷ 14 ∷ []) (against_check part path calls)
against_numbers part path calls = search among

stray_numbers : (ws : List ℕ) → Among (14 ∷ []) (stray_check ws)
stray_numbers ws = search among

-- of a triple file, and of what triples can't say
triples_numbers : (ws : List ℕ) → Among (18 ∷ []) (triples_check ws)
triples_numbers ws = search among

say_numbers : (ws : List ℕ) → Among (19 ∷ []) (say_check ws)
say_numbers ws = search among

-- of a node that is not listed
listed_numbers : (o : Option (List ℕ)) → Among (20 ∷ []) (listed_check o)
listed_numbers o = search among

-- of the room of a call without output
among_room : (m : ℕ) → Among (1 ∷ []) (room_check 0 0 m)
among_room m = search among

-- A call whose checks give c. It settles if these are its numbers, and if, where all pass, there is room and the result is within its limit, or 15 is
-- one of the numbers, and is what the call owes if it is within.
settles_by {ℓ} : (ks : List ℕ) (limit n m : ℕ) (c : ℕ) (Owed : List ℕ → Type ℓ) (result : List ℕ) → Among ks c
    → (c ≡ 0 → (4 * limit ≤ n) × (length result ≤ limit → Owed result) × ((length result ≤ limit) ⊎ T (member 15 ks))) → Settles ks limit Owed (outcome c limit result) n m
settles_by ks limit n m c Owed result a h = go c refl a
  where
    result_or_15 : Dec (length result ≤ limit) → 4 * limit ≤ n → (length result ≤ limit → Owed result) → (length result ≤ limit) ⊎ T (member 15 ks)
        → Settles ks limit Owed (outcome 0 limit result) n m
    result_or_15 (yes l) p w r = inr (result, w l, l, p, ap (λ o. leaves o n m) (outcome_gives limit result l))
    result_or_15 (no l) p w (inl k) = absurd (l k)
    result_or_15 (no l) p w (inr k) = inl (15, (member_iff 15 ks).0 k, ap (λ o. leaves o n m) (outcome_over limit result (omega arith)))

    go : (k : ℕ) → k ≡ c → Among ks k → Settles ks limit Owed (outcome k limit result) n m
    go zero e b = let (p, w, r) = h (sym e) in result_or_15 (dec_le (length result) limit) p w r
    go (suc k) e (inl z) = absurd (omega arith)
    go (suc k) e (inr i) = inl (suc k, i, refl)

-- so where the checks are those of the buffers, of the size of the first input s, and then c
settles_within {ℓ} : (ks : List ℕ) (limit most n m : ℕ) (s : List ℕ) (c : ℕ) (Owed : List ℕ → Type ℓ) (result : List ℕ) → T (member 1 ks) → T (member 2 ks) → Among ks c
    → (InputRead most s c → (length result ≤ limit → Owed result) × ((length result ≤ limit) ⊎ T (member 15 ks)))
    → Settles ks limit Owed (outcome (room_check limit n m then size_check most s then c) limit result) n m
settles_within ks limit most n m s c Owed result t u a h =
    settles_by ks limit n m (room_check limit n m then size_check most s then c) Owed result (search among) (λ e.
    let p : Passed limit n m (input most s c ∷ []) = passed {cs = input most s c ∷ []} refl (record { is = sym e }) refl refl in
    let (w, r) = h p.read.0 in
    (p.room.holds, w, r))

-- and where the result is owed also over the limit
settles {ℓ} : (ks : List ℕ) (limit most n m : ℕ) (s : List ℕ) (c : ℕ) (Owed : List ℕ → Type ℓ) (result : List ℕ) → T (member 1 ks) → T (member 2 ks) → Among ks c
    → (InputRead most s c → Owed result × ((length result ≤ limit) ⊎ T (member 15 ks)))
    → Settles ks limit Owed (outcome (room_check limit n m then size_check most s then c) limit result) n m
settles ks limit most n m s c Owed result t u a h =
    settles_within ks limit most n m s c Owed result t u a (λ p. let (w, r) = h p in (λ l. w, r))

-- The call with two outputs: where the counts are accepted, both files are within their limits.
both_settle : (d t n a b m : ℕ) → SettlesBoth dearest_numbers 4096 64 (dear_part d t) (dear_path n) (dearest_call a b m d t n) a b m
unfolding dearest_call
both_settle d t n a b m = go (dearest_number a b m d t n) refl (search among)
  where
    go : (k : ℕ) → k ≡ dearest_number a b m d t n → Among dearest_numbers k
        → SettlesBoth dearest_numbers 4096 64 (dear_part d t) (dear_path n) (leaves_both k (dear_part d t) (dear_path n) a b m) a b m
    go zero e i =
        let w : Writable a b d t n = writable {m = m} (record { is = e }) refl in
        let (p, q) = files_fit w in
        inr (p, w.part_holds, q, w.path_holds, refl)
    go (suc k) e (inl z) = absurd (omega arith)
    go (suc k) e (inr i) = inl (suc k, i, refl)

-- A call that is lent a number: it settles if its checks give its numbers, and where all pass there is room and the result is owed and within its limit.
lent_by {ℓ} : (ks : List ℕ) (limit n m : ℕ) (c : ℕ) (Owed : List ℕ → Type ℓ) (result : List ℕ) (kept given : ℕ) → Among ks c
    → (c ≡ 0 → (4 * limit ≤ n) × Owed result × (length result ≤ limit)) → SettlesLent ks limit Owed (outcome c limit result) kept given n m
lent_by ks limit n m c Owed result kept given a h = go c refl a
  where
    go : (k : ℕ) → k ≡ c → Among ks k → SettlesLent ks limit Owed (outcome k limit result) kept given n m
    go zero e b = let (p, w, l) = h (sym e) in inr (result, w, l, p, ap (λ o. leaves_lent o kept given n m) (outcome_gives limit result l))
    go (suc k) e (inl z) = absurd (omega arith)
    go (suc k) e (inr i) = inl (suc k, i, refl)

-- Where the counts are accepted, the file is within its limit.
generate_settle : (s e k n m : ℕ) → SettlesLent generate_numbers 4096 (λ f. f ≡ generated (drawn s) e k) (generate_call n m s e k) s (spent s e k) n m
unfolding generate_call
generate_settle s e k n m =
    lent_by generate_numbers part_words n m (room_check part_words n m then bounds_check e k) (λ f. f ≡ generated (drawn s) e k) (generated (drawn s) e k) s (spent s e k) (search among) (λ x.
    let p : Passed part_words n m (also (bounds_check e k) ∷ []) = passed {cs = also (bounds_check e k) ∷ []} refl (record { is = sym x }) refl refl in
    (p.room.holds, refl, omega (arith, generated_fits (drawn s) (within e k p.read.0))))

-- Where a whole is accepted, its triples are within their limit.
to_triples_settle : (whole : List ℕ) (n m : ℕ) → SettlesLent to_triples_numbers 12286 (λ f. f ≡ to_triples (words whole)) (to_call n m whole) 0 (length (to_triples (words whole))) n m
unfolding to_call
to_triples_settle whole n m =
    let f = words whole in
    let rest : Among to_triples_numbers (whole_check f then say_check f) = among_first tt (whole_numbers f) (among_more tt (say_numbers f)) in
    lent_by to_triples_numbers triple_words n m (room_check triple_words n m then size_check part_words whole then whole_check f then say_check f) (λ g. g ≡ to_triples f) (to_triples f) 0 (length (to_triples f)) (search among) (λ x.
    let c : Checked triple_words n m (input part_words whole (whole_check f) ∷ also (say_check f) ∷ []) 0 = record { is = sym x } in
    ((to.writable whole c refl refl).0, refl, to.counted whole c refl))

-- One path of several, in a bundle that splits: where buffers, part and groups pass, it is left with its own checks, of which there is no 4. It is
-- refused under one of its numbers, or gets what is owed.
module _ (most m : ℕ) (part groups paths : List ℕ) (Owed : List ℕ → List ℕ → Type 0)
    (owed : part_check (words part) ≡ 0 → groups_check groups ≡ 0 → (f : List ℕ) → path_check (words f) ≡ 0 → Owed f (first_reply (words part) (loaded (words groups) (words f))))
    (split-up : split_check most paths ≡ 0) where
  abbrev Either : List ℕ → Outcome → Type 0
  Either f o = ((k : ℕ) × Mem k visit_path_numbers × (o ≡ refused k)) ⊎ ((g : List ℕ) × Owed f g × (length g ≤ 4096) × (o ≡ accepted g))

  path_either : (n : ℕ) (f : List ℕ) → SiteRead n m part groups → Mem f (split most paths) → Either f (first_reply_grouped_call n m part groups f)
  path_either n f r i =
      let c = size_check 64 f then path_check (words f) in
      let is-split = split_is most paths (simp checks at split-up).1 in
      let sized : size_of (get_or (words f) 0 0) ≡ length (words f) = omega (arith, is-split.sized f i, words_length f) in
      rw (path_alone r f) (by c refl (among_first tt (size_numbers 64 f) (among_more tt (path_sized (words f) sized))) (dec_le (length reply) 4096))
    where
      reply : List ℕ
      reply = first_reply (words part) (loaded (words groups) (words f))

      by : (k : ℕ) → k ≡ (size_check 64 f then path_check (words f)) → Among visit_path_numbers k → Dec (length reply ≤ 4096) → Either f (outcome k 4096 reply)
      by zero e a (yes l) =
          inr (reply, owed r.part_read.read r.groups_read f ((then_iff (size_check 64 f) (path_check (words f))).0 (sym e)).1, l, outcome_gives 4096 reply l)
      by zero e a (no l) = inl (15, (member_iff 15 visit_path_numbers).0 tt, outcome_over 4096 reply (omega arith))
      by (suc k) e (inl z) d = absurd (omega arith)
      by (suc k) e (inr j) d = inl (suc k, j, refl)

-- A call that answers paths one by one: with groups, and so, with our own, without
module _ (ns : List ℕ) (m : ℕ) (part groups paths : List ℕ) (Owed : List ℕ → List ℕ → Type 0) (whole : List ℕ)
    (a : Among whole (whole_grouped_number visit_paths (shortest ns) m part groups paths))
    (owed : part_check (words part) ≡ 0 → groups_check groups ≡ 0 → (f : List ℕ) → path_check (words f) ≡ 0 → Owed f (first_reply (words part) (loaded (words groups) (words f)))) where
  abbrev fs : List (List ℕ)
  fs = split visit_paths paths

  abbrev done : LeftSeveral
  done = four_replies_grouped_call ns m part groups paths

  abbrev Ends : ℕ → Type 0
  Ends i =
      ((k : ℕ) × Mem k visit_path_numbers × At done i k (zeros (get_or ns i 0)))
      ⊎ ((f : List ℕ) × OwedAt Owed fs i f × (length f ≤ 4096) × (4 * 4096 ≤ get_or ns i 0) × At done i 0 (padded (get_or ns i 0) f))

  is : IsVisit (whole_grouped_number visit_paths (shortest ns) m part groups paths) (λ n path. first_reply_grouped_call n m part groups path) ns m fs done
  is = request_6.four_grouped ns m part groups paths

  module _ (z : whole_grouped_number visit_paths (shortest ns) m part groups paths ≡ 0) where
    checked : VisitChecked visit_paths (shortest ns) m part groups paths 0
    checked = record { checked = record { is = sym z } }

    ends : (i : ℕ) → i < length ns → Dec (i < length fs) → Ends i
    ends i h (yes l) = by (is.path z i h l) (path_either visit_paths m part groups paths Owed owed (bundle_split ns checked) n f read (at_mem [] fs i l))
      where
        n : ℕ
        n = get_or ns i 0

        f : List ℕ
        f = get_or fs i []

        read : SiteRead n m part groups
        read = site_read ns checked (at_mem 0 ns i h)

        by : At done i (leaves (first_reply_grouped_call n m part groups f) n m).number (leaves (first_reply_grouped_call n m part groups f) n m).output
            → ((k : ℕ) × Mem k visit_path_numbers × (first_reply_grouped_call n m part groups f ≡ refused k))
            ⊎ ((g : List ℕ) × Owed f g × (length g ≤ 4096) × (first_reply_grouped_call n m part groups f ≡ accepted g)) → Ends i
        by t (inl (k, j, e)) = inl (k, j, rw e at t)
        by t (inr (g, w, s, e)) = inr (g, (λ l. w, λ k. absurd (omega arith)), s, read.room.holds, rw e at t)
    ends i h (no l) =
        let t = is.past z i h (omega arith) in
        inr ([], (λ k. absurd (omega arith), λ k. refl), omega arith, (site_read ns checked (at_mem 0 ns i h)).room.holds, record { number_is = t.number_is; output_is = t.output_is ∙ ap zeros (sym (sub-zero (get_or ns i 0))) })

  each_settle : SettlesEach whole visit_path_numbers 4096 (OwedAt Owed fs) done ns m
  each_settle = (go (whole_grouped_number visit_paths (shortest ns) m part groups paths) refl a, is.outputs, is.work)
    where
      go : (k : ℕ) → k ≡ whole_grouped_number visit_paths (shortest ns) m part groups paths → Among whole k
          → ((k : ℕ) × Mem k whole × ((i : ℕ) → i < length ns → At done i k (zeros (get_or ns i 0)))) ⊎ ((i : ℕ) → i < length ns → Ends i)
      go zero e b = inr (λ i h. ends (sym e) i h (dec_lt i (length fs)))
      go (suc k) e (inl z) = absurd (omega arith)
      go (suc k) e (inr j) = inl (suc k, j, λ i h. rw e (is.whole (λ z. omega (arith, e)) i h))

map_at : {A B : Type 0} (f : A → B) (l : List A) (i : ℕ) (a : A) (b : B) → i < length l → get_or (map f l) i b ≡ f (get_or l i a)
map_at f [] i a b h = absurd (omega arith)
map_at f (x ∷ l) zero a b h = refl
map_at f (x ∷ l) (suc i) a b h = map_at f l i a b (omega arith)

-- A call whose desks share one reply, likewise
module _ (n m : ℕ) (part groups paths : List ℕ) (Owed : List ℕ → List ℕ → Type 0) (whole : List ℕ)
    (a : Among whole (whole_grouped_number desk_count n m part groups paths))
    (owed : part_check (words part) ≡ 0 → groups_check groups ≡ 0 → (f : List ℕ) → path_check (words f) ≡ 0 → Owed f (first_reply (words part) (loaded (words groups) (words f)))) where
  abbrev files : List (List ℕ)
  files = split desk_count paths

  abbrev call : List ℕ → Outcome
  call path = first_reply_grouped_call n m part groups path

  abbrev told : Left
  told = eight_replies_grouped_call n m part groups paths

  abbrev Gets : ℕ → Type 0
  Gets i = ((k : ℕ) × Mem k visit_path_numbers × (byte_at i told.number ≡ k)) ⊎ ((f : List ℕ) × Owed (get_or files i []) f × Served told i f)

  shares : IsShared (whole_grouped_number desk_count n m part groups paths) (map call files) n m told
  shares = request_11.eight_grouped n m part groups paths

  module _ (z : whole_grouped_number desk_count n m part groups paths ≡ 0) where
    all_checked : VisitChecked desk_count (shortest (n ∷ [])) m part groups paths 0
    all_checked = record { checked = record { is = sym z } }

    read : SiteRead n m part groups
    read = site_read (n ∷ []) all_checked (here refl)

    gets : (i : ℕ) → i < length files → Gets i
    gets i h = by (path_either desk_count m part groups paths Owed owed (bundle_split (n ∷ []) all_checked) n (get_or files i []) read (at_mem [] files i h))
      where
        here_is : get_or (map call files) i (accepted []) ≡ call (get_or files i [])
        here_is = map_at call files i [] (accepted []) h

        within : i < length (map call files)
        within = omega (arith, length-map files call)

        by : ((k : ℕ) × Mem k visit_path_numbers × (call (get_or files i []) ≡ refused k)) ⊎ ((g : List ℕ) × Owed (get_or files i []) g × (length g ≤ 4096) × (call (get_or files i []) ≡ accepted g))
            → Gets i
        by (inl (k, j, e)) = inl (k, j, shares.refusal z i within k (here_is ∙ e))
        by (inr (g, w, s, e)) = elim (dec_le (length g) 512) [
          | yes l ↦ inr (g, w, shares.short z i within g (here_is ∙ e) l)
          | no l ↦ elim (shares.long z i within g (here_is ∙ e) (omega arith)) [
            | inl t ↦ inr (g, w, t.0)
            | inr t ↦ inl (15, (member_iff 15 visit_path_numbers).0 tt, t.0)
          ]
        ]

    past : (i : ℕ) → length files ≤ i → byte_at i told.number ≡ 0
    past i h = shares.past z i (omega (arith, length-map files call))

  shared_settle : SettlesShared whole visit_path_numbers 4096 Owed files told n m
  shared_settle = (go (whole_grouped_number desk_count n m part groups paths) refl a, shares.work)
    where
      go : (k : ℕ) → k ≡ whole_grouped_number desk_count n m part groups paths → Among whole k
          → ((k : ℕ) × Mem k whole × ((i : ℕ) → i < desk_count → byte_at i told.number ≡ k) × (told.output ≡ zeros n))
          ⊎ (((i : ℕ) → i < length files → Gets i) × ((i : ℕ) → length files ≤ i → byte_at i told.number ≡ 0)
          × ((ws : List ℕ) × (length ws ≤ 4096) × (4 * 4096 ≤ n) × (told.output ≡ padded n ws)))
      go zero e b =
          let (ws, l, o) = shares.fits in
          inr (gets (sym e), past (sym e), (ws, l, (read (sym e)).room.holds, o))
      go (suc k) e (inl z) = absurd (omega arith)
      go (suc k) e (inr j) = let (t, o) = shares.whole (λ z. omega (arith, e)) in inl (suc k, j, λ i h. t i h ∙ sym e, o)

pub demand_1 : Demand1
unfolding old_search_call cut_call first_reply_call call_list_call second_reply_call join_call old_search_grouped_call first_reply_grouped_call second_reply_grouped_call from_call walk_call walk_grouped_call check_walk_call check_walk_grouped_call
demand_1 = record {
  old_search_lem = λ whole path n m. settles _ _ _ n m whole _ _ _ tt tt
      (among_first tt (whole_numbers (words whole)) (among_first tt (size_numbers 64 path) (among_more tt (path_numbers (words path)))))
      (λ p.
      let (w, r) = (then_iff (whole_check (words whole)) _).0 p.read in (
        old_final (plant_of (words whole)) (words whole) w (plant_holds (words whole)) (λ x m. m) (words path) ((then_iff (size_check 64 path) _).0 r).1,
        inl (omega (arith, listed_length (words whole) (words path) p.some, p.few)),
      ));
  cut = λ whole cuts site n m. settles _ _ _ n m whole _ _ _ tt tt
      (among_first tt (whole_numbers (words whole)) (among_more tt (cuts_numbers (drop 1 (words whole)) cuts site)))
      (λ p.
      let (w, c) = (then_iff (whole_check (words whole)) _).0 p.read in
      let (fit, _, s) = cuts_fit (drop 1 (words whole)) cuts site c in
      (refl, inl (omega (arith, cut_length (words whole) cuts (whole_part (words whole) w) fit site s, p.few))));
  first_reply_lem = λ part path n m. settles _ _ _ n m part _ _ _ tt tt
      (among_first tt (part_numbers (words part)) (among_first tt (size_numbers 64 path) (among_more tt (path_numbers (words path)))))
      (λ p.
      let (a, r) = (then_iff (part_check (words part)) _).0 p.read in
      (first_reply_lem (words part) (words path) a ((then_iff (size_check 64 path) _).0 r).1, inr tt));
  call_list_lem = λ bundle n m. settles _ _ _ n m bundle _ _ _ tt tt
      (among_first tt (firsts_numbers (words bundle)) (among_more tt (stray_numbers (words bundle)))) (λ p. (call_list_lem (words bundle), inr tt));
  second_reply_lem = λ part path calls n m. settles _ _ _ n m part _ _ _ tt tt
      (among_first tt (part_numbers (words part)) (among_first tt (size_numbers 64 path) (among_first tt (path_numbers (words path))
      (among_first tt (size_numbers 4096 calls) (among_first tt (calls_numbers (words calls))
      (among_more tt (against_numbers (words part) (words path) (words calls))))))))
      (λ p.
      let (a, r) = (then_iff (part_check (words part)) _).0 p.read in
      let (b, _) = (then_iff (path_check (words path)) _).0 ((then_iff (size_check 64 path) _).0 r).1 in
      (second_reply_lem (words part) (words path) (words calls) a b, inl (omega (arith, second_length (words part) (words path) (words calls) a, p.few))));
  join = λ bundle n m. settles _ _ _ n m bundle _ _ _ tt tt (among_more tt (seconds_numbers (words bundle)))
      (λ p. (joined_list_lem (words bundle), inl (joined_fits (words bundle) p.read p.some p.few)));
  old_search_grouped_lem = λ whole groups path n m. settles _ _ _ n m whole _ _ _ tt tt
      (among_first tt (whole_numbers (words whole)) (among_first tt (groups_numbers groups) (among_first tt (size_numbers 64 path) (among_more tt (path_numbers (words path))))))
      (λ p.
      let (w, r) = (then_iff (whole_check (words whole)) _).0 p.read in
      let (g, s) = (then_iff (groups_check groups) _).0 r in
      let asked = loaded (words groups) (words path) in (
        (final_asked (plant_of (words whole)) (own groups) (words path) g (listed (words whole) asked)).0
            (old_final (plant_of (words whole)) (words whole) w (plant_holds (words whole)) (λ x m. m) asked (asks_checked (own groups) (words path) g ((then_iff (size_check 64 path) _).0 s).1)),
        inl (omega (arith, listed_length (words whole) asked p.some, p.few)),
      ));
  first_reply_grouped_lem = λ part groups path n m. settles _ _ _ n m part _ _ _ tt tt
      (among_first tt (part_numbers (words part)) (among_first tt (groups_numbers groups) (among_first tt (size_numbers 64 path) (among_more tt (path_numbers (words path))))))
      (λ p.
      let (a, r) = (then_iff (part_check (words part)) _).0 p.read in
      let (g, s) = (then_iff (groups_check groups) _).0 r in
      (first_reply_lem (words part) (loaded (words groups) (words path)) a (asks_checked (own groups) (words path) g ((then_iff (size_check 64 path) _).0 s).1), inr tt));
  second_reply_grouped_lem = λ part groups path calls n m. settles _ _ _ n m part _ _ _ tt tt
      (among_first tt (part_numbers (words part)) (among_first tt (groups_numbers groups) (among_first tt (size_numbers 64 path) (among_first tt (path_numbers (words path))
      (among_first tt (size_numbers 4096 calls) (among_first tt (calls_numbers (words calls))
      (among_more tt (against_numbers (words part) (words path) (words calls)))))))))
      (λ p.
      let (a, r) = (then_iff (part_check (words part)) _).0 p.read in
      let (g, s) = (then_iff (groups_check groups) _).0 r in
      let (b, _) = (then_iff (path_check (words path)) _).0 ((then_iff (size_check 64 path) _).0 s).1 in
      let asked = loaded (words groups) (words path) in
      (second_reply_lem (words part) asked (words calls) a (asks_checked (own groups) (words path) g b), inl (omega (arith, second_length (words part) asked (words calls) a, p.few))));
  dearest = both_settle;
  generate = generate_settle;
  from_triples_lem = λ triples n m. settles_within _ _ _ n m triples _ _ _ tt tt (among_more tt (triples_numbers (words triples)))
      (λ p. (from_is (words triples) p.read, inr tt));
  to_triples_lem = to_triples_settle;
  walk = λ whole path y n m. settles _ _ _ n m whole _ _ _ tt tt
      (among_first tt (whole_numbers (words whole)) (among_first tt (size_numbers 64 path) (among_first tt (path_numbers (words path))
      (among_more tt (listed_numbers (found_walk (words whole) (words path) y))))))
      (λ p.
      let (w, r) = (then_iff (whole_check (words whole)) _).0 p.read in
      let (c, l) = (then_iff (path_check (words path)) _).0 ((then_iff (size_check 64 path) _).0 r).1 in
      (file_best ours (words whole) (words path) y w tt c l, inr tt));
  walk_grouped_lem = λ whole groups path y n m. settles _ _ _ n m whole _ _ _ tt tt
      (among_first tt (whole_numbers (words whole)) (among_first tt (groups_numbers groups) (among_first tt (size_numbers 64 path) (among_first tt (path_numbers (words path))
      (among_more tt (listed_numbers (found_walk (words whole) (loaded (words groups) (words path)) y)))))))
      (λ p.
      let (w, r) = (then_iff (whole_check (words whole)) _).0 p.read in
      let (g, s) = (then_iff (groups_check groups) _).0 r in
      let (c, l) = (then_iff (path_check (words path)) _).0 ((then_iff (size_check 64 path) _).0 s).1 in
      (file_best (own groups) (words whole) (words path) y w g (asks_checked (own groups) (words path) g c) l, inr tt));
  check_walk_lem = λ whole path y walk m. lent_by _ 0 0 m _ _ [] 0 _
      (among_first tt (among_room m) (among_first tt (size_numbers 1024 whole) (among_first tt (whole_numbers (words whole)) (among_first tt (size_numbers 64 path) (among_more tt (path_numbers (words path)))))))
      (λ x. (omega arith, refl, omega arith));
  check_walk_grouped_lem = λ whole groups path y walk m. lent_by _ 0 0 m _ _ [] 0 _
      (among_first tt (among_room m) (among_first tt (size_numbers 1024 whole) (among_first tt (whole_numbers (words whole)) (among_first tt (groups_numbers groups)
      (among_first tt (size_numbers 64 path) (among_more tt (path_numbers (words path))))))))
      (λ x. (omega arith, refl, omega arith));
  four_replies_lem = λ part paths ns m.
      let bundle : Among visit_numbers (split_check visit_paths paths) = search among in
      let room : Among visit_numbers (room_check 4096 (shortest ns) m) = search among in
      rw (← four_ours ns m part paths) (each_settle ns m part (bytes_of our_groups) paths (λ path. IsFirstReply (words part) (words path)) visit_numbers
      (among_then room (among_first tt (size_numbers 4096 part) (among_first tt (part_numbers (words part)) bundle)))
      (λ p g f c. rw (first_same (words part) (ours_same (words f))) (first_reply_lem (words part) (words f) p c)));
  four_replies_grouped_lem = λ part groups paths ns m.
      let bundle : Among (grouped visit_numbers) (split_check visit_paths paths) = search among in
      let room : Among (grouped visit_numbers) (room_check 4096 (shortest ns) m) = search among in
      each_settle ns m part groups paths (λ path. IsFirstReply (words part) (loaded (words groups) (words path))) (grouped visit_numbers)
      (among_then room (among_first tt (size_numbers 4096 part) (among_first tt (part_numbers (words part)) (among_first tt (groups_numbers groups) bundle))))
      (λ p g f c. first_reply_lem (words part) (loaded (words groups) (words f)) p (asks_checked (own groups) (words f) g c));
  eight_replies_lem = λ part paths n m.
      let bundle : Among visit_numbers (split_check desk_count paths) = search among in
      let room : Among visit_numbers (room_check 4096 n m) = search among in
      rw (← eight_ours n m part paths) (shared_settle n m part (bytes_of our_groups) paths (λ path. IsFirstReply (words part) (words path)) visit_numbers
      (among_then room (among_first tt (size_numbers 4096 part) (among_first tt (part_numbers (words part)) bundle)))
      (λ p g f c. rw (first_same (words part) (ours_same (words f))) (first_reply_lem (words part) (words f) p c)));
  eight_replies_grouped_lem = λ part groups paths n m.
      let bundle : Among (grouped visit_numbers) (split_check desk_count paths) = search among in
      let room : Among (grouped visit_numbers) (room_check 4096 n m) = search among in
      shared_settle n m part groups paths (λ path. IsFirstReply (words part) (loaded (words groups) (words path))) (grouped visit_numbers)
      (among_then room (among_first tt (size_numbers 4096 part) (among_first tt (part_numbers (words part)) (among_first tt (groups_numbers groups) bundle))))
      (λ p g f c. first_reply_lem (words part) (loaded (words groups) (words f)) p (asks_checked (own groups) (words f) g c));
  -- by computation
  numbered = λ row i k j.
      let test : ℕ → Bool = λ k. leb 1 k && leb k 21 in
      let t = (all_iff test row).0 ((all_iff (λ row. not (any (λ k. not (test k)) row)) rows).0 tt row i) k j in
      simp (and_iff, le_iff) at t;
}
