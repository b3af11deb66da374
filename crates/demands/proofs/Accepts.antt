-- In the whole question no call refuses, but with 15: what a site or the hub writes, the next reader accepts. Assumes nothing.
use mathlib.Core.Path.{◌≡◌, sym, ap, ◌∙◌, subst}
use mathlib.Core.Logic.{◌↔◌}
use mathlib.Core.List.Memᴰ
use mathlib.Core.List.{List, [], ◌∷◌, map, flatten}
use Prim.Native.Nat.{ℕ, ◌≤◌, ◌<◌}
use native.Mathlib.Omega.{arith}
use lib.ListN.{length, drop, get_or, length-map}
use Rattle.sets.specs.Sets.{Mem, here, Perm, Lists, set_of}
use Rattle.sets.proofs.Sets.{flatten_map_iff, lists_iff, set_of_lists}
use Rattle.sets.proofs.Perm.{perm_same, perm_length, perm_of_map}
use Rattle.files.specs.Word.{bytes_of}
use Rattle.files.specs.Field.{labels_of, pair_node, pair_state, file, answer_word}
use Rattle.files.specs.Outcome.{Outcome, refused, accepted, outcome}
use Rattle.files.specs.Part.{nodes}
use Rattle.files.specs.Part as part
use Rattle.files.specs.Path.{path_check}
use Rattle.files.specs.Reply.{reply_check, doors, roots, rows}
use Rattle.files.specs.Answers.{answers_of, answers_check}
use Rattle.files.proofs.Blocks.{doors_nodes}
use Rattle.files.proofs.Checks.{outcome_gives, outcome_over}
use Rattle.files.proofs.Files.{files_length}
use Rattle.files.proofs.Bundles.{Replies, Firsts, Seconds, firsts_accepted, seconds_accepted, made_words}
use Rattle.expressions.specs.Expr.{Expr, count}
use Rattle.expressions.specs.Labels.{expr_of}
use Rattle.expressions.proofs.Paths.{path_small}
use Rattle.first_replies.specs.FirstReply.{reported, first_reply}
use Rattle.site_second.specs.Second.{called_in, second_reply}
use Rattle.first_replies.proofs.FirstReplies as first
use Rattle.site_second.proofs.SecondCalls.{against_checked}
use Rattle.site_second.proofs.SecondReplies as second
use Rattle.hub_calls.specs.CallList.{called, stray_check, call_list, call_list_call}
use Rattle.hub_join.specs.Join.{joined, join_call}
use Rattle.hub_calls.proofs.CallLists as calls
use Rattle.hub_join.proofs.Joining as join
use Rattle.demands.specs.Plant.{Words, body}
use Rattle.demands.specs.Grouped.{asks, first_call, second_call}
use Rattle.demands.specs.Demand.{Asked, NoneWalked, Enough}
use Rattle.demands.proofs.Comes.{Ends, unwalked_ends, ends_unwalked}
use Rattle.demands.proofs.Cross.{Called, called_door, called_home, called_reach, called_ends}
use Rattle.demands.proofs.Grouping.{asks_checked, asks_head, first_asked, second_asked, unwalked_asked}
use Rattle.path_bundles.proofs.Sized.{Sized, file_sized, made_sized}
use Rattle.demands.proofs.Bundles.{cut_perm, firsts_made, first_doors, first_root, first_bundle, first_rows_iff, seconds_made, second_answers, second_bundle}

-- a bundle of some files has some words
bundle_some : (kind : ℕ) (check : ℕ → List ℕ → ℕ) (n : ℕ) (fs : List (List ℕ)) → Replies kind check n fs → 0 < length fs → 0 < length (flatten fs)
bundle_some kind check n fs r h = omega (arith, files_length kind check fs r.files)

-- a result is given exactly if it is not over its limit, and else refused with 15
pub record Owes (o : Outcome) (limit : ℕ) (result : List ℕ) : Type 0 where
  pub gives : length result ≤ limit → o ≡ accepted result
  pub over : limit < length result → o ≡ refused 15

owes : (o : Outcome) (limit : ℕ) (result : List ℕ) → o ≡ outcome 0 limit result → Owes o limit result
owes o limit result e = record { gives = λ h. e ∙ outcome_gives limit result h; over = λ h. e ∙ outcome_over limit result h }

module _ (q : Asked) where
  -- the path that is asked, with the groups loaded
  abbrev pub path : List ℕ
  path = asks q.groups q.path

  pub path_read : path_check path ≡ 0
  path_read = asks_checked q.groups q.path q.groups_accepted q.path_accepted.2

  abbrev pub firsts : List (List ℕ)
  firsts = map (λ f. first_reply f path) q.parts

  abbrev pub seconds : List ℕ → List (List ℕ)
  seconds calls = map (λ f. second_reply f path calls) q.parts

  abbrev n : ℕ
  n = labels_of (get_or path 0 0)

  abbrev pub e : Expr
  e = expr_of (drop 1 path)

  pub small : count e ≤ 15
  small = path_small path path_read

  -- where no walk takes a link that ends nowhere, the parts' edges end at nodes of the plant, as far as walks come to them; and only there
  pub none_ends : NoneWalked q ↔ ((f : List ℕ) → Mem f q.parts → Ends q.plant e f)
  none_ends =
      let a = unwalked_asked q.plant q.parts q.groups q.path q.groups_accepted in (
        λ none. unwalked_ends q.plant q.parts e q.cut (a.1 none),
        λ ends. a.0 (ends_unwalked q.plant q.parts e ends),
      )

  -- Demand 3, the first calls
  pub first_call_lem : (out work : ℕ) → Enough 4096 out work → (f : List ℕ) → Mem f q.parts
      → Owes (first_call q.groups out work (bytes_of f) (bytes_of q.path)) 4096 (first_reply f path)
  first_call_lem out work r f k =
      owes (first_call q.groups out work (bytes_of f) (bytes_of q.path)) 4096 (first_reply f path)
      (first_asked out work q.path q.path_accepted q.groups f q.groups_accepted r (q.cut.part f k))

  -- What the hub knows of the first replies, in any order: they are accepted; their root is the plant's; they have the parts' doors; and their
  -- rows hold what the parts report of these.
  pub record Gathered (order : List (List ℕ)) : Type 0 where
    pub bundle : Firsts n order
    pub word : Words (flatten order)
    pub some : 0 < length (flatten order)
    pub root_is : roots (flatten order) ≡ q.one_root.root ∷ []
    pub doors_iff : (x : ℕ) → Mem x (doors (flatten order)) ↔ ((f : List ℕ) × Mem f q.parts × Mem x (part.doors (body f)))
    pub rows_iff : (c d : ℕ) → Mem d (rows (flatten order) c)
        ↔ ((f : List ℕ) × Mem f q.parts × Mem (pair_node c) (part.doors (body f)) × Mem d (reported (body f) e (pair_node c) (pair_state c)))

  pub gathered : ((f : List ℕ) → Mem f firsts → length f ≤ 4096) → (order : List (List ℕ)) → Perm order firsts → Gathered order
  gathered h order o =
      let write : List ℕ → List ℕ = λ f. first_reply f path in
      let (parts, r, e) = perm_of_map write q.parts o in
      let c = cut_perm r q.cut in
      let s : (f : List ℕ) → Mem f parts → length (write f) ≤ 4096 = λ f m. h (write f) (Memᴰ.map write ((perm_same r).0 f m)) in
      let b = first_bundle q.plant parts c path path_read s q.one_root in
      subst Gathered (sym e) (record {
        bundle = b;
        word = made_words 7 reply_check n write parts c.sites (firsts_made q.plant parts c path path_read s);
        some = bundle_some 7 reply_check n (map write parts) b.replies (omega (arith, length-map parts write, perm_length r, q.some_part));
        root_is = first_root q.plant parts c path path_read s q.one_root;
        doors_iff = λ x. let i = flatten_map_iff (λ f. part.doors (body f)) x parts in rw (first_doors q.plant parts c path path_read s) (
          λ m. let k = i.0 m in (k.0, (perm_same r).0 k.0 k.1, k.2),
          λ k. i.1 (k.0, (perm_same r).1 k.0 k.1, k.2),
        );
        rows_iff = λ a d. let i = first_rows_iff q.plant parts c path path_read s q.one_root a d in (
          λ m. let k = i.0 m in (k.0, (perm_same r).0 k.0 k.1, k.2, k.3),
          λ k. i.1 (k.0, (perm_same r).1 k.0 k.1, k.2, k.3),
        );
      })

  module _ {order : List (List ℕ)} (g : Gathered order) where
    -- the hub calls what is called
    called_is : (c : ℕ) → Mem c (called (flatten order)) ↔ Called q.one_root.root q.parts e c
    called_is c =
        let l = calls.called_lists (flatten order) in
        let r = called_reach q.plant q.parts q.cut q.one_root e small (rows (flatten order)) (calls.seeds (flatten order))
        (λ c. rw g.root_is (λ m. Memᴰ.eq_of_singleton m, λ i. here i)) g.rows_iff c in
        (λ m. r.0 (l.sound c m), λ k. l.complete c (r.1 k))

    -- 14 is given exactly if a walk can take a link that ends nowhere: where none can, each called pair names a door; and where each does, the nodes
    -- that are called are nodes of the plant
    pub stray_none : (stray_check (flatten order) ≡ 0) ↔ NoneWalked q
    stray_none =
        let s = calls.stray_iff (flatten order) in (
          λ z. none_ends.1 (called_ends q.plant q.parts q.cut q.one_root e small (λ c k.
              let (f, m, d) = (g.doors_iff (pair_node c)).0 (s.0 z c ((called_is c).1 k)) in
              (q.cut.holds f m).is_node_lem (pair_node c) (doors_nodes (body f) (pair_node c) d))),
          λ none. s.1 (λ c m. (g.doors_iff (pair_node c)).1
              (called_home q.plant q.parts q.cut q.one_root e small (none_ends.0 none) ((called_is c).0 m))),
        )

    -- the called pairs of a site are those of its nodes
    pub called_iff : (f : List ℕ) (c : ℕ)
        → Mem c (called_in (body f) (drop 1 (call_list (flatten order)))) ↔ (Called q.one_root.root q.parts e c × Mem (pair_node c) (nodes (body f)))
    called_iff f c =
        let p = calls.calls_pairs n order g.bundle in
        let i = second.called_iff (body f) (drop 1 (call_list (flatten order))) c in
        (λ m. let k = i.0 m in ((called_is c).0 (rw p at k.0), k.1), λ k. i.1 (rw p ((called_is c).1 k.0), k.1))

    -- Demand 3, the hub's call
    pub hub_call_lem : NoneWalked q → length (flatten order) ≤ 8192 → (out work : ℕ) → Enough 4096 out work
        → Owes (call_list_call out work (bytes_of (flatten order))) 4096 (call_list (flatten order))
    hub_call_lem none l out work r = owes (call_list_call out work (bytes_of (flatten order))) 4096 (call_list (flatten order))
        (calls.calls_outcome out work (flatten order) r.0 r.1 g.word g.some l (firsts_accepted n order g.bundle) (stray_none.1 none))

    module _ (k : length (call_list (flatten order)) ≤ 4096) where
      -- the call list says its length
      pub list_sized : Sized (call_list (flatten order))
      list_sized =
          let r = calls.calls_header n order g.bundle k in
          record { some = calls.calls_some n order g.bundle; word = r.word; size = r.size_is }

      -- Demand 3, the second calls
      pub second_call_lem : (out work : ℕ) → Enough 4096 out work → (f : List ℕ) → Mem f q.parts
          → second_call q.groups out work (bytes_of f) (bytes_of q.path) (bytes_of (call_list (flatten order))) ≡ accepted (second_reply f path (call_list (flatten order)))
      second_call_lem out work r f i =
          let c = q.cut.part f i in
          let list = call_list (flatten order) in
          second_asked out work q.path q.path_accepted q.groups f list q.groups_accepted r c
          (calls.calls_words n order g.bundle k) k (calls.calls_checked n order g.bundle k)
          (against_checked f q.path list ((calls.calls_header n order g.bundle k).labels_is ∙ ap labels_of (asks_head q.groups q.path))
          (λ c m. called_door q.plant q.parts q.cut q.one_root e small
          ((called_is c).0 (rw (calls.calls_pairs n order g.bundle) at m)) f i))
          ∙ outcome_gives 4096 (second_reply f path list) (omega (arith, second.second_length f path list c.2, c.1))

  -- What the hub knows of the second replies, in any order, whatever was called: they are accepted, and their answers are what the parts
  -- found.
  pub record Answered (list : List ℕ) (order : List (List ℕ)) : Type 0 where
    pub bundle : Seconds n order
    pub word : Words (flatten order)
    pub some : 0 < length order
    pub answers : (x : ℕ) → Mem x (answers_of (flatten order)) ↔ ((f : List ℕ) × Mem f q.parts × Mem x (second.found f path list))

  pub answered : (list : List ℕ) (order : List (List ℕ)) → Perm order (seconds list) → Answered list order
  answered list order o =
      let answer : List ℕ → List ℕ = λ f. second_reply f path list in
      let (parts, r, e) = perm_of_map answer q.parts o in
      let c = cut_perm r q.cut in
      let a = second_answers q.plant parts c path list in
      subst (Answered list) (sym e) (record {
        bundle = second_bundle q.plant parts c path list;
        word = made_words 13 answers_check n answer parts c.sites (seconds_made q.plant parts c path list);
        some = omega (arith, length-map parts answer, perm_length r, q.some_part);
        answers = λ x. let i = flatten_map_iff (λ f. second.found f path list) x parts in (
          λ m. let k = i.0 (rw a at m) in (k.0, (perm_same r).0 k.0 k.1, k.2),
          λ k. rw a (i.1 (k.0, (perm_same r).1 k.0 k.1, k.2)),
        );
      })

  -- Demand 3, joining: it is accepted; it lists what the parts found; and it holds the second replies' answers, each once
  module _ {list : List ℕ} {order : List (List ℕ)} (a : Answered list order) where
    pub join_lists : (xs : List ℕ) × Lists (λ x. (f : List ℕ) × Mem f q.parts × Mem x (second.found f path list)) xs
        × (joined (flatten order) ≡ file 15 0 0 (map answer_word xs))
    join_lists = (
      set_of (answers_of (flatten order)),
      lists_iff a.answers (set_of_lists (answers_of (flatten order))),
      join.joined_is (flatten order),
    )

    module _ (l : length (flatten order) ≤ 8192) where
      joined_short : length (joined (flatten order)) ≤ 8192
      joined_short = omega (arith, join.seconds_short n order a.bundle a.some)

      pub join_call_lem : (out work : ℕ) → Enough 8192 out work → join_call out work (bytes_of (flatten order)) ≡ accepted (joined (flatten order))
      join_call_lem out work r =
          join.join_outcome out work (flatten order) r.0 r.1 a.word (bundle_some 13 answers_check n order a.bundle.replies a.some) l
          (seconds_accepted n order a.bundle)
          ∙ outcome_gives 8192 (joined (flatten order)) joined_short

      pub join_perm : Perm (answers_of (flatten order)) (answers_of (joined (flatten order)))
      join_perm = join.seconds_perm n order a.bundle a.some l

      -- what is joined says its length, and is of 32-bit words
      pub joined_sized : Sized (joined (flatten order))
      joined_sized = join.joined_file (flatten order) joined_short Sized (file_sized 15 0 0)

      pub joined_words : Words (joined (flatten order))
      joined_words = join.joined_words (flatten order) joined_short

  -- Replies say their length

  pub first_sized : (f : List ℕ) → Mem f q.parts → length (first_reply f path) ≤ 4096 → Sized (first_reply f path)
  first_sized f m h = made_sized (first.first_made f path (q.cut.part f m).2 path_read h)

  pub second_sized : (list f : List ℕ) → Mem f q.parts → Sized (second_reply f path list)
  second_sized list f m = let c = q.cut.part f m in made_sized (second.second_made f path list c.2 c.1)
