-- A plant's true cut: what all sites write of it makes bundles that the hub accepts, in any order, and what stands in them.
-- Assumes nothing.
use mathlib.Core.Path.{◌≡◌, refl, sym, ◌∙◌, ap}
use mathlib.Core.Logic.{◌↔◌}
use mathlib.Core.Bool.{◌&&◌}
use mathlib.Core.List.Memᴰ
use mathlib.Core.List.{List, [], ◌∷◌, map, flatten}
use Prim.Native.Nat.{ℕ, ◌≤◌}
use native.Mathlib.Omega.{arith}
use lib.ListN.{length, drop, get_or}
use Rattle.sets.specs.Sets.{Mem, here, there, Perm, Distinct}
use Rattle.sets.proofs.Sets.{mem_dec, flatten_map_iff}
use Rattle.sets.proofs.Lengths.{ascending_distinct}
use Rattle.sets.proofs.Perm.{perm_same, perm_map}
use Rattle.sets.proofs.Distinct.{distinct_flatten, perm_distinct}
use Rattle.files.specs.Field.{site_of, labels_of, node_of, door_root_of, pair_node, pair_state}
use Rattle.files.specs.Part.{nodes, part_check}
use Rattle.files.specs.Part as part
use Rattle.files.specs.Path.{path_check}
use Rattle.files.specs.Reply.{is_door_word, reply_check, doors, roots, rows}
use Rattle.files.specs.Answers.{is_answer, answers_of, answers_check}
use Rattle.files.proofs.Fields.{pair_eta}
use Rattle.files.proofs.Blocks.{roots_nodes, doors_nodes}
use Rattle.files.proofs.Parts.{doors_ascending, roots_ascending}
use Rattle.files.proofs.Files.{Made}
use Rattle.files.proofs.Bundles.{Firsts, Seconds, made_replies, made_chosen}
use Rattle.files.proofs.Rows.{rows_none}
use Rattle.expressions.specs.Labels.{expr_of}
use Rattle.first_replies.specs.FirstReply.{reported, first_reply}
use Rattle.site_second.specs.Second.{second_reply}
use Rattle.first_replies.proofs.FirstReplies as first
use Rattle.site_second.proofs.SecondReplies as second
use Rattle.hub_calls.proofs.CallLists as calls
use Rattle.demands.specs.Plant.{Plant, OneRoot, TrueCut, body}

-- a true cut is one in any order
pub cut_perm : {p : Plant} {parts parts' : List (List ℕ)} → Perm parts' parts → TrueCut p parts → TrueCut p parts'
cut_perm r c =
    let i = (perm_same r).0 in
    let o = (perm_same r).1 in
    record {
      part = λ f m. c.part f (i f m);
      holds = λ f m. c.holds f (i f m);
      sites = perm_distinct (perm_map (λ f. site_of (get_or f 0 0)) r) c.sites;
      every = λ x n. let e = c.every x n in (e.0, o e.0 e.1, e.2);
      once = λ x f g m k. c.once x f g (i f m) (i g k);
      crossed = λ x a y f g m k. c.crossed x a y f g (i f m) (i g k);
    }

-- a list with no member twice, all of whose members are one
one_member : (x : ℕ) (xs : List ℕ) → Distinct xs → Mem x xs → ((y : ℕ) → Mem y xs → y ≡ x) → xs ≡ x ∷ []
one_member x [] d m h = elim m [ ]
one_member x (y ∷ []) d m h = ap (◌∷ []) (h y (here refl))
one_member x (y ∷ z ∷ xs) d m h = absurd (d.0 (here (h y (here refl) ∙ sym (h z (there (here refl))))))

module _ (p : Plant) (parts : List (List ℕ)) (cut : TrueCut p parts) where
  read : (f : List ℕ) → Mem f parts → part_check f ≡ 0
  read f m = (cut.part f m).2

  -- what each part has of its nodes, none of it twice, all parts have together, none of it twice
  cut_distinct : (have : List ℕ → List ℕ) → ((f : List ℕ) → Mem f parts → Distinct (have f))
      → ((f : List ℕ) → Mem f parts → (x : ℕ) → Mem x (have f) → Mem x (nodes (body f))) → Distinct (flatten (map have parts))
  cut_distinct have d n = distinct_flatten (λ f. site_of (get_or f 0 0)) have parts cut.sites d
      (λ f g x m k i j. cut.once x f g m k (n f m x i) (n g k x j))

  -- the parts' doors and roots
  abbrev cut_doors : List ℕ
  cut_doors = flatten (map (λ f. part.doors (body f)) parts)

  abbrev cut_roots : List ℕ
  cut_roots = flatten (map (λ f. part.roots (body f)) parts)

  -- no node is a door twice
  doors_distinct : Distinct cut_doors
  doors_distinct = cut_distinct (λ f. part.doors (body f))
      (λ f m. ascending_distinct (part.doors (body f)) (doors_ascending f (read f m))) (λ f m. doors_nodes (body f))

  -- the plant's root is the one root
  root_only : (one : OneRoot p) → cut_roots ≡ one.root ∷ []
  root_only one =
      let h = cut.every one.root (p.root_node one.root one.is) in
      one_member one.root cut_roots
      (cut_distinct (λ f. part.roots (body f)) (λ f m. ascending_distinct (part.roots (body f)) (roots_ascending f (read f m)))
      (λ f m. roots_nodes (body f)))
      ((flatten_map_iff (λ f. part.roots (body f)) one.root parts).1 (h.0, h.1, (cut.holds h.0 h.1).has_root one.root h.2 one.is))
      (λ x m. let k = (flatten_map_iff (λ f. part.roots (body f)) x parts).0 m in one.only x ((cut.holds k.0 k.1).is_root_lem x k.2))

  -- The first bundle

  module _ (path : List ℕ) (path_read : path_check path ≡ 0) (short : (f : List ℕ) → Mem f parts → length (first_reply f path) ≤ 4096) where
    abbrev n : ℕ
    n = labels_of (get_or path 0 0)

    abbrev write : List ℕ → List ℕ
    write f = first_reply f path

    pub firsts_made : (f : List ℕ) → Mem f parts → Made 7 (site_of (get_or f 0 0)) n reply_check (write f)
    firsts_made f m = first.first_made f path (read f m) path_read (short f m)

    pub first_doors : doors (flatten (map write parts)) ≡ flatten (map (λ f. part.doors (body f)) parts)
    first_doors = made_chosen 7 reply_check n write parts cut.sites firsts_made node_of is_door_word (λ f. part.doors (body f)) (λ w e. rw e)
        (λ f m. first.first_doors f path (read f m) path_read)

    first_roots : roots (flatten (map write parts)) ≡ cut_roots
    first_roots = made_chosen 7 reply_check n write parts cut.sites firsts_made node_of (λ w. is_door_word w && door_root_of w) (λ f. part.roots (body f)) (λ w e. rw e)
        (λ f m. first.first_roots f path (read f m) path_read)

    -- other nodes than doors have no rows
    first_rows_none : (c : ℕ) → (Mem (pair_node c) cut_doors → ⊥) → rows (flatten (map write parts)) c ≡ []
    first_rows_none c d = rows_none c (flatten (map write parts)) (λ m. d (rw first_doors at m))

    module _ (one : OneRoot p) where
      pub first_root : roots (flatten (map write parts)) ≡ one.root ∷ []
      first_root = first_roots ∙ root_only one

      -- the hub accepts the first replies
      pub first_bundle : Firsts n (map write parts)
      first_bundle = record {
        replies = made_replies 7 reply_check n write parts cut.sites firsts_made;
        one_root = ap length first_root;
        distinct = rw first_doors doors_distinct;
      }

      -- the bundle's rows of a part's door are what the part reports of it
      first_rows : (f : List ℕ) → Mem f parts → (c : ℕ) → Mem (pair_node c) (part.doors (body f))
          → rows (flatten (map write parts)) c ≡ reported (body f) (expr_of (drop 1 path)) (pair_node c) (pair_state c)
      first_rows f m c d =
          calls.rows_of_file n (map write parts) first_bundle (write f) c (Memᴰ.map write m) (rw (first.first_doors f path (read f m) path_read) d)
          ∙ rw pair_eta at (first.first_rows f path (read f m) path_read (pair_node c) (pair_state c) d (omega arith))

      -- a pair is in a row of the bundle just if a part with the row's door reports it
      pub first_rows_iff : (c d : ℕ) → Mem d (rows (flatten (map write parts)) c)
          ↔ ((f : List ℕ) × Mem f parts × Mem (pair_node c) (part.doors (body f)) × Mem d (reported (body f) (expr_of (drop 1 path)) (pair_node c) (pair_state c)))
      first_rows_iff c d = (to (mem_dec (pair_node c) cut_doors), λ k. rw (first_rows k.0 k.1 c k.2) k.3)
        where
          to : Dec (Mem (pair_node c) cut_doors) → Mem d (rows (flatten (map write parts)) c)
              → (f : List ℕ) × Mem f parts × Mem (pair_node c) (part.doors (body f)) × Mem d (reported (body f) (expr_of (drop 1 path)) (pair_node c) (pair_state c))
          to (yes i) m = let k = (flatten_map_iff (λ f. part.doors (body f)) (pair_node c) parts).0 i in (k.0, k.1, k.2, rw (first_rows k.0 k.1 c k.2) at m)
          to (no i) m = absurd (Memᴰ.not-nil (rw (first_rows_none c i) at m))

  -- The second bundle, whatever was called

  module _ (path list : List ℕ) where
    abbrev answer : List ℕ → List ℕ
    answer f = second_reply f path list

    pub seconds_made : (f : List ℕ) → Mem f parts → Made 13 (site_of (get_or f 0 0)) (labels_of (get_or path 0 0)) answers_check (answer f)
    seconds_made f m = second.second_made f path list (read f m) (cut.part f m).1

    -- the bundle's answers are what the parts found
    pub second_answers : answers_of (flatten (map answer parts)) ≡ flatten (map (λ f. second.found f path list) parts)
    second_answers = made_chosen 13 answers_check (labels_of (get_or path 0 0)) answer parts cut.sites seconds_made node_of is_answer (λ f. second.found f path list)
        (λ w e. rw e) (λ f m. second.second_answers f path list (read f m))

    -- the hub accepts the second replies
    pub second_bundle : Seconds (labels_of (get_or path 0 0)) (map answer parts)
    second_bundle = record {
      replies = made_replies 13 answers_check (labels_of (get_or path 0 0)) answer parts cut.sites seconds_made;
      distinct = rw second_answers (cut_distinct (λ f. second.found f path list)
          (λ f m. ascending_distinct (second.found f path list) (second.found_ascending f path list (read f m)))
          (λ f m. second.found_nodes f path list (read f m)));
    }
