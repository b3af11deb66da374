-- The hub's call list, of an accepted bundle: the rows of the bundle are those of its files; the called pairs are all that is reached by
-- the rows from the root's; and the call list is an accepted file. Assumes nothing.
use mathlib.Core.Path.{◌≡◌, refl, sym, ◌∙◌, ap}
use mathlib.Core.Logic.{◌↔◌, inl, inr}
use mathlib.Core.Bool.{not, ◌&&◌}
use mathlib.Core.List.Memᴰ
use mathlib.Core.List.{List, map, flatten}
use Prim.Native.Nat.{ℕ, suc, ◌*◌, ◌^◌, ◌≤◌, ◌<◌}
use native.Mathlib.Omega.{arith}
use lib.ListN.{length, get_or, drop, length-map}
use Rattle.sets.specs.Sets.{Mem, Lists, filter, member, any}
use Rattle.sets.specs.Reach.{Reach}
use Rattle.sets.proofs.Sets.{flatten_iff, unique, member_iff}
use Rattle.sets.proofs.Tests.{either, is_true, passed}
use Rattle.sets.proofs.Filter.{any_iff, all_iff, not_member_iff}
use Rattle.sets.proofs.Reach.{closure_lists, reach_least, reach_is_least, least_unique}
use Rattle.files.specs.Field.{labels_of, node_of, door_root_of, pair, pair_of, pair_node, pair_state, file, call_word}
use Rattle.files.specs.Word.{bytes_of}
use Rattle.files.specs.Outcome.{refused, outcome}
use Rattle.files.specs.Bundle.{first_bundle_check}
use Rattle.files.specs.Calls.{calls_check}
use Rattle.files.specs.Reply.{is_door_word, reply_check, doors, roots, rows}
use Rattle.files.proofs.Checks.{then_zero, unless_iff, room_checked}
use Rattle.files.proofs.Words.{words_bytes, size_checked}
use Rattle.files.proofs.Fields.{Header, header, holder, node_below, pair_below, pair_state_lem, pair_of_below, pair_of_state, labels_below}
use Rattle.files.proofs.Rows.{rows_flatten, rows_reach}
use Rattle.files.proofs.Files.{file_words}
use Rattle.files.proofs.Bundles.{Firsts, firsts_labels, calls_made, file_stops, file_doors, file_rows, file_states}
use Rattle.files.proofs.Ordered.{calls_read}
use Rattle.files.specs.Limits.{reply_words, bundle_words, work_bytes}
pub use Rattle.hub_search.specs.Search.{seeds}
use Rattle.hub_calls.specs.CallList.{IsCallList, called, stray, stray_check, call_list, call_list_call}

-- Of any words

root_below : (bundle : List ℕ) (x : ℕ) → Mem x (roots bundle) → x < 2 ^ 16
root_below bundle x m = let r = Memᴰ.of_map node_of (filter (λ w. is_door_word w && door_root_of w) bundle) m in rw (← r.2) (node_below r.0)

module _ (bundle : List ℕ) where
  seed_below : (c : ℕ) → Mem c (seeds bundle) → c < 2 ^ 20
  seed_below c m =
      let r = Memᴰ.of_map (λ x. pair x 0) (roots bundle) m in
      rw (← r.2) (pair_below r.0 0 (root_below bundle r.0 r.1) (omega arith))

  row_below : (c d : ℕ) → Mem d (rows bundle c) → d < 2 ^ 20
  row_below c d m = let r = rows_reach d bundle c m in rw (← r.3) (pair_of_below r.0)

  -- the called pairs are the least set that holds the root's pair and is closed under the rows
  pub called_lists : Lists (Reach (rows bundle) (seeds bundle)) (called bundle)
  unfolding called
  called_lists = closure_lists (rows bundle) (seeds bundle) seed_below (λ c d r. row_below c d)

  pub called_below_lem : (c : ℕ) → Mem c (called bundle) → c < 2 ^ 20
  called_below_lem c m = reach_least (λ c. c < 2 ^ 20) seed_below (λ c d r h. row_below c d) c (called_lists.sound c m)

  -- what is computed is document 01's call list
  pub call_list_lem : IsCallList bundle (call_list bundle)
  unfolding call_list
  call_list_lem = record {
    pairs = called bundle;
    ascending = called_lists.ascending;
    set = reach_is_least (called bundle) called_lists;
    is = refl;
  }

  -- there is one call list of a bundle
  pub call_list_unique : {f g : List ℕ} → IsCallList bundle f → IsCallList bundle g → f ≡ g
  call_list_unique a b =
      let i = least_unique a.set b.set in
      a.is ∙ ap (λ cs. file 11 0 (labels_of (get_or bundle 0 0)) (map call_word cs))
      (unique a.pairs b.pairs a.ascending b.ascending (λ c m. (i c).0 m, λ c m. (i c).1 m)) ∙ sym b.is

  -- 14 is not given just if every called pair names a door
  pub stray_iff : (stray_check bundle ≡ 0) ↔ ((c : ℕ) → Mem c (called bundle) → Mem (pair_node c) (doors bundle))
  stray_iff =
      let u = unless_iff 14 (not (any (stray bundle) (called bundle))) refl in
      let a = all_iff (λ c. member (pair_node c) (doors bundle)) (called bundle) in (
        λ e c m. (member_iff (pair_node c) (doors bundle)).0 (a.0 (u.0 e) c m),
        λ h. u.1 (a.1 (λ c m. (member_iff (pair_node c) (doors bundle)).1 (h c m))),
      )

  -- it is given just if some called pair names no door
  pub stray_given : (stray_check bundle ≡ 14) ↔ ((c : ℕ) × Mem c (called bundle) × (Mem (pair_node c) (doors bundle) → ⊥))
  stray_given =
      let a = any_iff (stray bundle) (called bundle) in (
        λ e. elim (either (any (stray bundle) (called bundle))) [
          | inl t ↦ let (c, m, s) = a.0 (passed t) in (c, m, (not_member_iff (pair_node c) (doors bundle)).0 s)
          | inr n ↦ absurd (omega (arith, rw n at e))
        ],
        λ (c, m, n). rw (is_true (any (stray bundle) (called bundle)) (a.1 (c, m, (not_member_iff (pair_node c) (doors bundle)).1 n))),
      )

  -- so of any list that is the document's call list, nobody having to believe how `called` is computed
  pub stray_least : {f : List ℕ} (l : IsCallList bundle f) → (stray_check bundle ≡ 14) ↔ ((c : ℕ) × Mem c l.pairs × (Mem (pair_node c) (doors bundle) → ⊥))
  stray_least l =
      let i = least_unique (reach_is_least (called bundle) called_lists) l.set in (
        λ e. let (c, m, n) = stray_given.0 e in (c, (i c).0 m, n),
        λ (c, m, n). stray_given.1 (c, (i c).1 m, n),
      )

-- Of an accepted bundle

module _ (n : ℕ) (fs : List (List ℕ)) (b : Firsts n fs) where
  -- the rows of a door's pairs are those of the one file that has the door
  pub rows_of_file : (f : List ℕ) (c : ℕ) → Mem f fs → Mem (pair_node c) (doors (drop 1 f)) → rows (flatten fs) c ≡ rows (drop 1 f) c
  rows_of_file f c m d =
      let k = b.replies.files f m in
      rows_flatten c (λ g i. file_stops reply_check g (b.replies.files g i)) b.distinct m (rw (file_doors reply_check f k) d) ∙ file_rows reply_check f k c

  -- no state is above n
  called_states : (c : ℕ) → Mem c (called (flatten fs)) → pair_state c ≤ n
  called_states c m = reach_least (λ c. pair_state c ≤ n)
      (λ c m. let r = Memᴰ.of_map (λ x. pair x 0) (roots (flatten fs)) m in omega (arith, r.2, pair_state_lem r.0 0 (omega arith)))
      (λ c d r h m. let k = rows_reach d (flatten fs) c m in
      let f = (flatten_iff k.0 fs).0 k.1 in
      omega (arith, file_states f.0 (b.replies.files f.0 f.1) k.0 f.2 k.2, b.replies.labels f.0 f.1, k.3, pair_of_state k.0))
      c ((called_lists (flatten fs)).sound c m)

  -- the call list
  calls_is : call_list (flatten fs) ≡ file 11 0 n (map call_word (called (flatten fs)))
  unfolding call_list
  calls_is = ap (λ m. file 11 0 m (map call_word (called (flatten fs)))) (firsts_labels n fs b)

  -- the call list's calls are the called pairs
  pub calls_pairs : map pair_of (drop 1 (call_list (flatten fs))) ≡ called (flatten fs)
  calls_pairs = rw calls_is (calls_read (called (flatten fs)) (called_below_lem (flatten fs)))

  pub calls_some : 0 < length (call_list (flatten fs))
  calls_some = rw calls_is (omega arith)

  small : n < 16
  small = omega (arith, firsts_labels n fs b, labels_below (get_or (flatten fs) 0 0))

  module _ (short : length (call_list (flatten fs)) ≤ reply_words) where
    fits : length (map call_word (called (flatten fs))) < reply_words
    fits = rw calls_is at short

    pub calls_header : Header 11 0 n (length (call_list (flatten fs))) (get_or (call_list (flatten fs)) 0 0)
    calls_header = rw calls_is (header 11 0 n (suc (length (map call_word (called (flatten fs))))) (omega arith) (omega arith) small (omega (arith, fits)))

    pub calls_words : (w : ℕ) → Mem w (call_list (flatten fs)) → w < 2 ^ 32
    calls_words = rw calls_is (file_words 11 0 n (map call_word (called (flatten fs))) (omega arith) (omega arith) small (omega (arith, fits))
        (λ w i. let r = Memᴰ.of_map call_word (called (flatten fs)) i in rw (← r.2) (holder 12 r.0 (omega arith) (called_below_lem (flatten fs) r.0 r.1)).word))

    -- the call list is an accepted file
    pub calls_checked : calls_check (call_list (flatten fs)) ≡ 0
    calls_checked = rw calls_is (calls_made n (called (flatten fs)) small (omega (arith, fits, length-map (called (flatten fs)) call_word))
        (called_lists (flatten fs)).ascending (λ c m. (called_below_lem (flatten fs) c m, called_states c m)))

-- The call

-- written as bytes, an accepted bundle whose called pairs name doors is accepted by the call
pub calls_outcome : (out work : ℕ) (bundle : List ℕ) → 4 * reply_words ≤ out → work_bytes ≤ work → ((w : ℕ) → Mem w bundle → w < 2 ^ 32)
    → 0 < length bundle → length bundle ≤ bundle_words → first_bundle_check bundle ≡ 0 → stray_check bundle ≡ 0
    → call_list_call out work (bytes_of bundle) ≡ outcome 0 reply_words (call_list bundle)
unfolding call_list_call
calls_outcome out work bundle h k w s l c d =
    rw (words_bytes bundle w) (ap (λ e. outcome e reply_words (call_list bundle))
    (then_zero (room_checked reply_words out work h k) (then_zero (size_checked bundle_words bundle s l) (then_zero c d))))

-- one with a called pair that names no door is refused with 14, however long the call list
pub calls_stray : (out work : ℕ) (bundle : List ℕ) → 4 * reply_words ≤ out → work_bytes ≤ work → ((w : ℕ) → Mem w bundle → w < 2 ^ 32)
    → 0 < length bundle → length bundle ≤ bundle_words → first_bundle_check bundle ≡ 0
    → (c : ℕ) → Mem c (called bundle) → (Mem (pair_node c) (doors bundle) → ⊥)
    → call_list_call out work (bytes_of bundle) ≡ refused 14
unfolding call_list_call
calls_stray out work bundle h k w s l c x m n =
    rw (words_bytes bundle w, room_checked reply_words out work h k, size_checked bundle_words bundle s l, c, (stray_given bundle).1 (x, m, n))
