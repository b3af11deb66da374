-- Request 11: what each desk is told, and what it finds in the reply that eight of them share. Assumes nothing.
use mathlib.Core.Path.{◌≡◌, refl, ◌∙◌, ap, subst}
use mathlib.Core.Logic.{inl, inr}
use mathlib.Core.Bool.{true, false}
use mathlib.Core.List.Memᴰ
use mathlib.Core.List.{List, [], ◌∷◌, ◌++◌, map, flatten}
use Prim.Native.Nat.{ℕ, zero, suc, ◌*◌, ◌≤◌, ◌<◌}
use native.Mathlib.Nat.{sub-zero}
use native.Mathlib.Omega.{arith}
use borrow.Author.Tests.{leb-true}
use lib.Dec.{leb}
use lib.ListN.{length, get_or, replicate, length-append, length-map, get_or-replicate, get_or-eq_default}
use lib.Seq.{get_or_at}
use Rattle.sets.specs.Sets.{Mem, here, there}
use Rattle.sets.proofs.Tests.{either}
use Rattle.sets.proofs.Filter.{map_append}
use Rattle.files.specs.Word.{words, bytes_of}
use Rattle.files.specs.Field.{size_of}
use Rattle.files.specs.Refuse.{◌then◌, room_check, size_check, header_check}
use Rattle.files.specs.Outcome.{Outcome, refused, accepted, outcome, zeros, padded, leaves}
use Rattle.files.specs.Part.{part_check}
use Rattle.files.specs.Path.{path_check}
use Rattle.files.specs.Groups.{groups_check, loaded, our_groups}
use Rattle.files.specs.Limits.{part_words, path_words, reply_words}
use Rattle.files.proofs.Checks.{checks, then_iff, then_zero, zero_accepted}
use Rattle.files.proofs.Words.{words_length}
use Rattle.files.proofs.Groups.{groups_ranges, loaded_checked}
use Rattle.path_bundles.specs.Split.{bytes_in, IsSplit, split, split_check}
use Rattle.path_bundles.specs.Packed.{number_of}
use Rattle.path_bundles.proofs.Splitting.{split_one, split_iff}
use Rattle.first_replies.specs.FirstReply.{first_reply}
use Rattle.first_replies.proofs.FirstReplies.{first_made}
use Rattle.site_first.specs.First.{first_reply_call, first_reply_grouped_call}
use Rattle.site_first.proofs.FirstCalls.{first_ours}
use Rattle.visits.specs.Whole.{whole_number, whole_grouped_number}
use Rattle.visits.specs.Visit.{answers, visit}
use Rattle.visits.proofs.Visiting.{call_small, whole_small}
use Rattle.choices.specs.Shared.{numbers_of, shared, leaves_shared}
use Rattle.path_bundles.proofs.Sized.{Sized, made_sized}
use Rattle.choices.proofs.Serving.{Says, numbers_length, number_refused, number_short, number_long, shared_fits, desk_byte, desk_served, refused_shared}
use Rattle.eight_replies.specs.Eight.{desk_count, eight_replies_grouped, eight_replies_call, eight_replies_grouped_call}
use Rattle.eight_replies.specs.Asking.{IsShared, Accepted, Eighth, Request11}
use Rattle.eight_replies.proofs.Laying.{split_few}
use Rattle.eight_replies.proofs.Eights.{answers_shared, eight_ours}

-- ---- a shared reply is what is promised, for any call for one path whose numbers fit a byte and whose replies say their lengths

module _ (reply : ℕ → List ℕ → Outcome) (n m : ℕ) (fs : List (List ℕ)) (small : (f : List ℕ) → number_of (reply n f) < 256) (says : (f : List ℕ) → Says (reply n f))
    (few : length fs ≤ desk_count) where
  abbrev os : List Outcome
  os = map (reply n) fs

  all_small : (o : Outcome) → Mem o os → number_of o < 256
  all_small o i = let (f, j, e) = Memᴰ.of_map (reply n) fs i in rw (← e) (small f)

  all_say : (o : Outcome) → Mem o os → Says o
  all_say o i = let (f, j, e) = Memᴰ.of_map (reply n) fs i in rw (← e) (says f)

  answered : IsShared 0 os n m (leaves_shared (answers reply (replicate desk_count n) fs) n m)
  answered = rw (answers_shared reply n m desk_count fs few) (record {
    refusal = λ z i h k e. desk_byte os n m all_small i ∙ number_refused os i h k e;
    short = λ z i h ws e l. desk_served os n m all_small all_say i ws h e (number_short os i h ws e l);
    long = λ z i h ws e l. elim (number_long os i h ws e l) [
      | inl (t, s) ↦ inl (desk_served os n m all_small all_say i ws h e t, s)
      | inr (t, s) ↦ inr (desk_byte os n m all_small i ∙ t, s)
    ];
    past = λ z i l. desk_byte os n m all_small i ∙ get_or-eq_default (numbers_of os) 0 (omega (arith, numbers_length os));
    fits = (shared os, shared_fits os (omega (arith, length-map fs (reply n))), refl);
    whole = λ z. absurd (z refl);
    work = refl;
  })

  withheld : (k : ℕ) → suc k < 256 → IsShared (suc k) os n m (leaves_shared (visit (suc k) reply (replicate desk_count n) fs) n m)
  withheld k s =
      let all : List Outcome = replicate desk_count (refused (suc k)) in
      let none : shared all ≡ [] = refused_shared k (replicate desk_count n) in
      record {
        refusal = λ z. absurd (omega arith);
        short = λ z. absurd (omega arith);
        long = λ z. absurd (omega arith);
        past = λ z. absurd (omega arith);
        fits = ([], omega arith, ap (padded n) none);
        whole = λ z. (
          λ i h. desk_byte all n m (λ o j. let (f, j, e) = Memᴰ.of_map (λ n. refused (suc k)) (replicate desk_count n) j in rw (← e) s) i
              ∙ number_refused all i h (suc k) (get_or-replicate desk_count i (refused (suc k)) (accepted []) h),
          ap (padded n) none ∙ ap zeros (sub-zero n),
        );
        work = refl;
      }

  is_shared : (number : ℕ) → number < 256 → IsShared number os n m (leaves_shared (visit number reply (replicate desk_count n) fs) n m)
  is_shared zero s = answered
  is_shared (suc k) s = withheld k s

-- ---- the calls

outcome_says : (c : ℕ) (ws : List ℕ) → (c ≡ 0 → length ws ≤ reply_words → Sized ws) → Says (outcome c reply_words ws)
outcome_says (suc c) ws h = λ z. omega arith
outcome_says zero ws h = elim (either (leb (length ws) reply_words)) [
  | inl t ↦ rw t (h refl (leb-true (length ws) reply_words t))
  | inr t ↦ rw t (λ z. omega arith)
]

-- the checks of the site, whatever is checked behind them
site_passed : (n m : ℕ) (part groups : List ℕ) {x : ℕ} → (room_check reply_words n m then size_check part_words part then part_check (words part) then groups_check groups then x) ≡ 0
    → (part_check (words part) ≡ 0) × (groups_check groups ≡ 0) × (x ≡ 0)
    × ((y : ℕ) → y ≡ 0 → (room_check reply_words n m then size_check part_words part then part_check (words part) then groups_check groups then y) ≡ 0)
site_passed n m part groups c =
    let (r, c) = (then_iff (room_check reply_words n m) _).0 c in
    let (s, c) = (then_iff (size_check part_words part) _).0 c in
    let (p, c) = (then_iff (part_check (words part)) _).0 c in
    let (g, c) = (then_iff (groups_check groups) _).0 c in
    (p, g, c, λ y d. then_zero r (then_zero s (then_zero p (then_zero g d))))

-- a first reply that is given is an accepted file
first_says : (n m : ℕ) (part groups path : List ℕ) → Says (first_reply_grouped_call n m part groups path)
unfolding first_reply_grouped_call
first_says n m part groups path = outcome_says _ _ (λ c l.
    let (p, g, c, d) = site_passed n m part groups c in
    let (t, a) = (then_iff (size_check path_words path) (path_check (words path))).0 c in
    made_sized (first_made (words part) (loaded (words groups) (words path)) p (loaded_checked (words groups) (groups_ranges groups g) (words path) a) l))

eight_grouped : (n m : ℕ) (part groups paths : List ℕ)
    → IsShared (whole_grouped_number desk_count n m part groups paths) (map (first_reply_grouped_call n m part groups) (split desk_count paths)) n m (eight_replies_grouped_call n m part groups paths)
unfolding eight_replies_grouped
eight_grouped n m part groups paths =
    is_shared (λ n path. first_reply_grouped_call n m part groups path) n m (split desk_count paths) (call_small n m part groups) (first_says n m part groups)
    (split_few desk_count paths) (whole_grouped_number desk_count n m part groups paths) (whole_small desk_count n m part groups paths)

eight : (n m : ℕ) (part paths : List ℕ)
    → IsShared (whole_number desk_count n m part paths) (map (first_reply_call n m part) (split desk_count paths)) n m (eight_replies_call n m part paths)
eight n m part paths = subst
    (λ os. IsShared (whole_number desk_count n m part paths) (map (first_reply_call n m part) (split desk_count paths)) n m (leaves_shared os n m)) (eight_ours n m part paths)
    (subst (λ os. IsShared (whole_number desk_count n m part paths) os n m (eight_replies_grouped_call n m part (bytes_of our_groups) paths))
    (λ i. map (λ path. first_ours n m part path i) (split desk_count paths)) (eight_grouped n m part (bytes_of our_groups) paths))

-- ---- the eighth

-- an accepted path says its length, in words and in bytes
path_sized : (ws : List ℕ) → path_check ws ≡ 0 → size_of (get_or ws 0 0) ≡ length ws
path_sized [] c = absurd (omega arith)
path_sized (h ∷ ws) c = (simp checks at ((then_iff (header_check 4 false true (suc (length ws)) h) _).0 c).0).1

accepted_file : (f : List ℕ) → Accepted f → (0 < length f) × (length f ≤ 256) × (length f ≡ bytes_in f)
accepted_file f c =
    let (s, p) = (then_iff (size_check path_words f) (path_check (words f))).0 c in
    let ((four, some), few) = simp checks at s in
    (some, omega (arith, four, few), omega (arith, four, path_sized (words f) p, words_length f))

flatten_bounds : (fs : List (List ℕ)) → ((f : List ℕ) → Mem f fs → Accepted f) → (length fs ≤ length (flatten fs)) × (length (flatten fs) ≤ 256 * length fs)
unfolding flatten
flatten_bounds [] a = (omega arith, omega arith)
flatten_bounds (f ∷ fs) a =
    let (some, few, sized) = accepted_file f (a f (here refl)) in
    let (l, h) = flatten_bounds fs (λ g m. a g (there m)) in
    (omega (arith, length-append f (flatten fs), some, l), omega (arith, length-append f (flatten fs), few, h))

-- accepted paths that were put together are a bundle, and are found again
module _ (fs : List (List ℕ)) (accepted : (f : List ℕ) → Mem f fs → Accepted f) (few : length fs ≤ desk_count) where
  paths_split : IsSplit desk_count (flatten fs) fs
  paths_split = record { some = λ f m. (accepted_file f (accepted f m)).0; sized = λ f m. (accepted_file f (accepted f m)).2; all = refl; few = few }

  paths_bundle : 0 < length fs → split_check desk_count (flatten fs) ≡ 0
  paths_bundle h = let (l, u) = flatten_bounds fs accepted in (split_iff desk_count (flatten fs)).1 (omega (arith, l), omega (arith, u), (fs, paths_split))

-- where a path is answered, nothing but the bundle can refuse the whole
whole_by : (n m : ℕ) (part groups path paths ws : List ℕ) → first_reply_grouped_call n m part groups path ≡ accepted ws → split_check desk_count paths ≡ 0
    → whole_grouped_number desk_count n m part groups paths ≡ 0
unfolding first_reply_grouped_call
whole_by n m part groups path paths ws e s =
    let (c, l, q) = zero_accepted _ reply_words (first_reply (words part) (loaded (words groups) (words path))) 0 0 (ap (λ o. (leaves o 0 0).number) e) in
    (site_passed n m part groups c).3 (split_check desk_count paths) s

eighth_grouped : (n m : ℕ) (part groups : List ℕ) → Eighth (first_reply_grouped_call n m part groups) (eight_replies_grouped_call n m part groups)
eighth_grouped n m part groups before after path few all ws e l =
    let reply = first_reply_grouped_call n m part groups in
    let fs : List (List ℕ) = before ++ path ∷ after in
    let long = length-append before (path ∷ after) in
    let found : fs ≡ split desk_count (flatten fs) = (split_one desk_count (flatten fs) fs (paths_split fs all few)).0 in
    let own : get_or (map reply fs) (length before) (accepted []) ≡ accepted ws =
    rw (map_append reply before (path ∷ after)) (get_or_at (map reply before) (reply path) (map reply after) (accepted []) (length before) (length-map before reply) ∙ e) in
    (eight_grouped n m part groups (flatten fs)).short (whole_by n m part groups path (flatten fs) ws e (paths_bundle fs all few (omega (arith, long)))) (length before)
    (rw (← found) (omega (arith, long, length-map fs reply))) ws (rw (← found) own) l

pub request_11 : Request11
request_11 = record {
  seventeen = split_iff desk_count;
  one_way = λ s fs r. (split_one desk_count s fs r).0;
  eight = eight;
  eight_grouped = eight_grouped;
  eighth = λ n m part before after path few all ws e l. rw (← eight_ours n m part (flatten (before ++ path ∷ after)))
      (eighth_grouped n m part (bytes_of our_groups) before after path few all ws (first_ours n m part path ∙ e) l);
  eighth_grouped = eighth_grouped;
}
