-- Request 6: what a visit leaves at each output, by the call for one path. Assumes nothing.
use mathlib.Core.Path.{◌≡◌, refl, sym, ◌∙◌, ap}
use mathlib.Core.List.{List, [], ◌∷◌, map}
use Prim.Native.Nat.{ℕ, zero, suc, ◌≤◌, ◌<◌}
use native.Mathlib.Nat.{sub-zero}
use native.Mathlib.Omega.{arith}
use lib.ListN.{length, get_or}
use Rattle.sets.specs.Sets.{Mem, here, there}
use Rattle.files.specs.Word.{words, bytes_of}
use Rattle.files.specs.Refuse.{◌then◌, room_check, size_check}
use Rattle.files.specs.Outcome.{Outcome, refused, accepted, zeros, leaves}
use Rattle.files.specs.Part.{part_check}
use Rattle.files.specs.Groups.{groups_check, our_groups}
use Rattle.files.specs.Limits.{part_words, reply_words}
use Rattle.files.proofs.Checks.{checks, then_iff}
use Rattle.path_bundles.specs.Split.{split, split_check}
use Rattle.path_bundles.specs.Packed.{byte_at, number_of, outputs_of, leaves_several}
use Rattle.path_bundles.proofs.Packing.{packed_byte}
use Rattle.path_bundles.proofs.Splitting.{split_is, split_one, split_iff}
use Rattle.site_first.specs.First.{first_reply_call, first_reply_grouped_call}
use Rattle.site_first.proofs.FirstCalls.{first_ours}
use Rattle.visits.specs.Whole.{shortest, whole_number, whole_grouped_number}
use Rattle.visits.specs.Visit.{answers, visit}
use Rattle.visits.proofs.Visiting.{call_small, whole_small}
use Rattle.four_replies.specs.Four.{visit_paths, four_replies, four_replies_grouped, four_replies_call, four_replies_grouped_call}
use Rattle.four_replies.specs.Visit.{At, IsVisit, Alone, Request6}
use Rattle.four_replies.proofs.Visits.{four_ours}

-- ---- at an output, by its outcome

same_left : (o : Outcome) (n m : ℕ) → (number_of o ≡ (leaves o n m).number) × ((leaves o n 0).output ≡ (leaves o n m).output)
same_left (refused k) n m = (refl, refl)
same_left (accepted ws) n m = (refl, refl)

number_at : (os : List Outcome) (i : ℕ) → i < length os → get_or (map number_of os) i 0 ≡ number_of (get_or os i (accepted []))
number_at [] i h = absurd (omega arith)
number_at (o ∷ os) zero h = refl
number_at (o ∷ os) (suc i) h = number_at os i (omega arith)

output_at : (os : List Outcome) (ns : List ℕ) (i : ℕ) → length os ≡ length ns → i < length ns
    → get_or (outputs_of os ns) i [] ≡ (leaves (get_or os i (accepted [])) (get_or ns i 0) 0).output
output_at os [] i e h = absurd (omega arith)
output_at [] (n ∷ ns) i e h = absurd (omega arith)
output_at (o ∷ os) (n ∷ ns) zero e h = refl
output_at (o ∷ os) (n ∷ ns) (suc i) e h = output_at os ns i (omega arith) (omega arith)

outputs_length : (os : List Outcome) (ns : List ℕ) → length os ≡ length ns → length (outputs_of os ns) ≡ length ns
outputs_length [] [] e = refl
outputs_length [] (n ∷ ns) e = absurd (omega arith)
outputs_length (o ∷ os) [] e = absurd (omega arith)
outputs_length (o ∷ os) (n ∷ ns) e = ap suc (outputs_length os ns (omega arith))

all_small : (os : List Outcome) → ((o : Outcome) → Mem o os → number_of o < 256) → (n : ℕ) → Mem n (map number_of os) → n < 256
all_small [] h n m = elim m [ ]
all_small (o ∷ os) h n (here e) = rw e (h o (here refl))
all_small (o ∷ os) h n (there m) = all_small os (λ o i. h o (there i)) n m

-- numbers fit their bytes, and there is an outcome for each output
module _ (os : List Outcome) (ns : List ℕ) (m : ℕ) (small : (o : Outcome) → Mem o os → number_of o < 256) (e : length os ≡ length ns) where
  at : (o : Outcome) (i : ℕ) → i < length ns → get_or os i (accepted []) ≡ o
      → At (leaves_several os ns m) i (leaves o (get_or ns i 0) m).number (leaves o (get_or ns i 0) m).output
  at o i h q =
      let (a, b) = same_left o (get_or ns i 0) m in
      record {
        number_is = packed_byte i (map number_of os) (all_small os small) ∙ number_at os i (omega arith) ∙ ap number_of q ∙ a;
        output_is = output_at os ns i e h ∙ ap (λ o. (leaves o (get_or ns i 0) 0).output) q ∙ b;
      }

-- ---- the outcomes of a visit

module _ (reply : ℕ → List ℕ → Outcome) where
  answers_length : (ns : List ℕ) (fs : List (List ℕ)) → length (answers reply ns fs) ≡ length ns
  answers_length [] fs = refl
  answers_length (n ∷ ns) [] = ap suc (answers_length ns [])
  answers_length (n ∷ ns) (f ∷ fs) = ap suc (answers_length ns fs)

  answer_at : (ns : List ℕ) (fs : List (List ℕ)) (i : ℕ) → i < length ns → i < length fs → get_or (answers reply ns fs) i (accepted []) ≡ reply (get_or ns i 0) (get_or fs i [])
  answer_at [] fs i h l = absurd (omega arith)
  answer_at (n ∷ ns) [] i h l = absurd (omega arith)
  answer_at (n ∷ ns) (f ∷ fs) zero h l = refl
  answer_at (n ∷ ns) (f ∷ fs) (suc i) h l = answer_at ns fs i (omega arith) (omega arith)

  answer_past : (ns : List ℕ) (fs : List (List ℕ)) (i : ℕ) → length fs ≤ i → get_or (answers reply ns fs) i (accepted []) ≡ accepted []
  answer_past [] fs i l = refl
  answer_past (n ∷ ns) [] zero l = refl
  answer_past (n ∷ ns) [] (suc i) l = answer_past ns [] i (omega arith)
  answer_past (n ∷ ns) (f ∷ fs) zero l = absurd (omega arith)
  answer_past (n ∷ ns) (f ∷ fs) (suc i) l = answer_past ns fs i (omega arith)

  answers_small : ((n : ℕ) (f : List ℕ) → number_of (reply n f) < 256) → (ns : List ℕ) (fs : List (List ℕ)) (o : Outcome) → Mem o (answers reply ns fs) → number_of o < 256
  answers_small s [] fs o m = elim m [ ]
  answers_small s (n ∷ ns) [] o (here e) = rw e (omega arith)
  answers_small s (n ∷ ns) [] o (there m) = answers_small s ns [] o m
  answers_small s (n ∷ ns) (f ∷ fs) o (here e) = rw e (s n f)
  answers_small s (n ∷ ns) (f ∷ fs) o (there m) = answers_small s ns fs o m

refused_length : (k : ℕ) (ns : List ℕ) → length (map {B = Outcome} (λ n. refused k) ns) ≡ length ns
refused_length k [] = refl
refused_length k (n ∷ ns) = ap suc (refused_length k ns)

refused_at : (k : ℕ) (ns : List ℕ) (i : ℕ) → i < length ns → get_or (map (λ n. refused k) ns) i (accepted []) ≡ refused k
refused_at k [] i h = absurd (omega arith)
refused_at k (n ∷ ns) zero h = refl
refused_at k (n ∷ ns) (suc i) h = refused_at k ns i (omega arith)

refused_small : (k : ℕ) → k < 256 → (ns : List ℕ) (o : Outcome) → Mem o (map (λ n. refused k) ns) → number_of o < 256
refused_small k s [] o m = elim m [ ]
refused_small k s (n ∷ ns) o (here e) = rw e s
refused_small k s (n ∷ ns) o (there m) = refused_small k s ns o m

-- a visit is what is promised, for any call for one path whose numbers fit a byte
is_visit : (number : ℕ) (reply : ℕ → List ℕ → Outcome) (ns : List ℕ) (m : ℕ) (fs : List (List ℕ)) → number < 256 → ((n : ℕ) (f : List ℕ) → number_of (reply n f) < 256)
    → IsVisit number reply ns m fs (leaves_several (visit number reply ns fs) ns m)
is_visit zero reply ns m fs k s =
    let e = answers_length reply ns fs in
    let a = at (answers reply ns fs) ns m (answers_small reply s ns fs) e in
    record {
      path = λ z i h l. a (reply (get_or ns i 0) (get_or fs i [])) i h (answer_at reply ns fs i h l);
      past = λ z i h l.
          let n : ℕ = get_or ns i 0 in
          let b = a (accepted []) i h (answer_past reply ns fs i l) in
          record { number_is = b.number_is; output_is = b.output_is ∙ ap zeros (sub-zero n) };
      whole = λ z. absurd (z refl);
      outputs = outputs_length (answers reply ns fs) ns e;
      work = refl;
    }
is_visit (suc k) reply ns m fs small s =
    let e = refused_length (suc k) ns in
    record {
      path = λ z. absurd (omega arith);
      past = λ z. absurd (omega arith);
      whole = λ z i h. at (map (λ n. refused (suc k)) ns) ns m (refused_small (suc k) small ns) e (refused (suc k)) i h (refused_at (suc k) ns i h);
      outputs = outputs_length (map (λ n. refused (suc k)) ns) ns e;
      work = refl;
    }

-- where no file is empty, what is answered at an output hangs on the file of its index alone
module _ (reply : ℕ → List ℕ → Outcome) where
  abbrev answered_at : ℕ → List ℕ → Outcome
  answered_at n [] = accepted []
  answered_at n (b ∷ f) = reply n (b ∷ f)

  answer_by : (ns : List ℕ) (fs : List (List ℕ)) (i : ℕ) → i < length ns → ((f : List ℕ) → Mem f fs → 0 < length f)
      → get_or (answers reply ns fs) i (accepted []) ≡ answered_at (get_or ns i 0) (get_or fs i [])
  answer_by [] fs i h p = absurd (omega arith)
  answer_by (n ∷ ns) [] zero h p = refl
  answer_by (n ∷ ns) [] (suc i) h p = answer_by ns [] i (omega arith) p
  answer_by (n ∷ ns) ([] ∷ fs) zero h p = absurd (omega (arith, p [] (here refl)))
  answer_by (n ∷ ns) ((b ∷ f) ∷ fs) zero h p = refl
  answer_by (n ∷ ns) (f ∷ fs) (suc i) h p = answer_by ns fs i (omega arith) (λ f m. p f (there m))

  same_result : (ns : List ℕ) (m : ℕ) (fs gs : List (List ℕ)) → ((n : ℕ) (f : List ℕ) → number_of (reply n f) < 256)
      → ((f : List ℕ) → Mem f fs → 0 < length f) → ((f : List ℕ) → Mem f gs → 0 < length f) → (i : ℕ) → i < length ns → get_or fs i [] ≡ get_or gs i []
      → At (leaves_several (answers reply ns fs) ns m) i (byte_at i (leaves_several (answers reply ns gs) ns m).numbers) (get_or (leaves_several (answers reply ns gs) ns m).outputs i [])
  same_result ns m fs gs s p q i h e =
      let o = answered_at (get_or ns i 0) (get_or fs i []) in
      let a = at (answers reply ns fs) ns m (answers_small reply s ns fs) (answers_length reply ns fs) o i h (answer_by ns fs i h p) in
      let b = at (answers reply ns gs) ns m (answers_small reply s ns gs) (answers_length reply ns gs) o i h (answer_by ns gs i h q ∙ ap (answered_at (get_or ns i 0)) (sym e)) in
      record { number_is = a.number_is ∙ sym b.number_is; output_is = a.output_is ∙ sym b.output_is }

-- ---- the calls

some_bytes : (s : List ℕ) → split_check visit_paths s ≡ 0 → (f : List ℕ) → Mem f (split visit_paths s) → 0 < length f
some_bytes s c = (split_is visit_paths s (simp checks at c).1).some

four_grouped : (ns : List ℕ) (m : ℕ) (part groups paths : List ℕ)
    → IsVisit (whole_grouped_number visit_paths (shortest ns) m part groups paths) (λ n path. first_reply_grouped_call n m part groups path) ns m (split visit_paths paths) (four_replies_grouped_call ns m part groups paths)
unfolding four_replies_grouped
four_grouped ns m part groups paths =
    is_visit (whole_grouped_number visit_paths (shortest ns) m part groups paths) (λ n path. first_reply_grouped_call n m part groups path) ns m (split visit_paths paths)
    (whole_small visit_paths (shortest ns) m part groups paths) (λ n path. call_small n m part groups path)

four : (ns : List ℕ) (m : ℕ) (part paths : List ℕ)
    → IsVisit (whole_number visit_paths (shortest ns) m part paths) (λ n path. first_reply_call n m part path) ns m (split visit_paths paths) (four_replies_call ns m part paths)
unfolding four_replies
four ns m part paths =
    is_visit (whole_number visit_paths (shortest ns) m part paths) (λ n path. first_reply_call n m part path) ns m (split visit_paths paths)
    (whole_small visit_paths (shortest ns) m part (bytes_of our_groups) paths) (λ n path. rw (← first_ours n m part path) (call_small n m part (bytes_of our_groups) path))

alone_grouped : (ns : List ℕ) (m : ℕ) (part groups : List ℕ) → Alone (whole_grouped_number visit_paths (shortest ns) m part groups) (four_replies_grouped_call ns m part groups) ns
unfolding four_replies_grouped
alone_grouped ns m part groups s t z z' =
    rw (z, z') (same_result (λ n path. first_reply_grouped_call n m part groups path) ns m (split visit_paths s) (split visit_paths t) (λ n path. call_small n m part groups path)
    (some_bytes s (last_passed z)) (some_bytes t (last_passed z')))
  where
    last_passed : {x : ℕ} → (room_check reply_words (shortest ns) m then size_check part_words part then part_check (words part) then groups_check groups then x) ≡ 0 → x ≡ 0
    last_passed c = ((then_iff (groups_check groups) _).0 ((then_iff (part_check (words part)) _).0 ((then_iff (size_check part_words part) _).0 ((then_iff (room_check reply_words (shortest ns) m) _).0 c).1).1).1).1

pub request_6 : Request6
request_6 = record {
  seventeen = split_iff visit_paths;
  one_way = λ s fs r. (split_one visit_paths s fs r).0;
  four = four;
  four_grouped = four_grouped;
  alone = λ ns m part s t z z' i h e. rw (← four_ours ns m part s, ← four_ours ns m part t) (alone_grouped ns m part (bytes_of our_groups) s t z z' i h e);
  alone_grouped = alone_grouped;
}
