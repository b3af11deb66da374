-- The hub's joining, of an accepted bundle of second replies: the joined list holds the bundle's answers, each once, ascending, and is
-- no longer than the bundle. Assumes nothing.
use mathlib.Core.Path.{◌≡◌, refl, ap}
use mathlib.Core.Bool.{true}
use mathlib.Core.List.Memᴰ
use mathlib.Core.List.{List, [], ◌∷◌, ◌++◌, map, flatten}
use Prim.Native.Nat.{ℕ, suc, ◌*◌, ◌^◌, ◌≤◌, ◌<◌}
use native.Mathlib.Omega.{arith}
use lib.ListN.{length, length-map}
use Rattle.sets.specs.Sets.{Mem, here, Perm, filter, set_of}
use Rattle.sets.proofs.Sets.{set_of_lists, made_unique}
use Rattle.sets.proofs.Filter.{filter_length}
use Rattle.sets.proofs.Lengths.{set_of_length}
use Rattle.sets.proofs.Distinct.{set_of_perm}
use Rattle.files.specs.Field.{kind_of, size_of, node_of, file, answer_word}
use Rattle.files.specs.Refuse.{header_check}
use Rattle.files.specs.Word.{bytes_of}
use Rattle.files.specs.Outcome.{outcome}
use Rattle.files.specs.Bundle.{files_check, second_bundle_check}
use Rattle.files.specs.Answers.{is_answer, answers_of, answers_check}
use Rattle.files.proofs.Checks.{checks, then_iff, then_zero, room_checked}
use Rattle.files.proofs.Words.{words_bytes, size_checked}
use Rattle.files.proofs.Fields.{header, answer, node_below}
use Rattle.files.proofs.Ordered.{answers_read}
use Rattle.files.proofs.Files.{File, header_kind, file_words}
use Rattle.files.proofs.Bundles.{Seconds}
use Rattle.files.specs.Limits.{bundle_words, final_words, work_bytes}
use Rattle.hub_join.specs.Join.{IsJoined, joined, join_call}

-- Of any bundle

module _ (bundle : List ℕ) where
  -- what is listed
  abbrev pub listed : List ℕ
  listed = set_of (answers_of bundle)

  listed_below : (x : ℕ) → Mem x listed → x < 2 ^ 16
  listed_below x m = let r = Memᴰ.of_map node_of (filter is_answer bundle) ((set_of_lists (answers_of bundle)).sound x m) in rw (← r.2) (node_below r.0)

  pub joined_is : joined bundle ≡ file 15 0 0 (map answer_word listed)
  unfolding joined
  joined_is = refl

  -- what is computed is a joined list
  pub joined_list_lem : IsJoined bundle (joined bundle)
  joined_list_lem = (listed, set_of_lists (answers_of bundle), joined_is)

  -- there is one joined list of a bundle
  pub joined_unique : {f g : List ℕ} → IsJoined bundle f → IsJoined bundle g → f ≡ g
  joined_unique = made_unique (λ xs. file 15 0 0 (map answer_word xs))

  -- the words that are no answers leave room for the header
  pub joined_short : length (filter is_answer bundle) < length bundle → length (joined bundle) ≤ length bundle
  joined_short h = rw joined_is (omega (arith, length-map listed answer_word, set_of_length (answers_of bundle), length-map (filter is_answer bundle) node_of))

  module _ (short : length (joined bundle) ≤ final_words) where
    fits : length (map answer_word listed) < final_words
    fits = rw joined_is at short

    -- what holds of a file that is made holds of it, and it is of 32-bit words
    pub joined_file : (P : List ℕ → Type 0) → ((ws : List ℕ) → 15 < 16 → 0 < 16 → 0 < 16 → length ws < final_words → P (file 15 0 0 ws)) → P (joined bundle)
    joined_file P f = rw joined_is (f (map answer_word listed) (omega arith) (omega arith) (omega arith) fits)

    pub joined_words : (w : ℕ) → Mem w (joined bundle) → w < 2 ^ 32
    joined_words = rw joined_is (file_words 15 0 0 (map answer_word listed) (omega arith) (omega arith) (omega arith) fits
        (λ w m. let r = Memᴰ.of_map answer_word listed m in rw (← r.2) (answer r.0 (listed_below r.0 r.1)).word))

    -- the joined list's answers
    joined_answers : answers_of (joined bundle) ≡ listed
    joined_answers = rw (joined_is, (header 15 0 0 (suc (length (map answer_word listed))) (omega arith) (omega arith) (omega arith) (omega (arith, fits))).kind_is)
        (answers_read listed listed_below)

-- Of an accepted bundle

-- the first header is no answer, so a joined list is no longer than its bundle
second_first : (h : ℕ) (ws : List ℕ) → second_bundle_check (h ∷ ws) ≡ 0 → length (filter is_answer (h ∷ ws)) < suc (length ws)
second_first h ws e =
    let a = ((then_iff (files_check 13 answers_check (length (h ∷ ws)) (h ∷ ws)) _).0 e).0 in
    let b = ((then_iff (header_check 13 true true (size_of h) h) _).0 a).0 in
    let k : kind_of h ≡ 13 = (simp checks at b).0.0.0.0 in
    rw k (omega (arith, filter_length is_answer ws))

pub joined_fits : (ws : List ℕ) → second_bundle_check ws ≡ 0 → 0 < length ws → length ws ≤ bundle_words → length (joined ws) ≤ final_words
joined_fits [] c m l = absurd (omega arith)
joined_fits (h ∷ ws) c m l = omega (arith, joined_short (h ∷ ws) (second_first h ws c))

module _ (n : ℕ) (fs : List (List ℕ)) (b : Seconds n fs) (some : 0 < length fs) where
  -- the first header is no answer
  pub seconds_short : length (joined (flatten fs)) ≤ length (flatten fs)
  unfolding flatten
  seconds_short = joined_short (flatten fs) (first fs b.replies.files some)
    where
      first : (fs : List (List ℕ)) → ((f : List ℕ) → Mem f fs → File 13 answers_check f) → 0 < length fs → length (filter is_answer (flatten fs)) < length (flatten fs)
      first [] c s = absurd (omega arith)
      first ([] ∷ fs) c s = absurd (omega (arith, (c [] (here refl)).some))
      first ((h ∷ ws) ∷ fs) c s = rw (header_kind 13 answers_check (h ∷ ws) (c (h ∷ ws) (here refl))) (omega (arith, filter_length is_answer (ws ++ flatten fs)))

  -- the bundle's answers, each once
  pub seconds_perm : length (flatten fs) ≤ bundle_words → Perm (answers_of (flatten fs)) (answers_of (joined (flatten fs)))
  seconds_perm h = rw (joined_answers (flatten fs) (omega (arith, seconds_short))) (set_of_perm (answers_of (flatten fs)) b.distinct)

-- The call

-- written as bytes, an accepted bundle is accepted by the call
pub join_outcome : (out work : ℕ) (bundle : List ℕ) → 4 * final_words ≤ out → work_bytes ≤ work → ((w : ℕ) → Mem w bundle → w < 2 ^ 32)
    → 0 < length bundle → length bundle ≤ bundle_words → second_bundle_check bundle ≡ 0
    → join_call out work (bytes_of bundle) ≡ outcome 0 final_words (joined bundle)
unfolding join_call
join_outcome out work bundle h k w s l c =
    rw (words_bytes bundle w) (ap (λ e. outcome e final_words (joined bundle)) (then_zero (room_checked final_words out work h k) (then_zero (size_checked bundle_words bundle s l) c)))
