-- The first reply as a call: its checks, the reply that is written, and the number 15. Assumes nothing.
use mathlib.Core.Path.{◌≡◌, refl, sym, ◌∙◌, ap}
use mathlib.Core.List.{List}
use Prim.Native.Nat.{ℕ, ◌+◌, ◌*◌, ◌^◌, ◌%◌, ◌≤◌, ◌<◌}
use native.Mathlib.Omega.{arith}
use lib.ListN.{length, get_or, drop}
use Rattle.sets.specs.Sets.{Mem}
use Rattle.files.specs.Word.{words, bytes_of}
use Rattle.files.specs.Field.{site_of, labels_of, file}
use Rattle.files.specs.Refuse.{◌then◌, room_check, size_check}
use Rattle.files.specs.Outcome.{outcome, Left, leaves}
use Rattle.files.specs.Part.{part_check}
use Rattle.files.specs.Path.{path_check}
use Rattle.files.specs.Groups.{groups_check, loaded, our_groups}
use Rattle.files.proofs.Checks.{then_zero, room_checked}
use Rattle.files.proofs.Words.{words_bytes, size_checked}
use Rattle.files.proofs.Parts.{part_some}
use Rattle.files.specs.Limits.{reply_words, work_bytes, part_words, path_words}
use Rattle.expressions.specs.Labels.{expr_of}
use Rattle.paths.specs.Automaton.{Automates}
use Rattle.paths.specs.declared.automaton.Automaton.{Automaton}
use Rattle.expressions.proofs.Paths.{path_count, path_some}
use Rattle.expressions.proofs.Loading.{ours_same}
use Rattle.output.specs.Writer.{Counts, Writes, Extends}
use Rattle.output.specs.Frame.{closed_at}
use Rattle.output.proofs.Extending.{extended}
use Rattle.first_replies.specs.FirstReply.{first_reply}
use Rattle.first_replies.proofs.Alike.{first_same}
use Rattle.reporting.proofs.Wording.{words_all}
use Rattle.reporting.specs.Reporting.{words_below}
use Rattle.site_first.specs.First.{first_reply_call, first_reply_grouped_call}

-- ---- the reply

reply_is : (part path : List ℕ) → part_check part ≡ 0
    → first_reply part path ≡ file 7 (site_of (get_or part 0 0)) (labels_of (get_or path 0 0)) (words_below part (labels_of (get_or path 0 0)) (length part) (expr_of (drop 1 path)))
unfolding first_reply
reply_is part path c = ap (file 7 (site_of (get_or part 0 0)) (labels_of (get_or path 0 0))) (sym (words_all part (expr_of (drop 1 path)) (labels_of (get_or path 0 0)) c))

-- it is behind the words that stood in o₁, where o₂ has the doors, and o₃ the header; v is the part's header
pub reply_extends : (part path : List ℕ) (a : Automaton) {at s n v end : ℕ} {o₁ o₂ o₃ : List ℕ} → part_check part ≡ 0 → path_check path ≡ 0
    → Automates a (expr_of (drop 1 path)) → at ≤ reply_words → 4 * reply_words ≤ length o₁
    → Writes reply_words (length o₁) o₁ (at + 1) o₂ end (words_below part a.letters.n (length part) (expr_of (drop 1 path)))
    → Counts reply_words (at + 1) (length (words_below part a.letters.n (length part) (expr_of (drop 1 path)))) end
    → o₃ ≡ closed_at 7 s n reply_words at end o₂ → s ≡ site_of v → v ≡ get_or part 0 0 → n ≡ a.letters.n % 16
    → Extends reply_words (length o₁) o₁ at (first_reply part path) o₃ end
reply_extends part path a {at} {n = n} c read auto h room g k z e i q =
    let l : a.letters.n ≡ labels_of (get_or path 0 0) = auto.labels ∙ path_count path read in
    let j : n ≡ a.letters.n = omega (arith, q, l) in
    rw (reply_is part path c, ← l, ← i, ← e)
    (extended 7 _ a.letters.n reply_words at (words_below part a.letters.n (length part) (expr_of (drop 1 path))) h (omega arith) room g k (rw j at z))

-- ---- the call

-- written as bytes, an accepted part and path are accepted by the call, with accepted groups
pub grouped_outcome : (out work : ℕ) (part groups path : List ℕ) → 4 * reply_words ≤ out → work_bytes ≤ work
    → ((w : ℕ) → Mem w part → w < 2 ^ 32) → length part ≤ part_words → part_check part ≡ 0 → groups_check groups ≡ 0
    → ((w : ℕ) → Mem w path → w < 2 ^ 32) → length path ≤ path_words → path_check path ≡ 0
    → first_reply_grouped_call out work (bytes_of part) groups (bytes_of path) ≡ outcome 0 reply_words (first_reply part (loaded (words groups) path))
unfolding first_reply_grouped_call
grouped_outcome out work part groups path h k v l p g w m a =
    rw (words_bytes part v, words_bytes path w) (ap (λ c. outcome c reply_words (first_reply part (loaded (words groups) path)))
    (then_zero (room_checked reply_words out work h k) (then_zero (size_checked part_words part (part_some part p) l)
    (then_zero p (then_zero g (then_zero (size_checked path_words path (path_some path a) m) a))))))

-- Document 02: "With our eight words loaded every result is today's." For all bytes and all buffer lengths.
pub first_ours : (out work : ℕ) (part path : List ℕ) → first_reply_grouped_call out work part (bytes_of our_groups) path ≡ first_reply_call out work part path
unfolding first_reply_grouped_call first_reply_call
first_ours out work part path =
    ap (outcome (room_check reply_words out work then size_check part_words part then part_check (words part) then size_check path_words path then path_check (words path)) reply_words)
    (first_same (words part) (ours_same (words path)))

-- for the call without groups: g is the value that it hands in
pub first_plain : (n m : ℕ) (part path : List ℕ) {g : List ℕ} {l : Left} → g ≡ bytes_of our_groups → l ≡ leaves (first_reply_grouped_call n m part g path) n m
    → l ≡ leaves (first_reply_call n m part path) n m
first_plain n m part path e h = h ∙ ap (λ g. leaves (first_reply_grouped_call n m part g path) n m) e ∙ ap (λ o. leaves o n m) (first_ours n m part path)

pub first_outcome_lem : (out work : ℕ) (part path : List ℕ) → 4 * reply_words ≤ out → work_bytes ≤ work
    → ((w : ℕ) → Mem w part → w < 2 ^ 32) → length part ≤ part_words → part_check part ≡ 0
    → ((w : ℕ) → Mem w path → w < 2 ^ 32) → length path ≤ path_words → path_check path ≡ 0
    → first_reply_call out work (bytes_of part) (bytes_of path) ≡ outcome 0 reply_words (first_reply part path)
first_outcome_lem out work part path h k v l p w m a =
    sym (first_ours out work (bytes_of part) (bytes_of path)) ∙ grouped_outcome out work part (bytes_of our_groups) path h k v l p refl w m a
    ∙ ap (outcome 0 reply_words) (first_same part (ours_same path))
