-- The second reply as a call: what an accepted question owes, with groups and without; and with our eight words loaded every outcome is that of the
-- call without groups. Assumes nothing.
use mathlib.Core.Path.{◌≡◌, refl, sym, ap, ap₂, ◌∙◌}
use mathlib.Core.List.{List, [], ◌∷◌, map}
use Prim.Native.Nat.{ℕ, ◌*◌, ◌^◌, ◌≤◌, ◌<◌}
use native.Mathlib.Omega.{arith}
use lib.ListN.{length, get_or, drop}
use Rattle.sets.specs.Sets.{Mem, member}
use Rattle.sets.proofs.Sets.{member_iff}
use Rattle.sets.proofs.Filter.{all_iff}
use Rattle.files.specs.Word.{words, bytes_of}
use Rattle.files.specs.Field.{site_of, labels_of, pair_of, pair_node, file, answer_word}
use Rattle.files.specs.Refuse.{◌then◌, room_check, size_check}
use Rattle.files.specs.Outcome.{Left, outcome, leaves}
use Rattle.files.specs.Part.{nodes, doors, part_check}
use Rattle.files.specs.Path.{path_check}
use Rattle.files.specs.Groups.{groups_check, loaded, our_groups}
use Rattle.files.specs.Calls.{calls_check}
use Rattle.files.specs.Limits.{part_words, path_words, reply_words, work_bytes}
use Rattle.files.proofs.Checks.{checks, then_zero, room_checked}
use Rattle.files.proofs.Words.{words_bytes, size_checked}
use Rattle.files.proofs.Parts.{part_some}
use Rattle.expressions.proofs.Paths.{path_some}
use Rattle.expressions.proofs.Loading.{SamePath, ours_same}
use Rattle.walks.proofs.Alike.{answers_same}
use Rattle.site_second.specs.Second.{called_in, second_reply, against_check, second_reply_call, second_reply_grouped_call}
use Rattle.site_second.proofs.SecondReplies.{called_iff, second_is}

-- a call list with the path's n, in which only doors of the part are called among its nodes
pub against_checked : (part path calls : List ℕ) → labels_of (get_or calls 0 0) ≡ labels_of (get_or path 0 0)
    → ((c : ℕ) → Mem c (map pair_of (drop 1 calls)) → Mem (pair_node c) (nodes (drop 1 part)) → Mem (pair_node c) (doors (drop 1 part)))
    → against_check part path calls ≡ 0
against_checked part path calls l d = simp checks (
  l,
  (all_iff (λ c. member (pair_node c) (doors (drop 1 part))) (called_in (drop 1 part) (drop 1 calls))).1 (λ c m.
      let i = (called_iff (drop 1 part) (drop 1 calls) c).0 m in
      (member_iff (pair_node c) (doors (drop 1 part))).1 (d c i.0 i.1)),
)

calls_some : (calls : List ℕ) → calls_check calls ≡ 0 → 0 < length calls
calls_some [] e = absurd (omega arith)
calls_some (h ∷ ws) e = omega arith

-- written as bytes, an accepted part, path and call list are accepted by the call, with accepted groups
pub grouped_outcome : (out work : ℕ) (part groups path calls : List ℕ) → 4 * reply_words ≤ out → work_bytes ≤ work
    → ((w : ℕ) → Mem w part → w < 2 ^ 32) → length part ≤ part_words → part_check part ≡ 0 → groups_check groups ≡ 0
    → ((w : ℕ) → Mem w path → w < 2 ^ 32) → length path ≤ path_words → path_check path ≡ 0
    → ((w : ℕ) → Mem w calls → w < 2 ^ 32) → length calls ≤ reply_words → calls_check calls ≡ 0 → against_check part path calls ≡ 0
    → second_reply_grouped_call out work (bytes_of part) groups (bytes_of path) (bytes_of calls) ≡ outcome 0 reply_words (second_reply part (loaded (words groups) path) calls)
unfolding second_reply_grouped_call
grouped_outcome out work part groups path calls h k v l p o w m a u s c g =
    rw (words_bytes part v, words_bytes path w, words_bytes calls u) (ap (λ c. outcome c reply_words (second_reply part (loaded (words groups) path) calls))
    (then_zero (room_checked reply_words out work h k) (then_zero (size_checked part_words part (part_some part p) l) (then_zero p (then_zero o
    (then_zero (size_checked path_words path (path_some path a) m) (then_zero a (then_zero (size_checked reply_words calls (calls_some calls c) s) (then_zero c g)))))))))

-- two paths that are read alike have the same second replies
second_same : (part calls : List ℕ) {path path' : List ℕ} → SamePath path path' → second_reply part path calls ≡ second_reply part path' calls
second_same part calls {path} {path'} s =
    let seeds = called_in (drop 1 part) (drop 1 calls) in
    let by : ℕ → List ℕ → List ℕ = λ n xs. file 13 (site_of (get_or part 0 0)) n (map answer_word xs) in
    second_is part path calls ∙ ap₂ by s.labels (answers_same (drop 1 part) s.alike seeds) ∙ sym (second_is part path' calls)

-- Document 02: "With our eight words loaded every result is today's." For all bytes and all buffer lengths.
pub second_ours : (out work : ℕ) (part path calls : List ℕ)
    → second_reply_grouped_call out work part (bytes_of our_groups) path calls ≡ second_reply_call out work part path calls
unfolding second_reply_grouped_call second_reply_call
second_ours out work part path calls =
    ap (outcome (room_check reply_words out work then size_check part_words part then part_check (words part) then size_check path_words path then path_check (words path)
    then size_check reply_words calls then calls_check (words calls) then against_check (words part) (words path) (words calls)) reply_words)
    (second_same (words part) (words calls) (ours_same (words path)))

-- for the call without groups: g is the value that it hands in
pub second_plain : (n m : ℕ) (part path calls : List ℕ) {g : List ℕ} {l : Left} → g ≡ bytes_of our_groups
    → l ≡ leaves (second_reply_grouped_call n m part g path calls) n m → l ≡ leaves (second_reply_call n m part path calls) n m
second_plain n m part path calls e h =
    h ∙ ap (λ g. leaves (second_reply_grouped_call n m part g path calls) n m) e ∙ ap (λ o. leaves o n m) (second_ours n m part path calls)

pub second_outcome_lem : (out work : ℕ) (part path calls : List ℕ) → 4 * reply_words ≤ out → work_bytes ≤ work
    → ((w : ℕ) → Mem w part → w < 2 ^ 32) → length part ≤ part_words → part_check part ≡ 0
    → ((w : ℕ) → Mem w path → w < 2 ^ 32) → length path ≤ path_words → path_check path ≡ 0
    → ((w : ℕ) → Mem w calls → w < 2 ^ 32) → length calls ≤ reply_words → calls_check calls ≡ 0 → against_check part path calls ≡ 0
    → second_reply_call out work (bytes_of part) (bytes_of path) (bytes_of calls) ≡ outcome 0 reply_words (second_reply part path calls)
second_outcome_lem out work part path calls h k v l p w m a u s c g =
    sym (second_ours out work (bytes_of part) (bytes_of path) (bytes_of calls))
    ∙ grouped_outcome out work part (bytes_of our_groups) path calls h k v l p refl w m a u s c g
    ∙ ap (outcome 0 reply_words) (second_same part calls (ours_same path))
