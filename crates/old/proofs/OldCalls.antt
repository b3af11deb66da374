-- The old search as a call: what an accepted question gives, with groups and without; and with our eight words loaded every outcome is that of the
-- call without groups. Assumes nothing.
use mathlib.Core.Path.{◌≡◌, refl, sym, ap, ◌∙◌}
use mathlib.Core.List.{List, map}
use Prim.Native.Nat.{ℕ, ◌*◌, ◌^◌, ◌≤◌, ◌<◌}
use native.Mathlib.Omega.{arith}
use lib.ListN.{length, drop}
use Rattle.sets.specs.Sets.{Mem}
use Rattle.files.specs.Word.{words, bytes_of}
use Rattle.files.specs.Field.{file, answer_word}
use Rattle.files.specs.Refuse.{◌then◌, room_check, size_check}
use Rattle.files.specs.Outcome.{Left, accepted, outcome, leaves}
use Rattle.files.specs.Part.{whole_check}
use Rattle.files.specs.Path.{path_check}
use Rattle.files.specs.Groups.{groups_check, loaded, our_groups}
use Rattle.files.specs.Limits.{part_words, path_words, final_words, work_bytes}
use Rattle.files.proofs.Checks.{then_zero, room_checked, outcome_gives, number_fits}
use Rattle.files.proofs.Words.{words_bytes, size_checked}
use Rattle.files.proofs.Parts.{whole_part, part_some}
use Rattle.expressions.proofs.Paths.{path_some}
use Rattle.expressions.proofs.Loading.{SamePath, ours_same}
use Rattle.walks.proofs.Alike.{answers_same}
use Rattle.old.specs.Old.{listed, old_search_call, old_search_grouped_call}
use Rattle.old.proofs.OldSearch.{root_pairs, listed_is, listed_length}

-- written as bytes, an accepted file and path are accepted by the call, with accepted groups
pub grouped_call : (out work : ℕ) (f groups path : List ℕ) → 4 * final_words ≤ out → work_bytes ≤ work
    → ((w : ℕ) → Mem w f → w < 2 ^ 32) → length f ≤ part_words → whole_check f ≡ 0 → groups_check groups ≡ 0
    → ((w : ℕ) → Mem w path → w < 2 ^ 32) → length path ≤ path_words → path_check path ≡ 0
    → old_search_grouped_call out work (bytes_of f) groups (bytes_of path) ≡ accepted (listed f (loaded (words groups) path))
unfolding old_search_grouped_call
grouped_call out work f groups path h k v l c g w m a =
    let some = part_some f (whole_part f c) in
    let list = listed f (loaded (words groups) path) in
    rw (words_bytes f v, words_bytes path w) (ap (λ c. outcome c final_words list)
    (then_zero (room_checked final_words out work h k) (then_zero (size_checked part_words f some l)
    (then_zero c (then_zero g (then_zero (size_checked path_words path (path_some path a) m) a)))))
    ∙ outcome_gives final_words list (omega (arith, listed_length f (loaded (words groups) path) some)))

-- two paths that are read alike have the same lists
listed_same : (f : List ℕ) {path path' : List ℕ} → SamePath path path' → listed f path ≡ listed f path'
listed_same f {path} {path'} s =
    listed_is f path ∙ ap (λ xs. file 15 0 0 (map answer_word xs)) (answers_same (drop 1 f) s.alike (root_pairs f)) ∙ sym (listed_is f path')

-- Document 02: "With our eight words loaded every result is today's." For all bytes and all buffer lengths.
pub old_ours : (out work : ℕ) (whole path : List ℕ) → old_search_grouped_call out work whole (bytes_of our_groups) path ≡ old_search_call out work whole path
unfolding old_search_grouped_call old_search_call
old_ours out work whole path =
    ap (outcome (room_check final_words out work then size_check part_words whole then whole_check (words whole) then size_check path_words path then path_check (words path)) final_words)
    (listed_same (words whole) (ours_same (words path)))

-- for the call without groups: g is the value that it hands in
pub old_plain : (n m : ℕ) (whole path : List ℕ) {g : List ℕ} {l : Left} → g ≡ bytes_of our_groups → l ≡ leaves (old_search_grouped_call n m whole g path) n m
    → l ≡ leaves (old_search_call n m whole path) n m
old_plain n m whole path e h = h ∙ ap (λ g. leaves (old_search_grouped_call n m whole g path) n m) e ∙ ap (λ o. leaves o n m) (old_ours n m whole path)

pub old_call_lem : (out work : ℕ) (f path : List ℕ) → 4 * final_words ≤ out → work_bytes ≤ work
    → ((w : ℕ) → Mem w f → w < 2 ^ 32) → length f ≤ part_words → whole_check f ≡ 0
    → ((w : ℕ) → Mem w path → w < 2 ^ 32) → length path ≤ path_words → path_check path ≡ 0
    → old_search_call out work (bytes_of f) (bytes_of path) ≡ accepted (listed f path)
old_call_lem out work f path h k v l c w m a =
    sym (old_ours out work (bytes_of f) (bytes_of path)) ∙ grouped_call out work f (bytes_of our_groups) path h k v l c refl w m a
    ∙ ap accepted (listed_same f (ours_same path))

-- checks that pass do not count
passes_over : (a b c x : ℕ) → b ≡ 0 → c ≡ 0 → (a then b then c then x) ≡ (a then x)
passes_over a b c x e f = rw (e, f)

-- an accepted whole is refused with no path and no groups: x is the number of the checks behind the whole's
pub old_number : (f : List ℕ) → whole_check f ≡ 0 → ((w : ℕ) → Mem w f → w < 2 ^ 32) → length f ≤ part_words → (path : List ℕ) (x n m : ℕ)
    → (leaves (outcome (room_check final_words n m then size_check part_words (bytes_of f) then whole_check (words (bytes_of f)) then x)
    final_words (listed (words (bytes_of f)) path)) n m).number ≡ (room_check final_words n m then x)
old_number f c word l path x n m =
    let some = part_some f (whole_part f c) in
    rw (words_bytes f word) (number_fits _ final_words (listed f path) n m (λ e. omega (arith, listed_length f path some))
    ∙ passes_over (room_check final_words n m) (size_check part_words (bytes_of f)) (whole_check f) x (size_checked part_words f some l) c)
