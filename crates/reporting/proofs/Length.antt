-- The running length of a first reply: it is the count of document 01's words, before each door and at the end. Assumes nothing.
use mathlib.Core.Path.{◌≡◌, refl, sym, ◌∙◌, ap}
use mathlib.Core.Logic.{inl, inr}
use mathlib.Core.Bool.{true, false}
use mathlib.Core.List.{List, [], ◌∷◌, ◌++◌, map, flatten, append-nil}
use Prim.Native.Nat.{ℕ, zero, suc, ◌+◌, ◌≤◌, ◌<◌, min}
use native.Mathlib.Omega.{arith}
use native.Mathlib.Numerals.{add-one}
use lib.ListN.{length, get_or, take, drop, length-append}
use lib.Seq.{take_all, take-length, take-suc, split_at, take_at, drop_at, get_or-append_seam}
use Rattle.sets.specs.Sets.{filter}
use Rattle.sets.proofs.Filter.{filter_append}
use Rattle.sets.proofs.Tests.{either}
use Rattle.sets.proofs.Cases.{lt_or_le}
use Rattle.files.specs.Field.{labels_of}
use Rattle.files.specs.Part.{is_door, part_check}
use Rattle.files.specs.Path.{path_check}
use Rattle.files.specs.Limits.{reply_words}
use Rattle.expressions.specs.Labels.{expr_of}
use Rattle.slots.specs.Slots.{Kept}
use Rattle.slots.proofs.Places.{header_node, node_below}
use Rattle.part_search.proofs.Stepping.{tables_kept}
use Rattle.first_replies.specs.FirstReply.{IsFirstReply, door_words, first_reply}
use Rattle.first_replies.proofs.FirstReplies.{first_reply_lem, first_unique}
use Rattle.reporting.specs.Length.{door_count, words_up_to, Running, Adds}
use Rattle.reporting.specs.Reporting.{Reports, door_at, words_below, Asks, doors_before, DoorAdds, RunsAt, RunsPast}
use Rattle.reporting.proofs.Wording.{flat_append, header_no_door, words_all}
use Rattle.reporting.proofs.Reports.{door_node}

-- ---- the count in the reply

module _ (part path : List ℕ) where
  abbrev doors : List ℕ
  doors = filter is_door (drop 1 part)

  abbrev own : ℕ → List ℕ
  own = door_words (drop 1 part) (expr_of (drop 1 path)) (labels_of (get_or path 0 0))

  -- the words up to door i are the header and those of the doors before it
  up_to_words : (i : ℕ) → i ≤ length doors → words_up_to part path i ≡ suc (length (flatten (map own (take i doors))))
  unfolding words_up_to door_count flatten
  up_to_words zero h = refl
  up_to_words (suc i) h = rw (take-suc doors i 0 (omega arith), flat_append own (take i doors) (get_or doors i 0 ∷ []), length-append, append-nil)
      (omega (arith, up_to_words i (omega arith)))

  reply_length : words_up_to part path (length doors) ≡ length (first_reply part path)
  unfolding first_reply
  reply_length = up_to_words (length doors) (omega arith) ∙ ap (λ ds. suc (length (flatten (map own ds)))) (take-length doors)

  module _ (i : ℕ) (h : i < length doors) where
    abbrev behind : List ℕ
    behind = own (get_or doors i 0) ++ flatten (map own (drop (suc i) doors))

    from_door : drop (words_up_to part path i) (first_reply part path) ≡ behind
    unfolding first_reply flatten
    from_door =
        ap (λ ws. drop (words_up_to part path i) (get_or (first_reply part path) 0 0 ∷ ws))
        (ap (λ ds. flatten (map own ds)) (split_at doors i 0 h) ∙ flat_append own (take i doors) (get_or doors i 0 ∷ drop (suc i) doors))
        ∙ drop_at (get_or (first_reply part path) 0 0 ∷ flatten (map own (take i doors))) behind (words_up_to part path i) (sym (up_to_words i (omega arith)))

    door_stands : take (door_count part path i) (drop (words_up_to part path i) (first_reply part path)) ≡ own (get_or doors i 0)
    unfolding door_count
    door_stands = ap (take (door_count part path i)) from_door ∙ take_at (own (get_or doors i 0)) (flatten (map own (drop (suc i) doors))) (door_count part path i) refl

  -- Of whatever file is document 01's first reply: all words are counted at the end, and those of door i begin at the word whose position is the
  -- count up to there.
  module _ (p : part_check part ≡ 0) (a : path_check path ≡ 0) {f : List ℕ} (is : IsFirstReply part path f) where
    same : first_reply part path ≡ f
    same = first_unique part path (first_reply part path) f (first_reply_lem part path p a) is

    pub document_length : words_up_to part path (length doors) ≡ length f
    document_length = reply_length ∙ ap length same

    pub document_door : (i : ℕ) → i < length doors → take (door_count part path i) (drop (words_up_to part path i) f) ≡ own (get_or doors i 0)
    document_door i h = ap (λ g. take (door_count part path i) (drop (words_up_to part path i) g)) (sym same) ∙ door_stands i h

-- ---- the value

module _ (part path : List ℕ) (i value : ℕ) (h : Running part path i value) where
  -- up to the limit, and one past it, it is the count
  pub running_exact : words_up_to part path i ≤ suc reply_words → value ≡ words_up_to part path i
  running_exact l = omega (arith, h)

  -- further it does not go
  pub running_over : reply_words < words_up_to part path i → value ≡ suc reply_words
  running_over l = omega (arith, h)

  -- a door's own words more, and it is the count up to the next
  running_next : {r : ℕ} → Adds part path i value r → Running part path (suc i) r
  unfolding words_up_to
  running_next f = omega (arith, h, f (omega (arith, h)))

  -- one past the limit it is right before every later door
  running_stays : reply_words < value → Running part path (suc i) value
  unfolding words_up_to
  running_stays l = omega (arith, h)

-- a reply begins with its header
pub running_start : (part path : List ℕ) → Running part path 0 1
unfolding words_up_to
running_start part path = refl

-- ---- doors by position

module _ (ws : List ℕ) (i : ℕ) where
  below : is_door (get_or ws i 0) ≡ true → i < length ws
  below d = node_below ws i (door_node ws i d)

  taken : i < length ws → filter is_door (take (i + 1) ws) ≡ filter is_door (take i ws) ++ filter is_door (get_or ws i 0 ∷ [])
  taken l = rw (add-one, take-suc ws i 0 l) (filter_append is_door (take i ws) (get_or ws i 0 ∷ []))

  before_door : is_door (get_or ws i 0) ≡ true → doors_before ws (i + 1) ≡ suc (doors_before ws i)
  before_door d = rw (taken (below d), d, length-append) (omega arith)

  before_other : is_door (get_or ws i 0) ≡ false → doors_before ws (i + 1) ≡ doors_before ws i
  before_other d = elim (lt_or_le i (length ws)) [
    | inl l ↦ rw (taken l, d, append-nil)
    | inr l ↦ rw (take_all (i + 1) ws (omega arith), take_all i ws l)
  ]

  around : is_door (get_or ws i 0) ≡ true → filter is_door ws ≡ filter is_door (take i ws) ++ get_or ws i 0 ∷ filter is_door (drop (suc i) ws)
  around d =
      let behind : filter is_door (get_or ws i 0 ∷ drop (suc i) ws) ≡ get_or ws i 0 ∷ filter is_door (drop (suc i) ws) = rw d in
      ap (filter is_door) (split_at ws i 0 (below d)) ∙ filter_append is_door (take i ws) (get_or ws i 0 ∷ drop (suc i) ws)
      ∙ ap (filter is_door (take i ws) ++◌) behind

  -- a door that stands at position i has the number of doors before it
  door_here : part_check ws ≡ 0 → is_door (get_or ws i 0) ≡ true → get_or (filter is_door (drop 1 ws)) (doors_before ws i) 0 ≡ get_or ws i 0
  door_here c d =
      rw (← header_no_door ws (header_node ws c)) (ap (λ ds. get_or ds (doors_before ws i) 0) (around d)
      ∙ get_or-append_seam (filter is_door (take i ws)) (get_or ws i 0) (filter is_door (drop (suc i) ws)) 0)

-- ---- what the functions promise

asks_kept : {ws : List ℕ} {t n : ℕ} {follow w w' path : List ℕ} → Kept ws t w w' → Asks ws t follow w n path → Asks ws t follow w' n path
asks_kept k a = record { labels = a.labels; follows = a.follows; tables = tables_kept k a.tables }

module _ {ws : List ℕ} {t : ℕ} {follow : List ℕ} where
  -- the words that a door's report adds are the door's own
  pub door_adds : {w w' out out' : List ℕ} {c r : ℕ} (n i : ℕ) → is_door (get_or ws i 0) ≡ true → Reports ws t follow w out c w' out' r (door_at ws n i)
      → DoorAdds ws t follow w n i c r
  unfolding door_count
  door_adds {c = c} n i d h path a l =
      rw (door_here ws i a.tables.laid.accepted d, a.labels) (h.counts (expr_of (drop 1 path)) a.follows a.tables c (omega (arith, l)))

  -- it begins with the header's word, and goes on from position to position
  pub runs_first : (w : List ℕ) (n : ℕ) {c : ℕ} → c ≡ 1 → RunsAt ws t follow w n 0 c
  runs_first w n h path a = h ∙ running_start ws path

  pub runs_next : {w w' : List ℕ} {c r : ℕ} (n i : ℕ) → Kept ws t w w' → RunsAt ws t follow w n i c → RunsPast ws t follow w' n i c r
      → RunsAt ws t follow w n (i + 1) r
  runs_next n i k f g path a = g path (asks_kept k a) (f path a)

  -- a position with a door, one without, and any once the count stands one past the limit
  pub runs_door : {w : List ℕ} {c r : ℕ} (n i : ℕ) → is_door (get_or ws i 0) ≡ true → DoorAdds ws t follow w n i c r → RunsPast ws t follow w n i c r
  runs_door {c = c} n i d f path a h = rw (before_door ws i d) (running_next ws path (doors_before ws i) c h (f path a))

  pub runs_other : (w : List ℕ) (n i c : ℕ) → is_door (get_or ws i 0) ≡ false → RunsPast ws t follow w n i c c
  runs_other w n i c d path a h = rw (before_other ws i d) h

  pub runs_over : (w : List ℕ) (n i c : ℕ) → reply_words < c → RunsPast ws t follow w n i c c
  runs_over w n i c l path a h = elim (either (is_door (get_or ws i 0))) [
    | inl d ↦ rw (before_door ws i d) (running_stays ws path (doors_before ws i) c h l)
    | inr d ↦ runs_other w n i c d path a h
  ]

  -- after the last door, from 1, it is the count of the whole reply
  pub doors_length : {w w' out out' : List ℕ} {n r : ℕ} (path : List ℕ) → Asks ws t follow w n path
      → Reports ws t follow w out 1 w' out' r (words_below ws n (length ws)) → r ≡ min (length (first_reply ws path)) (suc reply_words)
  unfolding first_reply
  doors_length {n = n} path a h =
      let e = expr_of (drop 1 path) in
      let all : words_below ws n (length ws) e ≡ flatten (map (own ws path) (doors ws path)) = rw a.labels (words_all ws e n a.tables.laid.accepted) in
      omega (arith, h.counts e a.follows a.tables 1 refl, ap length all)
