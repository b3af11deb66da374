-- Believed. What is promised of one reply for eight askers. Document 02, request 11.
use Rattle.std.specs.Prelude.{ℕ, ◌+◌, ◌/◌, ◌≤◌, ◌<◌, ◌≡◌, ◌↔◌, ◌⊎◌, length, get_or, take}
use mathlib.Core.List.{List, [], ◌∷◌, ◌++◌, map, flatten}
use Rattle.sets.specs.Sets.{Mem}
use Rattle.files.specs.Word.{words}
use Rattle.files.specs.Refuse.{◌then◌, size_check}
use Rattle.files.specs.Limits.{path_words}
use Rattle.files.specs.Path.{path_check}
use Rattle.files.specs.Outcome.{Outcome, refused, accepted, zeros, padded, Left}
use Rattle.path_bundles.specs.Split.{IsSplit, split, split_check}
use Rattle.path_bundles.specs.Packed.{byte_at}
use Rattle.site_first.specs.First.{first_reply_call, first_reply_grouped_call}
use Rattle.visits.specs.Whole.{whole_number, whole_grouped_number}
use Rattle.choices.specs.Choice.{is_short, is_long, words_in, put_in}
use Rattle.choices.specs.Shared.{desk_of, numbers_of, Served}
use Rattle.eight_replies.specs.Eight.{desk_count, eight_replies_call, eight_replies_grouped_call}

-- the words beside which the reply of desk i must fit: all short ones, asked before or after it, and the long ones already in
abbrev pub beside : List Outcome → ℕ → ℕ
beside os i = words_in is_short (map desk_of os) + words_in is_long (put_in (numbers_of os) (take i (map desk_of os)))

-- "every desk gets 0 or its refusal": l is left by a call whose whole has this number, where by themselves the desks would be answered os
pub record IsShared (number : ℕ) (os : List Outcome) (n m : ℕ) (l : Left) : Type 0 where
  -- a refused path has its own number, and one whose reply is over 4,096 words by itself 15
  pub refusal : number ≡ 0 → (i : ℕ) → i < length os → (k : ℕ) → get_or os i (accepted []) ≡ refused k → byte_at i l.number ≡ k
  -- "A first reply of at most 512 words is always put in"
  pub short : number ≡ 0 → (i : ℕ) → i < length os → (ws : List ℕ) → get_or os i (accepted []) ≡ accepted ws → length ws ≤ 512 → Served l i ws
  -- a longer one is put in, or it gets 15 and does not fit
  pub long : number ≡ 0 → (i : ℕ) → i < length os → (ws : List ℕ) → get_or os i (accepted []) ≡ accepted ws → 512 < length ws
      → (Served l i ws × (beside os i + length ws ≤ 4096)) ⊎ ((byte_at i l.number ≡ 15) × (4096 < beside os i + length ws))
  -- "those past the last path are 0"
  pub past : number ≡ 0 → (i : ℕ) → length os ≤ i → byte_at i l.number ≡ 0
  -- "a single reply of 4,096 words"
  pub fits : (ws : List ℕ) × (length ws ≤ 4096) × (l.output ≡ padded n ws)
  -- "a refusal of the whole is all of them"
  pub whole : (number ≡ 0 → ⊥) → ((i : ℕ) → i < desk_count → byte_at i l.number ≡ number) × (l.output ≡ zeros n)
  pub work : l.work ≡ zeros m

-- a path that the site accepts, by its bytes
abbrev pub Accepted : List ℕ → Type 0
Accepted path = (size_check path_words path then path_check (words path)) ≡ 0

-- "Let seven desks hand in any paths that the site accepts: the eighth, if its reply is short, gets the words it would get by itself." It stands at
-- any place among them: `reply` is the call for one path, and `call` that for a bundle.
abbrev pub Eighth : (List ℕ → Outcome) → (List ℕ → Left) → Type 0
Eighth reply call =
    (before after : List (List ℕ)) (path : List ℕ) → length (before ++ path ∷ after) ≤ desk_count → ((f : List ℕ) → Mem f (before ++ path ∷ after) → Accepted f)
    → (ws : List ℕ) → reply path ≡ accepted ws → length ws ≤ 512 → Served (call (flatten (before ++ path ∷ after))) (length before) ws

-- Request 11, for all bytes and all buffers: the output has n and the working buffer m bytes.
pub record Request11 : Type 0 where
  -- 17 is not given exactly if there are bytes, at most 8,192 words of them, and a way to split them; and there is one way at most
  pub seventeen : (s : List ℕ) → (split_check desk_count s ≡ 0) ↔ ((0 < length s) × (length s / 4 ≤ 8192) × ((fs : List (List ℕ)) × IsSplit desk_count s fs))
  pub one_way : (s : List ℕ) (fs : List (List ℕ)) → IsSplit desk_count s fs → fs ≡ split desk_count s
  pub eight : (n m : ℕ) (part paths : List ℕ)
      → IsShared (whole_number desk_count n m part paths) (map (first_reply_call n m part) (split desk_count paths)) n m (eight_replies_call n m part paths)
  pub eight_grouped : (n m : ℕ) (part groups paths : List ℕ)
      → IsShared (whole_grouped_number desk_count n m part groups paths) (map (first_reply_grouped_call n m part groups) (split desk_count paths)) n m (eight_replies_grouped_call n m part groups paths)
  pub eighth : (n m : ℕ) (part : List ℕ) → Eighth (first_reply_call n m part) (eight_replies_call n m part)
  pub eighth_grouped : (n m : ℕ) (part groups : List ℕ) → Eighth (first_reply_grouped_call n m part groups) (eight_replies_grouped_call n m part groups)
