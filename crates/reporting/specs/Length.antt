-- Believed. The length of a first reply, as a value that runs along the doors. Document 02, request 4.
use Rattle.std.specs.Prelude.{◌≡◌, List, ℕ, zero, suc, ◌+◌, ◌≤◌, min, length, get_or, drop}
use Rattle.sets.specs.Sets.{filter}
use Rattle.files.specs.Field.{labels_of}
use Rattle.files.specs.Part.{is_door}
use Rattle.files.specs.Limits.{reply_words}
use Rattle.expressions.specs.Labels.{expr_of}
use Rattle.first_replies.specs.FirstReply.{door_words}

-- How many words document 01 has for door i of a part, the first door being door 0: its door word, and for each state with anything to report
-- a row word and its reach words. Part and path are the words of accepted files.
unfoldable pub door_count : List ℕ → List ℕ → ℕ → ℕ
door_count part path i =
    length (door_words (drop 1 part) (expr_of (drop 1 path)) (labels_of (get_or path 0 0)) (get_or (filter is_door (drop 1 part)) i 0))

-- how many words it has up to door i: the header, and those of doors 0 to i − 1
unfoldable pub words_up_to : List ℕ → List ℕ → ℕ → ℕ
words_up_to part path zero = 1
words_up_to part path (suc i) = words_up_to part path i + door_count part path i

-- Before door i the value is the count of the words up to there. It is exact as far as one past the limit, and stays there: such a reply is
-- over its limit, whatever follows.
abbrev pub Running : List ℕ → List ℕ → ℕ → ℕ → Type 0
Running part path i value = value ≡ min (words_up_to part path i) (suc reply_words)

-- The work of door i makes r of the value: it adds just the door's own words. One past the limit the count stops.
abbrev pub Adds : List ℕ → List ℕ → ℕ → ℕ → ℕ → Type 0
Adds part path i value r = value ≤ suc reply_words → r ≡ min (value + door_count part path i) (suc reply_words)
