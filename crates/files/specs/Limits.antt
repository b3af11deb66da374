-- Believed. Limits: of files, in words with the header; of the operands that wait in a path; of the working buffer, in bytes; and how many label
-- groups there are. Document 01; document 02, requests 8 (triple files), 9 (eight operands) and 10 (walks).
use Rattle.std.specs.Prelude.{ℕ}

-- a part, and so a whole
abbrev pub part_words : ℕ
part_words = 4096

abbrev pub path_words : ℕ
path_words = 64

-- the most operands that may wait after any word of a path
abbrev pub most_waiting : ℕ
most_waiting = 8

-- the label groups
abbrev pub group_count : ℕ
group_count = 8

-- a first reply, a call list, a second reply
abbrev pub reply_words : ℕ
reply_words = 4096

abbrev pub bundle_words : ℕ
bundle_words = 8192

abbrev pub final_words : ℕ
final_words = 8192

-- the triples of a plant of the first release
abbrev pub triple_words : ℕ
triple_words = 12286

-- a whole that is asked for walks, and a walk
abbrev pub shown_words : ℕ
shown_words = 1024

abbrev pub walk_words : ℕ
walk_words = 4096

abbrev pub work_bytes : ℕ
work_bytes = 32768
