-- Believed. A bundle: files one after another, each a stretch of the bundle that begins where the last one ended.
use Rattle.std.specs.Prelude.{ℕ, zero, suc, ◌-◌, Bool, true, false, not, ◌&&◌, ◌||◌, List, [], ◌∷◌, map, eqb, leb, ltb, length, get_or, take, drop}
use Rattle.sets.specs.Sets.{member, any}
use Rattle.files.specs.Field.{site_of, labels_of, size_of}
use Rattle.files.specs.Refuse.{◌then◌, ◌unless◌, header_check}
use Rattle.files.specs.Reply as reply
use Rattle.files.specs.Answers as answers
use Rattle.files.specs.Limits.{reply_words}

-- the file that begins here: 3, 4, then its words by `body`; and so the files after it
abbrev pub files_check : ℕ → (ℕ → List ℕ → ℕ) → ℕ → List ℕ → ℕ
files_check kind body zero ws = 0
files_check kind body (suc k) [] = 0
files_check kind body (suc k) (h ∷ ws) =
    header_check kind true true (size_of h) h
    then 4 unless (ltb 0 (size_of h) && leb (size_of h) reply_words && leb (size_of h) (suc (length ws)))
    then body h (take (size_of h - 1) ws)
    then files_check kind body k (drop (size_of h - 1) ws)

-- the headers of a bundle's files
abbrev pub headers : ℕ → List ℕ → List ℕ
headers zero ws = []
headers (suc k) [] = []
headers (suc k) (h ∷ ws) = h ∷ headers k (drop (size_of h - 1) ws)

abbrev pub twice : List ℕ → Bool
twice [] = false
twice (x ∷ xs) = member x xs || twice xs

-- 12: a site twice, or a different n
abbrev pub headers_check : List ℕ → ℕ
headers_check hs =
    12 unless (not (twice (map site_of hs)) && not (any (λ h. not (eqb (labels_of h) (labels_of (get_or hs 0 0)))) hs))

-- over all files of a bundle of first replies: 12, 7 and 13. 14 comes next, and asks for the call list's set (`stray_check` of the hub's)
abbrev pub first_over_check : List ℕ → ℕ
first_over_check ws =
    headers_check (headers (length ws) ws)
    then 7 unless eqb (length (reply.roots ws)) 1
    then 13 unless not (twice (reply.doors ws))

-- over all files of a bundle of second replies: 12 and 13
abbrev pub second_over_check : List ℕ → ℕ
second_over_check ws = headers_check (headers (length ws) ws) then 13 unless not (twice (answers.answers_of ws))

abbrev pub first_bundle_check : List ℕ → ℕ
first_bundle_check ws = files_check 7 reply.reply_check (length ws) ws then first_over_check ws

abbrev pub second_bundle_check : List ℕ → ℕ
second_bundle_check ws = files_check 13 answers.answers_check (length ws) ws then second_over_check ws
