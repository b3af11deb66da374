-- Inner. The checks of a visit, what has passed before a path is answered, what it is answered, and what that leaves.
use Rattle.std.specs.Prelude.{◌≡◌, List, [], ◌∷◌, ℕ, zero, suc}
use Rattle.files.specs.Word.{words}
use Rattle.files.specs.Refuse.{◌then◌, size_check}
use Rattle.files.specs.Outcome.{Outcome, refused, accepted, outcome, leaves}
use Rattle.files.specs.Part.{part_check}
use Rattle.files.specs.Path.{path_check}
use Rattle.files.specs.Groups.{groups_check, loaded}
use Rattle.files.specs.Limits.{part_words, path_words, reply_words}
use Rattle.output.specs.Writer.{Extends}
use Rattle.output.specs.Frame.{input, also, Checked, RoomFor, InputRead, Responds}
use Rattle.path_bundles.specs.Split.{split_check}
use Rattle.path_bundles.specs.Place.{file_at}
use Rattle.path_bundles.specs.Packed.{number_of}
use Rattle.first_replies.specs.FirstReply.{first_reply}

-- whole is the number of the checks of the whole, where the shortest output has n bytes
pub record VisitChecked (most n m : ℕ) (part groups paths : List ℕ) (whole : ℕ) : Type 0 where
  pub checked : Checked reply_words n m (input part_words part (part_check (words part)) ∷ also (groups_check groups) ∷ also (split_check most paths) ∷ []) whole

-- an output of n and a working buffer of m bytes have room for a reply, and part and groups are accepted
pub record SiteRead (n m : ℕ) (part groups : List ℕ) : Type 0 where
  pub room : RoomFor reply_words n m
  pub part_read : InputRead part_words part (part_check (words part))
  pub groups_read : groups_check groups ≡ 0

-- so, unless the whole is refused
pub record SiteReady (whole n m : ℕ) (part groups : List ℕ) : Type 0 where
  pub read : whole ≡ 0 → SiteRead n m part groups

-- what a path is answered, of whose checks its own are left; there is no path where there are no bytes
abbrev pub answered : List ℕ → List ℕ → List ℕ → Outcome
answered part groups [] = accepted []
answered part groups (b ∷ path) =
    outcome (size_check path_words (b ∷ path) then path_check (words (b ∷ path))) reply_words (first_reply (words part) (loaded (words groups) (words (b ∷ path))))

-- and where the whole is refused, that
abbrev pub answered_by : ℕ → List ℕ → List ℕ → List ℕ → Outcome
answered_by zero part groups path = answered part groups path
answered_by (suc k) part groups path = refused (suc k)

-- what a path comes to by itself, ahead of the limit: its own number, and the words of its reply, none where it is refused or where there is no path
pub record Own : Type 0 where
  pub number : ℕ
  pub reply : List ℕ

abbrev pub own_by : ℕ → List ℕ → Own
own_by zero reply = record { number = 0; reply = reply }
own_by (suc k) reply = record { number = suc k; reply = [] }

-- where the whole has this number
abbrev pub own : ℕ → List ℕ → List ℕ → List ℕ → Own
own zero part groups [] = own_by 0 []
own zero part groups (b ∷ path) =
    own_by (size_check path_words (b ∷ path) then path_check (words (b ∷ path))) (first_reply (words part) (loaded (words groups) (words (b ∷ path))))
own (suc k) part groups path = own_by (suc k) []

-- its own number, and its reply behind the first `at` words of an output of n bytes, which ends at `end`
pub record PathAsked (whole : ℕ) (part groups path : List ℕ) (n : ℕ) (out : List ℕ) (at : ℕ) (out' : List ℕ) (number end : ℕ) : Type 0 where
  pub number_is : number ≡ (own whole part groups path).number
  pub extends : Extends reply_words n out at (own whole part groups path).reply out' end

-- a path has number r, and if that is 0 its reply, or nothing, stands in `out`, which has n bytes
pub record PathAnswered (whole : ℕ) (part groups path : List ℕ) (n : ℕ) (out : List ℕ) (r : ℕ) : Type 0 where
  pub responds : Responds (answered_by whole part groups path) n out r

-- the path of an index has number r, and leaves `out` in an output of n bytes
pub record PathLeft (whole : ℕ) (part groups paths : List ℕ) (i n r : ℕ) (out : List ℕ) : Type 0 where
  pub number : r ≡ number_of (answered_by whole part groups (file_at i paths))
  pub output : out ≡ (leaves (answered_by whole part groups (file_at i paths)) n 0).output
