-- Believed. The user's demand 1. Any file, cut list, bundle, groups or counts, with buffers of any length, get their one result or a refusal under a
-- number of document 01 or 02, and a refusal leaves outputs and working buffer all zero, a lent state unmoved, a lent count or answer 0; that of one path of a
-- visit, its own output, and that of one desk of several, nothing of its own. It is said of what the calls leave, by their contracts (mowqachi/src/lib.rt): `leaves`
-- of their outcomes. That a call ends and touches nothing else is what the check proves of every function.
use Rattle.std.specs.Prelude.{ℕ, ◌*◌, ◌≤◌, ◌<◌, ◌≡◌, ◌⊎◌, List, [], ◌∷◌, length, get_or, drop}
use Rattle.sets.specs.Sets.{Mem}
use Rattle.files.specs.Word.{words}
use Rattle.files.specs.Outcome.{Outcome, zeros, padded, Left, left, leaves, left_lent, leaves_lent}
use Rattle.files.specs.Groups.{loaded, our_groups}
use Rattle.path_bundles.specs.Split.{split}
use Rattle.path_bundles.specs.Packed.{byte_at, LeftSeveral}
use Rattle.expressions.specs.Labels.{expr_of}
use Rattle.first_replies.specs.FirstReply.{IsFirstReply}
use Rattle.site_first.specs.First.{first_reply_call, first_reply_grouped_call}
use Rattle.four_replies.specs.Four.{visit_paths, four_replies_call, four_replies_grouped_call}
use Rattle.four_replies.specs.Visit.{At}
use Rattle.choices.specs.Shared.{Served}
use Rattle.eight_replies.specs.Eight.{desk_count, eight_replies_call, eight_replies_grouped_call}
use Rattle.site_second.specs.Second.{IsSecondReply, second_reply_call, second_reply_grouped_call}
use Rattle.hub_calls.specs.CallList.{IsCallList, call_list_call}
use Rattle.hub_join.specs.Join.{IsJoined, join_call}
use Rattle.old.specs.Old.{old_search_call, old_search_grouped_call}
use Rattle.cutter.specs.Cut.{cut_call}
use Rattle.cutter.specs.Cut as cutter
use Rattle.dearest.specs.Dearest.{dear_part, dear_path, LeftBoth, left_both, dearest_call}
use Rattle.draws.specs.Draws.{drawn}
use Rattle.generator.specs.Generate.{generated, spent, generate_call}
use Rattle.triples.specs.Triple.{root_word, triples_in, IsWholeOf, to_triples}
use Rattle.from_triples.specs.From.{from_call}
use Rattle.to_triples.specs.To.{to_call}
use Rattle.file_walks.specs.Walks.{IsBestBy, walk_file}
use Rattle.walk_find.specs.Walk.{walk_call, walk_grouped_call}
use Rattle.walk_check.specs.Check.{says_yes, yes_of, check_walk_call, check_walk_grouped_call}
use Rattle.demands.specs.Plant.{FinalList, FinalListBy}
use Rattle.demands.specs.PlantOf.{plant_of}

-- What a call leaves of an output of n and a working buffer of m bytes, one of two. A refusal: its number is one of the call's, and both buffers
-- are zero. Or number 0: a file that is what the call owes, within its limit, for which there is room, stands in the output with zeros past it,
-- and the working buffer is zero.
abbrev pub Settles {ℓ} : List ℕ → ℕ → (List ℕ → Type ℓ) → Outcome → ℕ → ℕ → Type ℓ
Settles numbers limit Owed o n m =
    ((k : ℕ) × Mem k numbers × (leaves o n m ≡ left k (zeros n) (zeros m)))
    ⊎ ((f : List ℕ) × Owed f × (length f ≤ limit) × (4 * limit ≤ n) × (leaves o n m ≡ left 0 (padded n f) (zeros m)))

-- the same of a call that owes two files, in outputs of a and b bytes
abbrev pub SettlesBoth : List ℕ → ℕ → ℕ → List ℕ → List ℕ → LeftBoth → ℕ → ℕ → ℕ → Type 0
SettlesBoth numbers limit limit' part path l a b m =
    ((k : ℕ) × Mem k numbers × (l ≡ left_both k (zeros a) (zeros b) (zeros m)))
    ⊎ ((length part ≤ limit) × (4 * limit ≤ a) × (length path ≤ limit') × (4 * limit' ≤ b) × (l ≡ left_both 0 (padded a part) (padded b path) (zeros m)))

-- and of a call that is lent a number: a refusal leaves it as `kept`, and acceptance as `given`
abbrev pub SettlesLent {ℓ} : List ℕ → ℕ → (List ℕ → Type ℓ) → Outcome → ℕ → ℕ → ℕ → ℕ → Type ℓ
SettlesLent numbers limit Owed o kept given n m =
    ((k : ℕ) × Mem k numbers × (leaves_lent o kept given n m ≡ left_lent kept (left k (zeros n) (zeros m))))
    ⊎ ((f : List ℕ) × Owed f × (length f ≤ limit) × (4 * limit ≤ n) × (leaves_lent o kept given n m ≡ left_lent given (left 0 (padded n f) (zeros m))))

-- and of a call that answers paths one by one, in outputs of ns bytes, and leaves l. A refusal of the whole: its number, one of `whole`, and zeros at
-- every output. Or at every output one of two: a refusal of its path, under one of `numbers`, and zeros; or number 0, and a file that is owed, with
-- zeros past it.
abbrev pub SettlesEach : List ℕ → List ℕ → ℕ → (ℕ → List ℕ → Type 0) → LeftSeveral → List ℕ → ℕ → Type 0
SettlesEach whole numbers limit Owed l ns m =
    (((k : ℕ) × Mem k whole × ((i : ℕ) → i < length ns → At l i k (zeros (get_or ns i 0))))
    ⊎ ((i : ℕ) → i < length ns
    → ((k : ℕ) × Mem k numbers × At l i k (zeros (get_or ns i 0)))
    ⊎ ((f : List ℕ) × Owed i f × (length f ≤ limit) × (4 * limit ≤ get_or ns i 0) × At l i 0 (padded (get_or ns i 0) f))))
    × (length l.outputs ≡ length ns) × (l.work ≡ zeros m)

-- what is owed at an output: what is owed to its path, and past the last path no words
abbrev pub OwedAt : (List ℕ → List ℕ → Type 0) → List (List ℕ) → ℕ → List ℕ → Type 0
OwedAt Owed paths i f = (i < length paths → Owed (get_or paths i []) f) × (length paths ≤ i → f ≡ [])

-- and of a call whose desks share one reply, in an output of n bytes, and which leaves l. A refusal of the whole: its number, one of `whole`, in every
-- byte, and zeros. Or for each path one of two: a refusal of it, under one of `numbers`; or 0, and the file that its desk finds is owed. Past the last
-- path the numbers are 0, and past the shared reply there are zeros.
abbrev pub SettlesShared : List ℕ → List ℕ → ℕ → (List ℕ → List ℕ → Type 0) → List (List ℕ) → Left → ℕ → ℕ → Type 0
SettlesShared whole numbers limit Owed paths l n m =
    (((k : ℕ) × Mem k whole × ((i : ℕ) → i < desk_count → byte_at i l.number ≡ k) × (l.output ≡ zeros n))
    ⊎ (((i : ℕ) → i < length paths → ((k : ℕ) × Mem k numbers × (byte_at i l.number ≡ k)) ⊎ ((f : List ℕ) × Owed (get_or paths i []) f × Served l i f))
    × ((i : ℕ) → length paths ≤ i → byte_at i l.number ≡ 0)
    × ((ws : List ℕ) × (length ws ≤ limit) × (4 * limit ≤ n) × (l.output ≡ padded n ws))))
    × (l.work ≡ zeros m)

-- The numbers of each call, as the table of docs/CALLS.md has them
abbrev pub old_search_numbers : List ℕ
old_search_numbers = 1 ∷ 2 ∷ 3 ∷ 4 ∷ 5 ∷ 6 ∷ 7 ∷ 8 ∷ 9 ∷ []

abbrev pub cut_numbers : List ℕ
cut_numbers = 1 ∷ 2 ∷ 3 ∷ 4 ∷ 5 ∷ 6 ∷ 7 ∷ 8 ∷ 11 ∷ []

abbrev pub first_reply_numbers : List ℕ
first_reply_numbers = 1 ∷ 2 ∷ 3 ∷ 4 ∷ 5 ∷ 6 ∷ 7 ∷ 9 ∷ 15 ∷ []

abbrev pub call_list_numbers : List ℕ
call_list_numbers = 1 ∷ 2 ∷ 3 ∷ 4 ∷ 5 ∷ 6 ∷ 7 ∷ 10 ∷ 12 ∷ 13 ∷ 14 ∷ 15 ∷ []

abbrev pub second_reply_numbers : List ℕ
second_reply_numbers = 1 ∷ 2 ∷ 3 ∷ 4 ∷ 5 ∷ 6 ∷ 7 ∷ 9 ∷ 10 ∷ 12 ∷ 14 ∷ []

abbrev pub join_numbers : List ℕ
join_numbers = 1 ∷ 2 ∷ 3 ∷ 4 ∷ 5 ∷ 6 ∷ 12 ∷ 13 ∷ []

abbrev pub dearest_numbers : List ℕ
dearest_numbers = 1 ∷ 21 ∷ []

abbrev pub generate_numbers : List ℕ
generate_numbers = 1 ∷ 11 ∷ []

abbrev pub from_triples_numbers : List ℕ
from_triples_numbers = 1 ∷ 2 ∷ 15 ∷ 18 ∷ []

abbrev pub to_triples_numbers : List ℕ
to_triples_numbers = 1 ∷ 2 ∷ 3 ∷ 4 ∷ 5 ∷ 6 ∷ 7 ∷ 8 ∷ 19 ∷ []

-- the checker of walks has those of the old search
abbrev pub walk_numbers : List ℕ
walk_numbers = 1 ∷ 2 ∷ 3 ∷ 4 ∷ 5 ∷ 6 ∷ 7 ∷ 8 ∷ 9 ∷ 15 ∷ 20 ∷ []

-- of a visit, and of desks that share a reply: those of the whole, and those of one of the paths. A path has no 4, as its length is where its file ends
abbrev pub visit_numbers : List ℕ
visit_numbers = 1 ∷ 2 ∷ 3 ∷ 4 ∷ 5 ∷ 6 ∷ 7 ∷ 17 ∷ []

abbrev pub visit_path_numbers : List ℕ
visit_path_numbers = 2 ∷ 3 ∷ 5 ∷ 9 ∷ 15 ∷ []

-- a grouped call has those of the call without groups, and 16
abbrev pub grouped : List ℕ → List ℕ
grouped numbers = 16 ∷ numbers

abbrev pub rows : List (List ℕ)
rows =
    old_search_numbers ∷ cut_numbers ∷ first_reply_numbers ∷ call_list_numbers ∷ second_reply_numbers ∷ join_numbers
    ∷ grouped old_search_numbers ∷ grouped first_reply_numbers ∷ grouped second_reply_numbers ∷ dearest_numbers ∷ generate_numbers
    ∷ from_triples_numbers ∷ to_triples_numbers ∷ walk_numbers ∷ grouped walk_numbers ∷ visit_numbers ∷ visit_path_numbers ∷ grouped visit_numbers ∷ []

-- the file of the best walk to y, of the words of a whole and a path, word g of the groups for group g
abbrev pub IsBestFile : List ℕ → List ℕ → List ℕ → ℕ → List ℕ → Type 0
IsBestFile groups whole path y f = (ws : List ℕ) × (f ≡ walk_file ws) × IsBestBy groups whole path y ws

-- Demand 1: for all bytes and all buffers. What a call owes is said in the documents' words, which one file at most meets (docs/DECISIONS.md, 68).
pub record Demand1 : Type 1 where
  pub old_search_lem : (whole path : List ℕ) (n m : ℕ)
      → Settles old_search_numbers 8192 (FinalList (plant_of (words whole)) (expr_of (drop 1 (words path)))) (old_search_call n m whole path) n m
  pub cut : (whole cuts : List ℕ) (site n m : ℕ) → Settles cut_numbers 4096 (λ f. f ≡ cutter.cut (words whole) cuts site) (cut_call n m whole cuts site) n m
  pub first_reply_lem : (part path : List ℕ) (n m : ℕ) → Settles first_reply_numbers 4096 (IsFirstReply (words part) (words path)) (first_reply_call n m part path) n m
  pub call_list_lem : (bundle : List ℕ) (n m : ℕ) → Settles call_list_numbers 4096 (IsCallList (words bundle)) (call_list_call n m bundle) n m
  pub second_reply_lem : (part path calls : List ℕ) (n m : ℕ)
      → Settles second_reply_numbers 4096 (IsSecondReply (words part) (words path) (words calls)) (second_reply_call n m part path calls) n m
  pub join : (bundle : List ℕ) (n m : ℕ) → Settles join_numbers 8192 (IsJoined (words bundle)) (join_call n m bundle) n m
  pub old_search_grouped_lem : (whole groups path : List ℕ) (n m : ℕ)
      → Settles (grouped old_search_numbers) 8192 (FinalListBy (words groups) (plant_of (words whole)) (expr_of (drop 1 (words path)))) (old_search_grouped_call n m whole groups path) n m
  pub first_reply_grouped_lem : (part groups path : List ℕ) (n m : ℕ)
      → Settles (grouped first_reply_numbers) 4096 (IsFirstReply (words part) (loaded (words groups) (words path))) (first_reply_grouped_call n m part groups path) n m
  pub second_reply_grouped_lem : (part groups path calls : List ℕ) (n m : ℕ)
      → Settles (grouped second_reply_numbers) 4096 (IsSecondReply (words part) (loaded (words groups) (words path)) (words calls)) (second_reply_grouped_call n m part groups path calls) n m
  pub dearest : (D T n a b m : ℕ) → SettlesBoth dearest_numbers 4096 64 (dear_part D T) (dear_path n) (dearest_call a b m D T n) a b m
  pub generate : (s nodes edges n m : ℕ)
      → SettlesLent generate_numbers 4096 (λ f. f ≡ generated (drawn s) nodes edges) (generate_call n m s nodes edges) s (spent s nodes edges) n m
  pub from_triples_lem : (triples : List ℕ) (n m : ℕ)
      → Settles from_triples_numbers 4096 (IsWholeOf (root_word (words triples)) (triples_in (words triples))) (from_call n m triples) n m
  pub to_triples_lem : (whole : List ℕ) (n m : ℕ)
      → SettlesLent to_triples_numbers 12286 (λ f. f ≡ to_triples (words whole)) (to_call n m whole) 0 (length (to_triples (words whole))) n m
  pub walk : (whole path : List ℕ) (y n m : ℕ) → Settles walk_numbers 4096 (IsBestFile our_groups (words whole) (words path) y) (walk_call n m whole path y) n m
  pub walk_grouped_lem : (whole groups path : List ℕ) (y n m : ℕ)
      → Settles (grouped walk_numbers) 4096 (IsBestFile (words groups) (words whole) (words path) y) (walk_grouped_call n m whole groups path y) n m
  pub check_walk_lem : (whole path : List ℕ) (y : ℕ) (walk : List ℕ) (m : ℕ)
      → SettlesLent old_search_numbers 0 (λ f. f ≡ []) (check_walk_call m whole path) 0 (yes_of (says_yes (words whole) (words path) y walk)) 0 m
  pub check_walk_grouped_lem : (whole groups path : List ℕ) (y : ℕ) (walk : List ℕ) (m : ℕ)
      → SettlesLent (grouped old_search_numbers) 0 (λ f. f ≡ []) (check_walk_grouped_call m whole groups path) 0
      (yes_of (says_yes (words whole) (loaded (words groups) (words path)) y walk)) 0 m
  pub four_replies_lem : (part paths ns : List ℕ) (m : ℕ)
      → SettlesEach visit_numbers visit_path_numbers 4096 (OwedAt (λ path. IsFirstReply (words part) (words path)) (split visit_paths paths)) (four_replies_call ns m part paths) ns m
  pub four_replies_grouped_lem : (part groups paths ns : List ℕ) (m : ℕ)
      → SettlesEach (grouped visit_numbers) visit_path_numbers 4096 (OwedAt (λ path. IsFirstReply (words part) (loaded (words groups) (words path))) (split visit_paths paths))
      (four_replies_grouped_call ns m part groups paths) ns m
  pub eight_replies_lem : (part paths : List ℕ) (n m : ℕ)
      → SettlesShared visit_numbers visit_path_numbers 4096 (λ path. IsFirstReply (words part) (words path)) (split desk_count paths) (eight_replies_call n m part paths) n m
  pub eight_replies_grouped_lem : (part groups paths : List ℕ) (n m : ℕ)
      → SettlesShared (grouped visit_numbers) visit_path_numbers 4096 (λ path. IsFirstReply (words part) (loaded (words groups) (words path))) (split desk_count paths)
      (eight_replies_grouped_call n m part groups paths) n m
  -- the numbers are those of documents 01 and 02, and 0 is none of them: a call gives its result or is refused, and not both
  pub numbered : (row : List ℕ) → Mem row rows → (k : ℕ) → Mem k row → (1 ≤ k) × (k ≤ 21)
