-- Which numbers a check can give: 0, or one of a list. Over chains of checks, scans of words of any kind, files and bundles; then of each reader.
-- Assumes nothing.
use mathlib.Core.Path.{◌≡◌, refl}
use mathlib.Core.Logic.{◌⊎◌, inl, inr, ⊎_elim}
use mathlib.Core.Bool.{Bool, true, false, cond, not}
use mathlib.Core.List.{List, [], ◌∷◌}
use Prim.Native.Nat.{ℕ, zero, suc, ◌-◌, ◌≤◌}
use native.Mathlib.Omega.{arith}
use borrow.Author.Tests.{eq-eqb}
use lib.Dec.{T, eqb, leb}
use lib.ListN.{length, get_or, take, drop}
use Rattle.sets.specs.Sets.{Mem, here, there, member, any}
use Rattle.sets.proofs.Sets.{member_iff}
use Rattle.sets.proofs.Tests.{le_iff}
use Rattle.sets.proofs.Filter.{all_iff}
use Rattle.files.specs.Field.{labels_of, size_of}
use Rattle.files.specs.Refuse.{◌then◌, ◌unless◌, size_check, header_check, file_check}
use Rattle.files.specs.Outcome.{accepted, refused, outcome, leaves}
use Rattle.files.specs.Scan.{scan_words, in_order, scan_ordered}
use Rattle.files.specs.Part.{part_check, whole_check}
use Rattle.files.specs.Part as part
use Rattle.files.specs.declared.part.PartSeen.{PartSeen}
use Rattle.files.specs.declared.reply.ReplySeen.{ReplySeen}
use Rattle.files.specs.Limits.{most_waiting}
use Rattle.files.specs.Path.{path_check}
use Rattle.files.specs.Path as path
use Rattle.files.specs.Groups.{groups_check}
use Rattle.files.specs.Reply.{reply_check}
use Rattle.files.specs.Reply as reply
use Rattle.files.specs.Calls.{call_check, calls_check}
use Rattle.files.specs.Answers.{answer_check, answers_check}
use Rattle.files.specs.Bundle.{files_check, first_bundle_check, second_bundle_check}
use Rattle.files.specs.Cuts.{cut_check}

-- a check gives 0, or one of these numbers
abbrev pub Among : List ℕ → ℕ → Type 0
Among ks a = (a ≡ 0) ⊎ Mem a ks

-- of a list whose numbers are all of another, by computation
pub among_more : {ks ls : List ℕ} {a : ℕ} → T (not (any (λ k. not (member k ls)) ks)) → Among ks a → Among ls a
among_more t (inl e) = inl e
among_more {ks} {ls} {a} t (inr m) = inr ((member_iff a ls).0 ((all_iff (λ k. member k ls) ks).0 t a m))

module _ {ks : List ℕ} where
  pub among_then : {a b : ℕ} → Among ks a → Among ks b → Among ks (a then b)
  among_then {a = zero} p q = q
  among_then {a = suc a} p q = p

  pub among_unless : (k : ℕ) (b : Bool) → T (member k ks) → Among ks (k unless b)
  among_unless k true t = inl refl
  among_unless k false t = inr ((member_iff k ks).0 t)

  pub among_cond : (b : Bool) {x y : ℕ} → Among ks x → Among ks y → Among ks (cond b x y)
  among_cond true p q = p
  among_cond false p q = q

  pub among_number : (k : ℕ) → T (member k ks) → Among ks k
  among_number k t = inr ((member_iff k ks).0 t)

  -- a check before others
  pub among_first : {ls : List ℕ} {a b : ℕ} → T (not (any (λ k. not (member k ks)) ls)) → Among ls a → Among ks b → Among ks (a then b)
  among_first t p q = among_then (among_more t p) q

  -- words of any kind
  pub among_scan : {S : Type 0} (check : S → ℕ → ℕ) (next : S → ℕ → S) (end : S → ℕ)
      → ((st : S) (w : ℕ) → Among ks (check st w)) → ((st : S) → Among ks (end st)) → (st : S) (ws : List ℕ) → Among ks (scan_words check next end st ws)
  among_scan check next end c e st [] = e st
  among_scan check next end c e st (w ∷ ws) = among_then (c st w) (among_scan check next end c e (next st w) ws)

  -- in ascending order
  pub among_ordered : (check : ℕ → ℕ) → T (member 6 ks) → ((w : ℕ) → Among ks (check w)) → (last : ℕ) (ws : List ℕ) → Among ks (scan_ordered check last ws)
  among_ordered check t c = among_scan (in_order check) (λ last w. w) (λ last. 0) (λ last w. search (among_then, among_unless)) (λ last. inl refl)

-- a bound on all of them, by computation
pub among_below : {ks : List ℕ} {a : ℕ} (most : ℕ) → T (not (any (λ k. not (leb k most)) ks)) → Among ks a → a ≤ most
among_below most t (inl e) = rw e (omega arith)
among_below {ks} {a} most t (inr m) = (le_iff a most).0 ((all_iff (λ k. leb k most) ks).0 t a m)

-- the number of a call whose checks give these, and 15 last
pub outcome_numbers : {ks : List ℕ} {c : ℕ} (limit : ℕ) (result : List ℕ) (n m : ℕ) → T (member 15 ks) → Among ks c
    → Among ks (leaves (outcome c limit result) n m).number
outcome_numbers {c = suc c} limit result n m t p = p
outcome_numbers {ks} {c = zero} limit result n m t p = by (leb (length result) limit)
  where
    by : (b : Bool) → Among ks (leaves (cond b (accepted result) (refused 15)) n m).number
    by true = inl refl
    by false = inr ((member_iff 15 ks).0 t)

-- a chain of single checks: `search among`
pub ruleset among = (among_then, among_unless, among_cond, among_number)

-- 3 and 4
header_numbers : (kind : ℕ) (site labels : Bool) (n h : ℕ) → Among (3 ∷ 4 ∷ []) (header_check kind site labels n h)
header_numbers kind site labels n h = search among

module _ {ks : List ℕ} (kind : ℕ) (body : ℕ → List ℕ → ℕ) (b : (h : ℕ) (ws : List ℕ) → Among ks (body h ws)) where
  -- a file by itself: 2, 3 and 4 before its words
  pub file_numbers : (site labels : Bool) (ws : List ℕ) → Among (2 ∷ 3 ∷ 4 ∷ ks) (file_check kind site labels body ws)
  file_numbers site labels [] = inr (here refl)
  file_numbers site labels (h ∷ ws) =
      among_first tt (header_numbers kind site labels (suc (length ws)) h) (⊎_elim inl (λ m. inr (there (there (there m)))) (b h ws))

  -- no 4 where the header tells the length
  pub sized_numbers : (site labels : Bool) (ws : List ℕ) → size_of (get_or ws 0 0) ≡ length ws → Among (2 ∷ 3 ∷ ks) (file_check kind site labels body ws)
  sized_numbers site labels [] e = inr (here refl)
  sized_numbers site labels (h ∷ ws) e =
      let none : Among (2 ∷ 3 ∷ ks) (4 unless eqb (size_of h) (suc (length ws))) = inl (rw (eq-eqb (size_of h) (suc (length ws)) e)) in
      let head : Among (2 ∷ 3 ∷ ks) (header_check kind site labels (suc (length ws)) h) = search among in
      among_then head (⊎_elim inl (λ m. inr (there (there m))) (b h ws))

  -- the files of a bundle: 3 and 4 before their words
  pub files_numbers : (k : ℕ) (ws : List ℕ) → Among (3 ∷ 4 ∷ ks) (files_check kind body k ws)
  files_numbers zero ws = inl refl
  files_numbers (suc k) [] = inl refl
  files_numbers (suc k) (h ∷ ws) =
      let head : Among (3 ∷ 4 ∷ ks) (header_check kind true true (size_of h) h) = among_more tt (header_numbers kind true true (size_of h) h) in
      let words : Among (3 ∷ 4 ∷ ks) (body h (take (size_of h - 1) ws)) = ⊎_elim inl (λ m. inr (there (there m))) (b h (take (size_of h - 1) ws)) in
      let rest = files_numbers k (drop (size_of h - 1) ws) in
      search among

-- The size of any input

pub size_numbers : (limit : ℕ) (s : List ℕ) → Among (2 ∷ []) (size_check limit s)
size_numbers limit s = search among

-- Parts and wholes

part_word : (st : PartSeen) (w : ℕ) → Among (5 ∷ 6 ∷ 7 ∷ []) (part.word_check st w)
part_word st w = search among depth 8

pub part_numbers : (ws : List ℕ) → Among (2 ∷ 3 ∷ 4 ∷ 5 ∷ 6 ∷ 7 ∷ []) (part_check ws)
part_numbers = file_numbers 1 _ (λ h. among_scan part.word_check part.next (λ st. 0) part_word (λ st. inl refl) part.start) true false

pub whole_numbers : (ws : List ℕ) → Among (2 ∷ 3 ∷ 4 ∷ 5 ∷ 6 ∷ 7 ∷ 8 ∷ []) (whole_check ws)
whole_numbers ws = among_first tt (part_numbers ws) (search among)

pub cuts_numbers : (whole cuts : List ℕ) (site : ℕ) → Among (11 ∷ []) (cut_check whole cuts site)
cuts_numbers whole cuts site = search among

-- Paths and groups

path_word : (most waiting w : ℕ) → Among (5 ∷ 9 ∷ []) (path.word_check most waiting w)
path_word most waiting w = search among

path_body : (h : ℕ) (ws : List ℕ) → Among (5 ∷ 9 ∷ []) (path.body_check most_waiting h ws)
path_body h ws = among_then (among_scan _ path.waits path.end_check (path_word most_waiting) (λ waiting. search among) 0 ws) (search among)

pub path_numbers : (ws : List ℕ) → Among (2 ∷ 3 ∷ 4 ∷ 5 ∷ 9 ∷ []) (path_check ws)
path_numbers = file_numbers 4 (path.body_check most_waiting) path_body false true

pub path_sized : (ws : List ℕ) → size_of (get_or ws 0 0) ≡ length ws → Among (2 ∷ 3 ∷ 5 ∷ 9 ∷ []) (path_check ws)
path_sized = sized_numbers 4 (path.body_check most_waiting) path_body false true

pub groups_numbers : (s : List ℕ) → Among (16 ∷ []) (groups_check s)
groups_numbers s = search among

-- Call lists

pub calls_numbers : (ws : List ℕ) → Among (2 ∷ 3 ∷ 4 ∷ 5 ∷ 10 ∷ 6 ∷ []) (calls_check ws)
calls_numbers = file_numbers 11 _ (λ h. among_ordered (call_check (labels_of h)) tt (λ w. search among) 0) false true

-- Bundles

reply_word : (n : ℕ) (st : ReplySeen) (w : ℕ) → Among (5 ∷ 10 ∷ 6 ∷ 7 ∷ []) (reply.word_check n st w)
reply_word n st w = search among depth 8

reply_numbers : (h : ℕ) (ws : List ℕ) → Among (5 ∷ 10 ∷ 6 ∷ 7 ∷ []) (reply_check h ws)
reply_numbers h = among_scan (reply.word_check (labels_of h)) reply.next reply.end_check (reply_word (labels_of h)) (λ st. search among) reply.start

pub firsts_numbers : (ws : List ℕ) → Among (3 ∷ 4 ∷ 5 ∷ 10 ∷ 6 ∷ 7 ∷ 12 ∷ 13 ∷ []) (first_bundle_check ws)
firsts_numbers ws = among_first tt (files_numbers 7 reply_check reply_numbers (length ws) ws) (search among)

answers_numbers : (h : ℕ) (ws : List ℕ) → Among (5 ∷ 6 ∷ []) (answers_check h ws)
answers_numbers h = among_ordered answer_check tt (λ w. search among) 0

pub seconds_numbers : (ws : List ℕ) → Among (3 ∷ 4 ∷ 5 ∷ 6 ∷ 12 ∷ 13 ∷ []) (second_bundle_check ws)
seconds_numbers ws = among_first tt (files_numbers 13 answers_check answers_numbers (length ws) ws) (search among)
