-- A visit: its checks, what one path is answered, and that every number fits a byte. Assumes nothing.
use mathlib.Core.Path.{◌≡◌, refl, sym, ◌∙◌, ap, subst}
use mathlib.Core.Bool.{Bool, true, false, cond}
use mathlib.Core.List.{List, [], ◌∷◌}
use Prim.Native.Nat.{ℕ, zero, suc, ◌+◌, ◌*◌, ◌≤◌, ◌<◌, min}
use native.Mathlib.Omega.{arith}
use borrow.Author.Tests.{leb-true, leb-false}
use Rattle.std.proofs.lemmas.Bool.Decides.{nat_tests}
use lib.Dec.{leb}
use lib.ListN.{length}
use Rattle.std.specs.Prelude.{Result, Ok, Err, IsErr}
use Rattle.std.specs.Result.{result_unwrap_or}
use Rattle.files.specs.declared.refusal.Refusal.{Refusal}
use Rattle.files.specs.Refusal.{number, told}
use Rattle.sets.specs.Sets.{Mem, here, there}
use Rattle.sets.proofs.Cases.{clash}
use Rattle.files.specs.Word.{words}
use Rattle.files.specs.Refuse.{◌then◌, ◌unless◌, room_check, size_check}
use Rattle.files.specs.Outcome.{Outcome, refused, accepted, outcome, zeros, leaves}
use Rattle.files.specs.Part.{part_check}
use Rattle.files.specs.Path.{path_check}
use Rattle.files.specs.Groups.{groups_check, loaded}
use Rattle.files.specs.Limits.{part_words, path_words, reply_words}
use Rattle.files.proofs.Checks.{then_iff, room_checked}
use Rattle.files.proofs.Numbers.{Among, among, among_below, among_then, among_first, among_more, size_numbers, part_numbers, path_numbers, groups_numbers, outcome_numbers}
use Rattle.output.specs.Writer.{Extends}
use Rattle.output.specs.Frame.{input, also, Passed, Responds, withheld}
use Rattle.output.proofs.Frame.{read_is, passed, answer_refused, answer_filed, withholds}
use Rattle.output.proofs.Extending.{extends_filed, extends_none}
use Rattle.path_bundles.specs.Split.{split_check}
use Rattle.path_bundles.specs.Place.{file_at}
use Rattle.path_bundles.specs.Packed.{number_of}
use Rattle.first_replies.specs.FirstReply.{first_reply}
use Rattle.site_first.specs.First.{first_reply_grouped_call}
use Rattle.visits.specs.Whole.{shortest, whole_grouped_number}
use Rattle.visits.specs.Answered.{VisitChecked, SiteRead, SiteReady, answered, answered_by, own_by, own, PathAsked, PathAnswered, PathLeft}

-- ---- the checks of the whole

shortest_below : {n : ℕ} (ns : List ℕ) → Mem n ns → shortest ns ≤ n
shortest_below {n = n} [] m = elim m [ ]
shortest_below {n} (a ∷ []) (here e) = omega (arith, e)
shortest_below {n} (a ∷ []) (there m) = elim m [ ]
shortest_below {n} (a ∷ k ∷ ns) m = by (leb a (shortest (k ∷ ns))) refl (shortest_below (k ∷ ns)) m
  where
    by : (t : Bool) → leb a (shortest (k ∷ ns)) ≡ t → (Mem n (k ∷ ns) → shortest (k ∷ ns) ≤ n) → Mem n (a ∷ k ∷ ns) → cond t a (shortest (k ∷ ns)) ≤ n
    by true t f (here e) = omega (arith, e)
    by true t f (there m) = omega (arith, leb-true a (shortest (k ∷ ns)) t, f m)
    by false t f (here e) = omega (arith, leb-false a (shortest (k ∷ ns)) t, e)
    by false t f (there m) = f m

-- of two it is the least
pub shortest_two : (a b : ℕ) → min a b ≡ shortest (a ∷ b ∷ [])
shortest_two a b = grind (arith, nat_tests)

-- all passed: each output has room, part and groups are accepted, and the bundle is split
module _ {most m : ℕ} {part groups paths : List ℕ} (ns : List ℕ) (c : VisitChecked most (shortest ns) m part groups paths 0) where
  all : Passed reply_words (shortest ns) m (input part_words part (part_check (words part)) ∷ also (groups_check groups) ∷ also (split_check most paths) ∷ [])
  all = passed refl c.checked refl refl

  pub site_read : {n : ℕ} → Mem n ns → SiteRead n m part groups
  site_read i =
      let r = all.room in
      record {
        room = record { holds = omega (arith, r.holds, shortest_below ns i); works = r.works };
        part_read = all.read.0;
        groups_read = all.read.1.0;
      }

  pub bundle_split : split_check most paths ≡ 0
  bundle_split = all.read.1.1.0

-- for each output
pub site_ready : {most m n l whole : ℕ} {part groups paths : List ℕ} (ns : List ℕ) → VisitChecked most (shortest ns) m part groups paths whole → Mem n ns → l ≡ m
    → SiteReady whole n l part groups
site_ready {most} {m} {n} {l} {whole} {part} {groups} {paths} ns c i q = record {
  read = λ z.
      let d : VisitChecked most (shortest ns) m part groups paths 0 = rw z at c in
      rw q (site_read ns d i);
}

pub ready_split : {most n m whole : ℕ} {part groups paths : List ℕ} → VisitChecked most n m part groups paths whole → whole ≡ 0 → split_check most paths ≡ 0
ready_split {most} {n} {m} {whole} {part} {groups} {paths} c z =
    let d : VisitChecked most (shortest (n ∷ [])) m part groups paths 0 = rw z at c in
    bundle_split (n ∷ []) d

-- with buffers of the same lengths
pub same_ready : {whole n m k l : ℕ} {part groups : List ℕ} → SiteReady whole n m part groups → k ≡ n → l ≡ m → SiteReady whole k l part groups
same_ready r e q = rw (e, q) r

-- ---- one path

-- where buffers, part and groups have passed, the path's own checks are left
pub path_alone : {n m : ℕ} {part groups : List ℕ} → SiteRead n m part groups → (path : List ℕ)
    → first_reply_grouped_call n m part groups path
    ≡ outcome (size_check path_words path then path_check (words path)) reply_words (first_reply (words part) (loaded (words groups) (words path)))
unfolding first_reply_grouped_call
path_alone {n} {m} p path =
    rw (room_checked reply_words n m p.room.holds p.room.works, p.part_read.sized, p.part_read.read, p.groups_read)

pub answered_some : (part groups path : List ℕ) → 0 < length path
    → answered part groups path ≡ outcome (size_check path_words path then path_check (words path)) reply_words (first_reply (words part) (loaded (words groups) (words path)))
answered_some part groups [] h = absurd (omega arith)
answered_some part groups (b ∷ path) h = refl

-- what is answered is what the path comes to by itself, within the limit
own_by_lem : (c : ℕ) (reply : List ℕ) → outcome c reply_words reply ≡ outcome (own_by c reply).number reply_words (own_by c reply).reply
own_by_lem zero reply = refl
own_by_lem (suc k) reply = refl

own_refused : (c : ℕ) (reply : List ℕ) → (c ≡ 0 → ⊥) → ((own_by c reply).number ≡ c) × ((own_by c reply).reply ≡ [])
own_refused zero reply z = absurd (z refl)
own_refused (suc k) reply z = (refl, refl)

own_passed : (c : ℕ) (reply : List ℕ) → c ≡ 0 → ((own_by c reply).number ≡ 0) × ((own_by c reply).reply ≡ reply)
own_passed zero reply z = (refl, refl)
own_passed (suc k) reply z = absurd (omega arith)

pub own_answered : (whole : ℕ) (part groups path : List ℕ)
    → answered_by whole part groups path ≡ outcome (own whole part groups path).number reply_words (own whole part groups path).reply
own_answered zero part groups [] = refl
own_answered zero part groups (b ∷ path) =
    own_by_lem (size_check path_words (b ∷ path) then path_check (words (b ∷ path))) (first_reply (words part) (loaded (words groups) (words (b ∷ path))))
own_answered (suc k) part groups path = refl

-- it is asked: the whole is refused
module _ (out : List ℕ) {at : ℕ} (h : at ≤ reply_words) where
  pub asked_whole : {whole k : ℕ} (part groups path : List ℕ) → k ≡ whole → (k ≡ 0 → ⊥) → PathAsked whole part groups path (length out) out at out k at
  asked_whole {whole = zero} part groups path e z = absurd (z e)
  asked_whole {whole = suc w} part groups path e z = record { number_is = e; extends = extends_none reply_words out at h }

  -- there is no path
  pub asked_none : {whole : ℕ} (part groups path : List ℕ) → whole ≡ 0 → length path ≡ 0 → PathAsked whole part groups path (length out) out at out 0 at
  asked_none part groups [] w z = rw w (record { number_is = refl; extends = extends_none reply_words out at h })
  asked_none part groups (b ∷ path) w z = absurd (omega arith)

  -- its own checks refuse, by this number
  pub asked_checked : {whole k : ℕ} (part groups path : List ℕ) → whole ≡ 0 → (length path ≡ 0 → ⊥) → k ≡ (size_check path_words path then path_check (words path))
      → (k ≡ 0 → ⊥) → PathAsked whole part groups path (length out) out at out k at
  asked_checked part groups [] w s e z = absurd (s refl)
  asked_checked part groups (b ∷ path) w s e z =
      let (p, q) = own_refused _ (first_reply (words part) (loaded (words groups) (words (b ∷ path)))) (λ i. z (e ∙ i)) in
      rw w (record { number_is = e ∙ sym p; extends = subst (λ vs. Extends reply_words (length out) out at vs out at) (sym q) (extends_none reply_words out at h) })

  -- the refusal is handed on
  pub asked_refused : {whole k : ℕ} (r : Result ℕ Refusal) (part groups path : List ℕ) → whole ≡ 0 → (length path ≡ 0 → ⊥) → k ≡ (size_check path_words path then path_check (words path))
      → (k ≡ 0 → ⊥) → IsErr r → number r ≡ k → PathAsked whole part groups path (length out) out at out (number r) (result_unwrap_or r at)
  asked_refused (Ok end) part groups path w s e z f d = absurd (clash f refl)
  asked_refused (Err x) part groups path w s e z f d = rw d (asked_checked part groups path w s e z)

  -- or its number
  pub asked_told : {whole k : ℕ} {part groups path : List ℕ} (r : Result ℕ ℕ) → IsErr r → told r ≡ k → PathAsked whole part groups path (length out) out at out k at
      → PathAsked whole part groups path (length out) out at out (told r) (result_unwrap_or r at)
  asked_told (Ok end) f e a = absurd (clash f refl)
  asked_told (Err n) f e a = rw e a

pub asked_reply : {whole k n at end : ℕ} (part groups path : List ℕ) {o₁ o₂ : List ℕ} → whole ≡ 0 → (length path ≡ 0 → ⊥) → k ≡ (size_check path_words path then path_check (words path)) → k ≡ 0
    → Extends reply_words n o₁ at (first_reply (words part) (loaded (words groups) (words path))) o₂ end → PathAsked whole part groups path n o₁ at o₂ 0 end
asked_reply part groups [] w s e z f = absurd (s refl)
asked_reply {n = n} {at} {end} part groups (b ∷ path) {o₁} {o₂} w s e z f =
    let (p, q) = own_passed _ (first_reply (words part) (loaded (words groups) (words (b ∷ path)))) (sym e ∙ z) in
    rw w (record { number_is = sym p; extends = subst (λ vs. Extends reply_words n o₁ at vs o₂ end) (sym q) f })

-- it is answered, in a cleared output: refused, or asked with this number, and within the limit or not
module _ {whole m number end : ℕ} (part groups path : List ℕ) {o₁ o₂ : List ℕ} (f : PathAsked whole part groups path (length o₁) o₁ 0 o₂ number end) where
  pub path_refused : {r : ℕ} → r ≡ number → (number ≡ 0 → ⊥) → PathAnswered whole part groups path m o₂ r
  path_refused d z =
      record { responds = rw (own_answered whole part groups path, ← f.number_is) (answer_refused number reply_words (own whole part groups path).reply m o₂ d (λ i. z (sym d ∙ i))) }

  pub path_within : {r : ℕ} → number ≡ 0 → o₁ ≡ zeros m → length o₁ ≡ m → r ≡ (15 unless leb end reply_words) → PathAnswered whole part groups path m o₂ r
  path_within {r} n z l d = record {
    responds = rw (own_answered whole part groups path, ← f.number_is)
        (answer_filed number reply_words (own whole part groups path).reply m refl n (extends_filed (own whole part groups path).reply f.extends z l d));
  }

-- and whatever its number
pub path_answered : {whole m number end q r : ℕ} (part groups path : List ℕ) {o₁ o₂ : List ℕ} → PathAsked whole part groups path (length o₁) o₁ 0 o₂ number end
    → o₁ ≡ zeros m → length o₁ ≡ m → q ≡ (15 unless leb end reply_words) → r ≡ (number then q) → PathAnswered whole part groups path m o₂ r
path_answered {whole} {m} {number} {end} {q} {r} part groups path {o₁} {o₂} f z l e d =
    record { responds = rw (own_answered whole part groups path, ← f.number_is) (by number d) }
  where
    by : (k : ℕ) → r ≡ (k then q) → Responds (outcome k reply_words (own whole part groups path).reply) m o₂ r
    by zero d = answer_filed 0 reply_words (own whole part groups path).reply m refl refl (extends_filed (own whole part groups path).reply f.extends z l (d ∙ e))
    by (suc k) d = rw d (answer_refused (suc k) reply_words (own whole part groups path).reply m o₂ refl (λ i. omega arith))

-- a number that is handed on
pub then_none : (k : ℕ) → k ≡ (k then 0)
then_none zero = refl
then_none (suc k) = refl

-- for the writer of its reply
pub path_passed : {whole n m : ℕ} {part groups : List ℕ} (path : List ℕ) {k : ℕ} → SiteReady whole n m part groups → whole ≡ 0 → k ≡ 0
    → k ≡ (size_check path_words path then path_check (words path))
    → Passed reply_words n m (input part_words part (part_check (words part)) ∷ also (groups_check groups) ∷ input path_words path (path_check (words path)) ∷ [])
path_passed path s w z e =
    let p = s.read w in
    let (a, b) = (then_iff (size_check path_words path) (path_check (words path))).0 (sym e ∙ z) in
    record { room = p.room; read = (p.part_read, (p.groups_read, (read_is path_words path a b, tt))) }

-- its number, and what it leaves
pub path_left : {whole : ℕ} {part groups paths f a : List ℕ} (out : List ℕ) {i n k : ℕ} → f ≡ file_at i paths → PathAnswered whole part groups f n out k → length out ≡ n
    → a ≡ withheld k out → PathLeft whole part groups paths i n k a
path_left {whole} {part} {groups} {paths} out {i} {n} {k} e f p h =
    let g : Responds (answered_by whole part groups (file_at i paths)) n out k = rw e at f.responds in
    record { number = g.number ∙ same_number (answered_by whole part groups (file_at i paths)); output = withholds out g p h }
  where
    same_number : (o : Outcome) → (leaves o n 0).number ≡ number_of o
    same_number (refused k) = refl
    same_number (accepted ws) = refl

-- ---- every number fits a byte: those of a path, of the site's checks before it, and of the whole

abbrev site_numbers : List ℕ
site_numbers = 1 ∷ 2 ∷ 3 ∷ 4 ∷ 5 ∷ 6 ∷ 7 ∷ 9 ∷ 15 ∷ 16 ∷ 17 ∷ []

path_among : (path : List ℕ) → Among site_numbers (size_check path_words path then path_check (words path))
path_among path = among_first tt (size_numbers path_words path) (among_more tt (path_numbers (words path)))

site_among : (n m : ℕ) (part groups : List ℕ) {x : ℕ} → Among site_numbers x
    → Among site_numbers (room_check reply_words n m then size_check part_words part then part_check (words part) then groups_check groups then x)
site_among n m part groups a =
    let room : Among site_numbers (room_check reply_words n m) = search among in
    among_then room (among_first tt (size_numbers part_words part) (among_first tt (part_numbers (words part)) (among_first tt (groups_numbers groups) a)))

small : {x : ℕ} → Among site_numbers x → x < 256
small a = omega (arith, among_below 255 tt a)

pub call_small : (n m : ℕ) (part groups path : List ℕ) → number_of (first_reply_grouped_call n m part groups path) < 256
unfolding first_reply_grouped_call
call_small n m part groups path =
    small (outcome_numbers reply_words (first_reply (words part) (loaded (words groups) (words path))) 0 0 tt (site_among n m part groups (path_among path)))

pub whole_small : (most n m : ℕ) (part groups paths : List ℕ) → whole_grouped_number most n m part groups paths < 256
whole_small most n m part groups paths =
    let bundle : Among site_numbers (split_check most paths) = search among in
    small (site_among n m part groups bundle)

answered_small : (whole : ℕ) (part groups path : List ℕ) → whole < 256 → number_of (answered_by whole part groups path) < 256
answered_small zero part groups [] h = omega arith
answered_small zero part groups (b ∷ path) h =
    small (outcome_numbers reply_words (first_reply (words part) (loaded (words groups) (words (b ∷ path)))) 0 0 tt (path_among (b ∷ path)))
answered_small (suc k) part groups path h = h

-- what a path comes to by itself, ahead of the limit
pub own_small : (whole : ℕ) (part groups path : List ℕ) → whole < 256 → (own whole part groups path).number < 256
own_small zero part groups [] h = omega arith
own_small zero part groups (b ∷ path) h = by (size_check path_words (b ∷ path) then path_check (words (b ∷ path))) (small (path_among (b ∷ path)))
  where
    by : (c : ℕ) → c < 256 → (own_by c (first_reply (words part) (loaded (words groups) (words (b ∷ path))))).number < 256
    by zero l = l
    by (suc c) l = l
own_small (suc k) part groups path h = h

-- a refused path has no reply
pub own_formed : (whole : ℕ) (part groups path : List ℕ) → ((own whole part groups path).number ≡ 0 → ⊥) → (own whole part groups path).reply ≡ []
own_formed zero part groups [] h = refl
own_formed zero part groups (b ∷ path) h =
    by (size_check path_words (b ∷ path) then path_check (words (b ∷ path))) (first_reply (words part) (loaded (words groups) (words (b ∷ path)))) h
  where
    by : (c : ℕ) (reply : List ℕ) → ((own_by c reply).number ≡ 0 → ⊥) → (own_by c reply).reply ≡ []
    by zero reply h = absurd (h refl)
    by (suc c) reply h = refl
own_formed (suc k) part groups path h = refl

-- its reply has room where it is within the limit
pub own_room : (whole : ℕ) {n m : ℕ} {part groups : List ℕ} (path : List ℕ) (w : ℕ) → SiteReady whole n m part groups → 4 * w ≤ n
    → w + length (own whole part groups path).reply ≤ reply_words → 4 * (w + length (own whole part groups path).reply) ≤ n
own_room zero path w r h l = omega (arith, (r.read refl).room.holds)
own_room (suc k) path w r h l = omega arith

-- there is none where there is no path
pub own_none : (whole : ℕ) (part groups path : List ℕ) → path ≡ [] → (own whole part groups path).reply ≡ []
own_none zero part groups [] e = refl
own_none zero part groups (b ∷ path) e = absurd (omega (arith, ap length e))
own_none (suc k) part groups path e = refl

pub left_small : {most a m whole : ℕ} {part groups paths : List ℕ} {i n r : ℕ} {out : List ℕ} → VisitChecked most a m part groups paths whole
    → PathLeft whole part groups paths i n r out → r < 256
left_small {most} {a} {m} {whole} {part} {groups} {paths} {i} c p =
    let w : whole < 256 = rw c.checked.is (whole_small most a m part groups paths) in
    rw p.number (answered_small whole part groups (file_at i paths) w)
