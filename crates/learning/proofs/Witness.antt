-- What request 12 of document 02 asks of parts and call lists is met. Whether parts are alike can be computed; two different parts that are, and what
-- the theorem says of them; for each thing that it asks for a pair that lacks just this, and has other replies; and every call list of a whole question
-- is one of which it speaks. Assumes nothing.
use mathlib.Core.Path.{◌≡◌, refl, ap, subst}
use mathlib.Core.Logic.{◌↔◌}
use mathlib.Core.Bool.{not, ◌&&◌}
use mathlib.Core.List.Memᴰ
use mathlib.Core.List.{List, [], ◌∷◌, map, flatten}
use Prim.Native.Nat.{ℕ, ◌≤◌}
use native.Mathlib.Omega.{arith}
use lib.Dec.{T}
use lib.ListN.{length, get_or, drop, set, replicate}
use Rattle.sets.specs.Sets.{Mem, Lists, member, any}
use Rattle.sets.specs.Reach.{seed, next, closure}
use Rattle.sets.proofs.Sets.{member_iff}
use Rattle.sets.proofs.Filter.{all_that_iff, map_agrees}
use Rattle.sets.proofs.Reach.{closure_lists}
use Rattle.files.specs.Word.{bytes_of}
use Rattle.files.specs.Field.{site_of, pair_of, pair_node}
use Rattle.files.specs.Outcome.{Outcome, refused, accepted}
use Rattle.files.specs.Part.{nodes, doors, stopped, edges}
use Rattle.files.proofs.Blocks.{node_small}
use Rattle.walks.specs.Product.{step_in, reached, answers}
use Rattle.first_replies.specs.FirstReply.{reported, door_words, first_reply}
use Rattle.site_first.specs.First.{first_reply_call, first_reply_grouped_call}
use Rattle.site_second.specs.Second.{second_reply, second_reply_call, second_reply_grouped_call}
use Rattle.site_second.proofs.SecondReplies.{called_iff}
use Rattle.demands.specs.Grouped.{Groups, own, first_call, second_call}
use Rattle.demands.specs.Demand.{Asked, Put}
use Rattle.demands.proofs.Owed.{first_of, list}
use Rattle.demands.proofs.Accepts as home
use Rattle.demands.proofs.Cross.{called_door}
use Rattle.demands.proofs.Demand.{first_replies}
use Rattle.learning.specs.Learning.{linked, Reached, node_words, Alike, TwoParts, NamesReached}
use Rattle.learning.proofs.Alike.{reached_node}
use Rattle.learning.proofs.Replies.{learning}

-- Computed

pub reached_lists : (part : List ℕ) → Lists (Reached part) (closure (linked part) (doors part))
reached_lists part = closure_lists (linked part) (doors part) (λ x m. omega (arith, node_small part x (reached_node part x (seed m))))
    (λ x y r m. omega (arith, node_small part y (reached_node part y (next r m))))

-- the fields of `Alike`
abbrev SameSite : List ℕ → List ℕ → Type 0
SameSite f g = site_of (get_or f 0 0) ≡ site_of (get_or g 0 0)

abbrev SameReached : List ℕ → List ℕ → Type 0
SameReached f g = (x : ℕ) → Reached (drop 1 f) x ↔ Reached (drop 1 g) x

abbrev SameWords : (List ℕ → ℕ → List ℕ) → List ℕ → List ℕ → Type 0
SameWords read f g = (x : ℕ) → Reached (drop 1 f) x → read (drop 1 f) x ≡ read (drop 1 g) x

-- by the list of what is reached
module _ (f xs : List ℕ) (p : closure (linked (drop 1 f)) (doors (drop 1 f)) ≡ xs) where
  all : Lists (Reached (drop 1 f)) xs
  all = subst (Lists (Reached (drop 1 f))) p (reached_lists (drop 1 f))

  words_computed : (read : List ℕ → ℕ → List ℕ) (g : List ℕ) → map (read (drop 1 f)) xs ≡ map (read (drop 1 g)) xs → SameWords read f g
  words_computed read g e x r = map_agrees (read (drop 1 f)) (read (drop 1 g)) xs e x (all.complete x r)

  pub names_computed : (calls : List ℕ)
      → T (not (any (λ w. member (pair_node (pair_of w)) (nodes (drop 1 f)) && not (member (pair_node (pair_of w)) xs)) (drop 1 calls))) → NamesReached f calls
  names_computed calls t w m k n =
      let x = pair_node (pair_of w) in
      let each = (all_that_iff (λ w. member (pair_node (pair_of w)) (nodes (drop 1 f))) (λ w. member (pair_node (pair_of w)) xs) (drop 1 calls)).0 t in
      all.sound x ((member_iff x xs).0 (each w m ((member_iff x (nodes (drop 1 f))).1 n)))

reached_computed : (f g xs : List ℕ) → closure (linked (drop 1 f)) (doors (drop 1 f)) ≡ xs → closure (linked (drop 1 g)) (doors (drop 1 g)) ≡ xs → SameReached f g
reached_computed f g xs p q x = (λ r. (all g xs q).sound x ((all f xs p).complete x r), λ r. (all f xs p).sound x ((all g xs q).complete x r))

pub alike_computed : (f g xs : List ℕ) → SameSite f g → closure (linked (drop 1 f)) (doors (drop 1 f)) ≡ xs → closure (linked (drop 1 g)) (doors (drop 1 g)) ≡ xs
    → map (node_words (drop 1 f)) xs ≡ map (node_words (drop 1 g)) xs → map (edges (drop 1 f)) xs ≡ map (edges (drop 1 g)) xs → Alike f g
alike_computed f g xs s p q n e = record {
  site = s;
  reached = reached_computed f g xs p q;
  node_word_lem = words_computed f xs p node_words g n;
  edge_words = words_computed f xs p edges g e;
}

-- Two parts. Door 1 has a link out of the part and one to 2, which is stopped, and 3 is reached through 2 alone. Left has a node 4 besides, with
-- links, and right a stopped node 5; neither is reached.
abbrev pub left : List ℕ
left =
    0x1000000b ∷ 0x20010001 ∷ 0x30050002 ∷ 0x3005000a ∷ 0x20040002 ∷ 0x30050003 ∷ 0x20000003 ∷ 0x30050009 ∷ 0x20000004 ∷ 0x30050001 ∷ 0x30050008 ∷ []

abbrev pub right : List ℕ
right = 0x10000009 ∷ 0x20010001 ∷ 0x30050002 ∷ 0x3005000a ∷ 0x20040002 ∷ 0x30050003 ∷ 0x20000003 ∷ 0x30050009 ∷ 0x20040005 ∷ []

abbrev theirs : List ℕ
theirs = 1 ∷ 2 ∷ 3 ∷ []

pub witness : TwoParts (bytes_of left) (bytes_of right) × (left ≡ right → ⊥)
unfolding closure
witness = (
  record { sized = refl; sized' = refl; read = refl; read' = refl; alike = alike_computed left right theirs refl refl refl refl refl },
  λ e. let h : ◌≡◌ {A = ℕ} 11 9 = ap length e in omega arith,
)

-- through stopped nodes too
pub through : Lists (Reached (drop 1 left)) (1 ∷ 2 ∷ 3 ∷ []) × (stopped (drop 1 left) ≡ 2 ∷ [])
unfolding closure
through = (all left theirs refl, refl)

-- calls of the door and of a node elsewhere
abbrev pub calls : List ℕ
calls = 0xb0100003 ∷ 0xc0000010 ∷ 0xc00000a1 ∷ []

pub named : NamesReached left calls × NamesReached right calls
unfolding closure
named = (names_computed left theirs refl calls tt, names_computed right theirs refl calls tt)

-- what the theorem says of them
pub first_told : (groups : Groups) (path : List ℕ) (out work : ℕ) → first_call groups out work (bytes_of left) path ≡ first_call groups out work (bytes_of right) path
first_told = learning.first (bytes_of left) (bytes_of right) witness.0

pub second_told : (groups : Groups) (path : List ℕ) (out work : ℕ)
    → second_call groups out work (bytes_of left) path (bytes_of calls) ≡ second_call groups out work (bytes_of right) path (bytes_of calls)
second_told groups path = learning.second (bytes_of left) (bytes_of right) witness.0 groups path (bytes_of calls) named.0 named.1

-- 5 any number of times, as a label and as a group of the customer's
abbrev pub fives : List ℕ
fives = 0x40100003 ∷ 0x50005005 ∷ 0x60000003 ∷ []

abbrev pub by_group : List ℕ
by_group = 0x40100003 ∷ 0x51000000 ∷ 0x60000003 ∷ []

abbrev pub five : Groups
five = own (bytes_of (replicate 8 0x50005005))

abbrev first : List ℕ → Outcome
first part = first_reply_call 16384 32768 (bytes_of part) (bytes_of fives)

abbrev second : List ℕ → List ℕ → Outcome
second part calls = second_reply_call 16384 32768 (bytes_of part) (bytes_of fives) (bytes_of calls)

-- and what their replies are
pub told :
    (map first (left ∷ right ∷ []) ≡ replicate 2 (accepted (0x70100006 ∷ 0x80000001 ∷ 0x90000000 ∷ 0xa00000a1 ∷ 0x90000001 ∷ 0xa00000a1 ∷ [])))
    × (map (λ part. second part calls) (left ∷ right ∷ []) ≡ replicate 2 (accepted (0xd0100002 ∷ 0xe0000001 ∷ [])))
    × (map (λ part. first_call five 16384 32768 (bytes_of part) (bytes_of by_group)) (left ∷ right ∷ []) ≡ map first (left ∷ right ∷ []))
    × (map (λ part. second_call five 16384 32768 (bytes_of part) (bytes_of by_group) (bytes_of calls)) (left ∷ right ∷ []) ≡ replicate 2 (accepted (0xd0100002 ∷ 0xe0000001 ∷ [])))
unfolding flatten closure step_in reached answers reported door_words first_reply first_reply_call first_reply_grouped_call second_reply second_reply_call second_reply_grouped_call
told = (refl, refl, refl, refl)

-- What is needed: left with one word changed, and all but one of the fields of `Alike`.

-- another site
abbrev pub elsewhere : List ℕ
elsewhere = set left 0 0x1100000b

-- node 4 a door, so it is reached
abbrev pub more_doors : List ℕ
more_doors = set left 8 0x20010004

-- node 2 not stopped, and a door
abbrev pub restarted : List ℕ
restarted = set left 4 0x20000002

abbrev pub opened : List ℕ
opened = set left 4 0x20050002

-- the door's link out of the part to another node
abbrev pub relinked : List ℕ
relinked = set left 3 0x3005000b

pub all_but_one :
    (SameReached left elsewhere × SameWords node_words left elsewhere × SameWords edges left elsewhere)
    × (SameSite left more_doors × SameWords node_words left more_doors × SameWords edges left more_doors)
    × (SameSite left restarted × SameReached left restarted × SameWords edges left restarted)
    × (SameSite left opened × SameReached left opened × SameWords edges left opened)
    × (SameSite left relinked × SameReached left relinked × SameWords node_words left relinked)
unfolding closure
all_but_one = (
  (reached_computed left elsewhere theirs refl refl, words_computed left theirs refl node_words elsewhere refl, words_computed left theirs refl edges elsewhere refl),
  (refl, words_computed left theirs refl node_words more_doors refl, words_computed left theirs refl edges more_doors refl),
  (refl, reached_computed left restarted theirs refl refl, words_computed left theirs refl edges restarted refl),
  (refl, reached_computed left opened theirs refl refl, words_computed left theirs refl edges opened refl),
  (refl, reached_computed left relinked theirs refl refl, words_computed left theirs refl node_words relinked refl),
)

-- and each is accepted, and has another first reply than left
pub others-told :
    (first elsewhere ≡ accepted (0x71100006 ∷ 0x80000001 ∷ 0x90000000 ∷ 0xa00000a1 ∷ 0x90000001 ∷ 0xa00000a1 ∷ []))
    × (first more_doors ≡ accepted (0x7010000d ∷ 0x80000001 ∷ 0x90000000 ∷ 0xa00000a1 ∷ 0x90000001 ∷ 0xa00000a1
    ∷ 0x80000004 ∷ 0x90000000 ∷ 0xa0000081 ∷ 0xa00000a1 ∷ 0x90000001 ∷ 0xa0000081 ∷ 0xa00000a1 ∷ []))
    × (first restarted ≡ accepted (0x70100008 ∷ 0x80000001 ∷ 0x90000000 ∷ 0xa0000091 ∷ 0xa00000a1 ∷ 0x90000001 ∷ 0xa0000091 ∷ 0xa00000a1 ∷ []))
    × (first opened ≡ accepted (0x70100007 ∷ 0x80000001 ∷ 0x90000000 ∷ 0xa00000a1 ∷ 0x90000001 ∷ 0xa00000a1 ∷ 0x80000002 ∷ []))
    × (first relinked ≡ accepted (0x70100006 ∷ 0x80000001 ∷ 0x90000000 ∷ 0xa00000b1 ∷ 0x90000001 ∷ 0xa00000b1 ∷ []))
unfolding flatten closure step_in reached reported door_words first_reply first_reply_call
others-told = (refl, refl, refl, refl, refl)

-- Calls. One of node 4 names no node of right, and a node of left that is not reached; one of node 3 names a node of both that is reached, and no door
abbrev pub call4 : List ℕ
call4 = 0xb0100002 ∷ 0xc0000040 ∷ []

abbrev pub call3 : List ℕ
call3 = 0xb0100002 ∷ 0xc0000030 ∷ []

pub calls-told :
    (NamesReached right call4 × (second left call4 ≡ refused 14) × (second right call4 ≡ accepted (0xd0100001 ∷ [])))
    × (NamesReached left call3 × NamesReached right call3 × (second left call3 ≡ refused 14) × (second right call3 ≡ refused 14))
unfolding flatten closure step_in reached answers second_reply second_reply_call
calls-told = (
  (names_computed right theirs refl call4 tt, refl, refl),
  (names_computed left theirs refl call3 tt, names_computed right theirs refl call3 tt, refl, refl),
)

-- In the whole question the hub's call list names, of each part, doors alone: a hub that keeps to its own call never asks of an unreached node
pub question_names : (q : Asked) (u : Put q) → ((f : List ℕ) → Mem f q.parts → length (first_of q f) ≤ 4096)
    → (f : List ℕ) → Mem f q.parts → NamesReached f (list q u)
question_names q u short f m w k kind n =
    let named = (called_iff (drop 1 f) (drop 1 (list q u)) (pair_of w)).1 (Memᴰ.map pair_of k, n) in
    let called = ((home.called_iff q (first_replies q u short) f (pair_of w)).0 named).0 in
    seed (called_door q.plant q.parts q.cut q.one_root (home.e q) (home.small q) called f m n)
