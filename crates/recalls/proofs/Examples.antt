-- Examples by computation: document 01's W and P, ties of links and of states, a stopped node, and walks of other makers. Assumes nothing.
use mathlib.Core.Path.{◌≡◌, refl}
use mathlib.Core.Bool.{true, false}
use mathlib.Core.List.{List, [], ◌∷◌, flatten}
use mathlib.Core.Option.{some}
use Prim.Native.Nat.{ℕ}
use Rattle.sets.specs.States.{members}
use Rattle.files.specs.Word.{bytes_of}
use Rattle.files.specs.Outcome.{accepted, refused, zeros, left, left_lent}
use Rattle.best_walks.specs.Finder.{choose, pairs, back, levels, arrived, find}
use Rattle.walk_find.specs.Walk.{found_walk, walk_call}
use Rattle.walk_check.specs.Checker.{goes, check}
use Rattle.walk_check.specs.Check.{says_yes, check_walk_call, leaves_checked}

-- W: 1 -5- 2 -6- 3 -5- 2, root 1. P: 5 then (6 then 5)*
abbrev W : List ℕ
W = 0x10000007 ∷ 0x20030001 ∷ 0x30050002 ∷ 0x20000002 ∷ 0x30060003 ∷ 0x20000003 ∷ 0x30050002 ∷ []

abbrev P : List ℕ
P = 0x40300007 ∷ 0x50005005 ∷ 0x50006006 ∷ 0x50005005 ∷ 0x60000001 ∷ 0x60000003 ∷ 0x60000001 ∷ []

call_2 : walk_call 16384 32768 (bytes_of W) (bytes_of P) 2 ≡ accepted (0x00000002 ∷ 0x30050002 ∷ [])
unfolding walk_call found_walk find choose pairs back levels arrived members flatten
call_2 = refl

-- a node that is not listed, and a number that is no node's
call_20 : walk_call 16384 32768 (bytes_of W) (bytes_of P) 3 ≡ refused 20
unfolding walk_call found_walk find choose pairs back levels arrived members flatten
call_20 = refl

no_node : walk_call 16384 32768 (bytes_of W) (bytes_of P) 65538 ≡ refused 20
unfolding walk_call found_walk find choose pairs back levels arrived members flatten
no_node = refl

-- the empty word: the root by no link
empty_walk : walk_call 16384 32768 (bytes_of W) (bytes_of (0x40000002 ∷ 0x60000000 ∷ [])) 1 ≡ accepted (0x00000001 ∷ [])
unfolding walk_call found_walk find choose pairs back levels arrived members flatten
empty_walk = refl

-- 5 then 6 then 5: a node is passed twice, in two states
abbrev long : List ℕ
long = 0x40300006 ∷ 0x50005005 ∷ 0x50006006 ∷ 0x60000001 ∷ 0x50005005 ∷ 0x60000001 ∷ []

around : found_walk W long 2 ≡ some (0x30050002 ∷ 0x30060003 ∷ 0x30050002 ∷ [])
unfolding found_walk find choose pairs back levels arrived members flatten
around = refl

-- a walk of another maker is longer, and is accepted
other_maker : leaves_checked 32768 (bytes_of W) (bytes_of P) 2 (bytes_of (0x00000004 ∷ 0x30050002 ∷ 0x30060003 ∷ 0x30050002 ∷ [])) ≡ left_lent 1 (left 0 [] (zeros 32768))
unfolding check_walk_call says_yes check goes members
other_maker = refl

-- a header that is not just its own count, by the length or by another bit, a wrong end, a link that is not there, and bytes not in fours are not
wrong_count : says_yes W P 2 (bytes_of (0x00000003 ∷ 0x30050002 ∷ [])) ≡ false
unfolding says_yes check goes members
wrong_count = refl

wrong_header : says_yes W P 2 (bytes_of (0x00004002 ∷ 0x30050002 ∷ [])) ≡ false
unfolding says_yes check goes members
wrong_header = refl

wrong_end : says_yes W P 3 (bytes_of (0x00000002 ∷ 0x30050002 ∷ [])) ≡ false
unfolding says_yes check goes members
wrong_end = refl

no_link : says_yes W P 3 (bytes_of (0x00000002 ∷ 0x30050003 ∷ [])) ≡ false
unfolding says_yes check goes members
no_link = refl

not_in_fours : says_yes W P 2 (2 ∷ 0 ∷ 0 ∷ []) ≡ false
unfolding says_yes check goes members
not_in_fours = refl

-- the last two links of W, from node 2 as a door: not from the root
abbrev doors : List ℕ
doors = 0x10000007 ∷ 0x20030001 ∷ 0x30050002 ∷ 0x20010002 ∷ 0x30060003 ∷ 0x20000003 ∷ 0x30050002 ∷ []

from_a_door : says_yes doors (0x40200004 ∷ 0x50006006 ∷ 0x50005005 ∷ 0x60000001 ∷ []) 2 (bytes_of (0x00000003 ∷ 0x30060003 ∷ 0x30050002 ∷ [])) ≡ false
unfolding says_yes check goes members
from_a_door = refl

-- A tie of links: 1 -5- 2 -9- 4 and 1 -5- 3 -6- 4. The first difference decides, though the second link of the other walk is lower
abbrev fork : List ℕ
fork = 0x10000009 ∷ 0x20030001 ∷ 0x30050002 ∷ 0x30050003 ∷ 0x20000002 ∷ 0x30090004 ∷ 0x20000003 ∷ 0x30060004 ∷ 0x20000004 ∷ []

-- any label, then any label
abbrev two : List ℕ
two = 0x40200004 ∷ 0x50fff000 ∷ 0x50fff000 ∷ 0x60000001 ∷ []

tie : found_walk fork two 4 ≡ some (0x30050002 ∷ 0x30090004 ∷ [])
unfolding found_walk find choose pairs back levels arrived members flatten
tie = refl

not_the_best : says_yes fork two 4 (bytes_of (0x00000003 ∷ 0x30050003 ∷ 0x30060004 ∷ [])) ≡ true
unfolding says_yes check goes members
not_the_best = refl

-- with node 2 stopped the other is the best, and the first is no walk
abbrev halted : List ℕ
halted = 0x10000009 ∷ 0x20030001 ∷ 0x30050002 ∷ 0x30050003 ∷ 0x20040002 ∷ 0x30090004 ∷ 0x20000003 ∷ 0x30060004 ∷ 0x20000004 ∷ []

stopped : found_walk halted two 4 ≡ some (0x30050003 ∷ 0x30060004 ∷ [])
unfolding found_walk find choose pairs back levels arrived members flatten
stopped = refl

through_stopped : says_yes halted two 4 (bytes_of (0x00000003 ∷ 0x30050002 ∷ 0x30090004 ∷ [])) ≡ false
unfolding says_yes check goes members
through_stopped = refl

-- A tie of states: 5 then 6, or 5 then 7. Behind the link 5 the walk is in states 1 and 3 at once. Node 2 goes on by 7 alone, from state 3: who
-- kept the lowest state would have nothing
abbrev branch : List ℕ
branch = 0x40400008 ∷ 0x50005005 ∷ 0x50006006 ∷ 0x60000001 ∷ 0x50005005 ∷ 0x50007007 ∷ 0x60000001 ∷ 0x60000002 ∷ []

abbrev line : List ℕ
line = 0x10000006 ∷ 0x20030001 ∷ 0x30050002 ∷ 0x20000002 ∷ 0x30070003 ∷ 0x20000003 ∷ []

state_tie : found_walk line branch 3 ≡ some (0x30050002 ∷ 0x30070003 ∷ [])
unfolding found_walk find choose pairs back levels arrived members flatten
state_tie = refl

-- 7 then 6, or 5 then 5: two walks by different states, and the lower word wins, not the lower state
abbrev crossed : List ℕ
crossed = 0x40400008 ∷ 0x50007007 ∷ 0x50006006 ∷ 0x60000001 ∷ 0x50005005 ∷ 0x50005005 ∷ 0x60000001 ∷ 0x60000002 ∷ []

abbrev both_ways : List ℕ
both_ways = 0x10000007 ∷ 0x20030001 ∷ 0x30050002 ∷ 0x30070002 ∷ 0x20000002 ∷ 0x30050001 ∷ 0x30060001 ∷ []

lower_word : found_walk both_ways crossed 1 ≡ some (0x30050002 ∷ 0x30050001 ∷ [])
unfolding found_walk find choose pairs back levels arrived members flatten
lower_word = refl
