-- Inner. Refusals by name, with their numbers. Document 01, "Numbered refusals".
use Rattle.std.specs.Prelude.{ℕ, Result, Ok, Err}
use Rattle.files.specs.declared.refusal.Refusal.{Refusal}
use Rattle.files.specs.declared.refusal.Refusal.TheVariants.{NoRoom, WrongSize, WrongHeader, WrongLength, WrongWord, NotAscending, WrongRoot, LostTarget, WrongOperands, StateTooHigh, WrongCounts, MixedReplies, NodeTwice, Stray, TooLong, WrongGroups, WrongFiles, WrongTriples, Unsaid, NoWalk, WrongDemands}

abbrev pub code : Refusal → ℕ
code NoRoom = 1
code WrongSize = 2
code WrongHeader = 3
code WrongLength = 4
code WrongWord = 5
code NotAscending = 6
code WrongRoot = 7
code LostTarget = 8
code WrongOperands = 9
code StateTooHigh = 10
code WrongCounts = 11
code MixedReplies = 12
code NodeTwice = 13
code Stray = 14
code TooLong = 15
code WrongGroups = 16
code WrongFiles = 17
code WrongTriples = 18
code Unsaid = 19
code NoWalk = 20
code WrongDemands = 21

-- what a check or a call comes to: 0 where it accepts, whatever it hands on
abbrev pub number : {T : Type 0} → Result T Refusal → ℕ
number (Ok x) = 0
number (Err e) = code e

-- so where the error is a number itself
abbrev pub told : {T : Type 0} → Result T ℕ → ℕ
told (Ok x) = 0
told (Err k) = k
