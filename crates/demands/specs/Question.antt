-- Believed. The whole question as the host asks it: the calls one after another, each file handed on at its length, the first refusal ends it.
-- Document 01, "The whole question". Everything here runs on bytes and on what the calls leave.
use Rattle.std.specs.Prelude.{ℕ, zero, suc}
use mathlib.Core.List.{List, [], ◌∷◌, flatten}
use Rattle.files.specs.Outcome.{Outcome, Left, leaves}
use Rattle.path_bundles.specs.Split.{file_in}
use Rattle.hub_calls.specs.CallList.{call_list_call}
use Rattle.hub_join.specs.Join.{join_call}
use Rattle.demands.specs.Grouped.{Groups, first_call, second_call}

-- the bytes of a call's output and working buffer
pub record Buffers : Type 0 where
  pub out : ℕ
  pub work : ℕ

-- every call has its own; a site is known by its part
pub record Room : Type 0 where
  pub first : List ℕ → Buffers
  pub calls : Buffers
  pub second : List ℕ → Buffers
  pub join : Buffers

-- the calls of a question: a site's first and second reply, the hub's call list and joining
pub data Call : Type 0 where
  first : (part : List ℕ) → Call
  calls : Call
  second : (part : List ℕ) → Call
  join : Call

-- how far the question came: a call's refusal ended it, or it goes on
pub data Asking (A : Type 0) : Type 0 where
  stopped : (by : Call) (number : ℕ) → Asking A
  going : A → Asking A

infixl 10 ◌>>=◌
abbrev pub ◌>>=◌ : {A B : Type 0} → Asking A → (A → Asking B) → Asking B
stopped by k >>= f = stopped by k
going a >>= f = f a

-- a number that is not 0 ends the question; else the file is handed on, at the length that its header says
abbrev pub host : Call → ℕ → List ℕ → Asking (List ℕ)
host by zero output = going (file_in output)
host by (suc k) output = stopped by (suc k)

-- one call with its buffers, by what it leaves
abbrev pub call : Call → (ℕ → ℕ → Outcome) → Buffers → Asking (List ℕ)
call by outcome b =
    let l : Left = leaves (outcome b.out b.work) b.out b.work in
    host by l.number l.output

-- a call by each site in an order: their files
abbrev pub each : (List ℕ → Asking (List ℕ)) → List (List ℕ) → Asking (List (List ℕ))
each f [] = going []
each f (part ∷ parts) = do
  file ← f part
  files ← each f parts
  going (file ∷ files)

-- what a question ends with: the second replies and the joined list
pub record Answer : Type 0 where
  pub seconds : List (List ℕ)
  pub final : List ℕ

-- the whole question, asked with some groups, from the parts' bytes in two orders
unfoldable pub ask : Groups → Room → List ℕ → List (List ℕ) → List (List ℕ) → Asking Answer
ask groups room path order order' = do
  firsts ← each (λ part. call (first part) (λ n m. first_call groups n m part path) (room.first part)) order
  list ← call calls (λ n m. call_list_call n m (flatten firsts)) room.calls
  seconds ← each (λ part. call (second part) (λ n m. second_call groups n m part path list) (room.second part)) order'
  final ← call join (λ n m. join_call n m (flatten seconds)) room.join
  going (record { seconds = seconds; final = final })
