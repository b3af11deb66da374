-- The host's part of the question: an accepted call's file is handed on as it was written; a refusal ends the question. Assumes nothing.
use mathlib.Core.Path.{◌≡◌, refl, sym, ◌∙◌, ap}
use mathlib.Core.List.{List, [], ◌∷◌, map, flatten}
use Prim.Native.Nat.{ℕ, zero, suc, ◌-◌, ◌*◌}
use native.Mathlib.Omega.{arith}
use lib.ListN.{length}
use Rattle.sets.specs.Sets.{Mem, here, there}
use Rattle.files.specs.Word.{bytes_of}
use Rattle.files.specs.Outcome.{Outcome, refused, accepted, leaves, zeros}
use Rattle.hub_calls.specs.CallList.{call_list_call}
use Rattle.hub_join.specs.Join.{join_call}
use Rattle.demands.specs.Grouped.{Groups, first_call, second_call}
use Rattle.path_bundles.proofs.Sized.{Sized, sized_file}
use Rattle.demands.specs.Question.{Buffers, Room, Call, first, calls, second, join, Asking, stopped, going, ◌>>=◌, host, call, each, Answer, ask}

module _ (by : Call) (o : ℕ → ℕ → Outcome) (b : Buffers) where
  abbrev seen : Outcome → Asking (List ℕ)
  seen x = host by (leaves x b.out b.work).number (leaves x b.out b.work).output

  pub call_gives : (f : List ℕ) → Sized f → o b.out b.work ≡ accepted f → call by o b ≡ going (bytes_of f)
  call_gives f s e = ap seen e ∙ ap going (sized_file f (zeros (b.out - 4 * length f)) s)

  pub call_refuses : (k : ℕ) → o b.out b.work ≡ refused (suc k) → call by o b ≡ stopped by (suc k)
  call_refuses k e = ap seen e

-- the sites' calls, where each gives its file
pub each_gives : {A : Type 0} (ask : List ℕ → Asking (List ℕ)) (of write : A → List ℕ) (fs : List A)
    → ((f : A) → Mem f fs → ask (of f) ≡ going (write f)) → each ask (map of fs) ≡ going (map write fs)
each_gives ask of write [] h = refl
each_gives ask of write (f ∷ fs) h =
    ap (λ x. x >>= (λ r. each ask (map of fs) >>= (λ rs. going (r ∷ rs)))) (h f (here refl))
    ∙ ap (λ x. x >>= (λ rs. going (write f ∷ rs))) (each_gives ask of write fs (λ g m. h g (there m)))

-- the sites' calls, where one is refused behind others that each gave its file: it ends the question
module _ {A : Type 0} (ask : List ℕ → Asking (List ℕ)) (of : A → List ℕ) (f : A) (fs : List A) where
  rest : Asking (List ℕ) → Asking (List (List ℕ))
  rest x = x >>= (λ r. each ask (map of fs) >>= (λ rs. going (r ∷ rs)))

  pub stops_here : (c : Call) (k : ℕ) → ask (of f) ≡ stopped c k → each ask (map of (f ∷ fs)) ≡ stopped c k
  unfolding rest
  stops_here c k e = ap rest e

  pub stops_later : (r : List ℕ) (c : Call) (k : ℕ) → ask (of f) ≡ going r → each ask (map of fs) ≡ stopped c k → each ask (map of (f ∷ fs)) ≡ stopped c k
  unfolding rest
  stops_later r c k e s = ap rest e ∙ ap (λ x. x >>= (λ rs. going (r ∷ rs))) s

-- A question that goes on, taken apart: each of its calls has number 0

pub stopped_going : {A : Type 0} {c : Call} {k : ℕ} {a : A} → stopped c k ≡ going a → ⊥
stopped_going e = let z : ◌≡◌ {A = ℕ} 0 1 = cc in omega arith

pub going_same : {A : Type 0} {a b : A} → going a ≡ going b → a ≡ b
going_same e = cc

pub bind_going : {A B : Type 0} (x : Asking A) (f : A → Asking B) (b : B) → (x >>= f) ≡ going b → (a : A) × (x ≡ going a) × (f a ≡ going b)
bind_going (stopped c k) f b e = absurd (stopped_going e)
bind_going (going a) f b e = (a, refl, e)

pub each_going : (ask : List ℕ → Asking (List ℕ)) (parts files : List (List ℕ)) → each ask parts ≡ going files
    → (part : List ℕ) → Mem part parts → (f : List ℕ) × (ask part ≡ going f)
each_going ask (p ∷ parts) files e part (here q) = let (f, i, k) = bind_going (ask p) _ files e in (f, ap ask q ∙ i)
each_going ask (p ∷ parts) files e part (there m) =
    let (f, i, k) = bind_going (ask p) _ files e in
    let (fs, j, l) = bind_going (each ask parts) _ files k in
    each_going ask parts fs j part m
each_going ask [] files e part x'' = elim x'' [ ]

host_zero : (by : Call) (k : ℕ) (output f : List ℕ) → host by k output ≡ going f → k ≡ 0
host_zero by zero output f e = refl
host_zero by (suc k) output f e = absurd (stopped_going e)

pub call_zero : (by : Call) (o : ℕ → ℕ → Outcome) (b : Buffers) (f : List ℕ) → call by o b ≡ going f → (leaves (o b.out b.work) b.out b.work).number ≡ 0
call_zero by o b f e = host_zero by (leaves (o b.out b.work) b.out b.work).number _ f e

-- The calls of the whole question, as the host makes them

module _ (groups : Groups) (room : Room) (path : List ℕ) where
  abbrev pub ask_first : List ℕ → Asking (List ℕ)
  ask_first part = call (first part) (λ n m. first_call groups n m part path) (room.first part)

  abbrev pub ask_hub : List ℕ → Asking (List ℕ)
  ask_hub bundle = call calls (λ n m. call_list_call n m bundle) room.calls

  abbrev pub ask_second : List ℕ → List ℕ → Asking (List ℕ)
  ask_second list part = call (second part) (λ n m. second_call groups n m part path list) (room.second part)

  abbrev pub ask_join : List ℕ → Asking (List ℕ)
  ask_join bundle = call join (λ n m. join_call n m bundle) room.join

  -- the question after the first bundle, after the call list, and after the second bundle
  abbrev pub after_seconds : List (List ℕ) → Asking Answer
  after_seconds seconds = ask_join (flatten seconds) >>= (λ final. going (record { seconds = seconds; final = final }))

  abbrev pub after_list : List (List ℕ) → List ℕ → Asking Answer
  after_list order' list = each (ask_second list) order' >>= after_seconds

  abbrev pub after_firsts : List (List ℕ) → List (List ℕ) → Asking Answer
  after_firsts order' firsts = ask_hub (flatten firsts) >>= after_list order'

  pub ask_is : (order order' : List (List ℕ)) → ask groups room path order order' ≡ (each ask_first order >>= after_firsts order')
  unfolding ask
  ask_is order order' = refl

-- a call with these buffers has number 0
abbrev pub Zero : (ℕ → ℕ → Outcome) → Buffers → Type 0
Zero o b = (leaves (o b.out b.work) b.out b.work).number ≡ 0

-- the calls of a question that goes to its end, by what they were handed: bundles and list, whatever they are
pub record AllZero (groups : Groups) (room : Room) (path : List ℕ) (order order' : List (List ℕ)) : Type 0 where
  pub first_bundle : List ℕ
  pub call_list_lem : List ℕ
  pub second_bundle : List ℕ
  pub first_zero : (part : List ℕ) → Mem part order → Zero (λ n m. first_call groups n m part path) (room.first part)
  pub calls_zero : Zero (λ n m. call_list_call n m first_bundle) room.calls
  pub second_zero : (part : List ℕ) → Mem part order' → Zero (λ n m. second_call groups n m part path call_list_lem) (room.second part)
  pub join_zero : Zero (λ n m. join_call n m second_bundle) room.join

pub all_zero : (groups : Groups) (room : Room) (path : List ℕ) (order order' : List (List ℕ)) (answer : Answer)
    → ask groups room path order order' ≡ going answer → AllZero groups room path order order'
all_zero groups room path order order' answer run =
    let (fs, a, x) = bind_going (each (ask_first groups room path) order) _ answer (sym (ask_is groups room path order order') ∙ run) in
    let (l, b, y) = bind_going (ask_hub groups room path (flatten fs)) _ answer x in
    let (ss, c, z) = bind_going (each (ask_second groups room path l) order') _ answer y in
    let (f, d, end) = bind_going (ask_join groups room path (flatten ss)) _ answer z in
    record {
      first_bundle = flatten fs;
      call_list_lem = l;
      second_bundle = flatten ss;
      first_zero = λ part m.
          let (r, e) = each_going (ask_first groups room path) order fs a part m in
          call_zero (first part) (λ n m. first_call groups n m part path) (room.first part) r e;
      calls_zero = call_zero calls (λ n m. call_list_call n m (flatten fs)) room.calls l b;
      second_zero = λ part m.
          let (r, e) = each_going (ask_second groups room path l) order' ss c part m in
          call_zero (second part) (λ n m. second_call groups n m part path l) (room.second part) r e;
      join_zero = call_zero join (λ n m. join_call n m (flatten ss)) room.join f d;
    }
