-- What a call hands on, by what it leaves.
use mathlib.Core.Path.{◌≡◌, refl, sym, ap, ◌∙◌}
use mathlib.Core.Logic.{inl, inr}
use mathlib.Core.List.{List}
use Prim.Native.Nat.{ℕ, zero, suc, ◌*◌}
use native.Mathlib.Omega.{arith}
use lib.ListN.{take, drop, length, get_or, take-append-drop}
use lib.Seq.{take-append_seam}
use Rattle.files.specs.Word.{words}
use Rattle.files.specs.Field.{size_of}
use Rattle.files.specs.Outcome.{Outcome, Left, left, leaves}
use Rattle.bundles.specs.declared.bundle.Trip.{Trip}
use Rattle.path_bundles.specs.Split.{file_in}
use Rattle.demands.specs.Question.{Call, Asking, stopped, going, call, host, ◌>>=◌}
use Rattle.trips.specs.Calls.{site_call, hub_call}
use Rattle.asking.specs.Run.{Said, handed, said, buffers, site_name, hub_name, site_asked, hub_asked}

pub handed_refused : (number : ℕ) (out : List ℕ) → (number ≡ 0 → ⊥) → inl number ≡ handed number out
handed_refused zero out n = absurd (n refl)
handed_refused (suc k) out n = refl

take_own : (k : ℕ) (out : List ℕ) → take (length (take k out)) out ≡ take k out
take_own k out =
    ap (λ (l : List ℕ). take (length (take k out)) l) (sym (take-append-drop k out)) ∙ take-append_seam (take k out) (drop k out)

pub handed_file : (number : ℕ) (out file : List ℕ) → number ≡ 0 → file ≡ file_in out → inr (take (length file) out) ≡ handed number out
handed_file zero out file z e = ap inr (rw e (take_own (4 * size_of (get_or (words out) 0 0)) out))
handed_file (suc k) out file z e = absurd (omega arith)

said_host : (by : Call) (number : ℕ) (out : List ℕ) → said (host by number out) ≡ handed number out
said_host by zero out = refl
said_host by (suc k) out = refl

-- a call's contract, as what is handed on
pub call_said : (by : Call) (f : ℕ → ℕ → Outcome) (n m : ℕ) (number : ℕ) (out work : List ℕ) → left number out work ≡ leaves (f n m) n m
    → handed number out ≡ said (call by f (buffers n m))
call_said by f n m number out work e =
    sym (said_host by number out) ∙ ap (λ (l : Left). said (host by l.number l.output)) e

pub site_said : (trip : Trip) (path list part : List ℕ) (n m number : ℕ) (out work : List ℕ)
    → left number out work ≡ leaves (site_call trip path list part n m) n m → handed number out ≡ said (site_asked trip path list n m part)
unfolding site_asked
site_said trip path list part = call_said (site_name trip part) (site_call trip path list part)

pub hub_said : (trip : Trip) (bundle : List ℕ) (n m number : ℕ) (out work : List ℕ)
    → left number out work ≡ leaves (hub_call trip bundle n m) n m → handed number out ≡ said (hub_asked trip n m bundle)
unfolding hub_asked
hub_said trip bundle = call_said (hub_name trip) (hub_call trip bundle)

-- a refusal ends it; else the bytes go on
abbrev on : Said → (List ℕ → Said) → Said
on (inl k) f = inl k
on (inr bytes) f = f bytes

said_on : (a : Asking (List ℕ)) (f : List ℕ → Asking (List ℕ)) → said (a >>= f) ≡ on (said a) (λ bytes. said (f bytes))
said_on (stopped by k) f = refl
said_on (going bytes) f = refl

-- what is handed on, by what was handed on before
module _ (a : Asking (List ℕ)) (f : List ℕ → Asking (List ℕ)) where
  pub ended : (k : ℕ) → inl k ≡ said a → inl k ≡ said (a >>= f)
  ended k t = sym (said_on a f ∙ rw (← t))

  pub went_on : (bytes : List ℕ) → inr bytes ≡ said a → said (f bytes) ≡ said (a >>= f)
  went_on bytes t = sym (said_on a f ∙ rw (← t))
