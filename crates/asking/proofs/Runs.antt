-- A trip by its bundle, and the question by its two trips.
use mathlib.Core.Path.{◌≡◌, refl, sym, ap, ◌∙◌}
use mathlib.Core.Logic.{inl, inr}
use mathlib.Core.List.{List, flatten}
use Prim.Native.Nat.{ℕ}
use Rattle.bundles.specs.declared.bundle.Trip.{Trip}
use Rattle.bundles.specs.declared.bundle.Trip.TheVariants.{First, Second}
use Rattle.demands.specs.Question.{Asking, stopped, going, Answer, each, ask, ◌>>=◌}
use Rattle.asking.specs.Run.{said, slot, site_asked, hub_asked, bundled, round_trip, rooms, answer}
use Rattle.asking.proofs.Handing.{ended, went_on}

-- a trip; n' and m' are n and m as the hub's contract has them
module _ (trip : Trip) (path list : List ℕ) (n m : ℕ) (parts : List (List ℕ)) where
  pub round_ended : (k : ℕ) → inl k ≡ said (bundled (site_asked trip path list slot m) parts) → inl k ≡ said (round_trip trip path list n m parts)
  unfolding round_trip
  round_ended = ended (bundled (site_asked trip path list slot m) parts) (hub_asked trip n m)

  pub round_went_on : (bytes : List ℕ) → inr bytes ≡ said (bundled (site_asked trip path list slot m) parts) → (n' m' : ℕ) → n' ≡ n → m' ≡ m
      → said (hub_asked trip n' m' bytes) ≡ said (round_trip trip path list n m parts)
  unfolding round_trip
  round_went_on bytes t n' m' p q = rw (p, q) (went_on (bundled (site_asked trip path list slot m) parts) (hub_asked trip n m) bytes t)

-- for any calls in the place of the question's
module _ (list : List ℕ → Asking (List ℕ)) (seconds : List ℕ → Asking (List (List ℕ))) (join : List ℕ → Asking (List ℕ)) where
  abbrev flat : Asking (List (List ℕ)) → Asking (List ℕ)
  flat a = a >>= (λ files. going (flatten files))

  joined : (files : List (List ℕ)) (a : Asking (List ℕ))
      → (a >>= (λ final. going (record { seconds = files; final = final })) >>= (λ (x : Answer). going x.final)) ≡ a
  joined files (stopped by k) = refl
  joined files (going bytes) = refl

  replied : (a : Asking (List (List ℕ)))
      → (a >>= (λ files. join (flatten files) >>= (λ final. going (record { seconds = files; final = final }))) >>= (λ (x : Answer). going x.final))
      ≡ (flat a >>= join)
  replied (stopped by k) = refl
  replied (going files) = joined files (join (flatten files))

  called : (a : Asking (List ℕ))
      → (a >>= (λ l. seconds l >>= (λ files. join (flatten files) >>= (λ final. going (record { seconds = files; final = final })))) >>= (λ (x : Answer). going x.final))
      ≡ (a >>= (λ l. flat (seconds l) >>= join))
  called (stopped by k) = refl
  called (going l) = replied (seconds l)

  begun : (a : Asking (List (List ℕ)))
      → (a >>= (λ firsts. list (flatten firsts) >>= (λ l. seconds l >>= (λ files. join (flatten files) >>= (λ final. going (record { seconds = files; final = final })))))
      >>= (λ (x : Answer). going x.final))
      ≡ (flat a >>= list >>= (λ l. flat (seconds l) >>= join))
  begun (stopped by k) = refl
  begun (going firsts) = called (list (flatten firsts))

-- the first trip is the same whatever list it is lent
two_trips : (path : List ℕ) (n m : ℕ) (parts : List (List ℕ)) (none : List ℕ)
    → (round_trip First path none n m parts >>= (λ list. round_trip Second path list n m parts)) ≡ answer (rooms n m) path parts
unfolding answer ask round_trip site_asked hub_asked
two_trips path n m parts none =
    sym (begun (hub_asked First n m) (λ l. each (site_asked Second path l slot m) parts) (hub_asked Second n m) (each (site_asked First path none slot m) parts))

-- the question; n' and m' are n and m as the second trip's contract has them
module _ (path none : List ℕ) (n m : ℕ) (parts : List (List ℕ)) where
  pub ask_ended : (k : ℕ) → inl k ≡ said (round_trip First path none n m parts) → inl k ≡ said (answer (rooms n m) path parts)
  ask_ended k t =
      ended (round_trip First path none n m parts) (λ list. round_trip Second path list n m parts) k t ∙ ap said (two_trips path n m parts none)

  pub ask_went_on : (list : List ℕ) → inr list ≡ said (round_trip First path none n m parts) → (n' m' : ℕ) → n' ≡ n → m' ≡ m
      → said (round_trip Second path list n' m' parts) ≡ said (answer (rooms n m) path parts)
  ask_went_on list t n' m' p q =
      rw (p, q)
      (went_on (round_trip First path none n m parts) (λ list. round_trip Second path list n m parts) list t
      ∙ ap said (two_trips path n m parts none))
