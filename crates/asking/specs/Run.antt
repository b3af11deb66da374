-- Inner. What calls and trips hand on, by the run of the question (`demands`, `specs/Question.antt`).
use Rattle.std.specs.Prelude.{ℕ, zero, suc, ◌*◌, ◌⊎◌, take, drop, Result, Ok, Err}
use Rattle.std.proofs.Common.{inl, inr}
use mathlib.Core.List.{List, map, flatten}
use Rattle.sets.specs.States.{states_of}
use Rattle.bundles.specs.declared.bundle.Trip.{Trip}
use Rattle.bundles.specs.declared.bundle.Trip.TheVariants.{First, Second}
use Rattle.path_bundles.specs.Split.{file_in}
use Rattle.demands.specs.Grouped.{ours}
use Rattle.demands.specs.Question.{Buffers, Room, Call, Asking, stopped, going, first, calls, second, join, call, each, ask, ◌>>=◌}
use Rattle.trips.specs.Calls.{site_call, hub_call}

-- the number of a refusal, or bytes that are handed on
abbrev pub Said : Type 0
Said = ℕ ⊎ List ℕ

-- what is said by the number of a refusal, or by how many bytes at the front of an output are handed on
abbrev pub told : Result ℕ ℕ → List ℕ → Said
told (Ok end) out = inr (take end out)
told (Err k) out = inl k

-- what is said by a call's number and output: where the number is 0, the file
abbrev pub handed : ℕ → List ℕ → Said
handed zero out = inr (file_in out)
handed (suc k) out = inl (suc k)

-- what is said where the question came so far
abbrev pub said : Asking (List ℕ) → Said
said (stopped by k) = inl k
said (going bytes) = inr bytes

abbrev pub buffers : ℕ → ℕ → Buffers
buffers n m = record { out = n; work = m }

-- the bytes of an output for a part or a reply
abbrev pub slot : ℕ
slot = 16384

-- a slot for each of sixteen sites
abbrev pub slots : ℕ
slots = 262144

-- the question's name of a site's call
abbrev pub site_name : Trip → List ℕ → Call
site_name First part = first part
site_name Second part = second part

-- the question's name of the hub's call
abbrev pub hub_name : Trip → Call
hub_name First = calls
hub_name Second = join

-- a site's call with n output and m working bytes
unfoldable pub site_asked : Trip → List ℕ → List ℕ → ℕ → ℕ → List ℕ → Asking (List ℕ)
site_asked trip path list n m part = call (site_name trip part) (site_call trip path list part) (buffers n m)

-- the hub's call with n output and m working bytes
unfoldable pub hub_asked : Trip → ℕ → ℕ → List ℕ → Asking (List ℕ)
hub_asked trip n m bundle = call (hub_name trip) (hub_call trip bundle) (buffers n m)

-- a bundle: the files of the sites one after another
abbrev pub bundled : (List ℕ → Asking (List ℕ)) → List (List ℕ) → Asking (List ℕ)
bundled f parts = each f parts >>= (λ files. going (flatten files))

-- a trip: the sites' replies in a bundle, and the hub's list of them
unfoldable pub round_trip : Trip → List ℕ → List ℕ → ℕ → ℕ → List (List ℕ) → Asking (List ℕ)
round_trip trip path list n m parts = bundled (site_asked trip path list slot m) parts >>= hub_asked trip n m

-- a site's part, in the site's place among the parts
abbrev pub part_in : List ℕ → ℕ → List ℕ
part_in parts site = file_in (take slot (drop (site * slot) parts))

-- the parts of a set of sites, ascending by site
abbrev pub parts_in : List ℕ → ℕ → List (List ℕ)
parts_in parts sites = map (part_in parts) (states_of sites)

-- n output bytes of the call list and of the final list, and m working bytes of every call
abbrev pub rooms : ℕ → ℕ → Room
rooms n m = record { first = λ part. buffers slot m; calls = buffers n m; second = λ part. buffers slot m; join = buffers n m }

-- the final list of the question, whose sites answer in one order both times
unfoldable pub answer : Room → List ℕ → List (List ℕ) → Asking (List ℕ)
answer room path parts = ask ours room path parts parts >>= (λ a. going a.final)
