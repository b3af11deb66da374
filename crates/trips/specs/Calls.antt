-- Inner. The calls of a trip. Document 01, "The whole question".
use Rattle.std.specs.Prelude.{ℕ, List}
use Rattle.files.specs.Outcome.{Outcome}
use Rattle.bundles.specs.declared.bundle.Trip.{Trip}
use Rattle.bundles.specs.declared.bundle.Trip.TheVariants.{First, Second}
use Rattle.site_first.specs.First.{first_reply_call}
use Rattle.site_second.specs.Second.{second_reply_call}
use Rattle.hub_calls.specs.CallList.{call_list_call}
use Rattle.hub_join.specs.Join.{join_call}

-- a site's call, by the path, the call list and the part
abbrev pub site_call : Trip → List ℕ → List ℕ → List ℕ → ℕ → ℕ → Outcome
site_call First path list part n m = first_reply_call n m part path
site_call Second path list part n m = second_reply_call n m part path list

-- the hub's call, by the bundle
abbrev pub hub_call : Trip → List ℕ → ℕ → ℕ → Outcome
hub_call First bundle n m = call_list_call n m bundle
hub_call Second bundle n m = join_call n m bundle
