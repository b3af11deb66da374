-- A `Generator` with the number n: as a record, as a machine value, and that the one owns the other. For the walks. Assumes nothing.
use Rattle.std.proofs.Common.{ℕ, ◌^◌, ◌<◌, [], ◌∷◌, refl, w32}
use mir.Val.{Val, vint, vstruct, vnil, vcons}
use denote.RattleType.{RattleType}
use denote.Laws.{Is}
use denote.Struct.Laws as LL
use Rattle.draws.specs.declared.generator.Generator.{Generator}
use Rattle.draws.specs.contracts.generator.Generator as T
use Rattle.draws.proofs.generator.Generator.TheLaws as T'

abbrev pub R : RattleType
R = T.the_row

abbrev pub generator : ℕ → Generator
generator n = record { state = n }

abbrev pub machine : ℕ → Val
machine n = vstruct (vcons (vint w32 n) vnil)

pub made : (n : ℕ) → n < 2 ^ 32 → Is R (generator n) (machine n ∷ [])
made n fits = LL.owes T.the_type T'.the_laws (generator n) ((refl, fits), tt)
