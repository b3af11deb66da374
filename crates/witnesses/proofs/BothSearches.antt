-- A question put to both searches of document 01's whole W, or of one with its nodes, for the rows of document 02's requests. Assumes nothing.
use mathlib.Core.Path.{◌≡◌}
use mathlib.Core.List.{List, [], ◌∷◌, map}
use Prim.Native.Nat.{ℕ, ◌+◌}
use Rattle.files.specs.Outcome.{accepted}
use Rattle.demands.specs.PlantOf.{parts_of}
use Rattle.demands.specs.Grouped.{Groups, ours, first_call, second_call, old_call}
use Rattle.demands.specs.Question.{Asking, Answer, going, stopped, ask}
use Rattle.table.specs.Table.{part0, part1, first0, first1, calls, second0, second1, b}
use Rattle.witnesses.proofs.Asked.{example_room}

-- a final list
abbrev pub none : List ℕ
none = 0xf0000001 ∷ []

abbrev pub only : ℕ → List ℕ
only x = 0xf0000002 ∷ (0xe0000000 + x) ∷ []

-- the joined list of a question that goes to its end
abbrev pub joined_list : Asking Answer → List ℕ
joined_list (going a) = a.final
joined_list (stopped by k) = []

-- a path that gives document 01's own files, both replies of both its sites
abbrev pub OwnFilesBy : Groups → List ℕ → Type 0
OwnFilesBy groups path =
    (first_call groups 16384 32768 (b part0) (b path) ≡ accepted first0)
    × (first_call groups 16384 32768 (b part1) (b path) ≡ accepted first1)
    × (second_call groups 16384 32768 (b part0) (b path) (b calls) ≡ accepted second0)
    × (second_call groups 16384 32768 (b part1) (b path) (b calls) ≡ accepted second1)

-- both searches give the list: the old one of the whole, the new one of the parts that the cutter makes of it
abbrev pub BothGiveBy : Groups → (whole cuts path list : List ℕ) → Type 0
BothGiveBy groups whole cuts path list =
    let parts = map b (parts_of whole cuts) in
    (old_call groups 32768 32768 (b whole) (b path) ≡ accepted list) × (joined_list (ask groups example_room (b path) parts parts) ≡ b list)

-- by the calls without groups
abbrev pub OwnFiles : List ℕ → Type 0
OwnFiles path = OwnFilesBy ours path

abbrev pub BothGive : (whole cuts path list : List ℕ) → Type 0
BothGive whole cuts path list = BothGiveBy ours whole cuts path list

-- the second node's site is another one, or all three are on one
abbrev pub apart : List ℕ
apart = 0 ∷ 1 ∷ 0 ∷ []

abbrev pub together : List ℕ
together = 0 ∷ 0 ∷ 0 ∷ []
