-- Inner. The operands that wait, as a reader's state.
use Rattle.std.specs.Prelude.{ℕ}
use Rattle.queries.specs.declared.path.Waiting.{Waiting}
use Rattle.files.specs.Path.{waits}

abbrev pub waiting_after : Waiting → ℕ → Waiting
waiting_after s w = record { 0 = waits s.0 w }
