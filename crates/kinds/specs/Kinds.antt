-- Inner. The words of a kind: all of them, or those with a bit. Bit 16 is the root's in a door word, bit 17 in a node word.
use Rattle.std.specs.Prelude.{ℕ, Bool, ◌&&◌, eqb}
use Rattle.kinds.specs.declared.count.Mark.{Mark}
use Rattle.kinds.specs.declared.count.Mark.TheVariants.{Any, Bit16, Bit17}
use Rattle.files.specs.Field.{bit, kind_of}

abbrev pub of_kind : ℕ → Mark → ℕ → Bool
of_kind k Any w = eqb (kind_of w) k
of_kind k Bit16 w = eqb (kind_of w) k && bit 16 w
of_kind k Bit17 w = eqb (kind_of w) k && bit 17 w
