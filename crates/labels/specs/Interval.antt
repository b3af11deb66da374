-- Inner. The labels of a position: those of an interval, from a low to a high end, or those outside.
use Rattle.std.specs.Prelude.{ℕ, ◌≡◌, Bool, true, false, cond, not, List, get_or}
use Rattle.files.specs.Path.{low_of, high_of}
use Rattle.files.specs.declared.expr.Label.{Label}
use Rattle.files.specs.declared.expr.Label.TheVariants.{Range, Group, Outside}
use Rattle.labels.specs.declared.interval.Interval.{Interval}
use Rattle.labels.specs.declared.interval.LabelSet.{LabelSet}
use Rattle.expressions.specs.Labels.{between, holds}

abbrev pub within : Interval → ℕ → Bool
within i label = between i.low i.high label

abbrev pub contains : LabelSet → ℕ → Bool
contains s label = cond s.outside (not (within s.interval label)) (within s.interval label)

-- the interval of group g, by its range word
abbrev pub group_interval : List ℕ → ℕ → Interval
group_interval groups g = let w = get_or groups g 0 in record { low = low_of w; high = high_of w }

-- what a label word holds, by the groups
abbrev pub label_set : List ℕ → Label → LabelSet
label_set groups (Range low high) = record { interval = record { low = low; high = high }; outside = false }
label_set groups (Group g) = record { interval = group_interval groups g; outside = false }
label_set groups (Outside low high) = record { interval = record { low = low; high = high }; outside = true }

-- s has the labels that the label word w holds
pub record HeldBy (w : ℕ) (s : LabelSet) : Type 0 where
  pub same : (label : ℕ) → contains s label ≡ holds w label
