-- Inner. The positions of an expression with the labels that each reads.
use Rattle.std.specs.Prelude.{◌≡◌, Bool, false, ◌&&◌, ◌||◌, List, ℕ, ◌+◌, ◌<◌, eqb, length, get_or, set}
use Rattle.sets.specs.States.{has_state}
use Rattle.labels.specs.declared.interval.Interval.{Interval}
use Rattle.labels.specs.declared.interval.LabelSet.{LabelSet}
use Rattle.paths.specs.declared.letters.Letters.{Letters}
use Rattle.expressions.specs.Labels.{between}
use Rattle.labels.specs.Interval.{contains, HeldBy}

-- the interval of position p
abbrev pub interval_at : Letters → ℕ → Interval
interval_at l p = get_or l.intervals p (record { low = 0; high = 0 })

-- the labels of position p
abbrev pub labels_at : Letters → ℕ → LabelSet
labels_at l p = record { interval = interval_at l p; outside = has_state l.outside p }

-- position p is there, and reads the label
abbrev pub reads : Letters → ℕ → ℕ → Bool
reads l label p = has_state l.positions p && contains (labels_at l p) label

-- r is l with one more position, which has the labels of s
pub record AddedLabel (l : Letters) (s : LabelSet) (r : Letters) : Type 0 where
  pub count : r.n ≡ l.n + 1
  pub has : (p : ℕ) → has_state r.positions p ≡ (has_state l.positions p || eqb p (l.n + 1))
  pub intervals : r.intervals ≡ set l.intervals (l.n + 1) s.interval
  pub sides : (p : ℕ) → has_state r.outside p ≡ (has_state l.outside p || s.outside && eqb p (l.n + 1))

-- the positions are those of the label words ws
pub record Labelled (l : Letters) (ws : List ℕ) : Type 0 where
  pub sixteen : length l.intervals ≡ 16
  pub count : l.n ≡ length ws
  pub has : (p : ℕ) → has_state l.positions p ≡ between 1 (length ws) p
  pub labels : (p : ℕ) → p < length ws → HeldBy (get_or ws p 0) (labels_at l (p + 1))
  pub sides : (p : ℕ) → length ws < p → has_state l.outside p ≡ false
