-- Which labels a label word holds, by its interval and its side. Assumes nothing.
use mathlib.Core.Path.{◌≡◌, sym, ap, ◌∙◌}
use mathlib.Core.Logic.{◌⊎◌, inl, inr}
use mathlib.Core.Bool.{true, false, and-false}
use mathlib.Core.List.{List}
use Prim.Native.Nat.{ℕ, ◌≤◌}
use lib.ListN.{length, get_or, get_or-eq_default}
use Rattle.sets.proofs.Tests.{either, passed, or_iff, eq_iff}
use Rattle.files.specs.Path.{is_label, sort_of, low_of, high_of, has_ends, label_check}
use Rattle.files.specs.Groups.{load, Ranges}
use Rattle.files.specs.Expr.{label_at}
use Rattle.files.specs.declared.expr.Label.{Label}
use Rattle.files.specs.declared.expr.Label.TheVariants.{Group}
use Rattle.files.proofs.Checks.{checks}
use Rattle.expressions.specs.Labels.{holds_by}
use Rattle.expressions.proofs.Loading.{load_holds}
use Rattle.labels.specs.declared.interval.Interval.{Interval}
use Rattle.labels.specs.declared.interval.LabelSet.{LabelSet}
use Rattle.labels.specs.Interval.{contains, group_interval, label_set, HeldBy}

-- for the proof of `group`: its word, and no word past the last
pub group_ends : (groups : List ℕ) (g : ℕ) {w a b : ℕ} → w ≡ get_or groups g 0 → a ≡ low_of w → b ≡ high_of w → ◌≡◌ {A = Interval} (record { low = a; high = b }) (group_interval groups g)
group_ends groups g e p q = rw (p, q, e)

pub no_group : (groups : List ℕ) (g : ℕ) → length groups ≤ g → ◌≡◌ {A = Interval} (record { low = 0; high = 0 }) (group_interval groups g)
no_group groups g h = rw (get_or-eq_default groups 0 h)

-- an accepted label word is of one of three sorts
sorts : (w : ℕ) → label_check w ≡ 0 → (sort_of w ≡ 0) ⊎ (sort_of w ≡ 2) ⊎ (sort_of w ≡ 1)
sorts w c = elim (either (has_ends w)) [
  | inl h ↦ elim (simp or_iff at (passed h)) [ inl e ↦ inl ((eq_iff (sort_of w) 0).0 e) | inr e ↦ inr (inl ((eq_iff (sort_of w) 2).0 e)) ]
  | inr n ↦ let k = simp checks at (rw n at c) in inr (inr k.0)
]

module _ (groups : List ℕ) where
  -- for the proof of `resolve`: l is the case k
  pub case_set : {l k : Label} {s : LabelSet} → l ≡ k → s ≡ label_set groups k → s ≡ label_set groups l
  case_set e f = f ∙ ap (label_set groups) (sym e)

  pub group_set : {l : Label} {g : ℕ} {i : Interval} → l ≡ Group g → i ≡ group_interval groups g → record { interval = i; outside = false } ≡ label_set groups l
  group_set e f = case_set e (rw f)

  -- a label word holds the labels of its set
  pub holds_contains : (w label : ℕ) → is_label w ≡ true → label_check w ≡ 0 → contains (label_set groups (label_at w)) label ≡ holds_by groups w label
  holds_contains w label t c = elim (sorts w c) [ inl e ↦ rw (e, and-false) | inr (inl e) ↦ rw (e, and-false) | inr (inr e) ↦ rw (e, t) ]

  -- and with the groups loaded, those of the word that stands for it
  pub resolved : Ranges groups → (w : ℕ) {l : Label} {s : LabelSet} → is_label w ≡ true → label_check w ≡ 0 → l ≡ label_at w → s ≡ label_set groups l → HeldBy (load groups w) s
  resolved r w t c e f = record { same = λ label. ap (λ x. contains x label) (f ∙ ap (label_set groups) e) ∙ holds_contains w label t c ∙ sym (load_holds groups r w label) }
