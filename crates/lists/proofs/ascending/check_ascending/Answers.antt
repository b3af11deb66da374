-- `lists::ascending::check_ascending` meets its contract.
-- Assumes nothing.
use mathlib.Core.Path.{◌≡◌, refl, ◌∙◌}
use mathlib.Core.List.{List}
use Prim.Native.Nat.{ℕ}
use Rattle.lists.specs.declared.ascending.Reader.{Reader}
use Rattle.files.specs.Scan.{in_order, scan_words, scan_ordered}
use Rattle.files.proofs.Scans.{scan_kept}
use Rattle.lists.proofs.ascending.check_ascending.Goals as goal

kept : {L : Type 0} (alone : L → ℕ → ℕ) (listed : L) (ws : List ℕ)
    → scan_words (λ (r : Reader L) w. in_order (alone r.listed) r.last w) (λ r w. record { listed = r.listed; last = w }) (λ r. 0)
    (record { listed = listed; last = 0 }) ws
    ≡ scan_ordered (alone listed) 0 ws
kept alone listed =
    scan_kept (in_order (alone listed)) (λ last w. w) (λ last. 0) _ _ _ (λ last. record { listed = listed; last = last }) (λ last w. refl)
    (λ last w. refl) (λ last. refl) 0

pub returns : goal.returns
returns g c = c.scan.ensures ∙ kept g.L.Listed.alone c.args.listed _ ∙ rw c.body.ensures
