-- `readers::part::check_part` meets its contract.
-- Assumes nothing.
use mathlib.Core.Path.{◌≡◌, refl}
use mathlib.Core.List.{List}
use Prim.Native.Nat.{ℕ}
use borrow.Author.Rules.{rules}
use Rattle.readers.specs.declared.part.Reader.{Reader}
use Rattle.files.specs.Part.{start, next, word_check, scan}
use Rattle.files.specs.Scan.{scan_words}
use Rattle.files.proofs.Checks.{code_some}
use Rattle.files.proofs.Headers.{file_refused, file_passed}
use Rattle.files.proofs.Scans.{scan_kept}
use Rattle.readers.proofs.part.check_part.Goals as goal

kept : (ws : List ℕ)
    → scan_words (λ (r : Reader) w. word_check r.seen w) (λ r w. record { seen = next r.seen w }) (λ r. 0) (record { seen = start }) ws ≡ scan start ws
kept = scan_kept word_check next (λ st. 0) _ _ _ (λ st. record { seen = st }) (λ st w. refl) (λ st w. refl) (λ st. refl) start

pub returns-in_err-check_file : goal.returns-in_err-check_file
returns-in_err-check_file c = search (file_refused, code_some, rules)

pub returns : goal.returns
returns c = search (file_passed, kept, rules)
