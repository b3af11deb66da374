-- `replies::reply::check_reply` meets its contract.
-- Assumes nothing.
use mathlib.Core.Path.{◌≡◌, refl}
use mathlib.Core.List.{List}
use Prim.Native.Nat.{ℕ}
use borrow.Author.Rules.{rules}
use Rattle.replies.specs.declared.reply.Reader.{Reader}
use Rattle.files.specs.Reply.{start, next, word_check, end_check, scan}
use Rattle.files.specs.Scan.{scan_words}
use Rattle.files.proofs.Scans.{scan_kept}
use Rattle.replies.proofs.reply.check_reply.Goals as goal

kept : (n : ℕ) (ws : List ℕ)
    → scan_words (λ (r : Reader) w. word_check r.n r.seen w) (λ r w. record { n = r.n; seen = next r.seen w }) (λ r. end_check r.seen)
    (record { n = n; seen = start }) ws
    ≡ scan n start ws
kept n = scan_kept (word_check n) next end_check _ _ _ (λ st. record { n = n; seen = st }) (λ st w. refl) (λ st w. refl) (λ st. refl) start

pub returns : goal.returns
returns c = search (kept, rules)
