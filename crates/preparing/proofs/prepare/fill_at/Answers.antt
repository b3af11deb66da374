-- `prepare::fill_at` meets its contract. Assumes nothing.
use mathlib.Core.Path.{sym, ap, ◌∙◌}
use Prim.Native.Nat.{ℕ}
use Rattle.files.specs.Field.{label_of}
use Rattle.paths.specs.Letters.{reads}
use Rattle.preparing.proofs.Preparing.{fill_edge, fill_other}
use Rattle.preparing.proofs.prepare.fill_at.Goals as goal

pub returns-then-is_exit : goal.returns-then-is_exit
returns-then-is_exit c =
    let l = c.label.ensures ∙ ap label_of c.word_at.ensures in
    rw (c.put16-then-is_exit.ensures, c.put16.ensures)
    (fill_edge _ (reads c.args.a.now.letters) _ _ c.requires.0 c.requires.1 _ (sym c.is_exit.ensures ∙ c.if-is_exit.true)
    (λ q. c.mask-m.ensures q ∙ ap (λ (y : ℕ). reads c.args.a.now.letters y q) l))

pub returns : goal.returns
returns c =
    rw (c.put16-2.ensures, c.put16.ensures)
    (fill_other _ (reads c.args.a.now.letters) _ _ c.requires.0 c.requires.1 (sym c.is_exit.ensures ∙ c.if-is_exit.false))
