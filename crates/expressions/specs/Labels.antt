-- Believed. Which labels a label word holds, and the expression of a path's words. Document 01, "Words" (groups) and
-- "Path"; document 02, requests 1 (sort 2) and 3 (groups as eight words).
use Rattle.std.specs.Prelude.{ℕ, zero, suc, Bool, cond, not, ◌&&◌, List, [], map, eqb, leb, get_or}
use Rattle.std.proofs.Math.Option.{Option, none, some}
use Rattle.files.specs.Path.{is_label, sort_of, high_of, low_of, group_of, operator_of}
use Rattle.files.specs.Groups.{is_group, our_groups}
use Rattle.expressions.specs.Expr.{Expr, empty}
use Rattle.expressions.specs.Postfix.{Item, put_empty, put_letter, make_then, make_or, make_star, read}

abbrev pub between : ℕ → ℕ → ℕ → Bool
between low high a = leb low a && leb a high

abbrev pub in_range : ℕ → ℕ → Bool
in_range l a = between (low_of l) (high_of l) a

-- the label word l holds the label a, where word g of the groups stands for group g: sort 1 a group, sort 2 all labels outside a range, sort 0 a
-- range
abbrev pub holds_by : List ℕ → ℕ → ℕ → Bool
holds_by groups l a =
    cond (is_group l) (in_range (get_or groups (group_of l) 0) a)
    (cond (eqb (sort_of l) 2) (not (in_range l a)) (in_range l a))

-- and with our own groups
abbrev pub holds : ℕ → ℕ → Bool
holds l a = holds_by our_groups l a

abbrev pub operator_item : ℕ → Item
operator_item zero = put_empty
operator_item (suc zero) = make_then
operator_item (suc (suc zero)) = make_or
operator_item (suc (suc (suc k))) = make_star

abbrev pub item : ℕ → Item
item w = cond (is_label w) (put_letter w) (operator_item (operator_of w))

abbrev pub or_empty : Option Expr → Expr
or_empty none = empty
or_empty (some e) = e

-- the expression of an accepted path's words after the header
abbrev pub expr_of : List ℕ → Expr
expr_of ws = or_empty (read (map item ws) [])
