-- The calls that take a path, with either groups: what they owe of accepted files is what is owed of the path that is asked, and that is an accepted
-- path, whose list is demand 2's, and by which walks take the same links. Assumes nothing.
use mathlib.Core.Path.{◌≡◌, refl, sym, subst}
use mathlib.Core.Logic.{◌↔◌}
use mathlib.Core.List.{List, [], ◌∷◌}
use Prim.Native.Nat.{ℕ, ◌≤◌}
use lib.Dec.{T}
use lib.ListN.{length, get_or, drop}
use Rattle.sets.proofs.Sets.{lists_iff}
use Rattle.files.specs.Word.{words, bytes_of}
use Rattle.files.specs.Outcome.{accepted, outcome}
use Rattle.files.specs.Groups.{loaded, our_groups}
use Rattle.files.specs.Part.{whole_check}
use Rattle.files.specs.Path.{path_check}
use Rattle.files.specs.Calls.{calls_check}
use Rattle.files.proofs.Groups.{groups_ranges, loaded_checked, loaded_head, loaded_body}
use Rattle.expressions.specs.Expr.{Expr}
use Rattle.expressions.specs.Positions.{step, Run}
use Rattle.expressions.specs.Labels.{holds, holds_by, expr_of}
use Rattle.expressions.proofs.Loading.{grouped_meaning, grouped_steps}
use Rattle.first_replies.specs.FirstReply.{first_reply}
use Rattle.site_first.proofs.FirstCalls as first
use Rattle.site_second.specs.Second.{second_reply, against_check}
use Rattle.site_second.proofs.SecondCalls as second
use Rattle.old.specs.Old.{listed}
use Rattle.old.proofs.OldCalls as old
use Rattle.demands.specs.Plant.{Plant, Words, AcceptedPart, Unwalked, FinalList, FinalListBy}
use Rattle.demands.specs.Grouped.{Groups, ours, own, AcceptedGroups, groups_of, asks, first_call, second_call, old_call}
use Rattle.demands.specs.Demand.{Enough, AcceptedPath}

pub asks_checked : (groups : Groups) (path : List ℕ) → AcceptedGroups groups → path_check path ≡ 0 → path_check (asks groups path) ≡ 0
asks_checked ours path g c = c
asks_checked (own bytes) path g c = loaded_checked (words bytes) (groups_ranges bytes g) path c

pub asks_head : (groups : Groups) (path : List ℕ) → get_or (asks groups path) 0 0 ≡ get_or path 0 0
asks_head ours path = refl
asks_head (own bytes) path = loaded_head (words bytes) path

module _ (out work : ℕ) (path : List ℕ) (ok : AcceptedPath path) where
  pub first_asked : (groups : Groups) (part : List ℕ) → AcceptedGroups groups → Enough 4096 out work → AcceptedPart part
      → first_call groups out work (bytes_of part) (bytes_of path) ≡ outcome 0 4096 (first_reply part (asks groups path))
  first_asked ours part g r c = first.first_outcome_lem out work part path r.0 r.1 c.0 c.1 c.2 ok.0 ok.1 ok.2
  first_asked (own bytes) part g r c = first.grouped_outcome out work part bytes path r.0 r.1 c.0 c.1 c.2 g ok.0 ok.1 ok.2

  pub second_asked : (groups : Groups) (part calls : List ℕ) → AcceptedGroups groups → Enough 4096 out work → AcceptedPart part
      → Words calls → length calls ≤ 4096 → calls_check calls ≡ 0 → against_check part path calls ≡ 0
      → second_call groups out work (bytes_of part) (bytes_of path) (bytes_of calls) ≡ outcome 0 4096 (second_reply part (asks groups path) calls)
  second_asked ours part calls g r c = second.second_outcome_lem out work part path calls r.0 r.1 c.0 c.1 c.2 ok.0 ok.1 ok.2
  second_asked (own bytes) part calls g r c = second.grouped_outcome out work part bytes path calls r.0 r.1 c.0 c.1 c.2 g ok.0 ok.1 ok.2

  pub old_asked : (groups : Groups) (whole : List ℕ) → AcceptedGroups groups → Enough 8192 out work → Words whole → length whole ≤ 4096 → whole_check whole ≡ 0
      → old_call groups out work (bytes_of whole) (bytes_of path) ≡ accepted (listed whole (asks groups path))
  old_asked ours whole g r v l c = old.old_call_lem out work whole path r.0 r.1 v l c ok.0 ok.1 ok.2
  old_asked (own bytes) whole g r v l c = old.grouped_call out work whole bytes path r.0 r.1 v l c g ok.0 ok.1 ok.2

-- textbook meaning: what walks find by the expression of the path that is asked, they find by the path's own, group g read by word g
module _ (p : Plant) (bytes path : List ℕ) (g : AcceptedGroups (own bytes)) where
  final_loaded : (ws : List ℕ) → FinalList p (expr_of (drop 1 (asks (own bytes) path))) ws ↔ FinalListBy (words bytes) p (expr_of (drop 1 path)) ws
  final_loaded ws =
      let m = grouped_meaning (words bytes) (groups_ranges bytes g) (drop 1 path) in
      rw (loaded_body (words bytes) path) (
        λ (xs, l, e). (xs, lists_iff (λ x. (λ (r, w, i, k, t). (r, w, i, k, (m w).0 t), λ (r, w, i, k, t). (r, w, i, k, (m w).1 t))) l, e),
        λ (xs, l, e). (xs, lists_iff (λ x. (λ (r, w, i, k, t). (r, w, i, k, (m w).1 t), λ (r, w, i, k, t). (r, w, i, k, (m w).0 t))) l, e),
      )

pub final_asked : (p : Plant) (groups : Groups) (path : List ℕ) → AcceptedGroups groups → (ws : List ℕ)
    → FinalList p (expr_of (drop 1 (asks groups path))) ws ↔ FinalListBy (groups_of groups) p (expr_of (drop 1 path)) ws
final_asked p ours path g ws = (λ f. f, λ f. f)
final_asked p (own bytes) path g ws = final_loaded p bytes path g ws

-- automata that step alike run alike, so walks take the same links
module _ (groups groups' : List ℕ) (e e' : Expr) (same : step (holds_by groups) e ≡ step (holds_by groups') e') where
  run_same : (w : List ℕ) (q p : ℕ) → Run (holds_by groups') e' q w p → Run (holds_by groups) e q w p
  run_same [] q p r = r
  run_same (a ∷ w) q p (t, i, r) = (t, subst (λ f. T (f q a t)) (sym same) i, run_same w t p r)

  unwalked_same : (p : Plant) (parts : List (List ℕ)) → Unwalked groups p parts e → Unwalked groups' p parts e'
  unwalked_same p parts u r x a y q t w f k v run m h out i =
      u r x a y q t w f k v (run_same w 0 q run) m h out (subst (λ f. T (f q a t)) (sym same) i)

-- those that walks take by the path that is asked they take by the path's own expression, group g read by word g
pub unwalked_asked : (p : Plant) (parts : List (List ℕ)) (groups : Groups) (path : List ℕ) → AcceptedGroups groups
    → Unwalked our_groups p parts (expr_of (drop 1 (asks groups path))) ↔ Unwalked (groups_of groups) p parts (expr_of (drop 1 path))
unwalked_asked p parts ours path g = (λ u. u, λ u. u)
unwalked_asked p parts (own bytes) path g = (
  unwalked_same our_groups (words bytes) (expr_of (drop 1 (loaded (words bytes) path))) (expr_of (drop 1 path)) same p parts,
  unwalked_same (words bytes) our_groups (expr_of (drop 1 path)) (expr_of (drop 1 (loaded (words bytes) path))) (sym same) p parts,
)
  where
    same : step holds (expr_of (drop 1 (loaded (words bytes) path))) ≡ step (holds_by (words bytes)) (expr_of (drop 1 path))
    same = rw (loaded_body (words bytes) path) (grouped_steps (words bytes) (groups_ranges bytes g) (drop 1 path))
