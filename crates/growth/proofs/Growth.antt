-- Document 02, request 12, what a new link may do: neither a link more, nor several, nor another path takes a node off the final list. Assumes nothing.
use mathlib.Core.Path.{◌≡◌, sym, ap, subst, ◌∙◌}
use mathlib.Core.List.{List}
use Prim.Native.Nat.{ℕ}
use lib.ListN.{drop}
use Rattle.sets.specs.Sets.{Lists, ◌⊆◌}
use Rattle.files.specs.Word.{bytes_of}
use Rattle.files.specs.Outcome.{accepted, leaves}
use Rattle.files.specs.Path.{path_check}
use Rattle.files.proofs.Blocks.{node_small}
use Rattle.expressions.specs.Labels.{expr_of}
use Rattle.demands.specs.Plant.{Plant, FoundBy, FinalListBy, Fits, body}
use Rattle.demands.specs.Grouped.{Groups, AcceptedGroups, groups_of, old_call}
use Rattle.demands.specs.Demand.{AcceptedPath}
use Rattle.demands.proofs.Demand.{demand_2}
use Rattle.growth.specs.Growth.{Grown, Search, split, old, Growth}
use Rattle.growth.proofs.Given.{old_given}
use Rattle.growth.proofs.Ended.{ended_right}
use Rattle.growth.proofs.Found.{one_grown, found_more, found_or, or_expr, final_lists}

accepted_same : {f g : List ℕ} → accepted f ≡ accepted g → f ≡ g
accepted_same e = cc

-- the old search of an accepted file gives demand 2's list, whatever its buffers
old_final : (groups : Groups) (p : Plant) (path whole f : List ℕ) (n m : ℕ) → AcceptedGroups groups → AcceptedPath path → Fits p whole
    → old_call groups n m (bytes_of whole) (bytes_of path) ≡ accepted f → FinalListBy (groups_of groups) p (expr_of (drop 1 path)) f
old_final groups p path whole f n m g ok fits e =
    let room = old_given n m groups (bytes_of whole) (bytes_of path) (ap (λ o. (leaves o n m).number) e) in
    let (final, i, l) = demand_2 p whole groups path fits g ok n m room in
    subst (FinalListBy (groups_of groups) p (expr_of (drop 1 path))) (accepted_same (sym i ∙ e)) l

-- a search lists what walks find, and its path was accepted
pub search_lists : {groups : Groups} {p : Plant} {path xs : List ℕ} → Search groups p path xs → Lists (FoundBy (groups_of groups) p (expr_of (drop 1 path))) xs
search_lists (split q r) = final_lists (groups_of q.groups) q.plant (expr_of (drop 1 q.path)) _ (ended_right q r).final
    (λ x n. let (f, m, k) = q.cut.every x n in node_small (body f) x k)
search_lists (old groups p path whole f n m g ok fits e) = final_lists (groups_of groups) p (expr_of (drop 1 path)) f (old_final groups p path whole f n m g ok fits e)
    (λ x n. node_small (body whole) x (fits.every x n))

search_path : {groups : Groups} {p : Plant} {path xs : List ℕ} → Search groups p path xs → path_check path ≡ 0
search_path (split q r) = q.path_accepted.2
search_path (old groups p path whole f n m g ok fits e) = ok.2

-- where all that the one finds is found by the other, no node leaves the list
keeps : {groups : Groups} {p p' : Plant} {path path' xs ys : List ℕ}
    → ((x : ℕ) → FoundBy (groups_of groups) p (expr_of (drop 1 path)) x → FoundBy (groups_of groups) p' (expr_of (drop 1 path')) x)
    → Search groups p path xs → Search groups p' path' ys → xs ⊆ ys
keeps more s s' x m = (search_lists s').complete x (more x ((search_lists s).sound x m))

module _ (groups : Groups) (p p' : Plant) (path xs ys : List ℕ) where
  several_keep : Grown p p' → Search groups p path xs → Search groups p' path ys → xs ⊆ ys
  several_keep g s s' x m = keeps (found_more g (groups_of groups) (expr_of (drop 1 path))) s s' x m

pub growth : Growth
growth = record {
  link = λ groups p p' path xs ys o s s' x m. several_keep groups p p' path xs ys (one_grown o) s s' x m;
  path = λ groups p path other path' xs ys ok o s s' x m. keeps (λ x f.
      subst (λ e. FoundBy (groups_of groups) p e x) (sym (or_expr path other path' (search_path s) ok.2 o))
      (found_or (groups_of groups) p (expr_of (drop 1 path)) (expr_of (drop 1 other)) x f)) s s' x m;
  several = several_keep;
}
