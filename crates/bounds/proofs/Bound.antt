-- How long a first reply is by the length of its rows, at most and at least; and so how long it is at most. Assumes nothing.
use mathlib.Core.Path.{◌≡◌, ap, subst, ◌∙◌}
use mathlib.Core.Logic.Iff
use mathlib.Core.List.{List, [], ◌∷◌}
use Prim.Native.Nat.{ℕ, suc, ◌+◌, ◌*◌, ◌≤◌, ◌<◌}
use native.Mathlib.Omega.{arith}
use lib.ListN.{length, get_or, drop, length-map}
use Rattle.sets.specs.Sets.{Mem}
use Rattle.sets.proofs.Sums.{Sums, at_most, by_length, flatten_by}
use Rattle.sets.proofs.Sets.{lists_unique}
use Rattle.sets.proofs.Filter.{lists_self}
use Rattle.files.specs.Word.{words}
use Rattle.files.specs.Field.{labels_of}
use Rattle.files.proofs.Blocks.{doors_nodes, node_small}
use Rattle.files.proofs.Parts.{doors_ascending}
use Rattle.files.proofs.Groups.{groups_ranges, loaded_checked, loaded_head}
use Rattle.expressions.specs.Labels.{expr_of}
use Rattle.expressions.proofs.Paths.{path_count, path_small}
use Rattle.walks.specs.Product.{positions}
use Rattle.walks.proofs.Product.{positions_length, states_iff, states_ascending}
use Rattle.first_replies.specs.FirstReply.{IsFirstReply, row_words, door_rows}
use Rattle.first_replies.proofs.Reported.{reported_is, reported_length}
use Rattle.bounds.specs.Longest.{longest, PartOf, PathOf, Bound}

-- a row of at most, or at least, k pairs
row_most : (q : ℕ) (cs : List ℕ) (k : ℕ) → length cs ≤ k → length (row_words q cs) ≤ 1 + k
row_most q [] k h = omega arith
row_most q (c ∷ cs) k h = simp length-map (omega arith)

pub row_least : (q : ℕ) (cs : List ℕ) (k : ℕ) → 1 ≤ k → k ≤ length cs → 1 + k ≤ length (row_words q cs)
row_least q [] k l h = absurd (omega arith)
row_least q (c ∷ cs) k l h = simp length-map (omega arith)

one_more : {R : ℕ → ℕ → Type 0} → Sums R → (a b : ℕ) → R a b → R (suc a) (1 + b)
one_more {R} sums a b h = subst (λ c. R c (1 + b)) (omega arith) (sums.sum 1 1 a b (sums.same 1) h)

module _ {D T n : ℕ} {part path f : List ℕ} (p : PartOf D T part) (a : PathOf n path) (r : IsFirstReply part path f) where
  doors_many : length r.doors ≡ D
  doors_many = ap length (lists_unique r.each_door (lists_self (doors_ascending part p.checked)) (λ x. Iff.rfl)) ∙ p.doors_are

  states_many : length r.states ≡ n + 1
  states_many =
      let l = labels_of (get_or path 0 0) in
      let e : r.states ≡ 0 ∷ positions l =
      lists_unique r.each_state (lists_self (states_ascending l)) (λ q. let i = states_iff l q in (i.1, i.0)) in
      omega (arith, ap length e, positions_length l, a.labels_are)

  -- by its rows: each has at most k words, or each at least k
  pub reply_by_lem : {R : ℕ → ℕ → Type 0} (sums : Sums R) (k : ℕ)
      → ((x q : ℕ) → Mem x r.doors → Mem q r.states → R (length (row_words q (r.pairs x q))) k)
      → R (length f) (1 + D * (1 + (n + 1) * k))
  reply_by_lem sums k rows = rw (r.is, ← doors_many, ← states_many) (
      one_more sums _ _ (flatten_by sums by_length (λ x. door_rows (drop 1 part) (r.pairs x) r.states x) (1 + length r.states * k) r.doors
      (λ x m. one_more sums _ _ (flatten_by sums by_length (λ q. row_words q (r.pairs x q)) k r.states (λ q i. rows x q m i)))))

  -- a row has at most every outside target with every position
  pairs_few : (x q : ℕ) → Mem x r.doors → Mem q r.states → length (r.pairs x q) ≤ T * n
  pairs_few x q m i =
      let node = doors_nodes (drop 1 part) x (r.each_door.sound x m) in
      let h : q < 16 = omega (arith, r.each_state.sound q i) in
      let small = path_small path a.checked in
      let e = expr_of (drop 1 path) in
      rw (
        lists_unique (r.each_row x q m i) (reported_is (drop 1 part) e small x q (node_small (drop 1 part) x node) h) (λ c. Iff.rfl),
        ← p.outside_are,
        ← a.labels_are,
        ← path_count path a.checked,
      ) (reported_length (drop 1 part) e small x q h node)

  pub reply_most : length f ≤ longest D T n
  reply_most = omega (arith, reply_by_lem at_most (1 + T * n) (λ x q m i. row_most q (r.pairs x q) (T * n) (pairs_few x q m i)))

pub bound : Bound
bound = record {
  plain = λ part path f p a r. reply_most p a r;
  grouped = λ part groups path f p g a r. reply_most p (record {
    checked = loaded_checked (words groups) (groups_ranges groups g) path a.checked;
    labels_are = ap labels_of (loaded_head (words groups) path) ∙ a.labels_are;
  }) r;
}
