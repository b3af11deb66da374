-- The finder's code: where 20 is given, the walk that is found by the distances, the file that is written, and what the call answers. Assumes nothing.
use mathlib.Core.Path.{◌≡◌, refl, sym, subst, ap, ◌∙◌}
use mathlib.Core.Bool.{Bool, true, false, not}
use mathlib.Core.List.{List, [], ◌∷◌}
use mathlib.Core.Option.{none, some}
use Prim.Native.Nat.{ℕ}
use native.Mathlib.Omega.{arith}
use Rattle.std.specs.Prelude.{Option, Some, None}
use lib.ListN.{get_or, drop}
use Rattle.sets.specs.Sets.{Mem}
use Rattle.sets.proofs.Tests.{passed}
use Rattle.sets.proofs.Cases.{and_left}
use Rattle.files.specs.Word.{words}
use Rattle.files.specs.Field.{target_of, root_of}
use Rattle.files.specs.Part.{is_node, is_root, nodes, roots, whole_check}
use Rattle.files.specs.Path.{path_check}
use Rattle.files.specs.Groups.{groups_check, loaded}
use Rattle.files.specs.Limits.{shown_words, path_words, walk_words}
use Rattle.files.proofs.Checks.{then_zero, room_checked, refused_first}
use Rattle.files.proofs.Parts.{whole_part, whole_target}
use Rattle.files.proofs.Blocks.{roots_nodes}
use Rattle.expressions.specs.Expr.{Expr}
use Rattle.expressions.specs.Labels.{holds, expr_of}
use Rattle.paths.specs.declared.automaton.Automaton.{Automaton}
use Rattle.paths.specs.Automaton.{Automates}
use Rattle.kinds.specs.Seek.{FirstThat}
use Rattle.kinds.proofs.Roots.{root_marked, marked_root}
use Rattle.slots.specs.Slots.{node_at, stopped_at, number}
use Rattle.slots.specs.Layout.{PositionOf}
use Rattle.slots.proofs.Places.{in_node, nodes_same}
use Rattle.output.specs.Writer.{Filed}
use Rattle.output.specs.Frame.{Check, input, also, Checked, Passed, Responds}
use Rattle.output.proofs.Frame.{answer_refused, answer_filed}
use Rattle.file_walks.specs.Walks.{Along, runs_in, walk_file}
use Rattle.best_walks.proofs.Finding.{find_none}
use Rattle.best_walks.proofs.Rounds.{by_table, by_table_none, stopped_root}
use Rattle.walk_links.proofs.Running.{runs_at}
use Rattle.walk_distances.specs.Rounds.{Reached}
use Rattle.walk_find.specs.Walk.{found_walk, listed_check, file_of, walk_grouped_call}
use Rattle.walk_find.specs.Measured.{links_by, Measured}
use Rattle.walk_find.specs.declared.call.Best.{Best}
use Rattle.walk_find.proofs.Calls.{answered, grouped_checks, grouped_is}

-- a walk stays on nodes
on_nodes : (ws : List ℕ) → whole_check ws ≡ 0 → (runs : ℕ → Bool) (us : List ℕ) (x y : ℕ) → Mem x (nodes (drop 1 ws)) → Along runs (drop 1 ws) x us y → Mem y (nodes (drop 1 ws))
on_nodes ws ok runs [] x y m a = subst (λ x. Mem x (nodes (drop 1 ws))) a m
on_nodes ws ok runs (w ∷ us) x y m a = on_nodes ws ok runs us (target_of w) y (whole_target ws ok x w a.0) a.2

-- the root, by its word
module _ (ws : List ℕ) (ok : whole_check ws ≡ 0) (root : ℕ) (f : FirstThat is_root ws root) where
  pub root_node : node_at ws root ≡ true
  unfolding node_at
  root_node = and_left (is_node (get_or ws root 0)) (root_of (get_or ws root 0)) (root_marked ws ok root f)

  one_root : roots (drop 1 ws) ≡ number ws root ∷ []
  unfolding number
  one_root = marked_root ws ok root (root_marked ws ok root f)

  root_runs : runs_in (drop 1 ws) (number ws root) ≡ not (stopped_at ws root)
  root_runs = runs_at ws (whole_part ws ok) root root_node

module _ (ws : List ℕ) (y : ℕ) (ok : whole_check ws ≡ 0) (a : Automaton) (root : ℕ) (f : FirstThat is_root ws root) where
  -- y is no node
  stranger : PositionOf ws y None → (path : List ℕ) → Automates a (expr_of (drop 1 path)) → found_walk ws path y ≡ none
  unfolding found_walk
  stranger p path h = (find_none holds (runs_in (drop 1 ws)) ws ok (expr_of (drop 1 path)) h.small y).1 (λ us w.
      let k = on_nodes ws ok (runs_in (drop 1 ws)) us w.root y (roots_nodes (drop 1 ws) w.root w.is_root_lem) w.along in
      let (i, n, q) = in_node ws y (subst (Mem y) (nodes_same ws (whole_part ws ok)) k) in
      p i n q)

  halted : stopped_at ws root ≡ true → (path : List ℕ) → Automates a (expr_of (drop 1 path)) → found_walk ws path y ≡ none
  unfolding found_walk
  halted s path h =
      stopped_root holds (runs_in (drop 1 ws)) ws ok (expr_of (drop 1 path)) h.small y (number ws root) (one_root ws ok root f) (root_runs ws ok root f ∙ ap not s)

  no_walk : (path w : List ℕ) → found_walk ws path y ≡ none → Measured ws path y w None
  no_walk path w i = record { none = λ z. i; some = λ b z. cc }

  -- the node is none of the file
  pub unknown : PositionOf ws y None → (w path : List ℕ) → Automates a (expr_of (drop 1 path)) → Measured ws path y w None
  unknown p w path h = no_walk path w (stranger p path h)

  -- the root is stopped
  pub unwalked : {b : Bool} → b ≡ stopped_at ws root → b ≡ true → (w path : List ℕ) → Automates a (expr_of (drop 1 path)) → Measured ws path y w None
  unwalked s t w path h = no_walk path w (halted (sym s ∙ t) path h)

  module _ (i : ℕ) (w : List ℕ) {r : Option ℕ} (q : number ws i ≡ y) (s : stopped_at ws root ≡ false)
      (reached : (e : Expr) → Automates a e → Reached ws e (number ws i) w (number ws root) r) (path : List ℕ) (h : Automates a (expr_of (drop 1 path))) where
    told : Reached ws (expr_of (drop 1 path)) y w (number ws root) r
    told = subst (λ y. Reached ws (expr_of (drop 1 path)) y w (number ws root) r) q (reached (expr_of (drop 1 path)) h)

    -- nothing arrives from the root
    pub unreached : r ≡ None → Measured ws path y w None
    unfolding found_walk
    unreached z = no_walk path w (by_table_none holds (runs_in (drop 1 ws)) ws ok (expr_of (drop 1 path)) h.small y (number ws root) (one_root ws ok root f)
        told.last _ told.round (told.none z).1 (told.none z).0)

    by_links : (d : ℕ) → r ≡ Some d → found_walk ws path y ≡ some (links_by ws w (expr_of (drop 1 path)) root d)
    unfolding found_walk
    by_links d z = by_table holds (runs_in (drop 1 ws)) ws ok (expr_of (drop 1 path)) h.small y (number ws root) (one_root ws ok root f) told.last _ told.round
        (passed (root_runs ws ok root f ∙ ap not s)) d (told.some d z)

    pub measured : (d : ℕ) → r ≡ Some d → Measured ws path y w (Some (record { root = root; links = d }))
    measured d z = record { none = λ n. cc; some = λ b n. subst (λ b. found_walk ws path y ≡ some (links_by ws w (expr_of (drop 1 path)) b.root b.links)) (same n) (by_links d z) }
      where
        same : {b : Best} → ◌≡◌ {A = Option Best} (Some (record { root = root; links = d })) (Some b) → record { root = root; links = d } ≡ b
        same n = cc

-- the call
module _ (n m : ℕ) (whole groups path : List ℕ) (y : ℕ) where
  abbrev inputs : List Check
  inputs = input shown_words whole (whole_check (words whole)) ∷ also (groups_check groups) ∷ input path_words path (path_check (words path)) ∷ []

  -- buffers or inputs are refused
  pub answers_refused : (out : List ℕ) {k r : ℕ} → Checked walk_words n m inputs k → r ≡ k → (k ≡ 0 → ⊥) → Responds (walk_grouped_call n m whole groups path y) n out r
  answers_refused out c e h = rw e (rw (grouped_is n m whole groups path y) (answer_refused _ walk_words _ n out (refused_first (grouped_checks n m whole groups path y) _ h c.is) h))

  module _ (p : Passed walk_words n m inputs) where
    all_zero : grouped_checks n m whole groups path y ≡ 0
    all_zero = then_zero (room_checked walk_words n m p.room.holds p.room.works) (then_zero p.read.0.sized (then_zero p.read.0.read (then_zero p.read.1.0
        (then_zero p.read.1.1.0.sized p.read.1.1.0.read))))

    passed_is : walk_grouped_call n m whole groups path y ≡ answered 0 (found_walk (words whole) (loaded (words groups) (words path)) y)
    passed_is = grouped_is n m whole groups path y ∙ ap (λ k. answered k (found_walk (words whole) (loaded (words groups) (words path)) y)) all_zero

    abbrev loads : List ℕ
    loads = loaded (words groups) (words path)

    -- 20
    pub answers_20 : {w : List ℕ} → Measured (words whole) loads y w None → (out : List ℕ) → Responds (walk_grouped_call n m whole groups path y) n out 20
    answers_20 t out = rw passed_is (answer_refused _ walk_words _ n out (ap listed_check (sym (t.none refl))) (λ z. omega arith))

    pub answers_filed : {w : List ℕ} {b : Best} → Measured (words whole) loads y w (Some b) → {out : List ℕ} {r : ℕ}
        → Filed walk_words n (walk_file (links_by (words whole) w (expr_of (drop 1 loads)) b.root b.links)) out r
        → Responds (walk_grouped_call n m whole groups path y) n out r
    answers_filed {b = b} t {out} {r} f =
        let i = t.some b refl in
        rw passed_is (answer_filed _ walk_words _ n (ap listed_check (sym i)) refl (subst (λ o. Filed walk_words n (file_of o) out r) (sym i) f))
