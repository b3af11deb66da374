-- Where a walk stands in a whole, for the code that reads it word by word: the root, the edge words of a node, and whether a node runs.
-- Assumes nothing.
use mathlib.Core.Path.{◌≡◌, refl, sym, ap, ◌∙◌}
use mathlib.Core.Logic.{◌↔◌, inl, inr, ⊎_elim}
use mathlib.Core.Bool.{Bool, true, false, not, ◌&&◌}
use mathlib.Core.List.Memᴰ
use mathlib.Core.List.{List, [], ◌∷◌, map}
use Prim.Native.Nat.{ℕ}
use native.Mathlib.Omega.{arith}
use borrow.Author.Tests.{eq-eqb, ne_eqb, eqb-true}
use lib.Dec.{T, eqb}
use lib.ListN.{get_or, drop}
use Rattle.sets.specs.Sets.{Mem, here, there, Ascending, filter, member}
use Rattle.sets.proofs.Tests.{either, is_true, passed, same_test, and_iff, eq_iff, not_iff}
use Rattle.sets.proofs.Cases.{clash, and_left, and_right}
use Rattle.sets.proofs.Filter.{map_filter_iff}
use Rattle.std.specs.Prelude.{Option, Some, None}
use Rattle.files.specs.declared.word.Words.{Words}
use Rattle.files.specs.Read.{left_of}
use Rattle.files.specs.Field.{node_of, stopped_of, target_of}
use Rattle.files.specs.Part as part
use Rattle.files.specs.Part.{is_node, is_edge, is_root, nodes, roots, front, whole_check}
use Rattle.files.proofs.Parts.{whole_part, nodes_ascending}
use Rattle.files.proofs.Blocks.{stopped_nodes}
use Rattle.kinds.specs.Seek.{FirstThat}
use Rattle.kinds.proofs.Roots.{root_marked, marked_root}
use Rattle.file_walks.specs.Walks.{runs_in}
use Rattle.file_walks.proofs.Running.{runs_iff}
use Rattle.walk_check.specs.Plant.{Begins, Enters}

-- ---- the root

-- the first root word has the root's number
pub root_is : (ws : List ℕ) → whole_check ws ≡ 0 → {i w r : ℕ} → FirstThat is_root ws i → w ≡ get_or ws i 0 → r ≡ node_of w → roots (drop 1 ws) ≡ r ∷ []
root_is ws c {i} f e g = marked_root ws c i (root_marked ws c i f) ∙ ap (◌∷ []) (ap node_of (sym e) ∙ sym g)

-- ---- whether a node runs, by the first word that names it

-- a first word that does not pass, or has another number, adds no x
passed_over : (p : ℕ → Bool) (w x : ℕ) (ws : List ℕ) → (T (p w) → node_of w ≡ x → ⊥)
    → Mem x (map node_of (filter p (w ∷ ws))) ↔ Mem x (map node_of (filter p ws))
passed_over p w x ws h = elim (either (p w)) [
  | inl e ↦ rw e (λ m. ⊎_elim (λ q. absurd (h (passed e) (sym q))) (λ k. k) (Memᴰ.cases_cons m), λ m. there m)
  | inr e ↦ rw e (λ m. m, λ m. m)
]

module _ (w : ℕ) (ws : List ℕ) (x : ℕ) where
  pub runs_other : (is_node w && eqb (node_of w) x) ≡ false → runs_in (w ∷ ws) x ≡ runs_in ws x
  runs_other n =
      let no : T (is_node w) → node_of w ≡ x → ⊥ =
      λ t q. clash (is_true _ ((and_iff (is_node w) (eqb (node_of w) x)).1 (t, (eq_iff (node_of w) x).1 q))) n in
      let a = passed_over is_node w x ws no in
      let b = passed_over (λ w. is_node w && stopped_of w) w x ws (λ t. no ((and_iff (is_node w) (stopped_of w)).0 t).0) in
      same_test
      (λ t. let (m, s) = (runs_iff (w ∷ ws) x).0 t in (runs_iff ws x).1 (a.0 m, λ k. s (b.1 k)))
      (λ t. let (m, s) = (runs_iff ws x).0 t in (runs_iff (w ∷ ws) x).1 (a.1 m, λ k. s (b.0 k)))

  pub runs_here : Ascending (nodes (w ∷ ws)) → (is_node w && eqb (node_of w) x) ≡ true → runs_in (w ∷ ws) x ≡ not (stopped_of w)
  runs_here a n =
      let node = and_left (is_node w) (eqb (node_of w) x) n in
      let q = eqb-true (node_of w) x (and_right (is_node w) (eqb (node_of w) x) n) in
      let h = rw node at a in
      let once : Mem x (nodes ws) → ⊥ = λ m. let l = h.0 x m in omega arith in
      same_test
      (λ t. (not_iff (stopped_of w)).1 (λ s. ((runs_iff (w ∷ ws) x).0 t).1
      ((map_filter_iff node_of (λ w. is_node w && stopped_of w) x (w ∷ ws)).1 (w, here refl, (and_iff (is_node w) (stopped_of w)).1 (passed node, s), q))))
      (λ t. (runs_iff (w ∷ ws) x).1 (
        (map_filter_iff node_of is_node x (w ∷ ws)).1 (w, here refl, passed node, q),
        λ m. once (stopped_nodes ws x
            ((passed_over (λ w. is_node w && stopped_of w) w x ws (λ s k. (not_iff (stopped_of w)).0 t ((and_iff (is_node w) (stopped_of w)).0 s).1)).0 m)),
      ))

-- the words ws that are left tell of x what all words behind the header of fs tell
pub record Seeking (fs : List ℕ) (x : ℕ) (ws : List ℕ) : Type 0 where
  pub rises : Ascending (nodes ws)
  pub runs : runs_in ws x ≡ runs_in (drop 1 fs) x
  pub edges : part.edges ws x ≡ part.edges (drop 1 fs) x

pub seeking_first : (ws : List ℕ) (x : ℕ) {us : List ℕ} → whole_check ws ≡ 0 → us ≡ drop 1 ws → Seeking ws x us
seeking_first ws x c e = record { rises = rw e (nodes_ascending ws (whole_part ws c)); runs = rw e; edges = rw e }

rest_rises : (w : ℕ) (ws : List ℕ) → Ascending (nodes (w ∷ ws)) → Ascending (nodes ws)
rest_rises w ws a = elim (either (is_node w)) [ inl e ↦ (rw e at a).1 | inr e ↦ rw e at a ]

module _ {fs : List ℕ} {x : ℕ} {vs : List ℕ} (f : Seeking fs x vs) where
  module _ {w : ℕ} {ws : List ℕ} {b : Bool} (q : vs ≡ w ∷ ws) (e : b ≡ (is_node w && eqb (node_of w) x)) where
    rises : Ascending (nodes (w ∷ ws))
    rises = rw q at f.rises

    found : b ≡ true → runs_in (drop 1 fs) x ≡ not (stopped_of w)
    found h = sym f.runs ∙ rw q (runs_here w ws x rises (sym e ∙ h))

    pub seeking_stopped : {v : Bool} → b ≡ true → v ≡ stopped_of w → v ≡ true → Begins fs x None
    seeking_stopped h g i = record { runs = sym (found h ∙ rw (← g, i)); edges = tt }

    pub seeking_found : {v : Bool} (at : Words) → left_of at ≡ ws → b ≡ true → v ≡ stopped_of w → v ≡ false → Begins fs x (Some at)
    seeking_found at l h g i = record { runs = sym (found h ∙ rw (← g, i)); edges = sym f.edges ∙ rw (q, l, ← e, h) }

    pub seeking_more : b ≡ false → Seeking fs x ws
    seeking_more h = record {
      rises = rest_rises w ws rises;
      runs = sym (runs_other w ws x (sym e ∙ h)) ∙ (rw q at f.runs);
      edges = rw (q, ← e, h) at f.edges;
    }

  pub seeking_last : vs ≡ [] → Begins fs x None
  seeking_last q = record { runs = rw q at f.runs; edges = tt }

-- ---- a step

-- whether w is among the edge words at the front of the words vs that are left
pub record Fronting (w : ℕ) (x : Bool) (vs : List ℕ) : Type 0 where
  pub same : member w (front vs) ≡ x

module _ {w : ℕ} {x : Bool} {vs : List ℕ} (f : Fronting w x vs) where
  module _ {v : ℕ} {ws : List ℕ} {b : Bool} (q : vs ≡ v ∷ ws) (e : b ≡ is_edge v) where
    pub fronting_found : b ≡ true → w ≡ v → true ≡ x
    fronting_found h i = rw (← f.same, q, ← e, h, eq-eqb w v i)

    pub fronting_more : b ≡ true → (w ≡ v → ⊥) → Fronting w x ws
    fronting_more h i = record { same = rw (q, ← e, h, ne_eqb w v i) at f.same }

    pub fronting_other : b ≡ false → false ≡ x
    fronting_other h = rw (← f.same, q, ← e, h)

  pub fronting_last : vs ≡ [] → false ≡ x
  fronting_last q = rw (← f.same, q)

pub entered : (ws at : List ℕ) (w : ℕ) {b : Bool} {t : ℕ} {r : Option Words} → b ≡ member w (front at) → b ≡ true → t ≡ target_of w → Begins ws t r → Enters ws at w r
entered ws at w e h q g = record { runs = rw (← e, h, ← q) g.runs; edges = rw (← q) g.edges }

pub not_entered : (ws at : List ℕ) (w : ℕ) {b : Bool} → b ≡ member w (front at) → b ≡ false → Enters ws at w None
not_entered ws at w e h = record { runs = rw (← e, h); edges = tt }
