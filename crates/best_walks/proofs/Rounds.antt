-- For a program that keeps distances in a table: rounds fill it (`round_first`, `round_next`, `round_last`), and the choice by it is the finder's answer
-- (`by_table`, `by_table_none`). Assumes nothing.
use mathlib.Core.Path.{◌≡◌, refl, sym, subst, ap, ◌∙◌}
use mathlib.Core.Logic.{◌↔◌, ◌⊎◌, inl, inr, ⊎_elim}
use mathlib.Core.Bool.{Bool, true, false, ◌&&◌}
use mathlib.Core.List.Memᴰ
use mathlib.Core.List.{List, [], ◌∷◌}
use mathlib.Core.Option.{none, some}
use Prim.Native.Nat.{ℕ, zero, suc, ◌*◌, ◌≤◌, ◌<◌}
use native.Mathlib.Omega.{arith}
use lib.Dec.{T, eqb}
use lib.ListN.{length, drop}
use Rattle.sets.specs.Sets.{Mem, here, Ascending}
use Rattle.sets.specs.Tally.{one}
use Rattle.sets.proofs.Tests.{is_true, passed, and_iff, eq_iff}
use Rattle.sets.proofs.Cases.{lt_or_le}
use Rattle.files.specs.Field.{label_of, target_of}
use Rattle.files.specs.Part.{edges, nodes, roots, whole_check}
use Rattle.files.proofs.Parts.{edges_ascending, whole_part}
use Rattle.expressions.specs.Expr.{Expr, count}
use Rattle.expressions.specs.Positions.{step, accepts}
use Rattle.best_walks.specs.Finder.{choose, find}
use Rattle.file_walks.proofs.Leading.{Leads, From}
use Rattle.best_walks.proofs.Choosing.{Arrives, Near}
use Rattle.best_walks.proofs.Levels.{short_enough, pairs_few}
use Rattle.best_walks.proofs.Finding.{accepted_from, chosen_best, best_found, find_none}

module _ (holds : ℕ → ℕ → Bool) (running : ℕ → Bool) (body : List ℕ) (e : Expr) (y : ℕ) where
  -- the table has 0 for a pair not yet come to, else one more than the distance; round k is done when all within k links are in it
  pub record Round (k : ℕ) (table : ℕ → ℕ → ℕ) : Type 0 where
    pub sound : (x q d : ℕ) → table x q ≡ suc d → Arrives holds running body e y d x q
    pub upto : (x q d : ℕ) → table x q ≡ suc d → d ≤ k
    pub full : (x q d : ℕ) → d ≤ k → Arrives holds running body e y d x q → (c : ℕ) × (c ≤ d) × (table x q ≡ suc c)

  -- one link leads from (x, q) to a pair that has v in the table
  pub record Onto (table : ℕ → ℕ → ℕ) (v x q : ℕ) : Type 0 where
    pub word : ℕ
    pub state : ℕ
    pub edge : Mem word (edges body x)
    pub enters : T (running (target_of word))
    pub steps : T (step holds e q (label_of word) state)
    pub has : table (target_of word) state ≡ v

  -- a round: what has a number keeps it, and what has none and has a link onto the last round's gets the next
  pub record Turned (k : ℕ) (table table' : ℕ → ℕ → ℕ) : Type 0 where
    pub kept : (x q d : ℕ) → table x q ≡ suc d → table' x q ≡ suc d
    pub made : (x q d : ℕ) → table x q ≡ 0 → table' x q ≡ suc d → (d ≡ suc k) × Onto table (suc k) x q
    pub all : (x q : ℕ) → table x q ≡ 0 → Onto table (suc k) x q → table' x q ≡ suc (suc k)

  -- A round in place, edge by edge: what is handled so far
  pub record Turning (k : ℕ) (table mid : ℕ → ℕ → ℕ) (Handled : ℕ → ℕ → Type 0) : Type 0 where
    pub kept : (x q d : ℕ) → table x q ≡ suc d → mid x q ≡ suc d
    pub made : (x q d : ℕ) → table x q ≡ 0 → mid x q ≡ suc d → (d ≡ suc k) × Onto table (suc k) x q
    pub all : (x q : ℕ) → table x q ≡ 0 → (o : Onto table (suc k) x q) → Handled x o.word → mid x q ≡ suc (suc k)

  pub turning_none : (k : ℕ) (table : ℕ → ℕ → ℕ) → Turning k table table (λ x w. ⊥)
  turning_none k table = record {
    kept = λ x q d i. i;
    made = λ x q d i j. absurd (omega arith);
    all = λ x q i o h. absurd h;
  }

  pub turning_done : (k : ℕ) (table mid : ℕ → ℕ → ℕ) (Handled : ℕ → ℕ → Type 0) → Turning k table mid Handled
      → ((x w : ℕ) → Mem w (edges body x) → Handled x w) → Turned k table mid
  turning_done k table mid Handled t h = record { kept = t.kept; made = t.made; all = λ x q i o. t.all x q i o (h x o.word o.edge) }

  -- the last round's numbers are seen in the table as it is now
  pub turning_sees : (k : ℕ) (table mid : ℕ → ℕ → ℕ) (Handled : ℕ → ℕ → Type 0) → Turning k table mid Handled
      → (x q : ℕ) → (mid x q ≡ suc k) ↔ (table x q ≡ suc k)
  turning_sees k table mid Handled t x q = (go (table x q) refl, t.kept x q k)
    where
      go : (v : ℕ) → table x q ≡ v → mid x q ≡ suc k → table x q ≡ suc k
      go zero i j = absurd (let m = (t.made x q k i j).0 in omega arith)
      go (suc d) i j = let m = t.kept x q d i in i ∙ sym m ∙ j

  -- one edge w of x: a state of x without a number that steps onto the last round's gets the next, and nothing else changes
  pub record Handles (k x w : ℕ) (mid mid' : ℕ → ℕ → ℕ) : Type 0 where
    pub only : (z q : ℕ) → (mid' z q ≡ mid z q)
        ⊎ ((z ≡ x) × (mid z q ≡ 0) × (mid' z q ≡ suc (suc k))
        × ((p : ℕ) × T (running (target_of w)) × T (step holds e q (label_of w) p) × (mid (target_of w) p ≡ suc k)))
    pub every : (q p : ℕ) → mid x q ≡ 0 → T (running (target_of w)) → T (step holds e q (label_of w) p) → mid (target_of w) p ≡ suc k
        → mid' x q ≡ suc (suc k)

  pub turning_edge : (k x w : ℕ) (table mid mid' : ℕ → ℕ → ℕ) (Handled : ℕ → ℕ → Type 0) → Mem w (edges body x)
      → Turning k table mid Handled → Handles k x w mid mid' → Turning k table mid' (λ z v. Handled z v ⊎ ((z ≡ x) × (v ≡ w)))
  turning_edge k x w table mid mid' Handled edge t h = record {
    kept = λ z q d i. let m = t.kept z q d i in ⊎_elim (λ s. s ∙ m) (λ s. absurd (let o = s.1 in omega arith)) (h.only z q);
    made = λ z q d i j. ⊎_elim
        (λ s. t.made z q d i (sym s ∙ j))
        (λ (same, o, n, (p, r, s, v)). (
          omega arith,
          record {
            word = w;
            state = p;
            edge = subst (λ z. Mem w (edges body z)) (sym same) edge;
            enters = r;
            steps = s;
            has = (turning_sees k table mid Handled t (target_of w) p).0 v;
          },
        ))
        (h.only z q);
    all = λ z q i o g. ⊎_elim
        (λ old. let m = t.all z q i o old in ⊎_elim (λ s. s ∙ m) (λ s. s.2) (h.only z q))
        (λ (same, word). new z q i o same word (mid z q) refl)
        g;
  }
    where
      new : (z q : ℕ) → table z q ≡ 0 → (o : Onto table (suc k) z q) → z ≡ x → o.word ≡ w → (v : ℕ) → mid z q ≡ v → mid' z q ≡ suc (suc k)
      new z q i o same word zero j =
          subst (λ z. mid' z q ≡ suc (suc k)) (sym same) (h.every q o.state (subst (λ z. mid z q ≡ 0) same j)
          (subst (λ v. T (running (target_of v))) word o.enters) (subst (λ v. T (step holds e q (label_of v) o.state)) word o.steps)
          (subst (λ v. mid (target_of v) o.state ≡ suc k) word ((turning_sees k table mid Handled t (target_of o.word) o.state).1 o.has)))
      new z q i o same word (suc d) j =
          let m = (t.made z q d i j).0 in ⊎_elim (λ s. omega arith) (λ s. s.2) (h.only z q)

  onto_arrives : (table : ℕ → ℕ → ℕ) (d x q : ℕ) → ((x q : ℕ) → table x q ≡ suc d → Arrives holds running body e y d x q)
      → Onto table (suc d) x q → Arrives holds running body e y (suc d) x q
  onto_arrives table d x q sound o =
      let (ws, l, a) = sound (target_of o.word) o.state o.has in
      (o.word ∷ ws, omega arith, (o.edge, o.enters, o.state, o.steps, a))

  at_end : (ws : List ℕ) (x q : ℕ) → length ws ≡ 0 → Leads holds running body e y x q ws → (x ≡ y) × T (accepts e q)
  at_end [] x q l a = a
  at_end (w ∷ ws) x q l a = absurd (omega arith)

  pub round_first : (table : ℕ → ℕ → ℕ) → ((x q : ℕ) → table x q ≡ one (eqb x y && accepts e q)) → Round 0 table
  round_first table h = record {
    sound = λ x q d i. go x q d (eqb x y && accepts e q) refl (sym (h x q) ∙ i);
    upto = λ x q d i. few d (eqb x y && accepts e q) (sym (h x q) ∙ i);
    full = λ x q d l (ws, n, a).
        let (i, t) = at_end ws x q (omega arith) a in
        (0, omega arith, h x q ∙ ap one (is_true (eqb x y && accepts e q) ((and_iff (eqb x y) (accepts e q)).1 ((eq_iff x y).1 i, t))));
  }
    where
      go : (x q d : ℕ) (b : Bool) → (eqb x y && accepts e q) ≡ b → one b ≡ suc d → Arrives holds running body e y d x q
      go x q d true t i =
          let (a, b) = (and_iff (eqb x y) (accepts e q)).0 (passed t) in
          ([], omega arith, ((eq_iff x y).0 a, b))
      go x q d false t i = absurd (omega arith)

      few : (d : ℕ) (b : Bool) → one b ≡ suc d → d ≤ 0
      few d true i = omega arith
      few d false i = omega arith

  pub round_next : (k : ℕ) (table table' : ℕ → ℕ → ℕ) → Round k table → Turned k table table' → Round (suc k) table'
  round_next k table table' r t = record {
    sound = λ x q d i. was x q d i (table x q) refl;
    upto = λ x q d i. most x q d i (table x q) refl;
    full = λ x q d l a. elim (lt_or_le k d) [
      | inl h ↦ far x q d (omega arith) a (table x q) refl
      | inr h ↦ let (c, m, i) = r.full x q d h a in (c, m, t.kept x q c i)
    ];
  }
    where
      was : (x q d : ℕ) → table' x q ≡ suc d → (v : ℕ) → table x q ≡ v → Arrives holds running body e y d x q
      was x q d i zero j =
          let (m, o) = t.made x q d j i in
          subst (λ d. Arrives holds running body e y d x q) (sym m) (onto_arrives table k x q (λ x q. r.sound x q k) o)
      was x q d i (suc c) j = let m = t.kept x q c j in r.sound x q d (j ∙ sym m ∙ i)

      most : (x q d : ℕ) → table' x q ≡ suc d → (v : ℕ) → table x q ≡ v → d ≤ suc k
      most x q d i zero j = omega (arith, (t.made x q d j i).0)
      most x q d i (suc c) j = let m = t.kept x q c j in omega (arith, r.upto x q d (j ∙ sym m ∙ i))

      far : (x q d : ℕ) → d ≡ suc k → Arrives holds running body e y d x q → (v : ℕ) → table x q ≡ v → (c : ℕ) × (c ≤ d) × (table' x q ≡ suc c)
      far x q d n a (suc c) j = (c, omega (arith, r.upto x q c j), t.kept x q c j)
      far x q d n ([], l, a) zero j = absurd (omega arith)
      far x q d n (w ∷ ws, l, a) zero j =
          let (c, h, i) = r.full (target_of w) a.2 k (omega arith) (ws, omega arith, a.4) in (
            suc k,
            omega arith,
            t.all x q j (record {
              word = w;
              state = a.2;
              edge = a.0;
              enters = a.1;
              steps = a.3;
              has = i ∙ elim (lt_or_le c k) [
                | inl f ↦
                    let (vs, n, b) = r.sound (target_of w) a.2 c i in
                    let (c', g, i') = r.full x q (suc c) f (w ∷ vs, omega arith, (a.0, a.1, a.2, a.3, b)) in
                    absurd (omega arith)
                | inr f ↦ omega arith
              ];
            }),
          )

  -- no number is more than the pairs are, so that sixteen bits hold it
  pub round_small : count e ≤ 15 → (k : ℕ) (table : ℕ → ℕ → ℕ) → Round k table → (x q : ℕ) → table x q ≤ suc (length (nodes body) * 16)
  round_small small k table r x q = go (table x q) refl
    where
      go : (v : ℕ) → table x q ≡ v → v ≤ suc (length (nodes body) * 16)
      go zero i = omega arith
      go (suc d) i =
          let (c, h, a) = short_enough holds running body e y small d x q (r.sound x q d i) in
          let few = pairs_few body e small in
          elim (lt_or_le c d) [
            | inl l ↦ let (b, m, j) = r.full x q c (omega (arith, r.upto x q d i)) a in absurd (omega arith)
            | inr l ↦ omega arith
          ]

  -- what is within k links is told by the table
  pub round_near : (k : ℕ) (table : ℕ → ℕ → ℕ) → Round k table → Near holds running body e y (suc k) (λ d x q. eqb (table x q) (suc d))
  round_near k table r = record {
    sound = λ d x q h l t. r.sound x q d ((eq_iff (table x q) (suc d)).0 t);
    complete = λ d x q h a shorter.
        let (c, l, i) = r.full x q d (omega arith) a in
        (eq_iff (table x q) (suc d)).1 (elim (lt_or_le c d) [ inl g ↦ absurd (shorter c g (r.sound x q c i)) | inr g ↦ omega arith ]);
  }

  -- A round that makes nothing is the last: the table then has a number for whatever arrives
  step_on : (k : ℕ) (table : ℕ → ℕ → ℕ) → Round k table → ((x q : ℕ) → table x q ≡ suc k → ⊥)
      → (ws : List ℕ) (x q : ℕ) → Leads holds running body e y x q ws → (c : ℕ) × (c < k) × (table x q ≡ suc c)
  step_on k table r last [] x q a =
      let (c, l, i) = r.full x q 0 (omega arith) ([], refl, a) in
      (c, elim (lt_or_le c k) [ inl h ↦ h | inr h ↦ absurd (last x q (omega arith)) ], i)
  step_on k table r last (w ∷ ws) x q a =
      let (c, l, i) = step_on k table r last ws (target_of w) a.2 a.4 in
      let (vs, n, b) = r.sound (target_of w) a.2 c i in
      let (d, m, j) = r.full x q (suc c) l (w ∷ vs, omega arith, (a.0, a.1, a.2, a.3, b)) in
      (d, elim (lt_or_le d k) [ inl h ↦ h | inr h ↦ absurd (last x q (omega arith)) ], j)

  pub round_last : (k : ℕ) (table : ℕ → ℕ → ℕ) → Round k table → ((x q : ℕ) → table x q ≡ suc k → ⊥)
      → (x q : ℕ) → table x q ≡ 0 → (d : ℕ) → Arrives holds running body e y d x q → ⊥
  round_last k table r last x q i d (ws, l, a) = let (c, m, j) = step_on k table r last ws x q a in omega arith

-- The finder's answer by the table of a round: as soon as the root has a number, or when a round makes nothing and it has none
module _ (holds : ℕ → ℕ → Bool) (running : ℕ → Bool) (whole : List ℕ) (ok : whole_check whole ≡ 0) (e : Expr) (small : count e ≤ 15) (y : ℕ)
    (r : ℕ) (root : roots (drop 1 whole) ≡ r ∷ []) (k : ℕ) (table : ℕ → ℕ → ℕ) (t : Round holds running (drop 1 whole) e y k table) where
  abbrev body : List ℕ
  body = drop 1 whole

  abbrev ordered : (x : ℕ) → Ascending (edges body x)
  ordered = edges_ascending whole (whole_part whole ok)

  from_start : (ws : List ℕ) → From holds running body e y r (0 ∷ []) ws → Arrives holds running body e y (length ws) r 0
  from_start ws (q, m, l) = (ws, refl, subst (λ q. Leads holds running body e y r q ws) (Memᴰ.eq_of_singleton m) l)

  pub by_table : T (running r) → (d : ℕ) → table r 0 ≡ suc d
      → find holds running body e y ≡ some (choose holds running body e (λ d x q. eqb (table x q) (suc d)) d r (0 ∷ []))
  by_table runs d i =
      let (us, l, a) = t.sound r 0 d i in
      best_found holds running whole ok e small y _ (chosen_best holds running body e y small ordered r root runs (suc k)
      (λ d x q. eqb (table x q) (suc d)) (round_near holds running body e y k table t) d (omega (arith, t.upto r 0 d i)) us l (0, here refl, a)
      (λ vs f. elim (lt_or_le k (length vs)) [
        | inl h ↦ omega (arith, t.upto r 0 d i)
        | inr h ↦ let (c, g, j) = t.full r 0 (length vs) h (from_start vs f) in omega arith
      ]))

  pub by_table_none : ((x q : ℕ) → table x q ≡ suc k → ⊥) → table r 0 ≡ 0 → find holds running body e y ≡ none
  by_table_none last i = (find_none holds running whole ok e small y).1 (λ ws a.
      round_last holds running body e y k table t last r 0 i (length ws) (from_start ws (accepted_from holds running body e y small ordered r root ws a).1))

-- a stopped root has no walk
pub stopped_root : (holds : ℕ → ℕ → Bool) (running : ℕ → Bool) (whole : List ℕ) (ok : whole_check whole ≡ 0) (e : Expr) (small : count e ≤ 15) (y r : ℕ)
    → roots (drop 1 whole) ≡ r ∷ [] → running r ≡ false → find holds running (drop 1 whole) e y ≡ none
stopped_root holds running whole ok e small y r root i = (find_none holds running whole ok e small y).1 (λ ws a.
    let t = (accepted_from holds running (drop 1 whole) e y small (edges_ascending whole (whole_part whole ok)) r root ws a).0 in rw i at t)
