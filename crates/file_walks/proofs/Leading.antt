-- Walks with the automaton beside them: `Leads` takes the textbook word apart into single steps, and `From` has a set of states for one state.
-- Checker and finder both go by `from_cons`: a set of states takes one edge. Assumes nothing.
use mathlib.Core.Path.{◌≡◌, refl, sym, subst}
use mathlib.Core.Logic.{◌↔◌}
use mathlib.Core.Bool.{Bool}
use mathlib.Core.List.Memᴰ
use mathlib.Core.List.{List, [], ◌∷◌, map}
use Prim.Native.Nat.{ℕ, zero, suc, ◌≤◌}
use native.Mathlib.Omega.{arith}
use lib.Dec.{T}
use Rattle.sets.specs.Sets.{Mem, here, any}
use Rattle.sets.proofs.Tests.{passed, is_true, and_iff}
use Rattle.sets.proofs.Filter.{any_iff}
use Rattle.sets.proofs.Members.{members_in, in_members}
use Rattle.files.specs.Field.{label_of, target_of}
use Rattle.files.specs.Part.{edges, roots}
use Rattle.expressions.specs.Expr.{Expr, count}
use Rattle.expressions.specs.Positions.{follow, label_word, step, accepts, Run}
use Rattle.expressions.proofs.Ranges.{step_range, last_within, follow_within}
use Rattle.expressions.proofs.Glushkov.{glushkov}
use Rattle.file_walks.specs.Walks.{Along, Accepted}
use Rattle.file_walks.specs.Moving.{moved}

module _ (holds : ℕ → ℕ → Bool) (e : Expr) where
  pub moved_iff : (s : List ℕ) (a p : ℕ) → Mem p (moved holds e s a) ↔ ((q : ℕ) × Mem q s × T (step holds e q a p))
  moved_iff s a p = (
    λ m. (any_iff test s).0 (passed (in_members may 0 (suc (count e)) p m).2),
    λ r. members_in may 0 (suc (count e)) p (omega arith) (omega (arith, (step_range holds e r.0 a p r.2).1)) (is_true (may p) ((any_iff test s).1 r)),
  )
    where
      may : ℕ → Bool
      may p = any (λ q. step holds e q a p) s

      test : ℕ → Bool
      test q = step holds e q a p

  pub moved_small : (s : List ℕ) (a p : ℕ) → Mem p (moved holds e s a) → p ≤ count e
  moved_small s a p m = let r = (moved_iff s a p).0 m in (step_range holds e r.0 a p r.2).1

  -- a step goes from a state of the expression
  pub step_from : (q a p : ℕ) → T (step holds e q a p) → q ≤ count e
  step_from zero a p t = omega arith
  step_from (suc q) a p t = omega (arith, follow_within e 0 (suc q) p ((and_iff (follow e 0 (suc q) p) (holds (label_word e p) a)).0 t).0)

module _ (holds : ℕ → ℕ → Bool) (running : ℕ → Bool) (body : List ℕ) (e : Expr) (y : ℕ) where
  -- from x in state q the words lead to y and an accepting state
  abbrev pub Leads : ℕ → ℕ → List ℕ → Type 0
  Leads x q [] = (x ≡ y) × T (accepts e q)
  Leads x q (w ∷ ws) =
      Mem w (edges body x) × T (running (target_of w)) × (p : ℕ) × T (step holds e q (label_of w) p) × Leads (target_of w) p ws

  -- and from x with some state of s
  abbrev pub From : ℕ → List ℕ → List ℕ → Type 0
  From x s ws = (q : ℕ) × Mem q s × Leads x q ws

  -- only states of the expression do
  pub leads_small : (ws : List ℕ) (x q : ℕ) → Leads x q ws → q ≤ count e
  leads_small [] x zero l = omega arith
  leads_small [] x (suc q) l = omega (arith, last_within e 0 (suc q) l.1)
  leads_small (w ∷ ws) x q l = step_from holds e q (label_of w) l.2 l.3

  leads_iff : (ws : List ℕ) (x q : ℕ) → Leads x q ws ↔ (Along running body x ws y × ((p : ℕ) × Run holds e q (map label_of ws) p × T (accepts e p)))
  leads_iff [] x q = (λ l. (l.0, (q, refl, l.1)), λ r. (r.0, subst (λ p. T (accepts e p)) (sym r.1.1) r.1.2))
  leads_iff (w ∷ ws) x q = (
    λ l. let r = (leads_iff ws (target_of w) l.2).0 l.4 in ((l.0, l.1, r.0), (r.1.0, (l.2, l.3, r.1.1), r.1.2)),
    λ r.
        let (p, s, run) = r.1.1 in
        (r.0.0, r.0.1, p, s, (leads_iff ws (target_of w) p).1 (r.0.2, (r.1.0, run, r.1.2))),
  )

  pub accepted_iff : (ws : List ℕ) → Accepted holds running body e y ws ↔ ((r : ℕ) × Mem r (roots body) × T (running r) × From r (0 ∷ []) ws)
  accepted_iff ws = (
    λ a. (a.root, a.is_root_lem, a.starts, (0, here refl, (leads_iff ws a.root 0).1 (a.along, (glushkov holds e (map label_of ws)).0 a.word))),
    λ (r, m, t, (q, k, l)).
        let l = (leads_iff ws r 0).0 (subst (λ q. Leads r q ws) (Memᴰ.eq_of_singleton k) l) in
        record { root = r; is_root_lem = m; starts = t; along = l.0; word = (glushkov holds e (map label_of ws)).1 l.1 },
  )

  pub from_cons : (w : ℕ) (ws : List ℕ) (x : ℕ) (s : List ℕ)
      → From x s (w ∷ ws) ↔ (Mem w (edges body x) × T (running (target_of w)) × From (target_of w) (moved holds e s (label_of w)) ws)
  from_cons w ws x s = (
    λ (q, m, l). (l.0, l.1, (l.2, (moved_iff holds e s (label_of w) l.2).1 (q, m, l.3), l.4)),
    λ (m, t, (p, k, l)). let (q, i, s) = (moved_iff holds e s (label_of w) p).0 k in (q, i, (m, t, p, s, l)),
  )
