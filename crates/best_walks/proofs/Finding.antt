-- What the finder gives is the best walk, and it gives one just if some walk is accepted. Of an accepted whole file, an expression of at most 15
-- letters and any node. Assumes nothing.
use mathlib.Core.Path.{◌≡◌, refl, sym, subst, ap, ap₂, ◌∙◌}
use mathlib.Core.Logic.{◌↔◌, ◌⊎◌, inl, inr, ⊎_elim}
use mathlib.Core.Bool.{Bool}
use mathlib.Core.List.Memᴰ
use mathlib.Core.List.{List, [], ◌∷◌}
use mathlib.Core.Option.{Option, none, some, some-injective, some-ne-none}
use Prim.Native.Nat.{ℕ, ◌≤◌, ◌<◌}
use native.Mathlib.Omega.{arith}
use lib.Dec.{T}
use lib.ListN.{length, drop}
use Rattle.sets.specs.Sets.{Mem, here, Ascending, filter}
use Rattle.sets.specs.States.{members}
use Rattle.sets.proofs.Tests.{either, passed, is_true}
use Rattle.sets.proofs.Cases.{lt_or_le, ne_cases, eq_or_ne}
use Rattle.sets.proofs.Sets.{least}
use Rattle.sets.proofs.Members.{members_in, in_members}
use Rattle.output.proofs.Ranges.{members_ascending}
use Rattle.files.specs.Part.{whole_check, edges, roots}
use Rattle.files.proofs.Parts.{edges_ascending, whole_part, whole_root}
use Rattle.expressions.specs.Expr.{Expr, count}
use Rattle.file_walks.specs.Walks.{Lower, Accepted, Best}
use Rattle.best_walks.specs.Finder as finder
use Rattle.best_walks.specs.Finder.{choose, from_root, find}
use Rattle.file_walks.proofs.Leading.{Leads, From, accepted_iff}
use Rattle.best_walks.proofs.Choosing.{Arrives, Near, AtLeast, chosen}
use Rattle.best_walks.proofs.Levels.{short_enough, depth, by_level, level_iff, levels_near}

-- Lists that are as long: the same, or one is lower at the first difference
lower_cases : (vs ws : List ℕ) → length vs ≡ length ws → (vs ≡ ws) ⊎ (Lower vs ws ⊎ Lower ws vs)
lower_cases [] [] l = inl refl
lower_cases [] (w ∷ ws) l = absurd (omega arith)
lower_cases (v ∷ vs) [] l = absurd (omega arith)
lower_cases (v ∷ vs) (w ∷ ws) l = ⊎_elim
    (λ e. ⊎_elim
    (λ i. inl (ap₂ ◌∷◌ e i))
    (λ i. inr (⊎_elim (λ k. inl (inr (e, k))) (λ k. inr (inr (sym e, k))) i))
    (lower_cases vs ws (omega arith)))
    (λ n. inr (⊎_elim (λ k. inl (inl k)) (λ k. inr (inl k)) (ne_cases v w n)))
    (eq_or_ne v w)

module _ (holds : ℕ → ℕ → Bool) (running : ℕ → Bool) (body : List ℕ) (e : Expr) (y : ℕ) where
  -- there is one best walk at most, whatever the file
  pub best_unique : (vs ws : List ℕ) → Best holds running body e y vs → Best holds running body e y ws → vs ≡ ws
  best_unique vs ws a b =
      let l : length vs ≡ length ws = omega (arith, a.shortest ws b.accepted, b.shortest vs a.accepted) in
      ⊎_elim (λ i. i)
      (λ i. absurd (⊎_elim (b.lowest vs a.accepted l) (a.lowest ws b.accepted (sym l)) i))
      (lower_cases vs ws l)

  -- an answer: nothing, and no walk is accepted; or the best walk
  abbrev Nothing : Option (List ℕ) → Type 0
  Nothing o = (o ≡ none) × ((ws : List ℕ) → Accepted holds running body e y ws → ⊥)

  abbrev Something : Option (List ℕ) → Type 0
  Something o = (ws : List ℕ) × (o ≡ some ws) × Best holds running body e y ws

  module _ (small : count e ≤ 15) (ordered : (x : ℕ) → Ascending (edges body x)) (r : ℕ) (one : roots body ≡ r ∷ []) where
    abbrev near : ℕ → ℕ → ℕ → Bool
    near = by_level holds running body e y

    abbrev n' : ℕ
    n' = depth body e

    find_is : find holds running body e y ≡ from_root holds running body e near n' (filter running (r ∷ []))
    unfolding find
    find_is = rw one

    root_is : {z : ℕ} → Mem z (roots body) → z ≡ r
    root_is m = Memᴰ.eq_of_singleton (rw one at m)

    -- an accepted walk leads from the root with the start state
    pub accepted_from : (ws : List ℕ) → Accepted holds running body e y ws → T (running r) × From holds running body e y r (0 ∷ []) ws
    accepted_from ws a =
        let (z, m, t, f) = (accepted_iff holds running body e y ws).0 a in
        (subst (λ z. T (running z)) (root_is m) t, subst (λ z. From holds running body e y z (0 ∷ []) ws) (root_is m) f)

    from_accepted : (ws : List ℕ) → T (running r) → From holds running body e y r (0 ∷ []) ws → Accepted holds running body e y ws
    from_accepted ws t f = (accepted_iff holds running body e y ws).1 (r, rw one (here refl), t, f)

    from_start : (ws : List ℕ) → From holds running body e y r (0 ∷ []) ws → Arrives holds running body e y (length ws) r 0
    from_start ws (q, m, l) = (ws, refl, subst (λ q. Leads holds running body e y r q ws) (Memᴰ.eq_of_singleton m) l)

    -- what is chosen from the root by the least number of links is the best walk, whatever tells what is near
    pub chosen_best : T (running r) → (n : ℕ) (near : ℕ → ℕ → ℕ → Bool) → Near holds running body e y n near → (d : ℕ) → d ≤ n → (us : List ℕ) → length us ≡ d
        → From holds running body e y r (0 ∷ []) us → AtLeast holds running body e y d r (0 ∷ [])
        → Best holds running body e y (choose holds running body e near d r (0 ∷ []))
    chosen_best t n near known d h us l f fewest =
        let c = chosen holds running body e y n near known ordered d h r (0 ∷ []) us l f fewest in
        record {
          accepted = from_accepted (choose holds running body e near d r (0 ∷ [])) t c.leads;
          shortest = λ vs a. omega (arith, c.long, fewest vs (accepted_from vs a).1);
          lowest = λ vs a i. c.lowest vs (omega (arith, c.long)) (accepted_from vs a).1;
        }

    is_listed : (d : ℕ) → d < n' → Arrives holds running body e y d r 0 → Mem d (members (λ d. near d r 0) 0 n')
    is_listed d h a =
        members_in (λ d. near d r 0) 0 n' d (omega arith) (omega arith)
        (is_true (near d r 0) ((level_iff holds running body e y small d r 0 h (omega arith)).1 a))

    by_distance : T (running r) → (ds : List ℕ) → members (λ d. near d r 0) 0 n' ≡ ds
        → Nothing (finder.least (λ d. choose holds running body e near d r (0 ∷ [])) ds)
        ⊎ Something (finder.least (λ d. choose holds running body e near d r (0 ∷ [])) ds)
    by_distance t [] q = inl (
      refl,
      λ ws a.
          let (c, h, b) = short_enough holds running body e y small (length ws) r 0 (from_start ws (accepted_from ws a).1) in
          elim (subst (Mem c) q (is_listed c (omega arith) b)) [ ],
    )
    by_distance t (d ∷ ds) q =
        let (g, u, k) = in_members (λ d. near d r 0) 0 n' d (subst (Mem d) (sym q) (here refl)) in
        let (us, l, a) = (level_iff holds running body e y small d r 0 (omega arith) (omega arith)).0 (passed k) in
        inr (
          choose holds running body e near d r (0 ∷ []),
          refl,
          chosen_best t n' near (levels_near holds running body e y small) d (omega arith) us l
              (0, here refl, a) fewest,
        )
      where
        fewest : (vs : List ℕ) → From holds running body e y r (0 ∷ []) vs → d ≤ length vs
        fewest vs f = elim (lt_or_le (length vs) n') [
          | inl h ↦ least (subst Ascending q (members_ascending (λ d. near d r 0) 0 n')) (subst (Mem (length vs)) q (is_listed (length vs) h (from_start vs f)))
          | inr h ↦ omega (arith, (in_members (λ d. near d r 0) 0 n' d (subst (Mem d) (sym q) (here refl))).1)
        ]

    finding : Nothing (find holds running body e y) ⊎ Something (find holds running body e y)
    finding = subst (λ o. Nothing o ⊎ Something o) (sym find_is) (elim (either (running r)) [
      | inl t ↦ rw t (by_distance (passed t) (members (λ d. near d r 0) 0 n') refl)
      | inr t ↦ rw t (inl (refl, λ ws a. rw t at (accepted_from ws a).0))
    ])

-- Of an accepted whole file
module _ (holds : ℕ → ℕ → Bool) (running : ℕ → Bool) (whole : List ℕ) (ok : whole_check whole ≡ 0) (e : Expr) (small : count e ≤ 15) (y : ℕ) where
  abbrev body : List ℕ
  body = drop 1 whole

  abbrev result : Option (List ℕ)
  result = find holds running body e y

  found : Nothing holds running body e y result ⊎ Something holds running body e y result
  found =
      let (r, one) = whole_root whole ok in
      finding holds running body e y small (edges_ascending whole (whole_part whole ok)) r one

  -- what the finder gives is the best walk
  pub find_best : (ws : List ℕ) → result ≡ some ws → Best holds running body e y ws
  find_best ws i = ⊎_elim
      (λ n. absurd (some-ne-none ws (sym i ∙ n.0)))
      (λ s. subst (Best holds running body e y) (some-injective s.0 ws (sym s.1 ∙ i)) s.2)
      found

  -- and the best walk is what it gives
  pub best_found : (ws : List ℕ) → Best holds running body e y ws → result ≡ some ws
  best_found ws b = ⊎_elim
      (λ n. absurd (n.1 ws b.accepted))
      (λ s. s.1 ∙ ap {B = Option (List ℕ)} some (best_unique holds running body e y s.0 ws s.2 b))
      found

  -- it gives one just if some walk is accepted
  pub find_iff : ((ws : List ℕ) × (result ≡ some ws)) ↔ ((ws : List ℕ) × Accepted holds running body e y ws)
  find_iff = (
    λ (ws, i). (ws, (find_best ws i).accepted),
    λ (ws, a). ⊎_elim (λ n. absurd (n.1 ws a)) (λ s. (s.0, s.1)) found,
  )

  pub find_none : (result ≡ none) ↔ ((ws : List ℕ) → Accepted holds running body e y ws → ⊥)
  find_none = (
    λ i ws a. let (vs, j) = find_iff.1 (ws, a) in some-ne-none vs (sym j ∙ i),
    λ no_Walk. ⊎_elim (λ n. n.0) (λ s. absurd (no_Walk s.0 s.2.accepted)) found,
  )
