-- The greedy choice. Where `near` tells which pairs arrive by how many links, the words that `choose` gives from a node with a set of states lead to y,
-- are as many as asked, and none as short that leads to y is lower: `chosen`. It asks of `near` only what a table of least distances gives
-- (`Near`), so that it serves the definition's levels and a program's table alike. Assumes nothing.
use mathlib.Core.Path.{◌≡◌, refl, sym, subst, ap, ◌∙◌}
use mathlib.Core.Logic.{◌↔◌, inl, inr}
use mathlib.Core.Bool.{Bool, true, false, ◌&&◌}
use mathlib.Core.List.{List, [], ◌∷◌, ◌++◌}
use Prim.Native.Nat.{ℕ, zero, suc, ◌≤◌, ◌<◌}
use native.Mathlib.Omega.{arith}
use lib.Dec.{T}
use lib.ListN.{length}
use Rattle.sets.specs.Sets.{Mem, here, Ascending, any, filter}
use Rattle.sets.proofs.Tests.{and_iff}
use Rattle.sets.proofs.Sets.{least, filter_iff, filter_ascending}
use Rattle.sets.proofs.Filter.{any_iff, filter_append, filter_none}
use Rattle.files.specs.Field.{label_of, target_of}
use Rattle.files.specs.Part.{edges}
use Rattle.expressions.specs.Expr.{Expr, count}
use Rattle.file_walks.specs.Walks.{Lower}
use Rattle.file_walks.specs.Moving.{moved}
use Rattle.best_walks.specs.Finder.{first, opens, choose}
use Rattle.file_walks.proofs.Leading.{moved_small, Leads, From, from_cons}

lower_nil : (us : List ℕ) → Lower us [] → ⊥
lower_nil [] l = l
lower_nil (u ∷ us) l = l

module _ (holds : ℕ → ℕ → Bool) (running : ℕ → Bool) (body : List ℕ) (e : Expr) (y : ℕ) where
  -- (x, q) arrives by d links
  abbrev pub Arrives : ℕ → ℕ → ℕ → Type 0
  Arrives d x q = (ws : List ℕ) × (length ws ≡ d) × Leads holds running body e y x q ws

  -- `near` tells what arrives by fewer than n links, at least where nothing shorter does
  pub record Near (n : ℕ) (near : ℕ → ℕ → ℕ → Bool) : Type 0 where
    pub sound : (d x q : ℕ) → d < n → q ≤ count e → T (near d x q) → Arrives d x q
    pub complete : (d x q : ℕ) → d < n → Arrives d x q → ((j : ℕ) → j < d → Arrives j x q → ⊥) → T (near d x q)

  -- from x with the states s the words lead to y, d words, and none that does so by d words is lower
  pub record Chosen (d x : ℕ) (s vs : List ℕ) : Type 0 where
    pub leads : From holds running body e y x s vs
    pub long : length vs ≡ d
    pub lowest : (us : List ℕ) → length us ≡ d → From holds running body e y x s us → Lower us vs → ⊥

  -- no words lead to y that are fewer than d
  abbrev pub AtLeast : ℕ → ℕ → List ℕ → Type 0
  AtLeast d x s = (vs : List ℕ) → From holds running body e y x s vs → d ≤ length vs

  module _ (n' : ℕ) (near : ℕ → ℕ → ℕ → Bool) (known : Near n' near) (ordered : (x : ℕ) → Ascending (edges body x)) where
    -- one link: `IH` are the d links behind it
    module _ (d : ℕ) (below : d < n')
        (IH : (x : ℕ) (s us : List ℕ) → length us ≡ d → From holds running body e y x s us → AtLeast d x s → Chosen d x s (choose holds running body e near d x s))
        (x : ℕ) (s : List ℕ) (fewest : AtLeast (suc d) x s) where
      abbrev good : ℕ → Bool
      good w = running (target_of w) && any (near d (target_of w)) (moved holds e s (label_of w))

      -- an edge is open just if d more links lead on from it
      open_iff : (w : ℕ) → Mem w (opens holds running body e (near d) x s)
          ↔ ((vs : List ℕ) × (length vs ≡ d) × From holds running body e y x s (w ∷ vs))
      open_iff w = (
        λ m.
            let (k, t) = (filter_iff good w (edges body x)).0 m in
            let (r, t) = (and_iff (running (target_of w)) (any (near d (target_of w)) (moved holds e s (label_of w)))).0 t in
            let (p, i, t) = (any_iff (near d (target_of w)) (moved holds e s (label_of w))).0 t in
            let (vs, l, f) = known.sound d (target_of w) p below (moved_small holds e s (label_of w) p i) t in
            (vs, l, (from_cons holds running body e y w vs x s).1 (k, r, (p, i, f))),
        λ (vs, l, f).
            let (k, r, (p, i, f)) = (from_cons holds running body e y w vs x s).0 f in
            (filter_iff good w (edges body x)).1 (
              k,
              (and_iff (running (target_of w)) (any (near d (target_of w)) (moved holds e s (label_of w)))).1 (
                r,
                (any_iff (near d (target_of w)) (moved holds e s (label_of w))).1 (
                  p,
                  i,
                  known.complete d (target_of w) p below (vs, l, f)
                      (λ j h (us, n, g). omega (arith, fewest (w ∷ us) ((from_cons holds running body e y w us x s).1 (k, r, (p, i, g))))),
                ),
              ),
            ),
      )

      one_link : (us : List ℕ) → length us ≡ suc d → From holds running body e y x s us
          → (ws : List ℕ) → opens holds running body e (near d) x s ≡ ws
          → Chosen (suc d) x s (first ws (λ w. choose holds running body e near d (target_of w) (moved holds e s (label_of w))))
      one_link [] l f ws q = absurd (omega arith)
      one_link (u ∷ us) l f [] q = elim (subst (Mem u) q ((open_iff u).1 (us, omega arith, f))) [ ]
      one_link (u ∷ us) l f (w ∷ ws) q =
          let (vs, n, g) = (open_iff w).0 (subst (Mem w) (sym q) (here refl)) in
          let (k, r, g) = (from_cons holds running body e y w vs x s).0 g in
          let c = IH (target_of w) (moved holds e s (label_of w)) vs n g
          (λ vs h. let m = fewest (w ∷ vs) ((from_cons holds running body e y w vs x s).1 (k, r, h)) in omega arith) in
          record {
            leads = (from_cons holds running body e y w (choose holds running body e near d (target_of w) (moved holds e s (label_of w))) x s).1 (k, r, c.leads);
            long = ap suc c.long;
            lowest = low c;
          }
        where
          low : Chosen d (target_of w) (moved holds e s (label_of w)) (choose holds running body e near d (target_of w) (moved holds e s (label_of w)))
              → (vs : List ℕ) → length vs ≡ suc d → From holds running body e y x s vs
              → Lower vs (w ∷ choose holds running body e near d (target_of w) (moved holds e s (label_of w))) → ⊥
          low c [] n g h = h
          low c (v ∷ vs) n g (inl h) =
              let a : Ascending (w ∷ ws) = subst Ascending q (filter_ascending good (edges body x) (ordered x)) in
              omega (arith, least a (subst (Mem v) q ((open_iff v).1 (vs, omega arith, g))))
          low c (v ∷ vs) n g (inr h) =
              let g' = (from_cons holds running body e y w vs x s).0 (subst (λ v. From holds running body e y x s (v ∷ vs)) h.0 g) in
              c.lowest vs (omega arith) g'.2 h.1

    pub chosen : (d : ℕ) → d ≤ n' → (x : ℕ) (s us : List ℕ) → length us ≡ d → From holds running body e y x s us → AtLeast d x s
        → Chosen d x s (choose holds running body e near d x s)
    unfolding choose
    chosen zero h x s [] l f fewest = record { leads = f; long = refl; lowest = λ vs n g. lower_nil vs }
    chosen zero h x s (u ∷ us) l f fewest = absurd (omega arith)
    chosen (suc d) h x s us l f fewest = one_link d h (chosen d (omega arith)) x s fewest us l f (opens holds running body e (near d) x s) refl

  -- One turn of a scan over a node's edges: the first one by which some state still arrives is the one
  pub choose_step : (near : ℕ → ℕ → ℕ → Bool) (d x : ℕ) (s before after : List ℕ) (w : ℕ) → edges body x ≡ before ++ w ∷ after
      → ((v : ℕ) → Mem v before → (running (target_of v) && any (near d (target_of v)) (moved holds e s (label_of v))) ≡ false)
      → (running (target_of w) && any (near d (target_of w)) (moved holds e s (label_of w))) ≡ true
      → choose holds running body e near (suc d) x s ≡ w ∷ choose holds running body e near d (target_of w) (moved holds e s (label_of w))
  unfolding choose
  choose_step near d x s before after w i none t =
      let p : ℕ → Bool = λ w. running (target_of w) && any (near d (target_of w)) (moved holds e s (label_of w)) in
      let f : ℕ → List ℕ = λ w. choose holds running body e near d (target_of w) (moved holds e s (label_of w)) in
      ap (λ ws. first (filter p ws) f) i
      ∙ ap (λ ws. first ws f) (filter_append p before (w ∷ after))
      ∙ ap (λ ws. first (ws ++ filter p (w ∷ after)) f) (filter_none p before none)
      ∙ rw t refl
