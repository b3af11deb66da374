-- The levels of the finder: level i has the pairs that arrive by i links (`levels_tell`), and whatever arrives does so by no more links than there are
-- pairs of a node and a state (`short_enough`: a walk that comes to a pair twice is cut there). Assumes nothing.
use mathlib.Core.Path.{◌≡◌, refl, sym, subst, subst₂}
use mathlib.Core.Logic.{◌↔◌, ⊎_elim}
use mathlib.Core.Bool.{Bool, true, ◌&&◌}
use mathlib.Core.List.Memᴰ
use mathlib.Core.List.{List, [], ◌∷◌, map}
use Prim.Native.Nat.{ℕ, zero, suc, ◌+◌, ◌*◌, ◌≤◌, ◌<◌}
use native.Mathlib.Omega.{arith}
use lib.Dec.{T}
use lib.ListN.{length, get_or, length-map}
use Rattle.sets.specs.Sets.{Mem, here, there, ◌⊆◌, Distinct, member, any}
use Rattle.sets.specs.States.{members}
use Rattle.sets.proofs.Tests.{passed, is_true, and_iff}
use Rattle.sets.proofs.Sets.{member_iff, mem_dec, filter_iff, flatten_map_iff}
use Rattle.sets.proofs.Filter.{any_iff}
use Rattle.sets.proofs.Members.{members_in, in_members, members_length}
use Rattle.sets.proofs.Lengths.{pigeonhole}
use Rattle.sets.proofs.Sums.{at_most, by_length, flatten_by}
use Rattle.files.specs.Field.{label_of, target_of, pair, pair_node, pair_state}
use Rattle.files.specs.Part.{edges, nodes}
use Rattle.files.proofs.Fields.{pair_node_lem, pair_state_lem}
use Rattle.files.proofs.Blocks.{edge_of}
use Rattle.expressions.specs.Expr.{Expr, count}
use Rattle.expressions.specs.Positions.{step, accepts}
use Rattle.file_walks.specs.Moving.{moved}
use Rattle.best_walks.specs.Finder.{pairs, back, levels, arrived}
use Rattle.file_walks.proofs.Leading.{moved_iff, moved_small, Leads, leads_small}
use Rattle.best_walks.proofs.Choosing.{Arrives, Near}

module _ (body : List ℕ) (e : Expr) where
  pub pairs_in : (x q : ℕ) → Mem x (nodes body) → q ≤ count e → Mem (pair x q) (pairs body e)
  unfolding pairs
  pairs_in x q m h =
      (flatten_map_iff (λ x. map (pair x) (members (λ q. true) 0 (suc (count e)))) (pair x q) (nodes body)).1
      (x, m, Memᴰ.map (pair x) (members_in (λ q. true) 0 (suc (count e)) q (omega arith) (omega arith) refl))

  -- at most 16 for each node
  pub pairs_few : count e ≤ 15 → length (pairs body e) ≤ length (nodes body) * 16
  unfolding pairs
  pairs_few small =
      flatten_by at_most by_length (λ x. map (pair x) (members (λ q. true) 0 (suc (count e)))) 16 (nodes body) (λ x m.
      omega (arith, length-map (members (λ q. true) 0 (suc (count e))) (pair x), members_length (λ q. true) 0 (suc (count e))))

  -- as many levels as the finder has
  abbrev pub depth : ℕ
  depth = suc (length (pairs body e))

module _ (holds : ℕ → ℕ → Bool) (running : ℕ → Bool) (body : List ℕ) (e : Expr) where
  -- what they tell
  abbrev pub by_level : ℕ → ℕ → ℕ → ℕ → Bool
  by_level y d x q = member (pair x q) (get_or (levels holds running body e (depth body e) (arrived e y)) d [])

  module _ (y : ℕ) (small : count e ≤ 15) where
    -- the list has the pairs that arrive by i links
    abbrev Tells : ℕ → List ℕ → Type 0
    Tells i level = (x q : ℕ) → q ≤ count e → Mem (pair x q) level ↔ Arrives holds running body e y i x q

    arrived_tells : Tells 0 (arrived e y)
    unfolding arrived
    arrived_tells x q h = (
      λ m.
          let (p, k, i) = Memᴰ.of_map (pair y) (members (accepts e) 0 (suc (count e))) m in
          let (l, u, t) = in_members (accepts e) 0 (suc (count e)) p k in
          let same : p ≡ q = omega arith in
          ([], refl, (omega arith, subst (λ p. T (accepts e p)) same (passed t))),
      λ (ws, l, a). at_end ws l a,
    )
      where
        at_end : (ws : List ℕ) → length ws ≡ 0 → Leads holds running body e y x q ws → Mem (pair x q) (map (pair y) (members (accepts e) 0 (suc (count e))))
        at_end [] l a =
            subst (λ x. Mem (pair x q) (map (pair y) (members (accepts e) 0 (suc (count e))))) (sym a.0)
            (Memᴰ.map (pair y) (members_in (accepts e) 0 (suc (count e)) q (omega arith) (omega arith) (is_true (accepts e q) a.1)))
        at_end (w ∷ ws) l a = absurd (omega arith)

    -- one link more
    module _ (i : ℕ) (level : List ℕ) (tells : Tells i level) where
      abbrev onto : ℕ → ℕ → Bool
      onto w p = member (pair (target_of w) p) level

      abbrev by : ℕ → ℕ → Bool
      by q w = running (target_of w) && any (onto w) (moved holds e (q ∷ []) (label_of w))

      by_iff : (x q : ℕ) → T (any (by q) (edges body x)) ↔ Arrives holds running body e y (suc i) x q
      by_iff x q = (
        λ t.
            let (w, m, t) = (any_iff (by q) (edges body x)).0 t in
            let (r, t) = (and_iff (running (target_of w)) (any (onto w) (moved holds e (q ∷ []) (label_of w)))).0 t in
            let (p, k, t) = (any_iff (onto w) (moved holds e (q ∷ []) (label_of w))).0 t in
            let (ws, l, a) = (tells (target_of w) p (moved_small holds e (q ∷ []) (label_of w) p k)).0 ((member_iff (pair (target_of w) p) level).0 t) in
            let (q', j, s) = (moved_iff holds e (q ∷ []) (label_of w) p).0 k in
            (w ∷ ws, omega arith, (m, r, p, subst (λ q. T (step holds e q (label_of w) p)) (only j) s, a)),
        λ (ws, l, a). onward ws l a,
      )
        where
          only : {z : ℕ} → Mem z (q ∷ []) → z ≡ q
          only m = ⊎_elim (λ k. k) (λ k. elim k [ ]) (Memᴰ.cases_cons m)

          onward : (ws : List ℕ) → length ws ≡ suc i → Leads holds running body e y x q ws → T (any (by q) (edges body x))
          onward [] l a = absurd (omega arith)
          onward (w ∷ ws) l a =
              let p = a.2 in
              let k = (moved_iff holds e (q ∷ []) (label_of w) p).1 (q, here refl, a.3) in
              let m = (tells (target_of w) p (moved_small holds e (q ∷ []) (label_of w) p k)).1 (ws, omega arith, a.4) in
              (any_iff (by q) (edges body x)).1 (
                w,
                a.0,
                (and_iff (running (target_of w)) (any (onto w) (moved holds e (q ∷ []) (label_of w)))).1 (
                  a.1,
                  (any_iff (onto w) (moved holds e (q ∷ []) (label_of w))).1 (p, k, (member_iff (pair (target_of w) p) level).1 m),
                ),
              )

      back_tells : Tells (suc i) (back holds running body e level)
      unfolding back
      back_tells x q h =
          let f = filter_iff (λ c. any (by (pair_state c)) (edges body (pair_node c))) (pair x q) (pairs body e) in (
            λ m. (by_iff x q).0 (rw (pair_node_lem x q (omega arith), pair_state_lem x q (omega arith)) at (f.0 m).1),
            λ a. f.1 (pairs_in body e x q (has_node_lem a) h, rw (pair_node_lem x q (omega arith), pair_state_lem x q (omega arith)) ((by_iff x q).1 a)),
          )
        where
          has_node_lem : Arrives holds running body e y (suc i) x q → Mem x (nodes body)
          has_node_lem ([], l, a) = absurd (omega arith)
          has_node_lem (w ∷ ws, l, a) = (edge_of body x w a.0).2

    levels_tell : (n i k : ℕ) (level : List ℕ) → Tells k level → i < n → Tells (k + i) (get_or (levels holds running body e n level) i [])
    unfolding levels
    levels_tell zero i k level t h = absurd (omega arith)
    levels_tell (suc n) zero k level t h = let same : k ≡ k + 0 = omega arith in subst (λ j. Tells j level) same t
    levels_tell (suc n) (suc i) k level t h =
        let same : suc k + i ≡ k + suc i = omega arith in
        subst (λ j. Tells j (get_or (levels holds running body e n (back holds running body e level)) i [])) same
        (levels_tell n i (suc k) (back holds running body e level) (back_tells k level t) (omega arith))

    -- A walk that comes to no pair twice

    -- the pairs that it comes to, the first and the last too
    abbrev trace : (ws : List ℕ) (x q : ℕ) → Leads holds running body e y x q ws → List ℕ
    trace [] x q l = pair x q ∷ []
    trace (w ∷ ws) x q l = pair x q ∷ trace ws (target_of w) l.2 l.4

    trace_length : (ws : List ℕ) (x q : ℕ) (l : Leads holds running body e y x q ws) → length (trace ws x q l) ≡ suc (length ws)
    trace_length [] x q l = refl
    trace_length (w ∷ ws) x q l = omega (arith, trace_length ws (target_of w) l.2 l.4)

    -- from (x, q), coming to no pair twice
    abbrev Simple : ℕ → ℕ → Type 0
    Simple x q = (ws : List ℕ) × (l : Leads holds running body e y x q ws) × Distinct (trace ws x q l)

    -- what is left of it from a pair on
    rest_of : (ws : List ℕ) (x q : ℕ) (l : Leads holds running body e y x q ws) → Distinct (trace ws x q l)
        → (z p : ℕ) → p ≤ count e → Mem (pair z p) (trace ws x q l) → Simple z p
    rest_of [] x q l d z p h m = ⊎_elim
        (λ k. let g = leads_small holds running body e y [] x q l in
        let i : x ≡ z = omega arith in let j : q ≡ p = omega arith in subst₂ Simple i j ([], l, d))
        (λ k. elim k [ ])
        (Memᴰ.cases_cons m)
    rest_of (w ∷ ws) x q l d z p h m = ⊎_elim
        (λ k. let g = leads_small holds running body e y (w ∷ ws) x q l in
        let i : x ≡ z = omega arith in let j : q ≡ p = omega arith in subst₂ Simple i j (w ∷ ws, l, d))
        (λ k. rest_of ws (target_of w) l.2 l.4 d.1 z p h k)
        (Memᴰ.cases_cons m)

    cut : (ws : List ℕ) (x q : ℕ) → Leads holds running body e y x q ws → Simple x q
    cut [] x q l = ([], l, (λ m. elim m [ ], tt))
    cut (w ∷ ws) x q l =
        let (vs, k, d) = cut ws (target_of w) l.2 l.4 in
        elim (mem_dec (pair x q) (trace vs (target_of w) l.2 k)) [
          | yes m ↦ rest_of vs (target_of w) l.2 k d x q (leads_small holds running body e y (w ∷ ws) x q l) m
          | no n ↦ (w ∷ vs, (l.0, l.1, l.2, l.3, k), (n, d))
        ]

    -- all but the last are pairs of a node of the file
    within : (ws : List ℕ) (x q : ℕ) (l : Leads holds running body e y x q ws) → (c : ℕ) × (trace ws x q l ⊆ (c ∷ pairs body e))
    within [] x q l = (pair x q, λ z m. ⊎_elim (λ k. here k) (λ k. elim k [ ]) (Memᴰ.cases_cons m))
    within (w ∷ ws) x q l =
        let (c, f) = within ws (target_of w) l.2 l.4 in
        let m : Mem (pair x q) (pairs body e) = pairs_in body e x q (edge_of body x w l.0).2 (leads_small holds running body e y (w ∷ ws) x q l) in
        (c, λ z n. ⊎_elim (λ k. there (subst (λ z. Mem z (pairs body e)) (sym k) m)) (λ k. f z k) (Memᴰ.cases_cons n))

    pub short_enough : (d x q : ℕ) → Arrives holds running body e y d x q
        → (c : ℕ) × (c ≤ length (pairs body e)) × Arrives holds running body e y c x q
    short_enough d x q (ws, i, l) =
        let (vs, k, apart) = cut ws x q l in
        let (c, f) = within vs x q k in
        (length vs, omega (arith, trace_length vs x q k, pigeonhole (trace vs x q k) (c ∷ pairs body e) apart f), (vs, refl, k))

    -- they have just what arrives by as many links
    pub level_iff : (d x q : ℕ) → d < depth body e → q ≤ count e → T (by_level y d x q) ↔ Arrives holds running body e y d x q
    level_iff d x q h k =
        let i = levels_tell (depth body e) d 0 (arrived e y) arrived_tells h x q k in
        let same : 0 + d ≡ d = omega arith in
        let j = member_iff (pair x q) (get_or (levels holds running body e (depth body e) (arrived e y)) d []) in (
          λ t. subst (λ d. Arrives holds running body e y d x q) same (i.0 (j.0 t)),
          λ a. j.1 (i.1 (subst (λ d. Arrives holds running body e y d x q) (sym same) a)),
        )

    pub levels_near : Near holds running body e y (depth body e) (by_level y)
    levels_near = record {
      sound = λ d x q h k. (level_iff d x q h k).0;
      complete = λ d x q h a shorter. (level_iff d x q h (leads_small holds running body e y a.0 x q a.2)).1 a;
    }
