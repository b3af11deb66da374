-- The heart of the split search. A plant is cut into parts. The called pairs are the root's, and with a pair all that the part with this door
-- reports of it. Every called pair's node is a door of its part; and walks inside a part from its called pairs reach, in an accepting state,
-- exactly the nodes of the part that are found by walks of the whole plant from the root. Assumes nothing.
use mathlib.Core.Path.{◌≡◌, refl, sym, ap, subst}
use mathlib.Core.Logic.{◌↔◌}
use mathlib.Core.List.Memᴰ
use mathlib.Core.List.{List, [], ◌∷◌}
use Prim.Native.Nat.{ℕ, ◌^◌, ◌≤◌, ◌<◌}
use native.Mathlib.Omega.{arith}
use lib.Dec.{T}
use Rattle.sets.specs.Sets.{Mem, here, Lists}
use Rattle.sets.specs.Reach.{Reach, seed, next}
use Rattle.sets.proofs.Sets.{mem_dec, lists_iff}
use Rattle.sets.proofs.Reach.{reach_least, reach_trans}
use Rattle.files.specs.Field.{label_of, pair, pair_node, pair_state}
use Rattle.files.specs.Part.{nodes, doors, running}
use Rattle.files.proofs.Fields.{pair_node_lem, pair_eta}
use Rattle.files.proofs.Blocks.{node_small, doors_nodes, edge_of}
use Rattle.files.proofs.Parts.{nodes_ascending, roots_doors}
use Rattle.expressions.specs.Expr.{Expr, count}
use Rattle.expressions.specs.Positions.{accepts}
use Rattle.expressions.specs.Labels.{holds}
use Rattle.expressions.proofs.Ranges.{step_range}
use Rattle.walks.specs.Product.{step_in, answers}
use Rattle.walks.proofs.Product.{answers_lists}
use Rattle.first_replies.specs.FirstReply.{reported}
use Rattle.first_replies.proofs.Reported.{reported_lists, reported_outbound}
use Rattle.demands.specs.Plant.{Plant, Found, OneRoot, body, TrueCut}
use Rattle.demands.proofs.Comes.{Comes, begin, link, ComesTo, Ends, pair_comes, comes_node, reach_comes, found_reach, edge_step, link_step}

-- the pair of the root is called, and so is all that is reported of a called pair
pub data Called (root : ℕ) (parts : List (List ℕ)) (e : Expr) : ℕ → Type 0 where
  at_root : {c : ℕ} → c ≡ pair root 0 → Called root parts e c
  across : {c d : ℕ} {f : List ℕ} → Called root parts e c → Mem f parts → Mem (pair_node c) (doors (body f))
      → Mem d (reported (body f) e (pair_node c) (pair_state c)) → Called root parts e d

-- walks in the part f from one of its called pairs lead to d
abbrev FromCalled : ℕ → List (List ℕ) → Expr → ℕ → List ℕ → Type 0
FromCalled root parts e d f = (c : ℕ) × Called root parts e c × Mem (pair_node c) (nodes (body f)) × Reach (step_in (body f) e) (c ∷ []) d

module _ (p : Plant) (parts : List (List ℕ)) (cut : TrueCut p parts) (one : OneRoot p) (e : Expr) (small : count e ≤ 15) where
  -- what is reported of a part's pair
  report : (c : ℕ) → c < 2 ^ 20 → (f : List ℕ)
      → Lists (λ d. Reach (step_in (body f) e) (c ∷ []) d × (Mem (pair_node d) (nodes (body f)) → ⊥)) (reported (body f) e (pair_node c) (pair_state c))
  report c h f = rw (pair_eta c) at (reported_lists (body f) e small (pair_node c) (pair_state c) (omega arith))

  -- the node of a called pair is a door of the part that holds it: it is the root, or the target of an edge from another part
  pub called_door : {c : ℕ} → Called one.root parts e c → (f : List ℕ) → Mem f parts
      → Mem (pair_node c) (nodes (body f)) → Mem (pair_node c) (doors (body f))
  called_door {c} (at_root q) f m n =
      let i : pair_node c ≡ one.root = omega (arith, q) in
      roots_doors f (cut.part f m).2 (pair_node c) ((cut.holds f m).has_root (pair_node c) n (subst p.Root (sym i) one.is))
  called_door (across {c = c} {d = d} {f = g} k m' door r) f m n =
      let l = reported_outbound (body g) e small (pair_node c) (pair_state c) (omega arith) (doors_nodes (body g) (pair_node c) door) d r in
      let other : g ≡ f → ⊥ = λ i. l.out (subst (λ h. Mem (pair_node d) (nodes (body h))) (sym i) n) in
      cut.crossed l.from (label_of l.by) (pair_node d) g f m' m other (l.by, l.edge, refl, l.target) n

  -- what is reached in a part from a called pair of it, and is no node of it, is called
  called_on : {c d : ℕ} {f : List ℕ} → Called one.root parts e c → Mem f parts → Mem (pair_node c) (nodes (body f))
      → Reach (step_in (body f) e) (c ∷ []) d → (Mem (pair_node d) (nodes (body f)) → ⊥) → Called one.root parts e d
  called_on {c} {d} {f} k m n r out =
      across k m (called_door k f m n) ((report c (omega (arith, node_small (body f) (pair_node c) n)) f).complete d (r, out))

  -- what is come to in a part is reached in it from a called pair: by induction over the links; a link from another part makes a called pair
  comes_reach : {x q : ℕ} → Comes p e x q → (f : List ℕ) → Mem f parts → Mem x (nodes (body f)) → FromCalled one.root parts e (pair x q) f
  comes_reach (begin {r = r} k) f m n = (pair r 0, at_root (ap (λ x. pair x 0) (one.only r k)), rw (pair_node_lem r 0 (omega arith)) n, seed (here refl))
  comes_reach (link {x = x} {a = a} {y = y} {q = q} {t = t} k b l o s) f m n =
      let (g, m', n') = cut.every x (p.link_node x a y l) in
      let (c, called, inside, r) = comes_reach k g m' n' in
      let on = next r (link_step p e small g (cut.holds g m') t k n' b l o s) in
      let u : pair_node (pair y t) ≡ y = pair_node_lem y t (omega (arith, step_range holds e q a t s)) in
      elim (mem_dec y (nodes (body g))) [
        | yes i ↦ subst (FromCalled one.root parts e (pair y t)) (cut.once y g f m' m i n) (c, called, inside, on)
        | no i ↦ (pair y t, called_on called m' inside on (rw u i), rw u n, seed (here refl))
      ]

  -- where all that is called are nodes of the plant, no edge that walks come to ends nowhere: its target would be called
  pub called_ends : ((c : ℕ) → Called one.root parts e c → p.Node (pair_node c)) → (f : List ℕ) → Mem f parts → Ends p e f
  called_ends all f m = record {
    node = λ x a y q t k n h s.
        let (c, called, inside, r) = comes_reach k f m (edge_of (body f) x h.0 h.1).2 in
        let on = next r (edge_step p e small f (cut.holds f m) t k n h s) in
        let u : pair_node (pair y t) ≡ y = pair_node_lem y t (omega (arith, step_range holds e q a t s)) in
        elim (mem_dec y (nodes (body f))) [
          | yes i ↦ (cut.holds f m).is_node_lem y i
          | no i ↦ subst p.Node u (all (pair y t) (called_on called m inside on (rw u i)))
        ];
  }

  -- the called pairs as a closure: of any seeds that are the root's pair, under any step to what the part with this door reports
  module _ (step : ℕ → List ℕ) (seeds : List ℕ) (seeds-are : (c : ℕ) → Mem c seeds ↔ (c ≡ pair one.root 0))
      (step_is : (c d : ℕ) → Mem d (step c)
      ↔ ((f : List ℕ) × Mem f parts × Mem (pair_node c) (doors (body f)) × Mem d (reported (body f) e (pair_node c) (pair_state c)))) where
    pub called_reach : (c : ℕ) → Reach step seeds c ↔ Called one.root parts e c
    called_reach c = (
      reach_least (Called one.root parts e) (λ b i. at_root ((seeds-are b).0 i)) (λ b d r k i. let w = (step_is b d).0 i in across k w.1 w.2 w.3) c,
      back,
    )
      where
        back : {c : ℕ} → Called one.root parts e c → Reach step seeds c
        back (at_root {c = b} q) = seed ((seeds-are b).1 q)
        back (across {c = b} {d = d} {f = f} k i door r) = next (back k) ((step_is b d).1 (f, i, door, r))

  -- where no edge that walks come to ends nowhere
  module _ (ends : (f : List ℕ) → Mem f parts → Ends p e f) where
    called_comes : {c : ℕ} → Called one.root parts e c → ComesTo p e c
    called_comes (at_root q) = subst (ComesTo p e) (sym q) ((pair_comes p e one.root 0 (omega arith)).1 (begin one.is))
    called_comes (across {c = c} {d = d} {f = f} k m door r) =
        let h = called_comes k in
        let l = ((report c (omega (arith, node_small (body f) (pair_node c) (doors_nodes (body f) (pair_node c) door))) f).sound d r).0 in
        reach_comes p e small f (cut.holds f m) (ends f m) (c ∷ []) (λ b i. subst (ComesTo p e) (sym (Memᴰ.eq_of_singleton i)) h) d l

    -- some part has a called pair's node as a door
    pub called_home : {c : ℕ} → Called one.root parts e c → (f : List ℕ) × Mem f parts × Mem (pair_node c) (doors (body f))
    called_home {c} k = let (f, m, n) = cut.every (pair_node c) (comes_node p e (called_comes k)) in (f, m, called_door k f m n)

    -- seeds that are the called pairs of a part
    module _ (f : List ℕ) (m : Mem f parts) (seeds : List ℕ)
        (are : (c : ℕ) → Mem c seeds ↔ (Called one.root parts e c × Mem (pair_node c) (nodes (body f)))) where
      -- walks in the part from the seeds reach in an accepting state just the part's nodes that are found
      pub cross : (x : ℕ) → (Mem x (running (body f)) × ((q : ℕ) × Reach (step_in (body f) e) seeds (pair x q) × T (accepts e q)))
          ↔ (Mem x (nodes (body f)) × Found p e x)
      cross x = found_reach p e small f (cut.holds f m) (ends f m) seeds x (λ c i. called_comes ((are c).0 i).0) (λ n q k.
          let (c, called, inside, r) = comes_reach k f m n in
          reach_trans (λ b i. seed (Memᴰ.cast (Memᴰ.eq_of_singleton i) ((are c).1 (called, inside)))) (pair x q) r)

      -- the answers from the seeds are the part's nodes that are found
      pub cross_answers : Lists (λ x. Mem x (nodes (body f)) × Found p e x) (answers (body f) e seeds)
      cross_answers = lists_iff cross
          (answers_lists (body f) e small seeds (λ c i. omega (arith, node_small (body f) (pair_node c) ((are c).0 i).1)) (nodes_ascending f (cut.part f m).2))
