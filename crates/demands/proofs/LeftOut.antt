-- Links that end nowhere. A plant that has none, or none that is walked, and parts with no other links than the plant's: a special case of what
-- demand 3 asks. And a plant with these links left out: it has none, the same walks, so the same list, the same true cuts, and fits the same
-- files; and what is asked of the parts' links is the same. So demand 3 reads plant and true cut with those links left out. Assumes nothing.
use mathlib.Core.Logic.{◌↔◌}
use mathlib.Core.List.{List}
use Prim.Native.Nat.{ℕ}
use lib.Dec.{T}
use Rattle.sets.specs.Sets.{Mem}
use Rattle.expressions.specs.Expr.{Expr}
use Rattle.expressions.specs.Positions.{step, Run}
use Rattle.expressions.specs.Labels.{holds_by}
use Rattle.demands.specs.Plant.{Plant, Walk, FoundBy, Closed, HasEdge, Holds, TrueCut, Unwalked, Fits}
use Rattle.demands.specs.PlantOf.{left_out}
use Rattle.demands.proofs.Comes.{walk_kept}

-- no part has a link that the plant has not
abbrev pub OnlyLinks : Plant → List (List ℕ) → Type 0
OnlyLinks p parts = (f : List ℕ) → Mem f parts → (x a y : ℕ) → HasEdge f x a y → p.Link x a y

module _ (groups : List ℕ) (p : Plant) (parts : List (List ℕ)) (e : Expr) (links : OnlyLinks p parts) where
  -- the plant's links that end nowhere are not walked
  pub plant-unwalked :
      ((r x a y q t : ℕ) (w : List ℕ) → p.Root r → Walk p r w x → Run (holds_by groups) e 0 w q
      → p.Link x a y → (p.Node y → ⊥) → T (step (holds_by groups) e q a t) → ⊥)
      → Unwalked groups p parts e
  plant-unwalked none r x a y q t w f k v run m h out s = none r x a y q t w k v run (links f m x a y h) out s

  -- the plant has none
  pub closed_unwalked : Closed p → Unwalked groups p parts e
  closed_unwalked closed = plant-unwalked (λ r x a y q t w k v run l out s. out (closed x a y l))

module _ (p : Plant) where
  pub left_out_closed : Closed (left_out p)
  left_out_closed x a y l = l.1

  to : {x y : ℕ} {w : List ℕ} → Walk p x w y → Walk (left_out p) x w y
  to = walk_kept (λ x n. n) (λ x a y n l. (l, n))

  from : {x y : ℕ} {w : List ℕ} → Walk (left_out p) x w y → Walk p x w y
  from = walk_kept (λ x n. n) (λ x a y n l. l.0)

  pub left_out_found : (groups : List ℕ) (e : Expr) (x : ℕ) → FoundBy groups p e x ↔ FoundBy groups (left_out p) e x
  left_out_found groups e x = (λ (r, w, k, v, m). (r, w, k, to v, m), λ (r, w, k, v, m). (r, w, k, from v, m))

  pub left_out_holds : (f : List ℕ) → Holds p f ↔ Holds (left_out p) f
  left_out_holds f = (
    λ h. record {
      is_node_lem = h.is_node_lem;
      has_link = λ x a y m l n. h.has_link x a y m l.0 n;
      is_link = λ x a y k n. (h.is_link x a y k n, n);
      has_root = h.has_root;
      is_root_lem = h.is_root_lem;
      has_stopped = h.has_stopped;
      is_stopped_lem = h.is_stopped_lem;
    },
    λ h. record {
      is_node_lem = h.is_node_lem;
      has_link = λ x a y m l n. h.has_link x a y m (l, n) n;
      is_link = λ x a y k n. (h.is_link x a y k n).0;
      has_root = h.has_root;
      is_root_lem = h.is_root_lem;
      has_stopped = h.has_stopped;
      is_stopped_lem = h.is_stopped_lem;
    },
  )

  pub left_out_fits : (f : List ℕ) → Fits p f ↔ Fits (left_out p) f
  left_out_fits f = (
    λ h. record { word = h.word; small = h.small; whole = h.whole; holds = (left_out_holds f).0 h.holds; every = h.every },
    λ h. record { word = h.word; small = h.small; whole = h.whole; holds = (left_out_holds f).1 h.holds; every = h.every },
  )

  module _ (parts : List (List ℕ)) where
    pub left_out_cut : TrueCut p parts ↔ TrueCut (left_out p) parts
    left_out_cut = (
      λ c. record {
        part = c.part;
        holds = λ f m. (left_out_holds f).0 (c.holds f m);
        sites = c.sites;
        every = c.every;
        once = c.once;
        crossed = c.crossed;
      },
      λ c. record {
        part = c.part;
        holds = λ f m. (left_out_holds f).1 (c.holds f m);
        sites = c.sites;
        every = c.every;
        once = c.once;
        crossed = c.crossed;
      },
    )

    pub left_out_unwalked : (groups : List ℕ) (e : Expr) → Unwalked groups p parts e ↔ Unwalked groups (left_out p) parts e
    left_out_unwalked groups e = (
      λ u r x a y q t w f k v. u r x a y q t w f k (from v),
      λ u r x a y q t w f k v. u r x a y q t w f k (to v),
    )
