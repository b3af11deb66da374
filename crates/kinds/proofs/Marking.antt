-- The nodes of the words of kind k that are left go into the set. Assumes nothing.
use mathlib.Core.Path.{◌≡◌, refl, ◌∙◌}
use mathlib.Core.Bool.{Bool, ◌&&◌, ◌||◌, or_assoc, or-false}
use mathlib.Core.Logic.{inl, inr}
use mathlib.Core.List.{List, [], ◌∷◌, map}
use Prim.Native.Nat.{ℕ}
use borrow.Author.Tests.{eq-eqb, ne_eqb}
use lib.Dec.{eqb}
use lib.ListN.{length}
use Rattle.sets.specs.Sets.{member, filter}
use Rattle.sets.specs.NodeSet.{has_node, Added}
use Rattle.sets.proofs.Tests.{either}
use Rattle.files.specs.Field.{kind_of, node_of}

-- the nodes of the words of kind k
abbrev nodes_of : ℕ → List ℕ → List ℕ
nodes_of k ws = map node_of (filter (λ w. eqb (kind_of w) k) ws)

-- one word

pub mark_some : (k w : ℕ) {n t : ℕ} {a b : List ℕ} → t ≡ k → t ≡ kind_of w → n ≡ node_of w → Added 0 n a b
    → (x : ℕ) → has_node b 0 x ≡ (has_node a 0 x || (eqb (kind_of w) k && eqb x (node_of w)))
mark_some k w h e f d x = rw (← e, eq-eqb _ k h, ← f) (d.has x)

pub mark_none : (k w : ℕ) {t : ℕ} (a : List ℕ) → (t ≡ k → ⊥) → t ≡ kind_of w
    → (x : ℕ) → has_node a 0 x ≡ (has_node a 0 x || (eqb (kind_of w) k && eqb x (node_of w)))
mark_none k w {t} a h e x = rw (← e, ne_eqb t k h, or-false)

-- the set with the nodes of the words ws that are left is what was d with the nodes of all words us
pub record Marking (k : ℕ) (us d work ws : List ℕ) : Type 0 where
  pub same : (x : ℕ) → (has_node work 0 x || member x (nodes_of k ws)) ≡ (has_node d 0 x || member x (nodes_of k us))
  pub long : length work ≡ length d

pub marking_first : (k : ℕ) (us d : List ℕ) → Marking k us d d us
marking_first k us d = record { same = λ x. refl; long = refl }

member_node : (k : ℕ) (h : Bool) (x w : ℕ) (ws : List ℕ)
    → ((h || (eqb (kind_of w) k && eqb x (node_of w))) || member x (nodes_of k ws)) ≡ (h || member x (nodes_of k (w ∷ ws)))
member_node k h x w ws = elim (either (eqb (kind_of w) k)) [ inl e ↦ rw e (or_assoc h (eqb x (node_of w)) (member x (nodes_of k ws))) | inr e ↦ rw (e, or-false) ]

pub marking_more : {k : ℕ} {us d a b vs ws : List ℕ} {w : ℕ} → Marking k us d a vs → vs ≡ w ∷ ws
    → ((x : ℕ) → has_node b 0 x ≡ (has_node a 0 x || (eqb (kind_of w) k && eqb x (node_of w)))) → length b ≡ length a → Marking k us d b ws
marking_more {k} {us} {d} {a} {b} {vs} {ws} {w} f e m l =
    record { same = λ x. rw (m x) (member_node k (has_node a 0 x) x w ws ∙ (rw e at (f.same x))); long = l ∙ f.long }

pub marking_last : {k : ℕ} {us d a vs : List ℕ} → Marking k us d a vs → vs ≡ [] → (x : ℕ) → has_node a 0 x ≡ (has_node d 0 x || member x (nodes_of k us))
marking_last f e x = let t = rw (e, or-false) at (f.same x) in t
