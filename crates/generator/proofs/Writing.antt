-- What is written node by node: the words of one, and one more. Assumes nothing.
use mathlib.Core.Path.{◌≡◌, ◌∙◌, ap}
use mathlib.Core.List.{List, [], ◌∷◌, map, flatten}
use Prim.Native.Nat.{ℕ, suc, ◌+◌, ◌-◌, ◌*◌, ◌≤◌, ◌<◌}
use native.Mathlib.Omega.{arith}
use native.Mathlib.Nat.{suc-mul}
use native.Mathlib.Numerals.{add-one}
use lib.ListN.{length, take}
use Rattle.sets.specs.Sets.{span, set_of}
use Rattle.files.specs.Limits.{part_words}
use Rattle.output.specs.Writer.{Writes}
use Rattle.output.proofs.Writing.{behind}
use Rattle.output.proofs.Spanning.{Spanning, spanning_first, spanning_more, spanning_last}
use Rattle.draws.specs.Draws.{after, drawn}
use Rattle.edge_draws.specs.Edges.{edge_drawn, edges_drawn}
use Rattle.edge_draws.proofs.Gathering.{after_add, edges_later}
use Rattle.generator.specs.Generate.{node_at, node_drawn, spent}
use Rattle.generator.specs.Nodes.{node_from}

-- a node by its own draws is that of the file
node_later : (n edges s x : ℕ) → node_from (drawn (after (2 * (x * edges)) s)) n edges x ≡ node_drawn (drawn s) n edges x
node_later n edges s x =
    let e : x * edges + 0 ≡ x * edges = omega arith in
    ap (λ ws. node_at x ∷ set_of ws) (edges_later n s (x * edges) 0 edges ∙ ap (λ j. map (edge_drawn (drawn s) n) (span j edges)) e)

-- a node with its edges: its word is written, then they are
pub node_written : (n edges x state k : ℕ) (ws : List ℕ) {o o₁ o₂ : List ℕ} {g v start count all : ℕ}
    → (take k ws ≡ edges_drawn (drawn state) n 0 edges) × (g ≡ after (2 * edges) state) × (k ≤ 4) → v ≡ node_at x → length o₁ ≡ length o
    → Writes part_words (length o) o start o₁ count (v ∷ []) → Writes part_words (length o₁) o₁ count o₂ all (take k ws)
    → Writes part_words (length o) o start o₂ all (node_from (drawn state) n edges x) × (g ≡ after (2 * edges) state)
node_written n edges x state k ws {v = v} (l, q, b) e same f h =
    (behind (node_at x ∷ []) (edges_drawn (drawn state) n 0 edges) (rw e at f) same (rw l at h), q)

-- the loop over the nodes: those before x are written
pub record Noding (n edges state : ℕ) (out₀ : List ℕ) (start : ℕ) (out : List ℕ) (count s x : ℕ) : Type 0 where
  pub spanning : Spanning part_words out₀ start (node_drawn (drawn state) n edges) 0 n out count x
  pub state_is : s ≡ after (2 * (x * edges)) state

pub noding_none : (n edges state : ℕ) (out : List ℕ) (start : ℕ) → Noding n edges state out start out start state 0
noding_none n edges state out start =
    let z : 2 * (0 * edges) ≡ 0 = omega arith in
    record { spanning = spanning_first (omega arith); state_is = rw z }

pub noding_more : {n edges state : ℕ} {out₀ : List ℕ} {start : ℕ} {out out' : List ℕ} {count s x c t : ℕ} → Noding n edges state out₀ start out count s x → x < n
    → length out' ≡ length out → Writes part_words (length out) out count out' c (node_from (drawn s) n edges x) × (t ≡ after (2 * edges) s)
    → Noding n edges state out₀ start out' c t (x + 1)
noding_more {n} {edges} {state} {x = x} p h same (w, t) =
    let e : 2 * (x * edges) + 2 * edges ≡ 2 * (suc x * edges) = rw (suc-mul x edges) (omega arith) in
    record {
      spanning = spanning_more p.spanning h same (rw (p.state_is, node_later n edges state x) at w);
      state_is = rw add-one (t ∙ ap (after (2 * edges)) p.state_is ∙ after_add (2 * (x * edges)) (2 * edges) state ∙ ap (λ k. after k state) e);
    }

pub noding_last : {n edges state : ℕ} {out₀ : List ℕ} {start : ℕ} {out : List ℕ} {count s x : ℕ} → Noding n edges state out₀ start out count s x → n ≤ x
    → Writes part_words (length out₀) out₀ start out count (flatten (map (node_drawn (drawn state) n edges) (span 0 n))) × (s ≡ spent state n edges)
noding_last {n} {edges} {state} {x = x} p h =
    let all : n - 0 ≡ n = omega arith in
    let e : x ≡ n = omega (arith, p.spanning.within) in
    (rw all at (spanning_last p.spanning h), p.state_is ∙ ap (λ k. after (2 * (k * edges)) state) e)
