-- Words by position: the node words of ascending nodes, and the edge words behind a node word as the edges of its node. Assumes nothing.
use mathlib.Core.Path.{◌≡◌, refl, sym, ap, subst, ◌∙◌}
use mathlib.Core.Logic.{inl, inr, ⊎_elim, ◌↔◌}
use mathlib.Core.Bool.{Bool, true, false, ◌&&◌}
use mathlib.Core.List.Memᴰ
use mathlib.Core.List.{List, [], ◌∷◌, map}
use Prim.Native.Nat.{ℕ, zero, suc, ◌+◌, ◌-◌, ◌≤◌, ◌<◌}
use native.Mathlib.Omega.{arith}
use borrow.Author.Tests.{eq-eqb, eqb-true, ne_eqb}
use lib.Dec.{eqb}
use lib.ListN.{length, get_or, drop, get_or-eq_default}
use lib.Seq.{get_or-drop}
use Rattle.sets.specs.Sets.{Mem, here, there, Ascending, filter}
use Rattle.sets.proofs.Cases.{eq_or_ne, lt_or_le, ne_cases, clash, and_left, and_right, and_intro}
use Rattle.sets.proofs.Tests.{either}
use Rattle.files.specs.Field.{kind_of, node_of, stopped_of}
use Rattle.files.specs.Part.{is_node, is_edge, nodes, nodes_with, stopped, front, edges, part_check}
use Rattle.files.proofs.Parts.{part_read, nodes_ascending}
use Rattle.slots.specs.Slots.{node_at, edge_at, stopped_at, idle_at, number, Behind}

-- ---- any words

-- a word of a kind other than 0 is one of the words: past the end the word 0 is read
kind_below : (k : ℕ) (ws : List ℕ) (x : ℕ) → 0 < k → eqb (kind_of (get_or ws x 0)) k ≡ true → x < length ws
kind_below k ws x s e =
    ⊎_elim (λ l. l) (λ l. absurd (let h = eqb-true (kind_of (get_or ws x 0)) k e in omega (arith, get_or-eq_default ws 0 l))) (lt_or_le x (length ws))

pub edge_below : (ws : List ℕ) (x : ℕ) → edge_at ws x ≡ true → x < length ws
unfolding edge_at
edge_below ws x e = kind_below 3 ws x (omega arith) e

pub node_below : (ws : List ℕ) (x : ℕ) → node_at ws x ≡ true → x < length ws
unfolding node_at
node_below ws x e = kind_below 2 ws x (omega arith) e

-- an edge word is no node word
pub edge_no_node : (ws : List ℕ) (x : ℕ) → edge_at ws x ≡ true → node_at ws x ≡ false
unfolding edge_at node_at
edge_no_node ws x e = ne_eqb (kind_of (get_or ws x 0)) 2 (λ n. omega (arith, eqb-true (kind_of (get_or ws x 0)) 3 e))

-- the numbers of the words that pass a test, by position; the word 0, which is read past the end, fails it
module _ (test : ℕ → Bool) (never : test 0 ≡ false) where
  at_number : (ws : List ℕ) (i : ℕ) → test (get_or ws i 0) ≡ true → Mem (node_of (get_or ws i 0)) (map node_of (filter test ws))
  at_number [] i t = absurd (clash t never)
  at_number (w ∷ ws) zero t = rw t (here refl)
  at_number (w ∷ ws) (suc i) t = elim (either (test w)) [ inl e ↦ rw e (there (at_number ws i t)) | inr e ↦ rw e (at_number ws i t) ]

  number_at : (ws : List ℕ) (x : ℕ) → Mem x (map node_of (filter test ws)) → (i : ℕ) × (test (get_or ws i 0) ≡ true) × (node_of (get_or ws i 0) ≡ x)
  number_at [] x m = elim m [ ]
  number_at (w ∷ ws) x m = elim (either (test w)) [
    | inl e ↦ ⊎_elim (λ q. (zero, e, sym q)) (λ k. let r = number_at ws x k in (suc r.0, r.1, r.2)) (Memᴰ.cases_cons (rw e at m))
    | inr e ↦ let r = number_at ws x (rw e at m) in (suc r.0, r.1, r.2)
  ]

  -- a first word that fails the test adds none
  numbers_behind : (ws : List ℕ) → test (get_or ws 0 0) ≡ false → map node_of (filter test (drop 1 ws)) ≡ map node_of (filter test ws)
  numbers_behind [] e = refl
  numbers_behind (w ∷ ws) e = rw e

-- a node word's number is one of the nodes
pub node_in : (ws : List ℕ) (i : ℕ) → node_at ws i ≡ true → Mem (number ws i) (nodes ws)
unfolding node_at number
node_in = at_number is_node refl

-- each node is the number of a node word
pub in_node : (ws : List ℕ) (x : ℕ) → Mem x (nodes ws) → (i : ℕ) × (node_at ws i ≡ true) × (number ws i ≡ x)
unfolding node_at number
in_node = number_at is_node refl

-- the last node word before an edge word is the one that it stands behind
pub idle_behind_lem : (ws : List ℕ) (i x : ℕ) → Behind ws i x → idle_at ws x ≡ stopped_at ws i
idle_behind_lem ws i zero b = absurd (omega (arith, b.after))
idle_behind_lem ws i (suc x) b = ⊎_elim
    (λ (e : i ≡ x). let n : node_at ws x ≡ true = rw e at b.node in rw (n, e))
    (λ d.
    let l : i < x = omega (arith, b.after) in
    rw (edge_no_node ws x (b.edges x l (omega arith)))
    (idle_behind_lem ws i x (record { node = b.node; after = l; below = omega (arith, b.below); edges = λ k a c. b.edges k a (omega arith) })))
    (eq_or_ne i x)

-- ascending nodes ascend by position
pub nodes_rise : (ws : List ℕ) (i j : ℕ) → Ascending (nodes ws) → node_at ws i ≡ true → node_at ws j ≡ true → i < j → number ws i < number ws j
unfolding node_at number
nodes_rise [] i j a n m l = absurd (clash n refl)
nodes_rise (w ∷ ws) i zero a n m l = absurd (omega arith)
nodes_rise (w ∷ ws) zero (suc j) a n m l = let h = rw n at a in h.0 (number ws j) (node_in ws j m)
nodes_rise (w ∷ ws) (suc i) (suc j) a n m l = elim (either (is_node w)) [
  | inl e ↦ let h = rw e at a in nodes_rise ws i j h.1 n m (omega arith)
  | inr e ↦ nodes_rise ws i j (rw e at a) n m (omega arith)
]

-- the edge words at the front, by position
abbrev Front : ℕ → List ℕ → Type 0
Front v l = (k : ℕ) × ((m : ℕ) → m ≤ k → is_edge (get_or l m 0) ≡ true) × (get_or l k 0 ≡ v)

front_all : (w : ℕ) (l : List ℕ) (k : ℕ) → is_edge w ≡ true → ((m : ℕ) → m ≤ k → is_edge (get_or l m 0) ≡ true) → (m : ℕ) → m ≤ suc k → is_edge (get_or (w ∷ l) m 0) ≡ true
front_all w l k e f zero h = e
front_all w l k e f (suc m) h = f m (omega arith)

front_back : (v w : ℕ) (l : List ℕ) → (Front v l → Mem v (front l)) → (k : ℕ) → ((m : ℕ) → m ≤ k → is_edge (get_or (w ∷ l) m 0) ≡ true) → get_or (w ∷ l) k 0 ≡ v
    → Mem v (w ∷ front l)
front_back v w l ih zero f q = here (sym q)
front_back v w l ih (suc k) f q = there (ih (k, λ m h. f (suc m) (omega arith), q))

pub front_iff : (v : ℕ) (l : List ℕ) → Mem v (front l) ↔ ((k : ℕ) × ((m : ℕ) → m ≤ k → is_edge (get_or l m 0) ≡ true) × (get_or l k 0 ≡ v))
front_iff v [] = (λ m. elim m [ ], λ (k, e, q). absurd (clash (e 0 (omega arith)) refl))
front_iff v (w ∷ l) = elim (either (is_edge w)) [
  | inl e ↦ rw e (
    λ m. ⊎_elim (λ q. (zero, λ k h. let z : k ≡ 0 = omega arith in rw (z, e), sym q))
        (λ h. let (k, f, q) = (front_iff v l).0 h in (suc k, front_all w l k e f, q)) (Memᴰ.cases_cons m),
    λ (k, f, q). front_back v w l (front_iff v l).1 k f q,
  )
  | inr e ↦ rw e (λ m. elim m [ ], λ (k, f, q). absurd (clash (f 0 (omega arith)) e))
]

-- the edges of a node word's number are the edge words behind it
pub edges_at : (ws : List ℕ) (i : ℕ) → Ascending (nodes ws) → node_at ws i ≡ true → edges ws (number ws i) ≡ front (drop (suc i) ws)
unfolding node_at number
edges_at [] i a n = absurd (clash n refl)
edges_at (w ∷ ws) zero a n = rw (n, eq-eqb (node_of w) (node_of w) refl)
edges_at (w ∷ ws) (suc i) a n = elim (either (is_node w)) [
  | inl e ↦
      let h = rw e at a in
      let b = h.0 (number ws i) (node_in ws i n) in
      rw (e, ne_eqb (node_of w) (number ws i) (λ q. omega arith)) (edges_at ws i h.1 n)
  | inr e ↦ rw e (edges_at ws i (rw e at a) n)
]

-- ---- an accepted part's

module _ (ws : List ℕ) (c : part_check ws ≡ 0) where
  -- the header is no node and no edge
  pub header_node : node_at ws 0 ≡ false
  unfolding node_at
  header_node = ne_eqb (kind_of (get_or ws 0 0)) 2 (λ q. omega (arith, (part_read ws c).kind))

  without_header : (l : List ℕ) → node_at l 0 ≡ false → (nodes (drop 1 l) ≡ nodes l) × ((x : ℕ) → edges (drop 1 l) x ≡ edges l x)
  unfolding node_at
  without_header [] n = (refl, λ x. refl)
  without_header (h ∷ l) n = (rw n, λ x. rw n)

  pub nodes_same : nodes (drop 1 ws) ≡ nodes ws
  nodes_same = (without_header ws header_node).0

  pub rising : Ascending (nodes ws)
  rising = rw nodes_same at (nodes_ascending ws c)

  -- two node words have two numbers
  pub nodes_apart : (i j : ℕ) → node_at ws i ≡ true → node_at ws j ≡ true → number ws i ≡ number ws j → i ≡ j
  nodes_apart i j n m e =
      ⊎_elim (λ q. q)
      (λ d. absurd (⊎_elim (λ l. omega (arith, nodes_rise ws i j rising n m l)) (λ l. omega (arith, nodes_rise ws j i rising m n l)) (ne_cases i j d)))
      (eq_or_ne i j)

  -- the nodes with a mark, root, door or stopped, are the numbers of the node words that have it
  pub with_iff : (mark : ℕ → Bool) (x : ℕ)
      → Mem x (nodes_with mark (drop 1 ws)) ↔ ((i : ℕ) × (node_at ws i ≡ true) × (mark (get_or ws i 0) ≡ true) × (number ws i ≡ x))
  unfolding node_at number
  with_iff mark x = rw (numbers_behind has refl ws (rw header_node)) (
    λ m.
        let (i, t, q) = number_at has refl ws x m in
        (i, and_left (is_node (get_or ws i 0)) (mark (get_or ws i 0)) t, and_right (is_node (get_or ws i 0)) (mark (get_or ws i 0)) t, q),
    λ (i, n, t, q). subst (λ y. Mem y (nodes_with mark ws)) q (at_number has refl ws i (and_intro (is_node (get_or ws i 0)) (mark (get_or ws i 0)) n t)),
  )
    where
      has : ℕ → Bool
      has w = is_node w && mark w

  -- a node is stopped just if its word is marked so
  pub stopped_iff : (i : ℕ) → node_at ws i ≡ true → Mem (number ws i) (stopped (drop 1 ws)) ↔ (stopped_at ws i ≡ true)
  unfolding node_at stopped_at
  stopped_iff i n = (
    λ m.
        let (j, k, s, q) = (with_iff stopped_of (number ws i)).0 m in
        subst (λ k. stopped_at ws k ≡ true) (sym (nodes_apart i j n k (sym q))) (and_intro (is_node (get_or ws j 0)) (stopped_of (get_or ws j 0)) k s),
    λ s. (with_iff stopped_of (number ws i)).1 (i, n, and_right (is_node (get_or ws i 0)) (stopped_of (get_or ws i 0)) s, refl),
  )

  pub behind_iff : (i v : ℕ) → node_at ws i ≡ true → Mem v (edges (drop 1 ws) (number ws i)) ↔ ((x : ℕ) × Behind ws i x × (get_or ws x 0 ≡ v))
  unfolding edge_at
  behind_iff i v n =
      rw ((without_header ws header_node).1 (number ws i), edges_at ws i rising n) (
        λ m.
            let (k, f, q) = (front_iff v (drop (suc i) ws)).0 m in
            let e : (m : ℕ) → m ≤ k → edge_at ws (suc i + m) ≡ true = λ m h. sym (ap is_edge (get_or-drop (suc i) ws m 0)) ∙ f m h in (
              suc i + k,
              record {
                node = n;
                after = omega arith;
                below = edge_below ws (suc i + k) (e k (omega arith));
                edges = λ y a b. between k e y a b;
              },
              sym (get_or-drop (suc i) ws k 0) ∙ q,
            ),
        λ (x, b, q). (front_iff v (drop (suc i) ws)).1 (back x b q),
      )
    where
      between : (k : ℕ) → ((m : ℕ) → m ≤ k → edge_at ws (suc i + m) ≡ true) → (y : ℕ) → i < y → y ≤ suc i + k → edge_at ws y ≡ true
      between k e y a b = let q : suc i + (y - suc i) ≡ y = omega arith in subst (λ z. edge_at ws z ≡ true) q (e (y - suc i) (omega arith))

      back : (x : ℕ) → Behind ws i x → get_or ws x 0 ≡ v
          → (k : ℕ) × ((m : ℕ) → m ≤ k → is_edge (get_or (drop (suc i) ws) m 0) ≡ true) × (get_or (drop (suc i) ws) k 0 ≡ v)
      back x b q =
          let z : suc i + (x - suc i) ≡ x = omega (arith, b.after) in (
            x - suc i,
            λ m h. ap is_edge (get_or-drop (suc i) ws m 0) ∙ b.edges (suc i + m) (omega arith) (omega (arith, b.after)),
            get_or-drop (suc i) ws (x - suc i) 0 ∙ ap (λ y. get_or ws y 0) z ∙ q,
          )
