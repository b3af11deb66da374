-- What is known of an accepted part: of each word after others, that its nodes ascend and the edges of each, that a root is a door and that there is at most one;
-- and of an accepted whole. Assumes nothing.
use mathlib.Core.Path.{◌≡◌, refl}
use mathlib.Core.Logic.{◌↔◌, inl, inr}
use mathlib.Core.Bool.{Bool, true, false, cond, ◌&&◌, ◌||◌, or-false}
use mathlib.Core.List.{List, [], ◌∷◌, map}
use Prim.Native.Nat.{ℕ, suc, ◌≤◌, ◌<◌}
use native.Mathlib.Omega.{arith}
use lib.Dec.{T, eqb}
use lib.ListN.{length, drop, get_or}
use borrow.Author.Tests.{eqb-true, ne_eqb}
use Rattle.sets.specs.Sets.{Mem, there, Ascending, filter, member, ◌⊆◌}
use Rattle.sets.proofs.Sets.{member_iff}
use Rattle.sets.proofs.Tests.{either, is_true, same_test, and_iff, not_iff, implies_iff, le_iff, eq_iff}
use Rattle.sets.proofs.Filter.{any_iff, all_that_iff, filter_filter, map_filter_iff, map_filter_mono, map_filter_ascending}
use Rattle.files.specs.Field.{bits, kind_of, size_of, node_of, door_of, root_of, target_of}
use Rattle.files.specs.Refuse.{header_check}
use Rattle.files.specs.declared.part.PartSeen.{PartSeen}
use Rattle.files.specs.Part.{is_node, is_edge, is_root, is_door, start, next, word_check, scan, part_check, whole_check, nodes, roots, doors, front, edges}
use Rattle.files.proofs.Checks.{then_iff, unless_iff, checks}
use Rattle.files.proofs.Ordered.{Rising, adds, skips, ends, restarts, scan_checked, scan_rises}
use Rattle.files.proofs.Blocks.{edge_of}

-- a node word is no edge word
pub node_not_edge : (w : ℕ) → is_node w ≡ true → is_edge w ≡ false
node_not_edge w n = ne_eqb (kind_of w) 3 (λ e. omega (arith, eqb-true (kind_of w) 2 n))

pub edge_not_node : (w : ℕ) → is_edge w ≡ true → is_node w ≡ false
edge_not_node w e = ne_eqb (kind_of w) 2 (λ n. omega (arith, eqb-true (kind_of w) 3 e))

-- Words one after another

-- a chain of checks to its tests, and no further
ruleset tested = (then_iff, unless_iff, and_iff, implies_iff, not_iff)

-- what is known of a node word and of another word that is accepted after others, and what is seen then
pub record NodeWord (st : PartSeen) (w : ℕ) : Type 0 where
  pub zeros : bits 27 19 w ≡ 0
  pub above : st.low ≤ node_of w
  pub root : T (root_of w) → T (door_of w) × (T st.rooted → ⊥)

pub record EdgeWord (st : PartSeen) (w : ℕ) : Type 0 where
  pub edge : is_edge w ≡ true
  pub behind : 0 < st.low
  pub above : st.last < w

pub node_iff : (st : PartSeen) (w : ℕ) → is_node w ≡ true → (word_check st w ≡ 0) ↔ NodeWord st w
node_iff st w n = rw n (
  λ c.
      let h = simp tested at c in
      record { zeros = (eq_iff (bits 27 19 w) 0).0 h.0; above = (le_iff st.low (node_of w)).0 h.1.0; root = h.1.1 },
  λ h. simp tested ((eq_iff (bits 27 19 w) 0).1 h.zeros, ((le_iff st.low (node_of w)).1 h.above, h.root)),
)

pub edge_iff : (st : PartSeen) (w : ℕ) → is_node w ≡ false → (word_check st w ≡ 0) ↔ EdgeWord st w
edge_iff st w n = rw n (
  λ c. elim (either (is_edge w)) [
    | inl e ↦ let h = simp checks at (rw e at c) in record { edge = e; behind = h.0; above = h.1 }
    | inr e ↦ absurd (let h = rw e at c in omega arith)
  ],
  λ h. rw h.edge (simp checks (h.behind, h.above)),
)

pub next_node : (st : PartSeen) (w : ℕ) → is_node w ≡ true → next st w ≡ record { last = w; low = suc (node_of w); rooted = st.rooted || root_of w }
next_node st w n = rw n

pub next_edge : (st : PartSeen) (w : ℕ) → is_node w ≡ false → next st w ≡ record { last = w; low = st.low; rooted = st.rooted }
next_edge st w n = rw (n, or-false)

-- edge words ascend up to the next node word
front_rises : (st : PartSeen) (ws : List ℕ) → scan st ws ≡ 0 → Rising (suc st.last) (front ws)
front_rises st ws = scan_rises word_check next (λ st. 0) (λ st. suc st.last) front refl st ws (λ u v vs i c s. elim (either (is_node v)) [
  | inl n ↦ ends (rw (eqb-true (kind_of v) 2 n))
  | inr n ↦ let h = (edge_iff u v n).0 c in adds v (rw h.edge) h.above (omega arith)
])

-- at most one root, and none after one
scan_roots : (st : PartSeen) (ws : List ℕ) → scan st ws ≡ 0 → length (roots ws) ≤ cond st.rooted 0 1
scan_roots st [] s = omega arith
scan_roots st (w ∷ ws) s =
    let (c, t) = (then_iff (word_check st w) (scan (next st w) ws)).0 s in
    go (is_root w) st.rooted (λ r. let (n, r) = (and_iff (is_node w) (root_of w)).0 r in (((node_iff st w (is_true (is_node w) n)).0 c).root r).1) (scan_roots (next st w) ws t)
  where
    go : (root rooted : Bool) → (T root → T rooted → ⊥) → length (roots ws) ≤ cond (rooted || root) 0 1
        → length (map node_of (cond root (w ∷ filter is_root ws) (filter is_root ws))) ≤ cond rooted 0 1
    go true true f l = absurd (f tt tt)
    go true false f l = omega arith
    go false true f l = l
    go false false f l = l

-- a root is a door
scan_doors : (st : PartSeen) (ws : List ℕ) → scan st ws ≡ 0 → (w : ℕ) → Mem w ws → T (is_root w) → T (is_door w)
scan_doors st ws s w m t =
    let (n, r) = (and_iff (is_node w) (root_of w)).0 t in
    let (u, c) = scan_checked word_check next (λ st. 0) st ws s w m in
    (and_iff (is_node w) (door_of w)).1 (n, (((node_iff u w (is_true (is_node w) n)).0 c).root r).0)

-- Accepted parts

-- a part's header, and the words behind it
pub record PartFile (f : List ℕ) : Type 0 where
  pub kind : kind_of (get_or f 0 0) ≡ 1
  pub size : size_of (get_or f 0 0) ≡ length f
  pub long : length f ≡ suc (length (drop 1 f))
  pub words : scan start (drop 1 f) ≡ 0

pub part_read : (f : List ℕ) → part_check f ≡ 0 → PartFile f
part_read [] c = absurd (omega arith)
part_read (h ∷ ws) c =
    let (k, s) = (then_iff (header_check 1 true false (suc (length ws)) h) _).0 c in
    let k = simp checks at k in
    record { kind = k.0.0.0.0; size = k.1; long = refl; words = s }

pub part_some : (f : List ℕ) → part_check f ≡ 0 → 0 < length f
part_some f c = omega (arith, (part_read f c).long)

module _ (f : List ℕ) (c : part_check f ≡ 0) where
  read : scan start (drop 1 f) ≡ 0
  read = (part_read f c).words

  pub nodes_ascending : Ascending (nodes (drop 1 f))
  nodes_ascending = (scan_rises word_check next (λ st. 0) (λ st. st.low) nodes refl start (drop 1 f) (λ u v vs i c s. elim (either (is_node v)) [
    | inl n ↦ adds (node_of v) (rw n) ((node_iff u v n).0 c).above (rw n (omega arith))
    | inr n ↦ skips (rw n) (rw n (omega arith))
  ]) read).1

  pub edges_ascending : (x : ℕ) → Ascending (edges (drop 1 f) x)
  edges_ascending x = (scan_rises word_check next (λ st. 0) (λ st. 0) (λ ws. edges ws x) refl start (drop 1 f) (λ u v vs i c s. elim (either (is_node v && eqb (node_of v) x)) [
    | inl n ↦ restarts (rw n (λ y m. omega arith, (front_rises (next u v) vs s).1))
    | inr n ↦ skips (rw n) (omega arith)
  ]) read).1

  pub doors_ascending : Ascending (doors (drop 1 f))
  doors_ascending =
      rw (filter_filter is_node door_of is_door (drop 1 f) (λ w m. refl)) at (map_filter_ascending node_of door_of (filter is_node (drop 1 f)) nodes_ascending)

  pub roots_ascending : Ascending (roots (drop 1 f))
  roots_ascending =
      rw (filter_filter is_node root_of is_root (drop 1 f) (λ w m. refl)) at (map_filter_ascending node_of root_of (filter is_node (drop 1 f)) nodes_ascending)

  pub one_root : length (roots (drop 1 f)) ≤ 1
  one_root = scan_roots start (drop 1 f) read

  pub roots_doors : roots (drop 1 f) ⊆ doors (drop 1 f)
  roots_doors = map_filter_mono node_of is_root is_door (drop 1 f) (drop 1 f) (λ w m t. (m, scan_doors start (drop 1 f) read w m t))

  -- the roots are those of the doors that are marked as root
  pub roots_of_doors : filter root_of (filter is_door (drop 1 f)) ≡ filter is_root (drop 1 f)
  roots_of_doors = filter_filter is_door root_of is_root (drop 1 f) (λ w m. same_test
      (λ t. let k = (and_iff (is_door w) (root_of w)).0 t in (and_iff (is_node w) (root_of w)).1 (((and_iff (is_node w) (door_of w)).0 k.0).0, k.1))
      (λ t. (and_iff (is_door w) (root_of w)).1 (scan_doors start (drop 1 f) read w m t, ((and_iff (is_node w) (root_of w)).0 t).1)))

-- Accepted wholes

-- the header is no node
header_node : (h : ℕ) (ws : List ℕ) → part_check (h ∷ ws) ≡ 0 → is_node h ≡ false
header_node h ws c = ne_eqb (kind_of h) 2 (λ q. omega (arith, (part_read (h ∷ ws) c).kind))

pub whole_part : (f : List ℕ) → whole_check f ≡ 0 → part_check f ≡ 0
whole_part f c = ((then_iff (part_check f) _).0 c).0

single : (xs : List ℕ) → length xs ≤ 1 → (x : ℕ) → Mem x xs → (y : ℕ) × (xs ≡ y ∷ [])
single [] h x m = elim m [ ]
single (y ∷ []) h x m = (y, refl)
single (y ∷ z ∷ xs) h x m = absurd (omega arith)

-- the one root of a whole
pub whole_root : (f : List ℕ) → whole_check f ≡ 0 → (r : ℕ) × (roots (drop 1 f) ≡ r ∷ [])
whole_root [] c = absurd (omega arith)
whole_root (h ∷ ws) c =
    let (p, t) = (then_iff (part_check (h ∷ ws)) _).0 c in
    let (w, m, t) = (any_iff is_root ws).0 (rw (header_node h ws p) at (simp checks at t).0) in
    single (roots ws) (one_root (h ∷ ws) p) (node_of w) ((map_filter_iff node_of is_root (node_of w) ws).1 (w, m, t, refl))

-- every target of a whole is a node of it
pub whole_target : (f : List ℕ) → whole_check f ≡ 0 → (x w : ℕ) → Mem w (edges (drop 1 f) x) → Mem (target_of w) (nodes (drop 1 f))
whole_target [] c x w m = absurd (omega arith)
whole_target (h ∷ ws) c x w m =
    let (p, s) = (then_iff (part_check (h ∷ ws)) _).0 c in
    let (i, t, n) = edge_of ws x w m in
    let all = (all_that_iff is_edge (λ w. member (target_of w) (nodes (h ∷ ws))) (h ∷ ws)).0 (simp checks at s).1 in
    rw (header_node h ws p) at ((member_iff (target_of w) (nodes (h ∷ ws))).0 (all w (there i) t))
