-- The rows of a whole's edge words are written, one edge word after the other. Assumes nothing.
use mathlib.Core.Path.{◌≡◌, refl, sym, ap, subst, ◌∙◌}
use mathlib.Core.Logic.{inl, ⊎_elim}
use mathlib.Core.Bool.{true, false, not, ◌&&◌}
use mathlib.Core.List.{List, [], ◌∷◌}
use Prim.Native.Nat.{ℕ, zero, suc, ◌+◌, ◌*◌, ◌≤◌, ◌<◌}
use native.Mathlib.Omega.{arith}
use lib.ListN.{length, get_or}
use Rattle.std.specs.Prelude.{None}
use Rattle.sets.specs.Sets.{Mem, here, there, member}
use Rattle.sets.specs.States.{has_state}
use Rattle.sets.specs.Table.{half, put_half}
use Rattle.sets.proofs.Tests.{passed}
use Rattle.sets.proofs.Cases.{clash, eq_or_ne}
use Rattle.sets.proofs.Sets.{member_iff}
use Rattle.sets.proofs.Filter.{all_that_iff}
use Rattle.sets.proofs.Tables.{length_put, half_same, half_apart, half_other, half_zero, zero_at}
use Rattle.files.specs.Limits.{shown_words}
use Rattle.files.specs.Field.{label_of, target_of}
use Rattle.files.specs.Outcome.{zeros}
use Rattle.files.specs.Part.{is_edge, nodes, part_check, whole_check}
use Rattle.files.proofs.Checks.{then_iff, checks}
use Rattle.files.proofs.Parts.{whole_part}
use Rattle.paths.specs.declared.automaton.Automaton.{Automaton}
use Rattle.paths.specs.Letters.{reads}
use Rattle.slots.specs.Slots.{owners_base, node_at, edge_at, stopped_at, number}
use Rattle.slots.specs.Layout.{Owned, OwnersOnly, PositionOf}
use Rattle.slots.proofs.Places.{edge_below, node_below, edge_no_node, in_node, nodes_apart}
use Rattle.walk_links.specs.Tables.{target_at, mask_at, next_at, heads_base, head_at, Measurable, last_into, EdgeRow, Edged, Indexed, Linking}
use Rattle.walk_links.proofs.Chains.{last_here, last_other, last_else}

-- ---- where an edge leads

get_mem : (ws : List ℕ) (x : ℕ) → x < length ws → Mem (get_or ws x 0) ws
get_mem [] x l = absurd (omega arith)
get_mem (w ∷ ws) zero l = here refl
get_mem (w ∷ ws) (suc x) l = there (get_mem ws x (omega arith))

-- the target of a whole's edge word is a node of it
pub edge_target : (ws : List ℕ) → whole_check ws ≡ 0 → (x : ℕ) → edge_at ws x ≡ true → (i : ℕ) × (node_at ws i ≡ true) × (number ws i ≡ number ws x)
unfolding edge_at number
edge_target ws c x e =
    let s = ((then_iff (part_check ws) _).0 c).1 in
    let all = (all_that_iff is_edge (λ w. member (target_of w) (nodes ws)) ws).0 (simp checks at s).1 in
    in_node ws (target_of (get_or ws x 0)) ((member_iff (target_of (get_or ws x 0)) (nodes ws)).0 (all (get_or ws x 0) (get_mem ws x (edge_below ws x e)) (passed e)))

-- so it is found
pub target_found : (ws : List ℕ) → whole_check ws ≡ 0 → (x : ℕ) → edge_at ws x ≡ true → PositionOf ws (number ws x) None → ⊥
target_found ws c x e p =
    let (i, n, q) = edge_target ws c x e in
    p i n q

-- ---- rows that stay

-- an edge word's row, where its numbers stay
pub row_kept : (ws : List ℕ) (a : Automaton) (w w' : List ℕ) (x : ℕ) → target_at w' x ≡ target_at w x → mask_at w' x ≡ mask_at w x → next_at w' x ≡ next_at w x
    → EdgeRow ws a w x → EdgeRow ws a w' x
row_kept ws a w w' x t m n r = record {
  node = rw t r.node;
  target = rw t r.target;
  mask = λ p. rw (t, m) (r.mask p);
  next = n ∙ r.next;
}

-- ---- nothing was looked at

zeros_half : (n b i : ℕ) → half (zeros n) b i ≡ 0
zeros_half n b i = half_zero (zeros n) b i (zero_at n (b + 2 * i)) (zero_at n (b + 2 * i + 1))

pub linking_none : (ws : List ℕ) (a : Automaton) (n m : ℕ) (w o o' : List ℕ) → length ws ≤ shown_words → w ≡ zeros n → o ≡ zeros m → Owned ws o' → OwnersOnly ws o o'
    → Linking ws a w o' 0
linking_none ws a n m w o o' few p q owned only = record {
  owned = owned;
  rows = λ z l e. absurd (omega arith);
  heads = λ i v. only.rest heads_base i (omega arith) ∙ rw q (zeros_half m heads_base i);
  blank = λ i k v l. rw p (zeros_half n 0 (16 * i + k));
}

-- ---- a word that is no edge word

pub linking_other : {ws : List ℕ} {a : Automaton} {w o : List ℕ} {x : ℕ} → Linking ws a w o x → edge_at ws x ≡ false → Linking ws a w o (x + 1)
linking_other {ws} {a} {w} {o} {x} f n = record {
  owned = f.owned;
  rows = λ z l e. f.rows z (⊎_elim (λ (q : z ≡ x). absurd (clash (subst (λ z. edge_at ws z ≡ true) q e) n)) (λ q. omega (arith, q)) (eq_or_ne z x)) e;
  heads = λ i v. f.heads i v ∙ sym (last_other ws (number ws i) x n);
  blank = f.blank;
}

-- ---- an edge word

module _ (ws : List ℕ) (a : Automaton) (w o : List ℕ) (x t m : ℕ) (ok : Measurable ws w o) (f : Linking ws a w o x) (edge : edge_at ws x ≡ true)
    (node : node_at ws t ≡ true) (is : number ws t ≡ number ws x)
    (masks : (p : ℕ) → has_state m p ≡ (not (stopped_at ws t) && reads a.letters (label_of (get_or ws x 0)) p)) where
  abbrev w₁ : List ℕ
  w₁ = put_half w 0 (16 * x + 0) t

  abbrev w₂ : List ℕ
  w₂ = put_half w₁ 0 (16 * x + 1) m

  abbrev w₃ : List ℕ
  w₃ = put_half w₂ 0 (16 * x + 2) (head_at o t)

  abbrev o₁ : List ℕ
  o₁ = put_half o heads_base t x

  -- the row has its place, and so has the node's last edge word
  room : (16 * x + 16 ≤ 16 * shown_words) × (t < shown_words) × (2 * (16 * shown_words) ≤ length w) × (heads_base + 2 * shown_words ≤ length o)
  room =
      let b = edge_below ws x edge in
      let c = node_below ws t node in
      (omega (arith, ok.few), omega (arith, ok.few), ok.works, omega (arith, ok.holds))

  target_is : target_at w₃ x ≡ t
  target_is =
      let e : 16 * x ≡ 16 * x + 0 = omega arith in
      half_other w₂ 0 (16 * x + 2) (head_at o t) (16 * x) (λ z. omega arith)
      ∙ half_other w₁ 0 (16 * x + 1) m (16 * x) (λ z. omega arith)
      ∙ ap (half w₁ 0) e
      ∙ half_same w 0 (16 * x + 0) t (omega (arith, room))

  mask_is : mask_at w₃ x ≡ m
  mask_is = half_other w₂ 0 (16 * x + 2) (head_at o t) (16 * x + 1) (λ z. omega arith) ∙ half_same w₁ 0 (16 * x + 1) m (omega (arith, room, length_put w 0 (16 * x + 0) t))

  next_is : next_at w₃ x ≡ last_into ws (number ws x) x
  next_is =
      half_same w₂ 0 (16 * x + 2) (head_at o t) (omega (arith, room, length_put w 0 (16 * x + 0) t, length_put w₁ 0 (16 * x + 1) m))
      ∙ f.heads t node
      ∙ ap (λ y. last_into ws y x) is

  -- the other rows stay
  other_row : (z q : ℕ) → (z ≡ x → ⊥) → q < 16 → half w₃ 0 (16 * z + q) ≡ half w 0 (16 * z + q)
  other_row z q d l =
      half_other w₂ 0 (16 * x + 2) (head_at o t) (16 * z + q) (λ e. d (omega arith))
      ∙ half_other w₁ 0 (16 * x + 1) m (16 * z + q) (λ e. d (omega arith))
      ∙ half_other w 0 (16 * x + 0) t (16 * z + q) (λ e. d (omega arith))

  here_row : EdgeRow ws a w₃ x
  here_row = record {
    node = rw target_is node;
    target = rw target_is is;
    mask = λ p. rw (target_is, mask_is) (masks p);
    next = next_is;
  }

  old_row : (z : ℕ) → (z ≡ x → ⊥) → EdgeRow ws a w z → EdgeRow ws a w₃ z
  old_row z d r =
      let e : 16 * z ≡ 16 * z + 0 = omega arith in
      row_kept ws a w w₃ z (ap (half w₃ 0) e ∙ other_row z 0 d (omega arith) ∙ ap (half w 0) (sym e)) (other_row z 1 d (omega arith)) (other_row z 2 d (omega arith)) r

  -- the last edge word into each node
  head_is : (i : ℕ) → node_at ws i ≡ true → head_at o₁ i ≡ last_into ws (number ws i) (x + 1)
  head_is i n = ⊎_elim
      (λ (e : i ≡ t). rw e (half_same o heads_base t x (omega (arith, room)) ∙ sym (last_here ws (number ws t) x edge (sym is))))
      (λ d.
      half_other o heads_base t x i d ∙ f.heads i n
      ∙ sym (last_else ws (number ws i) x (λ e. d (nodes_apart ws (whole_part ws ok.accepted) i t n node (sym e ∙ sym is)))))
      (eq_or_ne i t)

  stored : Linking ws a w₃ o₁ (x + 1)
  stored = record {
    owned = λ i p l. rw (half_apart o heads_base t x owners_base i (inl (omega (arith, ok.few)))) (f.owned i p l);
    rows = λ z l e. ⊎_elim (λ (q : z ≡ x). rw q here_row) (λ d. old_row z d (f.rows z (omega (arith, d)) e)) (eq_or_ne z x);
    heads = head_is;
    blank = λ i q n l. other_row i q (λ e. clash n (subst (λ i. node_at ws i ≡ false) (sym e) (edge_no_node ws x edge))) l ∙ f.blank i q n l;
  }

  -- after the four stores
  pub linking_edge : (last : ℕ) (v₁ v₂ v₃ u₁ : List ℕ) → last ≡ head_at o t → v₁ ≡ put_half w 0 (16 * x + 0) t → v₂ ≡ put_half v₁ 0 (16 * x + 1) m
      → v₃ ≡ put_half v₂ 0 (16 * x + 2) last → u₁ ≡ put_half o heads_base t x → Linking ws a v₃ u₁ (x + 1)
  linking_edge last v₁ v₂ v₃ u₁ h q₁ q₂ q₃ q₄ = rw (q₄, q₃, q₂, q₁, h) stored

-- ---- all were looked at

module _ {ws : List ℕ} {a : Automaton} {w o : List ℕ} {x : ℕ} (f : Linking ws a w o x) (end : x ≡ length ws) where
  pub linked_rows : Edged ws a w
  linked_rows z e = f.rows z (omega (arith, edge_below ws z e)) e

  pub linked_heads : Indexed ws o
  linked_heads = record { owned = f.owned; head = λ i n. f.heads i n ∙ ap (last_into ws (number ws i)) end }
