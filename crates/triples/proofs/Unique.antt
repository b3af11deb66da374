-- The whole file of a root and a set of triples is determined by what the request says of it: nothing is left free. Assumes nothing.
use mathlib.Core.Path.{◌≡◌, refl, sym, ◌∙◌, ap, ap₂, subst}
use mathlib.Core.Logic.Iff
use mathlib.Core.Logic.{◌↔◌, inl, inr}
use mathlib.Core.Bool.{true, false}
use mathlib.Core.List.{List, [], ◌∷◌, map, flatten, map-id}
use Prim.Native.Nat.{ℕ, zero, suc, ◌+◌, ◌*◌, ◌/◌, ◌%◌, ◌^◌, ◌<◌}
use native.Mathlib.Nat.{mod-eq_of_lt, div-div-eq-div-mul}
use native.Mathlib.Omega.{arith}
use lib.Dec.{eqb}
use lib.ListN.{length, get_or, drop}
use borrow.Author.Tests.{eqb-true}
use Rattle.sets.specs.Sets.{Mem, here, ◌⊆◌, Lists, set_of}
use Rattle.sets.proofs.Sets.{unique, lists_unique}
use Rattle.sets.proofs.Filter.{map_agree}
use Rattle.sets.proofs.Lengths.{mem_drop}
use Rattle.files.specs.Field.{bits, kind_of, site_of, node_of, door_of, root_of, stopped_of, label_of, target_of, flag, header_word, node_word, edge_word, file}
use Rattle.files.specs.Refuse.{header_check}
use Rattle.files.specs.Part.{is_node, start, next, word_check, nodes, edges, part_check}
use Rattle.files.proofs.Checks.{checks, then_iff}
use Rattle.files.proofs.Ordered.{scan_checked}
use Rattle.files.proofs.Parts.{node_iff, part_read, whole_part}
use Rattle.files.proofs.Compose.{Link}
use Rattle.triples.specs.Triple.{Triple, triple, key_of, IsEnd, IsWholeOf, links_of, node_words, whole_of, root_in}
use Rattle.triples.proofs.Keys.{edge_made}
use Rattle.triples.proofs.Made.{marked, made_of, Composable}
use Rattle.triples.proofs.From.{Read, ends_lists, composable, links}
use Rattle.triples.proofs.Plain.{mark_alone, mark_none, recomposed, whole_composable}

-- edge words with one label and one target are one
links_more : {P Q : List ℕ} → ((w : ℕ) → Mem w P → Link w) → ((w : ℕ) → Mem w Q → Link w)
    → ((w : ℕ) → Mem w P → (v : ℕ) × Mem v Q × (label_of v ≡ label_of w) × (target_of v ≡ target_of w)) → P ⊆ Q
links_more {Q = Q} p q h w m =
    let (v, k, a, y) = h w m in
    let i = p w m in
    let j = q v k in
    subst (λ w. Mem w Q) (sym (edge_made v j.kind_is j.word) ∙ ap₂ edge_word a y ∙ edge_made w i.kind_is i.word) k

-- nodes and links that are those of some triples make their whole file
module _ {root : ℕ} {own : ℕ → List ℕ} {xs : List ℕ} {ts : List Triple} (p : Composable root own xs) (ends : Lists (IsEnd root ts) xs)
    (l : (x a y : ℕ) → ((w : ℕ) × Mem w (own x) × (label_of w ≡ a) × (target_of w ≡ y)) ↔ Mem (triple x a y) ts) where
  abbrev keys : List ℕ
  keys = set_of (map key_of ts)

  read : Read root ts
  read = record {
    small = p.small root p.rooted;
    fields = λ t m.
        let (w, k, a, y) = (l t.source t.label t.target).1 m in
        record { source = p.small t.source (ends.complete t.source (inr (t, m, inl refl))); label = omega (arith, a); target = omega (arith, y) };
  }

  own_is : (x : ℕ) → own x ≡ links_of keys x
  own_is x =
      let q = composable root ts read in
      let k : (a y : ℕ) → _ = λ a y. links root ts read x a y in
      unique (own x) (links_of keys x) (p.rises x) (q.rises x) (
        links_more (p.edges x) (q.edges x) (λ w m. (k (label_of w) (target_of w)).1 ((l x (label_of w) (target_of w)).0 (w, m, refl, refl))),
        links_more (q.edges x) (p.edges x) (λ w m. (l x (label_of w) (target_of w)).1 ((k (label_of w) (target_of w)).0 (w, m, refl, refl))),
      )

  pub one_body : file 1 0 0 (made_of root own xs) ≡ whole_of root ts
  unfolding whole_of
  one_body =
      ap (λ bs. file 1 0 0 (flatten bs)) (map_agree (λ x. marked root x ∷ own x) (node_words root keys) xs (λ x m. ap (marked root x ∷◌) (own_is x)))
      ∙ ap (λ xs. file 1 0 0 (flatten (map (node_words root keys) xs))) (lists_unique ends (ends_lists root ts) (λ x. Iff.rfl))

-- a word of 32 bits that is read as a node's was made so
flag_is : (i b : ℕ) → b < 2 → flag i (eqb b 1) ≡ b * 2 ^ i
flag_is i zero h = omega arith
flag_is i (suc zero) h = omega arith
flag_is i (suc (suc b)) h = absurd (omega arith)

-- from its bits 16 and on
raised : (w s r d : ℕ) → w / 65536 ≡ 8192 + (4 * s + 2 * r + d) → w ≡ 2 * 2 ^ 28 + (s * 2 ^ 18 + r * 2 ^ 17 + d * 2 ^ 16 + node_of w)
raised w s r d e = omega (arith, e)

node_made : (w : ℕ) → kind_of w ≡ 2 → bits 27 19 w ≡ 0 → w < 2 ^ 32 → w ≡ node_word (node_of w) (door_of w) (root_of w) (stopped_of w)
node_made w k z h =
    let kind : w / 268435456 % 16 ≡ w / 268435456 = mod-eq_of_lt (omega arith) in
    let from_19 : w / 524288 ≡ 1024 = omega (arith, kind, div-div-eq-div-mul w 524288 512) in
    let from_18 : w / 262144 ≡ 2 * 1024 + bits 18 18 w = omega (arith, div-div-eq-div-mul w 262144 2) in
    let from_17 : w / 131072 ≡ 2 * (w / 262144) + bits 17 17 w = omega (arith, div-div-eq-div-mul w 131072 2) in
    let from_16 : w / 65536 ≡ 2 * (w / 131072) + bits 16 16 w = omega (arith, div-div-eq-div-mul w 65536 2) in
    rw (flag_is 18 (bits 18 18 w) (omega arith), flag_is 17 (bits 17 17 w) (omega arith), flag_is 16 (bits 16 16 w) (omega arith))
    (raised w (bits 18 18 w) (bits 17 17 w) (bits 16 16 w) (omega arith))

-- and so was a header
header_made : (h n : ℕ) → header_check 1 true false n h ≡ 0 → site_of h ≡ 0 → h < 2 ^ 32 → h ≡ header_word 1 0 0 n
header_made h n c s b =
    let ((((k, z), t), l), e) = simp checks at c in
    let top : h / 268435456 % 16 ≡ h / 268435456 = mod-eq_of_lt (omega arith) in
    omega (arith, k, z, l, e, s, top, div-div-eq-div-mul h 16384 64, div-div-eq-div-mul h 1048576 16, div-div-eq-div-mul h 16777216 16)

file_made : (f : List ℕ) → part_check f ≡ 0 → site_of (get_or f 0 0) ≡ 0 → ((w : ℕ) → Mem w f → w < 2 ^ 32) → f ≡ file 1 0 0 (drop 1 f)
file_made [] c s w = absurd (omega arith)
file_made (h ∷ ws) c s w =
    ap (◌∷ ws) (header_made h (suc (length ws)) ((then_iff (header_check 1 true false (suc (length ws)) h) _).0 c).0 s (w h (here refl)))

pub whole_one : (root : ℕ) (ts : List Triple) (f : List ℕ) → IsWholeOf root ts f → f ≡ whole_of root ts
whole_one root ts f i =
    file_made f part i.site i.word
    ∙ ap (file 1 0 0) (sym (map-id ws) ∙ recomposed f part (λ w. w) (marked root) node (λ w n. refl))
    ∙ one_body (subst (λ r. Composable r (edges ws) (nodes ws)) root_is (whole_composable f i.accepted i.word)) i.all_nodes i.links
  where
    ws : List ℕ
    ws = drop 1 f

    part : part_check f ≡ 0
    part = whole_part f i.accepted

    root_is : root_in ws ≡ root
    root_is = ap (λ xs. get_or xs 0 0) i.one_root

    running : (w : ℕ) → Mem w ws → is_node w ≡ true → stopped_of w ≡ false
    running w m n = rw n at (mark_none stopped_of ws i.none_stopped w m)

    node : (w : ℕ) → Mem w ws → is_node w ≡ true → w ≡ marked root (node_of w)
    node w m n =
        let (st, k) = scan_checked word_check next (λ st. 0) start ws (part_read f part).words w m in
        node_made w (eqb-true (kind_of w) 2 n) ((node_iff st w n).0 k).zeros (i.word w (mem_drop f m))
        ∙ (λ j. node_word (node_of w) (mark_alone f part door_of root i.only_door w m n j) (mark_alone f part root_of root i.one_root w m n j) (running w m n j))
