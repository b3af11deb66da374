-- To triples: the triples of an accepted whole are its links, sorted, each once, and are read without 18; which wholes have 19; and back and
-- forth. Assumes nothing.
use mathlib.Core.Path.{◌≡◌, refl, sym, ◌∙◌, ap, ap₂, subst}
use mathlib.Core.Logic.{◌↔◌, ◌⊎◌, inl, inr}
use mathlib.Core.Bool.{false, ◌||◌}
use mathlib.Core.List.Memᴰ
use mathlib.Core.List.{List, [], ◌∷◌, map, flatten}
use Prim.Native.Nat.{ℕ, suc, ◌*◌, ◌^◌, ◌≤◌, ◌<◌}
use native.Mathlib.Omega.{arith}
use lib.Dec.{T, eqb, ltb}
use lib.ListN.{length, get_or, drop, length-map}
use borrow.Author.Tests.{lt-ltb}
use Rattle.sets.specs.Sets.{Mem, here, there, Same, Ascending, Lists, filter, member, any}
use Rattle.sets.proofs.Tests.{either, passed, is_true, and_iff, or_iff, not_iff, le_iff, eq_iff}
use Rattle.sets.proofs.Sets.{on_cons, map_ascending, flatten_map_iff, member_iff, set_of_lists}
use Rattle.sets.proofs.Filter.{filter_none, any_iff, all_iff, map_iff, map_filter_iff}
use Rattle.files.specs.Field.{node_of, root_of, stopped_of, label_of, target_of, file}
use Rattle.files.specs.Part.{is_node, is_edge, is_stopped, nodes, stopped, edges, whole_check}
use Rattle.files.proofs.Checks.{checks}
use Rattle.files.proofs.Fields.{node, node_below}
use Rattle.files.proofs.Blocks.{node_small, edge_of}
use Rattle.files.proofs.Parts.{part_read, nodes_ascending, edges_ascending, whole_part, whole_target}
use Rattle.triples.specs.Triple.{Triple, triple, triples_of, root_word, triples_in, in_fields, triples_check, key_of, source_in, keys_in, IsEnd, IsWholeOf, HasEdge, HasLink, from_triples, link_of, keys_from, words_of, root_in, to_triples, is_linked, say_check, plain_word, plain}
use Rattle.triples.proofs.Keys.{Fields, triple_in, source_is, triple_is, link_above, groups_ascending, words_length, read_words, read_keys}
use Rattle.triples.proofs.Made.{keys_made}
use Rattle.triples.proofs.From.{keys_length, triples_read, from_is, body_is, keys_back}
use Rattle.triples.proofs.Plain.{edge_owner, mark_none, root_node, plain_composed, whole_composable}
use Rattle.triples.proofs.Unique.{one_body}

-- Sorted triples, of a triple file

-- the same root, the same triples, ascending by source, label, target (`key_less`), so each once
pub record IsSorted (ws out : List ℕ) : Type 0 where
  pub root : root_word out ≡ root_word ws
  pub triples : Same (triples_in out) (triples_in ws)
  pub sorted : Ascending (map key_of (triples_in out))
  pub count : length out ≡ suc (3 * length (triples_in out))

-- every word of them stands in a triple
said_count : (r : ℕ) (ks : List ℕ) → length (r ∷ words_of ks) ≡ suc (3 * length (triples_in (r ∷ words_of ks)))
said_count r ks = rw (read_words ks) (omega (arith, words_length ks, length-map ks triple_in))

pub sorted_set_lem : (ws : List ℕ) → triples_check ws ≡ 0 → IsSorted ws (root_word ws ∷ words_of (keys_in ws))
sorted_set_lem ws c =
    let r = triples_read ws c in
    let ts = triples_in ws in
    let ks = keys_in ws in
    let l = set_of_lists (map key_of ts) in
    record {
      root = refl;
      triples = rw (read_words ks) (
        λ t m.
            let (k, i, q) = Memᴰ.of_map triple_in ks m in
            let (u, i, e) = Memᴰ.of_map key_of ts (l.sound k i) in
            subst (λ t. Mem t ts) (sym (triple_is u (r.fields u i)) ∙ ap triple_in e ∙ q) i,
        λ t m. (map_iff triple_in t ks).1 (key_of t, l.complete (key_of t) (Memᴰ.map key_of m), triple_is t (r.fields t m)),
      );
      sorted = rw (read_keys ks) l.ascending;
      count = said_count (root_word ws) ks;
    }

-- The triples of an accepted whole

-- a whole and what is left of it with only the root as door have the same triples
plain_keys : (x : ℕ) (ws : List ℕ) → keys_from x (map plain_word ws) ≡ keys_from x ws
plain_keys x [] = refl
plain_keys x (w ∷ ws) = elim (either (is_node w)) [
  | inl n ↦
      let i = node (node_of w) (root_of w) (root_of w) false (node_below w) in
      rw (n, i.kind_is, i.node_is) (plain_keys (node_of w) ws)
  | inr n ↦ rw (n, n) (ap (link_of x w ∷◌) (plain_keys x ws))
]

link_fields : (x w : ℕ) → x < 2 ^ 16 → Fields (triple x (label_of w) (target_of w))
link_fields x w h = record { source = h; label = omega arith; target = omega arith }

some_member : (xs : List ℕ) → 0 < length xs → (x : ℕ) × Mem x xs
some_member [] h = absurd (omega arith)
some_member (x ∷ xs) h = (x, here refl)

mem_length : {A : Type 0} {x : A} {xs : List A} → Mem x xs → 0 < length xs
mem_length (here e) = omega arith
mem_length (there m) = omega arith

words_small : (ks : List ℕ) → ((k : ℕ) → Mem k ks → source_in k < 2 ^ 16) → (w : ℕ) → Mem w (words_of ks) → w < 2 ^ 32
words_small (k ∷ ks) h w (here e) = omega (arith, h k (here refl))
words_small (k ∷ ks) h w (there (here e)) = omega arith
words_small (k ∷ ks) h w (there (there (here e))) = omega arith
words_small (k ∷ ks) h w (there (there (there m))) = words_small ks (λ l i. h l (there i)) w m
words_small [] h w x'' = elim x'' [ ]

-- Their count: each word after the header is a node's or a triple's, and there is a node

pub to_count : (f : List ℕ) → length (to_triples f) ≡ suc (3 * length (triples_in (to_triples f)))
to_count f = said_count (root_in (drop 1 f)) (keys_from 0 (drop 1 f))

pub to_length : (f : List ℕ) → whole_check f ≡ 0 → length f ≤ 4096 → length (to_triples f) ≤ 12286
to_length f c l =
    omega (arith, words_length (keys_from 0 (drop 1 f)), keys_length 0 (drop 1 f), mem_length (root_node f c), (part_read f (whole_part f c)).long)

-- What they are, of 32-bit words

module _ (f : List ℕ) (c : whole_check f ≡ 0) (word : (w : ℕ) → Mem w f → w < 2 ^ 32) where
  abbrev ws : List ℕ
  ws = drop 1 f

  abbrev keys : List ℕ
  keys = keys_from 0 ws

  abbrev own : ℕ → List ℕ
  own x = map (link_of x) (edges ws x)

  keys_are : keys ≡ flatten (map own (nodes ws))
  keys_are = sym (plain_keys 0 ws) ∙ ap (keys_from 0) (plain_composed f c) ∙ keys_made (whole_composable f c word)

  edge_source : (x w : ℕ) → Mem w (edges ws x) → Fields (triple x (label_of w) (target_of w))
  edge_source x w m = link_fields x w (node_small ws x (edge_of ws x w m).2)

  keys_ascending : Ascending keys
  keys_ascending = rw keys_are (groups_ascending own (nodes ws) (nodes_ascending f (whole_part f c))
      (λ x m. map_ascending (link_of x) (edges ws x) (λ v w i j.
      let a = (whole_composable f c word).edges x v i in
      let b = (whole_composable f c word).edges x w j in
      link_above x v w a.kind_is a.word b.kind_is b.word) (edges_ascending f (whole_part f c) x))
      (λ x k m i. let (w, j, q) = Memᴰ.of_map (link_of x) (edges ws x) i in ap source_in (sym q) ∙ source_is (triple x (label_of w) (target_of w)) (edge_source x w j)))

  -- a number is that of a link
  key_iff : (k : ℕ) → Mem k keys ↔ ((x : ℕ) × (w : ℕ) × Mem w (edges ws x) × (link_of x w ≡ k))
  key_iff k = rw keys_are (
    λ m.
        let (x, i, j) = (flatten_map_iff own k (nodes ws)).0 m in
        let (w, j, q) = Memᴰ.of_map (link_of x) (edges ws x) j in
        (x, w, j, q),
    λ (x, w, m, q). (flatten_map_iff own k (nodes ws)).1 (x, (edge_of ws x w m).2, (map_iff (link_of x) k (edges ws x)).1 (w, m, q)),
  )

  -- the triples are the links
  pub to_links : (x a y : ℕ) → Mem (triple x a y) (triples_in (to_triples f)) ↔ HasEdge f x a y
  to_links x a y = rw (read_words keys) (
    λ m.
        let (k, i, q) = Memᴰ.of_map triple_in keys m in
        let (z, w, j, e) = (key_iff k).0 i in
        let is : triple z (label_of w) (target_of w) ≡ triple x a y = sym (triple_is (triple z (label_of w) (target_of w)) (edge_source z w j)) ∙ ap triple_in e ∙ q in
        (w, subst (λ x. Mem w (edges ws x)) (ap (λ t. t.source) is) j, ap (λ t. t.label) is, ap (λ t. t.target) is),
    λ (w, m, p, q).
        let is : triple_in (link_of x w) ≡ triple x a y = triple_is (triple x (label_of w) (target_of w)) (edge_source x w m) ∙ (λ i. triple x (p i) (q i)) in
        (map_iff triple_in (triple x a y) keys).1 (link_of x w, (key_iff (link_of x w)).1 (x, w, m, refl), is),
  )

  pub to_sorted : Ascending (map key_of (triples_in (to_triples f)))
  to_sorted = rw (read_keys keys) keys_ascending

  -- so they are read again
  sources : (k : ℕ) → Mem k keys → source_in k < 2 ^ 16
  sources k m = let (x, w, i, q) = (key_iff k).0 m in rw (← q, source_is (triple x (label_of w) (target_of w)) (edge_source x w i)) (edge_source x w i).source

  pub to_words : (w : ℕ) → Mem w (to_triples f) → w < 2 ^ 32
  to_words = on_cons (λ w. w < 2 ^ 32) (omega (arith, node_small ws (root_in ws) (root_node f c))) (words_small keys sources)

  pub to_checked : triples_check (to_triples f) ≡ 0
  to_checked = simp checks (
    (omega (arith, words_length keys), omega (arith, node_small ws (root_in ws) (root_node f c))),
    (all_iff in_fields (triples_of (words_of keys))).1 (rw (read_words keys) (λ t m.
        let (k, i, q) = Memᴰ.of_map triple_in keys m in
        subst (λ t. T (in_fields t)) q (simp (and_iff, le_iff) ((omega (arith, sources k i), omega arith), omega arith)))),
  )

-- 19

linked_iff : (f : List ℕ) → whole_check f ≡ 0 → (x : ℕ) → T (is_linked (drop 1 f) x) ↔ HasLink f x
linked_iff f c x = (to, from)
  where
    ws : List ℕ
    ws = drop 1 f

    to : T (is_linked ws x) → HasLink f x
    to t = elim ((or_iff (ltb 0 (length (edges ws x))) (member x (map target_of (filter is_edge ws)))).0 t) [
      | inl t ↦ let (w, m) = some_member (edges ws x) (omega (arith, simp le_iff at t)) in inl (label_of w, target_of w, (w, m, refl, refl))
      | inr t ↦
          let (w, i, u, q) = (map_filter_iff target_of is_edge x ws).0 ((member_iff x (map target_of (filter is_edge ws))).0 t) in
          let (y, m) = edge_owner f (whole_part f c) w i (is_true (is_edge w) u) in
          inr (y, label_of w, (w, m, refl, q))
    ]

    from : HasLink f x → T (is_linked ws x)
    from (inl (a, y, (w, m, p, q))) = (or_iff (ltb 0 (length (edges ws x))) _).1 (inl (passed (lt-ltb 0 (length (edges ws x)) (mem_length m))))
    from (inr (y, a, (w, m, p, q))) =
        let (i, u, n) = edge_of ws y w m in
        (or_iff (ltb 0 (length (edges ws x))) (member x (map target_of (filter is_edge ws)))).1
        (inr ((member_iff x (map target_of (filter is_edge ws))).1 ((map_filter_iff target_of is_edge x ws).1 (w, i, u, q))))

-- triples can say an accepted whole exactly if no node is stopped and each but the root has a link
pub say_iff : (f : List ℕ) → whole_check f ≡ 0
    → (say_check f ≡ 0) ↔ ((stopped (drop 1 f) ≡ []) × ((x : ℕ) → Mem x (nodes (drop 1 f)) → (x ≡ root_in (drop 1 f)) ⊎ HasLink f x))
say_iff f c = (
  λ e.
      let (s, a) = simp checks at e in (
        ap (map node_of) (filter_none is_stopped ws (λ w m. elim (either (is_stopped w)) [
          | inl t ↦ absurd ((not_iff (any is_stopped ws)).0 s ((any_iff is_stopped ws).1 (w, m, passed t)))
          | inr t ↦ t
        ])),
        λ x m. elim ((or_iff (eqb x (root_in ws)) (is_linked ws x)).0 ((all_iff (λ x. eqb x (root_in ws) || is_linked ws x) (nodes ws)).0 a x m)) [
          | inl t ↦ inl ((eq_iff x (root_in ws)).0 t)
          | inr t ↦ inr ((linked_iff f c x).0 t)
        ],
      ),
  λ (s, a). simp checks (
    (not_iff (any is_stopped ws)).1 (λ t. let (w, m, u) = (any_iff is_stopped ws).0 t in rw (mark_none stopped_of ws s w m) at u),
    (all_iff (λ x. eqb x (root_in ws) || is_linked ws x) (nodes ws)).1 (λ x m. (or_iff (eqb x (root_in ws)) (is_linked ws x)).1 (elim (a x m) [
      | inl e ↦ inl ((eq_iff x (root_in ws)).1 e)
      | inr l ↦ inr ((linked_iff f c x).1 l)
    ])),
  ),
)
  where
    ws : List ℕ
    ws = drop 1 f

-- Back and forth

-- read again, the triples of a whole give it with site 0 and only the root as door
pub from_to : (f : List ℕ) → whole_check f ≡ 0 → ((w : ℕ) → Mem w f → w < 2 ^ 32) → say_check f ≡ 0 → from_triples (to_triples f) ≡ plain f
from_to f c word s = sym (ap (file 1 0 0) (plain_composed f c) ∙ one_body (whole_composable f c word) ends (λ x a y. ((links x a y).1, (links x a y).0)))
  where
    ws : List ℕ
    ws = drop 1 f

    links : (x a y : ℕ) → Mem (triple x a y) (triples_in (to_triples f)) ↔ HasEdge f x a y
    links = to_links f c word

    end : (x : ℕ) → (x ≡ root_in ws) ⊎ HasLink f x → IsEnd (root_in ws) (triples_in (to_triples f)) x
    end x (inl e) = inl e
    end x (inr (inl (a, y, l))) = inr (triple x a y, (links x a y).1 l, inl refl)
    end x (inr (inr (y, a, l))) = inr (triple y a x, (links y a x).1 l, inr refl)

    among : (x : ℕ) → IsEnd (root_in ws) (triples_in (to_triples f)) x → Mem x (nodes ws)
    among x (inl e) = rw e (root_node f c)
    among x (inr (t, m, q)) =
        let (w, i, a, y) = (links t.source t.label t.target).0 m in
        elim q [
          | inl q ↦ subst (λ x. Mem x (nodes ws)) q (edge_of ws t.source w i).2
          | inr q ↦ subst (λ x. Mem x (nodes ws)) (y ∙ q) (whole_target f c t.source w i)
        ]

    ends : Lists (IsEnd (root_in ws) (triples_in (to_triples f))) (nodes ws)
    ends = record { ascending = nodes_ascending f (whole_part f c); sound = λ x m. end x (((say_iff f c).0 s).1 x m); complete = among }

-- the whole file of triples has no 19, and its triples are the root and the sorted set of these
pub whole_said : (root : ℕ) (ts : List Triple) (f : List ℕ) → IsWholeOf root ts f → say_check f ≡ 0
whole_said root ts f i = (say_iff f i.accepted).1 (i.none_stopped, λ x m. linked x (i.all_nodes.sound x m))
  where
    linked : (x : ℕ) → IsEnd root ts x → (x ≡ root_in (drop 1 f)) ⊎ HasLink f x
    linked x (inl e) = inl (e ∙ sym (ap (λ xs. get_or xs 0 0) i.one_root))
    linked x (inr (t, m, inl q)) = inr (inl (t.label, t.target, rw (← q) ((i.links t.source t.label t.target).1 m)))
    linked x (inr (t, m, inr q)) = inr (inr (t.source, t.label, rw (← q) ((i.links t.source t.label t.target).1 m)))

pub to_from : (ws : List ℕ) → triples_check ws ≡ 0 → length (from_triples ws) ≤ 4096 → to_triples (from_triples ws) ≡ root_word ws ∷ words_of (keys_in ws)
to_from ws c l = ap₂ (λ (x : ℕ) (ks : List ℕ). x ∷ words_of ks)
    (ap (λ xs. get_or xs 0 0) (from_is ws c l).one_root)
    (ap (λ f. keys_from 0 (drop 1 f)) (body_is (root_word ws) (triples_in ws)) ∙ keys_back (root_word ws) (triples_in ws) (triples_read ws c))
