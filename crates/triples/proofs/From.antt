-- From triples: what passes 18 and fits is the whole file of its root and its triples; its length; and the same root and the same set of triples
-- give the same file. Assumes nothing.
use mathlib.Core.Path.{◌≡◌, refl, sym, ◌∙◌, ap, ap₂, subst}
use mathlib.Core.Logic.{◌↔◌, inl, inr, ⊎_elim}
use mathlib.Core.List.Memᴰ
use mathlib.Core.List.{List, [], ◌∷◌, ◌++◌, map, flatten, map-map}
use Prim.Native.Nat.{ℕ, suc, ◌+◌, ◌^◌, ◌≤◌, ◌<◌}
use native.Mathlib.Omega.{arith}
use lib.Dec.{eqb}
use lib.ListN.{length}
use Rattle.sets.specs.Sets.{Mem, here, there, ◌⊆◌, Same, Lists, set_of, filter}
use Rattle.sets.proofs.Tests.{either, and_iff, le_iff, eq_iff}
use Rattle.sets.proofs.Sets.{lists_unique, lists_iff, map_ascending, filter_iff, filter_ascending, set_of_lists}
use Rattle.sets.proofs.Filter.{all_iff, map_iff, map_agree, map_fixed}
use Rattle.files.specs.Field.{node_of, label_of, target_of, file}
use Rattle.files.specs.Part.{is_node, nodes}
use Rattle.files.proofs.Checks.{checks}
use Rattle.files.proofs.Compose.{nodes_composed}
use Rattle.triples.specs.Triple.{Triple, triple, root_word, triples_in, in_fields, triples_check, key_of, source_in, label_in, target_in, edge_of, link_of, keys_in, IsEnd, IsWholeOf, ends_of, links_of, node_words, whole_of, from_triples, keys_from}
use Rattle.triples.proofs.Keys.{Fields, triple_in, source_is, label_is, target_is, triple_is, edge_in, link_edge_lem, edge_above, grouped}
use Rattle.triples.proofs.Made.{marked, made_of, Composable, made, composes, keys_made, made_whole}

-- each word of a body is a node's or a triple's
pub keys_length : (x : ℕ) (ws : List ℕ) → length (keys_from x ws) + length (nodes ws) ≡ length ws
keys_length x [] = refl
keys_length x (w ∷ ws) = elim (either (is_node w)) [
  | inl n ↦ rw n (omega (arith, keys_length (node_of w) ws))
  | inr n ↦ rw n (omega (arith, keys_length x ws))
]

-- What 18 leaves

pub record Read (root : ℕ) (ts : List Triple) : Type 0 where
  pub small : root < 2 ^ 16
  pub fields : (t : Triple) → Mem t ts → Fields t

pub triples_read : (ws : List ℕ) → triples_check ws ≡ 0 → Read (root_word ws) (triples_in ws)
triples_read ws c =
    let ((n, r), a) = simp checks at c in
    record {
      small = omega (arith, r);
      fields = λ t m.
          let ((x, l), y) = simp (and_iff, le_iff) at ((all_iff in_fields (triples_in ws)).0 a t m) in
          record { source = omega (arith, x); label = omega (arith, l); target = omega (arith, y) };
    }

-- The file of a root and triples

module _ (root : ℕ) (ts : List Triple) where
  -- of all triples, sorted, each once
  abbrev keys : List ℕ
  keys = set_of (map key_of ts)

  abbrev ends : List ℕ
  ends = root ∷ map (λ t. t.source) ts ++ map (λ t. t.target) ts

  pub body_is : whole_of root ts ≡ file 1 0 0 (flatten (map (node_words root keys) (ends_of root ts)))
  unfolding whole_of
  body_is = refl

  end_iff : (x : ℕ) → Mem x ends ↔ IsEnd root ts x
  end_iff x = (to, from)
    where
      to : Mem x ends → IsEnd root ts x
      to m = ⊎_elim (λ e. inl e)
          (λ m. ⊎_elim
          (λ m. let (t, k, q) = Memᴰ.of_map (λ (t : Triple). t.source) ts m in inr (t, k, inl q))
          (λ m. let (t, k, q) = Memᴰ.of_map (λ (t : Triple). t.target) ts m in inr (t, k, inr q))
          (Memᴰ.append_cases (map (λ t. t.source) ts) m))
          (Memᴰ.cases_cons m)

      from : IsEnd root ts x → Mem x ends
      from (inl e) = here e
      from (inr (t, k, inl q)) = there (Memᴰ.append_left (map (λ t. t.target) ts) ((map_iff (λ (t : Triple). t.source) x ts).1 (t, k, q)))
      from (inr (t, k, inr q)) = there (Memᴰ.append_right (map (λ t. t.source) ts) ((map_iff (λ (t : Triple). t.target) x ts).1 (t, k, q)))

  pub ends_lists : Lists (IsEnd root ts) (ends_of root ts)
  ends_lists = lists_iff end_iff (set_of_lists ends)

  -- a number is that of a triple
  pub key_iff : (k : ℕ) → Mem k keys ↔ ((t : Triple) × Mem t ts × (key_of t ≡ k))
  key_iff k =
      let l = set_of_lists (map key_of ts) in
      let i = map_iff key_of k ts in
      (λ m. i.0 (l.sound k m), λ m. l.complete k (i.1 m))

  -- the numbers of a source
  abbrev own : ℕ → List ℕ
  own x = filter (λ k. eqb (source_in k) x) keys

  own_source : (x k : ℕ) → Mem k (own x) → source_in k ≡ x
  own_source x k m = (eq_iff (source_in k) x).0 ((filter_iff (λ k. eqb (source_in k) x) k keys).0 m).1

  -- an edge is that of a number with this source
  link_iff : (x w : ℕ) → Mem w (links_of keys x) ↔ ((k : ℕ) × Mem k keys × (source_in k ≡ x) × (edge_of k ≡ w))
  link_iff x w = (
    λ m. let (k, n, q) = Memᴰ.of_map edge_of (own x) m in (k, ((filter_iff (λ k. eqb (source_in k) x) k keys).0 n).0, own_source x k n, q),
    λ (k, n, e, q). (map_iff edge_of w (own x)).1 (k, (filter_iff (λ k. eqb (source_in k) x) k keys).1 (n, (eq_iff (source_in k) x).1 e), q),
  )

  module _ (r : Read root ts) where
    ends_small : (x : ℕ) → IsEnd root ts x → x < 2 ^ 16
    ends_small x (inl e) = omega (arith, r.small)
    ends_small x (inr (t, k, inl q)) = rw (← q) (r.fields t k).source
    ends_small x (inr (t, k, inr q)) = rw (← q) (r.fields t k).target

    pub composable : Composable root (links_of keys) (ends_of root ts)
    composable = record {
      ascending = ends_lists.ascending;
      small = λ x m. ends_small x (ends_lists.sound x m);
      rooted = ends_lists.complete root (inl refl);
      rises = λ x. map_ascending edge_of (own x) (λ k l m n. edge_above k l (own_source x k m ∙ sym (own_source x l n)))
          (filter_ascending (λ k. eqb (source_in k) x) keys (set_of_lists (map key_of ts)).ascending);
      edges = λ x w m. let (k, n, e, q) = (link_iff x w).0 m in rw (← q) (let i = edge_in k in record { kind_is = i.kind_is; word = i.word });
      targets = λ x w m.
          let (k, n, e, q) = (link_iff x w).0 m in
          let (t, i, g) = (key_iff k).0 n in
          let target : t.target ≡ target_of w = sym (target_is t (r.fields t i)) ∙ ap target_in g ∙ sym (edge_in k).target_is ∙ ap target_of q in
          ends_lists.complete (target_of w) (inr (t, i, inr target));
    }

    pub links : (x a y : ℕ) → ((w : ℕ) × Mem w (links_of keys x) × (label_of w ≡ a) × (target_of w ≡ y)) ↔ Mem (triple x a y) ts
    links x a y = (
      λ (w, m, p, q).
          let (k, n, e, g) = (link_iff x w).0 m in
          let (t, i, h) = (key_iff k).0 n in
          let label : label_in k ≡ a = sym (edge_in k).label_is ∙ ap label_of g ∙ p in
          let target : target_in k ≡ y = sym (edge_in k).target_is ∙ ap target_of g ∙ q in
          let is : triple_in k ≡ triple x a y = λ j. triple (e j) (label j) (target j) in
          subst (λ t. Mem t ts) (sym (triple_is t (r.fields t i)) ∙ ap triple_in h ∙ is) i,
      λ m.
          let t = triple x a y in
          let k = key_of t in
          let f = r.fields t m in
          let i = edge_in k in
          (edge_of k, (link_iff x (edge_of k)).1 (k, (key_iff k).1 (t, m, refl), source_is t f, refl), i.label_is ∙ label_is t f, i.target_is ∙ target_is t f),
    )

    whole_of_lem : length (whole_of root ts) ≤ 4096 → IsWholeOf root ts (whole_of root ts)
    unfolding whole_of
    whole_of_lem l = made_whole (made composable (omega (arith, l))) ends_lists links

    -- its triples are the triples, sorted, each once
    pub keys_back : keys_from 0 (made_of root (links_of keys) (ends_of root ts)) ≡ keys
    keys_back =
        keys_made composable
        ∙ ap flatten (map_agree (λ x. map (link_of x) (links_of keys x)) own (ends_of root ts) (λ x m.
        map-map (link_of x) edge_of (own x) ∙ map_fixed (λ k. link_of x (edge_of k)) (own x) (λ k i. link_edge_lem x k (own_source x k i))))
        ∙ grouped (ends_of root ts) keys ends_lists.ascending (set_of_lists (map key_of ts)).ascending (λ k m.
        let (t, i, q) = (key_iff k).0 m in
        ends_lists.complete (source_in k) (inr (t, i, inl (sym (source_is t (r.fields t i)) ∙ ap source_in q))))

    whole_length : length (whole_of root ts) ≡ suc (length (ends_of root ts) + length keys)
    unfolding whole_of
    whole_length = omega (
      arith,
      keys_length 0 (made_of root (links_of keys) (ends_of root ts)),
      ap length keys_back,
      ap length (nodes_composed (marked root) (links_of keys) (ends_of root ts) (composes composable)),
    )

-- the same set of triples gives the same file
whole_same : (root : ℕ) (ts us : List Triple) → Same ts us → whole_of root ts ≡ whole_of root us
unfolding whole_of
whole_same root ts us (f, g) = ap₂ (λ (ks xs : List ℕ). file 1 0 0 (flatten (map (node_words root ks) xs)))
    (lists_unique (set_of_lists (map key_of ts)) (set_of_lists (map key_of us)) (λ k. (keys_more ts us f k, keys_more us ts g k)))
    (lists_unique (ends_lists root ts) (ends_lists root us) (λ x. (ends_more ts us f x, ends_more us ts g x)))
  where
    keys_more : (ts us : List Triple) → ts ⊆ us → (k : ℕ) → Mem k (map key_of ts) → Mem k (map key_of us)
    keys_more ts us f k m = let (t, i, q) = Memᴰ.of_map key_of ts m in (map_iff key_of k us).1 (t, f t i, q)

    ends_more : (ts us : List Triple) → ts ⊆ us → (x : ℕ) → IsEnd root ts x → IsEnd root us x
    ends_more ts us f x (inl e) = inl e
    ends_more ts us f x (inr (t, m, q)) = inr (t, f t m, q)

-- Of the words of a triple file

pub from_is : (ws : List ℕ) → triples_check ws ≡ 0 → length (from_triples ws) ≤ 4096 → IsWholeOf (root_word ws) (triples_in ws) (from_triples ws)
from_is ws c l = whole_of_lem (root_word ws) (triples_in ws) (triples_read ws c) l

-- for 15: a header, a word for each node, a word for each triple
pub from_length : (ws : List ℕ) → triples_check ws ≡ 0 → length (from_triples ws) ≡ suc (length (ends_of (root_word ws) (triples_in ws)) + length (keys_in ws))
from_length ws c = whole_length (root_word ws) (triples_in ws) (triples_read ws c)

pub from_same : (vs ws : List ℕ) → root_word vs ≡ root_word ws → Same (triples_in vs) (triples_in ws) → from_triples vs ≡ from_triples ws
from_same vs ws e s = ap (λ r. whole_of r (triples_in vs)) e ∙ whole_same (root_word ws) (triples_in vs) (triples_in ws) s
