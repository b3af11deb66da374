-- Triples as numbers: their fields, their order, their edge words; numbers put together source by source; the words of numbers, read again.
-- Assumes nothing.
use mathlib.Core.Path.{◌≡◌, refl, ap, ◌∙◌}
use mathlib.Core.Logic.{◌↔◌, ◌⊎◌, inl, inr}
use mathlib.Core.List.{List, [], ◌∷◌, map, flatten, map-map}
use Prim.Native.Nat.{ℕ, ◌+◌, ◌*◌, ◌/◌, ◌%◌, ◌^◌, ◌<◌}
use native.Mathlib.Nat.{mod-eq_of_lt, div-div-eq-div-mul}
use native.Mathlib.Omega.{arith}
use native.Mathlib.Decide.{dec_lt}
use lib.Dec.{T, eqb}
use lib.ListN.{length}
use Rattle.sets.specs.Sets.{Mem, here, there, Ascending, filter}
use Rattle.sets.proofs.Tests.{eq_iff}
use Rattle.sets.proofs.Sets.{unique, append_ascending, filter_iff, filter_ascending, flatten_map_iff}
use Rattle.sets.proofs.Filter.{map_fixed}
use Rattle.files.specs.Field.{kind_of, label_of, target_of, edge_word}
use Rattle.files.proofs.Fields.{Edge, edge}
use Rattle.triples.specs.Triple.{Triple, triple, triples_of, key_of, source_in, label_in, target_in, edge_of, link_of, words_of}

-- The fields

pub record Fields (t : Triple) : Type 0 where
  pub source : t.source < 2 ^ 16
  pub label : t.label < 2 ^ 12
  pub target : t.target < 2 ^ 16

-- numbers are in the order of source, then label, then target
abbrev Precedes : Triple → Triple → Type 0
Precedes t u = (t.source < u.source) ⊎ ((t.source ≡ u.source) × ((t.label < u.label) ⊎ ((t.label ≡ u.label) × (t.target < u.target))))

pub key_less : (t u : Triple) → Fields t → Fields u → (key_of t < key_of u) ↔ Precedes t u
key_less t u f g = (to, from)
  where
    to : key_of t < key_of u → Precedes t u
    to h = elim (dec_lt t.source u.source) [
      | yes s ↦ inl s
      | no s ↦
          let e : t.source ≡ u.source = omega (arith, f.label, f.target, g.label, g.target) in
          inr (
            e,
            elim (dec_lt t.label u.label) [
              | yes l ↦ inl l
              | no l ↦ let q : t.label ≡ u.label = omega (arith, e, f.target, g.target) in inr (q, omega (arith, e, q))
            ],
          )
    ]

    from : Precedes t u → key_of t < key_of u
    from (inl s) = omega (arith, f.label, f.target, g.label, g.target)
    from (inr (e, inl l)) = omega (arith, e, f.target, g.target)
    from (inr (e, inr (l, q))) = omega (arith, e, l)

-- the triple of a number: a number is that of its own fields, and a triple in its fields is its number's
abbrev pub triple_in : ℕ → Triple
triple_in k = triple (source_in k) (label_in k) (target_in k)

pub key_is : (k : ℕ) → key_of (triple_in k) ≡ k
key_is k = omega (arith, div-div-eq-div-mul k 65536 4096)

pub source_is : (t : Triple) → Fields t → source_in (key_of t) ≡ t.source
source_is t f = omega (arith, f.source, f.label, f.target)

pub label_is : (t : Triple) → Fields t → label_in (key_of t) ≡ t.label
label_is t f =
    let q : key_of t / 65536 ≡ t.source * 4096 + t.label = omega (arith, f.target) in
    rw q (omega (arith, f.label))

pub target_is : (t : Triple) → Fields t → target_in (key_of t) ≡ t.target
target_is t f = omega (arith, f.source, f.label, f.target)

pub triple_is : (t : Triple) → Fields t → triple_in (key_of t) ≡ t
triple_is t f = rw (source_is t f, label_is t f, target_is t f)

-- Edge words

-- the edge word of a number is read as its label and its target
pub edge_in : (k : ℕ) → Edge (label_in k) (target_in k) (edge_of k)
edge_in k = edge (label_in k) (target_in k) (omega arith) (omega arith)

-- and gives the number back
pub link_edge_lem : (x k : ℕ) → source_in k ≡ x → link_of x (edge_of k) ≡ k
link_edge_lem x k e = let i = edge_in k in rw (i.label_is, i.target_is, ← e) (key_is k)

-- a word of 32 bits that is read as an edge was made so
pub edge_made : (w : ℕ) → kind_of w ≡ 3 → w < 2 ^ 32 → edge_word (label_of w) (target_of w) ≡ w
edge_made w k h = let top : w / 268435456 % 16 ≡ w / 268435456 = mod-eq_of_lt (omega arith) in omega (arith, top, div-div-eq-div-mul w 65536 4096)

-- of the same source, numbers are in the order of their edge words
pub edge_above : (k l : ℕ) → source_in k ≡ source_in l → k < l → edge_of k < edge_of l
edge_above k l e h = omega (arith, key_is k, key_is l)

pub link_above : (x v w : ℕ) → kind_of v ≡ 3 → v < 2 ^ 32 → kind_of w ≡ 3 → w < 2 ^ 32 → v < w → link_of x v < link_of x w
link_above x v w i j k l h = omega (arith, edge_made v i j, edge_made w k l)

-- Source by source

module _ (g : ℕ → List ℕ) where
  pub groups_ascending : (xs : List ℕ) → Ascending xs → ((x : ℕ) → Mem x xs → Ascending (g x))
      → ((x k : ℕ) → Mem x xs → Mem k (g x) → source_in k ≡ x) → Ascending (flatten (map g xs))
  unfolding flatten
  groups_ascending [] o a s = tt
  groups_ascending (x ∷ xs) o a s =
      append_ascending (g x) (flatten (map g xs)) (a x (here refl)) (groups_ascending xs o.1 (λ y m. a y (there m)) (λ y k m. s y k (there m)))
      (λ k l m i.
      let (y, j, i) = (flatten_map_iff g l xs).0 i in
      omega (arith, s x k (here refl) m, s y l (there j) i, o.0 y j))

-- the numbers of a set with each source are the set
pub grouped : (xs keys : List ℕ) → Ascending xs → Ascending keys → ((k : ℕ) → Mem k keys → Mem (source_in k) xs)
    → flatten (map (λ x. filter (λ k. eqb (source_in k) x) keys) xs) ≡ keys
grouped xs keys a b h =
    unique (flatten (map own xs)) keys
    (groups_ascending own xs a (λ x m. filter_ascending (λ k. eqb (source_in k) x) keys b) (λ x k m n. (eq_iff (source_in k) x).0 ((own_iff x k).0 n).1))
    b (
      λ k m. let (x, i, n) = (flatten_map_iff own k xs).0 m in ((own_iff x k).0 n).0,
      λ k m. (flatten_map_iff own k xs).1 (source_in k, h k m, (own_iff (source_in k) k).1 (m, (eq_iff (source_in k) (source_in k)).1 refl)),
    )
  where
    own : ℕ → List ℕ
    own x = filter (λ k. eqb (source_in k) x) keys

    own_iff : (x k : ℕ) → Mem k (own x) ↔ (Mem k keys × T (eqb (source_in k) x))
    own_iff x k = filter_iff (λ k. eqb (source_in k) x) k keys

-- The words of numbers

pub words_length : (ks : List ℕ) → length (words_of ks) ≡ 3 * length ks
words_length [] = refl
words_length (k ∷ ks) = omega (arith, words_length ks)

pub read_words : (ks : List ℕ) → triples_of (words_of ks) ≡ map triple_in ks
read_words [] = refl
read_words (k ∷ ks) = ap (triple_in k ∷◌) (read_words ks)

pub read_keys : (ks : List ℕ) → map key_of (triples_of (words_of ks)) ≡ ks
read_keys ks = rw (read_words ks) (map-map key_of triple_in ks ∙ map_fixed (λ k. key_of (triple_in k)) ks (λ k m. key_is k))
