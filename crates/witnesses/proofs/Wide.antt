-- Demand 3 is about more than the cutter makes of one file: a plant of 6,000 nodes, which no file holds, on two sites, with a door more than
-- the cut needs, a stopped door on the way of a walk, and the second bundle in another order than the first. Its question goes to the end.
-- Assumes nothing.
use mathlib.Core.Path.{◌≡◌, refl, ap}
use mathlib.Core.Bool.{true, false, not}
use mathlib.Core.Logic.{inl, inr}
use mathlib.Core.List.Memᴰ
use mathlib.Core.List.{List, [], ◌∷◌, ◌++◌, map, flatten}
use Prim.Native.Nat.{ℕ}
use native.Mathlib.Omega.{arith}
use lib.Dec.{T, eqb, eqb_refl, lit≤}
use lib.ListN.{length, get_or, length-append, length-map, length-drop}
use Rattle.sets.specs.Sets.{Mem, here, there, ◌⊆◌, Distinct, span, filter, any, perm-swap}
use Rattle.sets.specs.Reach.{closure}
use Rattle.sets.proofs.Sets.{filter_iff, on_cons}
use Rattle.sets.proofs.Tests.{not_iff}
use Rattle.sets.proofs.Filter.{any_iff, filter_length}
use Rattle.sets.proofs.Lengths.{pigeonhole, ascending_distinct}
use Rattle.sets.proofs.Distinct.{distinct_append}
use Rattle.sets.proofs.Perm.{perm-refl}
use Rattle.files.specs.Field.{site_of, node_of, target_of, file, node_word, edge_word}
use Rattle.files.specs.Part.{is_node, is_edge, nodes, doors, stopped, part_check}
use Rattle.files.proofs.Words.{words_bytes}
use Rattle.files.proofs.Blocks.{edge_of}
use Rattle.files.proofs.Parts.{nodes_ascending}
use Rattle.walks.specs.Product.{step_in, reached, answers}
use Rattle.first_replies.specs.FirstReply.{reported, door_words, first_reply}
use Rattle.site_second.specs.Second.{second_reply}
use Rattle.hub_calls.specs.CallList.{called, call_list}
use Rattle.demands.specs.Plant.{HasEdge, Fits, body}
use Rattle.demands.specs.Question.{Call, going, Answer}
use Rattle.demands.specs.Demand.{Asked, Put, Right, question, Over, NoneOver, Claim}
use Rattle.demands.proofs.Owed.{list, owed}
use Rattle.table.specs.Table.{path}
use Rattle.witnesses.proofs.Asked.{words_by_test, asking, two_claim}
use Rattle.witnesses.proofs.TwoSites.{Site, site_accepted, both, apart, two, two_none, only_root}

-- n nodes from x on, no doors and without links
unfoldable pub lone : ℕ → ℕ → List ℕ
lone x n = map (λ y. node_word y false false false) (span x n)

-- Site 0 has the root 0, linked to 3,000 and 3,001, the door 1, linked to 3,002, the door 2, to which nothing links, and 2,997 more nodes. Site 1
-- has the door 3,000, linked to 0, the stopped door 3,001, linked to 1, the door 3,002, and 2,997 more. So a walk to 3,001, and one by 3,001 and
-- 1 to 3,002, would spell words of P.
unfoldable pub left : List ℕ
left = file 1 0 0 (node_word 0 true true false ∷ edge_word 5 3000 ∷ edge_word 5 3001 ∷ node_word 1 true false false ∷ edge_word 5 3002
    ∷ node_word 2 true false false ∷ lone 3 2997)

unfoldable pub right : List ℕ
right = file 1 1 0 (node_word 3000 true false false ∷ edge_word 6 0 ∷ node_word 3001 true false true ∷ edge_word 6 1
    ∷ node_word 3002 true false false ∷ lone 3003 2997)

pub left_is : Site left 0 0 3000 (0 ∷ []) (0 ∷ 1 ∷ 2 ∷ []) (3000 ∷ 3001 ∷ 3002 ∷ [])
unfolding left lone
left_is = record { word = tt; short = tt; read = refl; site_is = refl; above = tt; below = tt; roots_are = refl; doors_are = refl; crosses = tt }

pub right_is : Site right 1 3000 6000 [] (3000 ∷ 3001 ∷ 3002 ∷ []) (0 ∷ 1 ∷ 2 ∷ [])
unfolding right lone
right_is = record { word = tt; short = tt; read = refl; site_is = refl; above = tt; below = tt; roots_are = refl; doors_are = refl; crosses = tt }

counted : (length (nodes (body left)) ≡ 3000) × (length (nodes (body right)) ≡ 3000)
unfolding left right lone
counted = (refl, refl)

-- the question: the first bundle in one order, the second in the other
abbrev pub wide : Asked
wide = two left right left_is right_is refl path (words_by_test path tt, lit≤ tt, refl)

abbrev pub wide_put : Put wide
wide_put = asking wide (left ∷ right ∷ []) (right ∷ left ∷ []) (perm-refl wide.parts) (perm-swap refl refl)

pub orders_differ : wide_put.order ≡ wide_put.order' → ⊥
orders_differ e = omega (arith, ap front e, left_is.site_is, right_is.site_is)
  where
    front : List (List ℕ) → ℕ
    front [] = 0
    front (f ∷ fs) = site_of (get_or f 0 0)

-- no file holds the plant
pub no_file : (f : List ℕ) → Fits wide.plant f → ⊥
no_file f fits = omega (
  arith,
  counted,
  length-append (nodes (body left)) (nodes (body right)),
  pigeonhole all (nodes (body f)) (distinct_append (nodes (body left)) (nodes (body right)) (once left left_is.read) (once right right_is.read)
      (apart left right left_is right_is refl)) inside,
  length-map (filter is_node (body f)) node_of,
  filter_length is_node (body f),
  length-drop 1 f,
  fits.small,
)
  where
    all : List ℕ
    all = nodes (body left) ++ nodes (body right)

    once : (g : List ℕ) → part_check g ≡ 0 → Distinct (nodes (body g))
    once g c = ascending_distinct (nodes (body g)) (nodes_ascending g c)

    inside : all ⊆ nodes (body f)
    inside x m = elim (Memᴰ.append_cases (nodes (body left)) m) [
      | inl i ↦ fits.every x (left, here refl, i)
      | inr i ↦ fits.every x (right, there (here refl), i)
    ]

-- a door that the cut does not need: no link ends there, and it is not the root
unlinked : T (not (any (λ w. eqb (target_of w) 2) (filter is_edge (body left)))) × T (not (any (λ w. eqb (target_of w) 2) (filter is_edge (body right))))
unfolding left right lone
unlinked = (tt, tt)

no_link : (f : List ℕ) (y x a : ℕ) → T (not (any (λ w. eqb (target_of w) y) (filter is_edge (body f)))) → HasEdge f x a y → ⊥
no_link f y x a u (w, m, i, t) =
    let (k, j, n) = edge_of (body f) x w m in
    (not_iff (any (λ w. eqb (target_of w) y) (filter is_edge (body f)))).0 u
    ((any_iff (λ w. eqb (target_of w) y) (filter is_edge (body f))).1 (w, (filter_iff is_edge w (body f)).1 (k, j), rw t (eqb_refl y)))

pub further_door : Mem 2 (doors (body left)) × ((x a : ℕ) → wide.plant.Link x a 2 → ⊥) × (wide.plant.Root 2 → ⊥)
further_door = (
  rw left_is.doors_are (there (there (here refl))),
  λ x a (f, m, e). both left right left_is right_is refl (λ f. HasEdge f x a 2 → ⊥) (no_link left 2 x a unlinked.0) (no_link right 2 x a unlinked.1) f m e,
  λ r. omega (arith, only_root left right left_is right_is refl 2 r),
)

pub wide_claim : Claim wide wide_put (owed wide wide_put)
wide_claim = two_claim wide (two_none left right left_is right_is refl path (words_by_test path tt, lit≤ tt, refl)) wide_put (omega arith)

-- nothing that is owed is over its limit, so the question goes on to the end, and its list is demand 2's
wide_firsts : (length (first_reply left path) ≡ 14) × (length (first_reply right path) ≡ 8)
unfolding left right lone flatten closure step_in reached reported door_words first_reply
wide_firsts = (refl, refl)

-- the hub calls the stopped door, in the state that its sender reports, and nothing follows: 1 and 3,002 are not called
pub wide_list : list wide wide_put ≡ 0xb0300007 ∷ 0xc0000000 ∷ 0xc0000002 ∷ 0xc000bb81 ∷ 0xc000bb83 ∷ 0xc000bb91 ∷ 0xc000bb93 ∷ []
unfolding left right lone flatten closure step_in reached reported door_words first_reply called call_list
wide_list = refl

-- neither the stopped door nor 3,002 is listed
pub wide_stopped : Mem 3001 (stopped (body right)) × Mem 3001 (doors (body right)) × (second_reply right path (list wide wide_put) ≡ 0xd1300002 ∷ 0xe0000bb8 ∷ [])
unfolding left right lone flatten closure step_in reached answers reported door_words first_reply called call_list second_reply
wide_stopped = (here refl, there (here refl), refl)

wide_none : NoneOver wide wide_put (owed wide wide_put)
unfolding owed
wide_none =
    on_cons Short (λ h. omega (arith, rw (words_bytes left (site_accepted left_is).0) at h, wide_firsts.0))
    (on_cons Short (λ h. omega (arith, rw (words_bytes right (site_accepted right_is).0) at h, wide_firsts.1))
    (on_cons Short (λ h. omega (arith, ap length wide_list)) (on_cons Short (λ h. h) (on_cons Short (λ h. h) (on_cons Short (λ h. h) (λ c m. elim m [ ]))))))
  where
    Short : Call → Type 0
    Short c = Over wide wide_put (owed wide wide_put) c → ⊥

pub wide_ends : (a : Answer) × (question wide wide_put ≡ going a) × Right wide a
wide_ends = wide_claim.ends wide_none
