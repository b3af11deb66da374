-- The plant of an accepted whole file: it fits that file, has one root, and no link of it ends nowhere. Parts with different sites, no node in two
-- and a door wherever a link crosses are a true cut of the plant that they hold together. Assumes nothing.
use mathlib.Core.Path.{◌≡◌, refl, subst}
use mathlib.Core.Bool.{Bool}
use mathlib.Core.List.Memᴰ
use mathlib.Core.List.{List, [], ◌∷◌, map}
use Prim.Native.Nat.{ℕ, ◌≤◌}
use lib.ListN.{length, get_or}
use Rattle.sets.specs.Sets.{Mem, here, Distinct}
use Rattle.files.specs.Field.{site_of, root_of, stopped_of}
use Rattle.files.specs.Part.{nodes, nodes_with, roots, doors, whole_check}
use Rattle.files.proofs.Blocks.{marked_nodes, edge_of}
use Rattle.files.proofs.Parts.{whole_root, whole_target}
use Rattle.demands.specs.Plant.{OneRoot, Closed, HasEdge, Holds, AcceptedPart, TrueCut, Fits, Words, body}
use Rattle.demands.specs.PlantOf.{plant_of, plant_of_parts}

-- a file holds its own plant
pub plant_holds : (f : List ℕ) → Holds (plant_of f) f
plant_holds f = record {
  is_node_lem = λ x m. m;
  has_link = λ x a y m l n. l;
  is_link = λ x a y l n. l;
  has_root = λ x m r. r;
  is_root_lem = λ x r. r;
  has_stopped = λ x m s. s;
  is_stopped_lem = λ x s. s;
}

pub plant_fits : (f : List ℕ) → Words f → length f ≤ 4096 → whole_check f ≡ 0 → Fits (plant_of f) f
plant_fits f word small c = record {
  word = word;
  small = small;
  whole = c;
  holds = plant_holds f;
  every = λ x m. m;
}

pub one_root_of : (f : List ℕ) (r : ℕ) → roots (body f) ≡ r ∷ [] → OneRoot (plant_of f)
one_root_of f r e = record { root = r; is = rw e (here refl); only = λ x m. Memᴰ.eq_of_singleton (rw e at m) }

pub plant_one_root : (f : List ℕ) → whole_check f ≡ 0 → OneRoot (plant_of f)
plant_one_root f c = let (r, e) = whole_root f c in one_root_of f r e

pub plant_closed : (f : List ℕ) → whole_check f ≡ 0 → Closed (plant_of f)
plant_closed f c x a y (w, m, p, q) =
    subst (λ z. Mem z (nodes (body f))) q (whole_target f c x w m)

pub parts_cut : (parts : List (List ℕ)) → ((f : List ℕ) → Mem f parts → AcceptedPart f)
    → Distinct (map (λ f. site_of (get_or f 0 0)) parts)
    → ((x : ℕ) (f g : List ℕ) → Mem f parts → Mem g parts → Mem x (nodes (body f)) → Mem x (nodes (body g)) → f ≡ g)
    → ((x a y : ℕ) (f g : List ℕ) → Mem f parts → Mem g parts → (f ≡ g → ⊥) → HasEdge f x a y → Mem y (nodes (body g)) → Mem y (doors (body g)))
    → TrueCut (plant_of_parts parts) parts
parts_cut parts part sites once crossed = record {
  part = part;
  holds = λ f m. record {
    is_node_lem = λ x n. (f, m, n);
    has_link = λ x a y n (g, k, (w, i, l, t)) o. subst (λ h. HasEdge h x a y) (once x g f k m (edge_of (body g) x w i).2 n) (w, i, l, t);
    is_link = λ x a y e o. (f, m, e);
    has_root = has_mark f m root_of;
    is_root_lem = λ x r. (f, m, r);
    has_stopped = has_mark f m stopped_of;
    is_stopped_lem = λ x s. (f, m, s);
  };
  sites = sites;
  every = λ x n. n;
  once = once;
  crossed = crossed;
}
  where
    -- a node's marks are in the one part that has it
    has_mark : (f : List ℕ) → Mem f parts → (mark : ℕ → Bool) (x : ℕ) → Mem x (nodes (body f))
        → (g : List ℕ) × Mem g parts × Mem x (nodes_with mark (body g)) → Mem x (nodes_with mark (body f))
    has_mark f m mark x n (g, k, r) = subst (λ h. Mem x (nodes_with mark (body h))) (once x g f k m (marked_nodes mark (body g) x r) n) r
