-- The running length of document 01's own first reply; and tables of a path, as the functions of a first reply speak of. Assumes nothing.
use mathlib.Core.Path.{◌≡◌, refl}
use mathlib.Core.Bool.{true}
use mathlib.Core.List.{List, [], ◌∷◌, map, flatten}
use Prim.Native.Nat.{ℕ, zero, suc, ◌<◌}
use native.Mathlib.Omega.{arith}
use lib.ListN.{get_or, replicate, length-replicate, get_or-replicate}
use Rattle.sets.specs.Reach.{closure}
use Rattle.sets.specs.States.{has_state}
use Rattle.sets.specs.Tally.{tally}
use Rattle.sets.proofs.Cases.{clash}
use Rattle.sets.proofs.StateSets.{has_empty, has_pow}
use Rattle.files.specs.Limits.{work_bytes}
use Rattle.expressions.specs.Expr.{letter}
use Rattle.expressions.specs.Positions.{next}
use Rattle.slots.specs.Slots.{node_at, edge_at, Laid}
use Rattle.walks.specs.Product.{step_in, reached}
use Rattle.part_search.specs.Search.{Follow}
use Rattle.first_replies.specs.FirstReply.{reported, door_words}
use Rattle.reporting.specs.Length.{door_count, words_up_to}
use Rattle.reporting.specs.Reporting.{Asks}

-- ---- document 01, "One question from end to end": the part of site 0 and the path

abbrev pub part0 : List ℕ
part0 = 0x10000005 ∷ 0x20030001 ∷ 0x30050002 ∷ 0x20010003 ∷ 0x30050002 ∷ []

abbrev pub path : List ℕ
path = 0x40300007 ∷ 0x50005005 ∷ 0x50006006 ∷ 0x50005005 ∷ 0x60000001 ∷ 0x60000003 ∷ 0x60000001 ∷ []

-- in its first reply, 7030000b 80010001 .. 80000003 .., door 0 begins at word 1 and door 1 at word 6, and there are 11 words
pub example_lengths : map (words_up_to part0 path) (0 ∷ 1 ∷ 2 ∷ []) ≡ 1 ∷ 6 ∷ 11 ∷ []
unfolding words_up_to door_count door_words reported reached closure step_in flatten
example_lengths = refl

-- ---- a part of one door, and a path of one label

abbrev pub lone : List ℕ
lone = 0x10000002 ∷ 0x20030001 ∷ []

abbrev pub one : List ℕ
one = 0x40100002 ∷ 0x50005005 ∷ []

abbrev pub follow : List ℕ
follow = 2 ∷ replicate 15 0

abbrev pub tables : List ℕ
tables = replicate work_bytes 0

-- neither word is an edge word
no_edge : (x : ℕ) → edge_at lone x ≡ true → ⊥
unfolding edge_at
no_edge zero e = clash e refl
no_edge (suc zero) e = clash e refl
no_edge (suc (suc x)) e = clash e refl

laid : Laid lone 0 tables
unfolding tally node_at
laid = record {
  accepted = refl;
  roomy = record { few = omega arith; long = rw (length-replicate {A = ℕ} work_bytes 0) (omega arith); places = omega arith };
  below = λ x l e. absurd (no_edge x e);
  target = λ x l e. absurd (no_edge x e);
  inner = λ x i l e. absurd (no_edge x e);
  outer = λ x l e. absurd (no_edge x e);
  one = λ x y a. absurd (no_edge x a.edge);
  listed = λ k l. absurd (omega arith);
  lists = λ j a. absurd (no_edge j a.edge);
  ascending = λ k l a b. absurd (omega arith);
}

follows : Follow (letter 0x50005005) follow
follows = record { small = omega arith; row = row }
  where
    row : (q p : ℕ) → q < 16 → has_state (get_or follow q 0) p ≡ next (letter 0x50005005) q p
    row zero p l = has_pow 1 p
    row (suc q) p l = rw (get_or-replicate {A = ℕ} 15 q 0 0 (omega arith)) (has_empty p)

-- the tables of this part are tables of this path
pub lone_asks : Asks lone 0 follow tables 1 one
lone_asks = record { labels = refl; follows = follows; tables = record { laid = laid; masked = λ x p l e. absurd (no_edge x e) } }
