-- A whole file of site 0 that is composed with its root as the only door and no node stopped: it is accepted, it is read as it was composed, its
-- triples, and when it is the whole file of some triples. Assumes nothing.
use mathlib.Core.Path.{◌≡◌, refl, ◌∙◌, ap, subst}
use mathlib.Core.Logic.{◌↔◌, inl, inr}
use mathlib.Core.Bool.{Bool, false}
use mathlib.Core.List.{List, [], ◌∷◌, ◌++◌, map, flatten}
use Prim.Native.Nat.{ℕ, ◌^◌, ◌<◌}
use native.Mathlib.Omega.{arith}
use lib.Dec.{T, eqb}
use lib.ListN.{length, get_or, drop}
use borrow.Author.Tests.{ne_eqb, eq-eqb}
use Rattle.sets.specs.Sets.{Mem, here, there, Ascending, Lists, filter}
use Rattle.sets.proofs.Tests.{passed, eq_iff}
use Rattle.sets.proofs.Sets.{unique, filter_iff, filter_ascending}
use Rattle.sets.proofs.Filter.{filter_none}
use Rattle.files.specs.Field.{kind_of, site_of, door_of, root_of, stopped_of, label_of, target_of, file, node_word}
use Rattle.files.specs.Limits.{part_words}
use Rattle.files.specs.Part.{nodes, nodes_with, roots, doors, stopped, edges, whole_check}
use Rattle.files.proofs.Fields.{Node, node}
use Rattle.files.proofs.Blocks.{edge_of}
use Rattle.files.proofs.Compose.{Link, composed, All, OneRoot, with_composed, nodes_composed, edges_composed, file_header, file_small, file_whole}
use Rattle.triples.specs.Triple.{Triple, triple, IsEnd, IsWholeOf, link_of, keys_from}

-- the word of node x
abbrev pub marked : ℕ → ℕ → ℕ
marked root x = node_word x (eqb x root) (eqb x root) false

abbrev pub made_of : ℕ → (ℕ → List ℕ) → List ℕ → List ℕ
made_of root links xs = composed (marked root) links xs

-- what it may be composed of
pub record Composable (root : ℕ) (links : ℕ → List ℕ) (xs : List ℕ) : Type 0 where
  pub ascending : Ascending xs
  pub small : (x : ℕ) → Mem x xs → x < 2 ^ 16
  pub rooted : Mem root xs
  pub rises : (x : ℕ) → Ascending (links x)
  pub edges : (x w : ℕ) → Mem w (links x) → Link w
  pub targets : (x w : ℕ) → Mem w (links x) → Mem (target_of w) xs

-- and what it then is
pub record Made (root : ℕ) (links : ℕ → List ℕ) (xs f : List ℕ) : Type 0 where
  pub accepted : whole_check f ≡ 0
  pub word : (w : ℕ) → Mem w f → w < 2 ^ 32
  pub site : site_of (get_or f 0 0) ≡ 0
  pub all_nodes : nodes (drop 1 f) ≡ xs
  pub one_root : roots (drop 1 f) ≡ root ∷ []
  pub only_door : doors (drop 1 f) ≡ root ∷ []
  pub none_stopped : stopped (drop 1 f) ≡ []
  pub all_edges : (x : ℕ) → Mem x xs → edges (drop 1 f) x ≡ links x

module _ {root : ℕ} {links : ℕ → List ℕ} {xs : List ℕ} (p : Composable root links xs) where
  named : (x : ℕ) → Mem x xs → Node x (eqb x root) (eqb x root) false (marked root x)
  named x m = node x (eqb x root) (eqb x root) false (p.small x m)

  pub composes : All (marked root) links xs
  composes x m =
      let n = named x m in
      record {
        kind_is = n.kind_is;
        zeros = n.zeros;
        node_is = n.node_is;
        door = λ t. rw n.door_is (rw n.root_is at t);
        word = n.word;
        rises = p.rises x;
        links = p.edges x;
      }

  one : OneRoot (marked root) links false xs
  one = record {
    none = λ s. absurd s;
    one = λ x y m k h t u. omega (arith, (eq_iff x root).0 (rw (named x m).root_is at t), (eq_iff y root).0 (rw (named y k).root_is at u));
  }

  -- a mark that the root has alone
  alone : (mark : ℕ → Bool) → ((x : ℕ) → Mem x xs → mark (marked root x) ≡ eqb x root) → nodes_with mark (made_of root links xs) ≡ root ∷ []
  alone mark e =
      with_composed (marked root) links mark xs composes
      ∙ unique (filter (λ x. mark (marked root x)) xs) (root ∷ []) (filter_ascending (λ x. mark (marked root x)) xs p.ascending) (λ y m. elim m [ ], tt) (
        λ x m. let (k, t) = (i x).0 m in here ((eq_iff x root).0 (rw (e x k) at t)),
        λ x m. elim m [ here q ↦ rw q ((i root).1 (p.rooted, passed (e root p.rooted ∙ eq-eqb root root refl))) | there k ↦ elim k [ ] ],
      )
    where
      i : (x : ℕ) → Mem x (filter (λ x. mark (marked root x)) xs) ↔ (Mem x xs × T (mark (marked root x)))
      i x = filter_iff (λ x. mark (marked root x)) x xs

  pub made : length (made_of root links xs) < part_words → Made root links xs (file 1 0 0 (made_of root links xs))
  made short = record {
    accepted =
        file_whole (marked root) links 0 xs (omega arith) short composes p.ascending one root p.rooted
        (passed ((named root p.rooted).root_is ∙ eq-eqb root root refl)) (λ x w m k. p.targets x w k);
    word = file_small (marked root) links 0 xs (omega arith) short composes;
    site = (file_header (marked root) links 0 xs (omega arith) short composes).site_is;
    all_nodes = nodes_composed (marked root) links xs composes;
    one_root = alone root_of (λ x m. (named x m).root_is);
    only_door = alone door_of (λ x m. (named x m).door_is);
    none_stopped = with_composed (marked root) links stopped_of xs composes ∙ filter_none (λ x. stopped_of (marked root x)) xs (λ x m. (named x m).stopped_is);
    all_edges = edges_composed (marked root) links xs composes;
  }

  -- Its triples

  keys_links : (x : ℕ) (ls ws : List ℕ) → ((w : ℕ) → Mem w ls → Link w) → keys_from x (ls ++ ws) ≡ map (link_of x) ls ++ keys_from x ws
  keys_links x [] ws h = refl
  keys_links x (l ∷ ls) ws h =
      rw (ne_eqb (kind_of l) 2 (λ q. omega (arith, (h l (here refl)).kind_is))) (ap (link_of x l ∷◌) (keys_links x ls ws (λ w m. h w (there m))))

  pub keys_made : keys_from 0 (made_of root links xs) ≡ flatten (map (λ x. map (link_of x) (links x)) xs)
  unfolding flatten
  keys_made = go 0 xs (λ x m. named x m)
    where
      go : (y : ℕ) (xs : List ℕ) → ((x : ℕ) → Mem x xs → Node x (eqb x root) (eqb x root) false (marked root x))
          → keys_from y (made_of root links xs) ≡ flatten (map (λ x. map (link_of x) (links x)) xs)
      go y [] n = refl
      go y (x ∷ xs) n =
          let k = n x (here refl) in
          rw (k.kind_is, k.node_is) (keys_links x (links x) (made_of root links xs) (p.edges x) ∙ ap (map (link_of x) (links x) ++◌) (go x xs (λ y m. n y (there m))))

-- the whole file of triples, where its nodes and links are theirs
pub made_whole : {root : ℕ} {links : ℕ → List ℕ} {xs f : List ℕ} {ts : List Triple} → Made root links xs f → Lists (IsEnd root ts) xs
    → ((x a y : ℕ) → ((w : ℕ) × Mem w (links x) × (label_of w ≡ a) × (target_of w ≡ y)) ↔ Mem (triple x a y) ts) → IsWholeOf root ts f
made_whole {root} {links} {xs} {f} {ts} m ends l = record {
  accepted = m.accepted;
  word = m.word;
  site = m.site;
  all_nodes = rw m.all_nodes ends;
  one_root = m.one_root;
  only_door = m.only_door;
  none_stopped = m.none_stopped;
  links = λ x a y. (
    λ (w, k, p, q). let i = subst (Mem x) m.all_nodes (edge_of (drop 1 f) x w k).2 in (l x a y).0 (w, rw (m.all_edges x i) at k, p, q),
    λ k. let i = ends.complete x (inr (triple x a y, k, inl refl)) in let (w, j, p, q) = (l x a y).1 k in (w, rw (m.all_edges x i) j, p, q),
  );
}
