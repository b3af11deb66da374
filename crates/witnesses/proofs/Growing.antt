-- What document 02's request 12 says of a new link and of another path, seen at document 01's W: searches that it speaks of, old and split, with cuts,
-- orders and groups of their own, whose lists grow; and that what it asks is needed. Assumes nothing.
use mathlib.Core.Path.{◌≡◌, refl, sym, ap, subst, ◌∙◌}
use mathlib.Core.Logic.Iff
use mathlib.Core.Logic.{◌↔◌, ◌⊎◌, inl, inr, ⊎_elim}
use mathlib.Core.Bool.{Bool, not, cond}
use mathlib.Core.List.{List, [], ◌∷◌, map, flatten}
use Prim.Native.Nat.{ℕ}
use lib.Dec.{T, eqb, lit≤}
use Rattle.sets.specs.Sets.{Mem, here, there, perm-swap, ◌⊆◌, any, member, insert}
use Rattle.sets.specs.Reach.{closure}
use Rattle.sets.proofs.Tests.{either, passed, eq_iff}
use Rattle.sets.proofs.Sets.{member_iff, insert_same}
use Rattle.sets.proofs.Filter.{all_iff, map_agrees}
use Rattle.sets.proofs.Perm.{perm-refl}
use Rattle.files.specs.Field.{label_of, target_of}
use Rattle.files.specs.Part.{nodes, roots, stopped as stoppedNodes, edges}
use Rattle.files.proofs.Blocks.{edge_of}
use Rattle.walks.specs.Product.{step_in, reached, answers}
use Rattle.first_replies.specs.FirstReply.{reported, door_words, first_reply}
use Rattle.site_first.specs.First.{first_reply_call, first_reply_grouped_call}
use Rattle.site_second.specs.Second.{second_reply, second_reply_call, second_reply_grouped_call}
use Rattle.hub_calls.specs.CallList.{called, call_list, call_list_call}
use Rattle.hub_join.specs.Join.{joined, join_call}
use Rattle.old.specs.Old.{listed, old_search_call}
use Rattle.cutter.specs.Cut.{cut}
use Rattle.demands.specs.Plant.{Plant, HasEdge, body}
use Rattle.demands.specs.PlantOf.{plant_of, parts_of}
use Rattle.demands.specs.Grouped.{ours}
use Rattle.demands.specs.Question.{calls, stopped, ask}
use Rattle.demands.specs.Demand.{Asked, Put}
use Rattle.demands.proofs.PlantOf.{plant_fits}
use Rattle.growth.specs.Growth.{OneMore, Grown, Search, split, old}
use Rattle.growth.proofs.Growth.{growth}
use Rattle.table.specs.Table.{whole, path, second0, second1, final, b}
use Rattle.witnesses.proofs.Asked.{words_by_test, asked_by_test, regrouped, example, example_room, asking, in_turn, ended, example_put, example_run}
use Rattle.witnesses.proofs.BothSearches.{apart}
use Rattle.witnesses.proofs.StoppedNodes.{halted, to3}
use Rattle.witnesses.proofs.CustomerGroups.{by_press, by_group, press_asked}
use Rattle.witnesses.proofs.IdleLinks.{idle, idle_asked, idle_answer, idle_run, kept_edges, kept}

-- Every plant may get a link between two of its nodes

abbrev pub linked_plant : (p : Plant) (x a y : ℕ) → p.Node x → Plant
linked_plant p x a y n = record {
  Node = p.Node;
  Root = p.Root;
  Stopped = p.Stopped;
  Link = λ u b v. p.Link u b v ⊎ ((u ≡ x) × (b ≡ a) × (v ≡ y));
  root_node = p.root_node;
  stopped_node = p.stopped_node;
  link_node = λ u b v l. ⊎_elim (p.link_node u b v) (λ e. subst p.Node (sym e.0) n) l;
}

pub one_more : (p : Plant) (x a y : ℕ) (n : p.Node x) → p.Node y → OneMore p (linked_plant p x a y n)
one_more p x a y n m = record {
  from = x;
  label = a;
  to = y;
  from_node = n;
  to_node = m;
  nodes = λ u. Iff.rfl;
  roots = λ u. Iff.rfl;
  stopped = λ u s. s;
  links = λ u b v k. Iff.rfl;
}

-- Of files it is computed. A set within another

abbrev within : List ℕ → List ℕ → Bool
within xs ys = not (any (λ x. not (member x ys)) xs)

within_iff : (xs ys : List ℕ) → T (within xs ys) → xs ⊆ ys
within_iff xs ys t x m = (member_iff x ys).0 ((all_iff (λ x. member x ys) xs).0 t x m)

-- g has all that f has
pub record FileGrown (f g : List ℕ) : Type 0 where
  pub nodes_kept : T (within (nodes (body f)) (nodes (body g)))
  pub roots_kept : T (within (roots (body f)) (roots (body g)))
  pub stopped_kept : T (within (stoppedNodes (body g)) (stoppedNodes (body f)))
  pub edges_kept : T (kept_edges f g)

pub file_grown : (f g : List ℕ) → FileGrown f g → Grown (plant_of f) (plant_of g)
file_grown f g s = record {
  nodes = within_iff (nodes (body f)) (nodes (body g)) s.nodes_kept;
  roots = within_iff (roots (body f)) (roots (body g)) s.roots_kept;
  stopped = λ x n m. within_iff (stoppedNodes (body g)) (stoppedNodes (body f)) s.stopped_kept x m;
  links = λ x a y n l. kept f g s.edges_kept x a y l n;
}

-- g is f with the edge word w more at node x

abbrev with_edge : (f : List ℕ) (x w y : ℕ) → List ℕ
with_edge f x w y = cond (eqb y x) (insert w (edges (body f) y)) (edges (body f) y)

pub record EdgeMore (f g : List ℕ) (x w : ℕ) : Type 0 where
  pub from_node : T (member x (nodes (body f)))
  pub to_node : T (member (target_of w) (nodes (body f)))
  pub nodes_are : nodes (body g) ≡ nodes (body f)
  pub roots_are : roots (body g) ≡ roots (body f)
  pub stopped_are : T (within (stoppedNodes (body g)) (stoppedNodes (body f)))
  pub edges_are : map (edges (body g)) (nodes (body f)) ≡ map (with_edge f x w) (nodes (body f))

module _ (f g : List ℕ) (x w : ℕ) (s : EdgeMore f g x w) where
  edges_iff : (y v : ℕ) → Mem y (nodes (body f)) → Mem v (edges (body g) y) ↔ (Mem v (edges (body f) y) ⊎ ((y ≡ x) × (v ≡ w)))
  edges_iff y v m = rw (map_agrees (edges (body g)) (with_edge f x w) (nodes (body f)) s.edges_are y m) (elim (either (eqb y x)) [
    | inl t ↦ rw t (
      λ k. own ((eq_iff y x).0 (passed t)) ((insert_same w (edges (body f) y)).0 v k),
      λ k. (insert_same w (edges (body f) y)).1 v (⊎_elim there (λ (i, j). here j) k),
    )
    | inr t ↦ rw t (λ k. inl k, ⊎_elim (λ k. k) (λ (i, j). absurd (rw t at ((eq_iff y x).1 i))))
  ])
    where
      own : y ≡ x → Mem v (w ∷ edges (body f) y) → Mem v (edges (body f) y) ⊎ ((y ≡ x) × (v ≡ w))
      own i (here j) = inr (i, j)
      own i (there k) = inl k

  links_iff : (y a z : ℕ) → HasEdge g y a z ↔ (HasEdge f y a z ⊎ ((y ≡ x) × (a ≡ label_of w) × (z ≡ target_of w)))
  links_iff y a z = (
    λ (v, k, l, t). ⊎_elim (λ i. inl (v, i, l, t)) (λ (i, j). inr (i, sym l ∙ ap label_of j, sym t ∙ ap target_of j))
        ((edges_iff y v (subst (Mem y) s.nodes_are (edge_of (body g) y v k).2)).0 k),
    ⊎_elim (λ (v, k, l, t). (v, (edges_iff y v (edge_of (body f) y v k).2).1 (inl k), l, t))
        (λ (i, j, l). (w, (edges_iff y w (subst (λ y. Mem y (nodes (body f))) (sym i) ((member_iff x (nodes (body f))).0 s.from_node))).1 (inr (i, refl)), sym j, sym l)),
  )

  pub edge_more : OneMore (plant_of f) (plant_of g)
  edge_more = record {
    from = x;
    label = label_of w;
    to = target_of w;
    from_node = (member_iff x (nodes (body f))).0 s.from_node;
    to_node = (member_iff (target_of w) (nodes (body f))).0 s.to_node;
    nodes = λ y. rw s.nodes_are Iff.rfl;
    roots = λ y. rw s.roots_are Iff.rfl;
    stopped = within_iff (stoppedNodes (body g)) (stoppedNodes (body f)) s.stopped_are;
    links = λ y a z n. links_iff y a z;
  }

-- W with a link more, from 1 by label 5 to 3; and the same with node 2 stopped
abbrev pub more : List ℕ
more = 0x10000008 ∷ 0x20030001 ∷ 0x30050002 ∷ 0x30050003 ∷ 0x20000002 ∷ 0x30060003 ∷ 0x20000003 ∷ 0x30050002 ∷ []

abbrev pub more_stopped : List ℕ
more_stopped = 0x10000008 ∷ 0x20030001 ∷ 0x30050002 ∷ 0x30050003 ∷ 0x20040002 ∷ 0x30060003 ∷ 0x20000003 ∷ 0x30050002 ∷ []

pub whole_more : OneMore (plant_of whole) (plant_of more)
whole_more = edge_more whole more 1 0x30050003 (record { from_node = tt; to_node = tt; nodes_are = refl; roots_are = refl; stopped_are = tt; edges_are = refl })

-- where node 3 was stopped, it is started too
pub halted_more : OneMore (plant_of halted) (plant_of more)
halted_more = edge_more halted more 1 0x30050003 (record { from_node = tt; to_node = tt; nodes_are = refl; roots_are = refl; stopped_are = tt; edges_are = refl })

-- Searches that are not refused, and the nodes that they list

-- W, cut as in document 01, and by the old search
pub whole_split : Search ours (plant_of whole) path (2 ∷ [])
whole_split = split example (ended example example_put _ example_run)

pub whole_old : Search ours (plant_of whole) path (2 ∷ [])
unfolding flatten closure step_in reached answers listed old_search_call
whole_old = old ours (plant_of whole) path whole final 32768 32768 tt example.path_accepted (plant_fits whole (words_by_test whole tt) (lit≤ tt) refl) refl

-- with the link more, cut in another way and bundled in other orders: node 3 comes to the list
abbrev pub more_asked : Asked
more_asked = asked_by_test more (1 ∷ 0 ∷ 0 ∷ []) path tt

abbrev pub more_put : Put more_asked
more_put =
    let site0 = cut more (1 ∷ 0 ∷ 0 ∷ []) 0 in
    let site1 = cut more (1 ∷ 0 ∷ 0 ∷ []) 1 in
    asking more_asked (site1 ∷ site0 ∷ []) (site0 ∷ site1 ∷ []) (perm-swap refl refl) (perm-refl (site0 ∷ site1 ∷ []))

pub more_split : Search ours (plant_of more) path (2 ∷ 3 ∷ [])
unfolding ask flatten closure step_in reached answers reported door_words first_reply first_reply_call second_reply second_reply_call called call_list call_list_call joined join_call cut
more_split = split more_asked (ended more_asked more_put (record {
  seconds = b (0xd0300003 ∷ 0xe0000002 ∷ 0xe0000003 ∷ []) ∷ b (0xd1300001 ∷ []) ∷ [];
  final = b (0xf0000003 ∷ 0xe0000002 ∷ 0xe0000003 ∷ []);
}) refl)

pub more_old : Search ours (plant_of more) path (2 ∷ 3 ∷ [])
unfolding flatten closure step_in reached answers listed old_search_call
more_old = old ours (plant_of more) path more (0xf0000003 ∷ 0xe0000002 ∷ 0xe0000003 ∷ []) 32768 32768 tt example.path_accepted
    (plant_fits more (words_by_test more tt) (lit≤ tt) refl) refl

-- with node 3 stopped
pub halted_old : Search ours (plant_of halted) path (2 ∷ [])
unfolding flatten closure step_in reached answers listed old_search_call
halted_old = old ours (plant_of halted) path halted final 32768 32768 tt example.path_accepted (plant_fits halted (words_by_test halted tt) (lit≤ tt) refl) refl

-- so the theorem speaks of them: of two runs, of the old search, of one beside the other, and of a node that is started
abbrev Kept : Type 0
Kept = ◌⊆◌ {A = ℕ} (2 ∷ []) (2 ∷ 3 ∷ [])

pub link_kept : Kept × Kept × Kept × Kept
link_kept =
    let keeps = growth.link ours (plant_of whole) (plant_of more) path (2 ∷ []) (2 ∷ 3 ∷ []) whole_more in
    let starts = growth.link ours (plant_of halted) (plant_of more) path (2 ∷ []) (2 ∷ 3 ∷ []) halted_more in
    (keeps whole_split more_split, keeps whole_old more_old, keeps whole_old more_split, starts halted_old more_split)

-- several at once: that link, a node 4 and a link to it
abbrev pub several : List ℕ
several = 0x1000000a ∷ 0x20030001 ∷ 0x30050002 ∷ 0x30050003 ∷ 0x30050004 ∷ 0x20000002 ∷ 0x30060003 ∷ 0x20000003 ∷ 0x30050002 ∷ 0x20000004 ∷ []

pub whole_several : Grown (plant_of whole) (plant_of several)
whole_several = file_grown whole several (record { nodes_kept = tt; roots_kept = tt; stopped_kept = tt; edges_kept = tt })

pub several_old : Search ours (plant_of several) path (2 ∷ 3 ∷ 4 ∷ [])
unfolding flatten closure step_in reached answers listed old_search_call
several_old = old ours (plant_of several) path several (0xf0000004 ∷ 0xe0000002 ∷ 0xe0000003 ∷ 0xe0000004 ∷ []) 32768 32768 tt example.path_accepted
    (plant_fits several (words_by_test several tt) (lit≤ tt) refl) refl

pub several_kept : ◌⊆◌ {A = ℕ} (2 ∷ []) (2 ∷ 3 ∷ 4 ∷ [])
several_kept = growth.several ours (plant_of whole) (plant_of several) path (2 ∷ []) (2 ∷ 3 ∷ 4 ∷ []) whole_several whole_split several_old

-- the customer's groups: by the press maker's words the path is document 01's
pub press_split : Search by_press (plant_of whole) by_group (2 ∷ []) × Search by_press (plant_of more) by_group (2 ∷ 3 ∷ [])
unfolding ask flatten closure step_in reached answers reported door_words first_reply first_reply_grouped_call second_reply second_reply_grouped_call called call_list call_list_call joined join_call cut
press_split = (
  split press_asked (ended press_asked (in_turn press_asked) (record { seconds = b second0 ∷ b second1 ∷ []; final = b final }) refl),
  split press_more (ended press_more (in_turn press_more) (record {
    seconds = b (0xd0300002 ∷ 0xe0000003 ∷ []) ∷ b second1 ∷ [];
    final = b (0xf0000003 ∷ 0xe0000002 ∷ 0xe0000003 ∷ []);
  }) refl),
)
  where
    press_more : Asked
    press_more = regrouped (asked_by_test more apart by_group tt) by_press refl

-- that path or 5 then 6, which ends at node 3
abbrev pub path_or : List ℕ
path_or =
    0x4050000b ∷ 0x50005005 ∷ 0x50006006 ∷ 0x50005005 ∷ 0x60000001 ∷ 0x60000003 ∷ 0x60000001 ∷ 0x50005005 ∷ 0x50006006 ∷ 0x60000001 ∷ 0x60000002 ∷ []

abbrev pub or_asked : Asked
or_asked = asked_by_test whole apart path_or tt

pub or_split : Search ours (plant_of whole) path_or (2 ∷ 3 ∷ [])
unfolding ask flatten closure step_in reached answers reported door_words first_reply first_reply_call second_reply second_reply_call called call_list call_list_call joined join_call cut
or_split = split or_asked (ended or_asked (in_turn or_asked) (record {
  seconds = b (0xd0500002 ∷ 0xe0000003 ∷ []) ∷ b (0xd1500002 ∷ 0xe0000002 ∷ []) ∷ [];
  final = b (0xf0000003 ∷ 0xe0000002 ∷ 0xe0000003 ∷ []);
}) refl)

pub path_kept : Kept
path_kept = growth.path ours (plant_of whole) path to3 path_or (2 ∷ []) (2 ∷ 3 ∷ []) (words_by_test to3 tt, lit≤ tt, refl) refl whole_split or_split

-- What is asked is needed

-- a node that is newly stopped may leave the list: 2 does
pub stopped_takes : Search ours (plant_of more_stopped) path (3 ∷ [])
unfolding flatten closure step_in reached answers listed old_search_call
stopped_takes = old ours (plant_of more_stopped) path more_stopped (0xf0000002 ∷ 0xe0000003 ∷ []) 32768 32768 tt example.path_accepted
    (plant_fits more_stopped (words_by_test more_stopped tt) (lit≤ tt) refl) refl

-- neither search may be refused: W with an idle link to a removed node is answered, and with "that path or 5 then 5" a walk takes the link, and there
-- is no list
abbrev pub path_or55 : List ℕ
path_or55 =
    0x4050000b ∷ 0x50005005 ∷ 0x50006006 ∷ 0x50005005 ∷ 0x60000001 ∷ 0x60000003 ∷ 0x60000001 ∷ 0x50005005 ∷ 0x50005005 ∷ 0x60000001 ∷ 0x60000002 ∷ []

pub idle_split : Search ours (plant_of idle) path (2 ∷ [])
idle_split = split idle_asked (ended idle_asked (in_turn idle_asked) idle_answer idle_run)

pub or_refused : ask ours example_room (b path_or55) (map b (parts_of idle apart)) (map b (parts_of idle apart)) ≡ stopped calls 14
unfolding ask flatten closure step_in reached answers reported door_words first_reply first_reply_call second_reply second_reply_call called call_list call_list_call joined join_call cut
or_refused = refl
