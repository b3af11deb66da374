-- The demands are not empty. Every accepted whole file, cut list and path, as bytes, gives demand 3's givens: the plant that the file holds, and
-- the parts that the cutter makes of it; and so does a file with links that end nowhere, where a search finds that none is walked. Document 01's own
-- W, P and cut are one, and their question is run. Assumes nothing.
use mathlib.Core.Path.{◌≡◌, refl}
use mathlib.Core.Bool.{Bool, not, ◌&&◌}
use mathlib.Core.List.{List, [], ◌∷◌, map, flatten}
use Prim.Native.Nat.{ℕ, ◌^◌, ◌≤◌}
use native.Mathlib.Omega.{arith}
use lib.Dec.{T, eqb, leb, ltb, ltb→lt, lit≤}
use lib.ListN.{length, drop}
use Rattle.sets.specs.Sets.{Mem, Perm, any, member, set_of}
use Rattle.sets.specs.Reach.{closure}
use Rattle.sets.proofs.Tests.{and_iff, le_iff, eq_iff}
use Rattle.sets.proofs.Filter.{all_iff}
use Rattle.sets.proofs.Sums.{at_most, by_length, flatten_by}
use Rattle.sets.proofs.Perm.{perm-refl, perm_same, perm_length}
use Rattle.files.specs.Word.{words, bytes_of, Bytes}
use Rattle.files.specs.Refuse.{◌then◌, size_check}
use Rattle.files.specs.Outcome.{accepted}
use Rattle.files.specs.Field.{pair_node}
use Rattle.files.specs.Groups.{our_groups}
use Rattle.files.specs.Part.{nodes, part_check, whole_check}
use Rattle.files.specs.Path.{path_check}
use Rattle.files.proofs.Checks.{checks, then_iff}
use Rattle.files.proofs.Parts.{whole_part}
use Rattle.files.proofs.Words.{words_length}
use Rattle.files.proofs.Bytes.{words_below_lem, bytes_words}
use Rattle.expressions.specs.Labels.{expr_of}
use Rattle.expressions.proofs.Paths.{path_small}
use Rattle.walks.specs.Product.{step_in, reached, answers}
use Rattle.first_replies.specs.FirstReply.{reported, door_words, first_reply}
use Rattle.site_first.specs.First.{first_reply_call}
use Rattle.site_second.specs.Second.{second_reply, second_reply_call}
use Rattle.site_second.proofs.SecondReplies.{second_length}
use Rattle.hub_calls.specs.CallList.{called, call_list, call_list_call}
use Rattle.hub_join.specs.Join.{joined, join_call}
use Rattle.old.proofs.OldSearch.{root_pairs}
use Rattle.cutter.specs.Cut.{cut, cut_call}
use Rattle.cutter.proofs.Parts.{cut_call_lem}
use Rattle.table.specs.Table.{whole, path, part0, part1, second0, second1, final, b}
use Rattle.files.specs.Cuts.{cut_check}
use Rattle.demands.specs.Plant.{OneRoot, Unwalked, Words, body}
use Rattle.demands.specs.PlantOf.{plant_of, parts_of}
use Rattle.demands.specs.Grouped.{Groups, ours, AcceptedGroups, groups_of, asks}
use Rattle.demands.specs.Question.{Buffers, Room, going, Answer, ask}
use Rattle.demands.specs.Demand.{AcceptedPath, Asked, NoneWalked, Put, SmallBundles, Claim, Enough, question}
use Rattle.demands.proofs.PlantOf.{plant_one_root}
use Rattle.demands.proofs.Cutter.{true_cut, some_part, few_parts, whole_unwalked, search_unwalked}
use Rattle.demands.proofs.Grouping.{asks_checked, unwalked_asked}
use Rattle.demands.proofs.Owed.{first_of, second_of, list, owed}
use Rattle.demands.proofs.Demand.{demand_3}
use Rattle.growth.specs.Growth.{Ended}

-- the givens, by words: of a file with one root, and accepted groups and path
abbrev pub asked_of : (f cuts p : List ℕ) → Words f → length f ≤ 4096 → part_check f ≡ 0 → OneRoot (plant_of f)
    → (site : ℕ) → cut_check (body f) cuts site ≡ 0
    → AcceptedPath p → (groups : Groups) → AcceptedGroups groups → Asked
asked_of f cuts p word few c one site d path-ok groups groups-ok = record {
  plant = plant_of f;
  one_root = one;
  parts = parts_of f cuts;
  some_part = some_part one (true_cut f cuts c site d word few);
  few_parts = few_parts (true_cut f cuts c site d word few);
  cut = true_cut f cuts c site d word few;
  groups = groups;
  groups_accepted = groups-ok;
  path = p;
  path_accepted = path-ok;
}

-- of a whole file, with our groups
abbrev pub asked : (f cuts p : List ℕ) → Words f → length f ≤ 4096 → whole_check f ≡ 0
    → (site : ℕ) → cut_check (body f) cuts site ≡ 0
    → Words p → length p ≤ 64 → path_check p ≡ 0 → Asked
asked f cuts p word few c site d path_word path-short path_read =
    asked_of f cuts p word few (whole_part f c) (plant_one_root f c) site d (path_word, path-short, path_read) ours tt

-- no link that ends nowhere is walked where the search of the file as it stands, by the path that is asked, comes to no node that the file has not
abbrev pub stays : (f p : List ℕ) → Bool
stays f p = not (any (λ c. not (member (pair_node c) (nodes (body f)))) (reached (body f) (expr_of (drop 1 p)) (root_pairs f)))

pub stays_none : (f cuts p : List ℕ) → part_check f ≡ 0 → (site : ℕ) → cut_check (body f) cuts site ≡ 0 → AcceptedPath p → (groups : Groups) → AcceptedGroups groups
    → T (stays f (asks groups p)) → Unwalked (groups_of groups) (plant_of f) (parts_of f cuts) (expr_of (drop 1 p))
stays_none f cuts p c site d path-ok groups groups-ok test =
    (unwalked_asked (plant_of f) (parts_of f cuts) groups p groups-ok).0
    (search_unwalked f cuts c site d (expr_of (drop 1 (asks groups p))) (path_small (asks groups p) (asks_checked groups p groups-ok path-ok.2)) test)

-- accepted bytes are those of accepted words
pub record Read (limit : ℕ) (check : List ℕ → ℕ) (s : List ℕ) : Type 0 where
  pub word : Words (words s)
  pub few : length (words s) ≤ limit
  pub read : check (words s) ≡ 0
  pub same : bytes_of (words s) ≡ s

pub accepted_bytes : (limit : ℕ) (check : List ℕ → ℕ) (s : List ℕ) → Bytes s → (size_check limit s then check (words s)) ≡ 0 → Read limit check s
accepted_bytes limit check s h e =
    let (z, c) = (then_iff (size_check limit s) (check (words s))).0 e in
    let t = simp checks at z in
    record { word = words_below_lem s h; few = omega (arith, words_length s, t.1); read = c; same = bytes_words s h t.0.0 }

-- a cut list that is accepted for one site is for any
for_site : (ws cuts : List ℕ) (site : ℕ) → cut_check ws cuts 0 ≡ 0 → site ≤ 15 → cut_check ws cuts site ≡ 0
for_site ws cuts site e s = let h = simp checks at e in simp checks (h.0, s)

-- the givens, by bytes
module _ (whole cuts path : List ℕ) (whole-bytes : Bytes whole) (path_bytes : Bytes path)
    (whole_read : (size_check 4096 whole then whole_check (words whole)) ≡ 0) (cuts_read : cut_check (body (words whole)) cuts 0 ≡ 0)
    (path_read : (size_check 64 path then path_check (words path)) ≡ 0) where
  w : Read 4096 whole_check whole
  w = accepted_bytes 4096 whole_check whole whole-bytes whole_read

  p : Read 64 path_check path
  p = accepted_bytes 64 path_check path path_bytes path_read

  pub givens : Asked
  givens = asked (words whole) cuts (words path) w.word w.few w.read 0 cuts_read p.word p.few p.read

  -- no link of a whole ends nowhere
  pub givens_none : NoneWalked givens
  unfolding givens
  givens_none = whole_unwalked our_groups (words whole) cuts w.read 0 cuts_read (expr_of (drop 1 (words path)))

  -- the givens' plant is the one that the file holds, and their parts are what the cutter gives for the sites that the list names
  pub givens_plant : givens.plant ≡ plant_of (words whole)
  unfolding givens
  givens_plant = refl

  pub givens_calls : (site : ℕ) → site ≤ 15 → (n m : ℕ) → Enough 4096 n m → cut_call n m whole cuts site ≡ accepted (cut (words whole) cuts site)
  givens_calls site s n m (h, k) =
      rw w.same at (cut_call_lem n m (words whole) cuts site h k w.word w.few w.read (for_site (body (words whole)) cuts site cuts_read s))

  pub givens_parts : givens.parts ≡ map (cut (words whole) cuts) (set_of cuts)
  unfolding givens
  givens_parts = refl

abbrev pub all_words : List ℕ → Bool
all_words f = not (any (λ w. not (ltb w (2 ^ 32))) f)

pub words_by_test : (f : List ℕ) → T (all_words f) → Words f
words_by_test f t w m = ltb→lt w (2 ^ 32) ((all_iff (λ w. ltb w (2 ^ 32)) f).0 t w m)

-- the givens, by a test of a whole file, a cut list and a path
abbrev pub askable : (f cuts p : List ℕ) → Bool
askable f cuts p =
    (all_words f && leb (length f) 4096 && eqb (whole_check f) 0 && eqb (cut_check (body f) cuts 0) 0)
    && (all_words p && leb (length p) 64 && eqb (path_check p) 0)

abbrev pub asked_by_test : (f cuts p : List ℕ) → T (askable f cuts p) → Asked
asked_by_test f cuts p t =
    let ((((u, few), c), d), ((v, short), r)) = simp (and_iff, le_iff, eq_iff) at t in
    asked f cuts p (words_by_test f u) few c 0 d (words_by_test p v) short r

pub none_by_test : (f cuts p : List ℕ) (t : T (askable f cuts p)) → NoneWalked (asked_by_test f cuts p t)
none_by_test f cuts p t =
    let ((((u, few), c), d), ((v, short), r)) = simp (and_iff, le_iff, eq_iff) at t in
    whole_unwalked our_groups f cuts c 0 d (expr_of (drop 1 p))

-- a question may be put with any accepted groups: the givens with these
abbrev pub regrouped : (q : Asked) (groups : Groups) → AcceptedGroups groups → Asked
regrouped q groups ok = record {
  plant = q.plant;
  one_root = q.one_root;
  parts = q.parts;
  some_part = q.some_part;
  few_parts = q.few_parts;
  cut = q.cut;
  groups = groups;
  groups_accepted = ok;
  path = q.path;
  path_accepted = q.path_accepted;
}

-- document 01's end-to-end files
abbrev pub example : Asked
example = asked_by_test whole (0 ∷ 1 ∷ 0 ∷ []) path tt

-- the example's parts are the document's
pub example_parts : example.parts ≡ part0 ∷ part1 ∷ []
unfolding cut
example_parts = refl

-- buffers of just the limits
abbrev pub example_room : Room
example_room =
    let reply : Buffers = record { out = 16384; work = 32768 } in
    record { first = λ part. reply; calls = reply; second = λ part. reply; join = record { out = 32768; work = 32768 } }

-- the sites in any two orders, in buffers of just the limits
abbrev pub asking : (q : Asked) (order order' : List (List ℕ)) → Perm order q.parts → Perm order' q.parts → Put q
asking q order order' once once' = record {
  order = order;
  order' = order';
  once = once;
  once' = once';
  room = example_room;
  enough = record { first = λ f m. (lit≤ tt, lit≤ tt); calls = (lit≤ tt, lit≤ tt); second = λ f m. (lit≤ tt, lit≤ tt); join = (lit≤ tt, lit≤ tt) };
}

-- the sites in their order, in both trips
abbrev pub in_turn : (q : Asked) → Put q
in_turn q = asking q q.parts q.parts (perm-refl q.parts) (perm-refl q.parts)

-- a run that is not refused, by its answer
abbrev pub ended : (q : Asked) (u : Put q) (a : Answer) → question q u ≡ going a → Ended q
ended q u a e = record { order = u.order; order' = u.order'; once = u.once; once' = u.once'; room = u.room; answer = a; run = e }

abbrev pub example_put : Put example
example_put = in_turn example

-- the example's question is run, and ends with the document's files
pub example_run : question example example_put ≡ going (record { seconds = b second0 ∷ b second1 ∷ []; final = b final })
unfolding ask flatten closure step_in reached answers reported door_words first_reply first_reply_call second_reply second_reply_call called call_list call_list_call joined join_call cut
example_run = refl

-- at most two sites never make a bundle that is over its limit
pub two_small : (q : Asked) (u : Put q) → length q.parts ≤ 2 → SmallBundles q u (owed q u)
unfolding owed
two_small q u few = record {
  first = λ h. omega (arith, small (first_of q) u.order (perm_length u.once) (λ f m. h f ((perm_same u.once).0 f m)));
  second = λ n. omega (
    arith,
    small (second_of q (list q u)) u.order' (perm_length u.once') (λ f m.
        let k = q.cut.part f ((perm_same u.once').0 f m) in omega (arith, second_length f (asks q.groups q.path) (list q u) k.2, k.1)),
  );
}
  where
    small : (write : List ℕ → List ℕ) (fs : List (List ℕ)) → length fs ≡ length q.parts → ((f : List ℕ) → Mem f fs → length (write f) ≤ 4096)
        → length (flatten (map write fs)) ≤ 8192
    small write fs e h =
        omega (arith, flatten_by at_most by_length write 4096 fs h)

-- so demand 3 speaks of every question with at most two sites
pub two_claim : (q : Asked) → NoneWalked q → (u : Put q) → length q.parts ≤ 2 → Claim q u (owed q u)
two_claim q none u few = demand_3.claim q none u (owed q u) (two_small q u few)

pub example_claim : Claim example example_put (owed example example_put)
example_claim = two_claim example (none_by_test whole (0 ∷ 1 ∷ 0 ∷ []) path tt) example_put (lit≤ tt)
