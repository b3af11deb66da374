-- Believed. The user's demands 2 and 3, and the bound on traffic.
use Rattle.std.specs.Prelude.{ℕ, suc, ◌*◌, ◌≤◌, ◌<◌, ◌≡◌, ◌↔◌, length, drop, get_or}
use mathlib.Core.List.{List, [], ◌∷◌, ◌++◌, map, flatten}
use Rattle.sets.specs.Sets.{Mem, Perm, filter}
use Rattle.files.specs.Word.{words, bytes_of}
use Rattle.files.specs.Field.{labels_of}
use Rattle.files.specs.Outcome.{accepted}
use Rattle.files.specs.Part.{doors, outside, part_check}
use Rattle.files.specs.Path.{path_check}
use Rattle.files.specs.Reply.{is_reach}
use Rattle.files.specs.Answers.{answers_of}
use Rattle.expressions.specs.Labels.{expr_of}
use Rattle.first_replies.specs.FirstReply.{IsFirstReply}
use Rattle.site_second.specs.Second.{IsSecondReply}
use Rattle.hub_calls.specs.CallList.{IsCallList}
use Rattle.demands.specs.Plant.{Plant, OneRoot, TrueCut, Unwalked, Fits, Words, FinalListBy}
use Rattle.demands.specs.Grouped.{Groups, AcceptedGroups, groups_of, asks, old_call}
use Rattle.demands.specs.Question.{Room, Call, first, calls, second, join, Asking, stopped, going, Answer, ask}

-- n bytes are enough for a result of `limit` words, and m for the work
abbrev pub Enough : ℕ → ℕ → ℕ → Type 0
Enough limit n m = (4 * limit ≤ n) × (32768 ≤ m)

-- a path that every site accepts, by its words
abbrev pub AcceptedPath : List ℕ → Type 0
AcceptedPath path = Words path × (length path ≤ 64) × (path_check path ≡ 0)

-- Demand 2: of a plant that fits one file, and for every accepted path and groups, the old search lists exactly the nodes to which a walk from the
-- root spells a word of the expression, textbook meaning, ascending, each once.
abbrev pub Demand2 : Type 1
Demand2 = (p : Plant) (whole : List ℕ) (groups : Groups) (path : List ℕ) → Fits p whole → AcceptedGroups groups → AcceptedPath path
    → (n m : ℕ) → Enough 8192 n m
    → (final : List ℕ) × (old_call groups n m (bytes_of whole) (bytes_of path) ≡ accepted final) × FinalListBy (groups_of groups) p (expr_of (drop 1 path)) final

-- Demand 3's givens: a plant with one root, a true cut of it, and groups and a path that all sites accept. That the parts are one to sixteen, as sites
-- are 0 to 15, follows from the rest (`some_part` and `few_parts` of proofs/Cutter.antt), and is said for the reader.
pub record Asked : Type 1 where
  pub plant : Plant
  pub one_root : OneRoot plant
  pub parts : List (List ℕ)
  pub some_part : 1 ≤ length parts
  pub few_parts : length parts ≤ 16
  pub cut : TrueCut plant parts
  pub groups : Groups
  pub groups_accepted : AcceptedGroups groups
  pub path : List ℕ
  pub path_accepted : AcceptedPath path

-- and no walk can take a link that ends nowhere, by these groups and this path
abbrev pub NoneWalked : Asked → Type 0
NoneWalked q = Unwalked (groups_of q.groups) q.plant q.parts (expr_of (drop 1 q.path))

-- c is the first of some calls that has a property
pub data First (P : Call → Type 0) : List Call → Call → Type 0 where
  at_once : {c : Call} {cs : List Call} → P c → First P (c ∷ cs) c
  later : {c d : Call} {cs : List Call} → (P d → ⊥) → First P cs c → First P (d ∷ cs) c

module _ (q : Asked) where
  -- buffers that are enough for each call
  pub record EnoughRoom (room : Room) : Type 0 where
    pub first : (f : List ℕ) → Mem f q.parts → Enough 4096 (room.first (bytes_of f)).out (room.first (bytes_of f)).work
    pub calls : Enough 4096 room.calls.out room.calls.work
    pub second : (f : List ℕ) → Mem f q.parts → Enough 4096 (room.second (bytes_of f)).out (room.second (bytes_of f)).work
    pub join : Enough 8192 room.join.out room.join.work

  -- the sites in two orders, each once, and buffers for the calls
  pub record Put : Type 0 where
    pub order : List (List ℕ)
    pub order' : List (List ℕ)
    pub once : Perm order q.parts
    pub once' : Perm order' q.parts
    pub room : Room
    pub enough : EnoughRoom room

  -- What a question that no call refuses must end with: the joined list is demand 2's list; the second replies together hold exactly the listed
  -- nodes, each once; and the list is equal in every word to the old search's wherever the plant fits one file
  pub record Right (a : Answer) : Type 0 where
    pub final : FinalListBy (groups_of q.groups) q.plant (expr_of (drop 1 q.path)) (words a.final)
    pub once : Perm (answers_of (words (flatten a.seconds))) (answers_of (words a.final))
    pub old : (whole : List ℕ) → Fits q.plant whole → (n m : ℕ) → Enough 8192 n m
        → old_call q.groups n m (bytes_of whole) (bytes_of q.path) ≡ accepted (words a.final)

  module _ (u : Put) where
    -- the question that is asked
    abbrev pub question : Asking Answer
    question = ask q.groups u.room (bytes_of q.path) (map bytes_of u.order) (map bytes_of u.order')

    -- its calls, in the order in which they are made
    abbrev pub in_order : List Call
    in_order = map (λ f. first (bytes_of f)) u.order ++ (calls ∷ (map (λ f. second (bytes_of f)) u.order' ++ (join ∷ [])))

    -- What the calls owe, in document 01's words: each site's first reply, however long; the call list of the bundle of these; and each site's
    -- second reply to that list. There are such files, and no others (`owed` and `owed_once` of proofs/Owed.antt).
    pub record Owed : Type 1 where
      pub first_of : List ℕ → List ℕ
      pub list : List ℕ
      pub second_of : List ℕ → List ℕ
      pub first : (f : List ℕ) → Mem f q.parts → IsFirstReply f (asks q.groups q.path) (first_of f)
      pub calls : IsCallList (flatten (map first_of u.order)) list
      pub second : (f : List ℕ) → Mem f q.parts → IsSecondReply f (asks q.groups q.path) list (second_of f)

    module _ (o : Owed) where
      -- the first reply or call list that a call owes is over its limit
      abbrev pub Over : Call → Type 0
      Over (first part) = 4096 < length (o.first_of (words part))
      Over calls = 4096 < length o.list
      Over (second part) = ⊥
      Over join = ⊥

      -- no call of the question is so
      abbrev pub NoneOver : Type 0
      NoneOver = (by : Call) → Mem by in_order → Over by → ⊥

      -- no bundle that is made is over its limit
      pub record SmallBundles : Type 0 where
        pub first : ((f : List ℕ) → Mem f q.parts → length (o.first_of f) ≤ 4096) → length (flatten (map o.first_of u.order)) ≤ 8192
        pub second : NoneOver → length (flatten (map o.second_of u.order')) ≤ 8192

      -- Demand 3, of the run of the whole question
      pub record Claim : Type 0 where
        -- the call whose refusal ends the question is the first, in the order of the calls, that owes a first reply or call list over its limit,
        -- and its number is 15
        pub stops : (by : Call) (k : ℕ) → (question ≡ stopped by k) ↔ (First Over in_order by × (k ≡ 15))
        -- where some call owes such a one, the question is so ended
        pub over : (by : Call) → Mem by in_order → Over by → (c : Call) × (question ≡ stopped c 15)
        -- where none does, it ends with the right list and replies
        pub ends : NoneOver → (a : Answer) × (question ≡ going a) × Right a

-- whatever its part, groups and path, a site with D doors and T outside targets sends at most D × T × n × (n + 1) reach words
abbrev pub Traffic : Type 0
Traffic =
    (groups : Groups) (part path f : List ℕ) → AcceptedGroups groups → part_check part ≡ 0 → path_check path ≡ 0 → IsFirstReply part (asks groups path) f
    → length (filter is_reach (drop 1 f))
    ≤ length (doors (drop 1 part)) * length (outside (drop 1 part)) * labels_of (get_or path 0 0) * suc (labels_of (get_or path 0 0))

-- Demand 3, entire: one claim about the question, for every plant, cut, groups, path, two orders and buffers, whatever files meet document 01's words
-- of what the calls owe; that there are such files; and the bound on traffic
pub record Demand3 : Type 1 where
  pub claim : (q : Asked) → NoneWalked q → (u : Put q) (o : Owed q u) → SmallBundles q u o → Claim q u o
  pub owed : (q : Asked) (u : Put q) → Owed q u
  pub traffic : Traffic
