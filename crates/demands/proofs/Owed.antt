-- What the calls of a question owe, in document 01's words, is what the calls' definitions compute: such files there are, and no others.
-- Assumes nothing.
use mathlib.Core.Path.{◌≡◌, ap, subst}
use mathlib.Core.List.{List, map, flatten}
use Prim.Native.Nat.{ℕ}
use Rattle.sets.specs.Sets.{Mem}
use Rattle.sets.proofs.Perm.{perm_same}
use Rattle.sets.proofs.Filter.{map_agree}
use Rattle.first_replies.specs.FirstReply.{first_reply}
use Rattle.site_second.specs.Second.{IsSecondReply, second_reply}
use Rattle.hub_calls.specs.CallList.{IsCallList, call_list}
use Rattle.first_replies.proofs.FirstReplies.{first_reply_lem, first_unique}
use Rattle.hub_calls.proofs.CallLists.{call_list_lem, call_list_unique}
use Rattle.site_second.proofs.SecondReplies.{second_reply_lem, second_unique}
use Rattle.demands.specs.Demand.{Asked, Put, Owed}
use Rattle.demands.proofs.Accepts.{path, path_read}

module _ (q : Asked) where
  abbrev pub first_of : List ℕ → List ℕ
  first_of f = first_reply f (path q)

  abbrev pub second_of : List ℕ → List ℕ → List ℕ
  second_of list f = second_reply f (path q) list

  module _ (u : Put q) where
    -- the first bundle, the call list of it, and the second bundle
    abbrev pub bundle : List ℕ
    bundle = flatten (map first_of u.order)

    abbrev pub list : List ℕ
    list = call_list bundle

    abbrev pub bundle' : List ℕ
    bundle' = flatten (map (second_of list) u.order')

    unfoldable pub owed : Owed q u
    owed = record {
      first_of = first_of;
      list = list;
      second_of = second_of list;
      first = λ f m. first_reply_lem f (path q) (q.cut.part f m).2 (path_read q);
      calls = call_list_lem bundle;
      second = λ f m. second_reply_lem f (path q) list (q.cut.part f m).2 (path_read q);
    }

    -- two answers to what is owed agree in every file
    pub record Agree (a b : Owed q u) : Type 0 where
      pub first : (f : List ℕ) → Mem f q.parts → a.first_of f ≡ b.first_of f
      pub bundle_is : flatten (map a.first_of u.order) ≡ flatten (map b.first_of u.order)
      pub list_is : a.list ≡ b.list
      pub second : (f : List ℕ) → Mem f q.parts → a.second_of f ≡ b.second_of f
      pub bundle_is' : flatten (map a.second_of u.order') ≡ flatten (map b.second_of u.order')

    pub owed_once : (a b : Owed q u) → Agree a b
    owed_once a b = record { first = first_is; bundle_is = bundled; list_is = listed; second = second_is; bundle_is' = bundled' }
      where
        first_is : (f : List ℕ) → Mem f q.parts → a.first_of f ≡ b.first_of f
        first_is f m = first_unique f (path q) (a.first_of f) (b.first_of f) (a.first f m) (b.first f m)

        bundled : flatten (map a.first_of u.order) ≡ flatten (map b.first_of u.order)
        bundled = ap flatten (map_agree a.first_of b.first_of u.order (λ f m. first_is f ((perm_same u.once).0 f m)))

        listed : a.list ≡ b.list
        listed = call_list_unique (flatten (map b.first_of u.order)) (subst (λ x. IsCallList x a.list) bundled a.calls) b.calls

        second_is : (f : List ℕ) → Mem f q.parts → a.second_of f ≡ b.second_of f
        second_is f m = second_unique f (path q) b.list (subst (λ x. IsSecondReply f (path q) x (a.second_of f)) listed (a.second f m)) (b.second f m)

        bundled' : flatten (map a.second_of u.order') ≡ flatten (map b.second_of u.order')
        bundled' = ap flatten (map_agree a.second_of b.second_of u.order' (λ f m. second_is f ((perm_same u.once').0 f m)))
