-- The words of pairs: the states are taken off the set, lowest first. Assumes nothing.
use mathlib.Core.Path.{◌≡◌, refl, ◌∙◌}
use mathlib.Core.List.{List, [], ◌∷◌, ◌++◌, map, append-nil, append_assoc}
use Prim.Native.Nat.{ℕ}
use lib.ListN.{length}
use Rattle.sets.specs.States.{states_of, Lowest, Rest}
use Rattle.sets.proofs.Members.{states_empty}
use Rattle.sets.proofs.Filter.{map_append}
use Rattle.files.specs.Field.{word_of, pair}
use Rattle.output.specs.Writer.{Writes}
use Rattle.output.specs.Pairs.{pairs_with}
use Rattle.output.proofs.Writing.{Adding, adding_none, adding_more}

-- the words of the states that were taken are written, and those of the set s are left
pub record Spelling (limit kind x set : ℕ) (out₀ : List ℕ) (start : ℕ) (out : List ℕ) (count s : ℕ) : Type 0 where
  pub done : List ℕ
  pub split : states_of set ≡ done ++ states_of s
  pub adding : Adding limit out₀ start out count (map (word_of kind) (map (pair x) done))

pub spelling_none : (limit kind x set : ℕ) (out : List ℕ) (start : ℕ) → Spelling limit kind x set out start out start set
spelling_none limit kind x set out start = record { done = []; split = refl; adding = adding_none limit out start }

pub spelling_more : {limit kind x set : ℕ} {out₀ : List ℕ} {start : ℕ} {out out' : List ℕ} {count c s q r v : ℕ}
    → Spelling limit kind x set out₀ start out count s → Lowest s q → Rest s r → v ≡ word_of kind (pair x q)
    → length out' ≡ length out → Writes limit (length out) out count out' c (v ∷ []) → Spelling limit kind x set out₀ start out' c r
spelling_more {kind = kind} {x = x} {q = q} {v = v} p l t e same f = record {
  done = p.done ++ q ∷ [];
  split = p.split ∙ rw (t.list, ← l.is, append_assoc);
  adding = rw (map_append (pair x) p.done, map_append (word_of kind) (map (pair x) p.done), ← e) (adding_more (v ∷ []) p.adding same f);
}

pub spelling_all : {limit kind x set : ℕ} {out₀ : List ℕ} {start : ℕ} {out : List ℕ} {count s : ℕ} → s ≡ 0
    → Spelling limit kind x set out₀ start out count s → Writes limit (length out₀) out₀ start out count (map (word_of kind) (pairs_with x set))
spelling_all {set = set} {s = s} z p =
    let d : states_of set ≡ p.done = p.split ∙ rw (z, states_empty 16, append-nil) in
    rw d p.adding.written
