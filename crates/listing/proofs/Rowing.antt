-- The row that is written is that of the pairs reached outside the part. Assumes nothing.
use mathlib.Core.Path.{◌≡◌}
use mathlib.Core.List.{List, [], ◌∷◌, map}
use Prim.Native.Nat.{ℕ, zero, suc, ◌+◌, ◌*◌, ◌≤◌}
use native.Mathlib.Omega.{arith}
use native.Mathlib.Numerals.{add-one}
use lib.ListN.{length, length-append, length-map}
use Rattle.sets.specs.States.{has_state, states_of}
use Rattle.sets.proofs.Members.{members_length}
use Rattle.sets.proofs.Filter.{map_append}
use Rattle.files.specs.Field.{row_word, reach_word}
use Rattle.output.specs.Writer.{Puts, Writes}
use Rattle.output.proofs.Writing.{Adding, adding_more, puts_more}
use Rattle.slots.specs.Slots.{number, reached_of, place_of}
use Rattle.output.specs.Pairs.{pairs_with}
use Rattle.listing.specs.Rows.{pairs_at, pairs_up_to}

pub target_is : {limit n : ℕ} {a b : List ℕ} {j r : ℕ} (ws w : List ℕ) (k i x s : ℕ) → i ≡ place_of w k → x ≡ number ws i → s ≡ reached_of w i
    → Writes limit n a j b r (map reach_word (pairs_with x s)) → Writes limit n a j b r (map reach_word (pairs_at ws w k))
target_is ws w k i x s e f g h = rw (← e, ← f, ← g) h

-- ---- all targets

pub targets_more : (part w : List ℕ) (k : ℕ) {limit : ℕ} {out₀ : List ℕ} {start : ℕ} {out out' : List ℕ} {count r : ℕ}
    → Adding limit out₀ start out count (map reach_word (pairs_up_to part w k)) → length out' ≡ length out
    → Writes limit (length out) out count out' r (map reach_word (pairs_at part w k)) → Adding limit out₀ start out' r (map reach_word (pairs_up_to part w (k + 1)))
targets_more part w k p same f =
    rw (add-one, map_append reach_word (pairs_up_to part w k)) (adding_more (map reach_word (pairs_at part w k)) p same f)

-- ---- how many they are

pub states_few : (s : ℕ) → length (states_of s) ≤ 16
states_few s = members_length (has_state s) 0 16

pub pairs_few : (ws w : List ℕ) (t : ℕ) → length (pairs_up_to ws w t) ≤ 16 * t
pairs_few ws w zero = omega arith
pairs_few ws w (suc t) = simp (length-append, length-map) (omega (arith, pairs_few ws w t, states_few (reached_of w (place_of w t))))

pub record Counting (w : List ℕ) (k n : ℕ) : Type 0 where
  pub is : (ws : List ℕ) → n ≡ length (pairs_up_to ws w k)

-- ---- the row

-- the row word and the reach words behind it
pub row_is : {limit n : ℕ} {a b c : List ℕ} {i j : ℕ} (q v : ℕ) (cs : List ℕ) → v ≡ row_word q → length b ≡ n
    → Writes limit n a i b j (v ∷ []) → Puts limit (length b) b j c (map reach_word cs) → Puts limit n a i c (row_word q ∷ map reach_word cs)
row_is q v cs e l f g = rw (← e) (puts_more (v ∷ []) (map reach_word cs) f (rw l at g))
