-- More laws of `members`, the numbers of a range for which a test holds: ranges put together, a range read at another start, the pairs of
-- one number. Assumes nothing.
use mathlib.Core.Path.{◌≡◌, refl, ap, ◌∙◌}
use mathlib.Core.Bool.{Bool, true, false}
use mathlib.Core.List.{List, [], ◌++◌, map}
use Prim.Native.Nat.{ℕ, zero, suc, ◌+◌, ◌*◌, ◌/◌, ◌%◌, ◌<◌}
use native.Mathlib.Omega.{arith}
use Rattle.sets.specs.Sets.{Ascending}
use Rattle.sets.specs.States.{has_state, keep, members, states_of}
use Rattle.sets.specs.Table.{half}
use Rattle.sets.specs.NodeSet.{has_node}
use Rattle.sets.proofs.Sets.{map_ascending}
use Rattle.sets.proofs.Members.{in_members}
use Rattle.files.specs.Field.{pair}
use Rattle.output.specs.Pairs.{pairs_with}

pub members_ascending : (p : ℕ → Bool) (at d : ℕ) → Ascending (members p at d)
unfolding members
members_ascending p at zero = tt
members_ascending p at (suc d) = keeps (p at) (members_ascending p (suc at) d)
  where
    keeps : (c : Bool) → Ascending (members p (suc at) d) → Ascending (keep c at (members p (suc at) d))
    keeps true a = (λ y m. (in_members p (suc at) d y m).0, a)
    keeps false a = a

pub members_append : (p : ℕ → Bool) (at a b : ℕ) → members p at (a + b) ≡ members p at a ++ members p (at + a) b
unfolding members
members_append p at zero b = let e : at + 0 ≡ at = omega arith in let g : 0 + b ≡ b = omega arith in rw (e, g)
members_append p at (suc a) b =
    let e : suc a + b ≡ suc (a + b) = omega arith in
    let g : at + suc a ≡ suc at + a = omega arith in
    rw (e, g, members_append p (suc at) a b) (keeps (p at))
  where
    keeps : (c : Bool) → keep c at (members p (suc at) a ++ members p (suc at + a) b) ≡ keep c at (members p (suc at) a) ++ members p (suc at + a) b
    keeps true = refl
    keeps false = refl

-- one number more
pub members_more : (p : ℕ → Bool) (at d : ℕ) → members p at (suc d) ≡ members p at d ++ keep (p (at + d)) (at + d) []
unfolding members
members_more p at d = let e : suc d ≡ d + 1 = omega arith in ap (members p at) e ∙ members_append p at d 1

-- a range read at another start
pub members_shift : (p p' : ℕ → Bool) (x at d : ℕ) → ((q : ℕ) → q < at + d → p (x + q) ≡ p' q) → members p (x + at) d ≡ map (λ q. x + q) (members p' at d)
unfolding members
members_shift p p' x at zero h = refl
members_shift p p' x at (suc d) h =
    let e : suc (x + at) ≡ x + suc at = omega arith in
    rw (h at (omega arith), e, members_shift p p' x (suc at) d (λ q l. h q (omega arith))) (keeps (p' at))
  where
    keeps : (c : Bool) → keep c (x + at) (map (λ q. x + q) (members p' (suc at) d)) ≡ map (λ q. x + q) (keep c at (members p' (suc at) d))
    keeps true = refl
    keeps false = refl

-- the pairs of x, whose states are s
pub members_pairs : (p : ℕ → Bool) (x s : ℕ) → ((q : ℕ) → q < 16 → p (pair x q) ≡ has_state s q) → members p (16 * x) 16 ≡ pairs_with x s
members_pairs p x s h =
    let z : 16 * x ≡ x * 16 + 0 = omega arith in
    ap (λ k. members p k 16) z ∙ members_shift p (has_state s) (x * 16) 0 16 (λ q l. h q (omega arith))

pub pairs_ascending : (x s : ℕ) → Ascending (pairs_with x s)
pairs_ascending x s = map_ascending (pair x) (states_of s) (λ p q m k l. omega arith) (members_ascending (has_state s) 0 16)

-- the nodes of a cell are pairs of the cell's number
pub at_cell : (w : List ℕ) (base i q : ℕ) → q < 16 → has_node w base (pair i q) ≡ has_state (half w base i) q
unfolding has_node
at_cell w base i q l =
    let a : pair i q / 16 ≡ i = omega arith in
    let b : pair i q % 16 ≡ q = omega arith in
    rw (a, b)
