-- What is reached by a step from seeds is the least set that holds the seeds and is closed; and `closure` computes it.
-- Assumes nothing.
use mathlib.Core.Path.{refl}
use mathlib.Core.Logic.{◌↔◌, ⊎_elim}
use mathlib.Core.List.Memᴰ
use mathlib.Core.List.{List, [], ◌∷◌, ◌++◌, map, flatten, append-nil}
use Prim.Native.Nat.{ℕ, zero, suc, ◌+◌, ◌^◌, ◌≤◌, ◌<◌}
use native.Mathlib.Omega.{arith}
use native.Mathlib.Nat.{le_of_eq}
use lib.ListN.{length}
use Rattle.sets.specs.Sets.{Mem, here, ◌⊆◌, Same, Ascending, Lists, union, set_of, minus}
use Rattle.sets.specs.Reach.{Reach, seed, next, Least, grow, closure}
use Rattle.sets.proofs.Sets.{mem_dec, flatten_map_iff, union_same, union_ascending, minus_iff, set_of_lists}
use Rattle.sets.proofs.Lengths.{shorter, ascending_distinct, upto, upto_length, upto_mem}

-- a property of the seeds that each step keeps is one of all that is reached
pub reach_least : {step : ℕ → List ℕ} {seeds : List ℕ} (P : ℕ → Type 0) → ((x : ℕ) → Mem x seeds → P x)
    → ((x y : ℕ) → Reach step seeds x → P x → Mem y (step x) → P y) → (x : ℕ) → Reach step seeds x → P x
reach_least P s n x (seed m) = s x m
reach_least P s n y (next {x = x} r m) = n x y r (reach_least P s n x r) m

-- a list that holds the seeds and is closed under the step holds all that is reached
pub covers : {step : ℕ → List ℕ} {seeds : List ℕ} (xs : List ℕ) → seeds ⊆ xs → ((x : ℕ) → Mem x xs → step x ⊆ xs)
    → (x : ℕ) → Reach step seeds x → Mem x xs
covers xs s n = reach_least (λ x. Mem x xs) s (λ x y r m. n x m y)

-- seeds that are reached from others reach nothing more
pub reach_trans : {step : ℕ → List ℕ} {seeds seeds' : List ℕ} → ((x : ℕ) → Mem x seeds → Reach step seeds' x)
    → (x : ℕ) → Reach step seeds x → Reach step seeds' x
reach_trans s = reach_least (Reach _ _) s (λ x y r k m. next k m)

-- what is listed as reached is the least such set
pub reach_is_least : {step : ℕ → List ℕ} {seeds : List ℕ} (xs : List ℕ) → Lists (Reach step seeds) xs
    → Least (λ x. Mem x seeds) (λ x y. Mem y (step x)) (λ x. Mem x xs)
reach_is_least xs l = record {
  holds = λ x m. l.complete x (seed m);
  closed = λ x y m k. l.complete y (next (l.sound x m) k);
  least = λ Q s n x m. reach_least Q s (λ x y r h k. n x y h k) x (l.sound x m);
}

-- two least sets are the same set
pub least_unique : {Seed : ℕ → Type 0} {Step : ℕ → ℕ → Type 0} {P Q : ℕ → Type 0} → Least Seed Step P → Least Seed Step Q → (x : ℕ) → P x ↔ Q x
least_unique {P} {Q} p q x = (p.least Q q.holds q.closed x, q.least P p.holds p.closed x)

-- `closure` computes the least set

module _ (step : ℕ → List ℕ) (seeds : List ℕ) where
  -- what holds of `done` and `new` between two rounds: `done` is a set; nothing new is in it; all in both is reached; the seeds are in
  -- one of them; and so is all that an element of `done` steps to
  record Round (done new : List ℕ) : Type 0 where
    sorted : Ascending done
    fresh : (x : ℕ) → Mem x new → Mem x done → ⊥
    sound : (x : ℕ) → Mem x (new ++ done) → Reach step seeds x
    begun : seeds ⊆ new ++ done
    closed : (x : ℕ) → Mem x done → step x ⊆ new ++ done

  -- a round keeps it so
  advance : (done new : List ℕ) → Round done new → Round (union new done) (minus (set_of (flatten (map step new))) (union new done))
  advance done new r = record {
    sorted = union_ascending new done r.sorted;
    fresh = λ x m. ((found_iff x).0 m).1;
    sound = λ x m. ⊎_elim
        (λ k. let w = ((found_iff x).0 k).0 in next (r.sound w.0 (Memᴰ.append_left done w.1)) w.2)
        (λ k. r.sound x (both.0 x k))
        (Memᴰ.append_cases found m);
    begun = λ x m. Memᴰ.append_right found (both.1 x (r.begun x m));
    closed = λ x m y k. ⊎_elim
        (λ a. elim (mem_dec y done') [ yes d ↦ Memᴰ.append_right found d | no d ↦ Memᴰ.append_left done' ((found_iff y).1 ((x, a, k), d)) ])
        (λ a. Memᴰ.append_right found (both.1 y (r.closed x a y k)))
        (Memᴰ.append_cases new (both.0 x m));
  }
    where
      done' : List ℕ
      done' = union new done

      both : Same done' (new ++ done)
      both = union_same new done

      found : List ℕ
      found = minus (set_of (flatten (map step new))) done'

      found_iff : (y : ℕ) → Mem y found ↔ (((x : ℕ) × Mem x new × Mem y (step x)) × (Mem y done' → ⊥))
      found_iff y =
          let all = set_of_lists (flatten (map step new)) in
          let i = minus_iff y (set_of (flatten (map step new))) done' in
          let j = flatten_map_iff step y new in
          (λ m. (j.0 (all.sound y (i.0 m).0), (i.0 m).1), λ m. i.1 (all.complete y (j.1 m.0), m.1))

  -- if all that is reached stands in a list ys, as many rounds are enough as ys is longer than `done`: each round adds to `done`, and by
  -- the pigeonhole principle a `done` as long as ys has all that is reached
  grow_lists : (ys : List ℕ) → ((x : ℕ) → Reach step seeds x → Mem x ys)
      → (n : ℕ) (done new : List ℕ) → Round done new → length ys ≤ n + length done → Lists (Reach step seeds) (grow n step done new)
  unfolding grow
  grow_lists ys within zero done new r h = record {
    ascending = r.sorted;
    sound = λ x m. r.sound x (Memᴰ.append_right new m);
    complete = λ x p. elim (mem_dec x done) [
      | yes m ↦ m
      | no k ↦ absurd (omega (
        arith,
        shorter done ys
            (ascending_distinct done r.sorted) (λ z m. within z (r.sound z (Memᴰ.append_right new m))) x (within x p) k,
      ))
    ];
  }
  grow_lists ys within (suc n) done [] r h = record { ascending = r.sorted; sound = r.sound; complete = covers done r.begun r.closed }
  grow_lists ys within (suc n) done (x ∷ new) r h =
      let all = (union_same (x ∷ new) done).1 in
      grow_lists ys within n _ _ (advance done (x ∷ new) r) (omega (
        arith,
        shorter done (union (x ∷ new) done)
            (ascending_distinct done r.sorted) (λ z m. all z (Memᴰ.append_right (x ∷ new) m)) x (all x (here refl)) (r.fresh x (here refl)),
      ))

  -- the closure lists what is reached, if that stands in a list of at most 2 ^ 20 elements
  pub closure_lists_within : (ys : List ℕ) → length ys ≤ 2 ^ 20 → ((x : ℕ) → Reach step seeds x → Mem x ys) → Lists (Reach step seeds) (closure step seeds)
  unfolding closure
  closure_lists_within ys h within = grow_lists ys within (2 ^ 20) [] (set_of seeds) start (omega arith)
    where
      start : Round [] (set_of seeds)
      start = record {
        sorted = tt;
        fresh = λ x m k. elim k [ ];
        sound = λ x m. seed ((set_of_lists seeds).sound x (rw append-nil at m));
        begun = λ x m. rw append-nil ((set_of_lists seeds).complete x m);
        closed = λ x m. elim m [ ];
      }

  -- `closure` lists what is reached, if that is below 2 ^ 20: if the seeds are, and what a reached number steps to
  pub closure_lists : ((x : ℕ) → Mem x seeds → x < 2 ^ 20) → ((x y : ℕ) → Reach step seeds x → Mem y (step x) → y < 2 ^ 20)
      → Lists (Reach step seeds) (closure step seeds)
  closure_lists s n = closure_lists_within (upto (2 ^ 20)) (le_of_eq (upto_length (2 ^ 20)))
      (λ x r. upto_mem (2 ^ 20) x (reach_least (λ x. x < 2 ^ 20) s (λ x y r h. n x y r) x r))
