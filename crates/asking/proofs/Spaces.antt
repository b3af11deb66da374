-- Room in a bundle, and the bytes at its front.
use mathlib.Core.Path.{◌≡◌, ap, ◌∙◌}
use mathlib.Core.List.{List, ◌++◌}
use Prim.Native.Nat.{ℕ, ◌+◌, ◌-◌, ◌*◌, ◌^◌, ◌≤◌, ◌<◌}
use native.Mathlib.Omega.{arith}
use borrow.Rule.Slice.PartMut.{mid_of, post_of, put_mid, mid_len}
use lib.ListN.{length, take, drop}
use lib.Seq.{take-append-add, take-append-le, length-take-le}
use Rattle.sets.specs.States.{states_of, has_state, Rest}
use Rattle.sets.proofs.Members.{members_length, states_step}
use Rattle.path_bundles.specs.Split.{file_in}
use Rattle.asking.specs.Run.{slot, slots, part_in}

-- behind `end` bytes of a bundle there is room for a reply of each site that is left
pub record Space (bundle₀ work₀ bundle work : List ℕ) (end left : ℕ) : Type 0 where
  pub fits : end + slot * length (states_of left) ≤ length bundle
  pub small : left < 2 ^ 16
  pub same : length bundle ≡ length bundle₀
  pub same_work : length work ≡ length work₀

pub space_first : (bundle work : List ℕ) (sites : ℕ) → sites < 2 ^ 16 → slots ≤ length bundle → Space bundle work bundle work 0 sites
space_first bundle work sites l h =
    record { fits = omega (arith, members_length (has_state sites) 0 16); small = l; same = omega arith; same_work = omega arith }

-- where a site is left there is room for its reply
pub space_one : {bundle₀ work₀ bundle work : List ℕ} {end left : ℕ} → Space bundle₀ work₀ bundle work end left → 0 < left → end + slot ≤ length bundle
space_one {left = left} r h = omega (arith, ap length (states_step 16 left h r.small), r.fits)

pub space_next : {bundle₀ work₀ bundle work : List ℕ} (bundle' work' : List ℕ) {end left rest : ℕ} (n : ℕ) → Space bundle₀ work₀ bundle work end left
    → Rest left rest → length bundle' ≡ length bundle → length work' ≡ length work → n ≤ slot → Space bundle₀ work₀ bundle' work' (end + n) rest
space_next bundle' work' n r s e f h =
    record {
      fits = omega (arith, ap length s.list, r.fits);
      small = omega (arith, s.less, r.small);
      same = omega (arith, r.same);
      same_work = omega (arith, r.same_work);
    }

-- the bytes of a slot
pub slot_length : (end : ℕ) (bundle : List ℕ) → end + slot ≤ length bundle → length (mid_of end (end + slot - end) bundle) ≡ slot
slot_length end bundle h = mid_len end (end + slot) bundle h ∙ omega arith

take_past : (xs ys : List ℕ) (m n : ℕ) → length xs ≡ m → take (m + n) (xs ++ ys) ≡ xs ++ take n ys
take_past xs ys m n e = rw (← e) (take-append-add xs ys n)

-- the bytes before a reply, and n of the reply's
pub front_more : (end k n : ℕ) (bundle reply : List ℕ) → end ≤ length bundle → n ≤ length reply
    → take (end + n) (put_mid end k bundle reply) ≡ take end bundle ++ take n reply
front_more end k n bundle reply h l =
    take_past (take end bundle) (reply ++ post_of end k bundle) end n (length-take-le end bundle h)
    ∙ rw (take-append-le n reply (post_of end k bundle) l)

-- a site's place
pub part_is : (parts : List ℕ) (site : ℕ) → file_in (take (site * slot + slot - site * slot) (drop (site * slot) parts)) ≡ part_in parts site
part_is parts site =
    let e : site * slot + slot - site * slot ≡ slot = omega arith in
    ap (λ (k : ℕ). file_in (take k (drop (site * slot) parts))) e
