-- A trip's files, one after another.
use mathlib.Core.Path.{◌≡◌, refl, sym, ap, ◌∙◌}
use mathlib.Core.Logic.{inl, inr}
use mathlib.Core.List.{List, ◌∷◌, ◌++◌, flatten, map, append_assoc, append-nil}
use Prim.Native.Nat.{ℕ, ◌+◌, ◌-◌, ◌≤◌, ◌<◌}
use native.Mathlib.Omega.{arith}
use borrow.Rule.Slice.PartMut.{put_mid}
use lib.Bits.{bit_and}
use lib.ListN.{length, take}
use Rattle.sets.specs.States.{lowest_of, Lowest, Rest}
use Rattle.sets.proofs.Members.{states_empty, states_step}
use Rattle.demands.specs.Question.{Asking, stopped, going, each, ◌>>=◌}
use Rattle.asking.specs.Run.{Said, said, slot, bundled, part_in, parts_in}
use Rattle.asking.proofs.Spaces.{Space, space_next, front_more}

-- what is said where some bytes stand and the files of some parts follow
abbrev pub behind : (List ℕ → Asking (List ℕ)) → List ℕ → List (List ℕ) → Said
behind f before parts = said (each f parts >>= (λ files. going (before ++ flatten files)))

module _ (f : List ℕ → Asking (List ℕ)) (before part : List ℕ) (parts : List (List ℕ)) where
  behind_refused : (k : ℕ) → said (f part) ≡ inl k → behind f before (part ∷ parts) ≡ inl k
  behind_refused k h = go (f part) h
    where
      go : (a : Asking (List ℕ)) → said a ≡ inl k
          → said (a >>= (λ file. each f parts >>= (λ files. going (file ∷ files))) >>= (λ files. going (before ++ flatten files))) ≡ inl k
      go (stopped by j) h = h
      go (going x) h = let z : ◌≡◌ {A = ℕ} 0 1 = cc in absurd (omega arith)

  behind_file : (file : List ℕ) → said (f part) ≡ inr file → behind f before (part ∷ parts) ≡ behind f (before ++ file) parts
  unfolding flatten
  behind_file file h = go (f part) h
    where
      more : (x : List ℕ) → x ≡ file → (a : Asking (List (List ℕ)))
          → said (a >>= (λ files. going (x ∷ files)) >>= (λ files. going (before ++ flatten files))) ≡ said (a >>= (λ files. going ((before ++ file) ++ flatten files)))
      more x e (stopped by j) = refl
      more x e (going files) = rw (e, append_assoc)

      go : (a : Asking (List ℕ)) → said a ≡ inr file
          → said (a >>= (λ file. each f parts >>= (λ files. going (file ∷ files))) >>= (λ files. going (before ++ flatten files))) ≡ behind f (before ++ file) parts
      go (stopped by j) h = let z : ◌≡◌ {A = ℕ} 0 1 = cc in absurd (omega arith)
      go (going x) h = more x (cc) (each f parts)

-- a trip on its way: the bytes at the bundle's front, and the sites that are left
pub record OnTrip (f : List ℕ → Asking (List ℕ)) (parts bundle₀ work₀ bundle work : List ℕ) (sites end left : ℕ) : Type 0 where
  pub space : Space bundle₀ work₀ bundle work end left
  pub is : behind f (take end bundle) (parts_in parts left) ≡ said (bundled f (parts_in parts sites))

pub trip_first : (f : List ℕ → Asking (List ℕ)) (parts bundle work : List ℕ) (sites : ℕ) → Space bundle work bundle work 0 sites
    → OnTrip f parts bundle work bundle work sites 0 sites
trip_first f parts bundle work sites s = record { space = s; is = refl }

module _ (g : ℕ → ℕ → List ℕ → Asking (List ℕ)) {parts bundle₀ work₀ bundle work : List ℕ} {sites end left site : ℕ}
    (t : OnTrip (g slot (length work₀)) parts bundle₀ work₀ bundle work sites end left) (p : 0 < left) (o : Lowest left site) {part : List ℕ} (q : part ≡ part_in parts site)
    {told : Said} {a b : ℕ} (e : told ≡ said (g a b part)) (ea : a ≡ slot) (eb : b ≡ length work) where
  -- the call is the one of the trip
  asked : told ≡ said (g slot (length work₀) (part_in parts (lowest_of left)))
  asked = rw (← o.is, ← q, ← t.space.same_work, ← eb, ← ea) e

  pub trip_refused : {number : ℕ} → told ≡ inl number → inl number ≡ said (bundled (g slot (length work₀)) (parts_in parts sites))
  trip_refused {number} z =
      sym (behind_refused (g slot (length work₀)) (take end bundle) (part_in parts (lowest_of left)) (parts_in parts (bit_and left (left - 1))) number (sym asked ∙ z))
      ∙ (rw (states_step 16 left p t.space.small) at t.is)

  pub trip_next : (reply work' : List ℕ) (n k : ℕ) {rest : ℕ} → told ≡ inr (take n reply) → Rest left rest → length (put_mid end k bundle reply) ≡ length bundle → length work' ≡ length work
      → n ≤ slot → n ≤ length reply → OnTrip (g slot (length work₀)) parts bundle₀ work₀ (put_mid end k bundle reply) work' sites (end + n) rest
  trip_next reply work' n k {rest} z r u v l m =
      record {
        space = space_next (put_mid end k bundle reply) work' n t.space r u v l;
        is =
            rw (front_more end k n bundle reply (omega (arith, t.space.fits)) m)
            (sym (behind_file (g slot (length work₀)) (take end bundle) (part_in parts (lowest_of left)) (parts_in parts rest) (take n reply) (sym asked ∙ z))
            ∙ (rw r.list at t.is));
      }

none_left : (f : List ℕ → Asking (List ℕ)) (parts before : List ℕ) (left : ℕ) → left ≡ 0 → behind f before (parts_in parts left) ≡ inr before
unfolding flatten
none_left f parts before left e =
    rw e (ap (λ (l : List ℕ). behind f before (map (part_in parts) l)) (states_empty 16) ∙ ap inr (append-nil before))

pub trip_last : {f : List ℕ → Asking (List ℕ)} {parts bundle₀ work₀ bundle work : List ℕ} {sites end left : ℕ}
    → OnTrip f parts bundle₀ work₀ bundle work sites end left → left ≤ 0 → inr (take end bundle) ≡ said (bundled f (parts_in parts sites))
trip_last {f} {parts} {bundle = bundle} {end = end} {left = left} t h = sym (none_left f parts (take end bundle) left (omega arith)) ∙ t.is
