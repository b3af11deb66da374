-- What a search leaves as it is, and what a store to each of its tables leaves. Assumes nothing.
use mathlib.Core.Path.{◌≡◌, refl, sym, ◌∙◌}
use mathlib.Core.Logic.{inl, inr}
use mathlib.Core.Bool.{true}
use mathlib.Core.List.{List}
use Prim.Native.Nat.{ℕ, ◌≤◌, ◌<◌}
use native.Mathlib.Omega.{arith}
use lib.ListN.{length}
use Rattle.files.specs.Limits.{part_words}
use Rattle.sets.specs.Table.{put_half}
use Rattle.sets.proofs.Cases.{clash}
use Rattle.sets.proofs.Tables.{length_put, half_apart, half_other}
use Rattle.slots.specs.Slots.{reached_base, pending_base, slots_base, places_base, node_at, slot_of, place_of, Roomy, Outer, Laid, Kept}

pub kept_refl : (ws : List ℕ) (t : ℕ) (w : List ℕ) → Kept ws t w w
kept_refl ws t w = record { long = refl; slots = λ x l. refl; masks = λ x l n. refl; places = λ k l. refl }

pub kept_trans : {ws : List ℕ} {t : ℕ} {w w' w'' : List ℕ} → Kept ws t w w' → Kept ws t w' w'' → Kept ws t w w''
kept_trans k h =
    record {
      long = h.long ∙ k.long;
      slots = λ x l. h.slots x l ∙ k.slots x l;
      masks = λ x l n. h.masks x l n ∙ k.masks x l n;
      places = λ x l. h.places x l ∙ k.places x l;
    }

pub kept_sym : {ws : List ℕ} {t : ℕ} {w w' : List ℕ} → Kept ws t w w' → Kept ws t w' w
kept_sym k =
    record {
      long = sym k.long;
      slots = λ x l. sym (k.slots x l);
      masks = λ x l n. sym (k.masks x l n);
      places = λ x l. sym (k.places x l);
    }

module _ (ws : List ℕ) (t : ℕ) (w : List ℕ) (j v : ℕ) where
  pub kept_reached : j < part_words → Kept ws t w (put_half w reached_base j v)
  kept_reached h =
      record {
        long = length_put w reached_base j v;
        slots = λ x l. half_apart w reached_base j v slots_base x (inr (omega arith));
        masks = λ x l n. half_apart w reached_base j v pending_base x (inr (omega arith));
        places = λ x l. half_apart w reached_base j v places_base x (inr (omega arith));
      }

  pub kept_pending : j < part_words → node_at ws j ≡ true → Kept ws t w (put_half w pending_base j v)
  kept_pending h n =
      record {
        long = length_put w pending_base j v;
        slots = λ x l. half_apart w pending_base j v slots_base x (inr (omega arith));
        masks = λ x l f. half_other w pending_base j v x (λ e. clash n (rw e at f));
        places = λ x l. half_apart w pending_base j v places_base x (inr (omega arith));
      }

  pub kept_place : t ≤ j → Kept ws t w (put_half w places_base j v)
  kept_place h =
      record {
        long = length_put w places_base j v;
        slots = λ x l. half_apart w places_base j v slots_base x (inl (omega arith));
        masks = λ x l n. half_apart w places_base j v pending_base x (inl (omega arith));
        places = λ x l. half_other w places_base j v x (λ e. omega arith);
      }

-- tables with the same slots and places serve as well
module _ {ws : List ℕ} {t : ℕ} {w : List ℕ} (w' : List ℕ) (long : length w' ≡ length w) (slots : (x : ℕ) → x < part_words → slot_of w' x ≡ slot_of w x)
    (places : (k : ℕ) → k < t → place_of w' k ≡ place_of w k) (l : Laid ws t w) where
  same : {x : ℕ} → x < length ws → slot_of w' x ≡ slot_of w x
  same {x} b = slots x (omega (arith, l.roomy.few))

  to : {j : ℕ} → Outer ws w j → Outer ws w' j
  to o = record { below = o.below; edge = o.edge; self = same o.below ∙ o.self }

  from : {j : ℕ} → Outer ws w' j → Outer ws w j
  from o = record { below = o.below; edge = o.edge; self = sym (same o.below) ∙ o.self }

  pub laid_same : Laid ws t w'
  laid_same =
      record {
        accepted = l.accepted;
        roomy = record { few = l.roomy.few; long = omega (arith, long, l.roomy.long); places = l.roomy.places };
        below = λ x b e. rw (same b) (l.below x b e);
        target = λ x b e. rw (same b) (l.target x b e);
        inner = λ x i b e c n q. same b ∙ l.inner x i b e c n q;
        outer = λ x b e n. rw (same b) (to (l.outer x b e (rw (same b) at n)));
        one = λ x y o p. l.one x y (from o) (from p);
        listed = λ k b. rw (places k b) (to (l.listed k b));
        lists = λ j o. let r = l.lists j (from o) in (r.0, r.1, places r.0 r.1 ∙ r.2);
        ascending = λ k m a b. rw (places k (omega arith), places m b) (l.ascending k m a b);
      }

pub roomy_kept : {ws : List ℕ} {t : ℕ} {w w' : List ℕ} → Kept ws t w w' → Roomy ws t w → Roomy ws t w'
roomy_kept h r = record { few = r.few; long = omega (arith, h.long, r.long); places = r.places }

pub laid_kept : {ws : List ℕ} {t : ℕ} {w w' : List ℕ} → Kept ws t w w' → Laid ws t w → Laid ws t w'
laid_kept {w' = w'} h l = laid_same w' h.long h.slots h.places l
