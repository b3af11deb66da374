-- Laws of entered pairs: one pair, some and then others, none left; and a pair entered at its node's door. Assumes nothing.
use mathlib.Core.Path.{◌≡◌, refl, sym, ◌∙◌}
use mathlib.Core.Logic.{◌⊎◌, inl, inr, ⊎_elim}
use mathlib.Core.Bool.{Bool, true, false, not, ◌&&◌, ◌||◌, or-false}
use mathlib.Core.List.{List}
use Prim.Native.Nat.{ℕ}
use borrow.Author.Tests.{eqb-true, eq-eqb}
use lib.Dec.{eqb}
use Rattle.sets.proofs.Cases.{or_elim, or_left, or_right, and_left, and_right, and_intro, clash}
use Rattle.files.specs.Field.{pair_node, pair_state}
use Rattle.door_index.specs.Index.{DoorAt}
use Rattle.door_index.proofs.Doors.{door_unique}
use Rattle.hub_search.specs.Search.{expands, reached_at, pending_at, Entered, Growing, PairsEntered, Placed}
use Rattle.hub_search.proofs.Entries.{fresh_none, kept_then}

-- what was entered, with what is entered after
fresh_then : (x r r' r'' p p' p'' : Bool) → (r ≡ true → r' ≡ true) → (r' ≡ true → r'' ≡ true) → p' ≡ (p || (x && (r' && not r))) → p'' ≡ (p' || (x && (r'' && not r')))
    → p'' ≡ (p || (x && (r'' && not r)))
fresh_then false r r' r'' p p' p'' h k e f = f ∙ rw (e, or-false, or-false)
fresh_then true true true true p p' p'' h k e f = f ∙ rw (e, or-false, or-false)
fresh_then true true true false p p' p'' h k e f = absurd (clash (k refl) refl)
fresh_then true true false r'' p p' p'' h k e f = absurd (clash (h refl) refl)
fresh_then true false true true true p' p'' h k e f = f ∙ rw e
fresh_then true false true true false p' p'' h k e f = f ∙ rw e
fresh_then true false true false p p' p'' h k e f = absurd (clash (k refl) refl)
fresh_then true false false true p p' p'' h k e f = f ∙ rw (e, or-false)
fresh_then true false false false p p' p'' h k e f = f ∙ rw (e, or-false, or-false)

module _ {ws : List ℕ} {d : ℕ} {E L : ℕ → ℕ → Type 0} where
  -- nothing is entered yet
  pub growing_first : {w : List ℕ} → ((j q : ℕ) → E j q → L j q) → Growing ws d E L w w
  growing_first {w} h = record {
    more = λ j q m. m;
    fresh = λ j q. fresh_none (expands ws j) (reached_at ws w j q) (pending_at ws w j q);
    only = λ j q m. inl m;
    all = λ j q e. inr (h j q e);
    kept = record { index = λ k l. refl; long = refl };
  }

  -- some more are entered
  pub growing_more : {F L' : ℕ → ℕ → Type 0} {w w' w'' : List ℕ} → Growing ws d E L w w' → PairsEntered ws d F w' w''
      → ((j q : ℕ) → F j q → E j q) → ((j q : ℕ) → L j q → F j q ⊎ L' j q) → Growing ws d E L' w w''
  growing_more {w = w} {w' = w'} {w'' = w''} f g h k = record {
    more = λ j q m. g.more j q (f.more j q m);
    fresh = λ j q. fresh_then (expands ws j) (reached_at ws w j q) (reached_at ws w' j q) (reached_at ws w'' j q) (pending_at ws w j q) (pending_at ws w' j q) (pending_at ws w'' j q)
        (f.more j q) (g.more j q) (f.fresh j q) (g.fresh j q);
    only = λ j q m. ⊎_elim (λ a. f.only j q a) (λ a. inr (h j q a)) (g.only j q m);
    all = λ j q e. ⊎_elim (λ a. inl (g.more j q a)) (λ a. ⊎_elim (λ b. ⊎_elim (λ c. inl c) (λ c. absurd c) (g.all j q b)) (λ b. inr b) (k j q a)) (f.all j q e);
    kept = kept_then f.kept g.kept;
  }

  -- what is left is something else
  pub growing_left : {L' : ℕ → ℕ → Type 0} {w w' : List ℕ} → Growing ws d E L w w' → ((j q : ℕ) → L j q → L' j q) → Growing ws d E L' w w'
  growing_left f k = record {
    more = f.more;
    fresh = f.fresh;
    only = f.only;
    all = λ j q e. ⊎_elim (λ a. inl a) (λ a. inr (k j q a)) (f.all j q e);
    kept = f.kept;
  }

-- one pair, entered at its node's door
pub entered_pair : {ws : List ℕ} {d : ℕ} {w w' : List ℕ} (c : ℕ) {j q : ℕ} → Entered ws d w w' j q → DoorAt ws (pair_node c) j → q ≡ pair_state c
    → PairsEntered ws d (Placed ws (λ b. b ≡ c)) w w'
entered_pair {ws} {d} {w} {w'} c {j} {q} f at e = record {
  more = λ i p m. f.reached i p ∙ or_left (reached_at ws w i p) (eqb i j && eqb p q) m;
  fresh = f.fresh;
  only = λ i p m. ⊎_elim (λ a. inl a)
      (λ a. inr (c, refl, rw (eqb-true i j (and_left (eqb i j) (eqb p q) a)) at, eqb-true p q (and_right (eqb i j) (eqb p q) a) ∙ e))
      (or_elim (reached_at ws w i p) (eqb i j && eqb p q) (sym (f.reached i p) ∙ m));
  all = λ i p (b, eb, db, ep). inl (f.reached i p ∙ or_right (reached_at ws w i p) (eqb i j && eqb p q)
      (and_intro (eqb i j) (eqb p q) (eq-eqb i j (door_unique (rw eb at db) at)) (eq-eqb p q (ep ∙ rw (eb, e)))));
  kept = f.kept;
}

-- two names of the same pairs
pub grown_iff : {ws : List ℕ} {d : ℕ} {E E' : ℕ → ℕ → Type 0} {w w' : List ℕ} → PairsEntered ws d E w w' → ((j q : ℕ) → E j q → E' j q) → ((j q : ℕ) → E' j q → E j q)
    → PairsEntered ws d E' w w'
grown_iff f h k = record {
  more = f.more;
  fresh = f.fresh;
  only = λ j q m. ⊎_elim (λ a. inl a) (λ a. inr (h j q a)) (f.only j q m);
  all = λ j q e. f.all j q (k j q e);
  kept = f.kept;
}
