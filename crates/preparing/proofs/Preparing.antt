-- Tables that are laid out, filled with masks and made blank are ready for searches; and what an automaton's masks and table say of its
-- expression. Assumes nothing.
use mathlib.Core.Path.{◌≡◌, refl, sym, ap, ◌∙◌}
use mathlib.Core.Logic.{inl, inr, ⊎_elim}
use mathlib.Core.Bool.{Bool, true, false, cond, not, ◌&&◌}
use mathlib.Core.List.{List}
use Prim.Native.Nat.{ℕ, suc, ◌+◌, ◌≤◌, ◌<◌}
use native.Mathlib.Omega.{arith}
use lib.Dec.{leb}
use lib.ListN.{length, get_or}
use Rattle.sets.specs.States.{has_state}
use Rattle.sets.specs.Table.{put_half}
use Rattle.sets.proofs.Cases.{eq_or_ne, clash}
use Rattle.sets.proofs.Tests.{passed, is_true, and_iff, both, le_iff, either}
use Rattle.sets.proofs.StateSets.{has_empty}
use Rattle.sets.proofs.Tables.{length_put, half_same, half_apart, half_other}
use Rattle.files.specs.Field.{label_of, stopped_of}
use Rattle.files.specs.Part.{is_node}
use Rattle.files.specs.Limits.{part_words, work_bytes}
use Rattle.paths.specs.declared.automaton.Automaton.{Automaton}
use Rattle.expressions.specs.Expr.{Expr, count}
use Rattle.expressions.specs.Positions.{label_word}
use Rattle.expressions.specs.Labels.{between, holds}
use Rattle.paths.specs.Letters.{reads}
use Rattle.paths.specs.Automaton.{Automates}
use Rattle.slots.specs.Slots.{reached_base, pending_base, slots_base, places_base, node_at, edge_at, stopped_at, idle_at, exit_at, reached_of, pending_of, mask_of, Laid}
use Rattle.part_search.specs.Search.{Blank, Follow, Masked, Tables}
use Rattle.preparing.specs.Prepare.{Unmoved, Masking, Filled, AllFilled, Prepared}
use Rattle.slots.proofs.Storing.{laid_same}
use Rattle.slots.proofs.Places.{edge_no_node}
use Rattle.part_search.proofs.Seeding.{begun_blank}

-- ---- a position is filled

module _ (ws : List ℕ) (reading : ℕ → ℕ → Bool) (w : List ℕ) (x : ℕ) (small : x < part_words) (long : work_bytes ≤ length w) where
  abbrev stored : ℕ → List ℕ
  stored m = put_half (put_half w reached_base x 0) pending_base x m

  unmoved : (m : ℕ) → Unmoved w (stored m)
  unmoved m =
      record {
        long = length_put (put_half w reached_base x 0) pending_base x m ∙ length_put w reached_base x 0;
        slots = λ y l. half_apart (put_half w reached_base x 0) pending_base x m slots_base y (inr (omega arith)) ∙ half_apart w reached_base x 0 slots_base y (inr (omega arith));
        places = λ k. half_apart (put_half w reached_base x 0) pending_base x m places_base k (inr (omega arith)) ∙ half_apart w reached_base x 0 places_base k (inr (omega arith));
      }

  here : (m : ℕ) → (reached_of (stored m) x ≡ 0) × (pending_of (stored m) x ≡ m)
  here m = (
    half_apart (put_half w reached_base x 0) pending_base x m reached_base x (inl (omega arith)) ∙ half_same w reached_base x 0 (omega arith),
    half_same (put_half w reached_base x 0) pending_base x m (omega (arith, length_put w reached_base x 0)),
  )

  others : (m j : ℕ) → j < part_words → (j ≡ x → ⊥) → (reached_of (stored m) j ≡ reached_of w j) × (pending_of (stored m) j ≡ pending_of w j)
  others m j l d = (
    half_apart (put_half w reached_base x 0) pending_base x m reached_base j (inl (omega arith)) ∙ half_other w reached_base x 0 j d,
    half_other (put_half w reached_base x 0) pending_base x m j d ∙ half_apart w reached_base x 0 pending_base j (inr (omega arith)),
  )

  filled : (m : ℕ) → (exit_at ws x ≡ false → m ≡ 0) → (exit_at ws x ≡ true → (p : ℕ) → has_state m p ≡ reading (label_of (get_or ws x 0)) p)
      → Filled ws reading w (stored m) x
  filled m idle mask =
      record {
        unmoved = unmoved m;
        here = record { reached = (here m).0; idle = λ e. (here m).1 ∙ idle e; mask = λ e p. rw (here m).1 (mask e p) };
        others = others m;
      }

  -- an edge word that a walk may take, and any other word
  pub fill_edge : (m : ℕ) → exit_at ws x ≡ true → ((p : ℕ) → has_state m p ≡ reading (label_of (get_or ws x 0)) p) → Filled ws reading w (stored m) x
  fill_edge m e h = filled m (λ f. absurd (clash e f)) (λ t. h)

  pub fill_other : exit_at ws x ≡ false → Filled ws reading w (stored 0) x
  fill_other f = filled 0 (λ t. refl) (λ e. absurd (clash e f))

-- ---- a position after the other

-- whether the next position stands behind a stopped node: by the node word here, or as this one does
idle_next : (ws : List ℕ) (x : ℕ) → cond (node_at ws x) (stopped_at ws x) (idle_at ws x) ≡ idle_at ws (x + 1)
idle_next ws x = let e : suc x ≡ x + 1 = omega arith in ap (idle_at ws) e

pub idle_node : (ws : List ℕ) (x : ℕ) {w : ℕ} {b r : Bool} → w ≡ get_or ws x 0 → b ≡ is_node w → b ≡ true → r ≡ stopped_of w → r ≡ idle_at ws (x + 1)
unfolding node_at stopped_at
idle_node ws x e n t s = s ∙ rw (← e, sym n ∙ t) at (idle_next ws x)

pub idle_other : (ws : List ℕ) (x : ℕ) {w : ℕ} {b r : Bool} → w ≡ get_or ws x 0 → b ≡ is_node w → b ≡ false → r ≡ idle_at ws x → r ≡ idle_at ws (x + 1)
unfolding node_at
idle_other ws x e n f i = i ∙ rw (← e, sym n ∙ f) at (idle_next ws x)

pub record Filling (ws : List ℕ) (reading : ℕ → ℕ → Bool) (w w' : List ℕ) (x : ℕ) : Type 0 where
  pub unmoved : Unmoved w w'
  pub done : (y : ℕ) → y < x → Masking ws reading w' y

pub fill_more : {ws : List ℕ} {reading : ℕ → ℕ → Bool} {w w' w'' : List ℕ} {x : ℕ} → x < part_words → Filling ws reading w w' x → Filled ws reading w' w'' x → Filling ws reading w w'' (x + 1)
fill_more {ws} {reading} {w} {w'} {w''} {x} b f n =
    record {
      unmoved =
          record {
            long = n.unmoved.long ∙ f.unmoved.long;
            slots = λ y l. n.unmoved.slots y l ∙ f.unmoved.slots y l;
            places = λ k. n.unmoved.places k ∙ f.unmoved.places k;
          };
      done = λ y l.
          ⊎_elim (λ (e : y ≡ x). rw e n.here)
          (λ d.
          let (r, p) = n.others y (omega arith) d in
          let m = f.done y (omega arith) in
          record { reached = r ∙ m.reached; idle = λ e. p ∙ m.idle e; mask = λ e q. rw p (m.mask e q) })
          (eq_or_ne y x);
    }

pub fill_all : {ws : List ℕ} {reading : ℕ → ℕ → Bool} {w w' : List ℕ} {x : ℕ} → length ws ≤ x → Filling ws reading w w' x → AllFilled ws reading w w'
fill_all h f = record { unmoved = f.unmoved; all = λ y l. f.done y (omega arith) }

-- ---- the tables are ready

node_no_exit : (ws : List ℕ) (x : ℕ) → node_at ws x ≡ true → exit_at ws x ≡ false
node_no_exit ws x n = ⊎_elim (λ e. absurd (clash n (edge_no_node ws x e))) (λ e. rw e) (either (edge_at ws x))

-- the mask of an edge word, whether or not a walk may take it
edge_mask : (ws : List ℕ) (reading : ℕ → ℕ → Bool) (w : List ℕ) (x p : ℕ) → Masking ws reading w x → edge_at ws x ≡ true
    → has_state (mask_of w x) p ≡ (not (idle_at ws x) && reading (label_of (get_or ws x 0)) p)
edge_mask ws reading w x p m e = ⊎_elim
    (λ (i : idle_at ws x ≡ true). rw (i, m.idle (rw (e, i))) (has_empty p))
    (λ (i : idle_at ws x ≡ false). rw i (m.mask (rw (e, i)) p))
    (either (idle_at ws x))

pub prepared : (ws : List ℕ) (reading : ℕ → ℕ → Bool) (w w' : List ℕ) (c : ℕ) → Laid ws c w → AllFilled ws reading w w' → Prepared ws reading c w'
prepared ws reading w w' c laid₀ f =
    let blank : Blank ws w' = record { reached = λ j l. (f.all j l).reached; pending = λ j l n. (f.all j l).idle (node_no_exit ws j n) } in
    let laid = laid_same w' f.unmoved.long f.unmoved.slots (λ k l. f.unmoved.places k) laid₀ in
    record { begun = begun_blank ws c w' laid blank; blank = blank; masks = λ x p l e. edge_mask ws reading w' x p (f.all x l) e }

-- ---- an automaton's masks and its table, as its expression has them

pub masked : (ws : List ℕ) (a : Automaton) (e : Expr) (t : ℕ) (w : List ℕ) → Automates a e → Prepared ws (reads a.letters) t w → Masked ws e w
masked ws a e t w m r x p l h =
    let i : has_state (mask_of w x) p ≡ (not (idle_at ws x) && reads a.letters (label_of (get_or ws x 0)) p) = r.masks x p l h in
    let z : reads a.letters (label_of (get_or ws x 0)) p ≡ (between 1 (count e) p && holds (label_word e p) (label_of (get_or ws x 0))) =
    m.reading (label_of (get_or ws x 0)) p in (
      λ t.
          let (n, v) = (and_iff (not (idle_at ws x)) (reads a.letters (label_of (get_or ws x 0)) p)).0 (passed (sym i ∙ t)) in
          let (b, k) = (and_iff (between 1 (count e) p) (holds (label_word e p) (label_of (get_or ws x 0)))).0 (passed (sym z ∙ is_true _ v)) in
          let (lo, hi) = (and_iff (leb 1 p) (leb p (count e))).0 b in
          (⊎_elim (λ y. absurd (rw y at n)) (λ y. y) (either (idle_at ws x)), (le_iff 1 p).0 lo, (le_iff p (count e)).0 hi, k),
      λ (n, lo, hi, k).
          i ∙ rw n (z ∙ is_true (between 1 (count e) p && holds (label_word e p) (label_of (get_or ws x 0)))
          (both (between 1 (count e) p) (holds (label_word e p) (label_of (get_or ws x 0))) (both (leb 1 p) (leb p (count e)) ((le_iff 1 p).1 lo) ((le_iff p (count e)).1 hi)) k)),
    )

pub follows : (a : Automaton) (e : Expr) → Automates a e → Follow e a.follow
follows a e m = record { small = m.small; row = λ q p l. m.follows q p }

pub tables : (ws : List ℕ) (a : Automaton) (e : Expr) (t : ℕ) (w : List ℕ) → Automates a e → Prepared ws (reads a.letters) t w → Tables ws e t w
tables ws a e t w m r = record { laid = r.begun.laid; masked = masked ws a e t w m r }
