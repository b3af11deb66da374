-- The checker's code: a set of states steps along the walk's words, and what the calls leave. Assumes nothing.
use mathlib.Core.Path.{◌≡◌, refl, sym, ap, ◌∙◌}
use mathlib.Core.Logic.{◌⊎◌, inl, inr}
use mathlib.Core.Bool.{Bool, true, false, cond, ◌&&◌, or-false}
use mathlib.Core.List.{List, [], ◌∷◌}
use Prim.Native.Nat.{ℕ, zero, suc, ◌/◌}
use native.Mathlib.Omega.{arith}
use borrow.Author.Tests.{ne_eqb}
use lib.Dec.{eqb}
use lib.ListN.{length, get_or, drop}
use Rattle.sets.specs.Sets.{any, member}
use Rattle.sets.specs.States.{members, states_of}
use Rattle.sets.proofs.Tests.{either, passed, eq_iff, eqb_sym}
use Rattle.files.specs.Word.{words, bytes_of}
use Rattle.std.specs.Prelude.{Option, Some, None, Result, is_ok, Ok, Err}
use Rattle.files.specs.declared.word.Words.{Words}
use Rattle.files.specs.declared.refusal.Refusal.{Refusal}
use Rattle.files.specs.Refusal.{code, number}
use Rattle.files.specs.Read.{left_of}
use Rattle.files.specs.Field.{label_of, target_of}
use Rattle.files.specs.Refuse.{size_check}
use Rattle.files.specs.Outcome.{LeftLent, outcome, zeros, left, left_lent, leaves_lent}
use Rattle.files.specs.Part.{roots, front, edges, whole_check}
use Rattle.files.specs.Path.{path_check}
use Rattle.files.specs.Groups.{groups_check, loaded, our_groups}
use Rattle.files.specs.Limits.{shown_words, path_words, walk_words}
use Rattle.files.proofs.Checks.{checks, code_some}
use Rattle.files.proofs.Words.{words_length}
use Rattle.output.specs.Frame.{Check, input, also, Checked}
use Rattle.output.proofs.Frame as frame
use Rattle.expressions.specs.Expr.{Expr, count}
use Rattle.expressions.specs.Positions.{accepts, step}
use Rattle.expressions.specs.Labels.{holds, expr_of}
use Rattle.expressions.proofs.Loading.{Alike, ours_same}
use Rattle.paths.specs.declared.automaton.Automaton.{Automaton}
use Rattle.paths.specs.Automaton.{Automates}
use Rattle.file_walks.specs.Walks.{runs_in}
use Rattle.file_walks.specs.Moving.{moved}
use Rattle.file_walks.proofs.Moves.{start_bits}
use Rattle.walk_check.specs.Checker.{goes, check}
use Rattle.walk_check.specs.Check.{headed, says_yes, yes_of, check_walk_call, check_walk_grouped_call, leaves_checked, leaves_checked_grouped}
use Rattle.walk_check.specs.Plant.{Begins, Enters}

-- ---- along the walk

-- what the words of a walk do from x with the states s, of a whole's words
abbrev goes_in : List ℕ → Expr → ℕ → ℕ → List ℕ → List ℕ → Bool
goes_in ws e y x s vs = goes holds (runs_in (drop 1 ws)) (drop 1 ws) e y x s vs

-- from x, whose edge words are at the front of `at`, the words vs that are left do what all of them do from the root
pub record Going (a : Automaton) (ws : List ℕ) (y root : ℕ) (walk : List ℕ) (x s : ℕ) (at vs : List ℕ) : Type 0 where
  pub here : edges (drop 1 ws) x ≡ front at
  pub same : (e : Expr) → Automates a e
      → goes_in ws e y x (states_of s) vs ≡ (runs_in (drop 1 ws) root && goes_in ws e y root (0 ∷ []) (drop 1 (words walk)))

-- the root does not run
pub going_none : (ws : List ℕ) (y root : ℕ) (walk : List ℕ) {r : Option Words} → Begins ws root r → r ≡ None
    → (e : Expr) → false ≡ (runs_in (drop 1 ws) root && goes_in ws e y root (0 ∷ []) (drop 1 (words walk)))
going_none ws y root walk b n e = rw (← b.runs, n)

pub going_first : (a : Automaton) (ws : List ℕ) (y root : ℕ) (walk : List ℕ) {r : Option Words} (at : Words) {vs : List ℕ} → Begins ws root r → r ≡ Some at
    → vs ≡ drop 1 (words walk) → Going a ws y root walk root 1 (left_of at) vs
going_first a ws y root walk at b n l = record {
  here = rw n at b.edges;
  same = λ e m. rw (← b.runs, n, l, start_bits);
}

module _ {a : Automaton} {ws : List ℕ} {y root : ℕ} {walk : List ℕ} {x s : ℕ} {at vs : List ℕ} (f : Going a ws y root walk x s at vs) where
  module _ {w : ℕ} {us : List ℕ} {r : Option Words} (q : vs ≡ w ∷ us) (g : Enters ws at w r) where
    pub going_out : r ≡ None → (e : Expr) → Automates a e → false ≡ (runs_in (drop 1 ws) root && goes_in ws e y root (0 ∷ []) (drop 1 (words walk)))
    unfolding goes
    going_out n e m = let no = rw n at g.runs in let h = rw (q, f.here, ← no) at f.same e m in h

    pub going_more : (at' : Words) {l x' s' : ℕ} → r ≡ Some at' → l ≡ label_of w
        → ((e : Expr) → Automates a e → states_of s' ≡ moved holds e (states_of s) l) → x' ≡ target_of w → Going a ws y root walk x' s' (left_of at') us
    unfolding goes
    going_more at' n i j o = record {
      here = rw o (rw n at g.edges);
      same = λ e m. let yes = rw n at g.runs in rw (o, j e m, i) (rw (q, f.here, ← yes) at f.same e m);
    }

  pub going_last : {z : Bool} → vs ≡ [] → ((e : Expr) → Automates a e → z ≡ (eqb x y && any (accepts e) (states_of s)))
      → (e : Expr) → Automates a e → z ≡ (runs_in (drop 1 ws) root && goes_in ws e y root (0 ∷ []) (drop 1 (words walk)))
  unfolding goes
  going_last q g e m = g e m ∙ (rw q at f.same e m)

-- ---- the answer

ok_number : {T : Type 0} (r : Result T Refusal) → is_ok r ≡ eqb (number {T = T} r) 0
ok_number (Ok x) = refl
ok_number (Err e) = sym (ne_eqb (code e) 0 (code_some e))

pub laid : (s : List ℕ) {T : Type 0} (k : Result T Refusal) {b : Bool} {h : ℕ} → number k ≡ size_check walk_words s → b ≡ is_ok k → h ≡ get_or (words s) 0 0
    → (b && eqb (length s / 4) h) ≡ (eqb (size_check walk_words s) 0 && headed (words s))
laid s k e i g = rw (i, ok_number k, e, g, eqb_sym (length s / 4) (get_or (words s) 0 0)) (by (words s) (words_length s) (either (eqb (size_check walk_words s) 0)))
  where
    by : (ws : List ℕ) → length ws ≡ length s / 4 → (eqb (size_check walk_words s) 0 ≡ true) ⊎ (eqb (size_check walk_words s) 0 ≡ false)
        → (eqb (size_check walk_words s) 0 && eqb (get_or ws 0 0) (length s / 4)) ≡ (eqb (size_check walk_words s) 0 && headed ws)
    by ws l (inr t) = rw t
    by [] l (inl t) = absurd (let k = simp checks at ((eq_iff (size_check walk_words s) 0).0 (passed t)) in omega (arith, k.0.0, k.0.1))
    by (v ∷ ws) l (inl t) = ap (λ n. eqb (size_check walk_words s) 0 && eqb v n) (sym l)

-- the words are laid out and lead there
pub says : (a : Automaton) (whole path walk : List ℕ) (y root : ℕ) {b z : Bool} → roots (drop 1 whole) ≡ root ∷ []
    → b ≡ (eqb (size_check walk_words walk) 0 && headed (words walk)) → b ≡ true → Automates a (expr_of (drop 1 path))
    → ((e : Expr) → Automates a e → z ≡ (runs_in (drop 1 whole) root && goes_in whole e y root (0 ∷ []) (drop 1 (words walk)))) → z ≡ says_yes whole path y walk
unfolding says_yes check
says a whole path walk y root i e h m g = rw (i, ← e, h, or-false) (g (expr_of (drop 1 path)) m)

pub says_not : (whole path walk : List ℕ) (y : ℕ) {b : Bool} → b ≡ (eqb (size_check walk_words walk) 0 && headed (words walk)) → b ≡ false
    → false ≡ says_yes whole path y walk
unfolding says_yes
says_not whole path walk y e h = rw (← e, h)

-- ---- the call with groups

abbrev asked : List ℕ → List ℕ → List ℕ → List Check
asked whole groups path =
    input shown_words whole (whole_check (words whole)) ∷ also (groups_check groups) ∷ input path_words path (path_check (words path)) ∷ []

module _ (work : ℕ) (whole groups path : List ℕ) {n : ℕ} (c : Checked 0 0 work (asked whole groups path) n) where
  pub all_read : n ≡ 0 → (whole_check (words whole) ≡ 0) × (groups_check groups ≡ 0) × (path_check (words path) ≡ 0)
  all_read z = let r = (frame.passed z c refl refl).read in (r.0.read, r.1.0, r.1.1.0.read)

  module _ (walk : List ℕ) (y : ℕ) {l : ℕ} {w : List ℕ} (d : w ≡ zeros l) (q : l ≡ work) where
    pub call_refused : (n ≡ 0 → ⊥) → left_lent 0 (left n [] w) ≡ leaves_checked_grouped work whole groups path y walk
    unfolding check_walk_grouped_call
    call_refused h = rw (← c.is, d, q) (by n h)
      where
        by : (n : ℕ) → (n ≡ 0 → ⊥)
            → left_lent 0 (left n [] (zeros work)) ≡ leaves_lent (outcome n 0 []) 0 (yes_of (says_yes (words whole) (loaded (words groups) (words path)) y walk)) 0 work
        by zero h = absurd (h refl)
        by (suc n) h = refl

    pub call_said : {b : Bool} {v : ℕ} → n ≡ 0 → b ≡ says_yes (words whole) (loaded (words groups) (words path)) y walk → v ≡ cond b 1 0
        → left_lent v (left 0 [] w) ≡ leaves_checked_grouped work whole groups path y walk
    unfolding check_walk_grouped_call
    call_said z g i = rw (← c.is, d, q, z, ← g, i)

-- ---- without groups

-- expressions that run alike have the same walks
module _ (runs : ℕ → Bool) (body : List ℕ) {e e' : Expr} (h : Alike holds e e') (y : ℕ) where
  moved_same : (s : List ℕ) (a : ℕ) → moved holds e s a ≡ moved holds e' s a
  moved_same s a =
      ap (λ n. members (λ p. any (λ q. step holds e q a p) s) 0 (suc n)) h.counts
      ∙ ap (λ f. members (λ p. any (λ q. f q a p) s) 0 (suc (count e'))) h.steps

  goes_same : (x : ℕ) (s ws : List ℕ) → goes holds runs body e y x s ws ≡ goes holds runs body e' y x s ws
  unfolding goes
  goes_same x s [] = rw h.accepting
  goes_same x s (w ∷ ws) =
      ap (λ b. member w (edges body x) && runs (target_of w) && b)
      (goes_same (target_of w) (moved holds e s (label_of w)) ws ∙ ap (λ s. goes holds runs body e' y (target_of w) s ws) (moved_same s (label_of w)))

  check_same : (ws : List ℕ) → check holds runs body e y ws ≡ check holds runs body e' y ws
  unfolding check
  check_same ws = simp goes_same

pub ours_says : (whole path : List ℕ) (y : ℕ) (walk : List ℕ) → says_yes whole (loaded our_groups path) y walk ≡ says_yes whole path y walk
unfolding says_yes
ours_says whole path y walk =
    rw (check_same (runs_in (drop 1 whole)) (drop 1 whole) (ours_same path).alike y (drop 1 (words walk)))

-- Document 02: "With our eight words loaded every result is today's." For all bytes and all buffer lengths.
pub check_ours : (work : ℕ) (whole path : List ℕ) (y : ℕ) (walk : List ℕ)
    → leaves_checked_grouped work whole (bytes_of our_groups) path y walk ≡ leaves_checked work whole path y walk
unfolding check_walk_call check_walk_grouped_call
check_ours work whole path y walk =
    ap (λ b. leaves_lent (check_walk_call work whole path) 0 (yes_of b) 0 work) (ours_says (words whole) (words path) y walk)

-- for the call without groups: g is the value that it hands in
pub check_plain : (work : ℕ) (whole path : List ℕ) (y : ℕ) (walk : List ℕ) {g : List ℕ} {l : LeftLent} → g ≡ bytes_of our_groups
    → l ≡ leaves_checked_grouped work whole g path y walk → l ≡ leaves_checked work whole path y walk
check_plain work whole path y walk e h = h ∙ ap (λ g. leaves_checked_grouped work whole g path y walk) e ∙ check_ours work whole path y walk
