-- The code's automaton steps a set of states as the definition does, and accepts where the definition does. Assumes nothing.
use mathlib.Core.Path.{◌≡◌, sym, ap, ◌∙◌}
use mathlib.Core.Logic.{◌↔◌}
use mathlib.Core.Bool.{true, not}
use Prim.Native.Nat.{ℕ, ◌^◌, ◌<◌}
use native.Mathlib.Omega.{arith}
use lib.Bits.{bit_and, and_le_r}
use lib.Count.{count_trailing_zeros}
use lib.Dec.{T, eqb, leb}
use Rattle.sets.specs.Sets.{any}
use Rattle.sets.specs.States.{has_state, states_of}
use Rattle.sets.specs.Follow.{Follows}
use Rattle.sets.proofs.Tests.{is_true, passed, same_test, eq_iff, not_iff, le_iff, both}
use Rattle.sets.proofs.Cases.{clash, and_left, and_right, and_intro}
use Rattle.sets.proofs.Filter.{any_iff}
use Rattle.sets.proofs.Members.{members_in, in_members}
use Rattle.sets.proofs.StateSets.{has_and, has_empty, lowest_is}
use Rattle.expressions.specs.Expr.{Expr, count}
use Rattle.expressions.specs.Positions.{next, accepts, label_word, step}
use Rattle.expressions.specs.Labels.{between, holds}
use Rattle.expressions.proofs.Ranges.{next_range}
use Rattle.paths.specs.declared.automaton.Automaton.{Automaton}
use Rattle.paths.specs.Letters.{reads}
use Rattle.paths.specs.Automaton.{Automates}
use Rattle.file_walks.specs.Moving.{moved}
use Rattle.file_walks.proofs.Moves.{moved_bits}

module _ (a : Automaton) (s label u m : ℕ) (f : Follows a.follow s u) (k : (p : ℕ) → has_state m p ≡ reads a.letters label p) (e : Expr) (h : Automates a e) where
  -- what may follow a state of s, and reads the label
  bits_move : (p : ℕ) → (has_state (bit_and u m) p ≡ true) ↔ ((q : ℕ) × (has_state s q ≡ true) × (step holds e q label p ≡ true))
  bits_move p = (
    λ t.
        let t = sym (has_and u m p) ∙ t in
        let (q, i, j) = (f p).0 (and_left (has_state u p) (has_state m p) t) in
        let r = sym (h.reading label p) ∙ sym (k p) ∙ and_right (has_state u p) (has_state m p) t in
        (q, i, and_intro (next e q p) (holds (label_word e p) label) (sym (h.follows q p) ∙ j) (and_right (between 1 (count e) p) (holds (label_word e p) label) r)),
    λ (q, i, t).
        let n = and_left (next e q p) (holds (label_word e p) label) t in
        let w = next_range e q p (passed n) in
        let b = is_true (between 1 (count e) p) (both (leb 1 p) (leb p (count e)) ((le_iff 1 p).1 w.0) ((le_iff p (count e)).1 w.1)) in
        has_and u m p ∙ and_intro (has_state u p) (has_state m p) ((f p).1 (q, i, h.follows q p ∙ n))
        (k p ∙ h.reading label p ∙ and_intro (between 1 (count e) p) (holds (label_word e p) label) b (and_right (next e q p) (holds (label_word e p) label) t)),
  )

  -- u has what may follow a state of s, m what reads the label
  pub advances : states_of (bit_and u m) ≡ moved holds e (states_of s) label
  advances = moved_bits holds e h.small s (bit_and u m) label bits_move

pub accepts_some : (a : Automaton) (s : ℕ) → a.accepts < 2 ^ 16 → (e : Expr) → Automates a e → not (eqb (bit_and s a.accepts) 0) ≡ any (accepts e) (states_of s)
accepts_some a s small e m = same_test down up
  where
    r : ℕ
    r = bit_and s a.accepts

    positive : (r : ℕ) → (r ≡ 0 → ⊥) → 0 < r
    positive r n = omega arith

    down : T (not (eqb r 0)) → T (any (accepts e) (states_of s))
    down t =
        let q = count_trailing_zeros 16 r in
        let (l, i, _) = lowest_is 16 r (positive r (λ i. (not_iff (eqb r 0)).0 t ((eq_iff r 0).1 i))) (omega (arith, and_le_r s a.accepts)) in
        let g = sym (has_and s a.accepts q) ∙ i in
        (any_iff (accepts e) (states_of s)).1 (
          q,
          members_in (has_state s) 0 16 q (omega arith) l (and_left (has_state s q) (has_state a.accepts q) g),
          passed (sym (m.accepting q) ∙ and_right (has_state s q) (has_state a.accepts q) g),
        )

    up : T (any (accepts e) (states_of s)) → T (not (eqb r 0))
    up t =
        let (q, i, j) = (any_iff (accepts e) (states_of s)).0 t in
        let g : has_state r q ≡ true = has_and s a.accepts q ∙ and_intro _ _ (in_members (has_state s) 0 16 q i).2 (m.accepting q ∙ is_true (accepts e q) j) in
        (not_iff (eqb r 0)).1 (λ z. clash (ap (λ r. has_state r q) (sym ((eq_iff r 0).0 z)) ∙ g) (has_empty q))
