-- The answers that are written are those that the definitions ask for. Assumes nothing.
use mathlib.Core.Path.{◌≡◌, refl, sym, ◌∙◌, ap, subst}
use mathlib.Core.Logic.Iff
use mathlib.Core.Logic.{◌↔◌, inl, ⊎_elim}
use mathlib.Core.Bool.{true, false, not, ◌&&◌}
use mathlib.Core.List.Memᴰ
use mathlib.Core.List.{List, map, map-map}
use Prim.Native.Nat.{ℕ, ◌+◌, ◌^◌, ◌<◌}
use native.Mathlib.Omega.{arith}
use native.Mathlib.Nat.{zero-add}
use native.Mathlib.Numerals.{add-one}
use lib.Dec.{T, eqb}
use lib.Bits.{bit_and, and_le_r}
use lib.Count.{count_trailing_zeros}
use borrow.Author.Tests.{eq-eqb, ne_eqb}
use lib.ListN.{length, get_or, drop}
use Rattle.sets.specs.Sets.{Mem, Lists}
use Rattle.sets.proofs.Tests.{passed, is_true, either}
use Rattle.sets.proofs.Cases.{and_left, and_right, and_intro, not_elim, clash}
use Rattle.sets.specs.Reach.{Reach}
use Rattle.sets.specs.States.{has_state, members}
use Rattle.sets.proofs.Members.{members_in, in_members}
use Rattle.sets.proofs.Sets.{map_ascending, lists_unique}
use Rattle.sets.proofs.Filter.{map_append}
use Rattle.sets.proofs.StateSets.{has_and, has_empty, lowest_is}
use Rattle.files.specs.Field.{answer_word, pair}
use Rattle.files.specs.Part.{running}
use Rattle.files.proofs.Fields.{node_below}
use Rattle.files.proofs.Blocks.{running_iff}
use Rattle.output.specs.Writer.{Writes}
use Rattle.output.proofs.Writing.{Adding, adding_none, adding_more}
use Rattle.output.proofs.Ranges.{members_more}
use Rattle.output.proofs.Ranges.{members_ascending}
use Rattle.expressions.specs.Expr.{Expr}
use Rattle.expressions.specs.Positions.{accepts}
use Rattle.walks.specs.Product.{step_in, answers}
use Rattle.slots.specs.Slots.{node_at, stopped_at, number, reached_of, is_reached, Laid}
use Rattle.part_search.specs.Search.{Follow, Masked, Marks, Searched}
use Rattle.walks.proofs.Product.{accepts_small, answers_lists}
use Rattle.part_search.proofs.Seeding.{marks_sought}
use Rattle.slots.proofs.Places.{node_in, in_node, node_below as node-within, nodes_rise, nodes_same, rising, stopped_iff}
use Rattle.listing.specs.Listing.{lands, answer_here, answer_words}

-- a node's number has sixteen bits, whatever the word
pub number_below : (ws : List ℕ) (i : ℕ) → number ws i < 2 ^ 16
unfolding number
number_below ws i = node_below (get_or ws i 0)

pub number_small : (ws : List ℕ) (i : ℕ) {x : ℕ} → x ≡ number ws i → x < 65536
number_small ws i e = omega (arith, number_below ws i)

-- no answers yet, and those of one position more
pub answers_none : (limit : ℕ) (part w : List ℕ) (accepts : ℕ) (out : List ℕ) (start : ℕ) → Adding limit out start out start (answer_words part w accepts 0)
unfolding members
answers_none limit part w accepts out start = adding_none limit out start

pub answers_more : (part w : List ℕ) (accepts i : ℕ) {limit : ℕ} {out₀ : List ℕ} {start : ℕ} {out out' : List ℕ} {count r : ℕ}
    → Adding limit out₀ start out count (answer_words part w accepts i) → length out' ≡ length out
    → Writes limit (length out) out count out' r (answer_here part w accepts i) → Adding limit out₀ start out' r (answer_words part w accepts (i + 1))
answers_more part w accepts i p same f =
    rw (add-one, members_more (lands part w accepts) 0 i, zero-add i, map_append (λ j. answer_word (number part j)) (members (lands part w accepts) 0 i))
    (adding_more (answer_here part w accepts i) p same f)

pub answers_all : (part w : List ℕ) (accepts : ℕ) {limit : ℕ} {out₀ : List ℕ} {start : ℕ} {out : List ℕ} {count i : ℕ}
    → i ≡ length part → Adding limit out₀ start out count (answer_words part w accepts i)
    → Writes limit (length out₀) out₀ start out count (answer_words part w accepts (length part))
answers_all part w accepts e p = rw (← e) p.written

-- ---- what the words are

lands_running : (ws w : List ℕ) (a i : ℕ) → lands ws w a i ≡ true → (node_at ws i ≡ true) × (stopped_at ws i ≡ false)
unfolding lands
lands_running ws w a i e =
    let r = and_left (node_at ws i && not (stopped_at ws i)) (not (eqb (bit_and (reached_of w i) a) 0)) e in
    (and_left (node_at ws i) (not (stopped_at ws i)) r, not_elim (stopped_at ws i) (and_right (node_at ws i) (not (stopped_at ws i)) r))

lands_some : (ws w : List ℕ) (a i : ℕ) → node_at ws i ≡ true → stopped_at ws i ≡ false → lands ws w a i ≡ true ↔ (bit_and (reached_of w i) a ≡ 0 → ⊥)
unfolding lands
lands_some ws w a i n r = rw (n, r) (
  λ e k. clash (rw (eq-eqb (bit_and (reached_of w i) a) 0 k) at e) refl,
  λ k. rw (ne_eqb (bit_and (reached_of w i) a) 0 k),
)

-- After a search the words are those of the answers.
module _ (ws : List ℕ) (t : ℕ) (follow w w' : List ℕ) (s : Searched ws t follow w w') (laid : Laid ws t w)
    (e : Expr) (cs : List ℕ) (f : Follow e follow) (masked : Masked ws e w) (marks : Marks ws w cs)
    (accept : ℕ) (small : accept < 2 ^ 16) (are : (q : ℕ) → has_state accept q ≡ accepts e q) where
  abbrev Hit : ℕ → Type 0
  Hit x = (q : ℕ) × Reach (step_in (drop 1 ws) e) cs (pair x q) × T (accepts e q)

  -- a running node lands just if it is reached in an accepting state
  lands_iff : (i : ℕ) → node_at ws i ≡ true → stopped_at ws i ≡ false → lands ws w' accept i ≡ true ↔ Hit (number ws i)
  lands_iff i n r = (λ l. to ((lands_some ws w' accept i n r).0 l), λ h. (lands_some ws w' accept i n r).1 (from h))
    where
      both : ℕ
      both = bit_and (reached_of w' i) accept

      reach : (q : ℕ) → q < 16 → (is_reached w' i q ≡ true) ↔ Reach (step_in (drop 1 ws) e) cs (pair (number ws i) q)
      reach q = s.exact e cs f masked (marks_sought ws e w cs marks) i q (node-within ws i n, inl n)

      to : (both ≡ 0 → ⊥) → Hit (number ws i)
      to h =
          let (k, m, b) = lowest_is 16 both (omega (arith, h)) (omega (arith, and_le_r (reached_of w' i) accept)) in
          let q = count_trailing_zeros 16 both in
          let c = sym (has_and (reached_of w' i) accept q) ∙ m in
          (q, (reach q k).0 (and_left (is_reached w' i q) (has_state accept q) c), passed (sym (are q) ∙ and_right (is_reached w' i q) (has_state accept q) c))

      from : Hit (number ws i) → both ≡ 0 → ⊥
      from (q, r, t) z =
          let k : q < 16 = omega (arith, f.small, accepts_small e q t) in
          let c : has_state both q ≡ true = has_and (reached_of w' i) accept q ∙ and_intro (is_reached w' i q) (has_state accept q) ((reach q k).1 r) (are q ∙ is_true (accepts e q) t) in
          clash c (ap (λ x. has_state x q) z ∙ has_empty q)

  abbrev positions : List ℕ
  positions = members (lands ws w' accept) 0 (length ws)

  landed : (i : ℕ) → Mem i positions → lands ws w' accept i ≡ true
  landed i m = (in_members (lands ws w' accept) 0 (length ws) i m).2

  -- a node is running just if its word is not marked as stopped
  runs_iff : (i : ℕ) → node_at ws i ≡ true → Mem (number ws i) (running (drop 1 ws)) ↔ (stopped_at ws i ≡ false)
  runs_iff i n =
      let r = running_iff (drop 1 ws) (number ws i) in
      let s = stopped_iff ws laid.accepted i n in (
        λ m. ⊎_elim (λ b. absurd ((r.0 m).1 (s.1 b))) (λ b. b) (either (stopped_at ws i)),
        λ b. r.1 (rw (nodes_same ws laid.accepted) (node_in ws i n), λ k. clash (s.0 k) b),
      )

  listed : Lists (λ x. Mem x (running (drop 1 ws)) × Hit x) (map (number ws) positions)
  listed = record {
    ascending = map_ascending (number ws) positions
        (λ i j m k. nodes_rise ws i j (rising ws laid.accepted) (lands_running ws w' accept i (landed i m)).0 (lands_running ws w' accept j (landed j k)).0)
        (members_ascending (lands ws w' accept) 0 (length ws));
    sound = λ x m.
        let (i, k, q) = Memᴰ.of_map (number ws) positions m in
        let (n, r) = lands_running ws w' accept i (landed i k) in
        subst (λ y. Mem y (running (drop 1 ws)) × Hit y) q ((runs_iff i n).1 r, (lands_iff i n r).0 (landed i k));
    complete = λ x (m, h).
        let (i, n, q) = in_node ws x (rw (nodes_same ws laid.accepted) at ((running_iff (drop 1 ws) x).0 m).0) in
        let r = (runs_iff i n).0 (subst (λ y. Mem y (running (drop 1 ws))) (sym q) m) in
        subst (λ y. Mem y (map (number ws) positions)) q (Memᴰ.map (number ws)
        (members_in (lands ws w' accept) 0 (length ws) i (omega arith) (omega (arith, node-within ws i n)) ((lands_iff i n r).1 (subst Hit (sym q) h))));
  }

  marked_below : (c : ℕ) → Mem c cs → c < 2 ^ 20
  marked_below c m = let (j, l, n, q, r) = marks.complete c m in omega (arith, number_below ws j)

  pub answers_are : answer_words ws w' accept (length ws) ≡ map answer_word (answers (drop 1 ws) e cs)
  answers_are =
      sym (map-map answer_word (number ws) positions)
      ∙ ap (map answer_word) (lists_unique listed (answers_lists (drop 1 ws) e f.small cs marked_below (rw (nodes_same ws laid.accepted) (rising ws laid.accepted))) (λ x. Iff.rfl))
