-- The choice link by link, as the definition's `choose` has it. Assumes nothing.
use mathlib.Core.Path.{◌≡◌, refl, sym, ap, subst, ◌∙◌}
use mathlib.Core.Logic.{inl, inr, ⊎_elim}
use mathlib.Core.Bool.{Bool, true, false, not, ◌&&◌, and-false}
use mathlib.Core.List.{List, [], ◌∷◌, ◌++◌, append-nil, append_assoc}
use Prim.Native.Nat.{ℕ, zero, suc, ◌+◌, ◌-◌, ◌*◌, ◌^◌, ◌≤◌, ◌<◌}
use native.Mathlib.Numerals.{add-one}
use native.Mathlib.Nat.{le_refl}
use native.Mathlib.Omega.{arith}
use Rattle.std.specs.Prelude.{Some, None}
use lib.Bits.{bit_and}
use borrow.Author.Tests.{lt-ltb}
use lib.Dec.{eqb, ltb}
use lib.ListN.{length, get_or, drop, drop_of_length-le}
use lib.Seq.{drop-cons}
use Rattle.sets.specs.Sets.{Mem, here, there, any, filter}
use Rattle.sets.specs.States.{has_state, states_of}
use Rattle.sets.specs.Table.{half}
use Rattle.sets.specs.Follow.{Follows}
use Rattle.sets.proofs.Tests.{either, is_true}
use Rattle.sets.proofs.Sets.{filter_iff}
use Rattle.sets.proofs.Cases.{clash, and_left, lt_or_le, eq_or_ne}
use Rattle.sets.proofs.Members.{members_none, in_members, states_empty}
use Rattle.sets.proofs.StateSets.{has_and}
use Rattle.files.specs.Field.{label_of, target_of}
use Rattle.files.specs.Part.{front, edges, whole_check}
use Rattle.files.specs.Limits.{shown_words, walk_words}
use Rattle.files.proofs.Parts.{whole_part}
use Rattle.expressions.specs.Expr.{Expr}
use Rattle.expressions.specs.Labels.{holds}
use Rattle.paths.specs.declared.automaton.Automaton.{Automaton}
use Rattle.paths.specs.Automaton.{Automates}
use Rattle.slots.specs.Slots.{node_at, edge_at, stopped_at, number, Behind}
use Rattle.slots.proofs.Places.{edge_below, node_below}
use Rattle.walk_links.proofs.Running.{runs_at}
use Rattle.file_walks.specs.Walks.{runs_in}
use Rattle.file_walks.specs.Moving.{moved}
use Rattle.file_walks.proofs.Moves.{start_bits}
use Rattle.output.specs.Writer.{Writes}
use Rattle.output.proofs.Writing.{writes_none, writes_more}
use Rattle.best_walks.specs.Finder.{first, choose}
use Rattle.walk_steps.proofs.Advancing.{advances}
use Rattle.walk_rows.specs.Distances.{distance}
use Rattle.walk_rows.proofs.Cells.{meets}
use Rattle.walk_rows.proofs.Positions.{distance_row}
use Rattle.walk_links.specs.Tables.{target_at, mask_at, EdgeRow, Edged}
use Rattle.walk_choice.specs.Choices.{near, opening, FirstOpen}
use Rattle.walk_choice.proofs.Positions.{edges_here}

any_on : (p q : ℕ → Bool) (xs : List ℕ) → ((x : ℕ) → Mem x xs → p x ≡ q x) → any p xs ≡ any q xs
any_on p q [] h = refl
any_on p q (x ∷ xs) h = rw (h x (here refl), any_on p q xs (λ y m. h y (there m)))

-- ---- one edge word

-- its target has a row
pub opens_row : (ws : List ℕ) (a : Automaton) (w : List ℕ) (x : ℕ) {t : ℕ} → EdgeRow ws a w x → length ws ≤ shown_words → t ≡ half w 0 (16 * x + 0) → t < shown_words
opens_row ws a w x row few q =
    let z : 16 * x + 0 ≡ 16 * x = omega arith in
    let n = node_below ws (target_at w x) row.node in
    omega (arith, q ∙ ap (half w 0) z)

module _ (ws : List ℕ) (a : Automaton) (w : List ℕ) (x : ℕ) (ok : whole_check ws ≡ 0) (row : EdgeRow ws a w x) where
  -- where it leads, by position
  abbrev t : ℕ
  t = target_at w x

  pub leads_to : target_of (get_or ws x 0) ≡ number ws t
  unfolding number
  leads_to = sym row.target

  runs_is : runs_in (drop 1 ws) (target_of (get_or ws x 0)) ≡ not (stopped_at ws t)
  runs_is = ap (runs_in (drop 1 ws)) leads_to ∙ runs_at ws (whole_part ws ok) t row.node

  module _ (u : ℕ) (e : Expr) (h : Automates a e) (s : ℕ) (f : Follows a.follow s u) where
    -- where its target runs, the states that it takes s to
    moves : stopped_at ws t ≡ false → states_of (bit_and u (mask_at w x)) ≡ moved holds e (states_of s) (label_of (get_or ws x 0))
    moves n = advances a s (label_of (get_or ws x 0)) u (mask_at w x) f (λ p. row.mask p ∙ rw n) e h

    -- where it is stopped, none
    stays : stopped_at ws t ≡ true → states_of (bit_and u (mask_at w x)) ≡ []
    stays n = members_none (has_state (bit_and u (mask_at w x))) 0 16 (λ p l k. has_and u (mask_at w x) p ∙ rw (row.mask p, n, and-false))

    -- whether it opens, by its target's row
    module _ (v : ℕ) where
      opens_is : any (λ q. eqb (half w 0 (16 * t + q)) v) (states_of (bit_and u (mask_at w x))) ≡ opening ws w e (states_of s) v (get_or ws x 0)
      unfolding opening
      opens_is = elim (either (stopped_at ws t)) [
        | inl n ↦ rw (runs_is, n, stays n)
        | inr n ↦ rw (runs_is, n, ← moves n) (any_on
            (λ q. eqb (half w 0 (16 * t + q)) v)
            (λ q. eqb (distance ws w (target_of (get_or ws x 0)) q) v)
            (states_of (bit_and u (mask_at w x)))
            (λ q m. ap (λ d. eqb d v) (sym (distance_row ws (whole_part ws ok) w t q row.node (in_members (has_state (bit_and u (mask_at w x))) 0 16 q m).1)
            ∙ ap (λ y. distance ws w y q) (sym leads_to))))
      ]

      pub opens_none : (k : ℕ) → k ≡ mask_at w x → bit_and u k ≡ 0 → false ≡ opening ws w e (states_of s) v (get_or ws x 0)
      opens_none k q z =
          ap (any (λ q. eqb (half w 0 (16 * t + q)) v)) (sym (ap (λ k. states_of (bit_and u k)) (sym q) ∙ ap states_of z ∙ states_empty 16)) ∙ opens_is

      pub opens_some : (k j g : ℕ) {b : Bool} → k ≡ mask_at w x → j ≡ half w 0 (16 * x + 0) → g < 2 ^ 16
          → ((p : ℕ) → has_state g p ≡ (ltb p 16 && eqb (half w 0 (16 * j + p)) v))
          → b ≡ not (eqb (bit_and (bit_and u k) g) 0) → b ≡ opening ws w e (states_of s) v (get_or ws x 0)
      opens_some k j g q i small has is =
          let m = bit_and u k in
          let z : 16 * x + 0 ≡ 16 * x = omega arith in
          is ∙ meets m g small
          ∙ any_on (has_state g) (λ p. eqb (half w 0 (16 * j + p)) v) (states_of m) (λ p l. has p ∙ rw (lt-ltb p 16 (in_members (has_state m) 0 16 p l).1))
          ∙ rw (i, q, z) opens_is

      -- where it opens, its target runs, so that the states move
      pub opens_moves : opening ws w e (states_of s) v (get_or ws x 0) ≡ true → states_of (bit_and u (mask_at w x)) ≡ moved holds e (states_of s) (label_of (get_or ws x 0))
      unfolding opening
      opens_moves o = elim (either (stopped_at ws t)) [
        | inl n ↦ absurd (clash (and_left (runs_in (drop 1 ws) (target_of (get_or ws x 0))) _ o) (runs_is ∙ rw n))
        | inr n ↦ moves n
      ]

-- ---- the first that opens

-- the edge words between i and x do not open
pub record Passing (ws : List ℕ) (a : Automaton) (w : List ℕ) (u v i x : ℕ) : Type 0 where
  pub node : node_at ws i ≡ true
  pub after : i < x
  pub between : (k : ℕ) → i < k → k < x → edge_at ws k ≡ true
  pub same : (e : Expr) → Automates a e → (s : ℕ) → Follows a.follow s u
      → filter (opening ws w e (states_of s) v) (edges (drop 1 ws) (number ws i)) ≡ filter (opening ws w e (states_of s) v) (front (drop x ws))

pub passing_none : (ws : List ℕ) (a : Automaton) (w : List ℕ) (u v i : ℕ) → whole_check ws ≡ 0 → node_at ws i ≡ true → Passing ws a w u v i (i + 1)
passing_none ws a w u v i ok n = record {
  node = n;
  after = omega arith;
  between = λ k l h. absurd (omega arith);
  same = λ e h s f. rw add-one (ap (filter (opening ws w e (states_of s) v)) (edges_here ws (whole_part ws ok) i n));
}

front_edge : (ws : List ℕ) (x : ℕ) → edge_at ws x ≡ true → front (drop x ws) ≡ get_or ws x 0 ∷ front (drop (suc x) ws)
unfolding edge_at
front_edge ws x h = rw (drop-cons ws x 0 (edge_below ws x h), h)

pub front_end : (ws : List ℕ) (x : ℕ) → length ws ≤ x → front (drop x ws) ≡ []
front_end ws x l = rw (drop_of_length-le ws l)

pub front_other : (ws : List ℕ) (x : ℕ) → edge_at ws x ≡ false → front (drop x ws) ≡ []
unfolding edge_at
front_other ws x h = ⊎_elim (λ (l : x < length ws). rw (drop-cons ws x 0 l, h)) (λ l. front_end ws x l) (lt_or_le x (length ws))

module _ {ws : List ℕ} {a : Automaton} {w : List ℕ} {u v i x : ℕ} (g : Passing ws a w u v i x) where
  pub passing_last : front (drop x ws) ≡ [] → (e : Expr) → Automates a e → (s : ℕ) → Follows a.follow s u → FirstOpen ws w e (states_of s) v i None
  passing_last n e h s f = record {
    none = λ z. g.same e h s f ∙ ap (filter (opening ws w e (states_of s) v)) n;
    some = λ x z. cc;
  }

  module _ (b : edge_at ws x ≡ true) where
    pub passing_behind : Behind ws i x
    passing_behind = record {
      node = g.node;
      after = g.after;
      below = edge_below ws x b;
      edges = λ k l m. ⊎_elim (λ (z : k ≡ x). rw z b) (λ z. g.between k l (omega arith)) (eq_or_ne k x);
    }

    module _ {o : Bool} (q : (e : Expr) → Automates a e → (s : ℕ) → Follows a.follow s u → o ≡ opening ws w e (states_of s) v (get_or ws x 0)) where
      pub passing_found : o ≡ true → (e : Expr) → Automates a e → (s : ℕ) → Follows a.follow s u → FirstOpen ws w e (states_of s) v i (Some x)
      passing_found y e h s f = record {
        none = λ z. cc;
        some = λ x' z. let same : x ≡ x' = cc in rw (← same) (filter (opening ws w e (states_of s) v) (front (drop (suc x) ws)), g.same e h s f ∙ rw (front_edge ws x b, ← q e h s f, y));
      }

      pub passing_more : o ≡ false → Passing ws a w u v i (x + 1)
      passing_more n = record {
        node = g.node;
        after = omega (arith, g.after);
        between = λ k l m. passing_behind.edges k l (omega arith);
        same = λ e h s f. g.same e h s f ∙ rw (add-one, front_edge ws x b, ← q e h s f, n);
      }

-- ---- link by link

-- an edge word that was found
pub record Found (ws : List ℕ) (a : Automaton) (w : List ℕ) (x : ℕ) : Type 0 where
  pub below : x < length ws
  pub row : EdgeRow ws a w x

pub found_edge : {ws : List ℕ} {a : Automaton} {w : List ℕ} {i x : ℕ} → Edged ws a w → Behind ws i x → Found ws a w x
found_edge {x = x} edged b = record { below = b.below; row = edged x (b.edges x b.after (le_refl x)) }

module _ (ws w : List ℕ) (e : Expr) where
  abbrev chooses : ℕ → ℕ → List ℕ → List ℕ
  chooses d x s = choose holds (runs_in (drop 1 ws)) (drop 1 ws) e (near ws w) d x s

  chooses_zero : (x : ℕ) (s : List ℕ) → chooses 0 x s ≡ []
  unfolding choose
  chooses_zero x s = refl

  chooses_suc : (d x : ℕ) (s : List ℕ) → chooses (suc d) x s
      ≡ first (filter (opening ws w e s (suc d)) (edges (drop 1 ws) x)) (λ v. chooses d (target_of v) (moved holds e s (label_of v)))
  unfolding choose opening
  chooses_suc d x s = refl

  -- none opens
  chosen_none : (left i : ℕ) (s : List ℕ) → FirstOpen ws w e s left i None → chooses left (number ws i) s ≡ []
  chosen_none zero i s f = chooses_zero (number ws i) s
  chosen_none (suc d) i s f = chooses_suc d (number ws i) s ∙ ap (λ vs. first vs (λ v. chooses d (target_of v) (moved holds e s (label_of v)))) (f.none refl)

  -- the edge word at x is the first that opens
  chosen_more : (left i : ℕ) (s : List ℕ) (x : ℕ) → 0 < left → FirstOpen ws w e s left i (Some x) → chooses left (number ws i) s
      ≡ get_or ws x 0 ∷ chooses (left - 1) (target_of (get_or ws x 0)) (moved holds e s (label_of (get_or ws x 0)))
  chosen_more zero i s x l f = absurd (omega arith)
  chosen_more (suc d) i s x l f =
      let z : suc d - 1 ≡ d = omega arith in
      rw z (chooses_suc d (number ws i) s ∙ ap (λ vs. first vs (λ v. chooses d (target_of v) (moved holds e s (label_of v)))) (f.some x refl).1)

-- what is written so far and what is still to be chosen, from the node at i with the states of s, are all that is to be chosen
pub record Writing (ws w : List ℕ) (e : Expr) (root d : ℕ) (out₀ : List ℕ) (start : ℕ) (out : List ℕ) (n i s left : ℕ) : Type 0 where
  pub links : List ℕ
  pub whole : chooses ws w e d (number ws root) (0 ∷ []) ≡ links ++ chooses ws w e left (number ws i) (states_of s)
  pub written : Writes walk_words (length out₀) out₀ start out n links

pub record Writings (ws : List ℕ) (a : Automaton) (w : List ℕ) (root d : ℕ) (out₀ : List ℕ) (start : ℕ) (out : List ℕ) (n i s left : ℕ) : Type 0 where
  pub each : (e : Expr) → Automates a e → Writing ws w e root d out₀ start out n i s left
  pub node : node_at ws i ≡ true
  pub same : length out ≡ length out₀

pub writing_none : (ws : List ℕ) (a : Automaton) (w : List ℕ) (root d : ℕ) (out : List ℕ) (start : ℕ) → node_at ws root ≡ true
    → Writings ws a w root d out start out start root 1 d
writing_none ws a w root d out start n = record {
  each = λ e h. record {
    links = [];
    whole = ap (chooses ws w e d (number ws root)) (sym start_bits);
    written = writes_none walk_words (length out) out start;
  };
  node = n;
  same = refl;
}

module _ {ws : List ℕ} {a : Automaton} {w : List ℕ} {root d : ℕ} {out₀ : List ℕ} {start : ℕ} {out : List ℕ} {n i s left : ℕ}
    (g : Writings ws a w root d out₀ start out n i s left) where
  all_of : (e : Expr) (h : Automates a e) → chooses ws w e left (number ws i) (states_of s) ≡ []
      → Writes walk_words (length out₀) out₀ start out n (chooses ws w e d (number ws root) (0 ∷ []))
  all_of e h z =
      let r = g.each e h in
      subst (Writes walk_words (length out₀) out₀ start out n) (sym (append-nil r.links) ∙ ap (r.links ++◌) (sym z) ∙ sym r.whole) r.written

  pub writing_last : left ≤ 0 → (e : Expr) → Automates a e → Writes walk_words (length out₀) out₀ start out n (chooses ws w e d (number ws root) (0 ∷ []))
  writing_last l e h = let z : left ≡ 0 = omega arith in all_of e h (rw z (chooses_zero ws w e (number ws i) (states_of s)))

  module _ (u : ℕ) (f : Follows a.follow s u) where
    pub writing_stop : ((e : Expr) → Automates a e → (s : ℕ) → Follows a.follow s u → FirstOpen ws w e (states_of s) left i None) → (e : Expr) → Automates a e → Writes walk_words (length out₀) out₀ start out n (chooses ws w e d (number ws root) (0 ∷ []))
    writing_stop p e h = all_of e h (chosen_none ws w e left i (states_of s) (p e h s f))

    module _ {x : ℕ} (p : (e : Expr) → Automates a e → (s : ℕ) → Follows a.follow s u → FirstOpen ws w e (states_of s) left i (Some x)) (ok : whole_check ws ≡ 0) (there : Found ws a w x) where
      -- the set of states moves as a whole
      pub states_move : (k : ℕ) → k ≡ mask_at w x → (e : Expr) → Automates a e → states_of (bit_and u k) ≡ moved holds e (states_of s) (label_of (get_or ws x 0))
      states_move k j e h =
          let test = opening ws w e (states_of s) left in
          let (rest, q) = (p e h s f).some x refl in
          ap (λ k. states_of (bit_and u k)) j ∙ opens_moves ws a w x ok there.row u e h s f left
          (is_true (test (get_or ws x 0)) ((filter_iff test (get_or ws x 0) (edges (drop 1 ws) (number ws i))).0 (subst (Mem (get_or ws x 0)) (sym q) (here refl))).1)

      pub writing_more : {out' : List ℕ} {n' : ℕ} (s' : ℕ) {i' : ℕ} → 0 < left → Writes walk_words (length out) out n out' n' (get_or ws x 0 ∷ []) → length out' ≡ length out
          → ((e : Expr) → Automates a e → states_of s' ≡ moved holds e (states_of s) (label_of (get_or ws x 0))) → i' ≡ half w 0 (16 * x + 0)
          → Writings ws a w root d out₀ start out' n' i' s' (left - 1)
      writing_more {out'} {n'} s' {i'} pos wr len st r = record {
        each = λ e h.
            let r = g.each e h in
            let v = get_or ws x 0 in
            record {
              links = r.links ++ v ∷ [];
              whole = r.whole ∙ ap (r.links ++◌) (chosen_more ws w e left i (states_of s) x pos (p e h s f))
                  ∙ sym (append_assoc r.links (v ∷ []) (chooses ws w e (left - 1) (target_of v) (moved holds e (states_of s) (label_of v))))
                  ∙ ap (λ y. (r.links ++ v ∷ []) ++ chooses ws w e (left - 1) y (moved holds e (states_of s) (label_of v))) (leads_to ws a w x ok there.row ∙ ap (number ws) (sym q))
                  ∙ ap (λ y. (r.links ++ v ∷ []) ++ chooses ws w e (left - 1) (number ws i') y) (sym (st e h));
              written = writes_more r.links (v ∷ []) r.written (subst (λ m. Writes walk_words m out n out' n' (v ∷ [])) g.same wr);
            };
        node = subst (λ i. node_at ws i ≡ true) (sym q) there.row.node;
        same = len ∙ g.same;
      }
        where
          q : i' ≡ target_at w x
          q = let z : 16 * x + 0 ≡ 16 * x = omega arith in r ∙ ap (half w 0) z
