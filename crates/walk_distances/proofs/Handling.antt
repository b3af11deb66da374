-- One edge word of a round is the theory's `turning_edge`: what steps by it onto the number before gets the next. Assumes nothing.
use mathlib.Core.Path.{◌≡◌, refl, sym, ap, subst, ◌∙◌}
use mathlib.Core.Logic.{◌⊎◌, inl, inr, ⊎_elim}
use mathlib.Core.Bool.{Bool, true, false, cond, not, ◌&&◌, ◌||◌}
use mathlib.Core.List.{List, [], ◌∷◌}
use Prim.Native.Nat.{ℕ, zero, suc, ◌+◌, ◌*◌, ◌≤◌, ◌<◌}
use native.Mathlib.Nat.{le_refl}
use native.Mathlib.Omega.{arith}
use borrow.Author.Tests.{eq-eqb, eqb-true, lt-ltb, ltb-true}
use lib.Dec.{T, eqb, ltb}
use lib.ListN.{length, get_or, drop}
use Rattle.sets.specs.Sets.{any}
use Rattle.sets.specs.States.{has_state, states_of}
use Rattle.sets.specs.Table.{half}
use Rattle.sets.proofs.Tests.{either, is_true, passed, and_iff, le_iff}
use Rattle.sets.proofs.Cases.{clash, and_left, and_right, and_intro, or_elim, eq_or_ne, lt_or_le, not_known}
use Rattle.sets.proofs.Filter.{any_iff}
use Rattle.sets.proofs.Members.{members_in, in_members}
use Rattle.sets.proofs.StateSets.{has_empty}
use Rattle.files.specs.Field.{label_of, target_of}
use Rattle.files.specs.Part.{is_node, is_edge, part_check, scan, start, word_check, next}
use Rattle.files.specs.declared.part.PartSeen.{PartSeen}
use Rattle.files.proofs.Checks.{then_iff}
use Rattle.files.proofs.Parts.{part_read, edge_iff}
use Rattle.expressions.specs.Expr.{Expr, count}
use Rattle.expressions.specs.Positions.{step, next as nextState}
use Rattle.expressions.specs.Labels.{between, holds}
use Rattle.expressions.proofs.Ranges.{next_range, step_range}
use Rattle.paths.specs.declared.automaton.Automaton.{Automaton}
use Rattle.paths.specs.Letters.{reads}
use Rattle.paths.specs.Automaton.{Automates}
use Rattle.slots.specs.Slots.{node_at, edge_at, stopped_at, number, Behind}
use Rattle.slots.specs.Layout.{Owner}
use Rattle.slots.proofs.Places.{behind_iff, edge_below, edge_no_node}
use Rattle.walk_links.proofs.Running.{runs_at}
use Rattle.file_walks.specs.Walks.{runs_in}
use Rattle.file_walks.proofs.Leading.{step_from}
use Rattle.best_walks.proofs.Rounds.{Turning, Handles, turning_edge}
use Rattle.walk_rows.specs.Distances.{distance, Hit}
use Rattle.walk_rows.proofs.Positions.{distance_row, distance_high, distance_some, distance_rest}
use Rattle.walk_links.specs.Tables.{target_at, mask_at, EdgeRow}
use Rattle.walk_distances.specs.Rounds.{Handled, Turns}

-- ---- any rounds

-- less is handled
pub weaker : (runs : ℕ → Bool) (body : List ℕ) (e : Expr) (y k : ℕ) (table mid : ℕ → ℕ → ℕ) (H H' : ℕ → ℕ → Type 0) → Turning holds runs body e y k table mid H
    → ((x w : ℕ) → H' x w → H x w) → Turning holds runs body e y k table mid H'
weaker runs body e y k table mid H H' t h = record { kept = t.kept; made = t.made; all = λ x q i o g. t.all x q i o (h x o.word g) }

-- by positions
pub handled_weaker : (ws : List ℕ) (done done' : ℕ → Bool) → ((z : ℕ) → edge_at ws z ≡ true → done' z ≡ true → done z ≡ true)
    → (x w : ℕ) → Handled ws done' x w → Handled ws done x w
handled_weaker ws done done' h x w (b, i, d, n, s, t) = (b, i, d, n, s, h i (d.edges i d.after (le_refl i)) t)

pub turns_weaker : (ws : List ℕ) (a : Automaton) (v : ℕ) (w w' : List ℕ) (done mid done' : ℕ → Bool)
    → ((z : ℕ) → edge_at ws z ≡ true → done' z ≡ true → mid z ≡ true) → Turns ws a v w w' done mid → Turns ws a v w w' done done'
turns_weaker ws a v w w' done mid done' h t e g y k table is s =
    weaker (runs_in (drop 1 ws)) (drop 1 ws) e y k table (distance ws w') (Handled ws mid) (Handled ws done') (t e g y k table is s) (handled_weaker ws mid done' h)

-- ---- words by position

words_kind : (st : PartSeen) (ws : List ℕ) (k : ℕ) → scan st ws ≡ 0 → k < length ws → is_node (get_or ws k 0) ≡ false → is_edge (get_or ws k 0) ≡ true
words_kind st [] k s l n = absurd (omega arith)
words_kind st (w ∷ ws) zero s l n = ((edge_iff st w n).0 ((then_iff (word_check st w) _).0 s).0).edge
words_kind st (w ∷ ws) (suc k) s l n = words_kind (next st w) ws k ((then_iff (word_check st w) _).0 s).1 (omega arith) n

-- what is no node word behind the header is an edge word
other_edge : (ws : List ℕ) → part_check ws ≡ 0 → (k : ℕ) → 0 < k → k < length ws → node_at ws k ≡ false → edge_at ws k ≡ true
unfolding node_at edge_at
other_edge [] c k p l n = absurd (omega arith)
other_edge (h ∷ ws) c zero p l n = absurd (omega arith)
other_edge (h ∷ ws) c (suc k) p l n = words_kind start ws k (part_read (h ∷ ws) c).words (omega arith) n

module _ (ws : List ℕ) (c : part_check ws ≡ 0) where
  -- an edge word stands behind its owner
  pub owner_behind : (o x : ℕ) → Owner ws o x → edge_at ws x ≡ true → Behind ws o x
  owner_behind o x w t = record {
    node = w.node;
    after = ⊎_elim (λ (z : o ≡ x). absurd (clash w.node (subst (λ i. node_at ws i ≡ false) (sym z) (edge_no_node ws x t))))
        (λ z. omega (arith, w.before, z)) (eq_or_ne o x);
    below = edge_below ws x t;
    edges = λ k l m. other_edge ws c k (omega arith) (omega (arith, edge_below ws x t)) (w.last k l m);
  }

  -- and behind no other
  behind_one : (b o x : ℕ) → Behind ws b x → Behind ws o x → b ≡ o
  behind_one b o x h w = ⊎_elim
      (λ (l : b < o). absurd (clash w.node (edge_no_node ws o (h.edges o l (omega (arith, w.after))))))
      (λ (l : o ≤ b). ⊎_elim (λ z. sym z) (λ z. absurd (clash h.node (edge_no_node ws b (w.edges b (omega (arith, z)) (omega (arith, h.after)))))) (eq_or_ne o b))
      (lt_or_le b o)

-- ---- one edge word

step_reads : (a : Automaton) (e : Expr) → Automates a e → (q label p : ℕ) → step holds e q label p ≡ (has_state (get_or a.follow q 0) p && reads a.letters label p)
step_reads a e h q label p = rw (h.follows q p, h.reading label p) (elim (either (nextState e q p)) [ inl t ↦ rw (t, within t) | inr f ↦ rw f ])
  where
    within : nextState e q p ≡ true → between 1 (count e) p ≡ true
    within t = let r = next_range e q p (passed t) in is_true _ (simp (and_iff, le_iff) (r.0, r.1))

-- at x, behind the node word at b: f has the states of its target with the number before v, g those of f that it enters, s what these may follow
module _ (ws : List ℕ) (c : part_check ws ≡ 0) (a : Automaton) (x b v f g s : ℕ) (w w' : List ℕ) (behind : Behind ws b x) (row : EdgeRow ws a w x)
    (known : (p : ℕ) → has_state f p ≡ (ltb p 16 && eqb (suc (half w 0 (16 * target_at w x + p))) v))
    (both : (p : ℕ) → has_state g p ≡ (has_state (mask_at w x) p && has_state f p))
    (comes : (p : ℕ) → has_state s p ≡ (ltb p 16 && any (has_state g) (states_of (get_or a.follow p 0))))
    (r : Hit (has_state s) b 16 v w w') where
  abbrev wd : ℕ
  wd = get_or ws x 0

  abbrev n : ℕ
  n = number ws b

  module _ (e : Expr) (h : Automates a e) (y k : ℕ) (is : v ≡ suc (suc k)) where
    -- the target is that of the row
    into : target_of wd ≡ number ws (target_at w x)
    unfolding number
    into = sym row.target

    runs : runs_in (drop 1 ws) (target_of wd) ≡ not (stopped_at ws (target_at w x))
    runs = rw into (runs_at ws c (target_at w x) row.node)

    -- g has the states that it enters onto the number before v
    abbrev Entered : ℕ → Type 0
    Entered p = T (runs_in (drop 1 ws) (target_of wd)) × (reads a.letters (label_of wd) p ≡ true) × (distance ws w (target_of wd) p ≡ suc k)

    entered : (p : ℕ) → has_state g p ≡ true → Entered p
    entered p t =
        let m = sym (row.mask p) ∙ and_left (has_state (mask_at w x) p) (has_state f p) (sym (both p) ∙ t) in
        let k = sym (known p) ∙ and_right (has_state (mask_at w x) p) (has_state f p) (sym (both p) ∙ t) in
        let l = ltb-true p 16 (and_left (ltb p 16) (eqb (suc (half w 0 (16 * target_at w x + p))) v) k) in
        let i = eqb-true (suc (half w 0 (16 * target_at w x + p))) v (and_right (ltb p 16) (eqb (suc (half w 0 (16 * target_at w x + p))) v) k) in (
          passed (runs ∙ and_left (not (stopped_at ws (target_at w x))) (reads a.letters (label_of wd) p) m),
          and_right (not (stopped_at ws (target_at w x))) (reads a.letters (label_of wd) p) m,
          rw into (distance_row ws c w (target_at w x) p row.node l ∙ omega (arith, i, is)),
        )

    enters : (p : ℕ) → Entered p → has_state g p ≡ true
    enters p (t, i, d) =
        let d' : distance ws w (number ws (target_at w x)) p ≡ suc k = rw into at d in
        let l = (distance_some ws c w (number ws (target_at w x)) p k d').0 in
        let z : suc (half w 0 (16 * target_at w x + p)) ≡ v = ap suc (sym (distance_row ws c w (target_at w x) p row.node l) ∙ d') ∙ sym is in
        both p ∙ and_intro _ _ (row.mask p ∙ and_intro _ _ (sym runs ∙ is_true _ t) i) (known p ∙ and_intro _ _ (lt-ltb p 16 l) (eq-eqb _ v z))

    abbrev Made : ℕ → Type 0
    Made q = (p : ℕ) × T (runs_in (drop 1 ws) (target_of wd)) × T (step holds e q (label_of wd) p) × (distance ws w (target_of wd) p ≡ suc k)

    hit_made : (q : ℕ) → has_state s q ≡ true → Made q
    hit_made q t =
        let j = and_right (ltb q 16) (any (has_state g) (states_of (get_or a.follow q 0))) (sym (comes q) ∙ t) in
        let (p, m, i) = (any_iff (has_state g) (states_of (get_or a.follow q 0))).0 (passed j) in
        let (u, l, d) = entered p (is_true (has_state g p) i) in
        (p, u, passed (step_reads a e h q (label_of wd) p ∙ and_intro _ _ (in_members (has_state (get_or a.follow q 0)) 0 16 p m).2 l), d)

    made_hit : (q : ℕ) → q < 16 → Made q → has_state s q ≡ true
    made_hit q l (p, u, t, d) =
        let j = sym (step_reads a e h q (label_of wd) p) ∙ is_true (step holds e q (label_of wd) p) t in
        let fl = and_left (has_state (get_or a.follow q 0) p) (reads a.letters (label_of wd) p) j in
        let rd = and_right (has_state (get_or a.follow q 0) p) (reads a.letters (label_of wd) p) j in
        comes q ∙ and_intro _ _ (lt-ltb q 16 l) (is_true _ ((any_iff (has_state g) (states_of (get_or a.follow q 0))).1 (
          p,
          members_in (has_state (get_or a.follow q 0)) 0 16 p (omega arith) (omega (arith, (step_range holds e q (label_of wd) p t).1, h.small)) fl,
          passed (enters p (u, rd, d)),
        )))

    hit_at : (q : ℕ) → q < 16 → distance ws w' n q ≡ cond (has_state s q && eqb (distance ws w n q) 0) v (distance ws w n q)
    hit_at q l = rw (distance_row ws c w' b q behind.node l, distance_row ws c w b q behind.node l) (r.row q l)

    abbrev Only : ℕ → ℕ → Type 0
    Only z q = (distance ws w' z q ≡ distance ws w z q) ⊎ ((z ≡ n) × (distance ws w z q ≡ 0) × (distance ws w' z q ≡ suc (suc k)) × Made q)

    row_only : (q : ℕ) → q < 16 → Only n q
    row_only q l = elim (either (has_state s q && eqb (distance ws w n q) 0)) [
      | inl t ↦ inr (
        refl,
        eqb-true (distance ws w n q) 0 (and_right (has_state s q) (eqb (distance ws w n q) 0) t),
        hit_at q l ∙ ap (λ b. cond b v (distance ws w n q)) t ∙ is,
        hit_made q (and_left (has_state s q) (eqb (distance ws w n q) 0) t),
      )
      | inr t ↦ inl (hit_at q l ∙ ap (λ b. cond b v (distance ws w n q)) t)
    ]

    handled : Handles holds (runs_in (drop 1 ws)) (drop 1 ws) e y k n wd (distance ws w) (distance ws w')
    handled = record {
      only = λ z q. ⊎_elim
          (λ (i : z ≡ n). ⊎_elim
          (λ (l : q < 16). subst (λ z. Only z q) (sym i) (row_only q l))
          (λ (l : 16 ≤ q). inl (distance_high ws c w' z q l ∙ sym (distance_high ws c w z q l)))
          (lt_or_le q 16))
          (λ d. inl (distance_rest ws c r behind.node z q d))
          (eq_or_ne z n);
      every = λ q p z u t d.
          let l : q < 16 = omega (arith, step_from holds e q (label_of wd) p t, h.small) in
          hit_at q l ∙ rw (made_hit q l (p, u, t, d), eq-eqb (distance ws w n q) 0 z) is;
    }

  pub edge_turns : (done : ℕ → Bool) → Turns ws a v w w' done (λ z. done z || eqb z x)
  edge_turns done e h y k table is t =
      weaker (runs_in (drop 1 ws)) (drop 1 ws) e y k table (distance ws w') (λ z u. Handled ws done z u ⊎ ((z ≡ n) × (u ≡ wd))) (Handled ws (λ z. done z || eqb z x))
      (turning_edge holds (runs_in (drop 1 ws)) (drop 1 ws) e y k n wd table (distance ws w) (distance ws w') (Handled ws done)
      ((behind_iff ws c b wd behind.node).1 (x, behind, refl)) t (handled e h y k is))
      (λ z u (d, i, m, j, q, o). ⊎_elim
      (λ o. inl (d, i, m, j, q, o))
      (λ o.
      let same = eqb-true i x o in
      inr (sym j ∙ ap (number ws) (behind_one ws c d b x (subst (Behind ws d) same m) behind), sym q ∙ ap (λ i. get_or ws i 0) same))
      (or_elim (done i) (eqb i x) o))

-- nothing is entered, and nothing changes
pub edge_turns_none : (ws : List ℕ) (c : part_check ws ≡ 0) (a : Automaton) (x b v f g : ℕ) (w : List ℕ) → Behind ws b x → EdgeRow ws a w x
    → ((p : ℕ) → has_state f p ≡ (ltb p 16 && eqb (suc (half w 0 (16 * target_at w x + p))) v))
    → ((p : ℕ) → has_state g p ≡ (has_state (mask_at w x) p && has_state f p)) → g ≡ 0
    → (done : ℕ → Bool) → Turns ws a v w w done (λ z. done z || eqb z x)
edge_turns_none ws c a x b v f g w behind row known both none =
    edge_turns ws c a x b v f g 0 w w behind row known both (λ p. has_empty p ∙ sym (missed p)) (record {
      row = λ p l. rw (has_empty p);
      rest = λ m o. refl;
      same = refl;
    })
  where
    missed : (p : ℕ) → (ltb p 16 && any (has_state g) (states_of (get_or a.follow p 0))) ≡ false
    missed p = not_known (λ t.
        let (q, m, i) = (any_iff (has_state g) (states_of (get_or a.follow p 0))).0 (passed (and_right (ltb p 16) _ t)) in
        clash (ap (λ g. has_state g q) (sym none) ∙ is_true (has_state g q) i) (has_empty q))
