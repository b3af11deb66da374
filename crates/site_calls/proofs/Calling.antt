-- The called pairs in the code: the calls by position beside the nodes by position, the check of their doors, and the seeds. Assumes nothing.
use mathlib.Core.Path.{◌≡◌, refl, sym, ◌∙◌, ap, subst}
use mathlib.Core.Logic.{◌↔◌, ⊎_elim}
use mathlib.Core.Bool.{Bool, true, false, not}
use mathlib.Core.List.{List, [], ◌∷◌, map}
use Prim.Native.Nat.{ℕ, zero, suc, ◌+◌, ◌^◌, ◌≤◌, ◌<◌}
use native.Mathlib.Omega.{arith}
use borrow.Author.Tests.{eq-eqb, eqb-true}
use lib.Dec.{eqb}
use lib.ListN.{length, get_or, drop}
use Rattle.sets.specs.Sets.{Mem, here, there, Ascending, member, any}
use Rattle.sets.proofs.Cases.{and_left, and_right, and_intro, clash, lt_or_le, eq_or_ne, not_elim}
use Rattle.sets.proofs.Tests.{either, is_true}
use Rattle.sets.proofs.Sets.{filter_iff, member_iff}
use Rattle.sets.proofs.Lengths.{mem_at, at_mem}
use Rattle.sets.proofs.Filter.{any_iff, all_iff, map_iff, not_member_iff}
use Rattle.files.specs.Field.{door_of, labels_of, pair, pair_of, pair_node, pair_state}
use Rattle.files.specs.Refuse.{◌unless◌, header_check}
use Rattle.files.specs.Part.{nodes, doors, part_check}
use Rattle.files.specs.Calls.{call_check, calls_check}
use Rattle.files.proofs.Fields.{holder_made, pair_eta}
use Rattle.files.proofs.Checks.{checks, then_iff, unless_iff}
use Rattle.files.proofs.Ordered.{ordered_iff}
use Rattle.slots.specs.Slots.{node_at, number, Kept}
use Rattle.slots.proofs.Places.{node_below, node_in, in_node, nodes_rise, with_iff, nodes_same, rising, nodes_apart}
use Rattle.part_search.specs.Search.{Begun, StepClosed, Blank, Marks, Seeded}
use Rattle.slots.proofs.Storing.{kept_refl, kept_trans}
use Rattle.part_search.proofs.Seeding.{marks_none, marks_same, closed_blank}
use Rattle.site_calls.specs.Against.{called_in}
use Rattle.site_calls.specs.Called.{call_at, holds_at, shut_at, Advanced, SeededAt, SeededAll}

-- the called pairs of a part are those of the call list whose nodes the part has
pub called_iff : (part calls : List ℕ) (c : ℕ) → Mem c (called_in part calls) ↔ (Mem c (map pair_of calls) × Mem (pair_node c) (nodes part))
called_iff part calls c =
    let i = filter_iff (λ c. member (pair_node c) (nodes part)) c (map pair_of calls) in
    let k = member_iff (pair_node c) (nodes part) in
    (λ m. ((i.0 m).0, k.0 (i.0 m).1), λ m. i.1 (m.0, k.1 m.1))

-- ---- calls by position

rise_at : (l : List ℕ) (i j : ℕ) → Ascending l → i < j → j < length l → get_or l i 0 < get_or l j 0
rise_at [] i j a h b = absurd (omega arith)
rise_at (x ∷ l) i zero a h b = absurd (omega arith)
rise_at (x ∷ l) zero (suc j) a h b = a.0 (get_or l j 0) (at_mem 0 l j (omega arith))
rise_at (x ∷ l) (suc i) (suc j) a h b = rise_at l i j a.1 (omega arith) (omega arith)

call_mem : (cs : List ℕ) (k : ℕ) → 1 ≤ k → k < length cs → Mem (call_at cs k) (map pair_of (drop 1 cs))
unfolding call_at
call_mem [] k a b = absurd (omega arith)
call_mem (h ∷ cs) zero a b = absurd (omega arith)
call_mem (h ∷ cs) (suc k) a b = (map_iff pair_of (pair_of (get_or cs k 0)) cs).1 (get_or cs k 0, at_mem 0 cs k (omega arith), refl)

mem_call : (cs : List ℕ) (c : ℕ) → Mem c (map pair_of (drop 1 cs)) → (k : ℕ) × (1 ≤ k) × (k < length cs) × (call_at cs k ≡ c)
unfolding call_at
mem_call [] c m = elim m [ ]
mem_call (h ∷ cs) c m =
    let (w, i, e) = (map_iff pair_of c cs).0 m in
    let (k, b, q) = mem_at w cs i in
    (suc k, omega arith, omega arith, ap pair_of q ∙ e)

-- the nodes of accepted calls do not fall
calls_rise : (cs : List ℕ) → calls_check cs ≡ 0 → (k l : ℕ) → 1 ≤ k → k < l → l < length cs → get_or cs l 0 < 2 ^ 32
    → pair_node (call_at cs k) ≤ pair_node (call_at cs l)
unfolding call_at
calls_rise [] c k l a h b f = absurd (omega arith)
calls_rise (w ∷ ws) c zero l a h b f = absurd (omega arith)
calls_rise (w ∷ ws) c (suc k) zero a h b f = absurd (omega arith)
calls_rise (w ∷ ws) c (suc k) (suc l) a h b f =
    let (p, s) = (then_iff (header_check 11 false true (suc (length ws)) w) _).0 c in
    let (asc, each) = (ordered_iff (call_check (labels_of w)) 0 ws).0 s in
    let i = simp checks at (each (get_or ws k 0) (at_mem 0 ws k (omega arith))) in
    let j = simp checks at (each (get_or ws l 0) (at_mem 0 ws l (omega arith))) in
    let r = rise_at ws k l asc.1 (omega arith) (omega arith) in
    omega (arith, holder_made 12 (get_or ws k 0) (omega arith) i.0.0 i.0.1, holder_made 12 (get_or ws l 0) f j.0.0 j.0.1)

-- ---- nodes by position

holds_parts : (ws : List ℕ) (i x : ℕ) → holds_at ws i x ≡ true → (node_at ws i ≡ true) × (number ws i ≡ x)
unfolding holds_at
holds_parts ws i x h =
    (and_left (node_at ws i) (eqb (number ws i) x) h, eqb-true (number ws i) x (and_right (node_at ws i) (eqb (number ws i) x) h))

holds_made : (ws : List ℕ) (i x : ℕ) → node_at ws i ≡ true → number ws i ≡ x → holds_at ws i x ≡ true
unfolding holds_at
holds_made ws i x n e = and_intro (node_at ws i) (eqb (number ws i) x) n (eq-eqb (number ws i) x e)

-- from `from` to i all nodes are below x
pub record Below (ws : List ℕ) (from x i : ℕ) : Type 0 where
  pub below : (j : ℕ) → from ≤ j → j < i → node_at ws j ≡ true → number ws j < x

pub advanced_end : {ws : List ℕ} {from x i n : ℕ} → n ≤ i → length ws ≤ n → Below ws from x i → Advanced ws from x n
advanced_end b h s = record { below = λ j a l. s.below j a (omega arith); stop = λ l. absurd (omega arith) }

-- ---- both, side by side

-- the nodes before `at` are below those of the calls from k on
pub record Past (ws cs : List ℕ) (at k : ℕ) : Type 0 where
  pub low : 1 ≤ k
  pub behind : (j l : ℕ) → j < at → node_at ws j ≡ true → k ≤ l → l < length cs → get_or cs l 0 < 2 ^ 32 → number ws j < pair_node (call_at cs l)

pub past_none : (ws cs : List ℕ) → Past ws cs 0 1
past_none ws cs = record { low = omega arith; behind = λ j l b. absurd (omega arith) }

module _ {ws cs : List ℕ} {at k x r : ℕ} (call : x ≡ pair_node (call_at cs k)) (past : Past ws cs at k) (adv : Advanced ws at x r) where
  past_more : calls_check cs ≡ 0 → Past ws cs r (k + 1)
  past_more c = record {
    low = omega arith;
    behind = λ j l b n h i f.
        ⊎_elim (λ s. past.behind j l s n (omega arith) i f)
        (λ s. omega (arith, adv.below j s b n, calls_rise cs c k l past.low (omega arith) i f, call)) (lt_or_le j at);
  }

  -- the call's node stands at r, where the part has it
  found_here : part_check ws ≡ 0 → k < length cs → get_or cs k 0 < 2 ^ 32 → Mem (pair_node (call_at cs k)) (nodes ws) → holds_at ws r x ≡ true
  found_here p b f m =
      let (i, n, e) = in_node ws (pair_node (call_at cs k)) m in
      let ai : at ≤ i = ⊎_elim (λ s. absurd (omega (arith, past.behind i k s n (omega arith) b f, e))) (λ s. s) (lt_or_le i at) in
      let ri : r ≤ i = ⊎_elim (λ s. absurd (omega (arith, adv.below i ai s n, e, call))) (λ s. s) (lt_or_le i r) in
      let (nr, xr) = adv.stop (omega (arith, node_below ws i n)) in
      ⊎_elim (λ s. absurd (omega (arith, nodes_rise ws r i (rising ws p) nr n s, e, call)))
      (λ s. let q : r ≡ i = omega arith in holds_made ws r x nr (ap (number ws) q ∙ e ∙ sym call)) (lt_or_le r i)

-- ---- 14

shut_parts : (ws : List ℕ) (i x : ℕ) → shut_at ws i x ≡ true → (holds_at ws i x ≡ true) × (door_of (get_or ws i 0) ≡ false)
unfolding shut_at
shut_parts ws i x h = (
  and_left (holds_at ws i x) (not (door_of (get_or ws i 0))) h,
  not_elim (door_of (get_or ws i 0)) (and_right (holds_at ws i x) (not (door_of (get_or ws i 0))) h),
)

open_door : (ws : List ℕ) (i x : ℕ) → shut_at ws i x ≡ false → holds_at ws i x ≡ true → door_of (get_or ws i 0) ≡ true
unfolding shut_at
open_door ws i x h k = ⊎_elim (λ d. d) (λ d. absurd (clash (and_intro (holds_at ws i x) (not (door_of (get_or ws i 0))) k (ap not d)) h)) (either (door_of (get_or ws i 0)))

-- of the calls before k none is for a node that is no door
pub record Checking (ws cs : List ℕ) (at k : ℕ) : Type 0 where
  pub past : Past ws cs at k
  pub opened : (l : ℕ) → 1 ≤ l → l < k → Mem (pair_node (call_at cs l)) (nodes ws) → Mem (pair_node (call_at cs l)) (doors (drop 1 ws))

abbrev strays : List ℕ → List ℕ → Bool
strays ws cs = any (λ c. not (member (pair_node c) (doors (drop 1 ws)))) (called_in (drop 1 ws) (drop 1 cs))

module _ {ws cs : List ℕ} {at k x r : ℕ} (p : part_check ws ≡ 0) (c : calls_check cs ≡ 0) (b : k < length cs)
    (call : x ≡ pair_node (call_at cs k)) (word : get_or cs k 0 < 2 ^ 32) (s : Checking ws cs at k) (adv : Advanced ws at x r) {t : Bool} (shut : t ≡ shut_at ws r x) where
  pub checking_more : t ≡ false → Checking ws cs r (k + 1)
  checking_more e = record {
    past = past_more call s.past adv c;
    opened = λ l a i m.
        ⊎_elim (λ (q : l ≡ k). subst (λ l. Mem (pair_node (call_at cs l)) (doors (drop 1 ws))) (sym q)
        (here_open (subst (λ l. Mem (pair_node (call_at cs l)) (nodes ws)) q m)))
        (λ n. s.opened l a (omega (arith, n)) m) (eq_or_ne l k);
  }
    where
      here_open : Mem (pair_node (call_at cs k)) (nodes ws) → Mem (pair_node (call_at cs k)) (doors (drop 1 ws))
      here_open m =
          let h = found_here call s.past adv p b word m in
          let (n, q) = holds_parts ws r x h in
          (with_iff ws p door_of (pair_node (call_at cs k))).1 (r, n, open_door ws r x (sym shut ∙ e) h, q ∙ call)

  pub checking_refused : t ≡ true → 14 ≡ (14 unless not (strays ws cs))
  checking_refused e =
      let (h, d) = shut_parts ws r x (sym shut ∙ e) in
      let (n, q) = holds_parts ws r x h in
      let m : Mem (pair_node (call_at cs k)) (nodes (drop 1 ws)) = rw (nodes_same ws p) (subst (λ y. Mem y (nodes ws)) (q ∙ call) (node_in ws r n)) in
      let stray : strays ws cs ≡ true = is_true (strays ws cs) ((any_iff (λ c. not (member (pair_node c) (doors (drop 1 ws)))) (called_in (drop 1 ws) (drop 1 cs))).1 (
        call_at cs k,
        (called_iff (drop 1 ws) (drop 1 cs) (call_at cs k)).1 (call_mem cs k s.past.low b, m),
        (not_member_iff (pair_node (call_at cs k)) (doors (drop 1 ws))).1 (λ i.
            let (j, nj, dj, ej) = (with_iff ws p door_of (pair_node (call_at cs k))).0 i in
            let same : j ≡ r = nodes_apart ws p j r nj n (ej ∙ sym call ∙ sym q) in
            clash (subst (λ y. door_of (get_or ws y 0) ≡ true) same dj) d),
      )) in
      rw stray

pub checking_all : {ws cs : List ℕ} {at k : ℕ} → part_check ws ≡ 0 → length cs ≤ k → Checking ws cs at k → 0 ≡ (14 unless not (strays ws cs))
checking_all {ws} {cs} {at} {k} p h s = sym ((unless_iff 14 (not (strays ws cs)) refl).1
    ((all_iff (λ c. member (pair_node c) (doors (drop 1 ws))) (called_in (drop 1 ws) (drop 1 cs))).1 (λ c m.
    let (i, n) = (called_iff (drop 1 ws) (drop 1 cs) c).0 m in
    let (l, a, b, e) = mem_call cs c i in
    (member_iff (pair_node c) (doors (drop 1 ws))).1 (subst (λ c. Mem (pair_node c) (doors (drop 1 ws))) e
    (s.opened l a (omega arith) (subst (λ c. Mem (pair_node c) (nodes ws)) (sym e) (rw (nodes_same ws p) at n)))))))

-- ---- the seeds

pub seed_node : (ws : List ℕ) (i x : ℕ) {b : Bool} → b ≡ holds_at ws i x → b ≡ true → node_at ws i ≡ true
seed_node ws i x h e = (holds_parts ws i x (sym h ∙ e)).0

module _ {ws : List ℕ} {t : ℕ} {w : List ℕ} {i x c : ℕ} {b : Bool} (h : b ≡ holds_at ws i x) (node : x ≡ pair_node c) where
  pub seeded_here : {w' : List ℕ} {q r : ℕ} → b ≡ true → q ≡ pair_state c → Seeded ws t w w' i q r → SeededAt ws t w w' i c r
  seeded_here {w'} {q} {r} e f s =
      let n = (holds_parts ws i x (sym h ∙ e)).1 in
      let k : holds_at ws i (pair_node c) ≡ true = ap (holds_at ws i) (sym node) ∙ sym h ∙ e in
      let z : pair (number ws i) q ≡ c = rw (n, node, f) (pair_eta c) in
      record {
        kept = s.kept;
        begun = s.begun;
        closed = s.closed;
        marks = λ ds m. rw k (subst (λ y. Marks ws w' (y ∷ ds)) z (s.marks ds m));
      }

-- the called pairs before k are marked, and no others
pub record Calling (ws cs : List ℕ) (t : ℕ) (w w' : List ℕ) (at k top : ℕ) : Type 0 where
  pub past : Past ws cs at k
  pub kept : Kept ws t w w'
  pub begun : Begun ws t w' top
  pub closed : (follow : List ℕ) → StepClosed ws follow w'
  pub ds : List ℕ
  pub marks : Marks ws w' ds
  pub sound : (c : ℕ) → Mem c ds → Mem c (called_in (drop 1 ws) (drop 1 cs))
  pub complete : (l : ℕ) → 1 ≤ l → l < k → Mem (pair_node (call_at cs l)) (nodes ws) → Mem (call_at cs l) ds

pub calling_none : (ws cs : List ℕ) (t : ℕ) (w : List ℕ) → Begun ws t w 0 → Blank ws w → Calling ws cs t w w 0 1 0
calling_none ws cs t w g b = record {
  past = past_none ws cs;
  kept = kept_refl ws t w;
  begun = g;
  closed = λ follow. closed_blank ws w follow b;
  ds = [];
  marks = marks_none ws w b;
  sound = λ c m. elim m [ ];
  complete = λ l a h. absurd (omega arith);
}

pub calling_more : {ws cs : List ℕ} {t : ℕ} {w w₁ w₂ : List ℕ} {at k x r top top' : ℕ} → calls_check cs ≡ 0 → k < length cs
    → x ≡ pair_node (call_at cs k) → get_or cs k 0 < 2 ^ 32 → Calling ws cs t w w₁ at k top → Advanced ws at x r
    → SeededAt ws t w₁ w₂ r (call_at cs k) top' → Calling ws cs t w w₂ r (k + 1) top'
calling_more {ws} {cs} {t} {w} {w₁} {w₂} {at} {k} {x} {r} {top} {top'} c b call word s adv h =
    ⊎_elim yes no (either (holds_at ws r (pair_node (call_at cs k))))
  where
    p : part_check ws ≡ 0
    p = s.begun.laid.accepted

    yes : holds_at ws r (pair_node (call_at cs k)) ≡ true → Calling ws cs t w w₂ r (k + 1) top'
    yes e =
        let (n, q) = holds_parts ws r (pair_node (call_at cs k)) e in
        let m : Mem (pair_node (call_at cs k)) (nodes (drop 1 ws)) = rw (nodes_same ws p) (subst (λ y. Mem y (nodes ws)) q (node_in ws r n)) in
        record {
          past = past_more call s.past adv c;
          kept = kept_trans s.kept h.kept;
          begun = h.begun;
          closed = λ follow. h.closed follow (s.closed follow);
          ds = call_at cs k ∷ s.ds;
          marks = rw e at (h.marks s.ds s.marks);
          sound = λ d i. sounds d i m;
          complete = λ l a i m.
              ⊎_elim (λ (q : l ≡ k). here (ap (call_at cs) q)) (λ n. there (s.complete l a (omega (arith, n)) m)) (eq_or_ne l k);
        }
      where
        sounds : (d : ℕ) → Mem d (call_at cs k ∷ s.ds) → Mem (pair_node (call_at cs k)) (nodes (drop 1 ws)) → Mem d (called_in (drop 1 ws) (drop 1 cs))
        sounds d (here q) m =
            subst (λ y. Mem y (called_in (drop 1 ws) (drop 1 cs))) (sym q) ((called_iff (drop 1 ws) (drop 1 cs) (call_at cs k)).1 (call_mem cs k s.past.low b, m))
        sounds d (there i) m = s.sound d i

    no : holds_at ws r (pair_node (call_at cs k)) ≡ false → Calling ws cs t w w₂ r (k + 1) top'
    no e = record {
      past = past_more call s.past adv c;
      kept = kept_trans s.kept h.kept;
      begun = h.begun;
      closed = λ follow. h.closed follow (s.closed follow);
      ds = s.ds;
      marks = rw e at (h.marks s.ds s.marks);
      sound = s.sound;
      complete = λ l a i m.
          ⊎_elim (λ (q : l ≡ k). absurd (clash (ap (holds_at ws r) (sym call) ∙ found_here call s.past adv p b word (subst (λ l. Mem (pair_node (call_at cs l)) (nodes ws)) q m)) e))
          (λ n. s.complete l a (omega (arith, n)) m) (eq_or_ne l k);
    }

pub calling_all : {ws cs : List ℕ} {t : ℕ} {w w' : List ℕ} {at k top : ℕ} → length cs ≤ k → Calling ws cs t w w' at k top → SeededAll ws cs t w w' top
calling_all {ws} {cs} h s = record {
  kept = s.kept;
  begun = s.begun;
  closed = s.closed;
  marks = marks_same (
    s.sound,
    λ c m.
        let (i, n) = (called_iff (drop 1 ws) (drop 1 cs) c).0 m in
        let (l, a, b, e) = mem_call cs c i in
        subst (λ c. Mem c s.ds) e (s.complete l a (omega arith) (subst (λ c. Mem (pair_node c) (nodes ws)) (sym e) (rw (nodes_same ws s.begun.laid.accepted) at n))),
  ) s.marks;
}
