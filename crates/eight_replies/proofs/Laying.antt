-- The two rounds over all desks. Assumes nothing.
use mathlib.Core.Path.{◌≡◌, refl, sym, ◌∙◌, ap, subst}
use mathlib.Core.Bool.{Bool, true, false, cond}
use mathlib.Core.List.{List, [], ◌∷◌, ◌++◌, append-nil, append_assoc}
use Prim.Native.Nat.{ℕ, zero, suc, ◌+◌, ◌-◌, ◌*◌, ◌≤◌, ◌<◌}
use native.Mathlib.Omega.{arith}
use native.Mathlib.Decide.{dec_lt}
use borrow.Author.Tests.{eqb-true, eq-eqb, leb-true, le-leb}
use lib.Dec.{eqb, leb}
use lib.ListN.{length, get_or, take, drop, length-append, length-drop, length-take, length-replicate, length-map, take-append-drop, drop_of_length-le, get_or-eq_default}
use lib.Seq.{take-suc, take_all, drop-cons, get_or-drop, length-take-le}
use Rattle.sets.proofs.Filter.{map_append}
use Rattle.files.specs.Limits.{reply_words}
use Rattle.files.specs.Outcome.{zeros, padded}
use Rattle.files.proofs.Buffers.{padded_none}
use Rattle.path_bundles.specs.Split.{behind, split}
use Rattle.path_bundles.specs.Packed.{packed}
use Rattle.path_bundles.specs.Place.{file_at}
use Rattle.visits.specs.Answered.{SiteReady, Own, own}
use Rattle.visits.proofs.Visiting.{same_ready, own_room}
use Rattle.choices.specs.Choice.{short_words}
use Rattle.desks.specs.declared.stand.Stand.{Stand}
use Rattle.desks.specs.Owns.{owns, size_of_own, short_part, long_part, short_sum, offered, chosen, replies_of, numbers_in}
use Rattle.desks.specs.Stands.{Enters, Settles}
use Rattle.desks.specs.Turns.{Asking, Puts, layable, MayLay, Lays, MayChoose, Chooses}
use Rattle.eight_replies.specs.Rounds.{Stood, Shares}
use Rattle.desks.proofs.Owning.{nothing, short, long, sort, offered_short, offered_fits, offered_over, long_sum, replies_append, short_append, words_parted, short_few, chosen_front, chosen_none, chosen_step, owns_length, owns_at, owns_past}
use Rattle.desks.proofs.Turning.{both_true}

-- with buffers of the same lengths
pub same_asking : {whole n m k l : ℕ} {part groups : List ℕ} → Asking whole n m part groups → k ≡ n → l ≡ m → Asking whole k l part groups
same_asking a e q = record { ready = same_ready a.ready e q; small = a.small }

pub same_stood : {n k : ℕ} {xs : List Own} {s : Stand} {out : List ℕ} → Stood n xs s out → k ≡ n → Stood k xs s out
same_stood d e = rw e d

pub same_shares : {n k r : ℕ} {xs : List Own} {out : List ℕ} → Shares n xs r out → k ≡ n → Shares k xs r out
same_shares d e = rw e d

pub split_few : (k : ℕ) (s : List ℕ) → length (split k s) ≤ k
split_few zero s = omega arith
split_few (suc k) [] = omega arith
split_few (suc k) (b ∷ s) = omega (arith, split_few k (behind (b ∷ s)))

pub files_few : {k : ℕ} (s : List ℕ) → k ≡ length (split 8 s) → k ≤ 8
files_few s e = omega (arith, e, split_few 8 s)

-- ---- one more is settled

packed_zeros : (k : ℕ) → 0 ≡ packed (zeros k)
packed_zeros zero = refl
packed_zeros (suc k) = omega (arith, packed_zeros k)

entered_behind : {numbers n r : ℕ} (z ns : List ℕ) → length (z ++ ns) ≡ 7 → numbers ≡ packed (0 ∷ (z ++ ns)) → Enters numbers n r → r ≡ packed (z ++ (ns ++ n ∷ []))
entered_behind {n = n} z ns l e f = f.entered (z ++ ns) l e ∙ ap packed (append_assoc z ns (n ∷ []))

-- its number behind those of the desks before it
entered_next : {numbers n r j : ℕ} (ys : List Own) (y : Own) → length ys ≡ j → j < 8 → numbers ≡ packed (zeros (8 - j) ++ numbers_in ys) → Enters numbers n r → n ≡ y.number
    → r ≡ packed (zeros (8 - (j + 1)) ++ numbers_in (ys ++ y ∷ []))
entered_next {numbers} {n} {r} {j} ys y l h e f q =
    let k : ℕ = 8 - (j + 1) in
    let d : 8 - j ≡ suc k = omega arith in
    let front : numbers ≡ packed (0 ∷ (zeros k ++ numbers_in ys)) = e ∙ ap (λ i. packed (zeros i ++ numbers_in ys)) d in
    let seven : length (zeros k ++ numbers_in ys) ≡ 7 = omega (arith, length-append (zeros k) (numbers_in ys), length-replicate {A = ℕ} k 0, length-map ys (λ x. x.number), l) in
    let more : numbers_in ys ++ n ∷ [] ≡ numbers_in (ys ++ y ∷ []) = ap (λ i. numbers_in ys ++ i ∷ []) q ∙ sym (map_append (λ x. x.number) ys (y ∷ [])) in
    entered_behind (zeros k) (numbers_in ys) seven front f ∙ ap (λ ns. packed (zeros k ++ ns)) more

replies_next : (ys : List Own) (y : Own) → replies_of (ys ++ y ∷ []) ≡ replies_of ys ++ y.reply
replies_next ys y = replies_append ys (y ∷ []) ∙ ap (replies_of ys ++◌) (append-nil y.reply)

words_next : {w : ℕ} (ys : List Own) (y : Own) → w ≡ length (replies_of ys) → w + size_of_own y ≡ length (replies_of (ys ++ y ∷ []))
words_next ys y e = omega (arith, e, length-append (replies_of ys) y.reply, ap length (replies_next ys y))

output_next : (n : ℕ) {at : ℕ} {out out' : List ℕ} (ys : List Own) (y : Own) → at ≡ length (replies_of ys) → out ≡ padded n (replies_of ys) → Puts n at out out' y.reply
    → out' ≡ padded n (replies_of (ys ++ y ∷ []))
output_next n ys y w e p = p (replies_of ys) (sym w) e ∙ ap (padded n) (sym (replies_next ys y))

-- ---- the first round

-- Before desk i: the desks before the next have all that they have by themselves, and behind these words each desk to come has room for a short
-- reply; of the desks from the next on, up to desk i, the short words are counted.
pub record Laying (n : ℕ) (xs : List Own) (files i : ℕ) (s : Stand) (out : List ℕ) : Type 0 where
  pub turn : (s.next ≤ i) × (i ≤ 8)
  pub numbers_are : s.numbers ≡ packed (zeros (8 - s.next) ++ numbers_in (take s.next xs))
  pub words_are : s.words ≡ length (replies_of (take s.next xs))
  pub later_are : s.later ≡ short_sum (take (i - s.next) (drop s.next xs))
  pub output : out ≡ padded n (replies_of (take s.next xs))
  pub room : (s.words + short_words * (files - s.next) ≤ reply_words) × (4 * s.words ≤ n)
  pub left : s.next < i → s.next < files

pub laying_first : {n : ℕ} (xs : List Own) (files : ℕ) {s : Stand} {out : List ℕ} → s.numbers ≡ 0 → s.next ≡ 0 → s.words ≡ 0 → s.later ≡ 0 → files ≤ 8 → out ≡ zeros n
    → Laying n xs files 0 s out
laying_first {n} xs files {s} {out} a b c d h e = record {
  turn = (omega (arith, b), omega arith);
  numbers_are = a ∙ packed_zeros 8 ∙ rw b (ap packed (sym (append-nil (zeros 8))));
  words_are = c ∙ rw b;
  later_are = d ∙ rw b;
  output = e ∙ rw b (sym (padded_none n));
  room = (omega (arith, b, c), omega (arith, c));
  left = λ l. absurd (omega arith);
}

module _ (whole : ℕ) (part groups paths : List ℕ) {n files i : ℕ} {s : Stand} {out : List ℕ}
    (l : Laying n (owns whole part groups 8 paths) files i s out) where
  abbrev xs : List Own
  xs = owns whole part groups 8 paths

  later_few : s.later ≤ short_words * i
  later_few =
      let ys = take (i - s.next) (drop s.next xs) in
      let k : length ys ≤ i = omega (arith, length-take (i - s.next) (drop s.next xs)) in
      omega (arith, l.later_are, short_few i ys (λ j h. ap (λ x. x.reply) (get_or-eq_default ys nothing (omega (arith, k, h)))))

  pub may_lay : {come k : ℕ} → i < 8 → come ≡ files - (i + 1) → files ≤ 8 → k ≡ n → MayLay i come k s
  may_lay h e f q = record {
    turn = (l.turn.0, h, omega (arith, e));
    room = (omega (arith, l.room), omega (arith, l.room, q));
    few = later_few;
  }

  module _ (h : i < 8) (f : files ≡ length (split 8 paths)) where
    abbrev x : Own
    x = own whole part groups (file_at i paths)

    at_i : get_or xs i nothing ≡ x
    at_i = owns_at whole part groups 8 i paths h

    past_none : files ≤ i → size_of_own x ≡ 0
    past_none k = ap length (owns_past whole part groups 8 i paths (omega (arith, f, k)) h)

    take_next : take (i + 1) xs ≡ take i xs ++ x ∷ []
    take_next =
        let e : i + 1 ≡ suc i = omega arith in
        ap (λ k. take k xs) e ∙ take-suc xs i nothing (omega (arith, owns_length whole part groups 8 paths)) ∙ ap (λ y. take i xs ++ y ∷ []) at_i

    -- it is laid
    module _ {m : ℕ} {r : Stand} {out' : List ℕ} (ready : SiteReady whole n m part groups) (c : s.next ≡ i) (w : s.words + size_of_own x + short_words * (files - (i + 1)) ≤ reply_words)
        (g : Settles s x.number (s.words + size_of_own x) 0 r) (p : Puts n s.words out out' x.reply) where
      next : r.next ≡ i + 1
      next = g.next_is ∙ ap (◌+ 1) c

      length_i : length (take i xs) ≡ i
      length_i = length-take-le i xs (omega (arith, owns_length whole part groups 8 paths))

      laid : Laying n xs files (i + 1) r out'
      laid =
          let d : i + 1 - (i + 1) ≡ 0 = omega arith in
          record {
            turn = (omega (arith, next), omega arith);
            numbers_are = rw (next, take_next) (entered_next (take i xs) x length_i h (rw c at l.numbers_are) g.enters refl);
            words_are = rw (next, take_next) (g.words_are ∙ words_next (take i xs) x (rw c at l.words_are));
            later_are = rw (next, d) g.later_are;
            output = rw (next, take_next) (output_next n (take i xs) x (rw c at l.words_are) (rw c at l.output) p);
            room = (
              rw next (omega (arith, g.words_are)),
              rw g.words_are (own_room whole (file_at i paths) s.words ready l.room.1 (omega arith)),
            );
            left = λ k. absurd (omega (arith, next));
          }

    -- it is only measured
    module _ (b : layable s i (size_of_own x) (files - (i + 1)) ≡ false) where
      kept_room : s.next < files → s.words + short_words ≤ reply_words
      kept_room k = omega (arith, l.room, k)

      is_left : s.next < files
      is_left = elim (dec_lt s.next i) [
        | yes k ↦ l.left k
        | no k ↦ elim (dec_lt i files) [
          | yes j ↦ omega (arith, l.turn)
          | no j ↦
              let e : s.next ≡ i = omega (arith, l.turn) in
              let z : size_of_own x ≡ 0 = past_none (omega arith) in
              let t : layable s i (size_of_own x) (files - (i + 1)) ≡ true =
              rw (eq-eqb s.next i e, le-leb (s.words + size_of_own x + short_words * (files - (i + 1))) reply_words (omega (arith, l.room, z))) in
              absurd (subst (λ t. cond t ⊥ (Unit {0})) (sym b ∙ t) tt)
        ]
      ]

      pub measured_room : s.words + short_words ≤ reply_words
      measured_room = kept_room is_left

      short_next : short_sum (take (i - s.next) (drop s.next xs)) + short_part (size_of_own x) ≡ short_sum (take (i + 1 - s.next) (drop s.next xs))
      short_next =
          let j = i - s.next in
          let d : i + 1 - s.next ≡ suc j = omega (arith, l.turn) in
          let a : get_or (drop s.next xs) j nothing ≡ x = get_or-drop s.next xs j nothing ∙ ap (λ k. get_or xs k nothing) (omega (arith, l.turn)) ∙ at_i in
          let e = take-suc (drop s.next xs) j nothing (omega (arith, l.turn, length-drop s.next xs, owns_length whole part groups 8 paths)) in
          rw (d, e, a) (omega (arith, short_append (take j (drop s.next xs)) (x ∷ [])))

      measured : {r : Stand} {out' : List ℕ} → (r.numbers ≡ s.numbers) × (r.next ≡ s.next) × (r.words ≡ s.words) × (r.later ≡ s.later + short_part (size_of_own x))
          × ((ws : List ℕ) → length ws ≡ s.words → out ≡ padded n ws → out' ≡ padded n ws) → Laying n xs files (i + 1) r out'
      measured (a, e, w, k, o) = record {
        turn = (omega (arith, e, l.turn), omega arith);
        numbers_are = rw (e, a) l.numbers_are;
        words_are = rw (e, w) l.words_are;
        later_are = rw e (k ∙ ap (◌+ short_part (size_of_own x)) l.later_are ∙ short_next);
        output = rw e (o (replies_of (take s.next xs)) (sym l.words_are) l.output);
        room = rw (e, w) l.room;
        left = λ j. rw e is_left;
      }

    pub laying_more : {m : ℕ} {r : Stand} {out' : List ℕ} → SiteReady whole n m part groups → Lays x i (files - (i + 1)) n s out r out' → Laying n xs files (i + 1) r out'
    laying_more {r = r} {out'} ready g = by (layable s i (size_of_own x) (files - (i + 1))) refl
      where
        by : (t : Bool) → layable s i (size_of_own x) (files - (i + 1)) ≡ t → Laying n xs files (i + 1) r out'
        by true t =
            let (c, w) = both_true (eqb s.next i) (leb (s.words + size_of_own x + short_words * (files - (i + 1))) reply_words) t in
            let (f, p) = g.laid t in
            laid ready (eqb-true s.next i c) (leb-true _ _ w) f p
        by false t = measured t (g.measured t (measured_room t))

-- all desks had their turn: from the next on the rest of the choice is left
pub laying_last : (whole : ℕ) (part groups paths : List ℕ) {n files i : ℕ} {s : Stand} {out : List ℕ} → Laying n (owns whole part groups 8 paths) files i s out → 8 ≤ i
    → files ≡ length (split 8 paths) → Stood n (owns whole part groups 8 paths) s out
laying_last whole part groups paths {n} {files} {i} {s} {out} l h f = record {
  settled = ys;
  turn = (length-take-le j xs (omega (arith, all, l.turn)), omega (arith, l.turn));
  rest = rest;
  numbers_are = l.numbers_are;
  words_are = l.words_are;
  later_are = later;
  output = l.output;
  room = (room, l.room.1);
}
  where
    xs : List Own
    xs = owns whole part groups 8 paths

    j : ℕ
    j = s.next

    ys : List Own
    ys = take j xs

    zs : List Own
    zs = drop j xs

    all : length xs ≡ 8
    all = owns_length whole part groups 8 paths

    later : s.later ≡ short_sum zs
    later = l.later_are ∙ ap short_sum (take_all (i - j) zs (omega (arith, length-drop j xs, all)))

    -- past the last path there is no reply
    past : (k : ℕ) → files - j ≤ k → (get_or zs k nothing).reply ≡ []
    past k a = elim (dec_lt (j + k) 8) [
      | yes b ↦ ap (λ x. x.reply) (get_or-drop j xs k nothing ∙ owns_at whole part groups 8 (j + k) paths b) ∙ owns_past whole part groups 8 (j + k) paths (omega (arith, f)) b
      | no b ↦ ap (λ x. x.reply) (get_or-drop j xs k nothing ∙ get_or-eq_default xs nothing (omega (arith, all)))
    ]

    room : s.words + s.later ≤ reply_words
    room = omega (arith, l.room, later, short_few (files - j) zs past)

    rest : chosen (short_sum xs) xs ≡ ys ++ chosen (s.words + s.later) zs
    rest =
        let both : ys ++ zs ≡ xs = take-append-drop j xs in
        let e : short_sum xs ≡ short_sum ys + short_sum zs = ap short_sum (sym both) ∙ short_append ys zs in
        let w : short_sum xs + long_sum ys ≡ s.words + s.later = omega (arith, e, words_parted ys, l.words_are, later) in
        ap (chosen (short_sum xs)) (sym both) ∙ chosen_front (short_sum xs) ys zs (omega (arith, w, room)) ∙ ap (λ t. ys ++ chosen t zs) w

-- ---- the second round

module _ (whole : ℕ) (part groups paths : List ℕ) {n : ℕ} {s : Stand} {out : List ℕ} (d : Stood n (owns whole part groups 8 paths) s out) (h : s.next < 8) where
  abbrev all : List Own
  all = owns whole part groups 8 paths

  abbrev turn : Own
  turn = own whole part groups (file_at s.next paths)

  from_here : drop s.next all ≡ turn ∷ drop (s.next + 1) all
  from_here =
      let e : suc s.next ≡ s.next + 1 = omega arith in
      drop-cons all s.next nothing (omega (arith, owns_length whole part groups 8 paths))
      ∙ ap (◌∷ drop (suc s.next) all) (owns_at whole part groups 8 s.next paths h) ∙ ap (λ k. turn ∷ drop k all) e

  later_is : s.later ≡ short_part (size_of_own turn) + short_sum (drop (s.next + 1) all)
  later_is = d.later_are ∙ ap short_sum from_here

  pub may_choose : {k : ℕ} → k ≡ n → MayChoose turn k s
  may_choose e = record { turn = h; room = (d.room.0, omega (arith, d.room, e)); kept = omega (arith, later_is) }

  -- the words that are taken behind it
  abbrev gets : Own
  gets = offered (s.words + s.later) turn

  taken_next : (s.words + size_of_own gets + (s.later - short_part (size_of_own turn)) ≡ s.words + s.later + long_part (size_of_own gets))
      × (s.words + size_of_own gets + (s.later - short_part (size_of_own turn)) ≤ reply_words)
  taken_next = elim (sort (size_of_own turn)) [
    | short a t p q ↦
        let e = offered_short (s.words + s.later) turn a in
        rw (e, p, q) (omega (arith, later_is, p), omega (arith, later_is, p, d.room))
    | long a t p q ↦ elim (dec_lt reply_words (s.words + s.later + size_of_own turn)) [
      | yes b ↦
          let e = offered_over (s.words + s.later) turn a b in
          rw (e, p) (omega arith, omega (arith, d.room))
      | no b ↦
          let e = offered_fits (s.words + s.later) turn a (omega arith) in
          rw (e, p, q) (omega arith, omega arith)
    ]
  ]

  gets_room : {m : ℕ} → SiteReady whole n m part groups → 4 * (s.words + size_of_own gets) ≤ n
  gets_room ready = elim (sort (size_of_own turn)) [
    | short a t p q ↦ rw (offered_short (s.words + s.later) turn a) (own_room whole (file_at s.next paths) s.words ready d.room.1 (omega (arith, d.room, later_is, p)))
    | long a t p q ↦ elim (dec_lt reply_words (s.words + s.later + size_of_own turn)) [
      | yes b ↦ rw (offered_over (s.words + s.later) turn a b) (omega (arith, d.room))
      | no b ↦ rw (offered_fits (s.words + s.later) turn a (omega arith)) (own_room whole (file_at s.next paths) s.words ready d.room.1 (omega arith))
    ]
  ]

  pub stood_more : {m : ℕ} {r : Stand} {out' : List ℕ} → SiteReady whole n m part groups → Chooses turn n s out r out' → Stood n all r out'
  stood_more {r = r} {out'} ready g =
      let ys = d.settled in
      let f = g.settles in
      let next : r.next ≡ s.next + 1 = f.next_is in
      let later : r.later ≡ short_sum (drop (s.next + 1) all) = f.later_are ∙ omega (arith, later_is) in
      let w : r.words + r.later ≡ s.words + s.later + long_part (size_of_own gets) = rw (f.words_are, f.later_are) taken_next.0 in
      record {
        settled = ys ++ gets ∷ [];
        turn = (omega (arith, length-append ys (gets ∷ []), d.turn, next), omega (arith, next));
        rest = d.rest ∙ ap (λ zs. ys ++ chosen (s.words + s.later) zs) from_here
            ∙ ap (ys ++◌) (chosen_step (s.words + s.later) turn (drop (s.next + 1) all))
            ∙ rw (w, next) (sym (append_assoc ys (gets ∷ []) (chosen (s.words + s.later + long_part (size_of_own gets)) (drop (s.next + 1) all))));
        numbers_are = rw next (entered_next ys gets d.turn.0 h d.numbers_are f.enters refl);
        words_are = f.words_are ∙ words_next ys gets d.words_are;
        later_are = later ∙ rw next;
        output = output_next n ys gets d.words_are d.output g.puts;
        room = (omega (arith, taken_next.1, f.words_are, f.later_are), rw f.words_are (gets_room ready));
      }

pub stood_last : (whole : ℕ) (part groups paths : List ℕ) {n : ℕ} {s : Stand} {out : List ℕ} → Stood n (owns whole part groups 8 paths) s out → 8 ≤ s.next
    → Shares n (owns whole part groups 8 paths) s.numbers out
stood_last whole part groups paths {n} {s} {out} d h =
    let xs = owns whole part groups 8 paths in
    let j : 8 - s.next ≡ 0 = omega arith in
    let none : drop s.next xs ≡ [] = drop_of_length-le xs {i = s.next} (omega (arith, owns_length whole part groups 8 paths)) in
    let e : chosen (short_sum xs) xs ≡ d.settled =
    d.rest ∙ ap (λ zs. d.settled ++ chosen (s.words + s.later) zs) none ∙ ap (d.settled ++◌) (chosen_none (s.words + s.later)) ∙ append-nil d.settled in
    record { numbers_are = d.numbers_are ∙ rw (j, e); output = d.output ∙ rw e }
