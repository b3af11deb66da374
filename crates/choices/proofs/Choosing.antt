-- The choice among several replies: it is what the request says, it never goes over the room, and a short reply is always in. Assumes nothing.
use mathlib.Core.Path.{◌≡◌, refl, sym, ◌∙◌, ap, subst}
use mathlib.Core.Logic.{inl, inr}
use mathlib.Core.Bool.{Bool, true, false, cond}
use mathlib.Core.List.{List, [], ◌∷◌, ◌++◌}
use Prim.Native.Nat.{ℕ, zero, suc, ◌+◌, ◌*◌, ◌≤◌, ◌<◌}
use native.Mathlib.Omega.{arith}
use lib.Dec.{eqb, leb}
use lib.ListN.{length, get_or}
use lib.Seq.{get_or_at}
use borrow.Author.Tests.{eq-eqb, ne_eqb, eqb-true, eqb-false, leb-true, leb-false, le-leb, lt-leb}
use Rattle.sets.proofs.Tests.{either}
use Rattle.files.specs.Limits.{reply_words}
use Rattle.choices.specs.Choice.{Desk, short_words, is_short, is_long, words_in, choose, numbers, put_in, IsChoice}

-- ---- a desk is one of three

-- "A first reply of at most 512 words": the numbers are the request's, and not the definitions' own
pub short_desk : (d : Desk) → d.number ≡ 0 → d.size ≤ 512 → (is_short d ≡ true) × (is_long d ≡ false)
short_desk d n l = rw (eq-eqb d.number 0 n, le-leb d.size short_words (omega arith)) (refl, refl)

pub long_desk : (d : Desk) → d.number ≡ 0 → 512 < d.size → (is_short d ≡ false) × (is_long d ≡ true)
long_desk d n l = rw (eq-eqb d.number 0 n, lt-leb d.size short_words (omega arith)) (refl, refl)

-- a refused path takes no room, whatever its size
pub refused_desk : (d : Desk) → (d.number ≡ 0 → ⊥) → (is_short d ≡ false) × (is_long d ≡ false)
refused_desk d n = rw (ne_eqb d.number 0 n) (refl, refl)

pub data Case (d : Desk) : Type 0 where
  refuses : (d.number ≡ 0 → ⊥) → is_short d ≡ false → is_long d ≡ false → Case d
  short : d.number ≡ 0 → d.size ≤ 512 → is_short d ≡ true → is_long d ≡ false → Case d
  long : d.number ≡ 0 → 512 < d.size → is_short d ≡ false → is_long d ≡ true → Case d

pub cases : (d : Desk) → Case d
cases d = elim (either (eqb d.number 0)) [
  | inl n ↦ let n = eqb-true d.number 0 n in elim (either (leb d.size 512)) [
    | inl l ↦ let l = leb-true d.size 512 l in short n l (short_desk d n l).0 (short_desk d n l).1
    | inr l ↦ let l = leb-false d.size 512 l in long n l (long_desk d n l).0 (long_desk d n l).1
  ]
  | inr n ↦ let n = eqb-false d.number 0 n in refuses n (refused_desk d n).0 (refused_desk d n).1
]

-- ---- one desk more

module _ (taken : ℕ) (d : Desk) (ds : List Desk) where
  pub choose_other : is_long d ≡ false → choose taken (d ∷ ds) ≡ d.number ∷ choose taken ds
  choose_other e = rw e

  pub choose_fits : is_long d ≡ true → taken + d.size ≤ reply_words → choose taken (d ∷ ds) ≡ 0 ∷ choose (taken + d.size) ds
  choose_fits e l = rw (e, le-leb (taken + d.size) reply_words l)

  -- one without room takes none from those after it
  pub choose_over : is_long d ≡ true → reply_words < taken + d.size → choose taken (d ∷ ds) ≡ 15 ∷ choose taken ds
  choose_over e l = rw (e, lt-leb (taken + d.size) reply_words l)

-- the choice as a relation: what `choose` gives
pub data Chosen : ℕ → List Desk → List ℕ → Type 0 where
  none : {taken : ℕ} → Chosen taken [] []
  refuses : {taken : ℕ} {d : Desk} {ds : List Desk} {ns : List ℕ} → (d.number ≡ 0 → ⊥) → is_short d ≡ false → is_long d ≡ false → Chosen taken ds ns
      → Chosen taken (d ∷ ds) (d.number ∷ ns)
  short : {taken : ℕ} {d : Desk} {ds : List Desk} {ns : List ℕ} → d.size ≤ 512 → is_short d ≡ true → is_long d ≡ false → Chosen taken ds ns → Chosen taken (d ∷ ds) (0 ∷ ns)
  fits : {taken : ℕ} {d : Desk} {ds : List Desk} {ns : List ℕ} → is_short d ≡ false → is_long d ≡ true → taken + d.size ≤ reply_words → Chosen (taken + d.size) ds ns
      → Chosen taken (d ∷ ds) (0 ∷ ns)
  over : {taken : ℕ} {d : Desk} {ds : List Desk} {ns : List ℕ} → is_short d ≡ false → is_long d ≡ true → reply_words < taken + d.size → Chosen taken ds ns
      → Chosen taken (d ∷ ds) (15 ∷ ns)

pub chosen : (taken : ℕ) (ds : List Desk) → Chosen taken ds (choose taken ds)
chosen taken [] = none
chosen taken (d ∷ ds) = elim (cases d) [
  | refuses n s l ↦ subst (Chosen taken (d ∷ ds)) (sym (choose_other taken d ds l)) (refuses n s l (chosen taken ds))
  | short n k s l ↦ subst (Chosen taken (d ∷ ds)) (sym (choose_other taken d ds l ∙ ap (◌∷ choose taken ds) n)) (short k s l (chosen taken ds))
  | long n k s l ↦ elim (either (leb (taken + d.size) reply_words)) [
    | inl h ↦ let h = leb-true (taken + d.size) reply_words h in
        subst (Chosen taken (d ∷ ds)) (sym (choose_fits taken d ds l h)) (fits s l h (chosen (taken + d.size) ds))
    | inr h ↦ let h = leb-false (taken + d.size) reply_words h in
        subst (Chosen taken (d ∷ ds)) (sym (choose_over taken d ds l h)) (over s l h (chosen taken ds))
  ]
]

-- the words of some desks and of others are those of all of them
pub words_append : (p : Desk → Bool) (xs ys : List Desk) → words_in p (xs ++ ys) ≡ words_in p xs + words_in p ys
words_append p [] ys = omega arith
words_append p (d ∷ xs) ys = elim (either (p d)) [
  | inl e ↦ rw e (omega (arith, words_append p xs ys))
  | inr e ↦ rw e (words_append p xs ys)
]

-- ---- those that are put in, in the order of asking

module _ {A : Type 0} (x : A) (xs : List A) (ns : List ℕ) where
  pub put_in_lem : (n : ℕ) → n ≡ 0 → put_in (n ∷ ns) (x ∷ xs) ≡ x ∷ put_in ns xs
  put_in_lem zero e = refl
  put_in_lem (suc n) e = absurd (omega arith)

  pub put_out : (n : ℕ) → (n ≡ 0 → ⊥) → put_in (n ∷ ns) (x ∷ xs) ≡ put_in ns xs
  put_out zero e = absurd (e refl)
  put_out (suc n) e = refl

-- numbers past the last one put nothing in
pub put_front : {A : Type 0} (ns ms : List ℕ) (xs : List A) → length xs ≤ length ns → put_in (ns ++ ms) xs ≡ put_in ns xs
put_front [] [] [] e = refl
put_front [] (m ∷ ms) [] e = refl
put_front [] ms (x ∷ xs) e = absurd (omega arith)
put_front (n ∷ ns) ms [] e = refl
put_front (zero ∷ ns) ms (x ∷ xs) e = ap (x ∷◌) (put_front ns ms xs (omega arith))
put_front (suc n ∷ ns) ms (x ∷ xs) e = put_front ns ms xs (omega arith)

pub put_append : {A : Type 0} (ns ms : List ℕ) (xs ys : List A) → length ns ≡ length xs → put_in (ns ++ ms) (xs ++ ys) ≡ put_in ns xs ++ put_in ms ys
put_append [] ms [] ys e = refl
put_append [] ms (x ∷ xs) ys e = absurd (omega arith)
put_append (n ∷ ns) ms [] ys e = absurd (omega arith)
put_append (zero ∷ ns) ms (x ∷ xs) ys e = ap (x ∷◌) (put_append ns ms xs ys (omega arith))
put_append (suc n ∷ ns) ms (x ∷ xs) ys e = put_append ns ms xs ys (omega arith)

-- ---- the desks before one

pub choose_length : (taken : ℕ) (ds : List Desk) → length (choose taken ds) ≡ length ds
choose_length taken ds = go (chosen taken ds)
  where
    go : {taken : ℕ} {ds : List Desk} {ns : List ℕ} → Chosen taken ds ns → length ns ≡ length ds
    go none = refl
    go (refuses n s l c) = ap suc (go c)
    go (short k s l c) = ap suc (go c)
    go (fits s l k c) = ap suc (go c)
    go (over s l k c) = ap suc (go c)

-- the words that are taken behind some desks
abbrev pub taken_behind : ℕ → List Desk → ℕ
taken_behind taken ds = taken + words_in is_long (put_in (choose taken ds) ds)

pub choose_append : (taken : ℕ) (xs ys : List Desk) → choose taken (xs ++ ys) ≡ choose taken xs ++ choose (taken_behind taken xs) ys
choose_append taken [] ys = ap (λ t. choose t ys) (omega arith)
choose_append taken (d ∷ xs) ys = elim (cases d) [
  | refuses n s l ↦
      choose_other taken d (xs ++ ys) l ∙ ap (d.number ∷◌) (choose_append taken xs ys)
      ∙ rw (choose_other taken d xs l, put_out d xs (choose taken xs) d.number n)
  | short n k s l ↦
      choose_other taken d (xs ++ ys) l ∙ ap (d.number ∷◌) (choose_append taken xs ys)
      ∙ rw (choose_other taken d xs l, put_in_lem d xs (choose taken xs) d.number n, l)
  | long n k s l ↦ elim (either (leb (taken + d.size) reply_words)) [
    | inl h ↦ let h = leb-true (taken + d.size) reply_words h in
        choose_fits taken d (xs ++ ys) l h ∙ ap (0 ∷◌) (choose_append (taken + d.size) xs ys)
        ∙ rw (choose_fits taken d xs l h, l) (ap (λ t. 0 ∷ choose (taken + d.size) xs ++ choose t ys) (omega arith))
    | inr h ↦ let h = leb-false (taken + d.size) reply_words h in
        choose_over taken d (xs ++ ys) l h ∙ ap (15 ∷◌) (choose_append taken xs ys) ∙ rw (choose_over taken d xs l h)
  ]
]

module _ (taken : ℕ) (before after : List Desk) (d : Desk) where
  -- the number of a desk behind others is the first that is chosen there
  choose_at : (n : ℕ) (rest : List ℕ) → choose (taken_behind taken before) (d ∷ after) ≡ n ∷ rest → get_or (choose taken (before ++ d ∷ after)) (length before) 0 ≡ n
  choose_at n rest e = rw (choose_append taken before (d ∷ after), e) (get_or_at (choose taken before) n rest 0 (length before) (choose_length taken before))

  -- and what is put in of those before it is what they have put in by themselves
  choose_front : put_in (choose taken (before ++ d ∷ after)) before ≡ put_in (choose taken before) before
  choose_front = rw (choose_append taken before (d ∷ after)) (put_front (choose taken before) _ before (omega (arith, choose_length taken before)))

  number_refused : (d.number ≡ 0 → ⊥) → get_or (choose taken (before ++ d ∷ after)) (length before) 0 ≡ d.number
  number_refused n = choose_at d.number _ (choose_other (taken_behind taken before) d after (refused_desk d n).1)

  number_short : d.number ≡ 0 → d.size ≤ 512 → get_or (choose taken (before ++ d ∷ after)) (length before) 0 ≡ 0
  number_short n l = choose_at d.number _ (choose_other (taken_behind taken before) d after (short_desk d n l).1) ∙ n

  number_long : d.number ≡ 0 → 512 < d.size
      → get_or (choose taken (before ++ d ∷ after)) (length before) 0
      ≡ cond (leb (taken + words_in is_long (put_in (choose taken (before ++ d ∷ after)) before) + d.size) 4096) 0 15
  number_long n l = rw choose_front (elim (either (leb (taken_behind taken before + d.size) 4096)) [
    | inl h ↦ choose_at 0 _ (choose_fits (taken_behind taken before) d after (long_desk d n l).1 (leb-true _ _ h)) ∙ rw h
    | inr h ↦ choose_at 15 _ (choose_over (taken_behind taken before) d after (long_desk d n l).1 (leb-false _ _ h)) ∙ rw h
  ])

-- the numbers are the request's choice
pub choice : (ds : List Desk) → IsChoice ds (numbers ds)
unfolding numbers
choice ds = record {
  each = choose_length _ ds;
  refusal = λ before after d e n. rw e (number_refused _ before after d n);
  short = λ before after d e n l. rw e (number_short _ before after d n l);
  long = λ before after d e n l. rw e (number_long _ before after d n l);
}

-- ---- the room

-- the words of all desks of a list
abbrev pub total : List Desk → ℕ
total ds = words_in (λ d. true) ds

-- where no more than the room is taken, and the short ones are counted in it, what is put in stays within it
room_kept : {taken : ℕ} {ds : List Desk} {ns : List ℕ} → Chosen taken ds ns → taken ≤ reply_words → taken + total (put_in ns ds) ≤ reply_words + words_in is_short ds
room_kept none h = omega arith
room_kept (refuses {d = d} {ds = ds} {ns = ns} n s l c) h = rw (put_out d ds ns d.number n, s) (room_kept c h)
room_kept (short {d = d} k s l c) h = rw s (omega (arith, room_kept c h))
room_kept (fits {d = d} s l k c) h = rw s (omega (arith, room_kept c k))
room_kept (over s l k c) h = rw s (room_kept c h)

pub shorts_few : (ds : List Desk) → words_in is_short ds ≤ 512 * length ds
shorts_few [] = omega arith
shorts_few (d ∷ ds) = elim (cases d) [
  | refuses n s l ↦ rw s (omega (arith, shorts_few ds))
  | short n k s l ↦ rw s (omega (arith, shorts_few ds))
  | long n k s l ↦ rw s (omega (arith, shorts_few ds))
]

-- of up to eight desks, no more is put in than there is room for
pub room_enough : (ds : List Desk) → length ds ≤ 8 → total (put_in (numbers ds) ds) ≤ 4096
unfolding numbers
room_enough ds h =
    let s = shorts_few ds in
    omega (arith, room_kept (chosen (words_in is_short ds) ds) (omega arith))
