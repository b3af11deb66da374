-- What desks that share one reply are told, and that a desk which is told 0 finds its own reply, whatever the others ask. Assumes nothing.
use mathlib.Core.Path.{◌≡◌, refl, sym, ◌∙◌, ap}
use mathlib.Core.Logic.{◌⊎◌, inl, inr}
use mathlib.Core.Bool.{cond}
use mathlib.Core.List.{List, [], ◌∷◌, ◌++◌, map, flatten, append_assoc}
use Prim.Native.Nat.{ℕ, zero, suc, ◌+◌, ◌*◌, ◌/◌, ◌%◌, ◌≤◌, ◌<◌}
use native.Mathlib.Omega.{arith}
use lib.Dec.{leb}
use lib.ListN.{length, get_or, take, drop, replicate, length-append, length-map, get_or-map}
use lib.Seq.{length-take-le, split_at}
use borrow.Author.Tests.{eq-eqb, ne_eqb, leb-true, leb-false}
use Rattle.sets.specs.Sets.{Mem, here, there}
use Rattle.sets.proofs.Tests.{either}
use Rattle.sets.proofs.Sets.{on_cons}
use Rattle.sets.proofs.Filter.{map_append}
use Rattle.files.specs.Word.{bytes_of}
use Rattle.files.specs.Limits.{reply_words}
use Rattle.files.specs.Outcome.{Outcome, refused, accepted, zeros, padded, left}
use Rattle.files.proofs.Bytes.{bytes_append}
use Rattle.path_bundles.specs.Split.{file_in, behind}
use Rattle.path_bundles.specs.Packed.{packed, byte_at, number_of}
use Rattle.path_bundles.proofs.Packing.{packed_byte}
use Rattle.path_bundles.proofs.Sized.{Sized, sized_file, sized_behind}
use Rattle.choices.specs.Choice.{Desk, is_short, is_long, words_in, choose, numbers, put_in}
use Rattle.choices.specs.Shared.{desk_of, reply_of, numbers_of, shared, leaves_shared, seek, Served}
use Rattle.choices.proofs.Choosing.{refused_desk, cases, refuses, short, long, Chosen, none, fits, over, chosen, choose_other, choose_fits, choose_over, words_append, choose_append, taken_behind, put_out, total, room_enough, choice}

-- ---- where a desk looks

first_bytes : (f : List ℕ) (fs : List (List ℕ)) (rest : List ℕ) → bytes_of (flatten (f ∷ fs)) ++ rest ≡ bytes_of f ++ (bytes_of (flatten fs) ++ rest)
unfolding flatten
first_bytes f fs rest = ap (◌++ rest) (bytes_append f (flatten fs)) ∙ append_assoc (bytes_of f) (bytes_of (flatten fs)) rest

-- one desk's number is read off, and its reply passed if it is 0
seek_in : (i : ℕ) (ns out : List ℕ) → seek (suc i) (packed (0 ∷ ns)) out ≡ seek i (packed ns) (behind out)
seek_in i ns out =
    let p = packed (0 ∷ ns) in
    let q : p / 256 ≡ packed ns = omega arith in
    simp (q, eq-eqb (p % 256) 0 (omega arith))

seek_out : (i n : ℕ) (ns out : List ℕ) → suc n < 256 → seek (suc i) (packed (suc n ∷ ns)) out ≡ seek i (packed ns) out
seek_out i n ns out h =
    let p = packed (suc n ∷ ns) in
    let q : p / 256 ≡ packed ns = omega arith in
    simp (q, ne_eqb (p % 256) 0 (λ z. omega arith))

-- so a desk with number 0 finds its reply, where all that are put in say their lengths, whatever stands behind them
found : (i : ℕ) (ns : List ℕ) (rs : List (List ℕ)) (rest : List ℕ) → i < length rs → length ns ≡ length rs → ((n : ℕ) → Mem n ns → n < 256)
    → ((f : List ℕ) → Mem f (put_in ns rs) → Sized f) → get_or ns i 0 ≡ 0 → file_in (seek i (packed ns) (bytes_of (flatten (put_in ns rs)) ++ rest)) ≡ bytes_of (get_or rs i [])
found i ns [] rest l e s h z = absurd (omega arith)
found i [] (r ∷ rs) rest l e s h z = absurd (omega arith)
found zero (zero ∷ ns) (r ∷ rs) rest l e s h z = ap file_in (first_bytes r (put_in ns rs) rest) ∙ sized_file r _ (h r (here refl))
found zero (suc n ∷ ns) (r ∷ rs) rest l e s h z = absurd (omega arith)
found (suc i) (zero ∷ ns) (r ∷ rs) rest l e s h z =
    ap file_in (seek_in i ns (bytes_of (flatten (r ∷ put_in ns rs)) ++ rest) ∙ ap (seek i (packed ns)) (ap behind (first_bytes r (put_in ns rs) rest) ∙ sized_behind r _ (h r (here refl))))
    ∙ found i ns rs rest (omega arith) (omega arith) (λ n m. s n (there m)) (λ f m. h f (there m)) z
found (suc i) (suc n ∷ ns) (r ∷ rs) rest l e s h z =
    ap file_in (seek_out i n ns (bytes_of (flatten (put_in ns rs)) ++ rest) (s (suc n) (here refl))) ∙ found i ns rs rest (omega arith) (omega arith) (λ n m. s n (there m)) h z

-- ---- the desks' numbers, by what each would be answered by itself

module _ (os : List Outcome) where
  abbrev desks : List Desk
  desks = map desk_of os

  pub numbers_length : length (numbers_of os) ≡ length os
  numbers_length = (choice desks).each ∙ length-map os desk_of

  module _ (i : ℕ) (h : i < length os) where
    h' : i < length desks
    h' = omega (arith, length-map os desk_of)

    desks_at : {o : Outcome} → get_or os i (accepted []) ≡ o → desks ≡ take i desks ++ desk_of o ∷ drop (suc i) desks
    desks_at e = split_at desks i (desk_of (accepted [])) h' ∙ ap (λ d. take i desks ++ d ∷ drop (suc i) desks) (get_or-map desk_of os i (accepted []) ∙ ap desk_of e)

    place : length (take i desks) ≡ i
    place = length-take-le i desks (omega (arith, h'))

    -- a refused path keeps its own number
    pub number_refused : (k : ℕ) → get_or os i (accepted []) ≡ refused k → get_or (numbers_of os) i 0 ≡ k
    number_refused zero e = rw place at ((choice desks).short (take i desks) (drop (suc i) desks) (desk_of (refused zero)) (desks_at e) refl (omega arith))
    number_refused (suc k) e = rw place at ((choice desks).refusal (take i desks) (drop (suc i) desks) (desk_of (refused (suc k))) (desks_at e) (λ z. omega arith))

    module _ (ws : List ℕ) (e : get_or os i (accepted []) ≡ accepted ws) where
      -- a short reply is in, whatever the other desks ask
      pub number_short : length ws ≤ 512 → get_or (numbers_of os) i 0 ≡ 0
      number_short l = rw place at ((choice desks).short (take i desks) (drop (suc i) desks) (desk_of (accepted ws)) (desks_at e) refl l)

      -- a long one is in, or it gets 15 and does not fit beside all short ones and the long ones already in
      abbrev others : ℕ
      others = words_in is_short desks + words_in is_long (put_in (numbers_of os) (take i desks))

      pub number_long : 512 < length ws
          → ((get_or (numbers_of os) i 0 ≡ 0) × (others + length ws ≤ 4096)) ⊎ ((get_or (numbers_of os) i 0 ≡ 15) × (4096 < others + length ws))
      number_long l =
          let c : get_or (numbers_of os) i 0 ≡ cond (leb (others + length ws) 4096) 0 15 =
          rw place at ((choice desks).long (take i desks) (drop (suc i) desks) (desk_of (accepted ws)) (desks_at e) refl l) in
          elim (either (leb (others + length ws) 4096)) [
            | inl t ↦ inl (c ∙ rw t, leb-true _ _ t)
            | inr t ↦ inr (c ∙ rw t, leb-false _ _ t)
          ]

-- ---- the shared reply has room

put_words : (ns : List ℕ) (os : List Outcome) → length (flatten (put_in ns (map reply_of os))) ≡ total (put_in ns (map desk_of os))
unfolding flatten
put_words [] os = refl
put_words (n ∷ ns) [] = refl
put_words (zero ∷ ns) (o ∷ os) = length-append (reply_of o) (flatten (put_in ns (map reply_of os))) ∙ rw (put_words ns os) (ap (◌+ total (put_in ns (map desk_of os))) (same o))
  where
    same : (o : Outcome) → length (reply_of o) ≡ (desk_of o).size
    same (refused k) = refl
    same (accepted ws) = refl
put_words (suc n ∷ ns) (o ∷ os) = put_words ns os

pub shared_fits : (os : List Outcome) → length os ≤ 8 → length (shared os) ≤ 4096
shared_fits os h = omega (arith, put_words (numbers_of os) os, room_enough (map desk_of os) (omega (arith, length-map os desk_of)))

-- ---- what is left, where every number fits a byte

choose_small : {taken : ℕ} {ds : List Desk} {ns : List ℕ} → Chosen taken ds ns → ((d : Desk) → Mem d ds → d.number < 256) → (n : ℕ) → Mem n ns → n < 256
choose_small none h n m = elim m [ ]
choose_small (refuses {d = d} a s l c) h n m = on_cons (λ n. n < 256) (h d (here refl)) (λ n m. choose_small c (λ e m. h e (there m)) n m) n m
choose_small (short k s l c) h n m = on_cons (λ n. n < 256) (omega arith) (λ n m. choose_small c (λ e m. h e (there m)) n m) n m
choose_small (fits s l k c) h n m = on_cons (λ n. n < 256) (omega arith) (λ n m. choose_small c (λ e m. h e (there m)) n m) n m
choose_small (over s l k c) h n m = on_cons (λ n. n < 256) (omega arith) (λ n m. choose_small c (λ e m. h e (there m)) n m) n m

desks_small : (os : List Outcome) → ((o : Outcome) → Mem o os → number_of o < 256) → (d : Desk) → Mem d (map desk_of os) → d.number < 256
desks_small [] s d m = elim m [ ]
desks_small (o ∷ os) s d m = on_cons (λ d. d.number < 256) (own o (s o (here refl))) (desks_small os (λ o m. s o (there m))) d m
  where
    own : (o : Outcome) → number_of o < 256 → (desk_of o).number < 256
    own (refused k) h = h
    own (accepted ws) h = h

-- what a desk is answered by itself: a refusal has a number, and a reply says its length
abbrev pub Says : Outcome → Type 0
Says (refused k) = k ≡ 0 → ⊥
Says (accepted ws) = Sized ws

-- so what is put in says its length
put_sized : (taken : ℕ) (os : List Outcome) → ((o : Outcome) → Mem o os → Says o) → (f : List ℕ) → Mem f (put_in (choose taken (map desk_of os)) (map reply_of os)) → Sized f
put_sized taken [] t f m = elim m [ ]
put_sized taken (refused k ∷ os) t f m =
    let d = desk_of (refused k) in
    let z = t (refused k) (here refl) in
    put_sized taken os (λ o m. t o (there m)) f (
    rw (choose_other taken d (map desk_of os) (refused_desk d z).1, put_out [] (map reply_of os) (choose taken (map desk_of os)) k z) at m)
put_sized taken (accepted ws ∷ os) t f m =
    let d = desk_of (accepted ws) in
    let ds = map desk_of os in
    let own = t (accepted ws) (here refl) in
    elim (cases d) [
      | refuses n s l ↦ absurd (n refl)
      | short n k s l ↦ on_cons Sized own (put_sized taken os (λ o m. t o (there m))) f (rw (choose_other taken d ds l) at m)
      | long n k s l ↦ elim (either (leb (taken + length ws) reply_words)) [
        | inl h ↦ on_cons Sized own (put_sized (taken + length ws) os (λ o m. t o (there m))) f (rw (choose_fits taken d ds l (leb-true _ _ h)) at m)
        | inr h ↦ put_sized taken os (λ o m. t o (there m)) f (rw (choose_over taken d ds l (leb-false _ _ h)) at m)
      ]
    ]

module _ (os : List Outcome) (n m : ℕ) (small : (o : Outcome) → Mem o os → number_of o < 256) where
  numbers_small : (k : ℕ) → Mem k (numbers_of os) → k < 256
  unfolding numbers
  numbers_small = choose_small (chosen _ (map desk_of os)) (desks_small os small)

  -- each desk's number stands in its byte
  pub desk_byte : (i : ℕ) → byte_at i (leaves_shared os n m).number ≡ get_or (numbers_of os) i 0
  desk_byte i = packed_byte i (numbers_of os) numbers_small

  -- and with number 0 it finds its reply
  module _ (says : (o : Outcome) → Mem o os → Says o) where
    all_sized : (f : List ℕ) → Mem f (put_in (numbers_of os) (map reply_of os)) → Sized f
    unfolding numbers
    all_sized = put_sized _ os says

    pub desk_served : (i : ℕ) (ws : List ℕ) → i < length os → get_or os i (accepted []) ≡ accepted ws → get_or (numbers_of os) i 0 ≡ 0 → Served (leaves_shared os n m) i ws
    desk_served i ws h e z = record {
      told = desk_byte i ∙ z;
      finds =
          found i (numbers_of os) (map reply_of os) _ (omega (arith, length-map os reply_of)) (numbers_length os ∙ sym (length-map os reply_of)) numbers_small all_sized z
          ∙ ap bytes_of (get_or-map reply_of os i (accepted []) ∙ ap reply_of e);
    }

-- ---- desks past the last path: 0 and no words change nothing

abbrev pub none_asked : ℕ → List Outcome
none_asked k = replicate k (accepted [])

words_past : (k : ℕ) (ds : List Desk) → words_in is_short (ds ++ map desk_of (none_asked k)) ≡ words_in is_short ds
words_past k ds = omega (arith, words_append is_short ds (map desk_of (none_asked k)), none_short k)
  where
    none_short : (k : ℕ) → words_in is_short (map desk_of (none_asked k)) ≡ 0
    none_short zero = refl
    none_short (suc k) = omega (arith, none_short k)

choose_past : (taken k : ℕ) → choose taken (map desk_of (none_asked k)) ≡ replicate k 0
choose_past taken zero = refl
choose_past taken (suc k) = ap (0 ∷◌) (choose_past taken k)

pub numbers_past : (os : List Outcome) (k : ℕ) → numbers_of (os ++ none_asked k) ≡ numbers_of os ++ replicate k 0
unfolding numbers
numbers_past os k =
    let ds = map desk_of os in
    rw (map_append desk_of os (none_asked k), words_past k ds)
    (choose_append (words_in is_short ds) ds (map desk_of (none_asked k)) ∙ ap (choose (words_in is_short ds) ds ++◌) (choose_past (taken_behind (words_in is_short ds) ds) k))

pub packed_past : (ns : List ℕ) (k : ℕ) → packed (ns ++ replicate k 0) ≡ packed ns
packed_past [] zero = refl
packed_past [] (suc k) = omega (arith, packed_past [] k)
packed_past (n ∷ ns) k = ap (λ p. n + 256 * p) (packed_past ns k)

put_past : (ns : List ℕ) (rs : List (List ℕ)) (k : ℕ) → length ns ≡ length rs → flatten (put_in (ns ++ replicate k 0) (rs ++ map reply_of (none_asked k))) ≡ flatten (put_in ns rs)
unfolding flatten
put_past [] [] zero e = refl
put_past [] [] (suc k) e = put_past [] [] k e
put_past [] (r ∷ rs) k e = absurd (omega arith)
put_past (n ∷ ns) [] k e = absurd (omega arith)
put_past (zero ∷ ns) (r ∷ rs) k e = ap (r ++◌) (put_past ns rs k (omega arith))
put_past (suc n ∷ ns) (r ∷ rs) k e = put_past ns rs k (omega arith)

pub shared_past : (os : List Outcome) (k : ℕ) → shared (os ++ none_asked k) ≡ shared os
shared_past os k =
    rw (numbers_past os k, map_append reply_of os (none_asked k)) (put_past (numbers_of os) (map reply_of os) k (numbers_length os ∙ sym (length-map os reply_of)))

pub leaves_past : (os : List Outcome) (k n m : ℕ) → leaves_shared (os ++ none_asked k) n m ≡ leaves_shared os n m
leaves_past os k n m = λ i. left ((ap packed (numbers_past os k) ∙ packed_past (numbers_of os) k) i) (padded n (shared_past os k i)) (zeros m)

-- ---- a refusal at every desk

pub refused_shared : (k : ℕ) (ns : List ℕ) → shared (map (λ n. refused (suc k)) ns) ≡ []
unfolding numbers flatten
refused_shared k ns = ap flatten (go _ ns)
  where
    go : (taken : ℕ) (ns : List ℕ) → put_in (choose taken (map desk_of (map (λ n. refused (suc k)) ns))) (map reply_of (map (λ n. refused (suc k)) ns)) ≡ []
    go taken [] = refl
    go taken (n ∷ ns) =
        let d = desk_of (refused (suc k)) in
        rw (choose_other taken d (map desk_of (map (λ n. refused (suc k)) ns)) (refused_desk d (λ z. omega arith)).1) (go taken ns)
