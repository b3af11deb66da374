-- Laws of one desk's turn, in either round. Assumes nothing.
use mathlib.Core.Path.{◌≡◌, refl, sym, ◌∙◌, ap, subst}
use mathlib.Core.Bool.{Bool, true, false, ◌&&◌}
use mathlib.Core.List.{List, append-nil}
use Prim.Native.Nat.{ℕ, suc, ◌+◌, ◌-◌, ◌*◌, ◌≤◌, ◌<◌, min}
use native.Mathlib.Omega.{arith}
use borrow.Author.Tests.{eqb-true, leb-true, leb-false, le-leb, lt-leb}
use lib.Dec.{T, eqb, leb}
use lib.ListN.{length}
use Rattle.sets.proofs.Cases.{clash}
use Rattle.files.specs.Limits.{reply_words}
use Rattle.files.specs.Outcome.{padded}
use Rattle.path_bundles.specs.Place.{file_at}
use Rattle.visits.specs.Answered.{Own, own, PathAsked}
use Rattle.visits.proofs.Visiting.{own_small}
use Rattle.choices.specs.Choice.{short_words}
use Rattle.desks.specs.declared.stand.Stand.{Stand}
use Rattle.desks.specs.Owns.{size_of_own, short_part}
use Rattle.desks.specs.Stands.{Settles, Erased}
use Rattle.desks.specs.Turns.{Puts, layable, Lays, MayChoose, Gets, Chooses}
use Rattle.desks.proofs.Owning.{short, long, sort, offered_short, offered_fits, offered_over}

-- ---- a path is asked, behind the words that stand

-- f is the file of an index, and k where its reply ends
pub file_asked : {whole n at number end k : ℕ} {part groups f out out' : List ℕ} (i : ℕ) (paths : List ℕ) → f ≡ file_at i paths
    → PathAsked whole part groups f n out at out' number k → end ≡ k → PathAsked whole part groups (file_at i paths) n out at out' number end
file_asked i paths e a d = rw (d, ← e) a

module _ {whole n at number end : ℕ} {part groups path out out' : List ℕ} (a : PathAsked whole part groups path n out at out' number end) where
  abbrev x : Own
  x = own whole part groups path

  pub asked_small : whole < 256 → number < 256
  asked_small h = omega (arith, a.number_is, own_small whole part groups path h)

  -- where it ends
  pub asked_ends : end ≡ min (at + size_of_own x) (suc reply_words)
  asked_ends = a.extends.ends

  pub asked_puts : at + size_of_own x ≤ reply_words → Puts n at out out' x.reply
  asked_puts l ws q z = a.extends.joined ws q z l

  -- and taken away again
  pub asked_erased : {o : List ℕ} → Erased at out' o → length out' ≡ n → (ws : List ℕ) → length ws ≡ at → out ≡ padded n ws → o ≡ padded n ws
  asked_erased e l ws q z = e.is ∙ rw (a.extends.kept ws q z, l, ← q)

-- ---- the first round

-- the test that the code makes is that of the words
test_same : (i come at size end : ℕ) (next : ℕ) → end ≡ min (at + size) (suc reply_words)
    → (eqb next i && leb (end + short_words * come) reply_words) ≡ (eqb next i && leb (at + size + short_words * come) reply_words)
test_same i come at size end next e = ap (λ t. eqb next i && t) (by (leb (at + size + short_words * come) reply_words) refl)
  where
    by : (t : Bool) → leb (at + size + short_words * come) reply_words ≡ t → leb (end + short_words * come) reply_words ≡ leb (at + size + short_words * come) reply_words
    by true t = le-leb (end + short_words * come) reply_words (omega (arith, e, leb-true (at + size + short_words * come) reply_words t)) ∙ sym t
    by false t = lt-leb (end + short_words * come) reply_words (omega (arith, e, leb-false (at + size + short_words * come) reply_words t)) ∙ sym t

pub both_true : (a b : Bool) → (a && b) ≡ true → (a ≡ true) × (b ≡ true)
both_true true b e = (refl, e)
both_true false b e = absurd (subst T (sym e) tt)

pub next_here : (next i : ℕ) (b : Bool) → (eqb next i && b) ≡ true → next ≡ i
next_here next i b t = eqb-true next i (both_true (eqb next i) b t).0

module _ (i come : ℕ) (s : Stand) {whole n number end : ℕ} {part groups path out out' : List ℕ}
    (a : PathAsked whole part groups path n out s.words out' number end) where
  abbrev y : Own
  y = own whole part groups path

  same : (eqb s.next i && leb (end + short_words * come) reply_words) ≡ layable s i (size_of_own y) come
  same = test_same i come s.words (size_of_own y) end s.next (asked_ends a)

  pub lays_in : (eqb s.next i && leb (end + short_words * come) reply_words) ≡ true → {r : Stand} → Settles s number end 0 r → Lays y i come n s out r out'
  lays_in t {r} f =
      let l : end + short_words * come ≤ reply_words = leb-true _ _ (both_true (eqb s.next i) _ t).1 in
      let e : end ≡ s.words + size_of_own y = omega (arith, asked_ends a) in
      record {
        laid = λ b. (rw (← e, ← a.number_is) f, asked_puts a (omega (arith, e)));
        measured = λ b. absurd (clash (sym same ∙ t) b);
      }

  pub lays_out : (eqb s.next i && leb (end + short_words * come) reply_words) ≡ false → {k : ℕ} {o : List ℕ} → Erased s.words out' o → length out' ≡ n
      → k ≡ short_part (end - s.words) → Lays y i come n s out (record { numbers = s.numbers; next = s.next; words = s.words; later = s.later + k }) o
  lays_out t {k} e l q = record {
    laid = λ b. absurd (clash b (sym same ∙ t));
    measured = λ b h. (refl, refl, refl, ap (s.later +◌) (q ∙ measured h), asked_erased a e l);
  }
    where
      measured : s.words + short_words ≤ reply_words → short_part (end - s.words) ≡ short_part (size_of_own y)
      measured h = elim (sort (size_of_own y)) [
        | short b t p q ↦ let e : end - s.words ≡ size_of_own y = omega (arith, asked_ends a) in ap short_part e
        | long b t p q ↦ elim (sort (end - s.words)) [ short c t p' q' ↦ absurd (omega (arith, asked_ends a)) | long c t p' q' ↦ p' ∙ sym p ]
      ]

-- ---- the second round

module _ {whole n number end : ℕ} {part groups path out out' : List ℕ} {s : Stand}
    (a : PathAsked whole part groups path n out s.words out' number end) (m : MayChoose (own whole part groups path) n s) where
  abbrev z : Own
  z = own whole part groups path

  module _ (t : (leb end reply_words && leb (end - s.words) short_words) ≡ true) where
    fits : (end ≤ reply_words) × (end - s.words ≤ short_words)
    fits = let (p, q) = both_true (leb end reply_words) _ t in (leb-true _ _ p, leb-true _ _ q)

    is_short_lem : size_of_own z ≤ short_words
    is_short_lem = omega (arith, fits, asked_ends a)

    short_is : short_part (size_of_own z) ≡ size_of_own z
    short_is = elim (sort (size_of_own z)) [ short h t p q ↦ p | long h t p q ↦ absurd (omega (arith, is_short_lem)) ]

    pub short_kept : end - s.words ≤ s.later
    short_kept = omega (arith, asked_ends a, fits, m.kept, short_is)

    pub gets_short : {r : Stand} → Settles s number end (s.later - (end - s.words)) r → Chooses z n s out r out'
    gets_short {r} f =
        let e : end ≡ s.words + size_of_own z = omega (arith, asked_ends a, fits) in
        let d : end - s.words ≡ short_part (size_of_own z) = omega (arith, e, short_is) in
        subst (λ y. Gets z y n s out r out') (sym (offered_short (s.words + s.later) z is_short_lem))
        (record { settles = rw (← e, ← a.number_is, ← d) f; puts = asked_puts a (omega (arith, e, fits)) })

  -- otherwise it is long
  module _ (t : (leb end reply_words && leb (end - s.words) short_words) ≡ false) where
    is_long_lem : short_words < size_of_own z
    is_long_lem = elim (sort (size_of_own z)) [
      | short h i p q ↦
          let e : end ≡ s.words + size_of_own z = omega (arith, asked_ends a, m.kept, m.room, p) in
          let b : leb end reply_words ≡ true = le-leb end reply_words (omega (arith, e, m.kept, m.room, p)) in
          let c : leb (end - s.words) short_words ≡ true = le-leb (end - s.words) short_words (omega (arith, e)) in
          absurd (clash (ap (◌&& leb (end - s.words) short_words) b ∙ c) t)
      | long h i p q ↦ h
    ]

    none_short : s.later - short_part (size_of_own z) ≡ s.later
    none_short = elim (sort (size_of_own z)) [ short h i p q ↦ absurd (omega (arith, is_long_lem)) | long h i p q ↦ omega (arith, p) ]

    pub gets_long : {r : Stand} → end + s.later ≤ reply_words → Settles s number end s.later r → Chooses z n s out r out'
    gets_long {r} l f =
        let e : end ≡ s.words + size_of_own z = omega (arith, asked_ends a) in
        subst (λ y. Gets z y n s out r out') (sym (offered_fits (s.words + s.later) z is_long_lem (omega (arith, e))))
        (record { settles = rw (← e, ← a.number_is, none_short) f; puts = asked_puts a (omega (arith, e)) })

    pub gets_nothing : {o : List ℕ} {r : Stand} → reply_words < end + s.later → Erased s.words out' o → length out' ≡ n → Settles s 15 s.words s.later r → Chooses z n s out r o
    gets_nothing {o} {r} l e q f =
        let w : s.words + 0 ≡ s.words = omega arith in
        subst (λ y. Gets z y n s out r o) (sym (offered_over (s.words + s.later) z is_long_lem (omega (arith, asked_ends a))))
        (record { settles = rw (w, none_short) f; puts = λ ws i h. asked_erased a e q ws i h ∙ ap (padded n) (sym (append-nil ws)) })
