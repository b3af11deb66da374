-- Laws of the frame of every call, for any checks x, limit and result. Assumes nothing.
use mathlib.Core.Path.{◌≡◌, refl, sym, ◌∙◌, ap, ap₂}
use mathlib.Core.Bool.{Bool, true, false}
use mathlib.Core.List.{List, [], ◌∷◌}
use Prim.Native.Nat.{ℕ, zero, suc, ◌-◌, ◌*◌, ◌%◌, ◌^◌, ◌≤◌, ◌<◌}
use native.Mathlib.Omega.{arith}
use borrow.Author.Tests.{leb-true, leb-false, le-leb, lt-leb}
use lib.Dec.{leb}
use lib.ListN.{length, length-replicate}
use lib.Seq.{take_all}
use Rattle.files.specs.Word.{put_word}
use Rattle.files.specs.Field.{file, header_word}
use Rattle.files.specs.Refuse.{◌then◌, ◌unless◌, room_check, size_check}
use Rattle.files.specs.Outcome.{Outcome, refused, accepted, outcome, zeros, left, leaves, left_lent, lent_by, leaves_lent}
use Rattle.files.proofs.Checks.{checks, then_iff, then_assoc, refused_first, passed_first, outcome_gives, outcome_over, code_some, ok_zero}
use Rattle.files.proofs.Words.{words_length}
use Rattle.files.specs.Limits.{final_words, work_bytes}
use Rattle.output.specs.Writer.{Written, Writes, Filed}
use Rattle.output.specs.Frame.{Check, input, also, ◌thenAll◌, Checked, RoomFor, InputRead, InputsRead, Passed, closed_at, Closes, Responds, withheld, settled}
use Rattle.output.proofs.Writing.{written_all, written_long, padded_head}

-- The checks, for the proof of a call's `check`

-- r is the number of c and of the checks behind it
pub record FirstNumber (c : ℕ) (cs : List Check) (r : ℕ) : Type 0 where
  pub is : r ≡ (c thenAll cs)

pub checked : {limit out work : ℕ} {cs : List Check} {r : ℕ} → FirstNumber (room_check limit out work) cs r → Checked limit out work cs r
checked f = record { is = f.is }

-- n, a callee's answer for c, refuses
pub check_refuses : {c : ℕ} (cs : List Check) {n : ℕ} → n ≡ c → (n ≡ 0 → ⊥) → FirstNumber c cs n
check_refuses [] e h = record { is = e }
check_refuses {c} (input most s d ∷ cs) e h = record { is = refused_first c _ h e }
check_refuses {c} (also d ∷ cs) e h = record { is = refused_first c _ h e }

then_all : (a b : ℕ) (cs : List Check) → ((a then b) thenAll cs) ≡ (a then (b thenAll cs))
then_all a b [] = refl
then_all a b (input most s c ∷ cs) = then_assoc a b _
then_all a b (also c ∷ cs) = then_assoc a b _

-- n passes, and the next check stands
pub check_passes : {c most : ℕ} {s : List ℕ} {d : ℕ} {cs : List Check} {n r : ℕ} → n ≡ c → n ≡ 0 → FirstNumber (size_check most s then d) cs r
    → FirstNumber c (input most s d ∷ cs) r
check_passes {c} {most} {s} {d} {cs} e z f = record { is = passed_first c _ z e (f.is ∙ then_all (size_check most s) d cs) }

pub check_also : {c d : ℕ} {cs : List Check} {n r : ℕ} → n ≡ c → n ≡ 0 → FirstNumber d cs r → FirstNumber c (also d ∷ cs) r
check_also {c} e z f = record { is = passed_first c _ z e f.is }

pub check_last : {c n : ℕ} → n ≡ c → FirstNumber c [] n
check_last e = record { is = e }

pub ruleset checking = (checked, check_refuses, check_passes, check_also, check_last, code_some, ok_zero)

-- What passed checks say

room_is : (limit out work : ℕ) {l m : ℕ} → room_check limit out work ≡ 0 → l ≡ out → m ≡ work → RoomFor limit l m
room_is limit out work e p q = let r = simp checks at e in record { holds = omega (arith, r.0); works = omega (arith, r.1) }

pub read_is : (most : ℕ) (s : List ℕ) {c : ℕ} → size_check most s ≡ 0 → c ≡ 0 → InputRead most s c
read_is most s e z =
    let k = simp checks at e in
    record { some = omega (arith, words_length s, k.0.0, k.0.1); few = omega (arith, words_length s, k.1); size = k.1; sized = e; read = z }

-- for a callee within `check`: the working buffer is long enough, an input is accepted
pub works : (limit out work : ℕ) {n l k : ℕ} → n ≡ 0 → n ≡ room_check limit out work → l ≡ work → k ≤ work_bytes → k ≤ l
works limit out work z e q h = omega (arith, (room_is limit out work (sym e ∙ z) refl q).works, h)

pub accepts : (most : ℕ) (s : List ℕ) (c : ℕ) {n : ℕ} → n ≡ 0 → n ≡ (size_check most s then c) → c ≡ 0
accepts most s c z e = ((then_iff (size_check most s) c).0 (sym e ∙ z)).1

-- for the writer: all passed
reads : (n : ℕ) (cs : List Check) → (n thenAll cs) ≡ 0 → (n ≡ 0) × InputsRead cs
reads n [] e = (e, tt)
reads n (input most s c ∷ cs) e =
    let (a, t) = (then_iff n _).0 e in
    let (b, u) = (then_iff (size_check most s) _).0 t in
    let (d, v) = reads c cs u in
    (a, (read_is most s b d, v))
reads n (also c ∷ cs) e = let (a, t) = (then_iff n _).0 e in (a, reads c cs t)

pub passed : {limit out work : ℕ} {cs : List Check} {n l m : ℕ} → n ≡ 0 → Checked limit out work cs n → l ≡ out → m ≡ work → Passed limit l m cs
passed {limit} {out} {work} {cs} z e p q =
    let (a, t) = reads (room_check limit out work) cs (sym e.is ∙ z) in
    record { room = room_is limit out work a p q; read = t }

-- The file is written: behind the header's place in a cleared output, and closed

opened : (limit n : ℕ) {o : List ℕ} → 0 < limit → 4 ≤ n → o ≡ zeros n → Written limit n (0 ∷ []) o 1
opened limit n l h e =
    let k : suc (suc (suc (suc (n - 4)))) ≡ n = omega arith in
    record { out_is = e ∙ rw (take_all {A = ℕ} limit (0 ∷ []) (omega arith)) (ap zeros (sym k)); counted = omega arith }

-- for the proof of `close_at`
pub closed_at_lem : (kind site n limit at end : ℕ) (out : List ℕ) {out' : List ℕ} {h : ℕ} → end ≤ limit → h ≡ header_word kind site n ((end - at) % 2 ^ 14)
    → out' ≡ put_word out at h → out' ≡ closed_at kind site n limit at end out
closed_at_lem kind site n limit at end out l k e = e ∙ rw (le-leb end limit l, k)

-- for the proof of `close`
pub closes : (kind site n limit : ℕ) (out : List ℕ) (count : ℕ) {out' : List ℕ} {r : ℕ} → 0 < limit → limit ≤ final_words → 4 * limit ≤ length out
    → out' ≡ closed_at kind site n limit 0 count out → r ≡ (15 unless leb count limit) → Closes kind site n limit out count out' r
closes kind site n limit out count {out'} {r} some small room e q = record { fits = (some, room); closed = λ body w. by body w (leb count limit) refl }
  where
    by : (body : List ℕ) → Written limit (length out) (0 ∷ body) out count → (t : Bool) → leb count limit ≡ t → Filed limit (length out) (file kind site n body) out' r
    by body w true t =
        let (all, short, counted) = written_all limit (length out) (0 ∷ body) (leb-true count limit t) w in
        let i : (count - 0) % 2 ^ 14 ≡ suc (length body) = omega (arith, counted, short) in
        record {
          number = q ∙ rw (t, le-leb (suc (length body)) limit short);
          written = λ a. e ∙ rw (t, i) (ap (λ o. put_word o 0 (header_word kind site n (suc (length body)))) all ∙ padded_head (length out) 0 (header_word kind site n (suc (length body))) body);
        }
    by body w false t =
        let l : limit < suc (length body) = written_long limit (length out) (0 ∷ body) (leb-false count limit t) w in
        record { number = q ∙ rw (t, lt-leb (suc (length body)) limit l); written = λ a. absurd (omega arith) }

-- for its callers: of an output of m bytes, o₁ is cleared, o₂ has the body, o₃ is closed
pub filed : {kind site n limit m : ℕ} (body : List ℕ) {o₁ o₂ o₃ : List ℕ} {count r : ℕ} → Closes kind site n limit o₂ count o₃ r
    → Writes limit (length o₁) o₁ 1 o₂ count body → o₁ ≡ zeros m → length o₂ ≡ m → Filed limit m (file kind site n body) o₃ r
filed {limit = limit} {m = m} body {o₂ = o₂} {count = count} f g z q =
    let p = ap length z ∙ length-replicate m 0 in
    let w : Written limit (length o₂) (0 ∷ body) o₂ count = rw (q, ← p) (g (0 ∷ []) (rw p (opened limit m f.fits.0 (omega (arith, f.fits)) z))) in
    let c = f.closed body w in
    rw q at c

-- The call has answered

-- a check refused
pub answer_refused : (x limit : ℕ) (result : List ℕ) (n : ℕ) {k : ℕ} (out : List ℕ) → k ≡ x → (k ≡ 0 → ⊥) → Responds (outcome x limit result) n out k
answer_refused x limit result n {k} out c h = rw (← c) (by k h)
  where
    by : (k : ℕ) → (k ≡ 0 → ⊥) → Responds (outcome k limit result) n out k
    by zero h = absurd (h refl)
    by (suc k) h = record { number = refl; output = λ z. absurd (omega arith) }

-- all checks passed, and the result is filed
pub answer_filed : (x limit : ℕ) (result : List ℕ) (n : ℕ) {k : ℕ} {out : List ℕ} {r : ℕ} → k ≡ x → k ≡ 0 → Filed limit n result out r
    → Responds (outcome x limit result) n out r
answer_filed x limit result n {k} {out} {r} c z f = rw (← c, z) (by (leb (length result) limit) refl)
  where
    by : (t : Bool) → leb (length result) limit ≡ t → Responds (outcome 0 limit result) n out r
    by true t = let l = leb-true _ _ t in rw (outcome_gives limit result l) (record { number = f.number ∙ rw t; output = λ e. f.written l })
    by false t =
        let j : r ≡ 15 = f.number ∙ rw t in
        rw (outcome_over limit result (leb-false _ _ t)) (record { number = j; output = λ e. absurd (omega (arith, j)) })

pub ruleset answering = (passed, answer_refused, answer_filed, code_some, ok_zero)

-- The call is settled

-- an output: after a refusal it is zero, else as it was answered
pub withholds : {o : Outcome} {n k : ℕ} (out : List ℕ) {a : List ℕ} → Responds o n out k → length out ≡ n → a ≡ withheld k out → a ≡ (leaves o n 0).output
unfolding withheld
withholds {o} {n} {k} out f p e = e ∙ by o k f
  where
    by : (o : Outcome) (k : ℕ) → Responds o n out k → withheld k out ≡ (leaves o n 0).output
    by o zero f = f.output refl
    by (refused j) (suc k) f = ap zeros p
    by (accepted ws) (suc k) f = let z : suc k ≡ 0 = f.number in absurd (omega arith)

pub settles : {o : Outcome} {n m k r : ℕ} (out work : List ℕ) {a b : List ℕ} → Responds o n out k → length out ≡ n → length work ≡ m
    → left r a b ≡ settled k out work → left r a b ≡ leaves o n m
unfolding settled
settles {o} {n} {m} out work f p q e = e ∙ rw (withholds out f p refl, f.number, q) (by o)
  where
    by : (o : Outcome) → left (leaves o n 0).number (leaves o n 0).output (zeros m) ≡ leaves o n m
    by (refused j) = refl
    by (accepted ws) = refl

-- A call that is lent a number: after a refusal it is as it was kept, after acceptance as it is given back

pub lent_kept : (x limit : ℕ) (result : List ℕ) (kept given : ℕ) {k : ℕ} → k ≡ x → (k ≡ 0 → ⊥) → kept ≡ lent_by (outcome x limit result) kept given
lent_kept zero limit result kept given c h = absurd (h c)
lent_kept (suc x) limit result kept given c h = refl

pub lent_given : (x limit : ℕ) (result : List ℕ) (kept given : ℕ) {k : ℕ} → k ≡ x → k ≡ 0 → length result ≤ limit → given ≡ lent_by (outcome x limit result) kept given
lent_given x limit result kept given c z l = rw (← c, z, outcome_gives limit result l)

pub settles_lent : {o : Outcome} {n m k r s : ℕ} (kept given : ℕ) (out work : List ℕ) {a b : List ℕ} → Responds o n out k × (s ≡ lent_by o kept given) → length out ≡ n
    → length work ≡ m → left r a b ≡ settled k out work → left_lent s (left r a b) ≡ leaves_lent o kept given n m
settles_lent kept given out work (f, e) p q d = ap₂ left_lent e (settles out work f p q d)
