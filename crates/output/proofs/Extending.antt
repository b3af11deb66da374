-- Laws of files that are written behind words that stand: a place for the header, the body, and the header at its place. Assumes nothing.
use mathlib.Core.Path.{◌≡◌, refl, sym, ◌∙◌, ap}
use mathlib.Core.Bool.{Bool, true, false}
use mathlib.Core.List.{List, [], ◌∷◌, ◌++◌, append-nil, append_assoc}
use Prim.Native.Nat.{ℕ, suc, ◌+◌, ◌-◌, ◌*◌, ◌%◌, ◌^◌, ◌≤◌, min}
use native.Mathlib.Omega.{arith}
use borrow.Author.Tests.{leb-true, leb-false, le-leb, lt-leb}
use lib.Dec.{leb}
use lib.ListN.{length, take, length-append}
use lib.Seq.{take_at, take_all, take-append-add}
use Rattle.files.specs.Word.{bytes_of, put_word}
use Rattle.files.specs.Field.{header_word, file}
use Rattle.files.specs.Refuse.{◌unless◌}
use Rattle.files.specs.Limits.{final_words}
use Rattle.files.specs.Outcome.{zeros, padded}
use Rattle.files.proofs.Buffers.{padded_none}
use Rattle.files.proofs.Bytes.{bytes_append}
use Rattle.files.proofs.Words.{bytes_length}
use Rattle.output.specs.Writer.{Written, Counts, Writes, Extends, Filed}
use Rattle.output.specs.Frame.{closed_at}
use Rattle.output.proofs.Writing.{written_all}

-- a word in its place among others
put_among : (ws vs t : List ℕ) (v w : ℕ) → put_word (bytes_of (ws ++ v ∷ vs) ++ t) (length ws) w ≡ bytes_of (ws ++ w ∷ vs) ++ t
put_among [] vs t v w = refl
put_among (x ∷ ws) vs t v w = rw (put_among ws vs t v w)

pub padded_among : (n : ℕ) (ws vs : List ℕ) (v w : ℕ) → put_word (padded n (ws ++ v ∷ vs)) (length ws) w ≡ padded n (ws ++ w ∷ vs)
padded_among n ws vs v w =
    let e : n - 4 * length (ws ++ v ∷ vs) ≡ n - 4 * length (ws ++ w ∷ vs) = simp length-append refl in
    put_among ws vs (zeros (n - 4 * length (ws ++ v ∷ vs))) v w ∙ ap (λ k. bytes_of (ws ++ w ∷ vs) ++ zeros k) e

-- the bytes of the first words
pub padded_front : (n : ℕ) (ws vs : List ℕ) → take (4 * length ws) (padded n (ws ++ vs)) ≡ bytes_of ws
padded_front n ws vs =
    rw (bytes_append ws vs, append_assoc (bytes_of ws) (bytes_of vs) (zeros (n - 4 * length (ws ++ vs))))
    (take_at (bytes_of ws) (bytes_of vs ++ zeros (n - 4 * length (ws ++ vs))) (4 * length ws) (bytes_length ws))

-- a zero word more is no change: it is the header's place
padded_zero : (n : ℕ) (ws : List ℕ) → 4 * suc (length ws) ≤ n → padded n (ws ++ 0 ∷ []) ≡ padded n ws
padded_zero n ws h =
    let k : suc (suc (suc (suc (n - 4 * suc (length ws))))) ≡ n - 4 * length ws = omega arith in
    let e : n - 4 * length (ws ++ 0 ∷ []) ≡ n - 4 * suc (length ws) = simp length-append (omega arith) in
    rw (e, bytes_append ws (0 ∷ []), append_assoc (bytes_of ws) (bytes_of (0 ∷ [])) (zeros (n - 4 * suc (length ws))), ← k)

opened_behind : (limit n : ℕ) (ws : List ℕ) {out : List ℕ} → length ws ≤ limit → 4 * limit ≤ n → out ≡ padded n ws → Written limit n (ws ++ 0 ∷ []) out (length ws + 1)
opened_behind limit n ws h room e = record {
  out_is = e ∙ by (leb (length ws + 1) limit) refl;
  counted = simp length-append (omega arith);
}
  where
    by : (t : Bool) → leb (length ws + 1) limit ≡ t → padded n ws ≡ padded n (take limit (ws ++ 0 ∷ []))
    by true t =
        let l : suc (length ws) ≤ limit = omega (arith, leb-true (length ws + 1) limit t) in
        sym (padded_zero n ws (omega arith)) ∙ ap (padded n) (sym (take_all limit (ws ++ 0 ∷ []) (simp length-append (omega arith))))
    by false t =
        let l : limit ≡ length ws = omega (arith, leb-false (length ws + 1) limit t) in
        ap (padded n) (sym (take_at ws (0 ∷ []) limit (sym l)))

-- what is counted from the word behind the header's place on ends behind it
pub past_start : {limit at end : ℕ} (k : ℕ) → at ≤ limit → Counts limit (at + 1) k end → at ≤ end
past_start {at = at} k h c = omega (arith, c (at + 1) (omega arith))

-- a file is behind the words that stood in o₁, where o₂ has its body and o₃ its header
pub extended : (kind site k limit at : ℕ) (body : List ℕ) {o₁ o₂ o₃ : List ℕ} {end : ℕ} → at ≤ limit → limit ≤ final_words → 4 * limit ≤ length o₁
    → Writes limit (length o₁) o₁ (at + 1) o₂ end body → Counts limit (at + 1) (length body) end → o₃ ≡ closed_at kind site k limit at end o₂
    → Extends limit (length o₁) o₁ at (file kind site k body) o₃ end
extended kind site k limit at body {o₁} {o₂} {o₃} {end} h small room g c e = record {
  ends = ends;
  joined = λ ws q z fit. e ∙ joined ws q z fit;
  kept = λ ws q z. ap (take (4 * at)) e ∙ by ws q z (leb end limit) refl;
}
  where
    n : ℕ
    n = length o₁

    ends : end ≡ min (at + suc (length body)) (suc limit)
    ends = omega (arith, c (at + 1) (omega arith))

    stood : (ws : List ℕ) → length ws ≡ at → o₁ ≡ padded n ws → Written limit n (ws ++ 0 ∷ body) o₂ end
    stood ws q z =
        let w : Written limit n (ws ++ 0 ∷ []) o₁ (at + 1) = rw q at (opened_behind limit n ws (omega (arith, q)) room z) in
        rw (append_assoc ws (0 ∷ []) body) at (g (ws ++ 0 ∷ []) w)

    joined : (ws : List ℕ) → length ws ≡ at → o₁ ≡ padded n ws → at + suc (length body) ≤ limit → closed_at kind site k limit at end o₂ ≡ padded n (ws ++ file kind site k body)
    joined ws q z fit =
        let (all, _, _) = written_all limit n (ws ++ 0 ∷ body) (omega (arith, ends)) (stood ws q z) in
        let s : (end - at) % 2 ^ 14 ≡ suc (length body) = omega (arith, ends) in
        rw (le-leb end limit (omega (arith, ends)), s, ← q, all) (padded_among n ws body 0 (header_word kind site k (suc (length body))))

    by : (ws : List ℕ) → length ws ≡ at → o₁ ≡ padded n ws → (t : Bool) → leb end limit ≡ t → take (4 * at) (closed_at kind site k limit at end o₂) ≡ bytes_of ws
    by ws q z true t =
        rw (joined ws q z (omega (arith, ends, leb-true end limit t)), ← q) (padded_front n ws (file kind site k body))
    by ws q z false t =
        let more : ℕ = limit - length ws in
        let d : length ws + more ≡ limit = omega (arith, q) in
        let f : take limit (ws ++ 0 ∷ body) ≡ ws ++ take more (0 ∷ body) = ap (λ i. take i (ws ++ 0 ∷ body)) (sym d) ∙ take-append-add ws (0 ∷ body) more in
        rw (t, (stood ws q z).out_is, f, ← q) (padded_front n ws (take more (0 ∷ body)))

-- behind none, in a cleared output, the file is filed
pub extends_filed : {limit m : ℕ} (result : List ℕ) {o₁ o₂ : List ℕ} {end r : ℕ} → Extends limit (length o₁) o₁ 0 result o₂ end → o₁ ≡ zeros m → length o₁ ≡ m
    → r ≡ (15 unless leb end limit) → Filed limit m result o₂ r
extends_filed {limit} {m} result {end = end} f z q e = record {
  number = e ∙ by (leb end limit) refl;
  written = λ l. rw q at (f.joined [] refl (z ∙ sym (rw q (padded_none m))) (omega arith));
}
  where
    by : (t : Bool) → leb end limit ≡ t → (15 unless leb end limit) ≡ (15 unless leb (length result) limit)
    by true t = rw (t, le-leb (length result) limit (omega (arith, f.ends, leb-true end limit t)))
    by false t = rw (t, lt-leb (length result) limit (omega (arith, f.ends, leb-false end limit t)))

-- no words behind
pub extends_none : (limit : ℕ) (out : List ℕ) (at : ℕ) → at ≤ limit → Extends limit (length out) out at [] out at
extends_none limit out at h = record {
  ends = omega arith;
  joined = λ ws q z fit. z ∙ ap (padded (length out)) (sym (append-nil ws));
  kept = λ ws q z. ap (take (4 * at)) (z ∙ ap (padded (length out)) (sym (append-nil ws))) ∙ rw (← q) (padded_front (length out) ws []);
}
