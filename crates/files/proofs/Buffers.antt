-- Laws of buffers: words put one after another in front of zeros.
-- Assumes nothing.
use mathlib.Core.Path.{◌≡◌, refl}
use mathlib.Core.List.{List, [], ◌∷◌, ◌++◌}
use Prim.Native.Nat.{ℕ, suc, ◌-◌, ◌*◌, ◌≤◌}
use native.Mathlib.Omega.{arith}
use lib.ListN.{length, length-append, length-replicate}
use Rattle.files.specs.Word.{bytes_of, put_word}
use Rattle.files.proofs.Words.{bytes_length}
use Rattle.files.specs.Outcome.{zeros, padded}

pub padded_none : (n : ℕ) → padded n [] ≡ zeros n
padded_none n = let e : n - 0 ≡ n = omega arith in rw e

pub padded_length : (n : ℕ) (ws : List ℕ) → 4 * length ws ≤ n → length (padded n ws) ≡ n
padded_length n ws h = simp (length-append, length-replicate, bytes_length) (omega arith)

put_next : (ws t : List ℕ) (a b c d w : ℕ) → put_word (bytes_of ws ++ a ∷ b ∷ c ∷ d ∷ t) (length ws) w ≡ bytes_of (ws ++ w ∷ []) ++ t
put_next [] t a b c d w = refl
put_next (x ∷ ws) t a b c d w = rw (put_next ws t a b c d w)

-- one more word
pub padded_more : (n : ℕ) (ws : List ℕ) (w : ℕ) → 4 * suc (length ws) ≤ n → put_word (padded n ws) (length ws) w ≡ padded n (ws ++ w ∷ [])
padded_more n ws w h =
    let m : ℕ = n - 4 * suc (length ws) in
    let e : n - 4 * length ws ≡ suc (suc (suc (suc m))) = omega arith in
    let f : n - 4 * length (ws ++ w ∷ []) ≡ m = simp length-append (omega arith) in
    rw (e, f) (put_next ws (zeros m) 0 0 0 0 w)

-- zeros are as many as they are
pub zeros_all : (n : ℕ) {x : List ℕ} → x ≡ zeros n → x ≡ zeros (length x)
zeros_all n e = rw (e, length-replicate)
