-- Laws of words written one after another. Assumes nothing.
use mathlib.Core.Path.{◌≡◌, refl, sym, ◌∙◌, ap}
use mathlib.Core.List.{List, [], ◌∷◌, ◌++◌, append-nil, append_assoc}
use Prim.Native.Nat.{ℕ, suc, ◌+◌, ◌*◌, ◌≤◌, ◌<◌}
use native.Mathlib.Omega.{arith}
use lib.ListN.{length, take, length-append}
use lib.Seq.{take-append-le, take_all}
use Rattle.files.specs.Word.{put_word}
use Rattle.files.specs.Outcome.{padded}
use Rattle.files.proofs.Buffers.{padded_more}
use Rattle.output.specs.Writer.{Written, Puts, Counts, Writes}

module _ (limit n : ℕ) where
  -- one more word that fits
  pub written_more : (ws : List ℕ) (w : ℕ) {out out' : List ℕ} {count : ℕ} → count < limit → 4 * limit ≤ n → out' ≡ put_word out count w
      → Written limit n ws out count → Written limit n (ws ++ w ∷ []) out' (count + 1)
  written_more ws w {count = count} h room e r =
      let c : count ≡ length ws = omega (arith, r.counted) in
      let l : length (ws ++ w ∷ []) ≡ suc (length ws) = simp length-append (omega arith) in
      record {
        out_is =
            e ∙ rw (r.out_is, take_all limit ws (omega arith), c) (padded_more n ws w (omega arith))
            ∙ ap (padded n) (sym (take_all limit (ws ++ w ∷ []) (omega arith)));
        counted = omega arith;
      }

  -- a full buffer stays as it is, whatever follows
  pub put_full : (ws vs : List ℕ) {out : List ℕ} {count : ℕ} → limit ≤ count → Written limit n ws out count → out ≡ padded n (take limit (ws ++ vs))
  put_full ws vs h r = r.out_is ∙ ap (padded n) (sym (take-append-le limit ws vs (omega (arith, r.counted))))

  pub written_full : (ws vs : List ℕ) {out : List ℕ} {count : ℕ} → limit < count → Written limit n ws out count → Written limit n (ws ++ vs) out count
  written_full ws vs h r = record { out_is = put_full ws vs (omega arith) r; counted = omega (arith, r.counted, length-append ws vs) }

  -- what is not over the limit stands there entire
  pub written_all : (ws : List ℕ) {out : List ℕ} {count : ℕ} → count ≤ limit → Written limit n ws out count → (out ≡ padded n ws) × (length ws ≤ limit) × (count ≡ length ws)
  written_all ws h r =
      let l : length ws ≤ limit = omega (arith, r.counted) in
      (r.out_is ∙ ap (padded n) (take_all limit ws l), l, omega (arith, r.counted))

  -- words over the limit are more than the limit
  pub written_long : (ws : List ℕ) {out : List ℕ} {count : ℕ} → limit < count → Written limit n ws out count → limit < length ws
  written_long ws h r = omega (arith, r.counted)

-- the header, put in when the length is known
pub padded_head : (n v w : ℕ) (ws : List ℕ) → put_word (padded n (v ∷ ws)) 0 w ≡ padded n (w ∷ ws)
padded_head n v w ws = refl

-- words put, and counted
pub writes_counted : {limit n : ℕ} {a b : List ℕ} {i k r : ℕ} (vs : List ℕ) → Puts limit n a i b vs → Counts limit i k r → k ≡ length vs → Writes limit n a i b r vs
writes_counted vs f g e ws h = record { out_is = f ws h; counted = g (length ws) h.counted ∙ rw (e, length-append) }

-- words behind words

pub puts_more : {limit n : ℕ} {a b c : List ℕ} {i j : ℕ} (us vs : List ℕ) → Writes limit n a i b j us → Puts limit n b j c vs → Puts limit n a i c (us ++ vs)
puts_more us vs f g ws r = rw (← append_assoc) (g (ws ++ us) (f ws r))

pub writes_none : (limit n : ℕ) (out : List ℕ) (count : ℕ) → Writes limit n out count out count []
writes_none limit n out count ws r = rw append-nil r

pub writes_more : {limit n : ℕ} {a b c : List ℕ} {i j k : ℕ} (us vs : List ℕ) → Writes limit n a i b j us → Writes limit n b j c k vs → Writes limit n a i c k (us ++ vs)
writes_more us vs f g ws r = rw (← append_assoc) (g (ws ++ us) (f ws r))

-- the same, where the buffer between has its own length
pub behind : {limit n : ℕ} {a b c : List ℕ} {i j r : ℕ} (us vs : List ℕ) → Writes limit n a i b j us → length b ≡ n
    → Writes limit (length b) b j c r vs → Writes limit n a i c r (us ++ vs)
behind us vs f e g = writes_more us vs f (rw e at g)

-- a full buffer takes any
pub writes_full : {limit n : ℕ} {a b : List ℕ} {i j : ℕ} (us vs : List ℕ) → limit < j → Writes limit n a i b j us → Writes limit n a i b j (us ++ vs)
writes_full {limit} {n} us vs h f = writes_more us vs f (λ ws r. written_full limit n ws vs h r)

-- a loop that writes: vs so far, to the buffer d, in which `start` words stood
pub record Adding (limit : ℕ) (d : List ℕ) (start : ℕ) (out : List ℕ) (count : ℕ) (vs : List ℕ) : Type 0 where
  pub written : Writes limit (length d) d start out count vs
  pub same : length out ≡ length d

pub adding_none : (limit : ℕ) (d : List ℕ) (start : ℕ) → Adding limit d start d start []
adding_none limit d start = record { written = writes_none limit (length d) d start; same = refl }

pub adding_more : {limit : ℕ} {d : List ℕ} {start : ℕ} {out out' : List ℕ} {count r : ℕ} {us : List ℕ} (vs : List ℕ) → Adding limit d start out count us
    → length out' ≡ length out → Writes limit (length out) out count out' r vs → Adding limit d start out' r (us ++ vs)
adding_more {limit} {d} {out = out} {out' = out'} {count = count} {r = r} {us = us} vs f e g =
    let h : Writes limit (length d) out count out' r vs = rw f.same at g in
    record { written = writes_more us vs f.written h; same = e ∙ f.same }
