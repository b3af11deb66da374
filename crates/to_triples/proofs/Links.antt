-- The words of a whole one by one: a node's names the source of the triples behind it, another's is a triple. Those that are left, behind some
-- that are written, give what all words give. Assumes nothing.
use mathlib.Core.Path.{◌≡◌, sym, ap, ◌∙◌}
use mathlib.Core.Bool.{Bool, true, false}
use mathlib.Core.List.{List, [], ◌∷◌, ◌++◌, append-nil, append_assoc}
use Prim.Native.Nat.{ℕ}
use native.Mathlib.Omega.{arith}
use lib.ListN.{length}
use Rattle.files.specs.Field.{node_of, label_of, target_of}
use Rattle.files.specs.Part.{is_node}
use Rattle.files.specs.Limits.{triple_words}
use Rattle.output.specs.Writer.{Writes}
use Rattle.output.proofs.Writing.{Adding, adding_more, behind}
use Rattle.triples.specs.Triple.{keys_from, words_of, source_in, label_in, target_in, link_of}

-- One triple

-- its words, one behind another, in a buffer of n bytes
pub triple_written : {n : ℕ} {o₁ o₂ o₃ o₄ : List ℕ} {i j k r : ℕ} (x l t w : ℕ) → Writes triple_words n o₁ i o₂ j (x ∷ []) → l ≡ label_of w
    → Writes triple_words (length o₂) o₂ j o₃ k (l ∷ []) → t ≡ target_of w → Writes triple_words (length o₃) o₃ k o₄ r (t ∷ []) → length o₂ ≡ n → length o₃ ≡ n
    → Writes triple_words n o₁ i o₄ r (x ∷ label_of w ∷ target_of w ∷ [])
triple_written x l t w a e b f c p q = rw (← e, ← f) (behind (x ∷ l ∷ []) (t ∷ []) (behind (x ∷ []) (l ∷ []) a p b) q c)

-- its number has its words
link_words : (x w : ℕ) (ks : List ℕ) → words_of (link_of x w ∷ ks) ≡ x ∷ label_of w ∷ target_of w ∷ words_of ks
link_words x w ks =
    let s : source_in (link_of x w) ≡ x = omega arith in
    let l : label_in (link_of x w) ≡ label_of w = omega arith in
    let t : target_in (link_of x w) ≡ target_of w = omega arith in
    rw (s, l, t)

-- All triples

-- some are written behind those that were there, and with those of the words ws that are left, of which the first are of node x, they are
-- those of all words us
pub record Listing (us d : List ℕ) (start : ℕ) (out : List ℕ) (x n : ℕ) (ws : List ℕ) : Type 0 where
  pub done : List ℕ
  pub adding : Adding triple_words d start out n done
  pub same : done ++ words_of (keys_from x ws) ≡ words_of (keys_from 0 us)

module _ {us d a vs ws : List ℕ} {start x n w : ℕ} {b : Bool} (f : Listing us d start a x n vs) (e : vs ≡ w ∷ ws) (h : b ≡ is_node w) where
  next : f.done ++ words_of (keys_from x (w ∷ ws)) ≡ words_of (keys_from 0 us)
  next = rw e at f.same

  pub listing_node : {y : ℕ} → b ≡ true → y ≡ node_of w → Listing us d start a y n ws
  listing_node t g = record { done = f.done; adding = f.adding; same = rw g (rw (← h, t) at next) }

  pub listing_edge : {m : ℕ} {o : List ℕ} → b ≡ false → Writes triple_words (length a) a n o m (x ∷ label_of w ∷ target_of w ∷ []) → length o ≡ length a
      → Listing us d start o x m ws
  listing_edge t g l = record {
    done = f.done ++ x ∷ label_of w ∷ target_of w ∷ [];
    adding = adding_more (x ∷ label_of w ∷ target_of w ∷ []) f.adding l g;
    same =
        append_assoc f.done (x ∷ label_of w ∷ target_of w ∷ []) (words_of (keys_from x ws))
        ∙ ap (f.done ++◌) (sym (link_words x w (keys_from x ws)))
        ∙ (rw (← h, t) at next);
  }

pub listing_last : {us d a vs : List ℕ} {start x n : ℕ} → Listing us d start a x n vs → vs ≡ [] → Writes triple_words (length d) d start a n (words_of (keys_from 0 us))
listing_last f e = let h = rw (e, append-nil) at f.same in rw (← h) f.adding.written
