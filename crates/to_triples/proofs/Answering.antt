-- The call: what is written, what passed checks say, and what it answers. Assumes nothing.
use mathlib.Core.Path.{◌≡◌, refl, sym, ap, ◌∙◌}
use mathlib.Core.List.{List, [], ◌∷◌}
use Prim.Native.Nat.{ℕ, ◌-◌, ◌*◌, ◌≤◌}
use native.Mathlib.Omega.{arith}
use borrow.Author.Tests.{le-leb}
use lib.ListN.{length, get_or, drop, length-replicate}
use lib.Seq.{take-nil}
use Rattle.std.specs.Prelude.{Result, Ok, Err}
use Rattle.std.specs.Result.{result_and}
use Rattle.files.specs.declared.refusal.Refusal.{Refusal}
use Rattle.files.specs.Refusal.{number}
use Rattle.files.specs.Word.{words}
use Rattle.files.specs.Field.{node_of}
use Rattle.files.specs.Refuse.{◌then◌, room_check, size_check}
use Rattle.files.specs.Outcome.{zeros, padded, left, left_lent, lent_by}
use Rattle.files.specs.Part.{is_root, whole_check}
use Rattle.files.specs.Limits.{part_words, triple_words}
use Rattle.files.proofs.Checks.{then_iff}
use Rattle.kinds.specs.Seek.{FirstThat}
use Rattle.output.specs.Writer.{Written, Writes, Filed}
use Rattle.output.specs.Frame.{input, also, Checked, Passed, Responds, settled}
use Rattle.output.proofs.Writing.{written_all, behind}
use Rattle.output.proofs.Frame.{read_is, passed, answer_refused, answer_filed, lent_kept, lent_given, settles_lent}
use Rattle.triples.specs.Triple.{keys_from, words_of, root_in, to_triples, say_check}
use Rattle.triples.proofs.To.{to_length}
use Rattle.to_triples.specs.To.{to_call, leaves_counted}
use Rattle.to_triples.proofs.Nodes.{root_found}

-- nothing stands in a cleared output
none_written : (limit m : ℕ) {o : List ℕ} → o ≡ zeros m → Written limit m [] o 0
none_written limit m e = let k : m - 0 ≡ m = omega arith in record { out_is = e ∙ rw (take-nil {A = ℕ} limit) (ap zeros (sym k)); counted = omega arith }

-- of an output of m bytes, o₁ is cleared, o₂ has the root x, which word i names, and o₃ the triples too
pub triples_written : (f : List ℕ) {m i w x k r : ℕ} {o₁ o₂ o₃ : List ℕ} → length f ≤ part_words → whole_check f ≡ 0 → FirstThat is_root f i → w ≡ get_or f i 0
    → x ≡ node_of w → o₁ ≡ zeros m → Writes triple_words (length o₁) o₁ 0 o₂ k (x ∷ []) → length o₂ ≡ m
    → Writes triple_words (length o₂) o₂ k o₃ r (words_of (keys_from 0 (drop 1 f))) → (o₃ ≡ padded m (to_triples f)) × (r ≡ length (to_triples f))
triples_written f {m} {x = x} {r = r} {o₁ = o₁} {o₃ = o₃} l c g e n z a p b =
    let root : x ≡ root_in (drop 1 f) = n ∙ ap node_of e ∙ root_found f c _ g in
    let q : length o₁ ≡ m = ap length z ∙ length-replicate m 0 in
    let w : Written triple_words m (x ∷ words_of (keys_from 0 (drop 1 f))) o₃ r =
    behind (x ∷ []) (words_of (keys_from 0 (drop 1 f))) (rw q at a) p b [] (none_written triple_words m z) in
    let v : Written triple_words m (to_triples f) o₃ r = rw root at w in
    let (all, short, counted) = written_all triple_words m (to_triples f) (omega (arith, v.counted, to_length f c l)) v in
    (all, counted)

-- a whole that is accepted
pub whole_read : (s : List ℕ) {n : ℕ} → n ≡ 0 → n ≡ (size_check part_words s then whole_check (words s)) → (length (words s) ≤ part_words) × (whole_check (words s) ≡ 0)
whole_read s z e = let (a, b) = (then_iff (size_check part_words s) (whole_check (words s))).0 (sym e ∙ z) in ((read_is part_words s a b).few, b)

module _ (s : List ℕ) {a m k : ℕ} (c : Checked triple_words a m (input part_words s (whole_check (words s)) ∷ also (say_check (words s)) ∷ []) k) where
  -- all passed
  pub writable : k ≡ 0 → {l : ℕ} → l ≡ a → (4 * triple_words ≤ l) × (length (words s) ≤ part_words) × (whole_check (words s) ≡ 0)
  writable z q =
      let p : Passed triple_words a m (input part_words s (whole_check (words s)) ∷ also (say_check (words s)) ∷ []) = passed z c refl refl in
      (omega (arith, p.room.holds), p.read.0.few, p.read.0.read)

  -- the count is a small number
  pub counted : k ≡ 0 → length (to_triples (words s)) ≤ triple_words
  counted z = let (h, l, e) = writable z refl in to_length (words s) e l

  -- one refuses
  pub responds_refused : (out : List ℕ) → (k ≡ 0 → ⊥) → Responds (to_call a m s) a out k × (0 ≡ lent_by (to_call a m s) 0 (length (to_triples (words s))))
  unfolding to_call
  responds_refused out h =
      let x = room_check triple_words a m then size_check part_words s then whole_check (words s) then say_check (words s) in
      let r = to_triples (words s) in
      (answer_refused x triple_words r a out c.is h, lent_kept x triple_words r 0 (length r) c.is h)

  -- the triples are written, and counted
  pub responds_written : {out : List ℕ} {t : ℕ} → k ≡ 0 → (out ≡ padded a (to_triples (words s))) × (t ≡ length (to_triples (words s)))
      → Responds (to_call a m s) a out 0 × (t ≡ lent_by (to_call a m s) 0 (length (to_triples (words s))))
  unfolding to_call
  responds_written {out} z (e, q) =
      let x = room_check triple_words a m then size_check part_words s then whole_check (words s) then say_check (words s) in
      let r = to_triples (words s) in
      let f : Filed triple_words a r out 0 = record { number = rw (le-leb (length r) triple_words (counted z)); written = λ l. e } in
      (answer_filed x triple_words r a c.is z f, q ∙ lent_given x triple_words r 0 (length r) c.is z (counted z))

-- what is answered, without the count
pub number_and : (r : Result ℕ Refusal) (u : Unit {0}) → number (result_and r (Ok u)) ≡ number r
number_and (Ok k) u = refl
number_and (Err e) u = refl

-- the call is settled, and t is the count that it leaves
pub call_left : (s : List ℕ) {n m k r t : ℕ} (out work : List ℕ) {a b : List ℕ} → left r a b ≡ settled k out work → length out ≡ n → length work ≡ m
    → Responds (to_call n m s) n out k → t ≡ lent_by (to_call n m s) 0 (length (to_triples (words s))) → left_lent t (left r a b) ≡ leaves_counted n m s
call_left s out work d p q f e = settles_lent 0 (length (to_triples (words s))) out work (f, e) p q d
