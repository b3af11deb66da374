-- The triples of a file by their index, as the code reads them. Assumes nothing.
use mathlib.Core.Path.{◌≡◌, refl, sym, ◌∙◌, ap}
use Rattle.std.proofs.Common.{add-one}
use Rattle.std.specs.List.{list_any, range_with_len}
use mathlib.Core.Bool.{Bool, not, ◌&&◌, ◌||◌}
use mathlib.Core.Logic.{◌↔◌, inl, inr}
use borrow.Author.Tests.{eqb-true}
use mathlib.Core.List.Memᴰ
use mathlib.Core.List.{List, [], ◌∷◌, map}
use Prim.Native.Nat.{ℕ, zero, suc, ◌+◌, ◌*◌, ◌/◌, ◌%◌, ◌<◌}
use native.Mathlib.Omega.{arith}
use lib.Dec.{eqb, leb}
use lib.ListN.{length, get_or}
use Rattle.sets.specs.Sets.{Mem, any, span}
use Rattle.sets.proofs.Tests.{either}
use Rattle.sets.proofs.Filter.{map_iff}
use Rattle.sets.proofs.Spans.{span_iff}
use Rattle.files.specs.Word.{words}
use Rattle.files.specs.Refuse.{◌then◌, ◌unless◌, size_check}
use Rattle.files.proofs.Checks.{checks, passed_first}
use Rattle.files.proofs.Words.{words_length}
use Rattle.triples.specs.Triple.{Triple, triple, triples_of, root_word, triples_in, in_fields, triples_check}
use Rattle.triples.specs.At.{triple_at, large_at}

-- numbers from the next one on
pub map_next : {A : Type 0} (f : ℕ → A) (k d : ℕ) → map f (span (suc k) d) ≡ map (λ i. f (suc i)) (span k d)
map_next f k zero = refl
map_next f k (suc d) = ap (f (suc k) ∷◌) (map_next f (suc k) d)

-- what numbers from 0 on are mapped to
pub map_span_iff : {A : Type 0} (f : ℕ → A) (n : ℕ) (x : A) → Mem x (map f (span 0 n)) ↔ ((i : ℕ) × (i < n) × (f i ≡ x))
map_span_iff f n x = (
  λ m. let (i, k, e) = Memᴰ.of_map f (span 0 n) m in (i, omega (arith, (span_iff 0 n i).0 k), e),
  λ (i, l, e). (map_iff f x (span 0 n)).1 (i, (span_iff 0 n i).1 (omega arith, omega arith), e),
)

pub any_map : {A B : Type 0} (p : B → Bool) (f : A → B) (xs : List A) → any p (map f xs) ≡ any (λ x. p (f x)) xs
any_map p f [] = refl
any_map p f (x ∷ xs) = ap (p (f x) ||◌) (any_map p f xs)

-- a test of the numbers from one on, by `any` of std
pub any_in_range : (p : ℕ → Bool) (from n : ℕ) → list_any p (range_with_len from n) ≡ any p (span from n)
any_in_range p from zero = refl
any_in_range p from (suc n) = rw add-one (ap (p from ||◌) (any_in_range p (suc from) n))

-- three words more
third : (k : ℕ) → suc (suc (suc k)) / 3 ≡ suc (k / 3)
third k = omega arith

by_threes : (vs : List ℕ) → length vs % 3 ≡ 0
    → triples_of vs ≡ map (λ i. triple (get_or vs (3 * i) 0) (get_or vs (suc (3 * i)) 0) (get_or vs (suc (suc (3 * i))) 0)) (span 0 (length vs / 3))
by_threes [] e = refl
by_threes (x ∷ []) e = absurd (omega arith)
by_threes (x ∷ a ∷ []) e = absurd (omega arith)
by_threes (x ∷ a ∷ y ∷ vs) e =
    rw (third (length vs)) (ap (triple x a y ∷◌) (by_threes vs (omega (arith, e)) ∙ same (span 0 (length vs / 3)) ∙ sym (map_next at 0 (length vs / 3))))
  where
    at : ℕ → Triple
    at i = triple (get_or (x ∷ a ∷ y ∷ vs) (3 * i) 0) (get_or (x ∷ a ∷ y ∷ vs) (suc (3 * i)) 0) (get_or (x ∷ a ∷ y ∷ vs) (suc (suc (3 * i))) 0)

    same : (is : List ℕ) → map (λ i. triple (get_or vs (3 * i) 0) (get_or vs (suc (3 * i)) 0) (get_or vs (suc (suc (3 * i))) 0)) is ≡ map (λ i. at (suc i)) is
    same [] = refl
    same (i ∷ is) = let q : 3 * suc i ≡ suc (suc (suc (3 * i))) = omega arith in rw (q, same is)

-- the triples of a file of the right count
pub triples_at : (ws : List ℕ) → length ws % 3 ≡ 1 → triples_in ws ≡ map (triple_at ws) (span 0 (length ws / 3))
triples_at [] e = absurd (omega arith)
triples_at (r ∷ vs) e =
    let q : suc (length vs) / 3 ≡ length vs / 3 = omega (arith, e) in
    rw q (by_threes vs (omega (arith, e)) ∙ same (span 0 (length vs / 3)))
  where
    same : (is : List ℕ) → map (λ i. triple (get_or vs (3 * i) 0) (get_or vs (suc (3 * i)) 0) (get_or vs (suc (suc (3 * i))) 0)) is ≡ map (triple_at (r ∷ vs)) is
    same [] = refl
    same (i ∷ is) =
        let a : 3 * i + 1 ≡ suc (3 * i) = omega arith in
        let b : 3 * i + 2 ≡ suc (suc (3 * i)) = omega arith in
        let c : 3 * i + 3 ≡ suc (suc (suc (3 * i))) = omega arith in
        rw (a, b, c, same is)

-- for the proof of `check_triples`
pub few_triples : (limit : ℕ) (s : List ℕ) {k n : ℕ} → k ≡ 0 → k ≡ size_check limit s → limit < 65536 → n ≡ length (words s) / 3 → n < 65536
few_triples limit s z e l q = omega (arith, words_length s, q, (simp checks at (sym e ∙ z)).1)

pub triples_checked : (limit : ℕ) (s : List ℕ) {k w n r : ℕ} {b : Bool} → k ≡ 0 → k ≡ size_check limit s → w ≡ get_or (words s) 0 0 → n ≡ length (words s) / 3
    → b ≡ any (large_at (words s)) (span 0 n) → r ≡ (18 unless (eqb (length s / 4 % 3) 1 && leb w 65535 && not b)) → r ≡ (size_check limit s then triples_check (words s))
unfolding large_at
triples_checked limit s {n = n} {b = b} z e p q a h = passed_first _ _ z e (h ∙ rw (← words_length s, p) same)
  where
    ws : List ℕ
    ws = words s

    same : (18 unless (eqb (length ws % 3) 1 && leb (root_word ws) 65535 && not b)) ≡ triples_check ws
    same = elim (either (eqb (length ws % 3) 1)) [
      | inl t ↦ rw (t, a, q, triples_at ws (eqb-true (length ws % 3) 1 t), any_map (λ t. not (in_fields t)) (triple_at ws) (span 0 (length ws / 3)))
      | inr t ↦ rw t
    ]
