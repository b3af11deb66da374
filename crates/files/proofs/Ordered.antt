-- Ascending words of any kind, by one law each way. `scan_rises`: what is read from accepted words ascends, if each single word does its
-- part. `ordered_iff` below has call lists and second replies by it, Parts has nodes and edges, Replies has doors and rows. `rising_all`: what
-- is written of ascending numbers is accepted, if each single number's words are. `ordered_iff` is by it too, and so are reach words, rows and
-- doors in Written of site_first. Assumes nothing.
use mathlib.Core.Path.{◌≡◌, refl, ap, ap₂}
use mathlib.Core.Logic.{◌↔◌}
use mathlib.Core.List.Memᴰ
use mathlib.Core.List.{List, [], ◌∷◌, map, map-id}
use Prim.Native.Nat.{ℕ, suc, ◌^◌, ◌≤◌, ◌<◌}
use native.Mathlib.Omega.{arith}
use lib.ListN.{get_or, drop}
use Rattle.sets.specs.Sets.{Mem, here, there, ◌⊆◌, Ascending}
use Rattle.sets.proofs.Sets.{least, map_ascending}
use Rattle.files.specs.Word.{words}
use Rattle.files.specs.Field.{labels_of, pair_of, pair_state, word_of}
use Rattle.files.specs.Scan.{scan_words, in_order, scan_ordered}
use Rattle.files.specs.Calls as calls
use Rattle.files.specs.Answers as answers
use Rattle.files.proofs.Checks.{then_iff, checks}
use Rattle.files.proofs.Fields.{holder, answer}

-- ascending numbers from `low` on; `Ascending (x ∷ xs)` is `Rising (suc x) xs`
abbrev pub Rising : ℕ → List ℕ → Type 0
Rising low xs = ((y : ℕ) → Mem y xs → low ≤ y) × Ascending xs

-- What an accepted word does to a list that is read, where `low` is the least number that may come next: it adds a number, or nothing, or
-- ends the list; or the list begins behind it, and is known to ascend.
pub data Step {S : Type 0} (next : S → ℕ → S) (low : S → ℕ) (read : List ℕ → List ℕ) (st : S) (w : ℕ) (ws : List ℕ) : Type 0 where
  adds : (x : ℕ) → read (w ∷ ws) ≡ x ∷ read ws → low st ≤ x → x < low (next st w) → Step next low read st w ws
  skips : read (w ∷ ws) ≡ read ws → low st ≤ low (next st w) → Step next low read st w ws
  ends : read (w ∷ ws) ≡ [] → Step next low read st w ws
  restarts : Rising (low st) (read (w ∷ ws)) → Step next low read st w ws

module _ {S : Type 0} (check : S → ℕ → ℕ) (next : S → ℕ → S) (end : S → ℕ) where
  -- every accepted word passes its check, whatever was seen before it
  pub scan_checked : (st : S) (ws : List ℕ) → scan_words check next end st ws ≡ 0 → (w : ℕ) → Mem w ws → (u : S) × (check u w ≡ 0)
  scan_checked st (v ∷ ws) s w (here q) = (st, rw q ((then_iff (check st v) _).0 s).0)
  scan_checked st (v ∷ ws) s w (there m) = scan_checked (next st v) ws ((then_iff (check st v) _).0 s).1 w m
  scan_checked st [] s w x'' = elim x'' [ ]

  pub scan_rises : (low : S → ℕ) (read : List ℕ → List ℕ) → read [] ≡ [] → (st : S) (ws : List ℕ)
      → ((u : S) (v : ℕ) (vs : List ℕ) → (v ∷ vs) ⊆ ws → check u v ≡ 0 → scan_words check next end (next u v) vs ≡ 0 → Step next low read u v vs)
      → scan_words check next end st ws ≡ 0 → Rising (low st) (read ws)
  scan_rises low read none st [] h s = rw none (λ y m. elim m [ ], tt)
  scan_rises low read none st (w ∷ ws) h s =
      let (c, t) = (then_iff (check st w) (scan_words check next end (next st w) ws)).0 s in
      let (above, a) = scan_rises low read none (next st w) ws (λ u v vs i. h u v vs (λ z m. there (i z m))) t in
      elim (h st w ws (λ z m. m) c t) [
        | adds x e l g ↦
            let b : Ascending (x ∷ read ws) = (λ y m. omega (arith, above y m), a) in
            rw e (λ y m. omega (arith, least b m), b)
        | skips e l ↦ rw e (λ y m. omega (arith, above y m), a)
        | ends e ↦ rw e (λ y m. elim m [ ], tt)
        | restarts r ↦ r
      ]

-- what holds of nothing, and of an element before those above it, holds of elements that ascend by their keys, if each has Q
pub rising_all : {A : Type 0} (key : A → ℕ) (P : ℕ → List A → Type 0) (Q : A → Type 0) → ((low : ℕ) → P low [])
    → ((low : ℕ) (x : A) (xs : List A) → low ≤ key x → Q x → P (suc (key x)) xs → P low (x ∷ xs))
    → (low : ℕ) (xs : List A) → Rising low (map key xs) → ((x : A) → Mem x xs → Q x) → P low xs
rising_all key P Q none one low [] r q = none low
rising_all key P Q none one low (x ∷ xs) r q =
    one low x xs (r.0 (key x) (here refl)) (q x (here refl)) (rising_all key P Q none one (suc (key x)) xs r.1 (λ y m. q y (there m)))

-- a reader that checks each word by itself, and that it is above the word before it, accepts exactly the ascending words that pass
module _ (check : ℕ → ℕ) where
  pub ordered_iff : (last : ℕ) (ws : List ℕ) → (scan_ordered check last ws ≡ 0) ↔ (Ascending (last ∷ ws) × ((w : ℕ) → Mem w ws → check w ≡ 0))
  ordered_iff last ws = (
    λ e. (
      scan_rises (in_order check) (λ last w. w) (λ last. 0) suc (λ ws. ws) refl last ws (λ u v vs i c s. adds v refl (simp checks at c).1 (omega arith)) e,
      λ w m. (simp checks at (scan_checked (in_order check) (λ last w. w) (λ last. 0) last ws e w m).1).0,
    ),
    λ p. rising_all (λ w. w) (λ low ws. (last : ℕ) → last < low → scan_ordered check last ws ≡ 0) (λ w. check w ≡ 0) (λ low last l. refl)
        (λ low w ws h c i last l. simp checks ((c, omega arith), i w (omega arith))) (suc last) ws (rw map-id p.0) p.1 last (omega arith),
  )

  -- the words of ascending numbers are accepted, if each passes: no word of a kind above 0 is 0
  pub made_accepted : (kind : ℕ) (xs : List ℕ) → 0 < kind → Ascending xs → ((x : ℕ) → Mem x xs → check (word_of kind x) ≡ 0)
      → scan_ordered check 0 (map (word_of kind) xs) ≡ 0
  made_accepted kind xs k a q = (ordered_iff 0 (map (word_of kind) xs)).1 (
    (λ w m. let r = Memᴰ.of_map (word_of kind) xs m in omega (arith, r.2), map_ascending (word_of kind) xs (λ x y m n l. omega arith) a),
    λ w m. let (x, n, e) = Memᴰ.of_map (word_of kind) xs m in rw (← e) (q x n),
  )

-- A second reply's answers: those of ascending nodes are accepted.
pub answers_accepted : (h : ℕ) (xs : List ℕ) → Ascending xs → ((x : ℕ) → Mem x xs → x < 2 ^ 16) → answers.answers_check h (map (word_of 14) xs) ≡ 0
answers_accepted h xs a b = made_accepted answers.answer_check 14 xs (omega arith) a (λ x m. let f = answer x (b x m) in simp checks (f.kind_is, f.zeros))

pub answers_read : (xs : List ℕ) → ((x : ℕ) → Mem x xs → x < 2 ^ 16) → answers.answers_of (map (word_of 14) xs) ≡ xs
answers_read [] b = refl
answers_read (x ∷ xs) b =
    let f = answer x (b x (here refl)) in
    rw (f.kind_is, f.node_is) (ap (x ∷◌) (answers_read xs (λ y m. b y (there m))))

-- A call list's calls: those of ascending pairs with states up to n are accepted.
pub calls_accepted : (n : ℕ) (cs : List ℕ) → Ascending cs → ((c : ℕ) → Mem c cs → (c < 2 ^ 20) × (pair_state c ≤ n))
    → scan_ordered (calls.call_check n) 0 (map (word_of 12) cs) ≡ 0
calls_accepted n cs a b = made_accepted (calls.call_check n) 12 cs (omega arith) a
    (λ c m. let f = holder 12 c (omega arith) (b c m).0 in simp checks ((f.kind_is, f.zeros), omega (arith, f.state_is, (b c m).1)))

pub calls_read : (cs : List ℕ) → ((c : ℕ) → Mem c cs → c < 2 ^ 20) → map pair_of (map (word_of 12) cs) ≡ cs
calls_read [] b = refl
calls_read (c ∷ cs) b = ap₂ ◌∷◌ (holder 12 c (omega arith) (b c (here refl))).pair_is (calls_read cs (λ d m. b d (there m)))

-- read with the n of the header
pub calls_listed : (s : List ℕ) {h r : ℕ} (n : ℕ) → h ≡ get_or (words s) 0 0 → n ≡ labels_of h → r ≡ scan_ordered (calls.call_check n) 0 (drop 1 (words s))
    → r ≡ scan_ordered (calls.call_check (labels_of (get_or (words s) 0 0))) 0 (drop 1 (words s))
calls_listed s n e f g = rw (← e, ← f) g
