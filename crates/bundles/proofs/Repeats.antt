-- Laws of a search for what stands twice in a list, with a set of what was seen: the sites of a bundle's headers, the nodes of its words.
-- Assumes nothing.
use mathlib.Core.Path.{◌≡◌, refl, sym, ap, ◌∙◌}
use mathlib.Core.Bool.{Bool, true, false, not, ◌&&◌, ◌||◌}
use mathlib.Core.List.{List, [], ◌∷◌, map}
use Prim.Native.Nat.{ℕ, zero, suc, ◌+◌, ◌-◌, ◌/◌, ◌≤◌, ◌<◌}
use native.Mathlib.Omega.{arith}
use borrow.Author.Tests.{eq-eqb}
use lib.Dec.{eqb}
use lib.ListN.{length, get_or, drop, length-drop}
use lib.Seq.{drop-drop}
use Rattle.bundles.specs.Stretch.{clashing}
use Rattle.sets.specs.Sets.{any, filter, member}
use Rattle.sets.specs.States.{has_state}
use Rattle.sets.specs.NodeSet.{has_node, Added, node_set_bytes}
use Rattle.sets.proofs.Cases.{or_swap}
use Rattle.sets.proofs.Tests.{same_test, eq_iff}
use Rattle.sets.proofs.StateSets.{has_empty}
use Rattle.sets.proofs.NodeSets.{nodes_none}
use Rattle.files.specs.Word.{words}
use Rattle.files.specs.Outcome.{zeros}
use Rattle.files.specs.Field.{kind_of, site_of, labels_of, size_of, node_of}
use Rattle.files.specs.Refuse.{◌unless◌}
use Rattle.files.specs.Bundle.{headers, headers_check, twice}
use Rattle.files.proofs.Reading.{words_left, words_over}

-- an element was seen, or stands twice
abbrev pub stale : (ℕ → Bool) → List ℕ → Bool
stale seen [] = false
stale seen (x ∷ xs) = seen x || stale (λ y. seen y || eqb y x) xs

pub stale_same : (f g : ℕ → Bool) (xs : List ℕ) → ((y : ℕ) → f y ≡ g y) → stale f xs ≡ stale g xs
stale_same f g [] h = refl
stale_same f g (x ∷ xs) h = rw (h x, stale_same (λ y. f y || eqb y x) (λ y. g y || eqb y x) xs (λ y. rw (h y)))

eqb_swap : (x y : ℕ) → eqb x y ≡ eqb y x
eqb_swap x y = same_test (λ t. (eq_iff y x).1 (sym ((eq_iff x y).0 t))) (λ t. (eq_iff x y).1 (sym ((eq_iff y x).0 t)))

or_turn : (a b c d : Bool) → (a || ((b || c) || d)) ≡ ((a || b) || (c || d))
or_turn true b c d = refl
or_turn false true c d = refl
or_turn false false c d = refl

any_or : (seen : ℕ → Bool) (x : ℕ) (xs : List ℕ) → any (λ y. seen y || eqb y x) xs ≡ (any seen xs || member x xs)
any_or seen x [] = refl
any_or seen x (y ∷ ys) = rw (any_or seen x ys, eqb_swap x y) (or_swap (seen y) (eqb y x) (any seen ys) (member x ys))

stale_is : (seen : ℕ → Bool) (xs : List ℕ) → stale seen xs ≡ (any seen xs || twice xs)
stale_is seen [] = refl
stale_is seen (x ∷ xs) =
    rw (stale_is (λ y. seen y || eqb y x) xs, any_or seen x xs) (or_turn (seen x) (any seen xs) (member x xs) (twice xs))

any_no : (p : ℕ → Bool) (xs : List ℕ) → ((y : ℕ) → p y ≡ false) → any p xs ≡ false
any_no p [] h = refl
any_no p (x ∷ xs) h = rw (h x) (any_no p xs h)

-- where nothing was seen yet
pub stale_none : (seen : ℕ → Bool) (xs : List ℕ) → ((y : ℕ) → seen y ≡ false) → stale seen xs ≡ twice xs
stale_none seen xs h = stale_is seen xs ∙ rw (any_no seen xs h)

-- 13: the nodes of the words of a kind, those seen in work, which was d

abbrev pub nodes_of : ℕ → List ℕ → List ℕ
nodes_of k ws = map node_of (filter (λ w. eqb (kind_of w) k) ws)

-- of the words ws that are left
pub record Repeating (k : ℕ) (d : List ℕ) (x : Bool) (work ws : List ℕ) : Type 0 where
  pub same : stale (has_node work 0) (nodes_of k ws) ≡ x
  pub long : length work ≡ length d
  pub room : node_set_bytes ≤ length d

pub repeating_first : (k : ℕ) {us vs d : List ℕ} → vs ≡ us → node_set_bytes ≤ length d → d ≡ zeros (length d) → Repeating k d (twice (nodes_of k us)) d vs
repeating_first k {us} {d = d} e h z =
    record { same = rw e (stale_none (has_node d 0) (nodes_of k us) (λ y. nodes_none (length d) 0 y z)); long = refl; room = h }

module _ {k : ℕ} {d work vs : List ℕ} {x : Bool} (f : Repeating k d x work vs) where
  -- a word of kind j is the next
  module _ {w j : ℕ} {ws : List ℕ} (a : vs ≡ w ∷ ws) (e : j ≡ kind_of w) where
    module _ {v : ℕ} {b : Bool} (i : j ≡ k) (g : v ≡ node_of w) (o : b ≡ has_node work 0 v) where
      here : (b || stale (λ y. has_node work 0 y || eqb y v) (nodes_of k ws)) ≡ x
      here = rw (o, g) (rw (a, eq-eqb (kind_of w) k (sym e ∙ i)) at f.same)

      pub repeating_more : {work' : List ℕ} → b ≡ false → Added 0 v work work' → Repeating k d x work' ws
      repeating_more {work'} h m = record {
        same = stale_same (has_node work' 0) (λ y. has_node work 0 y || eqb y v) (nodes_of k ws) m.has ∙ (rw h at here);
        long = m.same ∙ f.long;
        room = f.room;
      }

-- 12: the headers from a start on, and the sites seen before

-- the headers of all files: as many turns as there are words are enough
abbrev pub headers_of : List ℕ → List ℕ
headers_of ws = headers (length ws) ws

turns : (f g : ℕ) (ws : List ℕ) → length ws ≤ f → length ws ≤ g → headers f ws ≡ headers g ws
turns zero zero ws p q = refl
turns zero (suc g) [] p q = refl
turns zero (suc g) (h ∷ ws) p q = absurd (omega arith)
turns (suc f) zero [] p q = refl
turns (suc f) zero (h ∷ ws) p q = absurd (omega arith)
turns (suc f) (suc g) [] p q = refl
turns (suc f) (suc g) (h ∷ ws) p q =
    let l = length-drop (size_of h - 1) ws in ap (h ∷◌) (turns f g (drop (size_of h - 1) ws) (omega arith) (omega arith))

headers_cons : (h : ℕ) (ws : List ℕ) → headers_of (h ∷ ws) ≡ h ∷ headers_of (drop (size_of h - 1) ws)
headers_cons h ws =
    let l = length-drop (size_of h - 1) ws in
    ap (h ∷◌) (turns (length ws) (length (drop (size_of h - 1) ws)) (drop (size_of h - 1) ws) (omega arith) (omega arith))

abbrev differs : ℕ → ℕ → Bool
differs n h = not (eqb (labels_of h) n)

abbrev apart : (ℕ → Bool) → ℕ → List ℕ → ℕ
apart seen n hs = 12 unless (not (stale seen (map site_of hs)) && not (any (differs n) hs))

apart_found : (a b c d : Bool) → (a || b) ≡ true → 12 ≡ (12 unless (not (a || c) && not (b || d)))
apart_found true b c d h = refl
apart_found false true true d h = refl
apart_found false true false d h = refl
apart_found false false c d h = cc

apart_more : (a b c d : Bool) → (a || b) ≡ false → (12 unless (not (a || c) && not (b || d))) ≡ (12 unless (not c && not d))
apart_more true b c d h = cc
apart_more false true c d h = cc
apart_more false false c d h = refl

refused_is : (b : Bool) {i : ℕ} → i ≡ (12 unless not b) → (i ≡ 0 → ⊥) → (b ≡ true) × (i ≡ 12)
refused_is true c z = (refl, c)
refused_is false c z = absurd (z c)

passed_is : (b : Bool) {i : ℕ} → i ≡ (12 unless not b) → i ≡ 0 → b ≡ false
passed_is true c z = absurd (omega arith)
passed_is false c z = refl

pub record Heading (s : List ℕ) (n x sites start : ℕ) : Type 0 where
  pub same : apart (has_state sites) n (headers_of (drop start (words s))) ≡ x

first_header : (ws : List ℕ) → get_or (headers_of ws) 0 0 ≡ get_or ws 0 0
first_header [] = refl
first_header (h ∷ ws) = refl

pub heading_first : (s : List ℕ) {h n : ℕ} → h ≡ get_or (words s) 0 0 → n ≡ labels_of h → Heading s n (headers_check (headers (length (words s)) (words s))) 0 0
heading_first s e f = record { same = rw (f, e, first_header (words s), stale_none (has_state 0) (map site_of (headers_of (words s))) has_empty) }

module _ {s : List ℕ} {n x sites start h : ℕ} (f : Heading s n x sites start) (p : start < length s / 4) (e : h ≡ get_or (words s) start 0) where
  left : drop start (words s) ≡ h ∷ drop (start + 1) (words s)
  left = words_left s start p e

  abbrev rest : List ℕ
  rest = headers_of (drop (size_of h - 1) (drop (start + 1) (words s)))

  abbrev after : ℕ → Bool
  after y = has_state sites y || eqb y (site_of h)

  whole : apart (has_state sites) n (h ∷ rest) ≡ x
  whole =
      let heads : headers_of (drop start (words s)) ≡ h ∷ rest = rw left (headers_cons h (drop (start + 1) (words s))) in
      ap (apart (has_state sites) n) (sym heads) ∙ f.same

  -- i is its check
  module _ {b : Bool} {i : ℕ} (g : b ≡ clashing sites n h) (c : i ≡ (12 unless not b)) where
    pub heading_found : (i ≡ 0 → ⊥) → i ≡ x
    unfolding clashing
    heading_found z =
        let (t, o) = refused_is b c z in
        o ∙ apart_found (has_state sites (site_of h)) (differs n h) (stale after (map site_of rest)) (any (differs n) rest) (sym g ∙ t) ∙ whole

    pub heading_more : {q m sites' : ℕ} → i ≡ 0 → q ≡ site_of h → ((y : ℕ) → has_state sites' y ≡ (has_state sites y || eqb y q)) → m ≡ suc (size_of h - 1)
        → Heading s n x sites' (start + m)
    unfolding clashing
    heading_more {q} {m} {sites'} z e o j =
        let t = passed_is b c z in
        let at : start + m ≡ start + 1 + (size_of h - 1) = omega arith in
        let new : stale (has_state sites') (map site_of rest) ≡ stale after (map site_of rest)
        = stale_same (has_state sites') after (map site_of rest) (λ y. o y ∙ rw e) in
        record {
          same = rw (at, ← drop-drop, new)
              (sym (apart_more (has_state sites (site_of h)) (differs n h) (stale after (map site_of rest)) (any (differs n) rest) (sym g ∙ t)) ∙ whole);
        }

pub heading_last : {s : List ℕ} {n x sites start : ℕ} → Heading s n x sites start → length s / 4 ≤ start → 0 ≡ x
heading_last {s} {start = start} f h = rw (words_over s start h) at f.same
