-- What the checks over all of a bundle ask: a list of files, one after another, of which this holds is an accepted bundle of first or second
-- replies. Assumes nothing.
use mathlib.Core.Path.{◌≡◌, refl, ◌∙◌, ap, subst}
use mathlib.Core.Bool.{Bool, true, false, ◌&&◌}
use mathlib.Core.List.Memᴰ
use mathlib.Core.List.{List, [], ◌∷◌, map, flatten, map-map}
use Prim.Native.Nat.{ℕ, suc, ◌^◌, ◌≤◌, ◌<◌}
use native.Mathlib.Omega.{arith}
use lib.Dec.{T}
use lib.ListN.{length, get_or, drop, length-map}
use Rattle.sets.specs.Sets.{Mem, here, there, Ascending, Distinct, filter}
use Rattle.sets.proofs.Sets.{flatten_map_iff}
use Rattle.sets.proofs.Filter.{map_agree, filter_length}
use Rattle.files.specs.Field.{kind_of, site_of, labels_of, node_of, door_root_of, state_of, pair_state, file, call_word}
use Rattle.files.specs.Reply.{start, is_door_word, is_reach, reply_check, doors, roots, rows}
use Rattle.files.specs.Answers.{answers_of, answers_check}
use Rattle.files.specs.Calls.{calls_check}
use Rattle.files.specs.Bundle.{headers, headers_check, first_bundle_check, second_bundle_check}
use Rattle.files.proofs.Checks.{checks, then_iff}
use Rattle.files.proofs.Fields.{header}
use Rattle.files.proofs.Ordered.{calls_accepted}
use Rattle.files.proofs.Replies.{reach_states}
use Rattle.files.proofs.Rows.{Stops}
use Rattle.files.proofs.Files.{File, Made, header_checked, header_kind, chosen_files, files_accepted, headers_read, files_length, twice_iff, headers_accepted}
use Rattle.files.specs.Limits.{reply_words}

-- files of one kind, with different sites and the same n
pub record Replies (kind : ℕ) (body : ℕ → List ℕ → ℕ) (n : ℕ) (fs : List (List ℕ)) : Type 0 where
  pub files : (f : List ℕ) → Mem f fs → File kind body f
  pub sites : Distinct (map (λ f. site_of (get_or f 0 0)) fs)
  pub labels : (f : List ℕ) → Mem f fs → labels_of (get_or f 0 0) ≡ n

module _ (kind : ℕ) (body : ℕ → List ℕ → ℕ) where
  replies_headers : (n : ℕ) (fs : List (List ℕ)) → Replies kind body n fs → headers_check (headers (length (flatten fs)) (flatten fs)) ≡ 0
  replies_headers n fs r = rw (headers_read kind body (length (flatten fs)) fs r.files (files_length kind body fs r.files)) (
      headers_accepted n (map (λ f. get_or f 0 0) fs) (rw map-map r.sites)
      (λ h m. let k = Memᴰ.of_map (λ f. get_or f 0 0) fs m in rw (← k.2) (r.labels k.0 k.1))
      )

  -- the bundle's first word shows the n of all
  bundle_labels : (n : ℕ) (fs : List (List ℕ)) → Replies kind body n fs → 0 < length (flatten fs) → labels_of (get_or (flatten fs) 0 0) ≡ n
  unfolding flatten
  bundle_labels n [] r h = absurd (omega arith)
  bundle_labels n ([] ∷ fs) r h = absurd (omega (arith, (r.files [] (here refl)).some))
  bundle_labels n ((w ∷ ws) ∷ fs) r h = r.labels (w ∷ ws) (here refl)

-- a bundle of first replies: one root, and no door in two files
pub record Firsts (n : ℕ) (fs : List (List ℕ)) : Type 0 where
  pub replies : Replies 7 reply_check n fs
  pub one_root : length (roots (flatten fs)) ≡ 1
  pub distinct : Distinct (doors (flatten fs))

-- a bundle of second replies: no answer in two files
pub record Seconds (n : ℕ) (fs : List (List ℕ)) : Type 0 where
  pub replies : Replies 13 answers_check n fs
  pub distinct : Distinct (answers_of (flatten fs))

pub firsts_accepted : (n : ℕ) (fs : List (List ℕ)) → Firsts n fs → first_bundle_check (flatten fs) ≡ 0
firsts_accepted n fs b = simp checks (
  files_accepted 7 reply_check (length (flatten fs)) fs b.replies.files,
  (
    simp checks at (replies_headers 7 reply_check n fs b.replies),
    (
      b.one_root,
      (twice_iff (doors (flatten fs))).1 b.distinct,
    ),
  ),
)

pub firsts_labels : (n : ℕ) (fs : List (List ℕ)) → Firsts n fs → labels_of (get_or (flatten fs) 0 0) ≡ n
firsts_labels n fs b = bundle_labels 7 reply_check n fs b.replies (omega (
  arith,
  b.one_root,
  length-map (filter (λ w. is_door_word w && door_root_of w) (flatten fs)) node_of,
  filter_length (λ w. is_door_word w && door_root_of w) (flatten fs),
))

pub seconds_accepted : (n : ℕ) (fs : List (List ℕ)) → Seconds n fs → second_bundle_check (flatten fs) ≡ 0
seconds_accepted n fs b = simp checks (
  files_accepted 13 answers_check (length (flatten fs)) fs b.replies.files,
  (simp checks at (replies_headers 13 answers_check n fs b.replies), (twice_iff (answers_of (flatten fs))).1 b.distinct),
)

-- What is written for each of some parts, of different sites: `write` writes an accepted file for each.

module _ (kind : ℕ) (body : ℕ → List ℕ → ℕ) (n : ℕ) (write : List ℕ → List ℕ) (parts : List (List ℕ))
    (sites : Distinct (map (λ f. site_of (get_or f 0 0)) parts))
    (made : (f : List ℕ) → Mem f parts → Made kind (site_of (get_or f 0 0)) n body (write f)) where
  pub made_replies : Replies kind body n (map write parts)
  made_replies = record {
    files = λ g m. let k = Memᴰ.of_map write parts m in subst (File kind body) k.2 (made k.0 k.1).is_file;
    sites = rw (map-map, map_agree (λ f. site_of (get_or (write f) 0 0)) (λ f. site_of (get_or f 0 0)) parts (λ f m. (made f m).site_is)) sites;
    labels = λ g m. let k = Memᴰ.of_map write parts m in subst (λ g. labels_of (get_or g 0 0) ≡ n) k.2 (made k.0 k.1).labels_is;
  }

  pub made_words : (w : ℕ) → Mem w (flatten (map write parts)) → w < 2 ^ 32
  made_words w m = let k = (flatten_map_iff write w parts).0 m in (made k.0 k.1).words w k.2

  -- what g makes of the words that pass a test, part by part: no header passes it, and `have` says what a part's file has
  pub made_chosen : (g : ℕ → ℕ) (p : ℕ → Bool) (have : List ℕ → List ℕ) → ((w : ℕ) → kind_of w ≡ kind → p w ≡ false)
      → ((f : List ℕ) → Mem f parts → map g (filter p (drop 1 (write f))) ≡ have f)
      → map g (filter p (flatten (map write parts))) ≡ flatten (map have parts)
  made_chosen g p have h e = chosen_files kind body g p h (map write parts) made_replies.files
      ∙ ap flatten (rw map-map (map_agree (λ f. map g (filter p (drop 1 (write f)))) have parts e))

-- A first reply's header is none of its doors, rows and reaches.

module _ (body : ℕ → List ℕ → ℕ) where
  pub file_stops : (f : List ℕ) → File 7 body f → Stops f
  file_stops [] c = tt
  file_stops (h ∷ ws) c = rw (header_kind 7 body (h ∷ ws) c) (refl, refl)

  pub file_doors : (f : List ℕ) → File 7 body f → doors f ≡ doors (drop 1 f)
  file_doors [] c = refl
  file_doors (h ∷ ws) c = rw (header_kind 7 body (h ∷ ws) c)

  pub file_rows : (f : List ℕ) → File 7 body f → (c : ℕ) → rows f c ≡ rows (drop 1 f) c
  file_rows [] k c = refl
  file_rows (h ∷ ws) k c = rw (header_kind 7 body (h ∷ ws) k)

  pub file_reach : (f : List ℕ) → File 7 body f → (w : ℕ) → Mem w f → T (is_reach w) → Mem w (drop 1 f)
  file_reach (h ∷ ws) c w (here e) t = absurd (rw (e, header_kind 7 body (h ∷ ws) c) at t)
  file_reach (h ∷ ws) c w (there m) t = m
  file_reach [] c w x3 t = elim x3 [ ]

-- no state of an accepted file's reach words is above its n
pub file_states : (f : List ℕ) → File 7 reply_check f → (w : ℕ) → Mem w f → T (is_reach w) → state_of w ≤ labels_of (get_or f 0 0)
file_states f c w m t =
    reach_states (labels_of (get_or f 0 0)) start (drop 1 f) c.checked w (file_reach reply_check f c w m t) t

-- a call list of ascending pairs with states up to its n is accepted
pub calls_made : (n : ℕ) (cs : List ℕ) → n < 16 → length cs < reply_words → Ascending cs → ((c : ℕ) → Mem c cs → (c < 2 ^ 20) × (pair_state c ≤ n))
    → calls_check (file 11 0 n (map call_word cs)) ≡ 0
calls_made n cs l h a b =
    let r = header 11 0 n (suc (length (map call_word cs))) (omega arith) (omega arith) l (omega (arith, length-map cs call_word)) in
    (then_iff _ _).1 (header_checked false true 11 0 n (suc (length (map call_word cs))) _ r tt tt, rw r.labels_is (calls_accepted n cs a b))
