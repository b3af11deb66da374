-- A bundle of files is read back as those files: each file is found, checked by itself, and its header with it; and the words of a
-- kind in the bundle are those of the files, one file after another. Assumes nothing.
use mathlib.Core.Path.{◌≡◌, refl, sym, ◌∙◌, ap}
use mathlib.Core.Logic.{◌↔◌}
use mathlib.Core.Bool.{Bool, true, false, not, ◌||◌}
use mathlib.Core.List.{List, [], ◌∷◌, ◌++◌, map, flatten, map-map}
use Prim.Native.Nat.{ℕ, zero, suc, ◌-◌, ◌^◌, ◌≤◌, ◌<◌}
use native.Mathlib.Omega.{arith}
use lib.Dec.{T, eqb}
use lib.ListN.{length, get_or, take, drop, length-append}
use lib.Seq.{take_at, drop_at}
use Rattle.sets.specs.Sets.{Mem, here, there, Distinct, filter}
use Rattle.sets.proofs.Sets.{on_cons}
use Rattle.sets.proofs.Tests.{nor_iff, eq_iff}
use Rattle.sets.proofs.Filter.{all_iff, not_member_iff, filter_flatten, map_flatten, map_agree}
use Rattle.files.specs.Field.{kind_of, site_of, labels_of, size_of, file}
use Rattle.files.specs.Refuse.{header_check}
use Rattle.files.specs.Bundle.{files_check, headers, twice, headers_check}
use Rattle.files.proofs.Checks.{checks}
use Rattle.files.proofs.Fields.{Header, header}
use Rattle.files.specs.Limits.{reply_words, final_words}

-- a file of a kind that passes its own check by itself; `body` checks the words behind the header
pub record File (kind : ℕ) (body : ℕ → List ℕ → ℕ) (f : List ℕ) : Type 0 where
  pub some : 0 < length f
  pub short : length f ≤ reply_words
  pub head : header_check kind true true (length f) (get_or f 0 0) ≡ 0
  pub checked : body (get_or f 0 0) (drop 1 f) ≡ 0

-- a header that is read as it was made passes its check
pub header_checked : (s l : Bool) (kind site n size h : ℕ) → Header kind site n size h → T (s || eqb site 0) → T (l || eqb n 0)
    → header_check kind s l size h ≡ 0
header_checked s l kind site n size h r p q = simp (checks, r.site_is, r.labels_is) ((((r.kind_is, r.zeros), p), q), r.size_is)

-- a made file is of 32-bit words if its body is
pub file_words : (kind site n : ℕ) (ws : List ℕ) → kind < 16 → site < 16 → n < 16 → length ws < final_words
    → ((w : ℕ) → Mem w ws → w < 2 ^ 32) → (w : ℕ) → Mem w (file kind site n ws) → w < 2 ^ 32
file_words kind site n ws k s l h b = on_cons (λ w. w < 2 ^ 32) (header kind site n (suc (length ws)) k s l (omega arith)).word b

-- an accepted file of 32-bit words, of a site and with an n
pub record Made (kind site n : ℕ) (body : ℕ → List ℕ → ℕ) (f : List ℕ) : Type 0 where
  pub is_file : File kind body f
  pub site_is : site_of (get_or f 0 0) ≡ site
  pub labels_is : labels_of (get_or f 0 0) ≡ n
  pub words : (w : ℕ) → Mem w f → w < 2 ^ 32

-- a made file is one if its body is
pub file_made : (kind site n : ℕ) (body : ℕ → List ℕ → ℕ) (ws : List ℕ) → kind < 16 → site < 16 → n < 16 → length ws < reply_words
    → ((w : ℕ) → Mem w ws → w < 2 ^ 32) → ((h : ℕ) → labels_of h ≡ n → body h ws ≡ 0) → Made kind site n body (file kind site n ws)
file_made kind site n body ws k s l h b c =
    let r = header kind site n (suc (length ws)) k s l (omega arith) in
    record {
      is_file = record { some = omega arith; short = h; head = header_checked true true kind site n _ _ r tt tt; checked = c _ r.labels_is };
      site_is = r.site_is;
      labels_is = r.labels_is;
      words = file_words kind site n ws k s l (omega arith) b;
    }

module _ (kind : ℕ) (body : ℕ → List ℕ → ℕ) where
  -- what a file's header says
  pub header_kind : (f : List ℕ) → File kind body f → kind_of (get_or f 0 0) ≡ kind
  header_kind f c = (simp checks at c.head).0.0.0.0

  header_size : (f : List ℕ) → File kind body f → size_of (get_or f 0 0) ≡ length f
  header_size f c = (simp checks at c.head).1

  -- the file that begins a bundle ends where its header says
  module _ (h : ℕ) (ws rest : List ℕ) (f : File kind body (h ∷ ws)) where
    size : size_of h ≡ suc (length ws)
    size = header_size (h ∷ ws) f

    take_file : take (size_of h - 1) (ws ++ rest) ≡ ws
    take_file = take_at ws rest (size_of h - 1) (omega (arith, size))

    drop_file : drop (size_of h - 1) (ws ++ rest) ≡ rest
    drop_file = drop_at ws rest (size_of h - 1) (omega (arith, size))

  pub files_accepted : (k : ℕ) (fs : List (List ℕ)) → ((f : List ℕ) → Mem f fs → File kind body f)
      → files_check kind body k (flatten fs) ≡ 0
  unfolding flatten
  files_accepted zero fs c = refl
  files_accepted (suc k) [] c = refl
  files_accepted (suc k) ([] ∷ fs) c = absurd (omega (arith, (c [] (here refl)).some))
  files_accepted (suc k) ((h ∷ ws) ∷ fs) c =
      let f = c (h ∷ ws) (here refl) in
      let e = size h ws (flatten fs) f in
      rw (take_file h ws (flatten fs) f, drop_file h ws (flatten fs) f) (simp checks (
        ((simp checks at f.head).0, refl),
        (((omega arith, omega (arith, f.short)), omega (arith, length-append ws (flatten fs))), (f.checked, files_accepted k fs (λ g m. c g (there m)))),
      ))

  pub headers_read : (k : ℕ) (fs : List (List ℕ)) → ((f : List ℕ) → Mem f fs → File kind body f) → length fs ≤ k
      → headers k (flatten fs) ≡ map (λ f. get_or f 0 0) fs
  unfolding flatten
  headers_read zero [] c l = refl
  headers_read zero (f ∷ fs) c l = absurd (omega arith)
  headers_read (suc k) [] c l = refl
  headers_read (suc k) ([] ∷ fs) c l = absurd (omega (arith, (c [] (here refl)).some))
  headers_read (suc k) ((h ∷ ws) ∷ fs) c l =
      ap (h ∷◌) (rw (drop_file h ws (flatten fs) (c (h ∷ ws) (here refl))) (headers_read k fs (λ g m. c g (there m)) (omega arith)))

  -- a bundle has at least as many words as files
  pub files_length : (fs : List (List ℕ)) → ((f : List ℕ) → Mem f fs → File kind body f) → length fs ≤ length (flatten fs)
  unfolding flatten
  files_length [] c = omega arith
  files_length (f ∷ fs) c = simp length-append (omega (arith, (c f (here refl)).some, files_length fs (λ g m. c g (there m))))

  -- the words of a bundle that pass a test which no header passes are those of the files behind their headers
  filter_files : (p : ℕ → Bool) → ((w : ℕ) → kind_of w ≡ kind → p w ≡ false) → (fs : List (List ℕ))
      → ((f : List ℕ) → Mem f fs → File kind body f) → filter p (flatten fs) ≡ flatten (map (λ f. filter p (drop 1 f)) fs)
  filter_files p h fs c = filter_flatten p fs ∙ ap flatten (map_agree (filter p) (λ f. filter p (drop 1 f)) fs (λ f m. behind f (c f m)))
    where
      behind : (f : List ℕ) → File kind body f → filter p f ≡ filter p (drop 1 f)
      behind [] c = refl
      behind (w ∷ ws) c = rw (h w (header_kind (w ∷ ws) c))

  -- what g makes of those words is what it makes of each file's
  pub chosen_files : (g : ℕ → ℕ) (p : ℕ → Bool) → ((w : ℕ) → kind_of w ≡ kind → p w ≡ false) → (fs : List (List ℕ))
      → ((f : List ℕ) → Mem f fs → File kind body f) → map g (filter p (flatten fs)) ≡ flatten (map (λ f. map g (filter p (drop 1 f))) fs)
  chosen_files g p h fs c = rw (filter_files p h fs c) (map_flatten g (map (λ f. filter p (drop 1 f)) fs) ∙ rw map-map)

-- Over all: sites and n

pub twice_iff : (xs : List ℕ) → T (not (twice xs)) ↔ Distinct xs
twice_iff [] = (λ t. tt, λ t. tt)
twice_iff (x ∷ xs) =
    let i = twice_iff xs in (
      λ t. let n = simp nor_iff at t in ((not_member_iff x xs).0 n.0, i.0 n.1),
      λ d. simp nor_iff ((not_member_iff x xs).1 d.0, i.1 d.1),
    )

-- different sites and the same n
pub headers_accepted : (n : ℕ) (hs : List ℕ) → Distinct (map site_of hs) → ((h : ℕ) → Mem h hs → labels_of h ≡ n) → headers_check hs ≡ 0
headers_accepted n hs d l = simp checks (
  (twice_iff (map site_of hs)).1 d,
  (all_iff (λ h. eqb (labels_of h) (labels_of (get_or hs 0 0))) hs).1 (λ h m. (eq_iff _ _).1 (l h m ∙ sym (l (get_or hs 0 0) (first_mem hs m)))),
)
  where
    first_mem : {h : ℕ} (hs : List ℕ) → Mem h hs → Mem (get_or hs 0 0) hs
    first_mem [] m = elim m [ ]
    first_mem (h ∷ hs) m = here refl
