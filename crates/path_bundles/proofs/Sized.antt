-- A file whose header says its length: it is found at the front of bytes, and so is what stands behind it. Assumes nothing.
use mathlib.Core.Path.{◌≡◌, refl, sym, ◌∙◌, ap}
use mathlib.Core.List.{List, [], ◌∷◌, ◌++◌}
use Prim.Native.Nat.{ℕ, suc, ◌*◌, ◌^◌, ◌<◌}
use native.Mathlib.Omega.{arith}
use lib.ListN.{length, get_or}
use Rattle.sets.specs.Sets.{here}
use Rattle.files.specs.Word.{bytes_of}
use Rattle.files.specs.Field.{size_of, file}
use Rattle.files.proofs.Checks.{checks}
use Rattle.files.proofs.Fields.{header}
use Rattle.files.proofs.Files.{Made}
use Rattle.files.proofs.Words.{word_bytes, bytes_length}
use Rattle.path_bundles.specs.Split.{bytes_in, file_in, behind}
use Rattle.path_bundles.proofs.Splitting.{front_file, front_behind}

pub record Sized (f : List ℕ) : Type 0 where
  pub some : 0 < length f
  pub word : get_or f 0 0 < 2 ^ 32
  pub size : size_of (get_or f 0 0) ≡ length f

-- every file that is made says its length
pub file_sized : (kind site n : ℕ) (ws : List ℕ) → kind < 16 → site < 16 → n < 16 → length ws < 8192 → Sized (file kind site n ws)
file_sized kind site n ws k s l h =
    let r = header kind site n (suc (length ws)) k s l (omega arith) in
    record { some = omega arith; word = r.word; size = r.size_is }

-- every accepted file does
pub made_sized : {kind site n : ℕ} {body : ℕ → List ℕ → ℕ} {f : List ℕ} → Made kind site n body f → Sized f
made_sized {f = []} m = absurd (omega (arith, m.is_file.some))
made_sized {f = h ∷ ws} m = record { some = omega arith; word = m.words h (here refl); size = (simp checks at m.is_file.head).1 }

sized_bytes : (f : List ℕ) → Sized f → (0 < length (bytes_of f)) × (length (bytes_of f) ≡ bytes_in (bytes_of f))
sized_bytes [] h = absurd (omega (arith, h.some))
sized_bytes (w ∷ f) h = (
  omega (arith, bytes_length (w ∷ f)),
  bytes_length (w ∷ f) ∙ ap (4 *◌) (sym h.size) ∙ ap (λ w. 4 * size_of w) (sym (word_bytes w h.word)),
)

-- it is found at the front, and what stands behind it
module _ (f rest : List ℕ) (h : Sized f) where
  pub sized_file : file_in (bytes_of f ++ rest) ≡ bytes_of f
  sized_file = let (some, sized) = sized_bytes f h in front_file (bytes_of f) rest some sized

  pub sized_behind : behind (bytes_of f ++ rest) ≡ rest
  sized_behind = let (some, sized) = sized_bytes f h in front_behind (bytes_of f) rest some sized
