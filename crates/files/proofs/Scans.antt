-- A law of scans. Assumes nothing.
use mathlib.Core.Path.{◌≡◌}
use mathlib.Core.List.{List, [], ◌∷◌}
use Prim.Native.Nat.{ℕ}
use Rattle.files.specs.Scan.{scan_words}

-- a scan whose states hold those of another: `f` puts them there
pub scan_kept : {S T : Type 0} (check : S → ℕ → ℕ) (next : S → ℕ → S) (end : S → ℕ) (check' : T → ℕ → ℕ) (next' : T → ℕ → T) (end' : T → ℕ) (f : S → T)
    → ((st : S) (w : ℕ) → check' (f st) w ≡ check st w) → ((st : S) (w : ℕ) → next' (f st) w ≡ f (next st w)) → ((st : S) → end' (f st) ≡ end st)
    → (st : S) (ws : List ℕ) → scan_words check' next' end' (f st) ws ≡ scan_words check next end st ws
scan_kept check next end check' next' end' f c n e st [] = e st
scan_kept check next end check' next' end' f c n e st (w ∷ ws) =
    rw (c st w, n st w, scan_kept check next end check' next' end' f c n e (next st w) ws)
