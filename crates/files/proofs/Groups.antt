-- Label groups: what loading makes of an accepted path is accepted, with a label word where that has one. Assumes nothing.
use mathlib.Core.Path.{◌≡◌, refl, sym, ap, ◌∙◌}
use mathlib.Core.Logic.{◌⊎◌, inl, inr}
use mathlib.Core.Bool.{Bool, true, false, cond, ◌&&◌}
use mathlib.Core.List.{List, [], ◌∷◌, map}
use Prim.Native.Nat.{ℕ, suc}
use native.Mathlib.Omega.{arith}
use lib.Dec.{eqb, leb}
use lib.ListN.{length, get_or, drop, length-map}
use Rattle.sets.specs.Sets.{filter}
use Rattle.sets.proofs.Filter.{all_iff}
use Rattle.sets.proofs.Lengths.{at_mem}
use Rattle.sets.proofs.Tests.{is_true, and_iff}
use Rattle.files.specs.Word.{words, bytes_of}
use Rattle.files.specs.Field.{labels_of}
use Rattle.files.specs.Limits.{most_waiting}
use Rattle.files.specs.Refuse.{◌unless◌, header_check}
use Rattle.files.specs.Path.{is_label, sort_of, high_of, low_of, group_of, label_check, takes, waits, word_check, scan, body_check, path_check}
use Rattle.files.specs.Groups.{is_range, groups_check, load, loaded, our_groups, Ranges}
use Rattle.files.proofs.Checks.{checks, then_iff, then_zero}
use Rattle.files.proofs.Words.{words_length}

pub groups_ranges : (s : List ℕ) → groups_check s ≡ 0 → Ranges (words s)
groups_ranges s h =
    let k = simp checks at h in
    record { each = λ g l. (all_iff is_range (words s)).0 k.1 (get_or (words s) g 0) (at_mem 0 (words s) g (omega (arith, words_length s, k.0))) }

pub ours_ranges : Ranges our_groups
ours_ranges = groups_ranges (bytes_of our_groups) refl

module _ (groups : List ℕ) (r : Ranges groups) where
  -- a word is left as it is, or it is a label word and becomes a range word of the groups
  abbrev Loads : ℕ → ℕ → Type 0
  Loads w v = (v ≡ w) ⊎ ((is_label w ≡ true) × (is_label v ≡ true) × (eqb (sort_of v) 0 ≡ true) × (leb (low_of v) (high_of v) ≡ true))

  loads : (w : ℕ) → Loads w (load groups w)
  loads w = go (is_label w) (eqb (sort_of w) 1) refl
    where
      go : (b c : Bool) → is_label w ≡ b → Loads w (cond (b && c) (get_or groups (group_of w) 0) w)
      go true true e =
          let k = simp and_iff at (r.each (group_of w) (omega arith)) in
          inr (e, is_true _ k.0.0, is_true _ k.0.1, is_true _ k.1)
      go true false e = inl refl
      go false c e = inl refl

  pub load_label : (w : ℕ) → is_label (load groups w) ≡ is_label w
  load_label w = elim (loads w) [ inl e ↦ ap is_label e | inr (e, f, s, l) ↦ f ∙ sym e ]

  pub load_takes : (w : ℕ) → takes (load groups w) ≡ takes w
  load_takes w = elim (loads w) [ inl e ↦ ap takes e | inr (e, f, s, l) ↦ rw (f, e) ]

  load_check : (waiting w : ℕ) → word_check most_waiting waiting w ≡ 0 → word_check most_waiting waiting (load groups w) ≡ 0
  load_check waiting w h = elim (loads w) [
    | inl e ↦ ap (word_check most_waiting waiting) e ∙ h
    | inr (e, f, s, l) ↦ rw (f, s, l) ((then_iff (label_check w) _).0 (rw e at h)).1
  ]

  load_scan : (waiting : ℕ) (ws : List ℕ) → scan most_waiting waiting ws ≡ 0 → scan most_waiting waiting (map (load groups) ws) ≡ 0
  load_scan waiting [] h = h
  load_scan waiting (w ∷ ws) h =
      let (c, k) = (then_iff (word_check most_waiting waiting w) (scan most_waiting (waits waiting w) ws)).0 h in
      let m : scan most_waiting (waits waiting (load groups w)) (map (load groups) ws) ≡ 0 = rw (load_takes w) (load_scan (waits waiting w) ws k) in
      then_zero (load_check waiting w c) m

  load_labels : (ws : List ℕ) → length (filter is_label (map (load groups) ws)) ≡ length (filter is_label ws)
  load_labels [] = refl
  load_labels (w ∷ ws) = rw (load_label w) (go (is_label w) (load_labels ws))
    where
      go : (b : Bool) → length (filter is_label (map (load groups) ws)) ≡ length (filter is_label ws)
          → length (cond b (load groups w ∷ filter is_label (map (load groups) ws)) (filter is_label (map (load groups) ws))) ≡ length (cond b (w ∷ filter is_label ws) (filter is_label ws))
      go true e = ap suc e
      go false e = e

  pub loaded_checked : (path : List ℕ) → path_check path ≡ 0 → path_check (loaded groups path) ≡ 0
  loaded_checked [] h = h
  loaded_checked (k ∷ ws) h =
      let (a, b) = (then_iff (header_check 4 false true (suc (length ws)) k) (body_check most_waiting k ws)).0 h in
      let (s, c) = (then_iff (scan most_waiting 0 ws) (9 unless eqb (length (filter is_label ws)) (labels_of k))).0 b in
      let a' : header_check 4 false true (suc (length (map (load groups) ws))) k ≡ 0 = rw (length-map ws (load groups)) a in
      let c' : (9 unless eqb (length (filter is_label (map (load groups) ws))) (labels_of k)) ≡ 0 = rw (load_labels ws) c in
      then_zero a' (then_zero (load_scan 0 ws s) c')

pub loaded_head : (groups path : List ℕ) → get_or (loaded groups path) 0 0 ≡ get_or path 0 0
loaded_head groups [] = refl
loaded_head groups (h ∷ ws) = refl

pub loaded_body : (groups path : List ℕ) → drop 1 (loaded groups path) ≡ map (load groups) (drop 1 path)
loaded_body groups [] = refl
loaded_body groups (h ∷ ws) = refl
