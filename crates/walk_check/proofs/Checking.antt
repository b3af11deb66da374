-- The checker's yes is an accepted walk: of words, `check_iff`, for every file, expression and node; of bytes, `grouped_iff` with the customer's groups and
-- `checker_iff` with our own. Assumes nothing.
use mathlib.Core.Path.{◌≡◌, refl, sym, subst, ap, ◌∙◌}
use mathlib.Core.Logic.{◌↔◌}
use mathlib.Core.Bool.{Bool, ◌&&◌}
use mathlib.Core.List.{List, [], ◌∷◌}
use Prim.Native.Nat.{ℕ, suc, ◌+◌, ◌*◌, ◌^◌, ◌≤◌, ◌<◌}
use native.Mathlib.Omega.{arith}
use lib.Dec.{T, eqb}
use lib.ListN.{length, get_or, drop}
use Rattle.sets.specs.Sets.{Mem, here, there, any, member}
use Rattle.sets.proofs.Tests.{and_iff, eq_iff}
use Rattle.sets.proofs.Sets.{member_iff}
use Rattle.sets.proofs.Filter.{any_iff}
use Rattle.sets.proofs.Lengths.{mem_drop}
use Rattle.files.specs.Word.{words, bytes_of, Bytes}
use Rattle.files.specs.Field.{label_of, target_of}
use Rattle.files.specs.Refuse.{size_check}
use Rattle.files.specs.Part.{edges, roots}
use Rattle.files.specs.Groups.{loaded, our_groups, Ranges}
use Rattle.files.specs.Limits.{walk_words}
use Rattle.files.proofs.Checks.{checks}
use Rattle.files.proofs.Words.{words_bytes, words_length, size_checked}
use Rattle.files.proofs.Bytes.{bytes_words}
use Rattle.files.proofs.Blocks.{edge_of}
use Rattle.files.proofs.Files.{file_words}
use Rattle.files.proofs.Groups.{ours_ranges}
use Rattle.expressions.specs.Expr.{Expr}
use Rattle.expressions.specs.Positions.{accepts}
use Rattle.expressions.specs.Labels.{holds, expr_of}
use Rattle.file_walks.specs.Walks.{Along, Accepted, runs_in, IsWalkBy, walk_file, WalkBytes}
use Rattle.file_walks.specs.Moving.{moved}
use Rattle.file_walks.proofs.Leading.{From, from_cons, accepted_iff}
use Rattle.file_walks.proofs.Meaning.{walk_loaded}
use Rattle.walk_check.specs.Checker.{goes, check}
use Rattle.walk_check.specs.Check.{headed, says_yes}
use Rattle.walk_check.proofs.Going.{ours_says}

-- ---- words

module _ (holds : ℕ → ℕ → Bool) (runs : ℕ → Bool) (body : List ℕ) (e : Expr) (y : ℕ) where
  goes_iff : (ws : List ℕ) (x : ℕ) (s : List ℕ) → T (goes holds runs body e y x s ws) ↔ From holds runs body e y x s ws
  unfolding goes
  goes_iff [] x s = (
    λ t. let (a, b) = (and_iff (eqb x y) (any (accepts e) s)).0 t in let (q, m, k) = (any_iff (accepts e) s).0 b in (q, m, ((eq_iff x y).0 a, k)),
    λ (q, m, l). (and_iff (eqb x y) (any (accepts e) s)).1 ((eq_iff x y).1 l.0, (any_iff (accepts e) s).1 (q, m, l.1)),
  )
  goes_iff (w ∷ ws) x s =
      let i = goes_iff ws (target_of w) (moved holds e s (label_of w)) in
      let t = goes holds runs body e y (target_of w) (moved holds e s (label_of w)) ws in
      let c = from_cons holds runs body e y w ws x s in (
        λ k.
            let (a, d) = (and_iff (member w (edges body x) && runs (target_of w)) t).0 k in
            let (a, b) = (and_iff (member w (edges body x)) (runs (target_of w))).0 a in
            c.1 ((member_iff w (edges body x)).0 a, b, i.0 d),
        λ f.
            let (a, b, d) = c.0 f in
            (and_iff (member w (edges body x) && runs (target_of w)) t).1
            ((and_iff (member w (edges body x)) (runs (target_of w))).1 ((member_iff w (edges body x)).1 a, b), i.1 d),
      )

  pub check_iff : (ws : List ℕ) → T (check holds runs body e y ws) ↔ Accepted holds runs body e y ws
  unfolding check
  check_iff ws = (
    λ t.
        let (r, m, k) = (any_iff test (roots body)).0 t in
        let (a, b) = (and_iff (runs r) (goes holds runs body e y r (0 ∷ []) ws)).0 k in
        (accepted_iff holds runs body e y ws).1 (r, m, a, (goes_iff ws r (0 ∷ [])).0 b),
    λ a.
        let (r, m, t, f) = (accepted_iff holds runs body e y ws).0 a in
        (any_iff test (roots body)).1 (r, m, (and_iff (runs r) (goes holds runs body e y r (0 ∷ []) ws)).1 (t, (goes_iff ws r (0 ∷ [])).1 f)),
  )
    where
      test : ℕ → Bool
      test r = runs r && goes holds runs body e y r (0 ∷ []) ws

-- ---- bytes

-- the words of a walk are words of the file
along_words : (runs : ℕ → Bool) (body ws : List ℕ) (x y : ℕ) → Along runs body x ws y → (w : ℕ) → Mem w ws → Mem w body
along_words runs body (v ∷ ws) x y a w (here e) = subst (λ v. Mem v body) (sym e) (edge_of body x v a.0).0
along_words runs body (v ∷ ws) x y a w (there m) = along_words runs body ws (target_of v) y a.2 w m
along_words runs body [] x y a w x4 = elim x4 [ ]

header_is : (ws : List ℕ) → walk_file ws ≡ suc (length ws) ∷ ws
header_is ws = let i : 0 * 2 ^ 28 + (0 * 2 ^ 24 + 0 * 2 ^ 20 + suc (length ws)) ≡ suc (length ws) = omega arith in ap (◌∷ ws) i

-- a walk's file is headed, and what is headed is one
headed_iff : (fs : List ℕ) → T (headed fs) ↔ (fs ≡ walk_file (drop 1 fs))
headed_iff [] = (λ t. absurd t, λ i. absurd (let l = ap length i in omega arith))
headed_iff (h ∷ ws) = (
  λ t. ap (◌∷ ws) ((eq_iff h (suc (length ws))).0 t) ∙ sym (header_is ws),
  λ i. (eq_iff h (suc (length ws))).1 (ap (λ fs. get_or fs 0 0) (i ∙ header_is ws)),
)

module _ (groups : List ℕ) (ranges : Ranges groups) (whole path : List ℕ) (y : ℕ) where
  abbrev body : List ℕ
  body = drop 1 whole

  abbrev yes_for : List ℕ → Bool
  yes_for ws = check holds (runs_in body) body (expr_of (drop 1 (loaded groups path))) y ws

  -- the links are checked by the loaded path, and accepted by the path with the groups
  links_iff : (ws : List ℕ) → T (yes_for ws) ↔ IsWalkBy groups whole path y ws
  links_iff ws =
      let i = check_iff holds (runs_in body) body (expr_of (drop 1 (loaded groups path))) y ws in
      let m = walk_loaded groups ranges whole path y ws in
      (λ t. m.0 (i.0 t), λ a. i.1 (m.1 a))

  -- where the words are those of a walk's file, its answer is by the links alone
  of_words : (walk ws : List ℕ) → size_check walk_words walk ≡ 0 → words walk ≡ walk_file ws → T (yes_for ws) → T (says_yes whole (loaded groups path) y walk)
  unfolding says_yes
  of_words walk ws s i t =
      let k : T (eqb (size_check walk_words walk) 0 && headed (words walk)) =
      (and_iff (eqb (size_check walk_words walk) 0) (headed (words walk))).1
      ((eq_iff (size_check walk_words walk) 0).1 s, subst (λ fs. T (headed fs)) (sym i) ((headed_iff (walk_file ws)).1 refl)) in
      (and_iff (eqb (size_check walk_words walk) 0 && headed (words walk)) (yes_for (drop 1 (words walk)))).1
      (k, subst (λ fs. T (yes_for (drop 1 fs))) (sym i) t)

  module _ (word : (w : ℕ) → Mem w whole → w < 2 ^ 32) where
    -- it says yes to the bytes of an accepted walk's file
    pub yes_to : (ws : List ℕ) → length (walk_file ws) ≤ walk_words → IsWalkBy groups whole path y ws → T (says_yes whole (loaded groups path) y (bytes_of (walk_file ws)))
    yes_to ws few a =
        let f = walk_file ws in
        let small = file_words 0 0 0 ws (omega arith) (omega arith) (omega arith) (omega arith)
        (λ w m. word w (mem_drop whole (along_words (runs_in body) body ws a.root y a.along w m))) in
        of_words (bytes_of f) ws (size_checked walk_words f (omega arith) few) (words_bytes f small) ((links_iff ws).1 a)

    -- Document 02: it says yes exactly if the bytes are those of an accepted walk's file, and no to all others
    pub grouped_iff : (walk : List ℕ) → Bytes walk → T (says_yes whole (loaded groups path) y walk) ↔ WalkBytes groups whole path y walk
    unfolding says_yes
    grouped_iff walk bytes = (
      λ t.
          let (k, c) = (and_iff (eqb (size_check walk_words walk) 0 && headed (words walk)) (yes_for (drop 1 (words walk)))).0 t in
          let (s, h) = (and_iff (eqb (size_check walk_words walk) 0) (headed (words walk))).0 k in
          let s = simp checks at ((eq_iff (size_check walk_words walk) 0).0 s) in
          let i = (headed_iff (words walk)).0 h in
          record {
            links = drop 1 (words walk);
            layout = sym (bytes_words walk bytes s.0.0) ∙ ap bytes_of i;
            few = subst (λ fs. length fs ≤ walk_words) i (omega (arith, words_length walk, s.1));
            accepted = (links_iff (drop 1 (words walk))).0 c;
          },
      λ b. subst (λ walk. T (says_yes whole (loaded groups path) y walk)) (sym b.layout) (yes_to b.links b.few b.accepted),
    )

-- without groups: with our own
pub checker_iff : (whole path : List ℕ) (y : ℕ) → ((w : ℕ) → Mem w whole → w < 2 ^ 32) → (walk : List ℕ) → Bytes walk
    → T (says_yes whole path y walk) ↔ WalkBytes our_groups whole path y walk
checker_iff whole path y word walk bytes = rw (← ours_says whole path y walk) (grouped_iff our_groups ours_ranges whole path y word walk bytes)
