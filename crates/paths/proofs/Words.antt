-- A path's words, one by one: what the construction holds with what the words that are left make is the automaton of the whole. Assumes nothing.
use mathlib.Core.Path.{◌≡◌, refl, sym, ap, subst, ◌∙◌}
use mathlib.Core.Bool.{Bool, true, false, cond}
use mathlib.Core.List.{List, [], ◌∷◌, ◌++◌, map}
use mathlib.Core.Option
use mathlib.Core.Option.{some}
use Prim.Native.Nat.{ℕ, zero, suc, ◌+◌, ◌≤◌, ◌<◌}
use native.Mathlib.Omega.{arith}
use lib.ListN.{length, get_or, drop, length-append}
use Rattle.sets.specs.Sets.{filter}
use Rattle.files.specs.Word.{words}
use Rattle.files.specs.Limits.{most_waiting}
use Rattle.files.specs.Path.{is_label, operator_of, takes, scan, path_check}
use Rattle.files.specs.Groups.{load, loaded, Ranges}
use Rattle.files.specs.Expr.{expr_check}
use Rattle.files.proofs.Checks.{then_iff, checks}
use Rattle.files.proofs.Groups.{load_label, load_takes, loaded_checked}
use Rattle.paths.specs.declared.builder.Builder.{Builder}
use Rattle.paths.specs.declared.automaton.Automaton.{Automaton}
use Rattle.expressions.specs.Expr.{Expr}
use Rattle.expressions.specs.Postfix.{put_letter}
use Rattle.expressions.specs.Labels.{operator_item, item, expr_of}
use Rattle.paths.specs.Letters.{Labelled}
use Rattle.paths.specs.Builder.{fragments_in, follow_in, Starts, operands_of, letters_of, Applicable, Does}
use Rattle.paths.specs.Automaton.{Automates, Finishes}
use Rattle.expressions.proofs.Postfix.{compute_read}
use Rattle.expressions.proofs.Paths.{path_reads}
use Rattle.expressions.specs.Fragments.{compute, construction_of}

-- what a word takes, and what it adds to the label words, by its item
takes_is : (w : ℕ) → operands_of (item w) ≡ takes w
takes_is w = go (is_label w) (operator_of w) (omega arith)
  where
    go : (b : Bool) (k : ℕ) → k < 4 → operands_of (cond b (put_letter w) (operator_item k)) ≡ cond b 0 (get_or (0 ∷ 2 ∷ 2 ∷ 1 ∷ []) k 0)
    go true k h = refl
    go false zero h = refl
    go false (suc zero) h = refl
    go false (suc (suc zero)) h = refl
    go false (suc (suc (suc zero))) h = refl
    go false (suc (suc (suc (suc k)))) h = absurd (omega arith)

-- v stands for w
letters_are : (v w : ℕ) → is_label v ≡ is_label w → (ws : List ℕ) → length (filter is_label (w ∷ ws)) ≡ length (letters_of (item v)) + length (filter is_label ws)
letters_are v w e ws = rw e (go (is_label w) (operator_of v))
  where
    go : (b : Bool) (k : ℕ) → length (cond b (w ∷ filter is_label ws) (filter is_label ws)) ≡ length (letters_of (cond b (put_letter v) (operator_item k))) + length (filter is_label ws)
    go true k = omega arith
    go false zero = omega arith
    go false (suc zero) = omega arith
    go false (suc (suc zero)) = omega arith
    go false (suc (suc (suc k))) = omega arith

-- the words that are left, with the groups loaded, make of b the automaton of e
pub record Building (groups : List ℕ) (e : Expr) (left : List ℕ) (b : Builder) : Type 0 where
  pub seen : List ℕ
  pub labelled : Labelled b.letters seen
  pub computes : compute (map item (map (load groups) left)) seen (fragments_in b) (follow_in b) ≡ some (construction_of e)
  pub scans : scan most_waiting b.waiting left ≡ 0
  pub few : length seen + length (filter is_label left) ≤ 15
  pub most : b.waiting ≤ most_waiting
  pub sized : length b.operands ≡ most_waiting

module _ {groups : List ℕ} (g : Ranges groups) where
  building_first : (path : List ℕ) {b : Builder} → path_check path ≡ 0 → Starts b → Building groups (expr_of (drop 1 (loaded groups path))) (drop 1 path) b
  building_first [] ok s = absurd (omega arith)
  building_first (h ∷ ws) {b} ok s =
      let k = simp checks at ok in
      record {
        seen = [];
        labelled = s.letters;
        computes = rw (s.waiting, s.rows) (compute_read (map item (map (load groups) ws)) ∙ ap (Option.map construction_of) (path_reads (loaded groups (h ∷ ws)) (loaded_checked groups g (h ∷ ws) ok)));
        scans = rw s.waiting k.1.0;
        few = omega (arith, k.1.1);
        most = omega (arith, s.waiting);
        sized = s.sized;
      }

  module _ {e : Expr} {w : ℕ} {ws : List ℕ} {b : Builder} (h : Building groups e (w ∷ ws) b) where
    building_right : expr_check w ≡ 0
    building_right = (simp then_iff at h.scans).0.0

    -- the word as it is loaded takes what it takes
    takes_as : operands_of (item (load groups w)) ≡ takes w
    takes_as = takes_is (load groups w) ∙ load_takes groups g w

    -- and adds a letter where it is a label word
    letters_as : length (filter is_label (w ∷ ws)) ≡ length (letters_of (item (load groups w))) + length (filter is_label ws)
    letters_as = letters_are (load groups w) w (load_label groups g w) ws

    building_applicable : Applicable (item (load groups w)) b
    building_applicable =
        let k = simp checks at h.scans in
        record {
          enough = omega (arith, takes_as, k.0.1.0);
          most = h.most;
          sized = h.sized;
          room = omega (arith, takes_as, k.0.1.1);
          few = omega (arith, h.few, h.labelled.count, letters_as);
        }

    building_more : {r : Builder} → Does (item (load groups w)) b r → Building groups e ws r
    building_more d =
        let k = simp checks at h.scans in
        record {
          seen = h.seen ++ letters_of (item (load groups w));
          labelled = d.letters h.seen h.labelled;
          computes = sym (d.computes (map item (map (load groups) ws)) h.seen h.labelled.count) ∙ h.computes;
          scans = rw (d.waiting, takes_as) k.1;
          few = omega (arith, h.few, letters_as, length-append h.seen (letters_of (item (load groups w))));
          most = omega (arith, d.waiting, takes_as, k.0.1.1);
          sized = d.sized ∙ h.sized;
        }

-- ---- for the loop over a path's words

-- the words ws are left, and the groups are ranges
pub record Reading (groups path ws : List ℕ) (b : Builder) : Type 0 where
  pub ranges : Ranges groups
  pub left : Building groups (expr_of (drop 1 (loaded groups (words path)))) ws b

pub reading_first : (groups path : List ℕ) {ws : List ℕ} {b : Builder} → ws ≡ drop 1 (words path) → Ranges groups → path_check (words path) ≡ 0 → Starts b
    → Reading groups path ws b
reading_first groups path e g ok s = rw e (record { ranges = g; left = building_first g (words path) ok s })

module _ {groups path vs : List ℕ} {b : Builder} (h : Reading groups path vs b) where
  module _ {w : ℕ} {ws : List ℕ} (q : vs ≡ w ∷ ws) where
    rest : Building groups (expr_of (drop 1 (loaded groups (words path)))) (w ∷ ws) b
    rest = subst (λ l. Building groups (expr_of (drop 1 (loaded groups (words path)))) l b) q h.left

    pub reading_right : expr_check w ≡ 0
    reading_right = building_right h.ranges rest

    pub reading_applicable : Applicable (item (load groups w)) b
    reading_applicable = building_applicable h.ranges rest

    pub reading_more : {b' : Builder} → Does (item (load groups w)) b b' → Reading groups path ws b'
    reading_more d = record { ranges = h.ranges; left = building_more h.ranges rest d }

  pub reading_last : {f : Automaton} → vs ≡ [] → Finishes b f → Automates f (expr_of (drop 1 (loaded groups (words path))))
  reading_last q d =
      let e = expr_of (drop 1 (loaded groups (words path))) in
      let z = subst (λ l. Building groups e l b) q h.left in
      d e z.seen z.labelled (omega (arith, z.few)) z.computes

-- v is the value of the groups
pub by_value : (s path : List ℕ) {v : List ℕ} {a : Automaton} → v ≡ words s → Automates a (expr_of (drop 1 (loaded v path))) → Automates a (expr_of (drop 1 (loaded (words s) path)))
by_value s path {a = a} e h = subst (λ g. Automates a (expr_of (drop 1 (loaded g path)))) e h
