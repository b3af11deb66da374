-- What the desks share is the choice among what each would get by itself. Assumes nothing.
use mathlib.Core.Path.{◌≡◌, refl, sym, ◌∙◌, ap, ap₂}
use mathlib.Core.List.{List, [], ◌∷◌, ◌++◌, map, flatten}
use Prim.Native.Nat.{ℕ, zero, suc, ◌+◌, ◌≤◌, ◌<◌}
use native.Mathlib.Omega.{arith}
use native.Mathlib.Decide.{dec_le}
use lib.ListN.{length, replicate}
use Rattle.sets.specs.Sets.{Mem, here, there}
use Rattle.files.specs.Limits.{reply_words}
use Rattle.files.specs.Outcome.{Outcome, refused, accepted, outcome, zeros, padded, left}
use Rattle.files.proofs.Checks.{outcome_gives, outcome_over}
use Rattle.path_bundles.specs.Split.{file_in, behind}
use Rattle.path_bundles.specs.Packed.{packed}
use Rattle.visits.specs.Answered.{VisitChecked, SiteReady, Own, own_by}
use Rattle.visits.proofs.Visiting.{site_ready, ready_split, own_answered, own_formed, whole_small}
use Rattle.visits.proofs.Answering.{by_files, outcomes}
use Rattle.choices.specs.Choice.{Desk, is_short, words_in, choose, numbers, put_in}
use Rattle.choices.specs.Shared.{desk_of, reply_of, numbers_of, shared, leaves_shared}
use Rattle.choices.proofs.Choosing.{choose_other, choose_fits, choose_over, short_desk, long_desk, refused_desk}
use Rattle.desks.specs.Owns.{owns, size_of_own, short_part, long_part, short_sum, offered, chosen, replies_of, numbers_in}
use Rattle.desks.specs.Turns.{Asking}
use Rattle.desks.proofs.Owning.{sort, short, long, offered_short, offered_fits, offered_over, chosen_step}
use Rattle.eight_replies.specs.Rounds.{Shares}
use Rattle.eight_replies.specs.Eight.{desk_count, eight_replies_grouped, eight_replies_grouped_call}

-- a desk's outcome, by what it has ahead of the limit
abbrev outcome_of : Own → Outcome
outcome_of x = outcome x.number reply_words x.reply

-- a refused path has no reply
abbrev Formed : List Own → Type 0
Formed [] = Unit {0}
Formed (x ∷ xs) = ((x.number ≡ 0 → ⊥) → x.reply ≡ []) × Formed xs

-- One desk: what it has by itself and what it gets, where so many words are taken. It keeps its own number or reply, or it is long.
pub data Turn (taken : ℕ) (x : Own) : Type 0 where
  refuses : (k : ℕ) → outcome_of x ≡ refused (suc k) → offered taken x ≡ own_by (suc k) [] → short_part (size_of_own x) ≡ 0 → Turn taken x
  is_short_lem : outcome_of x ≡ accepted x.reply → offered taken x ≡ x → x.number ≡ 0 → size_of_own x ≤ 512 → short_part (size_of_own x) ≡ size_of_own x → long_part (size_of_own x) ≡ 0 → Turn taken x
  fits : outcome_of x ≡ accepted x.reply → offered taken x ≡ x → x.number ≡ 0 → 512 < size_of_own x → taken + size_of_own x ≤ reply_words → short_part (size_of_own x) ≡ 0
      → long_part (size_of_own x) ≡ size_of_own x → Turn taken x
  over : outcome_of x ≡ accepted x.reply → offered taken x ≡ own_by 15 [] → 512 < size_of_own x → reply_words < taken + size_of_own x → short_part (size_of_own x) ≡ 0 → Turn taken x

turn : (taken : ℕ) (x : Own) → ((x.number ≡ 0 → ⊥) → x.reply ≡ []) → Turn taken x
turn taken x f = by x.number refl
  where
    by : (k : ℕ) → x.number ≡ k → Turn taken x
    by (suc k) e =
        let n : x.reply ≡ [] = f (λ z. omega (arith, e)) in
        let z : size_of_own x ≡ 0 = ap length n in
        refuses k (rw e) (offered_short taken x (omega (arith, z)) ∙ (λ i. record { number = e i; reply = n i })) (ap short_part z)
    by zero e = elim (sort (size_of_own x)) [
      | short a t p q ↦ is_short_lem (rw e (outcome_gives reply_words x.reply (omega arith))) (offered_short taken x a) e a p q
      | long a t p q ↦ elim (dec_le (size_of_own x) reply_words) [
        | no b ↦ refuses 14 (rw e (outcome_over reply_words x.reply (omega arith))) (offered_over taken x a (omega arith)) p
        | yes b ↦ elim (dec_le (taken + size_of_own x) reply_words) [
          | yes c ↦ fits (rw e (outcome_gives reply_words x.reply b)) (offered_fits taken x a c) e a c p q
          | no c ↦ over (rw e (outcome_gives reply_words x.reply b)) (offered_over taken x a (omega arith)) a (omega arith) p
        ]
      ]
    ]

-- the words of short replies
short_same : (xs : List Own) → Formed xs → words_in is_short (map desk_of (map outcome_of xs)) ≡ short_sum xs
short_same [] f = refl
short_same (x ∷ xs) (f, g) = elim (turn 0 x f) [
  | refuses k o y p ↦ rw (o, p, (refused_desk (record { number = suc k; size = 0 }) (λ z. omega arith)).0) (omega (arith, short_same xs g))
  | is_short_lem o y n a p q ↦ rw (o, p, (short_desk (record { number = 0; size = size_of_own x }) refl a).0) (ap (size_of_own x +◌) (short_same xs g))
  | fits o y n a c p q ↦ rw (o, p, (long_desk (record { number = 0; size = size_of_own x }) refl a).0) (omega (arith, short_same xs g))
  | over o y a c p ↦ rw (o, p, (long_desk (record { number = 0; size = size_of_own x }) refl a).0) (omega (arith, short_same xs g))
]

-- numbers and words of the choice
module _ (taken : ℕ) (x : Own) (xs : List Own) where
  abbrev ds : List Desk
  ds = map desk_of (map outcome_of xs)

  abbrev rs : List (List ℕ)
  rs = map reply_of (map outcome_of xs)

  Same : ℕ → Type 0
  Same t = (choose t ds ≡ numbers_in (chosen t xs)) × (flatten (put_in (choose t ds) rs) ≡ replies_of (chosen t xs))

  -- what comes behind it, where it gets y
  after : (y : Own) (t : ℕ) → offered taken x ≡ y → taken + long_part (size_of_own y) ≡ t → chosen taken (x ∷ xs) ≡ y ∷ chosen t xs
  after y t e q = chosen_step taken x xs ∙ ap (λ y. y ∷ chosen (taken + long_part (size_of_own y)) xs) e ∙ ap (λ t. y ∷ chosen t xs) q

  -- its reply is put in, or it is not
  module _ (o : Outcome) (e : outcome_of x ≡ o) (y : Own) (t : ℕ) (g : offered taken x ≡ y) (q : taken + long_part (size_of_own y) ≡ t)
      (c : choose taken (desk_of o ∷ ds) ≡ y.number ∷ choose t ds)
      (put : flatten (put_in (y.number ∷ choose t ds) (reply_of o ∷ rs)) ≡ y.reply ++ flatten (put_in (choose t ds) rs)) where
    turned : (choose t ds ≡ numbers_in (chosen t xs)) × (flatten (put_in (choose t ds) rs) ≡ replies_of (chosen t xs))
        → (choose taken (desk_of (outcome_of x) ∷ ds) ≡ numbers_in (chosen taken (x ∷ xs)))
        × (flatten (put_in (choose taken (desk_of (outcome_of x) ∷ ds)) (reply_of (outcome_of x) ∷ rs)) ≡ replies_of (chosen taken (x ∷ xs)))
    turned (a, b) = (
      ap (λ o. choose taken (desk_of o ∷ ds)) e ∙ c ∙ ap (y.number ∷◌) a ∙ sym (ap numbers_in (after y t g q)),
      ap (λ o. flatten (put_in (choose taken (desk_of o ∷ ds)) (reply_of o ∷ rs))) e ∙ ap (λ ns. flatten (put_in ns (reply_of o ∷ rs))) c ∙ put
          ∙ ap (y.reply ++◌) b ∙ sym (ap replies_of (after y t g q)),
    )

put_zero : (n : ℕ) (ns : List ℕ) (r : List ℕ) (rs : List (List ℕ)) → n ≡ 0 → flatten (put_in (n ∷ ns) (r ∷ rs)) ≡ r ++ flatten (put_in ns rs)
unfolding flatten
put_zero zero ns r rs e = refl
put_zero (suc n) ns r rs e = absurd (omega arith)

choice_same : (taken : ℕ) (xs : List Own) → Formed xs
    → (choose taken (map desk_of (map outcome_of xs)) ≡ numbers_in (chosen taken xs))
    × (flatten (put_in (choose taken (map desk_of (map outcome_of xs))) (map reply_of (map outcome_of xs))) ≡ replies_of (chosen taken xs))
unfolding chosen flatten
choice_same taken [] f = (refl, refl)
choice_same taken (x ∷ xs) (f, g) =
    let ds = map desk_of (map outcome_of xs) in
    elim (turn taken x f) [
      | refuses k o y p ↦
          let d : Desk = record { number = suc k; size = 0 } in
          turned taken x xs (refused (suc k)) o (own_by (suc k) []) taken y (omega arith) (choose_other taken d ds (refused_desk d (λ z. omega arith)).1) refl (choice_same taken xs g)
      | is_short_lem o y n a p q ↦
          let d : Desk = record { number = 0; size = size_of_own x } in
          turned taken x xs (accepted x.reply) o x taken y (omega (arith, q)) (choose_other taken d ds (short_desk d refl a).1 ∙ ap (◌∷ choose taken ds) (sym n))
          (put_zero x.number (choose taken ds) x.reply (map reply_of (map outcome_of xs)) n) (choice_same taken xs g)
      | fits o y n a c p q ↦
          let d : Desk = record { number = 0; size = size_of_own x } in
          let t : ℕ = taken + size_of_own x in
          turned taken x xs (accepted x.reply) o x t y (ap (taken +◌) q) (choose_fits taken d ds (long_desk d refl a).1 c ∙ ap (◌∷ choose t ds) (sym n))
          (put_zero x.number (choose t ds) x.reply (map reply_of (map outcome_of xs)) n) (choice_same t xs g)
      | over o y a c p ↦
          let d : Desk = record { number = 0; size = size_of_own x } in
          turned taken x xs (accepted x.reply) o (own_by 15 []) taken y (omega arith) (choose_over taken d ds (long_desk d refl a).1 c) refl (choice_same taken xs g)
    ]

-- ---- the call

module _ (whole : ℕ) (part groups : List ℕ) where
  owns_formed : (k : ℕ) (s : List ℕ) → Formed (owns whole part groups k s)
  unfolding owns
  owns_formed zero s = tt
  owns_formed (suc k) s = (own_formed whole part groups (file_in s), owns_formed k (behind s))

  files_owned : (k n : ℕ) (s : List ℕ) → by_files whole part groups (replicate k n) s ≡ map outcome_of (owns whole part groups k s)
  unfolding owns
  files_owned zero n s = refl
  files_owned (suc k) n s = ap₂ ◌∷◌ (own_answered whole part groups (file_in s)) (files_owned k n (behind s))

replicated : (k n : ℕ) {i : ℕ} → Mem i (replicate k n) → i ≡ n
replicated zero n m = elim m [ ]
replicated (suc k) n (here e) = e
replicated (suc k) n (there m) = replicated k n m

-- one output for all: its checks are those of the whole
pub desks_asking : {n m k l whole : ℕ} {part groups paths : List ℕ} → VisitChecked desk_count n m part groups paths whole → k ≡ n → l ≡ m → Asking whole k l part groups
desks_asking {n} {m} {whole = whole} {part} {groups} {paths} c e q = record {
  ready = rw e (site_ready (n ∷ []) c (here refl) q);
  small = rw c.checked.is (whole_small desk_count n m part groups paths);
}

-- what is shared
pub eight_shared : {n m r whole : ℕ} {part groups paths out work : List ℕ} → VisitChecked desk_count n m part groups paths whole
    → Shares n (owns whole part groups desk_count paths) r out → work ≡ zeros m → left r out work ≡ eight_replies_grouped_call n m part groups paths
unfolding eight_replies_grouped numbers
eight_shared {n} {m} {r} {whole} {part} {groups} {paths} {out} {work} c g z =
    let xs = owns whole part groups desk_count paths in
    let ready : (i : ℕ) → Mem i (replicate desk_count n) → SiteReady whole i m part groups = λ i h. rw (replicated desk_count n h) (site_ready (n ∷ []) c (here refl) refl) in
    let os : eight_replies_grouped n m part groups paths ≡ map outcome_of xs =
    rw (← c.checked.is) (outcomes m part groups desk_count whole (replicate desk_count n) paths (omega arith) ready (ready_split c) ∙ files_owned whole part groups desk_count n paths) in
    let f = owns_formed whole part groups desk_count paths in
    let (a, b) = choice_same (short_sum xs) xs f in
    let s = short_same xs f in
    let ns : numbers_of (map outcome_of xs) ≡ numbers_in (chosen (short_sum xs) xs) = ap (λ t. choose t (map desk_of (map outcome_of xs))) s ∙ a in
    let ws : shared (map outcome_of xs) ≡ replies_of (chosen (short_sum xs) xs) =
    ap (λ t. flatten (put_in (choose t (map desk_of (map outcome_of xs))) (map reply_of (map outcome_of xs)))) s ∙ b in
    (λ i. left (g.numbers_are i) (g.output i) (z i)) ∙ sym (ap (λ os. leaves_shared os n m) os ∙ (λ i. left (packed (ns i)) (padded n (ws i)) (zeros m)))
