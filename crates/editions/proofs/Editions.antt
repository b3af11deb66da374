-- Request 8: what the two calls make of any bytes, and each of the other's result, is what document 02 says. Assumes nothing.
use mathlib.Core.Path.{◌≡◌, refl, sym, ◌∙◌, ap}
use mathlib.Core.Logic.Iff
use mathlib.Core.Logic.{◌↔◌, inl, inr}
use mathlib.Core.List.Memᴰ
use mathlib.Core.List.{List, [], ◌∷◌, map}
use Prim.Native.Nat.{ℕ, zero, suc, ◌^◌, ◌≤◌, ◌<◌}
use native.Mathlib.Nat.{le_antisymm}
use native.Mathlib.Omega.{arith}
use lib.Dec.{leb}
use lib.ListN.{length, length-map}
use Rattle.sets.specs.Sets.{Mem, here, there, Same, Distinct, Ascending, Lists, set_of}
use Rattle.sets.proofs.Sets.{lists_unique, set_of_lists}
use Rattle.sets.proofs.Filter.{map_iff}
use Rattle.sets.proofs.Tests.{either}
use Rattle.sets.proofs.Lengths.{pigeonhole, ascending_distinct}
use Rattle.files.specs.Word.{words, bytes_of}
use Rattle.files.specs.Refuse.{◌then◌, ◌unless◌, room_check, size_check}
use Rattle.files.specs.Outcome.{accepted, outcome, lent_by}
use Rattle.files.specs.Part.{whole_check}
use Rattle.files.specs.Limits.{part_words, triple_words}
use Rattle.files.proofs.Checks.{checks, then_iff, then_zero, then_same, then_assoc, room_checked, outcome_gives, zero_accepted, number_is, number_fits, outcome_accepted}
use Rattle.files.proofs.Parts.{whole_part, part_some}
use Rattle.files.proofs.Words.{words_bytes, size_checked, words_length}
use Rattle.files.proofs.Bytes.{words_below_lem}
use Rattle.old.specs.Old.{old_search_call, old_search_grouped_call}
use Rattle.old.proofs.OldCalls.{old_number}
use Rattle.triples.specs.Triple.{Triple, root_word, triples_in, triples_check, key_of, IsEnd, ends_of, IsWholeOf, from_triples, to_triples, say_check, plain}
use Rattle.triples.proofs.Keys.{Fields, triple_in, triple_is, key_less}
use Rattle.triples.proofs.From.{Read, triples_read, ends_lists, key_iff, from_is, from_length, from_same}
use Rattle.triples.proofs.Plain.{root_only, plain_length, plain_made}
use Rattle.triples.proofs.Unique.{whole_one}
use Rattle.triples.proofs.To.{sorted_set_lem, to_links, to_sorted, to_count, to_length, to_words, to_checked, say_iff, from_to, whole_said, to_from}
use Rattle.from_triples.specs.From.{from_call}
use Rattle.to_triples.specs.To.{to_call}
use Rattle.editions.specs.Editions.{Before, Sorted, InOrder, IsSetOf, sorted_set, CanSay, IsPlainOf, whole_words, count_of, Request8}

-- the count that is handed out
count_is : (k limit : ℕ) (result : List ℕ) → lent_by (outcome k limit result) 0 (length result) ≡ count_of (outcome k limit result)
count_is zero limit result = elim (either (leb (length result) limit)) [ inl e ↦ rw e | inr e ↦ rw e ]
count_is (suc k) limit result = refl

-- numbers that ascend are those of sorted triples
sorted : (ts : List Triple) → ((t : Triple) → Mem t ts → Fields t) → Ascending (map key_of ts) → Sorted ts
sorted [] f a = tt
sorted (t ∷ ts) f a = (
  λ u m. (key_less t u (f t (here refl)) (f u (there m))).0 (a.0 (key_of u) (Memᴰ.map key_of m)),
  sorted ts (λ u m. f u (there m)) a.1,
)

-- the numbers of triples, each once, are as many as the triples, each once
set_length : (root : ℕ) (ts us : List Triple) → Read root ts → Distinct us → Same us ts → length (set_of (map key_of ts)) ≡ length us
set_length root ts us r d (f, g) =
    let keys = set_of (map key_of ts) in
    le_antisymm
    (omega (
      arith,
      length-map us key_of,
      pigeonhole keys (map key_of us) (ascending_distinct keys (set_of_lists (map key_of ts)).ascending) (λ k m.
          let (t, i, q) = (key_iff root ts k).0 m in (map_iff key_of k us).1 (t, g t i, q)),
    ))
    (omega (
      arith,
      length-map keys triple_in,
      pigeonhole us (map triple_in keys) d (λ u m.
          (map_iff triple_in u keys).1 (key_of u, (key_iff root ts (key_of u)).1 (u, f u m, refl), triple_is u (r.fields u (f u m)))),
    ))

-- so the words of a whole file are a header, all ends and all triples
all_words_lem : (ws xs : List ℕ) (us : List Triple) → triples_check ws ≡ 0 → Lists (IsEnd (root_word ws) (triples_in ws)) xs → Distinct us → Same us (triples_in ws)
    → length (from_triples ws) ≡ whole_words xs us
all_words_lem ws xs us c a d e =
    let ends = ap length (lists_unique (ends_lists (root_word ws) (triples_in ws)) a (λ x. Iff.rfl)) in
    omega (arith, from_length ws c, ends, set_length (root_word ws) (triples_in ws) us (triples_read ws c) d e)

-- From triples

-- the checks of a call that was accepted
from_read : (out work : ℕ) (s : List ℕ) → (room_check part_words out work then size_check triple_words s then triples_check (words s)) ≡ 0 → triples_check (words s) ≡ 0
from_read out work s c = ((then_iff (size_check triple_words s) (triples_check (words s))).0 ((then_iff (room_check part_words out work) _).0 c).1).1

-- what was accepted
record FromGiven (ws f : List ℕ) : Type 0 where
  pub is : f ≡ from_triples ws
  pub read : triples_check ws ≡ 0
  pub short : length (from_triples ws) ≤ 4096

from_accepted : (out work : ℕ) (s f : List ℕ) → from_call out work s ≡ accepted f → FromGiven (words s) f
unfolding from_call
from_accepted out work s f e =
    let (c, l, q) = outcome_accepted (room_check part_words out work then size_check triple_words s then triples_check (words s)) part_words (from_triples (words s)) f e in
    record { is = q; read = from_read out work s c; short = l }

from_whole : {ws f : List ℕ} → FromGiven ws f → IsWholeOf (root_word ws) (triples_in ws) f
from_whole {ws} {f} g = rw g.is (from_is ws g.read g.short)

-- Back

-- what is known of the words f of a whole that passes
record ToGiven (f : List ℕ) : Type 0 where
  pub whole : whole_check f ≡ 0
  pub said : say_check f ≡ 0
  pub short : length f ≤ 4096

abbrev to_checks : ℕ → ℕ → List ℕ → ℕ
to_checks out work s = room_check triple_words out work then size_check part_words s then whole_check (words s) then say_check (words s)

to_read : (out work : ℕ) (s : List ℕ) → to_checks out work s ≡ 0 → ToGiven (words s)
to_read out work s k =
    let (h, c) = (then_iff (size_check part_words s) _).0 ((then_iff (room_check triple_words out work) _).0 k).1 in
    let (c, d) = (then_iff (whole_check (words s)) (say_check (words s))).0 c in
    record { whole = c; said = d; short = omega (arith, words_length s, (simp checks at h).1) }

to_accepted : (out work : ℕ) (s ws : List ℕ) → to_call out work s ≡ accepted ws → ToGiven (words s) × (ws ≡ to_triples (words s))
unfolding to_call
to_accepted out work s ws e =
    let (k, l, q) = outcome_accepted (to_checks out work s) triple_words (to_triples (words s)) ws e in
    (to_read out work s k, q)

in_order_lem : (f : List ℕ) → whole_check f ≡ 0 → ((w : ℕ) → Mem w f → w < 2 ^ 32) → InOrder (to_triples f)
in_order_lem f c word = record {
  sorted = sorted (triples_in (to_triples f)) (triples_read (to_triples f) (to_checked f c word)).fields (to_sorted f c word);
  all = omega (arith, to_count f);
}

can_say : (f : List ℕ) → whole_check f ≡ 0 → (say_check f ≡ 0) ↔ CanSay f
can_say f c =
    let i = say_iff f c in
    let r = root_only f c in (
      λ s. record { none_stopped = (i.0 s).0; linked = λ x m. elim ((i.0 s).1 x m) [ inl e ↦ inl (rw r (here e)) | inr l ↦ inr l ] },
      λ s. i.1 (s.none_stopped, λ x m. elim (s.linked x m) [ inl k ↦ inl (Memᴰ.eq_of_singleton (rw r at k)) | inr l ↦ inr l ]),
    )

is_plain : (f : List ℕ) → ToGiven f → ((w : ℕ) → Mem w f → w < 2 ^ 32) → IsPlainOf f (plain f)
is_plain f g word =
    let p = plain_made f g.whole word g.short in
    let r = root_only f g.whole in
    record {
      whole = p.accepted;
      site = p.site;
      same_nodes = p.all_nodes;
      same_root = p.one_root ∙ sym r;
      only_door = p.only_door ∙ sym r;
      same_stopped = p.none_stopped ∙ sym ((say_iff f g.whole).0 g.said).0;
      same_edges = p.all_edges;
    }

is_set : (ws : List ℕ) → triples_check ws ≡ 0 → IsSetOf ws (sorted_set ws)
is_set ws c =
    let s = sorted_set_lem ws c in
    record {
      root = s.root;
      same = s.triples;
      order = record {
        sorted = sorted (triples_in (sorted_set ws)) (λ t m. (triples_read ws c).fields t (s.triples.0 t m)) s.sorted;
        all = omega (arith, s.count);
      };
    }

-- The calls, of words, with enough room

from_call_lem : (n m : ℕ) (ws : List ℕ) → 16384 ≤ n → 32768 ≤ m → ((w : ℕ) → Mem w ws → w < 2 ^ 32) → 0 < length ws → length ws ≤ 12286 → triples_check ws ≡ 0
    → length (from_triples ws) ≤ 4096 → from_call n m (bytes_of ws) ≡ accepted (from_triples ws)
unfolding from_call
from_call_lem n m ws h k word some short c l =
    rw (words_bytes ws word) (
    ap (λ e. outcome e part_words (from_triples ws)) (then_zero (room_checked part_words n m h k) (then_zero (size_checked triple_words ws some short) c))
    ∙ outcome_gives part_words (from_triples ws) l)

to_call_lem : (n m : ℕ) (f : List ℕ) → 49144 ≤ n → 32768 ≤ m → ((w : ℕ) → Mem w f → w < 2 ^ 32) → length f ≤ 4096 → whole_check f ≡ 0 → say_check f ≡ 0
    → to_call n m (bytes_of f) ≡ accepted (to_triples f)
unfolding to_call
to_call_lem n m f h k word short c d =
    rw (words_bytes f word) (
    ap (λ e. outcome e triple_words (to_triples f))
    (then_zero (room_checked triple_words n m h k) (then_zero (size_checked part_words f (part_some f (whole_part f c)) short) (then_zero c d)))
    ∙ outcome_gives triple_words (to_triples f) (to_length f c short))

back_again : (n m : ℕ) (f : List ℕ) → ToGiven f → ((w : ℕ) → Mem w f → w < 2 ^ 32) → 16384 ≤ n → 32768 ≤ m
    → from_call n m (bytes_of (to_triples f)) ≡ accepted (plain f)
back_again n m f g word h k =
    let c = g.whole in
    let same = from_to f c word g.said in
    from_call_lem n m (to_triples f) h k (to_words f c word) (omega arith) (to_length f c g.short) (to_checked f c word) (rw same (omega (arith, plain_length f c, g.short)))
    ∙ ap accepted same

forth_again : (n m : ℕ) (ws f : List ℕ) → FromGiven ws f → 49144 ≤ n → 32768 ≤ m → to_call n m (bytes_of f) ≡ accepted (sorted_set ws)
forth_again n m ws f g h k =
    let i = from_whole g in
    to_call_lem n m f h k i.word (rw g.is g.short) i.accepted (whole_said (root_word ws) (triples_in ws) f i)
    ∙ ap accepted (ap to_triples g.is ∙ to_from ws g.read g.short)

-- What `from_number` asks for is there for every file that is read: its ends, and its triples sorted

before_self : (t : Triple) → Before t t → ⊥
before_self t (inl l) = omega arith
before_self t (inr (e, inl l)) = omega arith
before_self t (inr (e, inr (d, l))) = omega arith

sorted_distinct : (ts : List Triple) → Sorted ts → Distinct ts
sorted_distinct [] s = tt
sorted_distinct (t ∷ ts) s = (λ m. before_self t (s.0 t m), sorted_distinct ts s.1)

pub counted_lists : (ws : List ℕ) → triples_check ws ≡ 0
    → (xs : List ℕ) × (us : List Triple) × Lists (IsEnd (root_word ws) (triples_in ws)) xs × Distinct us × Same us (triples_in ws)
counted_lists ws c =
    let i = is_set ws c in
    (ends_of (root_word ws) (triples_in ws), triples_in (sorted_set ws), ends_lists (root_word ws) (triples_in ws), sorted_distinct (triples_in (sorted_set ws)) i.order.sorted, i.same)

pub request_8 : Request8
unfolding from_call to_call old_search_call old_search_grouped_call
request_8 = record {
  from_given = λ out work s e.
      let (c, l, q) = zero_accepted _ part_words (from_triples (words s)) out work e in
      (from_triples (words s), q, from_is (words s) (from_read out work s c) l);
  from_number = λ out work s xs us a d e.
      let ws = words s in
      let size = size_check triple_words s in
      number_is (room_check part_words out work then size then triples_check ws) part_words (from_triples ws) out work
      ∙ then_assoc (room_check part_words out work) (size then triples_check ws) _
      ∙ ap (room_check part_words out work then◌) (then_assoc size (triples_check ws) _ ∙ ap (size then◌) (then_same (triples_check ws) (λ c.
      ap (λ n. 15 unless leb n part_words) (all_words_lem ws xs us c a d e))));
  one_whole = λ root ts f g i j. whole_one root ts f i ∙ sym (whole_one root ts g j);
  same_whole = λ out work s s' i j r e.
      rw (i.size, i.fields, j.size, j.fields) (ap (outcome (room_check part_words out work then 0) part_words) (from_same (words s) (words s') r e));
  old_search_lem = λ out work s f e path n m. let g = from_accepted out work s f e in let i = from_whole g in old_number f i.accepted i.word (rw g.is g.short) (words path) _ n m;
  old_search_grouped_lem = λ out work s f e groups path n m. let g = from_accepted out work s f e in let i = from_whole g in old_number f i.accepted i.word (rw g.is g.short) _ _ n m;
  to_given = λ out work s b e.
      let (k, l, q) = zero_accepted (to_checks out work s) triple_words (to_triples (words s)) out work e in
      let c = (to_read out work s k).whole in
      let word = words_below_lem s b in
      (to_triples (words s), q, record { root = root_only (words s) c; links = to_links (words s) c word; order = in_order_lem (words s) c word });
  to_number = λ out work s. number_fits (to_checks out work s) triple_words (to_triples (words s)) out work (λ k. let g = to_read out work s k in to_length (words s) g.whole g.short);
  nineteen = can_say;
  counted = λ out work s. count_is (to_checks out work s) triple_words (to_triples (words s));
  from_to = λ out work s ws b e n m h k.
      let (g, q) = to_accepted out work s ws e in
      (ap (λ v. from_call n m (bytes_of v)) q ∙ back_again n m (words s) g (words_below_lem s b) h k, is_plain (words s) g (words_below_lem s b));
  to_from = λ out work s f e n m h k.
      let g = from_accepted out work s f e in
      (forth_again n m (words s) f g h k, is_set (words s) g.read);
}
