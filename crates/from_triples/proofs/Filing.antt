-- What is written is the whole file of the triples: the set has their ends, the queue their numbers. Assumes nothing.
use mathlib.Core.Path.{◌≡◌, refl, sym, ◌∙◌, ap}
use mathlib.Core.Bool.{◌||◌}
use mathlib.Core.Logic.{◌↔◌, ◌⊎◌, inl, inr, ⊎_elim}
use mathlib.Core.List.{List, map, map-map}
use Prim.Native.Nat.{ℕ, ◌+◌, ◌*◌, ◌/◌, ◌≤◌, ◌<◌}
use native.Mathlib.Omega.{arith}
use lib.Dec.{T, eqb}
use lib.ListN.{length, get_or}
use Rattle.sets.specs.Sets.{Mem, Lists, set_of, any, span}
use Rattle.sets.specs.Table.{half}
use Rattle.sets.specs.NodeSet.{has_node, Added}
use Rattle.sets.proofs.Tests.{is_true, passed, or_iff, eq_iff}
use Rattle.sets.proofs.Sets.{lists_unique}
use Rattle.sets.proofs.Filter.{any_iff}
use Rattle.sets.proofs.Spans.{span_iff}
use Rattle.sets.proofs.Members.{members_in, in_members}
use Rattle.sets.proofs.NodeSets.{nodes_none}
use Rattle.files.specs.Outcome.{zeros}
use Rattle.files.specs.Limits.{part_words}
use Rattle.files.proofs.Checks.{checks}
use Rattle.output.specs.Writer.{Writes, Filed}
use Rattle.output.specs.Frame.{Closes}
use Rattle.output.proofs.Frame.{filed}
use Rattle.output.proofs.Ranges.{members_ascending}
use Rattle.triples.specs.Triple.{Triple, triples_check, root_word, triples_in, source_in, key_of, keys_in, IsEnd, ends_of, from_triples}
use Rattle.triples.specs.At.{triple_at, key_at}
use Rattle.triples.proofs.Keys.{source_is}
use Rattle.triples.proofs.From.{triples_read, body_is, ends_lists, key_iff}
use Rattle.triples.proofs.Reading.{map_span_iff, triples_at}
use Rattle.triple_queue.specs.Queue.{queued, Built}
use Rattle.from_triples.specs.Ends.{nodes_base, nodes_end, EndsFit, end_at, AllAdded, nodes_in}
use Rattle.from_triples.specs.Nodes.{laid_out, Front, Prepared}
use Rattle.from_triples.proofs.Going.{laid_out_is}

-- Of a triple file that is read

module _ (ws : List ℕ) (c : triples_check ws ≡ 0) where
  abbrev n : ℕ
  n = length ws / 3

  abbrev ts : List Triple
  ts = triples_in ws

  triples_are : ts ≡ map (triple_at ws) (span 0 n)
  triples_are = triples_at ws (simp checks at c).0.0

  triple_in_lem : (t : Triple) → Mem t ts ↔ ((i : ℕ) × (i < n) × (triple_at ws i ≡ t))
  triple_in_lem t = rw triples_are (map_span_iff (triple_at ws) n t)

  pub root_fits : root_word ws < 65536
  root_fits = (triples_read ws c).small

  pub ends_fit : (i : ℕ) → i < n → EndsFit ws i
  ends_fit i l = let f = (triples_read ws c).fields (triple_at ws i) ((triple_in_lem (triple_at ws i)).1 (i, l, refl)) in record { source = f.source; target = f.target }

  keys_are : set_of (map (key_at ws) (span 0 n)) ≡ keys_in ws
  unfolding key_at
  keys_are = ap set_of (sym (ap (map key_of) triples_are ∙ map-map key_of (triple_at ws) (span 0 n)))

  -- the set: the root, and the ends of the triples
  module _ (w : List ℕ) (h : (x : ℕ) → has_node w nodes_base x ≡ (eqb x (root_word ws) || any (end_at ws x) (span 0 n))) where
    end_iff : (x : ℕ) → T (has_node w nodes_base x) ↔ IsEnd (root_word ws) ts x
    end_iff x = rw (h x) (
      λ t. ⊎_elim (λ u. inl ((eq_iff x (root_word ws)).0 u)) ends ((or_iff (eqb x (root_word ws)) _).0 t),
      λ e. (or_iff (eqb x (root_word ws)) _).1 (from e),
    )
      where
        ends : T (any (end_at ws x) (span 0 n)) → IsEnd (root_word ws) ts x
        ends u =
            let (i, m, t) = (any_iff (end_at ws x) (span 0 n)).0 u in
            let k = (triple_in_lem (triple_at ws i)).1 (i, omega (arith, (span_iff 0 n i).0 m), refl) in
            ⊎_elim
            (λ t. inr (triple_at ws i, k, inl (sym ((eq_iff x (triple_at ws i).source).0 t))))
            (λ t. inr (triple_at ws i, k, inr (sym ((eq_iff x (triple_at ws i).target).0 t))))
            ((or_iff (eqb x (triple_at ws i).source) (eqb x (triple_at ws i).target)).0 t)

        at : (t : Triple) → Mem t ts → (t.source ≡ x) ⊎ (t.target ≡ x) → T (any (end_at ws x) (span 0 n))
        at t m e =
            let (i, l, q) = (triple_in_lem t).0 m in
            (any_iff (end_at ws x) (span 0 n)).1 (
              i,
              (span_iff 0 n i).1 (omega arith, omega arith),
              (or_iff (eqb x (triple_at ws i).source) (eqb x (triple_at ws i).target)).1 (⊎_elim
                  (λ e. inl ((eq_iff x (triple_at ws i).source).1 (sym (ap (λ (t : Triple). t.source) q ∙ e))))
                  (λ e. inr ((eq_iff x (triple_at ws i).target).1 (sym (ap (λ (t : Triple). t.target) q ∙ e))))
                  e),
            )

        from : IsEnd (root_word ws) ts x → T (eqb x (root_word ws)) ⊎ T (any (end_at ws x) (span 0 n))
        from (inl e) = inl ((eq_iff x (root_word ws)).1 e)
        from (inr (t, m, e)) = inr (at t m e)

    ends_small : (x : ℕ) → IsEnd (root_word ws) ts x → x < 65536
    ends_small x (inl e) = omega (arith, root_fits)
    ends_small x (inr (t, m, inl e)) = omega (arith, ((triples_read ws c).fields t m).source)
    ends_small x (inr (t, m, inr e)) = omega (arith, ((triples_read ws c).fields t m).target)

    nodes_lists : Lists (IsEnd (root_word ws) ts) (nodes_in w)
    nodes_lists = record {
      ascending = members_ascending (has_node w nodes_base) 0 65536;
      sound = λ x m. (end_iff x).0 (passed (in_members (has_node w nodes_base) 0 65536 x m).2);
      complete = λ x e. members_in (has_node w nodes_base) 0 65536 x (omega arith) (omega (arith, ends_small x e)) (is_true (has_node w nodes_base x) ((end_iff x).1 e));
    }

    nodes_are : nodes_in w ≡ ends_of (root_word ws) ts
    nodes_are = lists_unique nodes_lists (ends_lists (root_word ws) ts) (λ x. (λ e. e, λ e. e))

  -- every source is among the ends
  sources_in : Front (keys_in ws) (ends_of (root_word ws) ts)
  sources_in k m =
      let (t, i, e) = (key_iff (root_word ws) ts k).0 m in
      inl ((ends_lists (root_word ws) ts).complete (source_in k) (inr (t, i, inl (sym (source_is t ((triples_read ws c).fields t i)) ∙ ap source_in e))))

-- for the proof of `prepare`: the buffer is cleared to w₁, the root is added in w₂, the ends in w₃, the queue is made in w₄
pub prepared : (ws : List ℕ) (m : ℕ) {root n : ℕ} {w₁ w₂ w₃ w₄ : List ℕ} → triples_check ws ≡ 0 → root ≡ get_or ws 0 0 → n ≡ length ws / 3 → w₁ ≡ zeros m
    → Added nodes_base root w₁ w₂ → AllAdded ws n w₂ w₃ → Built ws n w₃ w₄ → nodes_end ≤ length w₄ → Prepared ws w₄ n
unfolding has_node half
prepared ws m {w₃ = w₃} {w₄ = w₄} c e d z a b q room = record {
  queues = record { heap = q.queue.heap; room = q.queue.room; long = room };
  keys = q.queue.holds ∙ rw d (keys_are ws c);
  ends = nodes_are ws c w₄ (λ x. kept x ∙ b.has x ∙ rw (a.has x, nodes_none m nodes_base x z, e, d));
}
  where
    kept : (x : ℕ) → has_node w₄ nodes_base x ≡ has_node w₃ nodes_base x
    kept x = rw (q.apart.rest (nodes_base + 2 * (x / 16)) (omega arith), q.apart.rest (nodes_base + 2 * (x / 16) + 1) (omega arith))

-- for the proof of `write`
module _ {ws w : List ℕ} {n : ℕ} (c : triples_check ws ≡ 0) (f : Prepared ws w n) where
  pub queue_front : Front (queued ws w n) (nodes_in w)
  queue_front = rw (f.keys, f.ends) (sources_in ws c)

  pub from_filed : (l : ℕ) {root count r : ℕ} {o₁ o₂ o₃ : List ℕ} → root ≡ get_or ws 0 0 → Closes 1 0 0 part_words o₂ count o₃ r
      → Writes part_words (length o₁) o₁ 1 o₂ count (laid_out root (queued ws w n) (nodes_in w)) → o₁ ≡ zeros l → length o₂ ≡ l → Filed part_words l (from_triples ws) o₃ r
  from_filed l e k g p h =
      let ends = ends_of (root_word ws) (triples_in ws) in
      rw (body_is (root_word ws) (triples_in ws), ← laid_out_is (root_word ws) (keys_in ws) ends (ends_lists (root_word ws) (triples_in ws)).ascending)
      (filed (laid_out (root_word ws) (keys_in ws) ends) k (rw (e, f.keys, f.ends) at g) p h)
