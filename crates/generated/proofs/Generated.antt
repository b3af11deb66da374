-- Request 2: the generated file is what document 02 says, the call gives it, and the old search accepts it. Assumes nothing.
use mathlib.Core.Path.{◌≡◌, sym, ap, ◌∙◌}
use mathlib.Core.List.Memᴰ
use mathlib.Core.List.{List, map}
use Prim.Native.Nat.{ℕ, ◌*◌}
use native.Mathlib.Omega.{arith}
use Rattle.sets.specs.Sets.{Lists, span}
use Rattle.sets.proofs.Spans.{span_iff}
use Rattle.sets.proofs.Sets.{set_of_lists, lists_iff}
use Rattle.files.specs.Word.{words, bytes_of}
use Rattle.files.specs.Refuse.{◌then◌, room_check, size_check}
use Rattle.files.specs.Outcome.{outcome, leaves}
use Rattle.files.specs.Part.{whole_check}
use Rattle.files.specs.Limits.{part_words, final_words}
use Rattle.files.proofs.Checks.{then_iff, outcome_gives}
use Rattle.old.specs.Old.{listed, old_search_call, old_search_grouped_call}
use Rattle.old.proofs.OldCalls.{old_number}
use Rattle.draws.specs.Draws.{drawn}
use Rattle.edge_draws.specs.Edges.{edge_drawn, edges_drawn}
use Rattle.edge_draws.specs.Bounds.{Within}
use Rattle.generator.specs.Generate.{generated, bounds_check, generate_call}
use Rattle.generator.proofs.Wholes.{generated_length, generated_fits, generated_site, generated_words, generated_nodes, generated_roots, generated_doors, generated_stopped, generated_edges, generated_whole}
use Rattle.generator.proofs.Answering.{within}
use Rattle.generated.specs.Generated.{DrawnFor, IsGenerated, Request2}

-- the edges of a node are those drawn for it
drawn_for : (d : ℕ → ℕ) (n k x : ℕ) → Lists (DrawnFor d n k x) (edges_drawn d n (x * k) k)
drawn_for d n k x = lists_iff (λ w. (
  λ m.
      let (j, i, e) = Memᴰ.of_map (edge_drawn d n) (span (x * k) k) m in
      let (a, b) = (span_iff (x * k) k j).0 i in
      (j, a, b, e),
  λ h. let (j, a, b, e) = h in Memᴰ.cast (sym e) (Memᴰ.map (edge_drawn d n) ((span_iff (x * k) k j).1 (a, b))),
)) (set_of_lists (map (edge_drawn d n) (span (x * k) k)))

is_generated : (d : ℕ → ℕ) {n k : ℕ} → Within n k → IsGenerated d n k (generated d n k)
is_generated d {n} {k} c = record {
  whole = generated_whole d c;
  word = generated_words d c;
  site = generated_site d c;
  all_nodes = generated_nodes d c;
  root = generated_roots d c;
  only_door = generated_doors d c;
  none_stopped = generated_stopped d c;
  links = λ x h. rw (generated_edges d c x h) (drawn_for d n k x);
  short = omega (arith, generated_length d c);
  within = omega (arith, generated_fits d c);
}

module _ (d : ℕ → ℕ) {n k : ℕ} (c : Within n k) where
  -- whatever the path: x is the number of the checks behind the whole's
  any_path : (path : List ℕ) (x out work : ℕ)
      → (leaves (outcome (room_check final_words out work then size_check part_words (bytes_of (generated d n k)) then whole_check (words (bytes_of (generated d n k))) then x)
      final_words (listed (words (bytes_of (generated d n k))) path)) out work).number ≡ (room_check final_words out work then x)
  any_path = old_number (generated d n k) (generated_whole d c) (generated_words d c) (omega (arith, generated_fits d c))

pub request_2 : Request2
unfolding old_search_call old_search_grouped_call generate_call
request_2 = record {
  file = λ d n k h. is_generated d (within n k h);
  given = λ s n k out work h.
      let (_, b) = (then_iff (room_check 4096 out work) (bounds_check n k)).0 h in
      ap (λ x. outcome x part_words (generated (drawn s) n k)) h ∙ outcome_gives part_words (generated (drawn s) n k) (omega (arith, generated_fits (drawn s) (within n k b)));
  old_search_lem = λ d n k h path out work. any_path d (within n k h) (words path) _ out work;
  old_search_grouped_lem = λ d n k h groups path out work. any_path d (within n k h) _ _ out work;
}
