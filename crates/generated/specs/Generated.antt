-- Believed. What is promised of the load bench: the file that is generated from any draws, and so from any state, with counts within their bounds.
-- Document 02, request 2.
use Rattle.std.specs.Prelude.{ℕ, ◌+◌, ◌*◌, ◌^◌, ◌≤◌, ◌<◌, ◌≡◌, List, [], ◌∷◌, length, get_or, drop}
use Rattle.sets.specs.Sets.{Mem, Lists, span}
use Rattle.files.specs.Word.{words, bytes_of}
use Rattle.files.specs.Field.{site_of}
use Rattle.files.specs.Refuse.{◌then◌, room_check, size_check}
use Rattle.files.specs.Outcome.{accepted, leaves}
use Rattle.files.specs.Part.{whole_check, nodes, roots, doors, stopped, edges}
use Rattle.files.specs.Path.{path_check}
use Rattle.files.specs.Groups.{groups_check}
use Rattle.old.specs.Old.{old_search_call, old_search_grouped_call}
use Rattle.draws.specs.Draws.{drawn}
use Rattle.edge_draws.specs.Edges.{edge_drawn}
use Rattle.generator.specs.Generate.{generated, bounds_check, generate_call}

-- w is an edge that is drawn for node x: one of the k from edge x × k on
abbrev pub DrawnFor : (ℕ → ℕ) → ℕ → ℕ → ℕ → ℕ → Type 0
DrawnFor d n k x w = (j : ℕ) × (x * k ≤ j) × (j < x * k + k) × (edge_drawn d n j ≡ w)

-- f is the file for n nodes with k edges each, from the draws d
pub record IsGenerated (d : ℕ → ℕ) (n k : ℕ) (f : List ℕ) : Type 0 where
  -- a whole file of site 0, of 32-bit words
  pub whole : whole_check f ≡ 0
  pub word : (w : ℕ) → Mem w f → w < 2 ^ 32
  pub site : site_of (get_or f 0 0) ≡ 0
  -- "nodes from 0 upward, node 0 as root and only door"; none is stopped
  pub all_nodes : nodes (drop 1 f) ≡ span 0 n
  pub root : roots (drop 1 f) ≡ 0 ∷ []
  pub only_door : doors (drop 1 f) ≡ 0 ∷ []
  pub none_stopped : stopped (drop 1 f) ≡ []
  -- "a node's equal edges become one and the rest are put in order": its edges are those drawn for it, ascending, each once
  pub links : (x : ℕ) → x < n → Lists (DrawnFor d n k x) (edges (drop 1 f) x)
  -- no longer than without equal edges, and within a whole's limit
  pub short : length f ≤ 1 + n * (1 + k)
  pub within : length f ≤ 4096

pub record Request2 : Type 1 where
  pub file : (d : ℕ → ℕ) (n k : ℕ) → bounds_check n k ≡ 0 → IsGenerated d n k (generated d n k)
  -- the call writes it, from any state and with buffers of any sufficient length: there is no third refusal
  pub given : (s n k out work : ℕ) → (room_check 4096 out work then bounds_check n k) ≡ 0 → generate_call out work s n k ≡ accepted (generated (drawn s) n k)
  -- "the file is always accepted by the old search": for all bytes of a path and all buffers, what it refuses is a buffer or the path; with the
  -- customer's groups, these too
  pub old_search_lem : (d : ℕ → ℕ) (n k : ℕ) → bounds_check n k ≡ 0 → (path : List ℕ) (out work : ℕ)
      → (leaves (old_search_call out work (bytes_of (generated d n k)) path) out work).number ≡ (room_check 8192 out work then size_check 64 path then path_check (words path))
  pub old_search_grouped_lem : (d : ℕ → ℕ) (n k : ℕ) → bounds_check n k ≡ 0 → (groups path : List ℕ) (out work : ℕ)
      → (leaves (old_search_grouped_call out work (bytes_of (generated d n k)) groups path) out work).number
      ≡ (room_check 8192 out work then groups_check groups then size_check 64 path then path_check (words path))
