-- Inner. 19 as the code looks for it: word by word, with the targets as a set.
use Rattle.std.specs.Prelude.{ℕ, ◌+◌, Bool, not, ◌&&◌, ◌||◌, List, get_or}
use Rattle.files.specs.Field.{node_of, root_of, stopped_of}
use Rattle.files.specs.Part.{is_node, is_edge}

-- word i is of a node that triples can't say: stopped, or no root, with no edge word behind it and not among the targets
unfoldable pub unsaid_at : (ℕ → Bool) → List ℕ → ℕ → Bool
unsaid_at targets ws i =
    let w = get_or ws i 0 in
    is_node w && (stopped_of w || not (root_of w || (is_edge (get_or ws (i + 1) 0) || targets (node_of w))))
