-- Inner. Words written one after another to a buffer, counted, and none past a limit.
use Rattle.std.specs.Prelude.{◌≡◌, List, ◌++◌, ℕ, suc, ◌+◌, ◌*◌, ◌≤◌, min, leb, length, take}
use Rattle.files.specs.Word.{bytes_of}
use Rattle.files.specs.Refuse.{◌unless◌}
use Rattle.files.specs.Outcome.{padded}

-- Of the words ws the first `limit` stand in `out`, which has n bytes, before zeros; and `count` is how many they are, as far as one past the
-- limit: a longer result is over it, whatever follows.
pub record Written (limit n : ℕ) (ws out : List ℕ) (count : ℕ) : Type 0 where
  pub out_is : out ≡ padded n (take limit ws)
  pub counted : count ≡ min (length ws) (suc limit)

-- the words vs were put behind whatever was written before, as far as the limit
abbrev pub Puts : ℕ → ℕ → List ℕ → ℕ → List ℕ → List ℕ → Type 0
Puts limit n out count out' vs = (ws : List ℕ) → Written limit n ws out count → out' ≡ padded n (take limit (ws ++ vs))

-- r is the count after k more words
abbrev pub Counts : ℕ → ℕ → ℕ → ℕ → Type 0
Counts limit count k r = (m : ℕ) → count ≡ min m (suc limit) → r ≡ min (m + k) (suc limit)

-- the words vs were put and counted
abbrev pub Writes : ℕ → ℕ → List ℕ → ℕ → List ℕ → ℕ → List ℕ → Type 0
Writes limit n out count out' r vs = (ws : List ℕ) → Written limit n ws out count → Written limit n (ws ++ vs) out' r

-- The words vs were put behind the first `at` of the output, which has n bytes, as far as the limit, and r is where they end, or one past the
-- limit: if ws stood there, within the limit, they are followed by vs where both fit, and are still there where not.
pub record Extends (limit n : ℕ) (out : List ℕ) (at : ℕ) (vs out' : List ℕ) (r : ℕ) : Type 0 where
  pub ends : r ≡ min (at + length vs) (suc limit)
  pub joined : (ws : List ℕ) → length ws ≡ at → out ≡ padded n ws → at + length vs ≤ limit → out' ≡ padded n (ws ++ vs)
  pub kept : (ws : List ℕ) → length ws ≡ at → out ≡ padded n ws → take (4 * at) out' ≡ bytes_of ws

-- the result stands in `out`, which has n bytes, if it is not over its limit; and r is 15 if it is, else 0
pub record Filed (limit n : ℕ) (result out : List ℕ) (r : ℕ) : Type 0 where
  pub number : r ≡ (15 unless leb (length result) limit)
  pub written : length result ≤ limit → out ≡ padded n result
