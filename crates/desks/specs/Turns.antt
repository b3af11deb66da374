-- Inner. The turn of one desk, in either round.
use Rattle.std.specs.Prelude.{ℕ, ◌+◌, ◌-◌, ◌*◌, ◌≤◌, ◌<◌, ◌≡◌, Bool, true, false, ◌&&◌, List, ◌++◌, eqb, leb, length}
use Rattle.files.specs.Limits.{reply_words}
use Rattle.files.specs.Outcome.{padded}
use Rattle.visits.specs.Answered.{SiteReady, Own}
use Rattle.choices.specs.Choice.{short_words}
use Rattle.desks.specs.declared.stand.Stand.{Stand}
use Rattle.desks.specs.Owns.{size_of_own, short_part, offered}
use Rattle.desks.specs.Stands.{Settles}

-- a site with an output of n and a working buffer of m bytes, where the whole has this number
pub record Asking (whole n m : ℕ) (part groups : List ℕ) : Type 0 where
  pub ready : SiteReady whole n m part groups
  pub small : whole < 256

-- an output of n bytes, in which some words stood, has vs behind them
abbrev pub Puts : ℕ → ℕ → List ℕ → List ℕ → List ℕ → Type 0
Puts n at out out' vs = (ws : List ℕ) → length ws ≡ at → out ≡ padded n ws → out' ≡ padded n (ws ++ vs)

-- ---- the first round

-- whether a reply of so many words goes in, where so many desks are to come
abbrev pub layable : Stand → ℕ → ℕ → ℕ → Bool
layable s i size come = eqb s.next i && leb (s.words + size + short_words * come) reply_words

pub record MayLay (i come n : ℕ) (s : Stand) : Type 0 where
  pub turn : (s.next ≤ i) × (i < 8) × (come ≤ 8)
  pub room : (s.words ≤ reply_words) × (4 * s.words ≤ n)
  pub few : s.later ≤ short_words * i

-- desk i, which has x by itself
pub record Lays (x : Own) (i come n : ℕ) (s : Stand) (out : List ℕ) (r : Stand) (out' : List ℕ) : Type 0 where
  pub laid : layable s i (size_of_own x) come ≡ true → Settles s x.number (s.words + size_of_own x) 0 r × Puts n s.words out out' x.reply
  pub measured : layable s i (size_of_own x) come ≡ false → s.words + short_words ≤ reply_words
      → (r.numbers ≡ s.numbers) × (r.next ≡ s.next) × (r.words ≡ s.words) × (r.later ≡ s.later + short_part (size_of_own x))
      × ((ws : List ℕ) → length ws ≡ s.words → out ≡ padded n ws → out' ≡ padded n ws)

-- ---- the second round

pub record MayChoose (x : Own) (n : ℕ) (s : Stand) : Type 0 where
  pub turn : s.next < 8
  pub room : (s.words + s.later ≤ reply_words) × (4 * s.words ≤ n)
  pub kept : short_part (size_of_own x) ≤ s.later

-- the next desk, which has x by itself and gets y
pub record Gets (x y : Own) (n : ℕ) (s : Stand) (out : List ℕ) (r : Stand) (out' : List ℕ) : Type 0 where
  pub settles : Settles s y.number (s.words + size_of_own y) (s.later - short_part (size_of_own x)) r
  pub puts : Puts n s.words out out' y.reply

abbrev pub Chooses : Own → ℕ → Stand → List ℕ → Stand → List ℕ → Type 0
Chooses x n s out r out' = Gets x (offered (s.words + s.later) x) n s out r out'
