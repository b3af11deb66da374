-- Believed. The label groups that a path is asked with, for demands 2 and 3: our own, by the calls without groups, or the customer's, by the grouped
-- calls. Document 02, request 3.
use Rattle.std.specs.Prelude.{ℕ, ◌≡◌, List}
use Rattle.files.specs.Word.{words}
use Rattle.files.specs.Outcome.{Outcome}
use Rattle.files.specs.Groups.{groups_check, loaded, our_groups}
use Rattle.site_first.specs.First.{first_reply_call, first_reply_grouped_call}
use Rattle.site_second.specs.Second.{second_reply_call, second_reply_grouped_call}
use Rattle.old.specs.Old.{old_search_call, old_search_grouped_call}

-- all sites, in both trips, and the old search have the same: none of their own, or the same bytes
pub data Groups : Type 0 where
  ours : Groups
  own : (bytes : List ℕ) → Groups

-- the customer's are accepted: eight range words
abbrev pub AcceptedGroups : Groups → Type 0
AcceptedGroups ours = Unit {0}
AcceptedGroups (own bytes) = groups_check bytes ≡ 0

-- the eight words
abbrev pub groups_of : Groups → List ℕ
groups_of ours = our_groups
groups_of (own bytes) = words bytes

-- the path that replies answer, by its words: with the customer's groups loaded
abbrev pub asks : Groups → List ℕ → List ℕ
asks ours path = path
asks (own bytes) path = loaded (words bytes) path

-- the calls that take a path
abbrev pub first_call : Groups → ℕ → ℕ → List ℕ → List ℕ → Outcome
first_call ours out work part path = first_reply_call out work part path
first_call (own bytes) out work part path = first_reply_grouped_call out work part bytes path

abbrev pub second_call : Groups → ℕ → ℕ → List ℕ → List ℕ → List ℕ → Outcome
second_call ours out work part path calls = second_reply_call out work part path calls
second_call (own bytes) out work part path calls = second_reply_grouped_call out work part bytes path calls

abbrev pub old_call : Groups → ℕ → ℕ → List ℕ → List ℕ → Outcome
old_call ours out work whole path = old_search_call out work whole path
old_call (own bytes) out work whole path = old_search_grouped_call out work whole bytes path
