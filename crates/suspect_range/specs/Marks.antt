-- The marks of commits.
use Rattle.std.specs.Prelude.{◌≡◌, ℕ, ◌+◌, ◌*◌, ◌/◌, ◌%◌, ◌==◌, Bool, true, get_or, slice_index, List, All}
use Rattle.std.specs.Int.{bit_at}
use Rattle.farm_types.specs.CommitId.{id_bytes}
use Rattle.farm_types.specs.declared.commit_id.CommitId.{CommitId}
use Rattle.suspect_range.specs.declared.marks.TheConstants.{MARKS}

-- which mark is a commit's, by the last two bytes of its id
abbrev pub mark_of : CommitId → ℕ
mark_of commit = (slice_index (id_bytes commit) 18 * 256 + slice_index (id_bytes commit) 19) % MARKS

-- whether a mark was put: the words have 64 each, from the lowest bit on
abbrev pub is_put : List ℕ → ℕ → Bool
is_put words mark = bit_at (get_or words (mark / 64) 0) (mark % 64) == 1

abbrev pub is_marked : List ℕ → CommitId → Bool
is_marked words commit = is_put words (mark_of commit)

-- each of the commits has its mark
abbrev pub AreMarked : List ℕ → List CommitId → Type 0
AreMarked words commits = All (λ commit. is_marked words commit ≡ true) commits
