-- What each kind of step tells the caller that makes it, of its seat before and after.
use Rattle.std.specs.Prelude.{◌≡◌, ◌+◌, ◌-◌, ◌%◌, ◌++◌, ◌∷◌, [], ℕ, List, slice_set}
use Rattle.atomic_table.specs.Table.{Step, Me}
use Rattle.farm_entry.specs.declared.entry.Entry.{Entry}
use Rattle.common_types.specs.Prefix.{IsPrefix}
use Rattle.farm_board.specs.Rule.{AreOf, IsJoined, IsPosted}
use Rattle.farm_board.specs.Views.{idle, posting, reading, resting, told}
use Rattle.farm_board.specs.declared.row.View.{View}

-- where the version is even, a look begins at a history that begins with what the seat has seen
abbrev pub Begins : {S : Type 0} → Step S → Me S View → ℕ → Me S View → Type 0
Begins step me found after =
    (found % 2 ≡ 0 → (at : List Entry) × IsPrefix me.0.seen at × IsPosted at
    × (after ≡ (reading found me.0.seen at [], me.1)))
    × (¬ (found % 2 ≡ 0) → after ≡ me)

-- one more number was read
abbrev pub Peeks : {S : Type 0} → Step S → Me S View → ℕ → Me S View → Type 0
Peeks step me found after = after ≡ (reading me.0.version me.0.seen me.0.at (me.0.numbers ++ found ∷ []), me.1)

-- where the version is the same, the numbers are those of the history, and the seat has seen it
abbrev pub Checks : (List Entry → ℕ → ℕ) → {S : Type 0} → Step S → Me S View → ℕ → Me S View → Type 0
Checks number step me found after =
    (found ≡ me.0.version → AreOf number me.0.at me.0.numbers × (after ≡ (idle me.0.at, me.1)))
    × (¬ (found ≡ me.0.version) → after ≡ (idle me.0.seen, me.1))

-- a post begins, and the numbers are those of the history that was posted before
abbrev pub Starts : (List Entry → List ℕ) → {S : Type 0} → Step S → Me S View → ℕ → Me S View → Type 0
Starts row step me found after =
    (found ≡ me.0.version) × (after ≡ (posting (me.0.version + 1) me.0.seen (row me.0.seen), me.1))

-- the number was written whose word it is
abbrev pub Puts : {S : Type 0} → Step S → Me S View → ℕ → Me S View → Type 0
Puts step me found after =
    after ≡ (posting me.0.version me.0.seen (slice_set me.0.numbers (step.word - 1) step.first), me.1)

-- the totals of the history are posted
abbrev pub Ends : List Entry → {S : Type 0} → Step S → Me S View → ℕ → Me S View → Type 0
Ends H step me found after = after ≡ (resting (me.0.version + 1) H, me.1)

-- what the seat has seen begins with what each of the two had that it was made from
abbrev pub Tells : {S : Type 0} → Step S → Me S View → ℕ → Me S View → Type 0
Tells step me found after = IsJoined me.0 × (after ≡ (told me.0, me.1))
