use Rattle.std.proofs.Common.{◌≡◌, ◌+◌, ◌-◌, length, find, take}
use Rattle.std.specs.List.{range_with_len}
use Rattle.suspect_range.specs.Faults.{first_repeat, is_repeat}
use Rattle.suspect_range.specs.Marks.{AreMarked}
use Rattle.suspect_range.specs.Range.{commits_of}
use Rattle.suspect_range.proofs.range.first_repeat.Given as goal

-- the first repeat of all is the first of the positions that are left, and the commits below them have their marks
abbrev pub invariant-loop-index : goal.invariant-loop-index
invariant-loop-index l =
    (first_repeat l.base l.suspects
    ≡ find (is_repeat l.base l.suspects) (range_with_len (l.index + 1) (length l.suspects - l.index)))
    × AreMarked l.below.words (take (l.index + 1) (commits_of l.base l.suspects))
