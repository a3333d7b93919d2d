-- How an input in memory is cut into pieces.
use Rattle.std.specs.Prelude.{ℕ, ◌-◌, min, List, length, slice_index, if◌then◌else◌, ◌==◌}

-- the size of the piece at an index, from 0, where the last piece repeats; 0 where there is none
abbrev pub piece_at : List ℕ → ℕ → ℕ
piece_at pieces index = slice_index pieces (min (length pieces - 1) index)

-- at most how many of `room` bytes the take at an index may answer, where a piece of 0 bytes is no bound
abbrev pub piece_room : List ℕ → ℕ → ℕ → ℕ
piece_room pieces index room =
    if piece_at pieces index == 0 then room else min room (piece_at pieces index)
