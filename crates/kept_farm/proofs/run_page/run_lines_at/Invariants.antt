use Rattle.std.proofs.Common.{◌≡◌, take}
use Rattle.kept_farm.specs.Lines.{run_lines_at}
use Rattle.kept_farm.proofs.run_page.run_lines_at.Given as goal

abbrev pub invariant-loop-place : goal.invariant-loop-place
invariant-loop-place l = l.lines.items ≡ run_lines_at l.books l.opening (take l.place-index l.places)
