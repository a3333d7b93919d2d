use Rattle.std.proofs.Common.{◌≡◌, ◌+◌, ◌++◌, drop}
use Rattle.std.specs.Prelude.{string_bytes}
use Rattle.judge.specs.Text.{text_of}
use Rattle.search_evidence.specs.Evidence.{run_lines}
use Rattle.search_evidence.proofs.lines.push_runs.Given as goal

abbrev pub invariant-loop-index : goal.invariant-loop-index
invariant-loop-index l =
    string_bytes l.text ++ text_of (run_lines (l.index + 1) (drop l.index l.runs))
    ≡ string_bytes l.fn.text ++ text_of (run_lines 1 l.runs)
