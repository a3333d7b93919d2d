use Rattle.std.proofs.Common.{◌≡◌, ◌≤◌, ◌-◌, vec_len}
use Rattle.std.specs.Io.KnownBytes.{prepend_known}
use Rattle.link_io.specs.declared.source.TheConstants.{INPUT_LIMIT}
use Rattle.finder_commands.proofs.read_input.read_input.Given as goal

-- what was taken is kept
abbrev pub invariant-loop-buf : goal.invariant-loop-buf
invariant-loop-buf g l = record {
  taken : g.S.Source.left l.fn.input ≡ prepend_known l.bytes.items (g.S.Source.left l.input);
  few : vec_len l.bytes ≤ INPUT_LIMIT;
  rises : g.S.Source.count l.fn.input ≤ g.S.Source.count l.input;
}

abbrev pub decreases-loop-buf : goal.decreases-loop-buf
decreases-loop-buf g l = INPUT_LIMIT - vec_len l.bytes
