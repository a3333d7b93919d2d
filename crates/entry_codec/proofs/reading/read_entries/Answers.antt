use Rattle.entry_codec.proofs.Told.{told-bad, told-only}
use Rattle.entry_codec.proofs.reading.read_entries.Goals as goal

pub returns-clause-only : goal.returns-clause-only
returns-clause-only c = λ entries spelled is. told-only c.args.bytes.now c.entries_of.result entries
    c.entries_of.ensures.found c.entries_of.ensures.bad spelled is

pub returns-clause-bad_only : goal.returns-clause-bad_only
returns-clause-bad_only c = λ offset bad. told-bad c.args.bytes.now c.entries_of.result offset
    c.entries_of.ensures.found c.entries_of.ensures.bad bad
