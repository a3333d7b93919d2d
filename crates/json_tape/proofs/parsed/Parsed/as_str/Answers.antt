use Rattle.json_tape.specs.Views.{data_of}
use Rattle.json_tape.proofs.Looks.{as_str-seen}
use Rattle.json_tape.proofs.parsed.Parsed.as_str.Goals as goal

pub returns : goal.returns
unfolding data_of
returns c = as_str-seen c.args.self.now.element c.args.self.now.read _ c.as_str.ensures
