use Rattle.std.proofs.Common.{◌∙◌}
use Rattle.json_tape.specs.Views.{data_of}
use Rattle.json_tape.proofs.Looks.{as_object-seen}
use Rattle.json_tape.proofs.parsed.Parsed.is_object.Goals as goal

pub returns : goal.returns
unfolding data_of
returns c =
    c.is_some.ensures
    ∙ as_object-seen c.args.self.now.element c.args.self.now.read c.members.result c.members.ensures
