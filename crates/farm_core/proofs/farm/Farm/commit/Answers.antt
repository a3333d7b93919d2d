use Rattle.std.proofs.Common.{◌++◌, ap, ◌∙◌}
use Rattle.std.proofs.lemmas.Option.{slice_get_within}
use Rattle.farm_core.proofs.Fronts.{first-ready}
use Rattle.farm_core.proofs.farm.Farm.commit.Goals as goal

pub commit_next-requires : goal.commit_next-requires
commit_next-requires c = slice_get_within c.args.self.now.ready 0 c.args.entry c.requires

pub returns-clause-history : goal.returns-clause-history
returns-clause-history c =
    c.commit_next.ensures.history
    ∙ ap (λ l. c.args.self.now.history ++ l) (first-ready c.args.self.now.ready c.args.entry c.requires)
