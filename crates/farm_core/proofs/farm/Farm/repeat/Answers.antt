use Rattle.std.proofs.Common.{List, sym, subst}
use Rattle.farm_entry.specs.declared.entry.Entry.{Entry}
use Rattle.farm_core.specs.Outcome.{IsOfCommand}
use Rattle.farm_core.proofs.Fronts.{all-history}
use Rattle.farm_core.proofs.farm.Farm.repeat.Goals as goal

pub reply_of-requires : goal.reply_of-requires
reply_of-requires c =
    subst (λ (L : List Entry). IsOfCommand L c.args.place)
    (sym (all-history c.self.inside c.args.self.now c.self.view_is c.requires.none_ready)) c.requires.made
