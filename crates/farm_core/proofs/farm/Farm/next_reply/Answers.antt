use Rattle.farm_core.proofs.Named.{kept-made}
use Rattle.farm_core.proofs.farm.Farm.next_reply.Goals as goal

pub reply_of-requires : goal.reply_of-requires
reply_of-requires c = kept-made c.self.inside c.args.self.now c.self.invariant c.self.view_is c.requires
