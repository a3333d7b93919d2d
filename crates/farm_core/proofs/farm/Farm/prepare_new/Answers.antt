use Rattle.farm_core.proofs.Named.{next-made}
use Rattle.farm_core.proofs.farm.Farm.prepare_new.Goals as goal

pub next_reply-reply-requires : goal.next_reply-reply-requires
next_reply-reply-requires c =
    next-made c.make_ready.new.self.history c.make_ready.new.self.ready c.args.entry c.in_ok-make_ready.ensures.ready
    c.requires.named
