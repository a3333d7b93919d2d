use Rattle.std.proofs.Common.{refl}
use Rattle.farm_entry.proofs.Asked.{asked_miss-made, asked_miss-misfit, falsely}
use Rattle.farm_entry.proofs.command.OpenAsk.asked_miss.Goals as goal

pub returns-then-fits : goal.returns-then-fits
returns-then-fits c =
    let ask = c.args.self.now in
    asked_miss-made ask.miss.0 ask.miss.1 c.args.rate c.in-Ok.miss _ (c.in-Ok.ensures.within.0 refl) c.in-Ok.ensures.reduced.0 c.in-Ok.ensures.reduced.1 (c.if-fits.ensures.0 refl)

pub returns-else-fits : goal.returns-else-fits
returns-else-fits c =
    let ask = c.args.self.now in
    asked_miss-misfit ask.miss.0 ask.miss.1 c.args.rate c.in-Ok.miss _ (c.in-Ok.ensures.within.0 refl) c.in-Ok.ensures.reduced.0 c.in-Ok.ensures.reduced.1 (λ fits. falsely (c.if-fits.ensures.1 fits))
