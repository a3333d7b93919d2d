use Rattle.std.proofs.Common.{Option, refl, sym, ap}
use Rattle.std.specs.Option.{ok_or}
use Rattle.flake_rate.specs.declared.rate.Rate.{Rate}
use Rattle.farm_entry.specs.declared.refusal.OpenFault.TheVariants as fault
use Rattle.farm_entry.proofs.Asked.{rate_of-made}
use Rattle.farm_entry.proofs.command.OpenAsk.asked_rate.Goals as goal

pub returns-in-Ok : goal.returns-in-Ok
returns-in-Ok c =
    let ask = c.args.self.now in
    sym (ap (λ (r : Option Rate). ok_or r (fault.Rate (record { a = ask.rate.0; b = ask.rate.1 })))
    (rate_of-made ask.rate.0 ask.rate.1 c.in-Ok.rate (c.in-Ok.ensures.within.0 refl) c.in-Ok.ensures.reduced.0 c.in-Ok.ensures.reduced.1))
