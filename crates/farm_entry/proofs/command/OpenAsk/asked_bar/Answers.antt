use Rattle.std.proofs.Common.{Option, refl, sym, ap}
use Rattle.std.specs.Option.{ok_or}
use Rattle.flake_rate.specs.declared.bar.Bar.{Bar}
use Rattle.farm_entry.specs.declared.refusal.OpenFault.TheVariants as fault
use Rattle.farm_entry.proofs.Asked.{bar_of-made}
use Rattle.farm_entry.proofs.command.OpenAsk.asked_bar.Goals as goal

pub returns-in-Ok : goal.returns-in-Ok
returns-in-Ok c =
    let ask = c.args.self.now in
    sym (ap (λ (r : Option Bar). ok_or r (fault.Bar (record { t = ask.bar.0; u = ask.bar.1 })))
    (bar_of-made ask.bar.0 ask.bar.1 c.in-Ok.bar (c.in-Ok.ensures.within.0 refl) c.in-Ok.ensures.as_given.0 c.in-Ok.ensures.as_given.1))
