use Rattle.std.proofs.Common.{◌∙◌, ap, sym, Option}
use Rattle.std.specs.Option.{option_map}
use Rattle.farm_entry.specs.declared.settings.Settings.{Settings}
use Rattle.common_types.specs.Decimals.{number}
use Rattle.finder_words.specs.Words.{asked_by, found, inherit, zone_named}
use Rattle.finder_words.specs.declared.subcommand.Subcommand.TheVariants as sub
use Rattle.finder_words.proofs.Foundings.{settings-no_zone}
use Rattle.finder_words.proofs.subcommand.read_settings.Goals as goal

pub returns-in_err-zone-clause-founding : goal.returns-in_err-zone-clause-founding
returns-in_err-zone-clause-founding c =
    ap (λ (o : Option Settings). option_map (λ settings. asked_by (sub.Found settings)) o) c.from_residual-in_err-zone.ensures
    ∙ sym (settings-no_zone found (number c.args.lease_ms.now) (number c.args.daily.now) (zone_named c.args.zone.now)
    (λ zone is. c.in_err-zone.ensures.none zone (ap zone_named c.as_bytes-3.ensures.value ∙ is)))

pub returns-in_err-zone-clause-inheriting : goal.returns-in_err-zone-clause-inheriting
returns-in_err-zone-clause-inheriting c =
    ap (λ (o : Option Settings). option_map (λ settings. asked_by (sub.Inherit settings)) o) c.from_residual-in_err-zone.ensures
    ∙ sym (settings-no_zone inherit (number c.args.lease_ms.now) (number c.args.daily.now) (zone_named c.args.zone.now)
    (λ zone is. c.in_err-zone.ensures.none zone (ap zone_named c.as_bytes-3.ensures.value ∙ is)))
