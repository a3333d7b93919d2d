use Rattle.std.proofs.Common.{sym, ◌∙◌, arith}
use Rattle.std.proofs.lemmas.Int.{ints}
use Rattle.entry_codec.proofs.Made.{settings_of-made}
use Rattle.audit_check.proofs.values.settings_of.Goals as goal

pub returns-in-Ok : goal.returns-in-Ok
returns-in-Ok c =
    let kept = c.in-Ok.ensures.kept in
    sym (settings_of-made c.args.lease_ms c.args.daily c.args.zone c.in-Ok.settings kept.0 (kept.1 ∙ c.from.ensures)
    (omega (arith, ints, kept.2, c.from-zone_minutes.ensures)))
