use Rattle.std.proofs.Common.{arith, sym, ap, ◌∙◌, []}
use Rattle.farm_board.specs.JobViews.{idle}
use Rattle.farm_board.proofs.KeepsJobs.{claims}
use Rattle.farm_board.proofs.jobs.JobTable.claim_at.Goals as goal

pub compare_exchange-requires : goal.compare_exchange-requires
compare_exchange-requires g c =
    let p = g.P.JobRule in
    let seat = c.args.seat.now in
    let shared = c.self.inside.table.shared in (
      c.requires.own ∙ ap (λ t. t.id) (sym c.self.view_is),
      omega (arith, c.requires.within, c.self.invariant.0),
      claims p.may p.says shared.key shared.table_id.slots seat.id c.args.slot seat.me c.self.invariant.1
          (c.requires.idles ∙ ap (λ t. (idle t.key, [])) (sym c.self.view_is)) c.requires.within,
    )
