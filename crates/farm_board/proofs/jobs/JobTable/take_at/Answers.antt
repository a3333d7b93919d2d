use Rattle.std.proofs.Common.{arith, ◌∙◌, Some}
use Rattle.farm_board.specs.JobViews.{helping}
use Rattle.farm_board.specs.declared.job_view.Slot.TheVariants.{Job}
use Rattle.farm_board.proofs.Hands.{in_hands}
use Rattle.farm_board.proofs.KeepsJobs.{begins, takes_job}
use Rattle.farm_board.proofs.jobs.JobTable.take_at.Goals as goal

pub load_new_seat-seat-requires : goal.load_new_seat-seat-requires
load_new_seat-seat-requires g c =
    let p = g.P.JobRule in
    let shared = c.self.inside.table.shared in (
      omega (arith, c.requires.within, c.self.invariant.0),
      begins p.may p.says shared.key shared.table_id.slots c.args.slot,
    )

pub compare_exchange-found-requires : goal.compare_exchange-found-requires
compare_exchange-found-requires g c =
    let p = g.P.JobRule in
    let shared = c.self.inside.table.shared in
    let seat = c.load_new_seat-seat.result.1 in (
      c.load_new_seat-seat.ensures.0,
      omega (arith, c.requires.within, c.self.invariant.0),
      takes_job p.may p.says shared.key shared.table_id.slots seat.id c.args.slot seat.me c.self.invariant.1
          c.load_new_seat-seat.ensures.2 c.requires.within,
    )

pub exchange-left-requires : goal.exchange-left-requires
exchange-left-requires g c =
    let seat = c.load_new_seat-seat.result.1 in
    let took = c.compare_exchange-found.ensures.2.0 c.if-found-ne-POSTED.false in
    let left = Some (Job took.0) in (
      c.compare_exchange-found.ensures.0 ∙ c.load_new_seat-seat.ensures.0,
      (
        left,
        in_hands c.compare_exchange-found.new.seat.me (helping seat.me.0.key c.args.slot took.0) c.args.slot left
            seat.me.1 took.2,
      ),
    )
