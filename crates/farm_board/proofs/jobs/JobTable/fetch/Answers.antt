use Rattle.std.proofs.Common.{arith, sym, ap, ◌∙◌, [], Some}
use Rattle.farm_board.specs.JobViews.{asking, claiming}
use Rattle.farm_board.specs.declared.job_view.Slot.TheVariants.{Answer}
use Rattle.farm_board.proofs.Hands.{in_hands, emptied}
use Rattle.farm_board.proofs.KeepsJobs.{fetches, frees}
use Rattle.farm_board.proofs.jobs.JobTable.fetch.Goals as goal

pub compare_exchange-found-requires : goal.compare_exchange-found-requires
compare_exchange-found-requires g c =
    let p = g.P.JobRule in
    let shared = c.self.inside.table.shared in
    let held = c.posted.inside in
    let own = ap (λ t. t.table) c.posted.view_is ∙ c.requires.own ∙ sym c.self.view_is in (
      ap (λ t. t.id) own,
      omega (arith, c.posted.invariant.0, c.self.invariant.0),
      fetches p.may p.says shared.key shared.table_id.slots held.seat.id held.slot held.seat.me held.job.value
          c.self.invariant.1
          (c.posted.invariant.1 ∙ ap (λ t. (asking t.key held.slot held.job.value, [])) own) c.posted.invariant.0,
    )

pub exchange-left-requires : goal.exchange-left-requires
exchange-left-requires g c =
    let held = c.posted.inside in
    let own = ap (λ t. t.table) c.posted.view_is ∙ c.requires.own ∙ sym c.self.view_is in
    let took = c.compare_exchange-found.ensures.2.0 c.if-found-ne-ANSWERED.false in
    let left = Some (Answer took.1) in (
      c.compare_exchange-found.ensures.0 ∙ ap (λ t. t.id) own,
      (
        left,
        in_hands c.compare_exchange-found.new.seat.me (claiming held.seat.me.0.key held.slot) held.slot left
            held.seat.me.1 took.4,
      ),
    )

pub store-requires : goal.store-requires
store-requires g c =
    let p = g.P.JobRule in
    let shared = c.self.inside.table.shared in
    let held = c.posted.inside in
    let slot = held.slot in
    let job = held.job.value in
    let seat = c.exchange-left.new.seat in
    let own = ap (λ t. t.table) c.posted.view_is ∙ c.requires.own ∙ sym c.self.view_is in
    let asks = c.posted.invariant.1 ∙ ap (λ t. (asking t.key slot job, [])) own in
    let took = c.compare_exchange-found.ensures.2.0 c.if-found-ne-ANSWERED.false in (
      c.exchange-left.ensures.0 ∙ c.compare_exchange-found.ensures.0 ∙ ap (λ t. t.id) own,
      omega (arith, c.posted.invariant.0, c.self.invariant.0),
      frees p.may p.says shared.key shared.table_id.slots seat.id slot seat.me c.self.invariant.1
          (emptied held.seat.me c.compare_exchange-found.new.seat.me seat.me shared.key slot job (Some (Answer took.1))
          asks took.4 c.exchange-left.ensures.3)
          c.posted.invariant.0,
    )
