use Rattle.std.proofs.Common.{arith, sym, subst, ap, ◌∙◌, ◌∷◌, [], None, Some}
use Rattle.farm_board.specs.JobViews.{helping}
use Rattle.farm_board.specs.declared.job_view.Slot.TheVariants.{Answer}
use Rattle.farm_board.proofs.Hands.{put_there}
use Rattle.farm_board.proofs.KeepsJobs.{answers}
use Rattle.farm_board.proofs.jobs.JobTable.answer.Goals as goal

pub store-requires : goal.store-requires
store-requires g c =
    let p = g.P.JobRule in
    let shared = c.self.inside.table.shared in
    let held = c.taken.inside in
    let slot = held.slot in
    let job = held.job.value in
    let answer = c.args.answer in
    let seat = c.exchange-empty.new.seat in
    let own = ap (λ t. t.table) c.taken.view_is ∙ c.requires.own ∙ sym c.self.view_is in
    let helps = c.taken.invariant.1 ∙ ap (λ t. (helping t.key slot job, (slot, None) ∷ [])) own in (
      c.exchange-empty.ensures.0 ∙ ap (λ t. t.id) own,
      omega (arith, c.taken.invariant.0, c.self.invariant.0),
      answers p.may p.says shared.key shared.table_id.slots seat.id slot seat.me job answer c.self.invariant.1
          (put_there held.seat.me seat.me (helping shared.key slot job) slot None (Some (Answer answer)) [] helps
          c.exchange-empty.ensures.3)
          c.taken.invariant.0
          (subst (λ t. p.says t.key job answer) (sym c.self.view_is)
          (subst (λ t. p.says c.args.self.now.key t.job answer) (sym c.taken.view_is) c.requires.says)),
    )
