use Rattle.std.proofs.Common.{arith, sym, subst, ap, ◌∙◌, ◌∷◌, [], None, Some}
use Rattle.farm_board.specs.JobViews.{claiming}
use Rattle.farm_board.specs.declared.job_view.Slot.TheVariants.{Job}
use Rattle.farm_board.proofs.Hands.{put_there}
use Rattle.farm_board.proofs.KeepsJobs.{begins, posts}
use Rattle.farm_board.proofs.jobs.JobTable.post.Goals as goal

pub load_new_seat-seat-requires : goal.load_new_seat-seat-requires
load_new_seat-seat-requires g c =
    let p = g.P.JobRule in
    let shared = c.self.inside.table.shared in (
      omega (arith, c.self.invariant.0),
      begins p.may p.says shared.key shared.table_id.slots 0,
    )

pub store-requires : goal.store-requires
store-requires g c =
    let p = g.P.JobRule in
    let shared = c.self.inside.table.shared in
    let slot = c.in-Some.slot in
    let job = c.args.job in
    let claimed = c.claim.new.seat in
    let seat = c.exchange-empty.new.seat in
    let key = ap (λ t. t.key) (sym c.self.view_is) in (
      c.exchange-empty.ensures.0 ∙ c.in-Some.ensures.own.0 ∙ c.load_new_seat-seat.ensures.0,
      omega (arith, c.in-Some.ensures.within, c.self.invariant.0),
      posts p.may p.says shared.key shared.table_id.slots seat.id slot seat.me job c.self.invariant.1
          (put_there claimed.me seat.me (claiming shared.key slot) slot None (Some (Job job)) []
          (c.in-Some.ensures.claimed ∙ ap (λ k. (claiming k slot, (slot, None) ∷ [])) key) c.exchange-empty.ensures.3)
          c.in-Some.ensures.within (subst (λ k. p.may k job) key c.requires.may),
    )
