use Rattle.std.proofs.Common.{IfSome, List, [], ap, ◌∙◌, length, le_refl, ◌≤◌, subst, sym}
use Rattle.connection_laws.specs.Marks.{Follows, Mark, mark_with}
use Rattle.connection_laws.specs.Moments.{MayGive}
use Rattle.farm_entry.specs.declared.entry.Entry.{Entry}
use Rattle.farm_store.specs.State.{StoreState}
use Rattle.common_types.proofs.Prefixes.{IsPrefix-refl}
use Rattle.shared_farm.specs.Rests.{CameBy}
use Rattle.shared_farm.proofs.Recorded.{FitRecord-nothing}
use Rattle.turn_lock.specs.Known.{Known, first_stake}
use Rattle.farm_serve.proofs.Served.{comes_to_none}
use Rattle.farm_serve.specs.Acknowledged.{acknowledged_by}
use Rattle.farm_serve.specs.Serving.{store_mark}
use Rattle.farm_serve.proofs.serving.serve_store.Goals as goal

pub returns-in-Err-clause-comes : goal.returns-in-Err-clause-comes
returns-in-Err-clause-comes g c =
    let history = c.args.posted.store.history in
    let start : Mark = mark_with history c.args.before in
    let longer = IsPrefix-refl history in
    comes_to_none start (store_mark g.D.Disk.count c.in-Err.store) (MayGive g.C.Clock c.args.with.now.clock.now)
    (acknowledged_by (g.D.Disk.tells c.in-Err.store.disk) (g.D.Disk.told c.in-Err.store.disk)) c.args.with.now.links
    (g.N.Network.told c.args.network) (g.N.Network.count c.args.network) c.without_memory.result
    c.without_memory.ensures
    (subst (λ (s : StoreState g.row.D.Denot). Follows start (store_mark g.D.Disk.count s)) (sym c.in-Err.ensures.back)
    record { longer = longer; counted = longer; more = c.requires.before })
    (subst (λ (s : StoreState g.row.D.Denot). length s.history ≤ length c.args.posted.store.history)
    (sym c.in-Err.ensures.back) (le_refl (length c.args.posted.store.history)))

pub returns-in-Err-clause-came : goal.returns-in-Err-clause-came
returns-in-Err-clause-came g c =
    subst (λ (s : StoreState g.row.D.Denot). IfSome g.B.Beginning.begun (λ begun. CameBy g.D.Disk begun s))
    (sym c.in-Err.ensures.back) c.requires.came

-- the first pass has all parts, and the first history
pub serve_farm-requires-clause-stake : goal.serve_farm-requires-clause-stake
serve_farm-requires-clause-stake g c κs within =
    let e = c.in-Ok.ensures.pass in
    ap (λ (k : Known). k.stake) e
    ∙ ap (λ (p : List Entry). first_stake c.args.posted.store.history p) c.requires.decided
    ∙ ap (λ (H : List Entry). first_stake H []) (sym (ap (λ (k : Known). k.seen) e))

-- nothing is pending
pub share-requires-clause-fit : goal.share-requires-clause-fit
share-requires-clause-fit g c κs within = FitRecord-nothing c.args.posted.store.pending c.requires.decided
