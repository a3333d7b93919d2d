use Rattle.std.proofs.Common.{[], ◌≡◌, ◌≤◌, length, le_refl, rules, subst, sym}
use Rattle.connection_laws.specs.Marks.{Follows, Mark, mark_with}
use Rattle.connection_laws.specs.Moments.{MayGive}
use Rattle.farm_store.specs.State.{StoreState}
use Rattle.common_types.proofs.Prefixes.{IsPrefix-refl}
use Rattle.shared_farm.specs.Rests.{CameBy, begun_of}
use Rattle.farm_serve.proofs.Crashes.{came-first}
use Rattle.farm_serve.proofs.Served.{comes_to_none}
use Rattle.farm_serve.specs.Acknowledged.{acknowledged_by}
use Rattle.outside_seen.specs.Outside.{network_seen}
use Rattle.farm_serve.specs.Serving.{ComesTo, store_mark}
use Rattle.farm_serve.proofs.serving.serve_opened.Goals as goal

pub serve_store-requires-clause-came : goal.serve_store-requires-clause-came
serve_store-requires-clause-came g c = search (came-first g.D.Disk c.in-Ok.posted.store, rules)

pub serve_store-requires-clause-before : goal.serve_store-requires-clause-before
serve_store-requires-clause-before g c κs within =
    subst (λ (s : StoreState g.row.D.Denot). c.args.before ≤ g.D.Disk.count s.disk) (sym c.in-Ok.ensures.same)
    c.requires.before

pub serve_store-requires-clause-decided : goal.serve_store-requires-clause-decided
serve_store-requires-clause-decided g c κs within =
    subst (λ (s : StoreState g.row.D.Denot). s.pending ≡ []) (sym c.in-Ok.ensures.same) c.requires.decided

pub returns-in-Ok-clause-comes : goal.returns-in-Ok-clause-comes
returns-in-Ok-clause-comes g c =
    let served = c.serve_store in
    let disk = served.result.0.disk in
    subst (λ (s : StoreState g.row.D.Denot). ComesTo (mark_with s.history c.args.before)
    (store_mark g.D.Disk.count served.result.0) (MayGive g.C.Clock c.args.with.now.clock.now)
    (acknowledged_by (g.D.Disk.tells disk) (g.D.Disk.told disk)) c.args.with.now.links served.result.2
    (network_seen (g.N.Network.told c.args.network) (g.N.Network.count c.args.network))
    (network_seen (g.N.Network.told served.result.1) (g.N.Network.count served.result.1))) c.in-Ok.ensures.same
    served.ensures.comes

pub returns-in-Ok-clause-came : goal.returns-in-Ok-clause-came
returns-in-Ok-clause-came g c =
    subst (λ (s : StoreState g.row.D.Denot). CameBy g.D.Disk (begun_of g.D.Disk s) c.serve_store.result.0)
    c.in-Ok.ensures.same c.serve_store.ensures.came

pub returns-in-Err-clause-comes : goal.returns-in-Err-clause-comes
returns-in-Err-clause-comes g c =
    let start : Mark = mark_with c.args.store.history c.args.before in
    let longer = IsPrefix-refl c.args.store.history in
    comes_to_none start (store_mark g.D.Disk.count c.in-Err.store) (MayGive g.C.Clock c.args.with.now.clock.now)
    (acknowledged_by (g.D.Disk.tells c.in-Err.store.disk) (g.D.Disk.told c.in-Err.store.disk)) c.args.with.now.links
    (g.N.Network.told c.args.network) (g.N.Network.count c.args.network) c.without_memory.result
    c.without_memory.ensures
    (subst (λ (s : StoreState g.row.D.Denot). Follows start (store_mark g.D.Disk.count s)) (sym c.in-Err.ensures.back)
    record { longer = longer; counted = longer; more = c.requires.before })
    (subst (λ (s : StoreState g.row.D.Denot). length s.history ≤ length c.args.store.history)
    (sym c.in-Err.ensures.back) (le_refl (length c.args.store.history)))

pub returns-in-Err-clause-came : goal.returns-in-Err-clause-came
returns-in-Err-clause-came g c =
    subst (λ (s : StoreState g.row.D.Denot). CameBy g.D.Disk (begun_of g.D.Disk c.args.store) s)
    (sym c.in-Err.ensures.back) (came-first g.D.Disk c.args.store)
