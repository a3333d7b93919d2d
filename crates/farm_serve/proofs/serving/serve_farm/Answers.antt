use Rattle.std.proofs.Common.{◌⊎◌, ◌≡◌, true, arith, length, List, subst, sym}
use Rattle.connection_laws.specs.Marks.{Follows}
use Rattle.farm_entry.specs.declared.entry.Entry.{Entry}
use Rattle.farm_http.specs.Callers.{mark_of, noted_by}
use Rattle.common_types.proofs.Prefixes.{IsPrefix-length, IsPrefix-refl, IsPrefix-trans}
use Rattle.common_types.specs.Prefix.{IsPrefix}
use Rattle.turn_lock.proofs.PlaceLists.{ArePlaces-widen}
use Rattle.farm_serve.proofs.Acknowledged.{noted-acknowledged_by}
use Rattle.farm_serve.proofs.Owners.{all-owned, same-owned}
use Rattle.farm_serve.proofs.Served.{comes}
use Rattle.farm_serve.proofs.Steps.{noted-rows}
use Rattle.farm_serve.specs.Acknowledged.{acknowledged_by}
use Rattle.farm_serve.specs.Entries.{AtEntry, start_of}
use Rattle.farm_serve.specs.Serving.{owned_by, store_mark}
use Rattle.farm_serve.specs.Standings.{IsClosed}
use Rattle.farm_serve.specs.declared.standing.ServeState.{ServeState}
use Rattle.farm_serve.proofs.serving.serve_farm.Goals as goal

-- the pass and the mark of totals have seen the first history
pub new-gate-requires-clause-begins : goal.new-gate-requires-clause-begins
new-gate-requires-clause-begins g c =
    let seen = c.args.pass.seen in
    subst (λ (a : AtEntry). Follows (start_of a) (mark_of c.args.pass c.args.read)) (sym c.requires.entry)
    record {
      longer = IsPrefix-refl seen;
      counted = subst (λ (H : List Entry). IsPrefix seen H) (sym c.requires.read) (IsPrefix-refl seen);
      more = c.requires.before;
    }

pub returns-clause-comes : goal.returns-clause-comes
returns-clause-comes g c =
    let store = c.close-store.result in
    let last = c.finish-network.result in
    let held = c.meet.new.pass in
    let seen = c.close-store.ensures.seen in
    comes g.J.Naming.entry _ g.J.Naming.gives _ (noted_by last.1)
    (acknowledged_by (g.D.Disk.tells store.disk) (g.D.Disk.told store.disk)) _ _ (owned_by last.1)
    last.1.stake.lending _ _ _ c.requires.entry
    (subst (λ (s : ServeState). IsClosed s ⊎ (s.short ≡ true)) (sym c.finish-network.ensures.standing)
    c.serve_rest.ensures.closed)
    c.finish-network.ensures.begins
    record {
      longer = IsPrefix-trans last.1.seen held.seen store.history c.meet.ensures.keeps.longer seen;
      counted = IsPrefix-trans last.2 held.seen store.history c.meet.ensures.seen seen;
      more = (let more = c.meet.ensures.keeps.faults in let most = c.close-store.ensures.faults in omega arith);
    }
    c.requires.gives.there
    (λ notes place H begins holds. noted-acknowledged_by (g.D.Disk.tells store.disk)
    store.history (g.D.Disk.told store.disk) held.rows notes place H c.close-store.ensures.logged begins
    (noted-rows (store_mark g.D.Disk.count store) last.1 held c.meet.ensures.keeps.rows notes place H begins holds))
    (ArePlaces-widen 0 (length last.1.seen) 0 (length store.history) last.1.mine (omega arith)
    (IsPrefix-length last.1.seen store.history (IsPrefix-trans last.1.seen held.seen store.history
    c.meet.ensures.keeps.longer seen)) c.finish-network.ensures.places)
    (all-owned g.J.Naming.entry last.1 _ store.history c.finish-network.ensures.stake
    (λ whole. same-owned last.1 held store.history c.meet.ensures.mine c.meet.ensures.look.stake
    c.close-store.ensures.owned whole))
    c.finish-network.ensures.gained c.finish-network.ensures.rose
    c.finish-network.ensures.never_falls

pub returns-clause-came : goal.returns-clause-came
returns-clause-came g c = c.close-store.ensures.came
