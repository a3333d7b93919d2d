use Rattle.std.proofs.Common.{List, length, arith, ap, subst, sym, ◌∙◌, ◌+◌, Some}
use Rattle.atomic_table.specs.Seated.{TableId}
use Rattle.farm_entry.specs.Legal.{IsLegal}
use Rattle.common_types.proofs.Prefixes.{IsPrefix-equal}
use Rattle.turn_lock.specs.Known.{Known}
use Rattle.turn_lock.specs.declared.view.Taken.{Taken}
use Rattle.common_types.proofs.Rows.{IsOlder-refl}
use Rattle.common_types.specs.Rows.{IsOlder}
use Rattle.common_types.specs.declared.row.Row.{Row}
use Rattle.shared_farm.specs.Logs.{LockedState}
use Rattle.shared_farm.specs.Turns.{KeepsPass}
use Rattle.shared_farm.proofs.Accounting.{looked-accounts}
use Rattle.shared_farm.proofs.Turning.{IsTaken, look-keeps, look-stake, over-after}
use Rattle.shared_farm.proofs.farm.SharedFarm.tail.Goals as goal

pub back-requires-clause-grown : goal.back-requires-clause-grown
back-requires-clause-grown g c =
    let turn = c.turn-turn.result in
    IsPrefix-equal turn.before.taken.entries turn.value.value.store.history
    (ap (λ (t : Taken). t.entries) c.turn-turn.ensures.taken)

pub returns-clause-look : goal.returns-clause-look
returns-clause-look g c =
    let new = c.back.ensures.pass in
    let last = ap (λ (k : Known). k.last) new ∙ c.turn-turn.ensures.taken in
    record {
      used = ap (λ (k : Known). k.uses) new ∙ ap (λ (k : Known). k.uses + 1) c.turn-turn.ensures.pass;
      seen = ap (λ (k : Known). k.seen) new ∙ ap (λ (t : Taken). t.entries) (sym last);
      faults = ap (λ (k : Known). k.faults) new ∙ ap (λ (t : Taken). t.count) (sym last);
      pending = ap (λ (k : Known). k.pending) new ∙ ap (λ (t : Taken). Some t.pending) (sym last);
      stake = look-stake c.back.new.pass c.args.pass.now c.turn-turn.result.before c.self.inside.lock _ _ _ _ _ _
          c.turn-turn.ensures.failed c.turn-turn.ensures.pass new;
    }

pub returns-clause-keeps : goal.returns-clause-keeps
returns-clause-keeps g c =
    let turn = c.turn-turn in
    let count = g.D.Disk.count in
    let store = turn.result.value.value.store in
    let taken : IsTaken count c.args.pass.now turn.result.before store = record {
      took = turn.ensures.taken;
      settled = turn.ensures.settled;
      begins = turn.ensures.seen;
      faults = turn.ensures.faults;
    } in
    let legal : IsLegal store.history =
    subst (λ (s : LockedState g.row.D.Denot). IsLegal s.store.history) c.deref.ensures c.tail-page.ensures.legal in
    subst (λ (lock : TableId). KeepsPass lock c.args.pass.now c.back.new.pass) c.self.view_is
    (look-keeps count c.args.pass.now c.back.new.pass turn.result.before store turn.result.own c.self.inside.lock _
    turn.ensures.pass taken turn.ensures.places legal turn.ensures.own c.requires.ready.some _ c.back.ensures.pass)

pub back-requires-clause-logged : goal.back-requires-clause-logged
back-requires-clause-logged g c =
    subst (λ (l : List Row). IsOlder c.turn-turn.result.before.log l) c.turn-turn.ensures.log
    (IsOlder-refl c.turn-turn.result.before.log)

pub returns-clause-over : goal.returns-clause-over
returns-clause-over g c =
    let asked = c.passed-over in
    over-after g.D.DatedDisk.dated (g.D.Over.Past.at asked.result) c.back.new.pass c.turn-turn.result.value.value
    c.deref-2.result.now c.turn-turn.result.before.pass.rows c.deref-2.ensures asked.ensures.newest asked.ensures.over
    (ap (λ (k : Known). k.rows) c.back.ensures.pass)
    (omega (arith, ap (λ (k : Known). length k.seen) c.back.ensures.pass))

pub back-requires-clause-owned : goal.back-requires-clause-owned
back-requires-clause-owned g c =
    let turn = c.turn-turn.result in
    let store = turn.value.value.store in
    let took = c.turn-turn.ensures.taken in
    looked-accounts turn.before.taken store.history store.pending turn.own turn.failed
    (sym (ap (λ (t : Taken). t.entries) took)) (sym (ap (λ (t : Taken). t.pending) took))
