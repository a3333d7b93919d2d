use Rattle.std.proofs.Common.{◌<◌, List, length, get_or, take, sym, subst, arith}
use Rattle.farm_entry.specs.declared.entry.Entry.{Entry}
use Rattle.plain_farm.specs.Begun.{HasBegun}
use Rattle.plain_farm.proofs.Growth.{stays_legal}
use Rattle.plain_history.proofs.Items.{take-at}
use Rattle.plain_farm.proofs.beginning.beginning.Goals as goal

pub loop-place-preserved : goal.loop-place-preserved
loop-place-preserved c =
    let list = c.args.list.now in
    let i = c.loop-place.place in
    let e = c.index-list-place.result in
    let below : i < length list = omega arith in
    let on = c.in_ok-carries_on.ensures c.if-not-branch.false in
    record {
      legal = stays_legal list i e below c.index-list-place.is c.loop-place.invariant.legal on.next;
      begun = subst (λ (L : List Entry). HasBegun L (get_or list 0 c.index-list-0.result).at c.carries_on.new.orders)
          (sym (take-at list i e below c.index-list-place.is)) on.begun;
    }
