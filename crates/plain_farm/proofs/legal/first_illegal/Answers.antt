use Rattle.std.proofs.Common.{◌<◌, length, take, sym, ◌∙◌, arith, true≢false}
use Rattle.plain_farm.proofs.Growth.{stays_legal, stops}
use Rattle.plain_history.proofs.Items.{take-at}
use Rattle.plain_farm.proofs.legal.first_illegal.Goals as goal

pub take_entry-requires : goal.take_entry-requires
take_entry-requires c =
    let list = c.args.list.now in
    let i = c.loop-place.place in
    let below : i < length list = omega arith in
    record {
      before = take i list;
      whole = take-at list i c.index-list-place-in-loop-place.result below c.index-list-place-in-loop-place.is;
      legal_before = c.loop-place.invariant.legal;
      legal = stays_legal list i c.index-list-place.result below c.index-list-place.is c.loop-place.invariant.legal
          (c.in_ok-is_next_by.ensures.0 c.if-not-branch.false);
      kept = c.loop-place.invariant.kept;
    }

pub loop-place-preserved : goal.loop-place-preserved
loop-place-preserved c =
    let list = c.args.list.now in
    let i = c.loop-place.place in
    let below : i < length list = omega arith in
    record {
      legal = stays_legal list i c.index-list-place.result below c.index-list-place.is c.loop-place.invariant.legal
          (c.in_ok-is_next_by.ensures.0 c.if-not-branch.false);
      kept = c.in_ok-take_entry.ensures;
    }

pub returns-then-not-branch : goal.returns-then-not-branch
returns-then-not-branch c =
    let list = c.args.list.now in
    let i = c.loop-place.place in
    let below : i < length list = omega arith in
    stops list i c.index-list-place.result below c.index-list-place.is c.loop-place.invariant.legal
    (λ next. true≢false (sym (c.in_ok-is_next_by.ensures.1 next) ∙ c.if-not-branch.true))
