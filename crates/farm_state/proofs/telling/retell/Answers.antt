use Rattle.farm_state.proofs.Retold.{may-skip-at, may-take-at, told-at}
use Rattle.farm_state.proofs.telling.retell.Goals as goal

pub tell-requires-clause-reports : goal.tell-requires-clause-reports
tell-requires-clause-reports c =
    may-take-at c.args.books.now c.history-entry-items.result.now c.loop-entry.entry-index c.entry-item.result
    c.args.state.now.opening c.args.search c.loop-entry.state c.history-entry-items.ensures.legal
    c.history-entry-items.ensures.history c.loop-entry-test.true c.entry-item.is c.requires.there c.requires.search
    c.loop-entry.invariant

pub tell-requires-clause-skips : goal.tell-requires-clause-skips
tell-requires-clause-skips c =
    may-skip-at c.args.books.now c.history-entry-items.result.now c.loop-entry.entry-index c.entry-item.result
    c.args.state.now.opening c.args.search c.loop-entry.state c.history-entry-items.ensures.legal
    c.history-entry-items.ensures.history c.loop-entry-test.true c.entry-item.is c.requires.there c.requires.search
    c.loop-entry.invariant

pub loop-entry-preserved : goal.loop-entry-preserved
loop-entry-preserved c =
    told-at c.args.books.now c.history-entry-items.result.now c.loop-entry.entry-index c.entry-item.result
    c.args.state.now.opening c.args.search c.loop-entry.state c.tell.new.state c.history-entry-items.ensures.legal
    c.history-entry-items.ensures.history c.loop-entry-test.true c.entry-item.is c.requires.search
    c.loop-entry.invariant c.tell.ensures
