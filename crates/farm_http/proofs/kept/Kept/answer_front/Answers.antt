use Rattle.std.proofs.Common.{rules, ◌≡◌, List, Ok, sym, subst}
use Rattle.connection_laws.specs.Moments.{GivenBy}
use Rattle.farm_entry.specs.declared.entry.Entry.{Entry}
use Rattle.http_words.specs.declared.endpoint.Endpoint.TheVariants as endpoint
use Rattle.common_types.specs.Prefix.{IsPrefix}
use Rattle.common_types.proofs.Rows.{AreAmong-refl}
use Rattle.farm_http.specs.Fronts.{FrontSays, halves}
use Rattle.farm_http.specs.Received.{is_complete}
use Rattle.farm_http.proofs.Handed.{none-answered, one-made, put-handed}
use Rattle.farm_http.proofs.LogPage.{copied-says, log-from}
use Rattle.farm_http.proofs.Single.{counted-says, faulted-says, read-both, within-own}
use Rattle.farm_http.proofs.kept.Kept.answer_front.Goals as goal

pub returns-in-Ok-Command-clause-says : goal.returns-in-Ok-Command-clause-says
returns-in-Ok-Command-clause-says g c d within read =
    let own = within-own d c.args.caller.now.pass c.args.caller.now.reader within in
    read-both (GivenBy g.C.Clock c.args.service.now.clock.now g.D.Disk.count) d _ _ _ _ c.args.caller.now.pass
    c.answer_commands.new.pass c.args.caller.now.reader c.answer_commands.result read
    (c.answer_commands.ensures.says d own)

pub answer_log-requires-clause-from : goal.answer_log-requires-clause-from
answer_log-requires-clause-from g c κs within =
    let asks : c.args.first.now.asks ≡ Ok (endpoint.Log c.in-Ok-Log.from) = search rules in
    log-from _ _ c.args.first.now c.in-Ok-Log.from c.requires.next asks

pub returns-in_err-answer_totals-in-Ok-Totals-clause-says : goal.returns-in_err-answer_totals-in-Ok-Totals-clause-says
returns-in_err-answer_totals-in-Ok-Totals-clause-says g c d within read =
    let own = within-own d c.args.caller.now.pass c.args.caller.now.reader within in
    let asks : c.args.first.now.asks ≡ Ok endpoint.Totals = search rules in
    subst (λ (H : List Entry). FrontSays (GivenBy g.C.Clock c.args.service.now.clock.now g.D.Disk.count) d
    (is_complete c.args.received.now)
    c.args.received.now.held c.args.received.now.interim (halves g.L.Sink c.args.link.now c.answer_totals.new.link)
    (record { pass = c.args.caller.now.pass; reader = H })
    (record { pass = c.args.caller.now.pass; reader = c.answer_totals.new.reader }) c.from_residual.result) (sym read)
    (counted-says (GivenBy g.C.Clock c.args.service.now.clock.now g.D.Disk.count) d _ _ _ _ c.args.caller.now.pass
    c.args.first.now c.requires.next c.requires.interim
    own c.answer_totals.new.reader _ asks (subst (λ (H : List Entry). IsPrefix H c.answer_totals.new.reader) read
    c.answer_totals.ensures.longer) c.answer_totals.ensures.legal c.from_residual.result
    (none-answered _ c.args.first.now c.from_residual.result c.from_residual.ensures.1)
    (put-handed _ _ _ _ c.from_residual.result c.from_residual.ensures.1
    c.in_err-answer_totals-in-Ok-Totals.ensures.says.1))

pub returns-in_ok-answer_totals-in-Ok-Totals-clause-says : goal.returns-in_ok-answer_totals-in-Ok-Totals-clause-says
returns-in_ok-answer_totals-in-Ok-Totals-clause-says g c d within read =
    let own = within-own d c.args.caller.now.pass c.args.caller.now.reader within in
    let asks : c.args.first.now.asks ≡ Ok endpoint.Totals = search rules in
    subst (λ (H : List Entry). FrontSays (GivenBy g.C.Clock c.args.service.now.clock.now g.D.Disk.count) d
    (is_complete c.args.received.now)
    c.args.received.now.held c.args.received.now.interim (halves g.L.Sink c.args.link.now c.answer_totals.new.link)
    (record { pass = c.args.caller.now.pass; reader = H })
    (record { pass = c.args.caller.now.pass; reader = c.answer_totals.new.reader }) (Ok c.one.result)) (sym read)
    (counted-says (GivenBy g.C.Clock c.args.service.now.clock.now g.D.Disk.count) d _ _ _ _ c.args.caller.now.pass
    c.args.first.now c.requires.next c.requires.interim
    own c.answer_totals.new.reader _ asks (subst (λ (H : List Entry). IsPrefix H c.answer_totals.new.reader) read
    c.answer_totals.ensures.longer) c.answer_totals.ensures.legal (Ok c.one.result)
    (one-made c.one.result c.args.first.now c.one.ensures.requests c.one.ensures.size c.one.ensures.closes)
    c.in_ok-answer_totals-in-Ok-Totals.ensures.says.1)

pub returns-in_err-answer_log-in-Ok-Log-clause-says : goal.returns-in_err-answer_log-in-Ok-Log-clause-says
returns-in_err-answer_log-in-Ok-Log-clause-says g c d within read =
    let own = within-own d c.args.caller.now.pass c.args.caller.now.reader within in
    let asks : c.args.first.now.asks ≡ Ok (endpoint.Log c.in-Ok-Log.from) = search rules in
    subst (λ (H : List Entry). FrontSays (GivenBy g.C.Clock c.args.service.now.clock.now g.D.Disk.count) d
    (is_complete c.args.received.now)
    c.args.received.now.held c.args.received.now.interim (halves g.L.Sink c.args.link.now c.answer_log.new.link)
    (record { pass = c.args.caller.now.pass; reader = H }) (record { pass = c.answer_log.new.pass; reader = H })
    c.from_residual-in_err-answer_log-in-Ok-Log.result) (sym read)
    (copied-says (GivenBy g.C.Clock c.args.service.now.clock.now g.D.Disk.count) d _ _ _ _ c.args.caller.now.pass
    c.answer_log.new.pass c.args.first.now c.in-Ok-Log.from _
    c.requires.next c.requires.interim own asks c.answer_log.ensures.longer c.answer_log.ensures.holds
    c.answer_log.ensures.faults c.answer_log.ensures.aside c.from_residual-in_err-answer_log-in-Ok-Log.result
    (none-answered _ c.args.first.now c.from_residual-in_err-answer_log-in-Ok-Log.result
    c.from_residual-in_err-answer_log-in-Ok-Log.ensures.1)
    (put-handed _ _ _ _ c.from_residual-in_err-answer_log-in-Ok-Log.result
    c.from_residual-in_err-answer_log-in-Ok-Log.ensures.1 c.in_err-answer_log-in-Ok-Log.ensures.says.1))

pub returns-in_ok-answer_log-in-Ok-Log-clause-says : goal.returns-in_ok-answer_log-in-Ok-Log-clause-says
returns-in_ok-answer_log-in-Ok-Log-clause-says g c d within read =
    let own = within-own d c.args.caller.now.pass c.args.caller.now.reader within in
    let asks : c.args.first.now.asks ≡ Ok (endpoint.Log c.in-Ok-Log.from) = search rules in
    subst (λ (H : List Entry). FrontSays (GivenBy g.C.Clock c.args.service.now.clock.now g.D.Disk.count) d
    (is_complete c.args.received.now)
    c.args.received.now.held c.args.received.now.interim (halves g.L.Sink c.args.link.now c.answer_log.new.link)
    (record { pass = c.args.caller.now.pass; reader = H }) (record { pass = c.answer_log.new.pass; reader = H })
    (Ok c.one-in-Ok-Log.result)) (sym read)
    (copied-says (GivenBy g.C.Clock c.args.service.now.clock.now g.D.Disk.count) d _ _ _ _ c.args.caller.now.pass
    c.answer_log.new.pass c.args.first.now c.in-Ok-Log.from _
    c.requires.next c.requires.interim own asks c.answer_log.ensures.longer c.answer_log.ensures.holds
    c.answer_log.ensures.faults c.answer_log.ensures.aside (Ok c.one-in-Ok-Log.result)
    (one-made c.one-in-Ok-Log.result c.args.first.now c.one-in-Ok-Log.ensures.requests c.one-in-Ok-Log.ensures.size
    c.one-in-Ok-Log.ensures.closes) c.in_ok-answer_log-in-Ok-Log.ensures.says.1)

pub returns-in_err-answer_fault-in-Err-clause-says : goal.returns-in_err-answer_fault-in-Err-clause-says
returns-in_err-answer_fault-in-Err-clause-says g c d within read =
    let own = within-own d c.args.caller.now.pass c.args.caller.now.reader within in
    subst (λ (H : List Entry). FrontSays (GivenBy g.C.Clock c.args.service.now.clock.now g.D.Disk.count) d
    (is_complete c.args.received.now)
    c.args.received.now.held c.args.received.now.interim (halves g.L.Sink c.args.link.now c.answer_fault.new.link)
    (record { pass = c.args.caller.now.pass; reader = H }) (record { pass = c.args.caller.now.pass; reader = H })
    c.from_residual-in_err-answer_fault-in-Err.result) (sym read)
    (faulted-says (GivenBy g.C.Clock c.args.service.now.clock.now g.D.Disk.count) d _ _ _ _ c.args.caller.now.pass
    c.args.first.now c.requires.next c.requires.interim
    own c.in-Err.fault c.in-Err.is c.from_residual-in_err-answer_fault-in-Err.result
    (none-answered _ c.args.first.now c.from_residual-in_err-answer_fault-in-Err.result
    c.from_residual-in_err-answer_fault-in-Err.ensures.1)
    (put-handed _ _ _ _ c.from_residual-in_err-answer_fault-in-Err.result
    c.from_residual-in_err-answer_fault-in-Err.ensures.1 c.in_err-answer_fault-in-Err.ensures.says))

pub returns-in_ok-answer_fault-in-Err-clause-says : goal.returns-in_ok-answer_fault-in-Err-clause-says
returns-in_ok-answer_fault-in-Err-clause-says g c d within read =
    let own = within-own d c.args.caller.now.pass c.args.caller.now.reader within in
    subst (λ (H : List Entry). FrontSays (GivenBy g.C.Clock c.args.service.now.clock.now g.D.Disk.count) d
    (is_complete c.args.received.now)
    c.args.received.now.held c.args.received.now.interim (halves g.L.Sink c.args.link.now c.answer_fault.new.link)
    (record { pass = c.args.caller.now.pass; reader = H }) (record { pass = c.args.caller.now.pass; reader = H })
    (Ok c.one-in-Err.result)) (sym read)
    (faulted-says (GivenBy g.C.Clock c.args.service.now.clock.now g.D.Disk.count) d _ _ _ _ c.args.caller.now.pass
    c.args.first.now c.requires.next c.requires.interim own c.in-Err.fault c.in-Err.is (Ok c.one-in-Err.result)
    (one-made c.one-in-Err.result c.args.first.now c.one-in-Err.ensures.requests c.one-in-Err.ensures.size
    c.one-in-Err.ensures.closes) c.in_ok-answer_fault-in-Err.ensures.says)

pub returns-in_err-answer_totals-in-Ok-Totals-clause-rows : goal.returns-in_err-answer_totals-in-Ok-Totals-clause-rows
returns-in_err-answer_totals-in-Ok-Totals-clause-rows g c = AreAmong-refl c.args.caller.now.pass.rows

pub returns-in_ok-answer_totals-in-Ok-Totals-clause-rows : goal.returns-in_ok-answer_totals-in-Ok-Totals-clause-rows
returns-in_ok-answer_totals-in-Ok-Totals-clause-rows g c = AreAmong-refl c.args.caller.now.pass.rows

pub returns-in_err-answer_fault-in-Err-clause-rows : goal.returns-in_err-answer_fault-in-Err-clause-rows
returns-in_err-answer_fault-in-Err-clause-rows g c = AreAmong-refl c.args.caller.now.pass.rows

pub returns-in_ok-answer_fault-in-Err-clause-rows : goal.returns-in_ok-answer_fault-in-Err-clause-rows
returns-in_ok-answer_fault-in-Err-clause-rows g c = AreAmong-refl c.args.caller.now.pass.rows
