use Rattle.std.proofs.Common.{Err, ap, sym, ◌∙◌}
use Rattle.farm_handover.specs.Handover.{handed_over}
use Rattle.finder_commands.specs.InheritCommand.{NothingRead}
use Rattle.finder_commands.specs.Statuses.{status_of_handover, status_of_input}
use Rattle.outside_seen.specs.Outside.{input_seen}
use Rattle.finder_commands.proofs.Inheritings.{fault-carried, read-lines, unread-input, unread-lines}
use Rattle.finder_commands.proofs.inherit_command.read_orders.Goals as goal

pub returns-in_err-bytes-clause-unread : goal.returns-in_err-bytes-clause-unread
returns-in_err-bytes-clause-unread g c =
    let before = input_seen g.S.Source c.args.input.now in
    let after = input_seen g.S.Source c.read_input.new.input in
    let fault = c.in_err-bytes.field-0.0 in
    let fails = c.in_err-bytes.ensures in
    fault-carried (λ s. NothingRead s before after) _ (status_of_input fault) c.from_residual.ensures.1
    (unread-input before after fault (λ is. fails.at_limit (ap (λ f. Err f) is))
    (λ is. fails.rises (ap (λ f. Err f) is)))

pub returns-in_err-read_handover-clause-unread : goal.returns-in_err-read_handover-clause-unread
returns-in_err-read_handover-clause-unread g c =
    let before = input_seen g.S.Source c.args.input.now in
    let after = input_seen g.S.Source c.read_input.new.input in
    let fault = c.in_err-read_handover.field-0.0 in
    fault-carried (λ s. NothingRead s before after) _ (status_of_handover fault)
    c.from_residual-in_err-read_handover.ensures.1
    (unread-lines before after c.in_ok-bytes.bytes.items fault c.in_ok-bytes.ensures.whole
    (λ line is. ap handed_over (sym c.deref.ensures.value)
    ∙ c.in_err-read_handover.ensures.bad_input line (ap (λ f. Err f) is)))

pub returns-clause-read : goal.returns-clause-read
returns-clause-read g c =
    read-lines (input_seen g.S.Source c.args.input.now) (input_seen g.S.Source c.read_input.new.input)
    c.in_ok-bytes.bytes.items c.in_ok-read_handover.field-0.items c.in_ok-bytes.ensures.whole
    (ap handed_over (sym c.deref.ensures.value) ∙ c.in_ok-read_handover.ensures.read)
