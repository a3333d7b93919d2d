use Rattle.std.proofs.Common.{sym, ◌∙◌}
use Rattle.http_requests.proofs.Strides.{line-begins, line-first}
use Rattle.http_requests.proofs.stride.Stride.of.Goals as goal

pub returns-in-Line-clause-leads : goal.returns-in-Line-clause-leads
returns-in-Line-clause-leads c =
    let line = c.in_line.ensures in
    let begins = sym c.behind.ensures ∙ c.in-Line.is in
    line.leads ∙ line-begins c.args.place c.args.bytes.now _ c.in_line.result.count c.requires.some begins line.some

pub returns-in-Line-clause-first : goal.returns-in-Line-clause-first
returns-in-Line-clause-first c =
    let line = c.in_line.ensures in
    line-first c.args.place c.args.bytes.now _ c.in_line.result.count c.requires.some c.requires.no_end
    (sym c.behind.ensures ∙ c.in-Line.is) line.first
