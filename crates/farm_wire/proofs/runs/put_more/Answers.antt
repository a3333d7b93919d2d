use Rattle.std.proofs.Common.{◌∙◌, ◌++◌, codes, ap}
use Rattle.std.proofs.lemmas.Result.{on_ok_weaker}
use Rattle.serde_json.specs.Written.{compact_text}
use Rattle.farm_entry.specs.declared.run_page.RunLine.{RunLine}
use Rattle.farm_wire.specs.Replies.{run_data}
use Rattle.farm_wire.proofs.WrittenItems.{items-all, items-next}
use Rattle.farm_wire.proofs.runs.put_more.Goals as goal

pub loop-line-preserved : goal.loop-line-preserved
loop-line-preserved c =
    let l = c.loop-line in
    items-next run_data l.out c.put_run.new.out c.args.lines.now l.line-index c.line-item.result
    c.loop-line-test.true
    (c.in_ok-put_run.ensures
    ∙ ap (λ (line : RunLine). l.out ++ (codes "," ++ compact_text (run_data line))) c.line-item.is)
    ∙ l.invariant

pub returns : goal.returns
returns c =
    on_ok_weaker c.put.result
    (λ put. items-all run_data c.args.out.now c.loop-line.out c.put.new.self c.args.lines.now c.loop-line.line-index
    c.loop-line-test.false c.loop-line.invariant put)
    c.put.ensures
