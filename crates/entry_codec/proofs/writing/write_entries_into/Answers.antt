use Rattle.std.proofs.Common.{◌∙◌}
use Rattle.entry_codec.proofs.ListLaws.{spells_one, writes_one}
use Rattle.entry_codec.proofs.writing.write_entries_into.Goals as goal

pub loop-entry-preserved : goal.loop-entry-preserved
loop-entry-preserved c =
    let entries = c.args.entries.now in
    let index = c.loop-entry.entry-index in
    let so_far = c.loop-entry.invariant in
    record {
      spelled = c.in_ok-put_entry.ensures.bytes
          ∙ writes_one entries index c.loop-entry.out.items c.entry-item.result c.loop-entry-test.true c.entry-item.is
          so_far.spelled;
      readable = spells_one entries index c.loop-entry.out.items c.entry-item.result c.loop-entry-test.true
          c.entry-item.is so_far.readable
          c.in_ok-put_entry.ensures.spelled;
    }
