use Rattle.std.proofs.Common.{◌≡◌, ◌++◌, take}
use Rattle.std.specs.Prelude.{string_bytes}
use Rattle.farm_entry.specs.History.{openings}
use Rattle.farm_entry.specs.Pages.{totals}
use Rattle.farm_entry.specs.declared.reply.Reply.TheVariants as reply
use Rattle.farm_script.specs.Shown.{shown_line, shown_searches}
use Rattle.farm_script.proofs.shown.shown_text.Given as goal

abbrev pub invariant-loop-before : goal.invariant-loop-before
invariant-loop-before g l =
    record {
      kept : l.store ≡ l.fn.store;
      text : string_bytes l.text
          ≡ shown_line (reply.Farm (totals l.fn.store.history))
          ++ shown_searches l.fn.store.history (take l.before (openings l.fn.store.history));
    }
