-- How a call of `drill` ends, by what was put.
use Rattle.std.proofs.Common.{◌≡◌, ⊎_elim, inl, inr, ℕ, List, subst}
use Rattle.farm_entry.specs.declared.entry.Entry.{Entry}
use Rattle.farm_drill.specs.Drilled.{IsDrilled}
use Rattle.farm_drill.specs.Line.{drill_line}
use Rattle.finder_commands.specs.DrillCommand.{DrillCompletes, DrillEnds, DrillPut}
use Rattle.outside_seen.specs.Outside.{OutputSeen}
use Rattle.finder_commands.specs.TextPut.{TextPut}
use Rattle.finder_commands.specs.RanOut.{RanOut}
use Rattle.finder_commands.specs.declared.status.Status.{Status}
use Rattle.finder_commands.proofs.Completing.{text-completes}

pub drill-put : (searches : ℕ) (H : List Entry) (text : List ℕ) (status : Status) (before after : OutputSeen)
    → IsDrilled searches H → text ≡ drill_line H → TextPut text status before after
    → DrillEnds searches status before after
drill-put searches H text status before after drilled is put = inr (record {
  history = H;
  drilled = drilled;
  text = subst (λ (t : List ℕ). TextPut t status before after) is put;
})

pub drill-completes : (searches : ℕ) (status : Status) (before after : OutputSeen)
    → DrillEnds searches status before after
    → DrillCompletes status before after
drill-completes searches status before after ends calm = ⊎_elim
    (λ (unread : RanOut status before after). inl unread.0)
    (λ (put : DrillPut searches status before after).
    text-completes (drill_line put.history) status before after put.text calm)
    ends
