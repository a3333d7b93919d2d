-- A script leaves a legal history where it began with one.
use Rattle.std.proofs.Common.{◌≡◌, ◌≢◌, ◌++◌, ◌∷◌, ◌∙◌, ℕ, List, [], Result, Ok, Err, ap, refl, subst, sym, take}
use Rattle.std.proofs.lemmas.List.{append-nil}
use Rattle.farm_types.specs.declared.moment.Moment.{Moment}
use Rattle.farm_entry.specs.Decision.{decide}
use Rattle.farm_entry.specs.Legal.{IsLegal, IsNext}
use Rattle.farm_entry.specs.Playing.{after}
use Rattle.farm_entry.specs.declared.command.Command.{Command}
use Rattle.farm_entry.specs.declared.decision.Decision.{Decision}
use Rattle.farm_entry.specs.declared.decision.Decision.TheVariants.{New, Refuse, Repeat, Show}
use Rattle.farm_entry.specs.declared.entry.Entry.{Entry}
use Rattle.farm_laws.proofs.Induct.{IsLegal-push}
use Rattle.farm_laws.proofs.Recorded.{recorded}
use Rattle.farm_wire.specs.Reading.{line_reading}
use Rattle.farm_wire.specs.declared.fault.WireFault.{WireFault}
use Rattle.farm_script.specs.FarmRule.{farm_rule, read_rule}
use Rattle.farm_script.specs.Lines.{counted_lines, ended_lines, lines}
use Rattle.farm_script.specs.RunEnds.{RunEnds, Seen}
use Rattle.farm_script.specs.Script.{history_of, next_history}
use Rattle.farm_script.specs.declared.run_end.RunEnd.{RunEnd}
use Rattle.farm_script.specs.declared.run_end.RunEnd.TheVariants.{Done, InputLimit, Memory, ReadFault, StoreFault}
use Rattle.farm_script.specs.declared.run_end.RunEnd.TheVariants.{WriteFault}

-- what a decision adds may come next
after-legal : (H : List Entry) (d : Decision) → IsLegal H → ((e : Entry) → d ≡ New e → IsNext H e) → IsLegal (after H d)
after-legal H (Refuse cause) legal next = legal
after-legal H (Repeat place) legal next = legal
after-legal H (Show page) legal next = legal
after-legal H (New e) legal next = IsLegal-push H e legal (next e refl)

read-legal : (H : List Entry) (reading : Result (Moment × Command) WireFault) → IsLegal H
    → IsLegal ((read_rule H reading).1)
read-legal H (Err fault) legal = legal
read-legal H (Ok asked) legal =
    after-legal H (decide H asked.1 asked.0) legal (λ e is. recorded H asked.1 asked.0 e is)

-- one line
next-legal : (H : List Entry) (line : List ℕ) → IsLegal H → IsLegal (next_history farm_rule H line)
unfolding farm_rule
next-legal H line legal = read-legal H (line_reading line) legal

-- all lines
pub history-legal : (H : List Entry) (answered : List (List ℕ)) → IsLegal H → IsLegal (history_of farm_rule H answered)
history-legal H [] legal = legal
history-legal H (line ∷ others) legal = history-legal (next_history farm_rule H line) others (next-legal H line legal)

-- where nothing is pending
lines-legal : (first now pending : List Entry) (answered : List (List ℕ)) → now ≡ history_of farm_rule first answered
    → pending ≡ [] → IsLegal first → IsLegal (now ++ pending)
lines-legal first now pending answered is none legal =
    subst IsLegal (sym (ap (λ (p : List Entry). now ++ p) none ∙ append-nil now ∙ is))
    (history-legal first answered legal)

-- a run leaves a legal history, with what a fault of the store left undecided too
pub run-legal : (end : RunEnd) (before after : Seen Entry) → RunEnds farm_rule end before after
    → (end ≢ StoreFault → after.pending ≡ []) → IsLegal before.history → IsLegal (after.history ++ after.pending)
run-legal Done before after ends decided legal =
    lines-legal before.history after.history after.pending (lines ends.0) ends.3.history
    (decided (λ is. absurd (cc))) legal
run-legal ReadFault before after ends decided legal =
    lines-legal before.history after.history after.pending (ended_lines ends.1.0) ends.1.2.history
    (decided (λ is. absurd (cc))) legal
run-legal WriteFault before after ends decided legal =
    lines-legal before.history after.history after.pending (take ends.1.3.n (counted_lines ends.1.1 ends.1.0))
    ends.1.3.history (decided (λ is. absurd (cc))) legal
run-legal StoreFault before after ends decided legal =
    let failed = ends.3 in
    let so_far : IsLegal after.history =
    subst IsLegal (sym failed.answered.history) (history-legal before.history failed.done legal) in
    subst IsLegal (sym failed.undecided.all) (next-legal after.history failed.line so_far)
run-legal Memory before after ends decided legal =
    lines-legal before.history after.history after.pending (take ends.3.n (counted_lines ends.1 ends.0)) ends.3.history
    (decided (λ is. absurd (cc))) legal
run-legal InputLimit before after ends decided legal =
    lines-legal before.history after.history after.pending (ended_lines ends.0) ends.3.history
    (decided (λ is. absurd (cc))) legal
