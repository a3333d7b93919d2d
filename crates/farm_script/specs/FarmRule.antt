-- How a farm answers a line of a script.
use Rattle.std.specs.Prelude.{ℕ, List, Result, Ok, Err}
use Rattle.serde_json.specs.Written.{compact_text}
use Rattle.farm_types.specs.declared.moment.Moment.{Moment}
use Rattle.farm_entry.specs.Decision.{decide}
use Rattle.farm_entry.specs.Playing.{after}
use Rattle.farm_entry.specs.declared.command.Command.{Command}
use Rattle.farm_entry.specs.declared.entry.Entry.{Entry}
use Rattle.farm_wire.specs.Answers.{decision_text}
use Rattle.farm_wire.specs.Reading.{line_reading}
use Rattle.farm_wire.specs.Refusals.{fault_data}
use Rattle.farm_wire.specs.declared.fault.WireFault.{WireFault}
use Rattle.farm_script.specs.Script.{Rule, history_of, text_of}
use Rattle.farm_script.specs.Lines.{lines}

-- what a line is answered that was read so, and the history after it: a line with a fault gets its refusal, and any
-- other is decided at the moment that it says
abbrev pub read_rule : List Entry → Result (Moment × Command) WireFault → List ℕ × List Entry
read_rule H (Err fault) = (compact_text (fault_data fault), H)
read_rule H (Ok asked) = (decision_text H (decide H asked.1 asked.0), after H (decide H asked.1 asked.0))

-- what a farm answers to a line, and its history after it
unfoldable pub farm_rule : Rule Entry
farm_rule H line = read_rule H (line_reading line)

-- what a script puts out in all, from a history
abbrev pub script_text : List Entry → List ℕ → List ℕ
script_text H bytes = text_of farm_rule H (lines bytes)

-- the history that a script leaves, from a history
abbrev pub script_history : List Entry → List ℕ → List Entry
script_history H bytes = history_of farm_rule H (lines bytes)
