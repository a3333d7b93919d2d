use Rattle.std.proofs.Common.{◌≡◌, take}
use Rattle.std.specs.Prelude.{string_bytes}
use Rattle.std.specs.List.{flat_map}
use Rattle.rates_report.specs.Tally.{tests_of}
use Rattle.rates_report.specs.RateLines.{rate_line}
use Rattle.rates_report.proofs.text.rates_text.Given as goal

abbrev pub invariant-loop-index : goal.invariant-loop-index
invariant-loop-index l = string_bytes l.text ≡ flat_map (rate_line l.history) (take l.index (tests_of l.history))
