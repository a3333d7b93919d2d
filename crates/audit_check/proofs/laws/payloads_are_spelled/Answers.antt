use Rattle.std.proofs.Common.{length, arith}
use Rattle.std.proofs.lemmas.List.Elements.{All-from_recursion, recursion_from_All}
use Rattle.entry_codec.specs.Spelling.{spelling}
use Rattle.entry_codec.proofs.EntryLaws.{IsSpelled}
use Rattle.audit_check.proofs.Spelled.{read-spelled, spelled-read}
use Rattle.audit_check.proofs.laws.payloads_are_spelled.Goals as goal

pub returns-clause-read : goal.returns-clause-read
returns-clause-read c = λ payload H fits read.
    let h = read-spelled (length payload) payload H fits read in (All-from_recursion IsSpelled H h.0, h.1)

pub returns-clause-again : goal.returns-clause-again
returns-clause-again c = λ H spelled. spelled-read (length (spelling H)) H (recursion_from_All IsSpelled H spelled) (omega arith)
