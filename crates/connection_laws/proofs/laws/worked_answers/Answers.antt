use Rattle.std.proofs.Common.{refl}
use Rattle.std.specs.Fmt.{digits}
use Rattle.http_answers.specs.Answers.{closing_line, interim_bytes, methods_line, status_line}
use Rattle.http_answers.specs.Faults.{fault_text, memory_text, store_fault_text}
use Rattle.http_answers.specs.Lines.{content_type, length_name}
use Rattle.http_answers.specs.Pieces.{parts_joined}
use Rattle.connection_laws.specs.Answers.{item_bytes, response_bytes}
use Rattle.connection_laws.proofs.laws.worked_answers.Goals as goal

pub returns-clause-cut : goal.returns-clause-cut
unfolding closing_line interim_bytes methods_line status_line fault_text memory_text store_fault_text content_type
    length_name parts_joined item_bytes response_bytes digits
returns-clause-cut _ = refl

pub returns-clause-foreign : goal.returns-clause-foreign
unfolding closing_line interim_bytes methods_line status_line fault_text memory_text store_fault_text content_type
    length_name parts_joined item_bytes response_bytes digits
returns-clause-foreign _ = refl

pub returns-clause-head : goal.returns-clause-head
unfolding closing_line interim_bytes methods_line status_line fault_text memory_text store_fault_text content_type
    length_name parts_joined item_bytes response_bytes digits
returns-clause-head _ = refl

pub returns-clause-failed : goal.returns-clause-failed
unfolding closing_line interim_bytes methods_line status_line fault_text memory_text store_fault_text content_type
    length_name parts_joined item_bytes response_bytes digits
returns-clause-failed _ H ask = refl

pub returns-clause-unread : goal.returns-clause-unread
unfolding closing_line interim_bytes methods_line status_line fault_text memory_text store_fault_text content_type
    length_name parts_joined item_bytes response_bytes digits
returns-clause-unread _ = refl

pub returns-clause-unwritten : goal.returns-clause-unwritten
unfolding closing_line interim_bytes methods_line status_line fault_text memory_text store_fault_text content_type
    length_name parts_joined item_bytes response_bytes digits
returns-clause-unwritten _ H ask = refl
