use Rattle.std.proofs.Common.{sym, ap}
use Rattle.http_answers.specs.Faults.{fault_text}
use Rattle.http_answers.proofs.faults.fault_text.Goals as goal

pub returns-in-BadRequest : goal.returns-in-BadRequest
unfolding fault_text
returns-in-BadRequest c = sym (ap fault_text c.in-BadRequest.is)

pub returns-in-Foreign : goal.returns-in-Foreign
unfolding fault_text
returns-in-Foreign c = sym (ap fault_text c.in-Foreign.is)

pub returns-in-NotImplemented : goal.returns-in-NotImplemented
unfolding fault_text
returns-in-NotImplemented c = sym (ap fault_text c.in-NotImplemented.is)

pub returns-in-TooLarge : goal.returns-in-TooLarge
unfolding fault_text
returns-in-TooLarge c = sym (ap fault_text c.in-TooLarge.is)

pub returns-in-LengthRequired : goal.returns-in-LengthRequired
unfolding fault_text
returns-in-LengthRequired c = sym (ap fault_text c.in-LengthRequired.is)

pub returns-in-NotFound : goal.returns-in-NotFound
unfolding fault_text
returns-in-NotFound c = sym (ap fault_text c.in-NotFound.is)

pub returns-in-MethodNotAllowed : goal.returns-in-MethodNotAllowed
unfolding fault_text
returns-in-MethodNotAllowed c = sym (ap fault_text c.in-MethodNotAllowed.is)
