use Rattle.std.proofs.Common.{sym, ap}
use Rattle.http_answers.specs.Faults.{bad_field_text}
use Rattle.http_answers.proofs.faults.bad_field_text.Goals as goal

pub returns-in-Run : goal.returns-in-Run
unfolding bad_field_text
returns-in-Run c = sym (ap bad_field_text c.in-Run.is)

pub returns-in-Search : goal.returns-in-Search
unfolding bad_field_text
returns-in-Search c = sym (ap bad_field_text c.in-Search.is)

pub returns-in-From : goal.returns-in-From
unfolding bad_field_text
returns-in-From c = sym (ap bad_field_text c.in-From.is)
