use Rattle.std.proofs.Common.{sym, ap}
use Rattle.http_words.specs.declared.status_code.StatusCode.{StatusCode}
use Rattle.http_answers.specs.Answers.{status_line}
use Rattle.http_answers.specs.Lines.{content_type, length_name}
use Rattle.http_answers.specs.Pieces.{opening_of}
use Rattle.http_answers.proofs.status.opening.Goals as goal

pub returns-in-Ok : goal.returns-in-Ok
unfolding status_line content_type length_name
returns-in-Ok c = sym (ap (λ (s : StatusCode). opening_of (status_line s)) c.in-Ok.is)

pub returns-in-BadRequest : goal.returns-in-BadRequest
unfolding status_line content_type length_name
returns-in-BadRequest c = sym (ap (λ (s : StatusCode). opening_of (status_line s)) c.in-BadRequest.is)

pub returns-in-Forbidden : goal.returns-in-Forbidden
unfolding status_line content_type length_name
returns-in-Forbidden c = sym (ap (λ (s : StatusCode). opening_of (status_line s)) c.in-Forbidden.is)

pub returns-in-NotFound : goal.returns-in-NotFound
unfolding status_line content_type length_name
returns-in-NotFound c = sym (ap (λ (s : StatusCode). opening_of (status_line s)) c.in-NotFound.is)

pub returns-in-MethodNotAllowed : goal.returns-in-MethodNotAllowed
unfolding status_line content_type length_name
returns-in-MethodNotAllowed c = sym (ap (λ (s : StatusCode). opening_of (status_line s)) c.in-MethodNotAllowed.is)

pub returns-in-Conflict : goal.returns-in-Conflict
unfolding status_line content_type length_name
returns-in-Conflict c = sym (ap (λ (s : StatusCode). opening_of (status_line s)) c.in-Conflict.is)

pub returns-in-LengthRequired : goal.returns-in-LengthRequired
unfolding status_line content_type length_name
returns-in-LengthRequired c = sym (ap (λ (s : StatusCode). opening_of (status_line s)) c.in-LengthRequired.is)

pub returns-in-TooLarge : goal.returns-in-TooLarge
unfolding status_line content_type length_name
returns-in-TooLarge c = sym (ap (λ (s : StatusCode). opening_of (status_line s)) c.in-TooLarge.is)

pub returns-in-TooManyRequests : goal.returns-in-TooManyRequests
unfolding status_line content_type length_name
returns-in-TooManyRequests c = sym (ap (λ (s : StatusCode). opening_of (status_line s)) c.in-TooManyRequests.is)

pub returns-in-NotImplemented : goal.returns-in-NotImplemented
unfolding status_line content_type length_name
returns-in-NotImplemented c = sym (ap (λ (s : StatusCode). opening_of (status_line s)) c.in-NotImplemented.is)

pub returns-in-Unavailable : goal.returns-in-Unavailable
unfolding status_line content_type length_name
returns-in-Unavailable c = sym (ap (λ (s : StatusCode). opening_of (status_line s)) c.in-Unavailable.is)

pub returns-in-NoStorage : goal.returns-in-NoStorage
unfolding status_line content_type length_name
returns-in-NoStorage c = sym (ap (λ (s : StatusCode). opening_of (status_line s)) c.in-NoStorage.is)
