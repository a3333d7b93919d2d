-- The statuses of a farm's answers over HTTP (RFC 9110, section 15, and RFC 6585).
use Rattle.farm_entry.specs.declared.answer.Answer.{Answer}
use Rattle.farm_entry.specs.declared.answer.Answer.TheVariants.{Done, Refused}
use Rattle.farm_entry.specs.declared.refusal.Refusal.{Refusal}
use Rattle.farm_entry.specs.declared.refusal.Refusal.TheVariants as refusal
use Rattle.http_words.specs.declared.status_code.StatusCode.{StatusCode}
use Rattle.http_words.specs.declared.status_code.StatusCode.TheVariants as status

-- the status of a refusal
abbrev pub refusal_status : Refusal → StatusCode
refusal_status (refusal.BadOpen cause) = status.BadRequest
refusal_status (refusal.KeyClash place) = status.Conflict
refusal_status refusal.Full = status.Conflict
refusal_status refusal.Closed = status.Conflict
refusal_status refusal.TooManySearches = status.Conflict
refusal_status refusal.NoRun = status.Conflict
refusal_status (refusal.UnknownRun run) = status.NotFound
refusal_status (refusal.UnknownSearch search) = status.NotFound
refusal_status (refusal.SearchEnded standing) = status.Conflict
refusal_status refusal.NoRevert = status.Conflict
refusal_status (refusal.DailyLimit day count) = status.TooManyRequests

-- the status of an answer
abbrev pub answer_status : Answer → StatusCode
answer_status (Done reply) = status.Ok
answer_status (Refused cause) = refusal_status cause
