-- The statuses of answers by their numbers.
use Rattle.std.specs.Prelude.{ℕ, Bool, ◌==◌, ◌||◌}
use Rattle.http_words.specs.declared.status_code.StatusCode.{StatusCode}
use Rattle.http_words.specs.declared.status_code.StatusCode.TheVariants.{BadRequest, Conflict, Forbidden, LengthRequired, MethodNotAllowed, NoStorage, NotFound, NotImplemented, TooLarge, TooManyRequests, Unavailable}
use Rattle.http_words.specs.declared.status_code.StatusCode.TheVariants as status

-- the number of a status (RFC 9110, section 15; 429 by RFC 6585, 507 by RFC 4918)
abbrev pub status_number : StatusCode → ℕ
status_number status.Ok = 200
status_number BadRequest = 400
status_number Forbidden = 403
status_number NotFound = 404
status_number MethodNotAllowed = 405
status_number Conflict = 409
status_number LengthRequired = 411
status_number TooLarge = 413
status_number TooManyRequests = 429
status_number NotImplemented = 501
status_number Unavailable = 503
status_number NoStorage = 507

-- a status that a request is lost with: the service's store failed, or it ran out of memory
abbrev pub is_lost_with : (status : ℕ) → Bool
is_lost_with status = status == status_number Unavailable || status == status_number NoStorage
