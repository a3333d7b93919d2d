-- The head that was read last.
use Rattle.std.specs.Prelude.{ℕ, ◌<◌, List, length}
use Rattle.http_requests.specs.Readings.{IsBodyAwaited}
use Rattle.http_requests.specs.declared.request.Request.{Request}

-- these bytes are a head which becomes this request, or there are none
abbrev pub IsLast : Request → List ℕ → Type 0
IsLast request bytes = 0 < length bytes → IsBodyAwaited request bytes
