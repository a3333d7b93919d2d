-- How the faults of requests are answered.
use Rattle.std.specs.Prelude.{ℕ, List, codes, Option, Some, None}
use Rattle.http_words.specs.declared.status_code.StatusCode.{StatusCode}
use Rattle.http_words.specs.declared.status_code.StatusCode.TheVariants as status
use Rattle.http_words.specs.declared.fault.Allow.{Allow}
use Rattle.http_words.specs.declared.fault.Fault.{Fault}
use Rattle.http_words.specs.declared.fault.Fault.TheVariants as fault
use Rattle.http_words.specs.declared.fault.PathField.{PathField}
use Rattle.http_words.specs.declared.fault.PathField.TheVariants as field

-- the body of the answer to a path whose number isn't one
unfoldable pub bad_field_text : PathField → List ℕ
bad_field_text field.Run = codes "{\"field\":\"run\",\"refused\":\"BadField\"}"
bad_field_text field.Search = codes "{\"field\":\"search\",\"refused\":\"BadField\"}"
bad_field_text field.From = codes "{\"field\":\"from\",\"refused\":\"BadField\"}"

-- the body of the answer to a fault
unfoldable pub fault_text : Fault → List ℕ
fault_text fault.BadRequest = codes "{\"refused\":\"BadRequest\"}"
fault_text fault.Foreign = codes "{\"refused\":\"Foreign\"}"
fault_text fault.NotImplemented = codes "{\"refused\":\"NotImplemented\"}"
fault_text fault.TooLarge = codes "{\"refused\":\"TooLarge\"}"
fault_text fault.LengthRequired = codes "{\"refused\":\"LengthRequired\"}"
fault_text fault.NotFound = codes "{\"refused\":\"NotFound\"}"
fault_text (fault.MethodNotAllowed methods) = codes "{\"refused\":\"MethodNotAllowed\"}"
fault_text (fault.BadField name) = bad_field_text name

-- the body of an answer whose command's entry the store couldn't take
unfoldable pub store_fault_text : List ℕ
store_fault_text = codes "{\"refused\":\"StoreFault\"}"

-- the body of an answer for which memory ran out
unfoldable pub memory_text : List ℕ
memory_text = codes "{\"refused\":\"Memory\"}"

-- its status
abbrev pub fault_status : Fault → StatusCode
fault_status fault.BadRequest = status.BadRequest
fault_status fault.Foreign = status.Forbidden
fault_status fault.NotImplemented = status.NotImplemented
fault_status fault.TooLarge = status.TooLarge
fault_status fault.LengthRequired = status.LengthRequired
fault_status fault.NotFound = status.NotFound
fault_status (fault.MethodNotAllowed methods) = status.MethodNotAllowed
fault_status (fault.BadField name) = status.BadRequest

-- the methods that it names
abbrev pub fault_allow : Fault → Option Allow
fault_allow fault.BadRequest = None
fault_allow fault.Foreign = None
fault_allow fault.NotImplemented = None
fault_allow fault.TooLarge = None
fault_allow fault.LengthRequired = None
fault_allow fault.NotFound = None
fault_allow (fault.MethodNotAllowed methods) = Some methods
fault_allow (fault.BadField name) = None
