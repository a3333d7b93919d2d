-- The fields of a request's head.
use Rattle.std.specs.Prelude.{List, map}
use Rattle.httparse.specs.Grammar.{RequestHead}
use Rattle.httparse.specs.Spans.{name_and_value}
use Rattle.http_requests.specs.FieldTexts.{FieldText}

-- their names and values
abbrev pub fields_of : RequestHead → List FieldText
fields_of head = map name_and_value head.fields
