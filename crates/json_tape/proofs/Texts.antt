-- What the tape of a whole text holds.
use Rattle.std.proofs.Common.{◌≡◌, ℕ, List, true, false, Some, None, is_some, sym, ap, ◌∙◌}
use Rattle.json.specs.Token.{Token}
use Rattle.json.specs.Json.{Json, document}
use Rattle.json.specs.Lex.{tokens}
use Rattle.json.specs.Find.{BeginsWith}
use Rattle.serde_json.specs.Read.{read}
use Rattle.json_tape.specs.Places.{data_at}
use Rattle.json_tape.specs.Ranges.{depths}
use Rattle.json_tape.specs.Views.{known}
use Rattle.json_tape.proofs.Choices.{some_of}
use Rattle.json_tape.proofs.Places.{data_at-begins}
use Rattle.json_tape.proofs.Ranges.{read-accepted, read-refused}

module _ (text : List ℕ) (tape : List Token) (same : tape ≡ tokens text) (is : is_some (document text) ≡ true) where
  pub data_at-accepted : ((j : Json) → document text ≡ Some j → BeginsWith tape j) → is_some (depths 0 tape) ≡ true
      → (is_some (data_at tape) ≡ true) × (read text ≡ Some (known (data_at tape)))
  data_at-accepted begins accepted =
      let found = some_of (document text) is in
      let seen = read-accepted text found.0 found.1 (ap (λ ts. is_some (depths 0 ts)) (sym same) ∙ accepted) in
      let at : data_at tape ≡ Some seen.0 = data_at-begins tape found.0 (begins found.0 found.1) ∙ seen.1 in
      (ap is_some at, seen.2 ∙ ap (λ d. Some d) (sym (ap known at)))

  pub read-unaccepted : is_some (depths 0 tape) ≡ false → read text ≡ None
  read-unaccepted refused =
      let found = some_of (document text) is in
      read-refused text found.0 found.1 (ap (λ ts. is_some (depths 0 ts)) (sym same) ∙ refused)
