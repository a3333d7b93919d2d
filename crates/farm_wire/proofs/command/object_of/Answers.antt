use Rattle.std.proofs.Common.{◌≡◌, None, Some, sym, ◌∙◌}
use Rattle.json_tape.specs.Views.{document_data}
use Rattle.json_tape.specs.declared.document.Unread.TheVariants.{Malformed, Memory}
use Rattle.farm_wire.proofs.JsonObjects.{object_in-none, object_in-some, object_of-short}
use Rattle.farm_wire.proofs.command.object_of.Goals as goal

pub returns-then-is_object-clause-read : goal.returns-then-is_object-clause-read
returns-then-is_object-clause-read c =
    object_of-short c.args.text.now (Some (document_data c.in-Ok.object)) c.if-text-gt-MAX_COMMAND_BYTES.false
    (object_in-some c.args.text.now (document_data c.in-Ok.object) c.in-Ok.ensures.ok.0 c.in-Ok.ensures.ok.1
    (sym c.is_object.ensures ∙ c.if-is_object.true))

pub returns-in-Err-Malformed-clause-refused : goal.returns-in-Err-Malformed-clause-refused
returns-in-Err-Malformed-clause-refused c =
    λ _. object_of-short c.args.text.now None c.if-text-gt-MAX_COMMAND_BYTES.false
    (object_in-none c.args.text.now
    (c.in-Err-Malformed.ensures.refused
    (λ memory. let clash : Malformed ≡ Memory = sym c.in-Err-Malformed.field-0-is ∙ memory in cc)))
