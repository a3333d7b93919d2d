use Rattle.std.proofs.Common.{◌≡◌, Err, None, is_some, sym, ap, ◌∙◌, subst}
use Rattle.serde_json.specs.Read.{read}
use Rattle.json_tape.specs.Ranges.{depths}
use Rattle.json_tape.specs.Views.{document_data}
use Rattle.json_tape.proofs.Ranges.{read-invalid}
use Rattle.json_tape.proofs.Texts.{data_at-accepted, read-unaccepted}
use Rattle.json_tape.proofs.document.Document.read.Goals as goal

pub returns-in-Err-Invalid : goal.returns-in-Err-Invalid
returns-in-Err-Invalid c =
    record {
      ok = tt;
      refused =
          λ _ _. subst (λ t. read t ≡ None) c.in-Ok.ensures.cases.0
          (read-invalid c.in-Ok.text.now
          (c.in-Err-Invalid.ensures.invalid (ap (λ e. Err e) c.in-Err-Invalid.field-0-is)));
    }

pub invariant_of-result : goal.invariant_of-result
invariant_of-result c =
    record {
      read =
          (data_at-accepted c.in-Ok.text.now c.in-Ok-parse.tape c.in-Ok-parse.ensures.ok.0 c.in-Ok-parse.ensures.ok.1
          c.in-Ok-parse.ensures.value
          (ap (λ ts. is_some (depths 0 ts)) (sym c.nodes.ensures.tokens) ∙ sym c.is_accepted.ensures
          ∙ c.if-is_accepted.true)).0;
    }

pub returns-then-is_accepted-clause-ok : goal.returns-then-is_accepted-clause-ok
unfolding document_data
returns-then-is_accepted-clause-ok c = (
  c.in-Ok.ensures.cases.1,
  ap read (sym c.in-Ok.ensures.cases.0)
      ∙ (data_at-accepted c.in-Ok.text.now c.in-Ok-parse.tape c.in-Ok-parse.ensures.ok.0 c.in-Ok-parse.ensures.ok.1
      c.in-Ok-parse.ensures.value
      (ap (λ ts. is_some (depths 0 ts)) (sym c.nodes.ensures.tokens) ∙ sym c.is_accepted.ensures
      ∙ c.if-is_accepted.true)).1,
)

pub returns-clause-refused : goal.returns-clause-refused
returns-clause-refused c =
    λ _ _. subst (λ t. read t ≡ None) c.in-Ok.ensures.cases.0
    (read-unaccepted c.in-Ok.text.now c.in-Ok-parse.tape c.in-Ok-parse.ensures.ok.0 c.in-Ok-parse.ensures.ok.1
    (ap (λ ts. is_some (depths 0 ts)) (sym c.nodes.ensures.tokens) ∙ sym c.is_accepted.ensures
    ∙ c.if-is_accepted.false))
