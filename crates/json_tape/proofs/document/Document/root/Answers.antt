use Rattle.std.proofs.Common.{ap}
use Rattle.json_tape.specs.Places.{data_at}
use Rattle.json_tape.specs.Views.{data_of, document_data, known}
use Rattle.json_tape.proofs.document.Document.root.Goals as goal

pub returns : goal.returns
unfolding data_of document_data
returns c = ap (λ ts. known (data_at ts)) c.root-element.ensures.same
