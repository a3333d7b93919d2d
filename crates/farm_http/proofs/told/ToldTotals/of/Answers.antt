use Rattle.std.proofs.Common.{◌∙◌, refl}
use Rattle.farm_http.specs.Bytes.{request_bytes, said}
use Rattle.farm_http.proofs.Telling.{told-made}
use Rattle.farm_http.proofs.told.ToldTotals.of.Goals as goal

pub invariant_of-result : goal.invariant_of-result
invariant_of-result c = record {
  is = told-made c.args.request.now c.args.totals.now c.args.room c.put_said.new.output
      (request_bytes c.args.request.now (said c.plain-says.result)) c.as_bytes.result.now (said c.plain-says.result)
      c.in-Ok-put_said.ensures.done c.requires.empty refl
      c.plain-says.ensures (c.as_bytes.ensures.value ∙ c.in-Ok.ensures);
}
