use Rattle.std.proofs.Common.{ap, codes}
use Rattle.std.proofs.lemmas.Result.{IfOk-weaker}
use Rattle.hex.specs.Hex.{encode_lower}
use Rattle.serde_json.specs.Data.{object, string}
use Rattle.farm_wire.specs.Members.{whole}
use Rattle.farm_wire.specs.Replies.{log_data}
use Rattle.farm_wire.proofs.Objects.{onto}
use Rattle.farm_wire.proofs.page.log_object.Goals as goal

pub returns : goal.returns
unfolding log_data
returns c =
    IfOk-weaker c.with_bytes.result _ _
    (λ made h. ap object
    (onto (codes "entries") (string (encode_lower c.args.bytes.now)) h
    (onto (codes "from") (whole c.args.from) c.in_ok-with_number.ensures
    (onto (codes "reply") (string (codes "log")) c.in_ok-with_text.ensures c.new.ensures))))
    c.with_bytes.ensures
