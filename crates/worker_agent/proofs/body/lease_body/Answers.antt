use Rattle.std.proofs.Common.{◌≡◌, ℕ, List, IfOk, string_bytes, subst}
use Rattle.serde_json.specs.Written.{compact_text}
use Rattle.worker_agent.specs.Requests.{key_text, lease_data}
use Rattle.worker_agent.proofs.body.lease_body.Goals as goal

pub returns : goal.returns
returns c =
    let digits : c.encode_lower-digits.result.now ≡ key_text c.args.key = cc in
    subst
    (λ (d : List ℕ). IfOk c.lease_text.result (λ text. string_bytes text ≡ compact_text (lease_data d c.args.worker.now)))
    digits c.lease_text.ensures
