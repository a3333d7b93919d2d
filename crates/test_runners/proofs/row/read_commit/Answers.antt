use Rattle.std.proofs.Common.{◌≡◌, ℕ, sym, ap, ◌∙◌, take, arith}
use Rattle.std.proofs.lemmas.List.{length-take, take_min}
use Rattle.hex.proofs.HexLemmas.{decode_sized-ok}
use Rattle.test_runners.proofs.row.read_commit.Goals as goal

pub returns-in-Err-clause-none : goal.returns-in-Err-clause-none
returns-in-Err-clause-none c id e =
    let same : take c.min.result c.args.line.now ≡ take 40 c.args.line.now =
    ap (λ (n : ℕ). take n c.args.line.now) c.min.ensures ∙ take_min 40 c.args.line.now in
    let read = c.from_hex.ensures in
    let failed = c.in-Err.is in
    cc

pub returns-in-Ok-clause-long : goal.returns-in-Ok-clause-long
returns-in-Ok-clause-long c =
    let read = sym c.from_hex.ensures ∙ c.in-Ok.is in
    let long = decode_sized-ok (take c.min.result c.args.line.now) 20 c.in-Ok.bytes read in
    omega (arith, long, length-take c.min.result c.args.line.now)
