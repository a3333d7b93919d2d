use Rattle.std.proofs.Common.{subst, sym}
use Rattle.std.specs.Str.{IsUtf8}
use Rattle.http_requests.proofs.TextCuts.{path-text}
use Rattle.http_requests.proofs.path.path_of.Goals as goal

pub returns-clause-text : goal.returns-clause-text
returns-clause-text c = subst IsUtf8 (sym c.path_bytes.ensures) (path-text c.args.target.now c.requires)
