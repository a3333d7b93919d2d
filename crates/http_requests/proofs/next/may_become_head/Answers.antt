use Rattle.http_requests.proofs.Read.{never-whole, whole-HasHead}
use Rattle.http_requests.proofs.next.may_become_head.Goals as goal

pub unreachable-requires : goal.unreachable-requires
unreachable-requires g c =
    let at = c.in-Head.ensures.says in
    c.requires.none at.head (whole-HasHead c.args.bytes.now c.in-Head.field-0 c.requires.few at)

pub returns-in-Never-clause-never : goal.returns-in-Never-clause-never
returns-in-Never-clause-never g c same ended =
    never-whole ended c.args.bytes.now c.requires.few c.in-Never.ensures.says
