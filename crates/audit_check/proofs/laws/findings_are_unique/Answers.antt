use Rattle.audit_check.specs.Told.{told}
use Rattle.audit_check.proofs.Unique.{finding-unique}
use Rattle.audit_check.proofs.laws.findings_are_unique.Goals as goal

pub returns : goal.returns
returns c = λ bytes a b left right. finding-unique (told bytes) a b left right
