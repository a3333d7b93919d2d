-- The line of a finding.
use Rattle.std.specs.Prelude.{ℕ, List, ◌++◌, codes, decimal}
use Rattle.audit_check.specs.declared.finding.Finding.{Finding}
use Rattle.audit_check.specs.declared.finding.Finding.TheVariants.{Broken, Illegal, Legal, Long, Unborn}

abbrev pub finding_text : Finding → List ℕ
finding_text (Legal entries searches orders) =
    codes "legal entries " ++ decimal entries ++ codes " searches " ++ decimal searches ++ codes " orders " ++ decimal orders
finding_text Unborn = codes "unborn"
finding_text (Broken offset) = codes "broken at " ++ decimal offset
finding_text (Long entries) = codes "long " ++ decimal entries
finding_text (Illegal place) = codes "illegal at " ++ decimal place
