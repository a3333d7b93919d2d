-- The line of what is found of a journal's bytes.
use Rattle.std.specs.Prelude.{◌≡◌, ℕ, List, ◌++◌, codes}
use Rattle.audit_check.specs.Line.{finding_text}
use Rattle.audit_check.specs.Verdict.{IsFinding}
use Rattle.audit_check.specs.declared.finding.Finding.{Finding}

-- a text is the line of the finding on bytes, with its line feed
pub record IsAuditLine (bytes text : List ℕ) : Type 0 where
  pub finding : Finding
  pub found : IsFinding bytes finding
  pub line : text ≡ finding_text finding ++ codes "\n"
