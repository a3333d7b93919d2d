-- What is found of a journal's bytes: whether they stand for a history that a farm can have, and else where they fail.
use Rattle.std.specs.Prelude.{◌≡◌, ℕ, ◌<◌, ◌≤◌, List, length, Some}
use Rattle.farm_entry.specs.History.{openings, order_lines}
use Rattle.farm_entry.specs.Legal.{IsLegal}
use Rattle.farm_entry.specs.declared.entry.Entry.{Entry}
use Rattle.plain_farm.specs.Stops.{IsFirstIllegal}
use Rattle.audit_check.specs.Told.{Told, broken, entries, told, unborn}
use Rattle.audit_check.specs.declared.finding.Finding.{Finding}
use Rattle.audit_check.specs.declared.finding.Finding.TheVariants.{Broken, Illegal, Legal, Long, Unborn}
use Rattle.audit_check.specs.declared.finding.TheConstants.{MAX_AUDITED}

-- The finding on entries: there are too many to be gone through; or the first that may not stand where it does is that
-- at a place, so that the entries up to it are the shortest that are no legal history; or they are one, with so many
-- entries, searches and orders
abbrev pub IsFindingOn : List Entry → Finding → Type 0
IsFindingOn H Unborn = ⊥
IsFindingOn H (Broken o) = ⊥
IsFindingOn H (Long e) = (MAX_AUDITED < length H) × (e ≡ length H)
IsFindingOn H (Illegal place) = (length H ≤ MAX_AUDITED) × IsFirstIllegal H (Some place)
IsFindingOn H (Legal e searches orders) =
    (length H ≤ MAX_AUDITED) × IsLegal H
    × (e ≡ length H) × (searches ≡ length (openings H)) × (orders ≡ length (order_lines H))

-- the finding on what bytes tell
abbrev pub IsFindingBy : Told → Finding → Type 0
IsFindingBy unborn finding = finding ≡ Unborn
IsFindingBy (broken o) finding = finding ≡ Broken o
IsFindingBy (entries H) finding = IsFindingOn H finding

-- the finding on bytes
abbrev pub IsFinding : List ℕ → Finding → Type 0
IsFinding bytes finding = IsFindingBy (told bytes) finding
