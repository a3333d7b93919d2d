-- The history that the bytes of a journal stand for.
use Rattle.std.specs.Prelude.{◌≡◌, ℕ, List, map}
use Rattle.std.specs.List.{flat_map}
use Rattle.farm_journal.specs.Layout.{holds, opens}
use Rattle.entry_codec.specs.Grammar.{AreSpelled}
use Rattle.entry_codec.specs.Spelling.{spelling}
use Rattle.farm_entry.specs.Legal.{IsLegal}
use Rattle.farm_entry.specs.declared.entry.Entry.{Entry}

-- the entries of all parts, one part after the other
abbrev pub joined : List (List Entry) → List Entry
joined parts = flat_map (λ part. part) parts

-- these payloads spell these entries, each payload a part of them
pub record Spells (payloads : List (List ℕ)) (H : List Entry) : Type 0 where
  pub parts : List (List Entry)
  pub each : payloads ≡ map spelling parts
  pub whole : joined parts ≡ H
  pub spelled : AreSpelled H

-- the bytes of a journal stand for a history: it is legal, and the payloads spell it
pub record StandsFor (H : List Entry) (bytes : List ℕ) : Type 0 where
  pub payloads : List (List ℕ)
  pub opened : opens bytes ≡ holds payloads
  pub spells : Spells payloads H
  pub legal : IsLegal H
