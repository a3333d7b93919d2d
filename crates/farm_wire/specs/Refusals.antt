-- Refusals and faults as JSON objects, of which the text that is sent is written.
use Rattle.std.specs.Prelude.{ℕ, List, [], ◌∷◌, codes}
use Rattle.serde_json.specs.Data.{Data, string}
use Rattle.suspect_range.specs.declared.fault.RangeFault.TheVariants as range
use Rattle.farm_entry.specs.declared.refusal.OpenFault.{OpenFault}
use Rattle.farm_entry.specs.declared.refusal.OpenFault.TheVariants as fault
use Rattle.farm_entry.specs.declared.refusal.Refusal.{Refusal}
use Rattle.farm_entry.specs.declared.refusal.Refusal.TheVariants as refusal
use Rattle.farm_wire.specs.Fields.{field_name}
use Rattle.farm_wire.specs.Members.{Named, object_with, standing_members, whole, wholes}
use Rattle.farm_wire.specs.declared.fault.WireFault.{WireFault}
use Rattle.farm_wire.specs.declared.fault.WireFault.TheVariants.{TooLong, BadJson, BadField, Memory}

-- the members of a refusal of a kind
abbrev pub refused_as : List ℕ → List Named → Data
refused_as kind members = object_with ((codes "refused", string kind) ∷ members)

-- why a search can't be opened, in a word
abbrev pub cause_word : OpenFault → List ℕ
cause_word (fault.Range range.NoSuspects) = codes "NoSuspects"
cause_word (fault.Range (range.TooManySuspects count)) = codes "TooManySuspects"
cause_word (fault.Range (range.WeightRange position)) = codes "WeightRange"
cause_word (fault.Range (range.CalmRange calm)) = codes "CalmRange"
cause_word (fault.Range range.Memory) = codes "Memory"
cause_word (fault.Range (range.RepeatedCommit position)) = codes "RepeatedCommit"
cause_word (fault.Rate rate) = codes "Rate"
cause_word (fault.Miss miss) = codes "Miss"
cause_word (fault.Bar bar) = codes "Bar"
cause_word (fault.Width width) = codes "Width"
cause_word (fault.Reruns reruns) = codes "Reruns"

-- the numbers at fault
abbrev pub cause_numbers : OpenFault → List ℕ
cause_numbers (fault.Range range.NoSuspects) = []
cause_numbers (fault.Range (range.TooManySuspects count)) = count ∷ []
cause_numbers (fault.Range (range.WeightRange position)) = position ∷ []
cause_numbers (fault.Range (range.CalmRange calm)) = calm ∷ []
cause_numbers (fault.Range range.Memory) = []
cause_numbers (fault.Range (range.RepeatedCommit position)) = position ∷ []
cause_numbers (fault.Rate rate) = rate.a ∷ rate.b ∷ []
cause_numbers (fault.Miss miss) = miss.c ∷ miss.d ∷ []
cause_numbers (fault.Bar bar) = bar.t ∷ bar.u ∷ []
cause_numbers (fault.Width width) = width ∷ []
cause_numbers (fault.Reruns reruns) = reruns ∷ []

unfoldable pub refusal_data : Refusal → Data
refusal_data (refusal.BadOpen cause) =
    refused_as (codes "BadOpen")
    ((codes "cause", string (cause_word cause)) ∷ (codes "value", wholes (cause_numbers cause)) ∷ [])
refusal_data (refusal.KeyClash place) = refused_as (codes "KeyClash") ((codes "place", whole place) ∷ [])
refusal_data refusal.Full = refused_as (codes "Full") []
refusal_data refusal.Closed = refused_as (codes "Closed") []
refusal_data refusal.TooManySearches = refused_as (codes "TooManySearches") []
refusal_data refusal.NoRun = refused_as (codes "NoRun") []
refusal_data (refusal.UnknownRun run) = refused_as (codes "UnknownRun") ((codes "run", whole run) ∷ [])
refusal_data (refusal.UnknownSearch search) = refused_as (codes "UnknownSearch") ((codes "search", whole search) ∷ [])
refusal_data (refusal.SearchEnded standing) = refused_as (codes "SearchEnded") (standing_members standing)
refusal_data refusal.NoRevert = refused_as (codes "NoRevert") []
refusal_data (refusal.DailyLimit day count) =
    refused_as (codes "DailyLimit") ((codes "day", whole day) ∷ (codes "count", whole count) ∷ [])

-- the faults of a line or of a body. Running out of memory is none of theirs, and has no text here
unfoldable pub fault_data : WireFault → Data
fault_data TooLong = refused_as (codes "TooLong") []
fault_data BadJson = refused_as (codes "BadJson") []
fault_data (BadField f) = refused_as (codes "BadField") ((codes "field", string (field_name f)) ∷ [])
fault_data Memory = object_with []
