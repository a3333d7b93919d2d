-- Which entries have a spelling, and where some bytes stop being the spelling of entries.
use Rattle.std.specs.Prelude.{◌≡◌, ℕ, ◌^◌, ◌<◌, ◌≤◌, List, ◌++◌, length, take, drop, All, ⊤}
use Rattle.flake_rate.specs.Miss.{FitsRate}
use Rattle.farm_types.specs.Limits.{IsName}
use Rattle.suspect_range.specs.Range.{IsSuspectRange}
use Rattle.farm_entry.specs.declared.entry.Entry.{Entry}
use Rattle.farm_entry.specs.declared.entry.What.{What}
use Rattle.farm_entry.specs.declared.entry.What.TheVariants.{Founded, Opened, Leased, Reported, Skipped, Cancelled, Ordered, Carried, Closed}
use Rattle.weight_exact.specs.declared.limits.TheConstants.{MAX_WIDTH}
use Rattle.farm_entry.specs.declared.limits.TheConstants.{MAX_RERUNS}
use Rattle.farm_entry.specs.declared.opening.Opening.{Opening}
use Rattle.entry_codec.specs.declared.fault.CodecFault.{CodecFault}
use Rattle.entry_codec.specs.declared.fault.CodecFault.TheVariants.{Bad, Memory}
use Rattle.entry_codec.specs.Spelling.{entry_bytes, spelling}

-- what each opening of a legal history keeps to, beside what the types of its parts hold
pub record IsOpenedWithin (o : Opening) : Type 0 where
  pub miss : FitsRate o.miss o.rate
  pub width : (1 ≤ o.width) × (o.width ≤ MAX_WIDTH)
  pub reruns : (1 ≤ o.reruns) × (o.reruns ≤ MAX_RERUNS)

-- an entry is as in some legal history, so far as the types of its parts don't say so
abbrev pub IsWithinLimits : What → Type 0
IsWithinLimits (Opened o) = IsOpenedWithin o
IsWithinLimits _ = ⊤

-- an opening that can be spelled
pub record IsOpening (o : Opening) : Type 0 where
  pub key : o.key.0 < 2 ^ 128
  pub search : o.search < 2 ^ 32
  pub test : IsName o.test
  pub range : IsSuspectRange o.range.base o.range.suspects o.range.calm
  pub within : IsOpenedWithin o

-- each number fits its field, each name is one, and openings are as in legal histories
abbrev pub HasSpelling : What → Type 0
HasSpelling (Founded settings) = ⊤
HasSpelling (Opened o) = IsOpening o
HasSpelling (Leased key worker run search stage position deadline) =
    (key.0 < 2 ^ 128) × IsName worker × (run < 2 ^ 32) × (search < 2 ^ 32) × (position < 2 ^ 16) × (deadline < 2 ^ 64)
HasSpelling (Reported run verdict _) = run < 2 ^ 32
HasSpelling (Skipped run _) = run < 2 ^ 32
HasSpelling (Cancelled key search) = (key.0 < 2 ^ 128) × (search < 2 ^ 32)
HasSpelling (Ordered key agent order commit search day) =
    (key.0 < 2 ^ 128) × IsName agent × (order < 2 ^ 32) × (search < 2 ^ 32) × (day < 2 ^ 32)
HasSpelling (Carried commit day) = day < 2 ^ 32
HasSpelling Closed = ⊤

-- entries that have a spelling
abbrev pub AreSpelled : List Entry → Type 0
AreSpelled entries = All (λ entry. HasSpelling entry.what) entries

-- some bytes begin with no spelling of an entry
abbrev pub NoneBegins : List ℕ → Type 0
NoneBegins bytes = (entry : Entry) (rest : List ℕ) → HasSpelling entry.what → bytes ≡ entry_bytes entry ++ rest → ⊥

-- the bytes before an offset are the spelling of entries, and at the offset, which isn't the end, no other one begins
pub record IsBadAt (bytes : List ℕ) (offset : ℕ) : Type 0 where
  pub inside : offset < length bytes
  pub entries : List Entry
  pub spelled : AreSpelled entries
  pub before : take offset bytes ≡ spelling entries
  pub none_begins : NoneBegins (drop offset bytes)

-- what a fault says of some bytes; running out of memory says nothing
abbrev pub IsFaultOf : List ℕ → CodecFault → Type 0
IsFaultOf bytes (Bad offset) = IsBadAt bytes offset
IsFaultOf bytes Memory = ⊤

-- a fault is the one at an offset, unless memory ran out
abbrev pub IsBadOrMemory : (offset : ℕ) → CodecFault → Type 0
IsBadOrMemory offset (Bad found) = found ≡ offset
IsBadOrMemory offset Memory = ⊤
