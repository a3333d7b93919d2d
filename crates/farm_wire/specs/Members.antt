-- JSON objects as replies and refusals are made of them: their members stand in the order of the names' bytes.
use Rattle.std.specs.Prelude.{ℕ, List, [], ◌∷◌, map, codes, Option, Some, None}
use Rattle.serde_json.specs.Data.{Data, Members, array, no_members, number, object, put, string, unsigned}
use Rattle.serde_json.specs.View.{items_of}
use Rattle.farm_types.specs.CommitId.{id_digits}
use Rattle.farm_types.specs.declared.commit_id.CommitId.{CommitId}
use Rattle.farm_entry.specs.declared.standing.Standing.{Standing}
use Rattle.farm_entry.specs.declared.standing.Standing.TheVariants.{Searching, Verifying, Confirmed, Vindicated}
use Rattle.farm_entry.specs.declared.standing.Standing.TheVariants.{NoCulprit, Inconclusive, Cancelled}

-- a member, as its name and its value
abbrev pub Named : Type 0
Named = List ℕ × Data

-- members with one put among them, at the place of its name
unfoldable pub with_member : List ℕ → Data → Members → Members
with_member name value members = put name value members

-- members with others put among them
abbrev pub put_all : Members → List Named → Members
put_all members [] = members
put_all members (m ∷ more) = put_all (with_member m.0 m.1 members) more

-- the object with these members
abbrev pub object_with : List Named → Data
object_with members = object (put_all no_members members)

-- a whole number as a value
abbrev pub whole : ℕ → Data
whole n = number (unsigned n)

-- an array of whole numbers
abbrev pub wholes : List ℕ → Data
wholes numbers = array (items_of (map whole numbers))

-- the id of a commit as its digits
abbrev pub commit_value : CommitId → Data
commit_value commit = string (id_digits commit)

-- a member, where there is a value for it
abbrev pub where_some : {X : Type 0} → List ℕ → (X → Data) → Option X → List Named
where_some name value None = []
where_some name value (Some x) = (name, value x) ∷ []

-- an array of whole numbers as a member, where it isn't empty
abbrev pub where_any : List ℕ → List ℕ → List Named
where_any name [] = []
where_any name (n ∷ numbers) = (name, wholes (n ∷ numbers)) ∷ []

-- where a search stands, in a word
abbrev pub standing_word : Standing → List ℕ
standing_word Searching = codes "searching"
standing_word (Verifying culprit) = codes "verifying"
standing_word (Confirmed culprit) = codes "confirmed"
standing_word (Vindicated culprit) = codes "vindicated"
standing_word NoCulprit = codes "no culprit"
standing_word Inconclusive = codes "inconclusive"
standing_word Cancelled = codes "cancelled"

-- the position that a standing names
abbrev pub culprit_in : Standing → Option ℕ
culprit_in Searching = None
culprit_in (Verifying culprit) = Some culprit
culprit_in (Confirmed culprit) = Some culprit
culprit_in (Vindicated culprit) = Some culprit
culprit_in NoCulprit = None
culprit_in Inconclusive = None
culprit_in Cancelled = None

-- the members that say where a search stands
abbrev pub standing_members : Standing → List Named
standing_members s = (codes "standing", string (standing_word s)) ∷ where_some (codes "culprit") whole (culprit_in s)
