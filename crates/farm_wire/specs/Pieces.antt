-- Pieces that texts of replies are written of.
use Rattle.std.specs.Prelude.{ℕ, List, [], ◌∷◌, ◌++◌, codes, decimal, map, true, Option, Some, None}
use Rattle.json.specs.Print.{quoted}
use Rattle.serde_json.specs.Data.{Data, array}
use Rattle.serde_json.specs.View.{items_of}
use Rattle.serde_json.specs.Written.{compact_text, items_text}
use Rattle.farm_entry.specs.declared.run_page.RunReport.{RunReport}
use Rattle.farm_types.specs.CommitId.{id_digits}
use Rattle.farm_types.specs.Moment.{moment_ms}
use Rattle.farm_types.specs.declared.commit_id.CommitId.{CommitId}
use Rattle.farm_wire.specs.Members.{wholes}
use Rattle.farm_wire.specs.Replies.{outcome_fate, outcome_verdict}

-- a number behind a piece, where there is one
abbrev pub number_piece : List ℕ → Option ℕ → List ℕ
number_piece piece None = []
number_piece piece (Some n) = piece ++ decimal n

-- an array of numbers behind a piece, where it isn't empty
abbrev pub numbers_piece : List ℕ → List ℕ → List ℕ
numbers_piece piece [] = []
numbers_piece piece (n ∷ numbers) = piece ++ compact_text (wholes (n ∷ numbers))

-- the id of a commit between quotes behind a piece, where there is one
abbrev pub commit_piece : List ℕ → Option CommitId → List ℕ
commit_piece piece None = []
commit_piece piece (Some commit) = piece ++ quoted (id_digits commit)

-- what stands before what became of a run, behind a culprit, if there is one
abbrev pub fate_name : Option ℕ → List ℕ
fate_name None = codes "{\"fate\":"
fate_name (Some culprit) = codes ",\"fate\":"

-- what stands before the number of runs that count, behind a commit, if there is one
abbrev pub counted_name : Option CommitId → List ℕ
counted_name None = codes "{\"counted\":"
counted_name (Some commit) = codes ",\"counted\":"

-- what the report of a run did, where there is a report
abbrev pub fate_piece : Option RunReport → List ℕ
fate_piece None = []
fate_piece (Some report) = codes ",\"fate\":" ++ quoted (outcome_fate report.outcome)

-- when a run was reported, where it was
abbrev pub reported_piece : Option RunReport → List ℕ
reported_piece None = []
reported_piece (Some report) = codes ",\"reported\":" ++ decimal (moment_ms report.at)

-- what was reported of a run, where something was
abbrev pub verdict_piece : Option RunReport → List ℕ
verdict_piece None = []
verdict_piece (Some report) = codes ",\"verdict\":" ++ quoted (outcome_verdict report.outcome)

-- items as an array
abbrev pub array_text : {A : Type 0} → (A → Data) → List A → List ℕ
array_text value items = compact_text (array (items_of (map value items)))

-- what an array goes on with, behind some of its items
abbrev pub array_on : {A : Type 0} → (A → Data) → List A → List ℕ
array_on value items = items_text true (items_of (map value items))

-- numbers, each behind a comma
abbrev pub behind_commas : List ℕ → List ℕ
behind_commas [] = []
behind_commas (n ∷ numbers) = codes "," ++ (decimal n ++ behind_commas numbers)
