-- The names of the members that a command is read from.
use Rattle.std.specs.Prelude.{ℕ, List, codes}
use Rattle.farm_wire.specs.declared.field.Field.{Field}
use Rattle.farm_wire.specs.declared.field.Field.TheVariants as field

-- the name of a field
abbrev pub field_name : Field → List ℕ
field_name field.At = codes "at"
field_name field.Do = codes "do"
field_name field.Key = codes "key"
field_name field.Test = codes "test"
field_name field.Worker = codes "worker"
field_name field.Agent = codes "agent"
field_name field.Base = codes "base"
field_name field.Suspects = codes "suspects"
field_name field.Calm = codes "calm"
field_name field.Width = codes "width"
field_name field.Reruns = codes "reruns"
field_name field.Rate = codes "rate"
field_name field.Miss = codes "miss"
field_name field.Bar = codes "bar"
field_name field.Run = codes "run"
field_name field.Search = codes "search"
field_name field.Verdict = codes "verdict"
field_name field.From = codes "from"
