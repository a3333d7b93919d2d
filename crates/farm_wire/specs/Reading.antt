-- What a script line and the body of a request ask for: the command, or the first fault.
use Rattle.std.specs.Prelude.{ℕ, List, length, nat_lt, if◌then◌else◌, is_some, Option, Some, None, option_and_then}
use Rattle.std.specs.Prelude.{Result, Ok, Err}
use Rattle.std.specs.Option.{ok_or}
use Rattle.std.specs.Str.{is_utf8}
use Rattle.serde_json.specs.Data.{Data}
use Rattle.serde_json.specs.Find.{as_object, get}
use Rattle.serde_json.specs.Read.{read}
use Rattle.farm_types.specs.declared.moment.Moment.{Moment}
use Rattle.farm_entry.specs.declared.command.Command.{Command}
use Rattle.farm_entry.specs.declared.command.Command.TheVariants as command
use Rattle.farm_wire.specs.Fields.{field_name}
use Rattle.farm_wire.specs.Forms as form
use Rattle.farm_wire.specs.declared.fault.WireFault.{WireFault}
use Rattle.farm_wire.specs.declared.fault.WireFault.TheVariants.{TooLong, BadJson, BadField}
use Rattle.farm_wire.specs.declared.field.Field.{Field}
use Rattle.farm_wire.specs.declared.field.Field.TheVariants as field
use Rattle.farm_wire.specs.declared.limits.TheConstants.{MAX_COMMAND_BYTES}
use Rattle.http_words.specs.declared.route.Route.{Route}
use Rattle.http_words.specs.declared.route.Route.TheVariants as route
use Rattle.farm_wire.specs.declared.verb.Verb.{Verb}
use Rattle.farm_wire.specs.declared.verb.Verb.TheVariants as verb

-- what is made of what was read, or the fault in its place
abbrev pub and_then : {X Y : Type 0} → Result X WireFault → (X → Result Y WireFault) → Result Y WireFault
and_then (Ok x) make = make x
and_then (Err f) make = Err f

-- a value, where it is an object
abbrev pub only_object : Data → Option Data
only_object d = if is_some (as_object d) then Some d else None

-- the object that a text is, in JSON as serde_json reads it: in UTF-8, and nested to its limit
unfoldable pub object_in : List ℕ → Option Data
object_in text = if is_utf8 text then option_and_then only_object (read text) else None

-- the object that a command is read from
unfoldable pub object_of : List ℕ → Result Data WireFault
object_of text =
    if nat_lt MAX_COMMAND_BYTES (length text) then Err TooLong
    else ok_or (object_in text) BadJson

-- a field of an object in its form; it is bad where it is missing or has another form
unfoldable pub field_in : {X : Type 0} → Field → (Data → Option X) → Data → Result X WireFault
field_in f form json = ok_or (option_and_then form (get (field_name f) json)) (BadField f)

-- the miss rate, which is 0/1 where the field is missing
abbrev pub miss_of : Option Data → Option (ℕ × ℕ)
miss_of None = Some (0, 1)
miss_of (Some d) = form.fraction d

unfoldable pub miss_in : Data → Result (ℕ × ℕ) WireFault
miss_in json = ok_or (miss_of (get (field_name field.Miss) json)) (BadField field.Miss)

-- The fields of each command, in the order in which they are looked at.

unfoldable pub open_in : Data → Result Command WireFault
open_in json =
    and_then (field_in field.Key form.key json) (λ key.
    and_then (field_in field.Test form.name json) (λ test.
    and_then (field_in field.Base form.commit json) (λ base.
    and_then (field_in field.Suspects form.suspects json) (λ suspects.
    and_then (field_in field.Calm form.small json) (λ calm.
    and_then (field_in field.Rate form.fraction json) (λ rate.
    and_then (miss_in json) (λ miss.
    and_then (field_in field.Bar form.fraction json) (λ bar.
    and_then (field_in field.Width form.small json) (λ width.
    and_then (field_in field.Reruns form.small json) (λ reruns.
    Ok (command.Open (record {
      key = key;
      test = test;
      base = base;
      suspects = suspects;
      calm = calm;
      rate = rate;
      miss = miss;
      bar = bar;
      width = width;
      reruns = reruns;
    }))))))))))))

unfoldable pub lease_in : Data → Result Command WireFault
lease_in json =
    and_then (field_in field.Key form.key json) (λ key.
    and_then (field_in field.Worker form.name json) (λ worker.
    Ok (command.Lease key worker)))

-- a report of a run that is known
unfoldable pub report_in : (run : ℕ) → Data → Result Command WireFault
report_in run json = field_in field.Verdict (form.report run) json

-- the run of a report, and then the rest
unfoldable pub report_line_in : Data → Result Command WireFault
report_line_in json = and_then (field_in field.Run form.ordinal json) (λ run. report_in run json)

-- a cancel of a search that is known
unfoldable pub cancel_in : (search : ℕ) → Data → Result Command WireFault
cancel_in search json = and_then (field_in field.Key form.key json) (λ key. Ok (command.Cancel key search))

unfoldable pub cancel_line_in : Data → Result Command WireFault
cancel_line_in json =
    and_then (field_in field.Key form.key json) (λ key.
    and_then (field_in field.Search form.ordinal json) (λ search.
    Ok (command.Cancel key search)))

unfoldable pub revert_in : Data → Result Command WireFault
revert_in json =
    and_then (field_in field.Key form.key json) (λ key.
    and_then (field_in field.Agent form.name json) (λ agent.
    Ok (command.TakeRevert key agent)))

unfoldable pub search_in : Data → Result Command WireFault
search_in json = and_then (field_in field.Search form.ordinal json) (λ search. Ok (command.ShowSearch search))

unfoldable pub runs_in : Data → Result Command WireFault
runs_in json =
    and_then (field_in field.Search form.ordinal json) (λ search.
    and_then (field_in field.From form.ordinal json) (λ from.
    Ok (command.ShowRuns search from)))

unfoldable pub list_in : Data → Result Command WireFault
list_in json = and_then (field_in field.From form.ordinal json) (λ from. Ok (command.ShowSearches from))

-- the command that a line's object asks for
abbrev pub command_in : Verb → Data → Result Command WireFault
command_in verb.Open json = open_in json
command_in verb.Lease json = lease_in json
command_in verb.Report json = report_line_in json
command_in verb.Cancel json = cancel_line_in json
command_in verb.Revert json = revert_in json
command_in verb.Search json = search_in json
command_in verb.Farm json = Ok command.ShowFarm
command_in verb.Orders json = Ok command.ShowOrders
command_in verb.Runs json = runs_in json
command_in verb.List json = list_in json

-- A script line: its moment, then what it asks for, then the fields of that.
unfoldable pub line_reading : List ℕ → Result (Moment × Command) WireFault
line_reading line =
    and_then (object_of line) (λ json.
    and_then (field_in field.At form.moment json) (λ at.
    and_then (field_in field.Do form.verb json) (λ asked.
    and_then (command_in asked json) (λ what.
    Ok (at, what)))))

-- The body of a request on a route. What the path says isn't read from the body, and a route that shows has no body.
unfoldable pub body_reading : Route → List ℕ → Result Command WireFault
body_reading route.Open body = and_then (object_of body) open_in
body_reading route.Lease body = and_then (object_of body) lease_in
body_reading (route.Report run) body = and_then (object_of body) (report_in run)
body_reading (route.Cancel search) body = and_then (object_of body) (cancel_in search)
body_reading route.Revert body = and_then (object_of body) revert_in
body_reading (route.Search search) body = Ok (command.ShowSearch search)
body_reading route.Farm body = Ok command.ShowFarm
body_reading route.Orders body = Ok command.ShowOrders
body_reading (route.Runs search from) body = Ok (command.ShowRuns search from)
body_reading (route.List from) body = Ok (command.ShowSearches from)
