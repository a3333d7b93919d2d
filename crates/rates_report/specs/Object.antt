-- A JSON object in the making.
use Rattle.serde_json.specs.Data.{Members}
use Rattle.serde_json.specs.View.{members_view}
use Rattle.rates_report.specs.declared.object.LineObject.{LineObject}

-- its members, in the order of their names
abbrev pub members_in : LineObject → Members
members_in object = members_view object.members.entries
