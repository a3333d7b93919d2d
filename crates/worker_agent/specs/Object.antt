-- A JSON object in the making.
use Rattle.serde_json.specs.Data.{Members}
use Rattle.serde_json.specs.View.{members_view}
use Rattle.worker_agent.specs.declared.object.TextObject.{TextObject}

-- its members, in the order of their names
abbrev pub members_in : TextObject → Members
members_in object = members_view object.members.entries
