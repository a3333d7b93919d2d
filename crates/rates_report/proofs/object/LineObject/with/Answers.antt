use Rattle.std.proofs.Common.{◌≡◌, false, subst, sym}
use Rattle.serde_json.specs.Data.{Members}
use Rattle.serde_json.specs.View.{members_view, view}
use Rattle.serde_json.specs.Written.{members_have_float}
use Rattle.farm_wire.proofs.Objects.{members_have_float-put}
use Rattle.farm_wire.specs.Members.{with_member}
use Rattle.rates_report.proofs.object.LineObject.with.Goals as goal

pub invariant_of-result : goal.invariant_of-result
invariant_of-result c = record {
  no_float =
      subst (λ (ms : Members). members_have_float ms ≡ false) (sym c.in_ok-put.ensures.ok)
      (members_have_float-put c.args.name.now (view c.args.value) (members_view c.args.self.members.entries) c.requires
      c.args.self.no_float);
}

pub returns : goal.returns
unfolding with_member
returns c = c.in_ok-put.ensures.ok
