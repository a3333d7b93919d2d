use Rattle.std.proofs.Common.{◌≡◌, false, subst, sym, refl, ap, ◌∙◌}
use Rattle.serde_json.specs.Data.{Data, Members, put}
use Rattle.serde_json.specs.View.{members_view, view}
use Rattle.serde_json.specs.Written.{has_float, members_have_float}
use Rattle.farm_wire.proofs.Objects.{members_have_float-put}
use Rattle.farm_wire.specs.Members.{with_member}
use Rattle.worker_agent.proofs.object.TextObject.with.Goals as goal

pub invariant_of-result : goal.invariant_of-result
invariant_of-result c = record {
  no_float =
      subst (λ (ms : Members). members_have_float ms ≡ false) (sym c.in_ok-put.ensures.ok)
      (members_have_float-put c.args.name.now (view c.in_ok-value.value) (members_view c.args.self.members.entries)
      (subst (λ (d : Data). has_float d ≡ false) (sym c.in_ok-value.ensures) refl)
      c.args.self.no_float);
}

pub returns : goal.returns
unfolding with_member
returns c =
    c.in_ok-put.ensures.ok
    ∙ ap (λ (d : Data). put c.args.name.now d (members_view c.args.self.members.entries)) c.in_ok-value.ensures
