use Rattle.std.proofs.Common.{le_refl, ◌∙◌}
use Rattle.connection_laws.specs.Moments.{MayCount, MayGive}
use Rattle.farm_serve.proofs.Counts.{IfSome-map}
use Rattle.connection_laws.specs.Owners.{holding_of}
use Rattle.common_types.proofs.Prefixes.{IsPrefix-refl}
use Rattle.farm_serve.proofs.Links.{served_link}
use Rattle.farm_serve.proofs.Owners.{new-none, serves-lending, serves-parts}
use Rattle.farm_serve.specs.Entries.{start_of}
use Rattle.farm_serve.specs.Links.{mark_lent}
use Rattle.farm_serve.proofs.link.serve_one.Goals as goal

pub returns-clause-served : goal.returns-clause-served
returns-clause-served g c =
    let e = c.serve_link-served.ensures in
    let pass = c.args.caller.now.pass in
    record {
      loan = record { seen = pass.seen; faults = pass.faults };
      borrows = serves-lending c.serve_link-served.result _ _ _ _ _ _ (holding_of pass)
          (holding_of c.serve_link-served.new.caller.pass) _ e.serves ∙ c.requires.new.3;
      held = IfSome-map g.J.Naming.entry.told _ _
          (λ _ fresh. served_link c.serve_link-served.result
          (mark_lent (start_of g.J.Naming.entry) (record { seen = pass.seen; faults = pass.faults })) _ pass.seen
          c.args.caller.now.reader _ pass.faults (MayGive g.C.Clock c.args.service.now.clock.now) g.J.Naming.gives
          (MayCount g.D.Disk.count) c.serve_link-served.new.caller.pass.rows _ _ _ (holding_of pass) _
          (new-none pass c.requires.new) c.requires.gives (IsPrefix-refl pass.seen) (le_refl pass.faults)
          c.requires.reader.begins c.requires.fresh.unfailed c.finish.ensures e.cause e.serves fresh)
          c.requires.fresh.idle;
    }

pub returns-clause-parts : goal.returns-clause-parts
returns-clause-parts g c =
    let e = c.serve_link-served.ensures in
    serves-parts c.serve_link-served.result _ _ _ _ _ _ (holding_of c.args.caller.now.pass)
    (holding_of c.serve_link-served.new.caller.pass) _ e.serves ∙ c.requires.new.0
