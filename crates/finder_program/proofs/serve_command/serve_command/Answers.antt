use Rattle.connection_laws.specs.Moments.{MayGive}
use Rattle.outside_seen.specs.Outside.{Outside, disk_seen, network_seen, outside, output_seen}
use Rattle.finder_program.proofs.Serving.{serve-cause, serve-completes}
use Rattle.finder_program.proofs.serve_command.serve_command.Goals as goal

pub returns-clause-cause : goal.returns-clause-cause
returns-clause-cause g c =
    let served = c.serve-ending in
    serve-cause c.args.links (MayGive g.C.Clock c.args.clock.now) served.result.0 c.status_of_ending.result _ _
    c.status_of_ending.ensures served.ensures.ends

pub returns-clause-completes : goal.returns-clause-completes
returns-clause-completes g c =
    let served = c.serve-ending in
    let before : Outside =
    outside (network_seen (g.N.Network.told c.args.network) (g.N.Network.count c.args.network))
    (output_seen g.K.Sink c.args.output.now) (disk_seen g.D.Disk c.args.disk) in
    let after : Outside =
    outside (network_seen (g.N.Network.told served.result.2) (g.N.Network.count served.result.2))
    (output_seen g.K.Sink served.new.output) (disk_seen g.D.Disk served.result.1) in
    serve-completes served.result.0 c.status_of_ending.result before after c.status_of_ending.ensures
    served.ensures.completes
