use Rattle.std.proofs.Common.{refl}
use Rattle.connection_laws.specs.Moments.{MayGive}
use Rattle.farm_serve.proofs.Ends.{completes, opened-ends}
use Rattle.outside_seen.specs.Outside.{output_seen}
use Rattle.farm_serve.proofs.serving.serve.Goals as goal

pub returns-in-Ok-clause-ends : goal.returns-in-Ok-clause-ends
returns-in-Ok-clause-ends g c =
    let opened = c.in-Ok.ensures in
    let served = c.serve_opened-store in
    opened-ends g.D.Disk (MayGive g.C.Clock c.args.clock.now) c.args.links c.args.disk c.into_disk.result
    c.faults-before.result c.in-Ok.store served.result.0 served.result.2 c.end-ending.result _ _
    (output_seen g.K.Sink c.args.output.now) (output_seen g.K.Sink c.end-ending.new.output) c.faults-before.ensures
    (record {
      none = opened.decided;
      same = opened.same;
      held = opened.answers;
      legal = opened.legal;
      stored = opened.stored;
      only = opened.only;
      never_falls = opened.never_falls;
    }) served.ensures.comes served.ensures.came c.end-ending.ensures.says c.end-ending.ensures.legal
    c.into_disk.ensures.disk
    c.into_disk.ensures.stored

pub returns-in-Ok-clause-completes : goal.returns-in-Ok-clause-completes
returns-in-Ok-clause-completes g c = completes _ _ _ _ _ (returns-in-Ok-clause-ends g c)

pub returns-in-Err-clause-ends : goal.returns-in-Err-clause-ends
returns-in-Err-clause-ends g c =
    let missed = c.in-Err.ensures in
    record { untouched = (refl, refl); cause = missed.answers; only = missed.only; counts = missed.cause }

pub returns-in-Err-clause-completes : goal.returns-in-Err-clause-completes
returns-in-Err-clause-completes g c =
    completes c.args.links (MayGive g.C.Clock c.args.clock.now) _ _ _ (returns-in-Err-clause-ends g c)
