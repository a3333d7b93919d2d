use Rattle.std.proofs.Common.{List, inl, inr, refl, subst, sym}
use Rattle.connection_laws.specs.Moments.{MayGive}
use Rattle.farm_entry.specs.Closing.{CanBeCarried}
use Rattle.farm_rules.specs.Orders.{Ordered}
use Rattle.outside_seen.specs.Outside.{disk_seen, input_seen}
use Rattle.link_io.specs.Streams.{streams}
use Rattle.finder_commands.specs.InheritCommand.{WasHandedOver, input_of}
use Rattle.finder_commands.proofs.Inheritings.{inherited-ends, unread-cause}
use Rattle.finder_commands.proofs.inherit_command.inherit_command.Goals as goal

pub returns-in-Err-clause-ends : goal.returns-in-Err-clause-ends
returns-in-Err-clause-ends g c =
    inl (record { why = c.in-Err.ensures.unread; untouched = refl; same = refl })

pub returns-in-Err-clause-cause : goal.returns-in-Err-clause-cause
returns-in-Err-clause-cause g c =
    unread-cause c.in-Err.status (input_seen g.S.Source c.args.input.now) (input_seen g.S.Source c.read_orders.new.input)
    (disk_seen g.D.Disk c.args.disk) (disk_seen g.D.Disk c.args.disk) c.in-Err.ensures.unread

pub inherit-requires : goal.inherit-requires
inherit-requires g c =
    subst (λ (orders : List Ordered). CanBeCarried orders) (sym c.deref.ensures.value) c.in-Ok.ensures.fit

pub returns-in-Ok-inherit-clause-ends : goal.returns-in-Ok-inherit-clause-ends
returns-in-Ok-inherit-clause-ends g c =
    let founded = c.in-Ok-inherit.ensures in
    let orders = c.deref.result.now in
    let before = streams g.S.Source g.K.Sink c.args.input.now c.args.output.now in
    let after = streams g.S.Source g.K.Sink c.read_orders.new.input c.put_text-status.new.output in
    let both = inherited-ends g.D.Disk c.args.settings c.now-at.result orders c.put_text-status.result before after
    c.args.disk c.in-Ok-inherit.store c.into_disk.result c.into_disk.ensures.disk founded.answers founded.stored
    (record { born = founded.born; since_sync = founded.since_sync; any_moment = founded.any_moment })
    c.put_text-status.ensures in
    inr (record {
      orders = orders;
      read = subst (λ (list : List Ordered). WasHandedOver list (input_of before) (input_of after))
          (sym c.deref.ensures.value) c.in-Ok.ensures.read;
      at = c.now-at.result;
      given = (c.now-at.ensures.shown, c.now-at.ensures.told);
      ends = both.0;
      leaves = both.1;
    })

pub returns-clause-ends : goal.returns-clause-ends
returns-clause-ends g c =
    let missed = c.in-Err-inherit.ensures in
    let before = streams g.S.Source g.K.Sink c.args.input.now c.args.output.now in
    let after = streams g.S.Source g.K.Sink c.read_orders.new.input c.args.output.now in
    inr (record {
      orders = c.deref.result.now;
      read = subst (λ (list : List Ordered). WasHandedOver list (input_of before) (input_of after))
          (sym c.deref.ensures.value) c.in-Ok.ensures.read;
      at = c.now-at.result;
      given = (c.now-at.ensures.shown, c.now-at.ensures.told);
      ends = inl (
        c.in-Err-inherit.fault,
        c.status_of_creating.ensures,
        record { untouched = refl; cause = missed.answers },
      );
      leaves = record { born = missed.born; since_sync = missed.since_sync; any_moment = missed.any_moment };
    })
