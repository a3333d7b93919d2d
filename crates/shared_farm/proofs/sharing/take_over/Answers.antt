use Rattle.std.proofs.Common.{◌≡◌, ◌≤◌, ◌+◌, length, arith, ap, sym, ◌∙◌, subst}
use Rattle.farm_store.specs.Sizes.{asks_size}
use Rattle.farm_store.specs.declared.asking.TheConstants.{MAX_RECORD_BYTES}
use Rattle.farm_board.specs.Jobs.{JobOf}
use Rattle.shared_farm.specs.Errands.{IsErrand}
use Rattle.shared_farm.specs.Rounds.{IsHelped}
use Rattle.shared_farm.specs.declared.errand.Helped.{Helped}
use Rattle.shared_farm.proofs.Taking.{gathering-first, gathering-push, length-pushed}
use Rattle.shared_farm.proofs.sharing.take_over.Goals as goal

pub loop-init : goal.loop-init
loop-init g c =
    let none = c.requires.none in
    record {
      gathering = gathering-first c.args.errands.now.key c.args.errands.now c.args.parts.now.items
          c.args.group.now.items c.args.first_bytes none c.requires.first c.requires.fits;
      parts = c.requires.one;
      group = ap (λ l. length l + 1) none;
      room_parts = c.requires.room.0;
      room_group = c.requires.room.1;
    }

pub loop-preserved : goal.loop-preserved
loop-preserved g c =
    let errand = c.in-Some.errand in
    let part = c.part_of.result in
    let asks : part.asks.items ≡ errand.asks.items = ap (λ v. v.items) c.part_of.ensures in
    let own : c.most_bytes-bytes.result ≡ asks_size part.asks.items =
    c.most_bytes-bytes.ensures.bytes ∙ ap (λ l. asks_size l) (c.deref.ensures.value ∙ sym asks) in
    let at = c.in-Some.ensures.taken in
    let may = c.in-Some.ensures.may in
    let most = c.most_bytes-bytes.ensures.most in
    let fits : c.loop.bytes + asks_size part.asks.items ≤ MAX_RECORD_BYTES =
    omega (arith, c.if-bytes-gt-MAX_RECORD_BYTES.false, own, most) in
    let pushed = c.push_reserved.ensures in
    let joined = c.push_reserved-in-loop.ensures in
    let helped : Helped _ _ = record { taken = c.in-Some.taken; pass = errand.pass } in
    let one : IsHelped c.args.errands.now.key c.args.errands.now part helped = record {
      table = ap (λ (t : JobOf _ _). t.table) at;
      errand = subst (λ t. IsErrand c.args.errands.now.key t) (sym (ap (λ (t : JobOf _ _). t.job) at)) may;
      pass = ap (λ (t : JobOf _ _). t.job.pass) (sym at);
      asks = asks ∙ ap (λ (t : JobOf _ _). t.job.asks.items) (sym at);
    } in
    let more = gathering-push c.args.errands.now.key c.args.errands.now c.args.parts.now.items c.loop.parts.items
    c.loop.group.items c.loop.bytes part helped c.loop.invariant.gathering one fits in
    let grown : length c.push_reserved.new.self.items ≡ length c.loop.parts.items + 1 =
    length-pushed c.loop.parts.items c.push_reserved.new.self.items part pushed.items in
    let grown_group : length c.push_reserved-in-loop.new.self.items ≡ length c.loop.group.items + 1 =
    length-pushed c.loop.group.items c.push_reserved-in-loop.new.self.items helped joined.items in
    let parts = c.loop.invariant.parts in
    let group = c.loop.invariant.group in
    let room_parts = c.loop.invariant.room_parts in
    let room_group = c.loop.invariant.room_group in
    let same_parts = pushed.capacity in
    let same_group = joined.capacity in
    record {
      gathering = rw (pushed.items, joined.items, own) more;
      parts = omega (arith, grown, parts);
      group = omega (arith, grown_group, group);
      room_parts = omega (arith, room_parts, same_parts);
      room_group = omega (arith, room_group, same_group);
    }
