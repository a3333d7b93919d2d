use Rattle.std.proofs.Common.{ap, List, subst, sym, arith, ℕ, ◌∙◌}
use Rattle.atomic_table.specs.Seated.{TableId}
use Rattle.connection_laws.specs.Marks.{Follows}
use Rattle.farm_entry.specs.declared.entry.Entry.{Entry}
use Rattle.farm_http.specs.Callers.{mark_of}
use Rattle.link_io.specs.Links.{link_state}
use Rattle.turn_lock.specs.Known.{IsReady, both_lendings}
use Rattle.turn_lock.specs.declared.view.Lending.{Lending}
use Rattle.turn_lock.specs.declared.view.Stake.{Stake}
use Rattle.farm_serve.proofs.Owners.{owned_back, staked_back}
use Rattle.farm_serve.proofs.Steps.{same_accepts, serving_back}
use Rattle.farm_serve.specs.Nexts.{IsReaderOf}
use Rattle.farm_serve.specs.Serving.{IsStaked}
use Rattle.farm_serve.specs.declared.standing.ServeState.{ServeState}
use Rattle.farm_serve.proofs.gate.Gate.back.Goals as goal

pub invariant_of-self : goal.invariant_of-self
invariant_of-self g c =
    let greatest = c.join.ensures.faults in
    let was = c.self.inside.read in
    let seen = c.args.reader.now in
    let read = c.take_in.new.self in
    let first : Follows (mark_of c.self.inside.held was) (mark_of c.join.new.pass read) = record {
      longer = c.join.ensures.first;
      counted = c.take_in.ensures.first;
      more = omega arith;
    } in
    let second : Follows (mark_of c.args.pass seen) (mark_of c.join.new.pass read) = record {
      longer = c.join.ensures.second;
      counted = c.take_in.ensures.second;
      more = omega arith;
    } in
    let staked : IsStaked g.J.Naming.entry c.join.new.pass c.sub.new.self.total c.self.inside.standing.left =
    staked_back g.J.Naming.entry c.self.inside.held c.args.pass c.join.new.pass c.self.inside.out.total
    c.sub.new.self.total c.self.inside.standing.left c.sub.ensures.total c.requires.parts
    (ap (λ (l : Lending). l.keys) c.requires.served.borrows) c.join.ensures.stake c.join.ensures.places
    c.self.invariant.2 in
    let lending =
    ap (λ (t : Stake). t.lending) c.join.ensures.stake
    ∙ ap (λ (l : Lending). both_lendings c.self.inside.held.stake.lending l) c.requires.served.borrows in (
      rw c.note.ensures
          (serving_back g.J.Naming.entry g.J.Naming.gives c.args.served c.self.inside.standing c.self.inside.held
          c.args.pass c.join.new.pass was seen read
          c.self.inside.out.total c.sub.new.self.total (g.N.Network.told c.self.inside.network)
          (g.N.Network.told c.done.new.self) (g.N.Network.count c.self.inside.network)
          (g.N.Network.count c.done.new.self)
          (link_state g.N.End.Source g.N.End.Sink c.args.link) c.done.ensures.never_falls c.sub.ensures.total first
          second c.join.ensures.rows
          (owned_back g.J.Naming.entry c.self.inside.held c.args.pass c.join.new.pass c.self.inside.out.total
          c.self.inside.standing.left c.join.ensures.mine c.join.ensures.stake c.self.invariant.2)
          c.done.ensures.told c.requires.served.loan lending staked.key c.join.ensures.out
          (subst (λ (l : TableId). IsReady l c.join.new.pass) c.requires.farm c.join.ensures.ready) c.self.invariant.0
          c.requires.served.held),
      c.self.invariant.1,
      subst (λ (n : ℕ). IsStaked g.J.Naming.entry c.join.new.pass c.sub.new.self.total n)
          (sym
          (ap (λ (s : ServeState). s.left) c.note.ensures
          ∙ (same_accepts c.args.served c.self.inside.standing).left))
          staked,
    )

pub returns-clause-reader : goal.returns-clause-reader
returns-clause-reader g c =
    subst (λ (H : List Entry). IsReaderOf g.J.Naming.entry H) (sym c.take_in.ensures.reader) c.requires.reader
