use Rattle.std.proofs.Common.{arith}
use Rattle.farm_drill.proofs.Marks.{free-marked, free-next, free-still, some-unmarked}
use Rattle.farm_drill.proofs.keys.Keys.fresh.Goals as goal

pub returns-in-Some-clause-key : goal.returns-in-Some-clause-key
returns-in-Some-clause-key c =
    let some = c.in-Some.ensures.some in
    c.requires.free c.in-Some.key.0 some.0 some.1 some.2

pub returns-in-Some-clause-free : goal.returns-in-Some-clause-free
returns-in-Some-clause-free c e keyed =
    let some = c.in-Some.ensures.some in
    free-next c.args.history.now c.args.self.now c.take.new.self c.in-Some.key e c.requires.free c.in-Some.ensures.used
    some.3 some.0 keyed

pub returns-in-Some-clause-still : goal.returns-in-Some-clause-still
returns-in-Some-clause-still c =
    let some = c.in-Some.ensures.some in
    free-still c.args.history.now c.args.self.now c.take.new.self c.in-Some.key c.requires.free c.in-Some.ensures.used
    some.3 some.0

-- the keys are made anew

pub unreachable-requires : goal.unreachable-requires
unreachable-requires c =
    let keys = c.in_ok-self.field-0 in
    some-unmarked c.args.history.now keys.used.items c.requires.legal c.in_ok-self.ensures.marked
    c.in_ok-self.ensures.all
    (λ n from within. c.in-None.ensures.none n (omega (arith, c.in_ok-self.ensures.first)) within)

pub returns-clause-key : goal.returns-clause-key
returns-clause-key c =
    let keys = c.in_ok-self.field-0 in
    let some = c.in-Some-take.ensures.some in
    free-marked c.args.history.now keys c.in_ok-self.ensures.marked c.in-Some-take.key.0 some.0 some.1 some.2

pub returns-clause-free : goal.returns-clause-free
returns-clause-free c e keyed =
    let keys = c.in_ok-self.field-0 in
    let some = c.in-Some-take.ensures.some in
    free-next c.args.history.now keys c.take-2.new.self c.in-Some-take.key e
    (free-marked c.args.history.now keys c.in_ok-self.ensures.marked) c.in-Some-take.ensures.used some.3 some.0 keyed

pub returns-clause-still : goal.returns-clause-still
returns-clause-still c =
    let keys = c.in_ok-self.field-0 in
    let some = c.in-Some-take.ensures.some in
    free-still c.args.history.now keys c.take-2.new.self c.in-Some-take.key
    (free-marked c.args.history.now keys c.in_ok-self.ensures.marked) c.in-Some-take.ensures.used some.3 some.0
