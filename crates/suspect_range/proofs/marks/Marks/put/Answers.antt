use Rattle.std.proofs.Common.{◌<◌, ◌*◌, length, sym, arith}
use Rattle.suspect_range.proofs.Bits.{is_put-here, is_put-still}
use Rattle.suspect_range.proofs.marks.Marks.put.Goals as goal
use Rattle.suspect_range.specs.Marks.{mark_of}

pub returns-clause-put : goal.returns-clause-put
returns-clause-put c =
    let words = c.args.self.now.words in
    let mark = c.mark_of-mark.result in
    let within : mark < 64 * length words = omega (arith, c.mark_of-mark.ensures.in_range, c.args.self.now.whole) in
    is_put-here words mark c.from-2.result c.from.result c.from-2.ensures c.from.ensures within
    (mark_of c.args.commit) (sym c.mark_of-mark.ensures.mark)

pub returns-clause-kept : goal.returns-clause-kept
returns-clause-kept c =
    let words = c.args.self.now.words in
    let mark = c.mark_of-mark.result in
    let within : mark < 64 * length words = omega (arith, c.mark_of-mark.ensures.in_range, c.args.self.now.whole) in
    λ other put.
    is_put-still words mark c.from-2.result c.from.result c.from-2.ensures c.from.ensures within (mark_of other) put
