use Rattle.std.proofs.Common.{arith, ap, subst, sym, refl, ◌+◌, List}
use Rattle.farm_entry.specs.declared.entry.Entry.{Entry}
use Rattle.common_types.specs.Prefix.{IsPrefix}
use Rattle.common_types.proofs.Prefixes.{IsPrefix-nil}
use Rattle.farm_board.specs.Row.{number_of}
use Rattle.farm_board.proofs.Keeps.{starts_empty}
use Rattle.farm_board.proofs.Stills.{IsLegal-length, IsStill-poster}
use Rattle.farm_board.proofs.board.Board.of.Goals as goal

pub of_words-requires : goal.of_words-requires
of_words-requires c = starts_empty number_of (λ k. refl)

pub write-requires-clause-longer : goal.write-requires-clause-longer
write-requires-clause-longer c =
    subst (λ (l : List Entry). IsPrefix l c.args.history.now) (sym (ap (λ m. m.0.seen) c.in-Ok.ensures.4))
    (IsPrefix-nil c.args.history.now)

pub invariant_of-pass : goal.invariant_of-pass
invariant_of-pass c =
    let history = c.args.history.now in
    let some = IsLegal-length history c.requires.legal in
    IsStill-poster c.write.new.seat.me
    (c.in-Ok.seat.me.0.version + 2) history c.args.totals c.write.ensures.me c.requires.legal
    c.requires.totals (omega (arith, some, ap (λ m. m.0.version) c.in-Ok.ensures.4))
