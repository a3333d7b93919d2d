use Rattle.std.proofs.Common.{arith, ap, subst, sym, ◌∙◌, ℕ}
use mathlib.Core.Option.{none}
use Rattle.atomic_table.specs.Table.{Allows, step}
use Rattle.common_types.specs.Prefix.{longer}
use Rattle.farm_board.specs.Row.{number_of}
use Rattle.farm_board.specs.Rule.{IsJoined, IsKept}
use Rattle.farm_board.specs.Steps.{Tells}
use Rattle.farm_board.specs.Views.{idle, told}
use Rattle.farm_board.proofs.Keeps.{joins, tells}
use Rattle.farm_board.proofs.board.Board.put_together.Goals as goal

pub join_seat-requires : goal.join_seat-requires
join_seat-requires c =
    let seat = c.args.seat.now in
    let other = c.args.other in (
      c.requires.own ∙ sym c.words-shared.ensures.own,
      c.requires.other ∙ sym c.words-shared.ensures.own,
      ap (λ m. m.1) c.requires.still_too,
      omega (arith, c.words-shared.ensures.sized.0),
      joins number_of seat.id seat.me.0 other.id other.me.0 (ap (λ m. m.0) c.requires.still)
          (ap (λ m. m.0) c.requires.still_too),
    )

pub load-requires : goal.load-requires
load-requires c =
    let seat = c.join_seat.new.seat in
    let one = c.join_seat.ensures in (
      one.0 ∙ (c.requires.own ∙ sym c.words-shared.ensures.own),
      omega (arith, c.words-shared.ensures.sized.0),
      subst (λ (n : ℕ). Allows (IsKept number_of) n seat.id seat.me 0 (λ k. k) (Tells (step n 0 0 0 none) seat.me))
          (sym c.words-shared.ensures.sized.1)
          (tells number_of seat.id seat.me (ap (λ m. m.0.posts) one.2) (ap (λ m. m.0.reads) one.2)),
    )

pub returns-clause-me : goal.returns-clause-me
returns-clause-me c =
    let mine = c.args.seat.now.me.0.seen in
    let theirs = c.args.other.me.0.seen in
    c.load.ensures.2.1
    ∙ (ap (λ m. (told m.0, m.1)) c.join_seat.ensures.2
    ∙ ap (λ m. (idle (longer mine theirs), m.1)) c.requires.still)

pub returns-clause-first : goal.returns-clause-first
returns-clause-first c = (subst (λ m. IsJoined m.0) c.join_seat.ensures.2 c.load.ensures.2.0).0

pub returns-clause-second : goal.returns-clause-second
returns-clause-second c = (subst (λ m. IsJoined m.0) c.join_seat.ensures.2 c.load.ensures.2.0).1
