use Rattle.std.proofs.Common.{arith, ap, ◌∙◌, ◌≡◌, None}
use Rattle.std.specs.FinMap.{get, insert}
use Rattle.search_books.specs.KeyTable.{KeyPlaces, places_of}
use Rattle.search_books.proofs.Tables.{put-places, put-apart}
use Rattle.search_books.proofs.key_table.KeyTable.put.Goals as goal

pub invariant_of-self : goal.invariant_of-self
invariant_of-self c =
    let none : get (places_of c.self.inside.items.items) c.args.key ≡ None =
    ap (λ (b : KeyPlaces). get b.places c.args.key) c.self.view_is ∙ c.requires.absent in
    record {
      size = λ some. omega (
        arith,
        c.self.invariant.size (omega (arith, some, c.link.ensures.capacity)),
        c.link.ensures.heads,
      );
      fits = omega (
        arith,
        c.link.ensures.len,
        c.link.ensures.capacity,
        ap (λ (b : KeyPlaces). b.room) c.self.view_is,
        c.requires.room,
      );
      linked = c.link.ensures.linked;
      apart = put-apart c.self.inside.items.items c.link.new.items.items c.args.key c.args.place
          c.link.ensures.entries none c.self.invariant.apart;
    }

pub returns-clause-places : goal.returns-clause-places
returns-clause-places c =
    let none : get (places_of c.self.inside.items.items) c.args.key ≡ None =
    ap (λ (b : KeyPlaces). get b.places c.args.key) c.self.view_is ∙ c.requires.absent in
    put-places c.self.inside.items.items c.link.new.items.items c.args.key c.args.place c.link.ensures.entries none
    ∙ ap (λ (b : KeyPlaces). insert b.places c.args.key c.args.place) c.self.view_is
