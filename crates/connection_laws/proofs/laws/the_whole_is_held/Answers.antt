use Rattle.std.proofs.Common.{refl}
use Rattle.http_requests.proofs.FrontLaws.{opens-shut}
use Rattle.connection_laws.proofs.Loop.{so_far-whole}
use Rattle.connection_laws.specs.Moments.{GivenBy}
use Rattle.connection_laws.proofs.laws.the_whole_is_held.Goals as goal

pub returns : goal.returns
returns g c = record {
  whole = λ start final taken put over items more steps rest end s i q read w told.
      so_far-whole start final (GivenBy g.C.Clock c.args.clock.now g.D.Disk.count) g.S.Said.said taken put over
      items more steps rest end s i q read w told;
  shut = λ taken items item o shut settled. record {
    closes = refl;
    stays = opens-shut taken items item o shut settled;
  };
}
