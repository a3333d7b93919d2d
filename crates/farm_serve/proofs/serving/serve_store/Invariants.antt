use Rattle.connection_laws.specs.Moments.{MayGive}
use Rattle.farm_serve.proofs.serving.serve_store.Given as goal

-- the ledger of the blank
abbrev pub ghosts-serve_farm-J-Ledger : goal.ghosts-serve_farm-J-Ledger
ghosts-serve_farm-J-Ledger g a = record { name = a.blank.name; parts = a.blank.parts }

-- what there is at entry, and the moments that the clock may give
abbrev pub ghosts-serve_farm-J-Naming : goal.ghosts-serve_farm-J-Naming
ghosts-serve_farm-J-Naming g a = record {
  entry = record {
    lock = a.farm;
    first = a.pass.seen;
    faults = a.before;
    told = g.N.Network.told a.network;
    count = g.N.Network.count a.network;
    links = a.with.now.links;
  };
  gives = MayGive g.C.Clock a.with.now.clock.now;
}
