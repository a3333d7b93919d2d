use Rattle.std.proofs.Common.{◌≡◌, List, map, ap, subst}
use Rattle.farm_disk.specs.Images.{IsImage, Step}
use Rattle.farm_disk.specs.InMemory.{DiskInMemory, step_of}
use Rattle.farm_disk.proofs.MarkSteps.{filled-image}
use Rattle.farm_disk.proofs.Outcome.{if_ok-both}
use Rattle.farm_disk.proofs.in_memory.mem_disk.MemDisk.image.Goals as goal

pub returns-clause-image : goal.returns-clause-image
returns-clause-image c =
    let steps = map step_of c.self.inside.past in
    let tracks = c.self.invariant.tracks in
    let same : steps ≡ c.args.self.now.disk.steps = ap (λ (d : DiskInMemory). d.disk.steps) c.self.view_is in
    if_ok-both c.image.result c.image.ensures.size c.image.ensures.bytes (λ image size bytes.
    subst (λ (s : List Step). IsImage s image.items) same
    (filled-image steps c.args.fill c.args.size image.items tracks.run (size steps tracks) (bytes steps tracks)))
