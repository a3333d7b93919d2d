use Rattle.std.proofs.Common.{rules, ◌≡◌, ◌≤◌, List, ◌∷◌, ℕ, map, length, ap, sym, subst}
use Rattle.farm_disk.specs.Images.{Step, write, overwritten, IsImage}
use Rattle.farm_disk.specs.InMemory.{step_of}
use Rattle.farm_disk.specs.declared.call.Call.{Call}
use Rattle.farm_disk.proofs.Sound.{torn_part}
use Rattle.farm_disk.proofs.in_memory.mem_disk.MemDisk.put.Goals as goal

pub invariant_of-self-2 : goal.invariant_of-self-2
invariant_of-self-2 c =
    let old = c.self.inside.bytes.items in
    let steps = write c.args.at c.args.n ∷ map step_of c.self.inside.past in
    let log : map step_of c.tell-2.new.self ≡ steps = ap (λ (l : List Call). map step_of l) c.tell-2.ensures in
    let bytes : c.overwrite.new.held.items ≡ overwritten c.args.at c.args.piece.now old = search rules in
    let within : c.args.at ≤ length old = search rules in
    let torn = torn_part c.args.at c.args.n c.args.piece.now old within c.requires.piece in
    record {
      tracks = search rules;
      reach = search rules;
      image = subst (λ (s : List Step). IsImage s c.overwrite.new.held.items) (sym log)
          (subst (λ (l : List ℕ). IsImage steps l) (sym bytes) (old, c.self.invariant.image, torn));
    }
