use Rattle.std.proofs.Common.{◌∙◌, refl}
use Rattle.std.proofs.lemmas.List.{length-set}
use Rattle.threshold_pick.proofs.Bits.{AreBitsOf-more}
use Rattle.threshold_pick.proofs.skips.Skips.skip.Goals as goal

pub invariant_of-self : goal.invariant_of-self
invariant_of-self c =
    let kept = c.self.invariant in
    record {
      whole = length-set c.self.inside.words c.from-2.result _ ∙ kept.whole;
      bits_are = AreBitsOf-more c.self.inside.words c.self.inside.told c.tell.new.self c.args.position c.from-2.result
          c.from.result kept.whole c.requires.within c.from-2.ensures c.from.ensures c.tell.ensures kept.bits_are;
      empty_is = rw c.tell.ensures refl;
    }
