-- When a run is done.
use Rattle.std.proofs.Common.{◌≡◌, ◌+◌, ◌<◌, [], length, refl, sym, ap, ◌∙◌, inl, inr, ⊎_elim, arith}
use Rattle.std.proofs.lemmas.List.{length-append}
use Rattle.link_io.proofs.Told.{prepend_known-some}
use Rattle.farm_script.specs.Script.{Rule}
use Rattle.link_io.specs.Streams.{Streams}
use Rattle.farm_script.specs.FoundedRun.{FoundedRunCompletes}
use Rattle.farm_script.specs.RunEnds.{RunCompletes, RunEnds, Seen}
use Rattle.farm_script.specs.declared.run_end.RunEnd.{RunEnd}
use Rattle.farm_script.specs.declared.run_end.RunEnd.TheVariants.{Done, ReadFault, WriteFault, StoreFault, Memory}
use Rattle.farm_script.specs.declared.run_end.RunEnd.TheVariants.{InputLimit}
use Rattle.link_io.specs.declared.source.TheConstants.{INPUT_LIMIT}

pub completes-from_ends : {E : Type 0} (rule : Rule E) (end : RunEnd) (before after : Seen E)
    → RunEnds rule end before after → RunCompletes end before.streams after.streams
completes-from_ends rule Done before after ends _ _ all told =
    let parts = prepend_known-some all ends.0 after.streams.left (sym told ∙ ends.1.bytes) in
    let none : parts.0 ≡ [] = ends.1.ended refl parts.0 parts.1 in
    let size : length all ≡ length ends.0 + length parts.0 = ap length parts.2 ∙ length-append ends.0 parts.0 in
    let few : length ends.0 < INPUT_LIMIT = ends.2 in
    let zero : length parts.0 ≡ 0 = ap length none in
    inr (inr (inl (omega arith, refl)))
completes-from_ends rule ReadFault before after ends calm _ all told = absurd (calm ends.0)
completes-from_ends rule WriteFault before after ends _ calm all told = absurd (calm ends.0)
completes-from_ends rule StoreFault before after ends _ _ all told = inr (inl refl)
completes-from_ends rule Memory before after ends _ _ all told = inl refl
completes-from_ends rule InputLimit before after ends _ _ all told =
    let parts = prepend_known-some all ends.0 after.streams.left (sym told ∙ ends.1.bytes) in
    let size : length all ≡ length ends.0 + length parts.0 = ap length parts.2 ∙ length-append ends.0 parts.0 in
    let full : length ends.0 ≡ INPUT_LIMIT = ends.2 in
    inr (inr (inr (omega arith, refl)))

-- without a fault of the store
pub completes-founded : (end : RunEnd) (before after : Streams) → RunCompletes end before after → (end ≡ StoreFault → ⊥)
    → FoundedRunCompletes end before after
completes-founded end before after completes no_store calm quiet all told = ⊎_elim
    (λ memory. inl memory)
    (λ more. ⊎_elim (λ store. absurd (no_store store)) (λ ends. inr ends) more)
    (completes calm quiet all told)
