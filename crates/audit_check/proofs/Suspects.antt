-- Reading suspects one after the other, as a loop does: where one isn't read, the list isn't.
use Rattle.std.proofs.Common.{◌≡◌, ℕ, suc, ◌-◌, ◌+◌, ◌<◌, List, Option, None, refl, sym, ◌∙◌, arith}
use Rattle.suspect_range.specs.declared.suspect.Suspect.{Suspect}
use Rattle.entry_codec.specs.Reading.{suspect_at, suspects_at}
use Rattle.entry_codec.proofs.Suspects.{with_front}
use Rattle.audit_check.specs.Reads.{Stops}
use Rattle.audit_check.specs.declared.stop.Stop.{Stop}
use Rattle.audit_check.specs.declared.stop.Stop.TheVariants.{Malformed, OutOfMemory}

pub ends : (stop : Stop) (front : List Suspect) (count i : ℕ) (bytes : List ℕ)
    (total : Option (List Suspect × List ℕ)) →
    i < count → Stops stop (suspect_at bytes) → with_front front (suspects_at (count - i) bytes) ≡ total →
    Stops stop total
unfolding suspects_at
ends OutOfMemory front count i bytes total lt h so_far = tt
ends Malformed front count i bytes total lt h so_far =
    let k : count - i ≡ suc (count - (i + 1)) = omega arith in
    let one : with_front front (suspects_at (count - i) bytes) ≡ None = rw (k, h) refl in
    sym so_far ∙ one
