-- What becomes of a text that is put.
use Rattle.std.proofs.Common.{ℕ, List, refl, sym, inl}
use Rattle.std.specs.Prelude.{Option, Some, None}
use Rattle.outside_seen.specs.Outside.{OutputSeen}
use Rattle.link_io.proofs.Told.{append_known-nil}
use Rattle.finder_commands.specs.EvidenceCommand.{EvidencePut}
use Rattle.finder_commands.specs.declared.status.Status.TheVariants.{Memory}

-- where memory ran out before anything was put, that is what the status says, whether there is a text or not
pub evidence-unmade : (search : ℕ) (text : Option (List ℕ)) (seen : OutputSeen) → EvidencePut search text Memory seen seen
evidence-unmade search None seen = (inl refl, refl)
evidence-unmade search (Some text) seen = (0, sym (append_known-nil seen.written))
