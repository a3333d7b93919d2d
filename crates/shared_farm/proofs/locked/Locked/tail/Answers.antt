use Rattle.std.proofs.Common.{All, List, subst, sym}
use Rattle.entry_codec.specs.Grammar.{IsWithinLimits}
use Rattle.farm_entry.specs.declared.entry.Entry.{Entry}
use Rattle.farm_store.proofs.Ahead.{legal-within}
use Rattle.shared_farm.proofs.locked.Locked.tail.Goals as goal

pub write_log_page-requires-clause-within : goal.write_log_page-requires-clause-within
write_log_page-requires-clause-within g c =
    subst (λ (H : List Entry). All (λ (e : Entry). IsWithinLimits e.what) H) (sym c.history.ensures.value)
    (legal-within c.self.inside.store.history c.history.ensures.legal)
