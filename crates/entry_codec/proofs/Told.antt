-- What a call that read bytes tells of them.
use Rattle.std.proofs.Common.{◌≡◌, ℕ, List, Result, Ok, Err, Vec, Global, refl, sym, ◌∙◌}
use Rattle.std.specs.Prelude.{IfErr, IfOk, MatchResult}
use Rattle.farm_entry.specs.declared.entry.Entry.{Entry}
use Rattle.entry_codec.specs.Grammar.{AreSpelled, IsBadAt, IsBadOrMemory, IsFaultOf}
use Rattle.entry_codec.specs.Spelling.{spelling}
use Rattle.entry_codec.specs.declared.fault.CodecFault.{CodecFault}
use Rattle.entry_codec.specs.declared.fault.CodecFault.TheVariants.{Bad, Memory}
use Rattle.entry_codec.proofs.ListLaws.{bad-not_spelled, bad-unique, spelling-injective}

module _ (bytes : List ℕ) where
  -- entries that are spelled there are what was read
  pub told-only : (result : Result (Vec Entry Global) CodecFault) (entries : List Entry) →
      IfOk result (λ read. AreSpelled read.items × (bytes ≡ spelling read.items)) → IfErr result (IsFaultOf bytes) →
      AreSpelled entries → bytes ≡ spelling entries →
      MatchResult result (λ read. read.items ≡ entries) (λ fault. fault ≡ Memory)
  told-only (Ok read) entries found bad spelled is =
      spelling-injective read.items entries found.0 spelled (sym found.1 ∙ is)
  told-only (Err (Bad offset)) entries found bad spelled is =
      absurd (bad-not_spelled bytes offset entries bad spelled is)
  told-only (Err Memory) entries found bad spelled is = refl

  -- a fault that stands there is the one that was told
  pub told-bad : (result : Result (Vec Entry Global) CodecFault) (offset : ℕ) →
      IfOk result (λ read. AreSpelled read.items × (bytes ≡ spelling read.items)) → IfErr result (IsFaultOf bytes) →
      IsBadAt bytes offset → MatchResult result (λ _. ⊥) (IsBadOrMemory offset)
  told-bad (Ok read) offset found bad there = bad-not_spelled bytes offset read.items there found.0 found.1
  told-bad (Err (Bad other)) offset found bad there = bad-unique bytes other offset bad there
  told-bad (Err Memory) offset found bad there = tt
