-- Bytes that are put in part.
use Rattle.std.proofs.Common.{ℕ, ◌≡◌, ◌&&◌, not, Bool, true, false, List, take, drop, Option, sym}
use Rattle.std.proofs.lemmas.List.{take-append-drop}
use Rattle.std.specs.Io.KnownBytes.{append_known}
use Rattle.connection_laws.specs.Answers.{interim_of}
use Rattle.common_types.specs.Prefix.{IsPrefix}

-- a front of the bytes was put
pub record IsPartPut (all : List ℕ) (before now : Option (List ℕ)) : Type 0 where
  pub count : ℕ
  pub puts : now ≡ append_known before (take count all)

-- the interim answer was put in part, where it was asked for and isn't out
pub interim-part_put : (asked out : Bool) (before now : Option (List ℕ)) → asked ≡ true → out ≡ false
    → IsPartPut (interim_of true) before now
    → (part : List ℕ) × IsPrefix part (interim_of (asked && not out)) × (now ≡ append_known before part)
interim-part_put true false before now asks open_ p = (
  take p.count (interim_of true),
  (drop p.count (interim_of true), sym (take-append-drop p.count (interim_of true))),
  p.puts,
)
interim-part_put false out before now asks open_ p = let bad : ⊥ = cc in absurd bad
interim-part_put true true before now asks open_ p = let bad : ⊥ = cc in absurd bad
