-- Texts that are names.
use Rattle.std.specs.Prelude.{ℕ, List, length, position, not, nat_le, ◌&&◌, if◌then◌else◌, Option, Some, None}
use Rattle.std.specs.Option.{option_map}
use Rattle.farm_types.specs.Limits.{is_printable}
use Rattle.farm_types.specs.declared.name.NameFault.{NameFault}
use Rattle.farm_types.specs.declared.name.NameFault.TheVariants.{Length, Byte, Memory}
use Rattle.farm_types.specs.declared.name.TheConstants.{NAME_MAX_BYTES}

-- the index of the first byte of a text that no name may hold
abbrev pub first_unprintable : List ℕ → Option ℕ
first_unprintable text = position (λ b. not (is_printable b)) text

-- why a text is no name, if it is none: its length, and at a right length its first byte that is not printable
abbrev pub name_fault : List ℕ → Option NameFault
name_fault text =
    if nat_le 1 (length text) && nat_le (length text) NAME_MAX_BYTES then option_map Byte (first_unprintable text)
    else Some (Length (length text))

-- the fault of the text that a refusal names: running out of memory names none
abbrev pub refusal : NameFault → Option NameFault
refusal (Length n) = Some (Length n)
refusal (Byte i) = Some (Byte i)
refusal Memory = None
