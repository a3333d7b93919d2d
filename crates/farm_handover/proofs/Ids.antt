-- The id that a word names, by what `hex` answers.
use Rattle.std.proofs.Common.{◌≡◌, ℕ, List, Option, Some, None, Result, Ok, Err, refl, sym, ap, ◌∙◌}
use Rattle.std.specs.Result.{result_ok}
use Rattle.std.proofs.lemmas.Option.{none-some, same_Some}
use Rattle.hex.specs.Hex.{decode_sized}
use Rattle.hex.specs.declared.error.FromHexError.{FromHexError}
use Rattle.hex.specs.declared.error.FromHexError.TheVariants.{InvalidHexCharacter, OddLength, InvalidStringLength, OutOfMemory}
use Rattle.farm_types.proofs.IdTexts.{id_digits-back, id_fault-digit, id_fault-length, id_fault-ok}
use Rattle.farm_types.specs.CommitId.{id_bytes, id_digits, id_fault}
use Rattle.farm_types.specs.declared.commit_id.CommitId.{CommitId}
use Rattle.farm_types.specs.declared.commit_id.IdFault.{IdFault}
use Rattle.farm_wire.proofs.MadeValues.{id_of-bytes}
use Rattle.farm_wire.specs.Made.{id_named}

-- the digits of an id name it
pub id_named-digits : (id : CommitId) → id_named (id_digits id) ≡ Some id
unfolding id_named
id_named-digits id = let back = id_digits-back id in rw (back.0, back.1) (id_of-bytes id)

-- a text with a fault names none
faulty-none : (text : List ℕ) (fault : IdFault) → id_fault text ≡ Some fault → id_named text ≡ None
unfolding id_named
faulty-none text fault is = rw is refl

-- and so does one that doesn't decode
undecoded-none : (text : List ℕ) (e : FromHexError) → decode_sized text 20 ≡ Err e → id_named text ≡ None
undecoded-none text (InvalidHexCharacter c i) refused = faulty-none text _ (id_fault-digit text c i refused)
undecoded-none text OddLength refused = faulty-none text _ (id_fault-length text OddLength refused (λ c i same. cc))
undecoded-none text InvalidStringLength refused =
    faulty-none text _ (id_fault-length text InvalidStringLength refused (λ c i same. cc))
undecoded-none text OutOfMemory refused = faulty-none text _ (id_fault-length text OutOfMemory refused (λ c i same. cc))

-- where nothing was decoded
pub id_named-none : (r : Result (List ℕ) FromHexError) (text : List ℕ) → r ≡ decode_sized text 20 → None ≡ result_ok r
    → None ≡ id_named text
id_named-none (Ok bytes) text decoded none = absurd (none-some bytes none)
id_named-none (Err e) text decoded none = sym (undecoded-none text e (sym decoded))

-- where the bytes of an id were
pub id_named-some : (r : Result (List ℕ) FromHexError) (text bytes : List ℕ) (id : CommitId) → r ≡ decode_sized text 20
    → Some bytes ≡ result_ok r → id_bytes id ≡ bytes → Some id ≡ id_named text
unfolding id_named
id_named-some (Ok read) text bytes id decoded some is =
    let same : id_bytes id ≡ read = is ∙ same_Some bytes read some in
    let parts = id_fault-ok text (id_bytes id) (sym decoded ∙ ap (λ (xs : List ℕ). Ok xs) (sym same)) in
    rw (parts.0, parts.1) (sym (id_of-bytes id))
id_named-some (Err e) text bytes id decoded some is = absurd (none-some bytes (sym some))
