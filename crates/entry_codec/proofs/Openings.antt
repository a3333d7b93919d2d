-- Entries can be written where the openings among them can, and where they were read.
use Rattle.std.proofs.Common.{slice_index_or, List, [], ◌∷◌, All, Contains}
use Rattle.std.specs.List.{AllByRecursion, cons_option}
use Rattle.std.proofs.lemmas.List.Elements.{All-from_recursion, Contains-get_or, recursion_from_All}
use Rattle.farm_entry.specs.History.{opening_in, openings}
use Rattle.farm_entry.specs.declared.entry.Entry.{Entry}
use Rattle.farm_entry.specs.declared.entry.What.{What}
use Rattle.farm_entry.specs.declared.entry.What.TheVariants.{Founded, Opened, Leased, Reported, Skipped, Cancelled, Ordered, Carried, Closed}
use Rattle.farm_entry.specs.declared.opening.Opening.{Opening}
use Rattle.entry_codec.specs.Grammar.{AreSpelled, HasSpelling, IsOpenedWithin, IsWithinLimits}

-- an entry, in front of the openings of those after it
split : (what : What) (others : List Opening) → AllByRecursion IsOpenedWithin (cons_option (opening_in what) others) →
    IsWithinLimits what × AllByRecursion IsOpenedWithin others
split (Founded settings) others h = (tt, h)
split (Opened o) others h = (h.0, h.1)
split (Leased key worker run search stage position deadline) others h = (tt, h)
split (Reported run verdict _) others h = (tt, h)
split (Skipped run _) others h = (tt, h)
split (Cancelled key search) others h = (tt, h)
split (Ordered key agent order commit search day) others h = (tt, h)
split (Carried commit day) others h = (tt, h)
split Closed others h = (tt, h)

tell : (entries : List Entry) → AllByRecursion IsOpenedWithin (openings entries) →
    AllByRecursion (λ (entry : Entry). IsWithinLimits entry.what) entries
tell [] h = tt
tell (e ∷ entries) h = let p = split e.what (openings entries) h in (p.0, tell entries p.1)

pub within-from_openings : (entries : List Entry) → ((o : Opening) → Contains (openings entries) o → IsOpenedWithin o) →
    All (λ (entry : Entry). IsWithinLimits entry.what) entries
within-from_openings entries each =
    let all : All IsOpenedWithin (openings entries) =
    λ k d within. each _ (Contains-get_or (openings entries) k d within) in
    All-from_recursion (λ (entry : Entry). IsWithinLimits entry.what) entries
    (tell entries (recursion_from_All IsOpenedWithin (openings entries) all))

-- what was read
within : (what : What) → HasSpelling what → IsWithinLimits what
within (Founded settings) h = tt
within (Opened o) h = h.within
within (Leased key worker run search stage position deadline) h = tt
within (Reported run verdict _) h = tt
within (Skipped run _) h = tt
within (Cancelled key search) h = tt
within (Ordered key agent order commit search day) h = tt
within (Carried commit day) h = tt
within Closed h = tt

pub within-from_spelled : (entries : List Entry) → AreSpelled entries → All (λ (entry : Entry). IsWithinLimits entry.what) entries
within-from_spelled entries h = λ k d lt. within (slice_index_or entries k d).what (h k d lt)
