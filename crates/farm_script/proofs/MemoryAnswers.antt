-- How the history of a farm in memory grows by an answer.
use Rattle.std.proofs.Common.{◌≡◌, ◌++◌, ◌∷◌, false, List, [], refl, sym}
use Rattle.std.proofs.lemmas.Bool.{false≢true}
use Rattle.std.proofs.lemmas.List.{append-nil}
use Rattle.farm_disk.specs.Images.{DiskState}
use Rattle.farm_entry.specs.Playing.{after}
use Rattle.farm_entry.specs.declared.decision.Decision.{Decision}
use Rattle.farm_entry.specs.declared.decision.Decision.TheVariants.{Refuse, Repeat, Show, New}
use Rattle.farm_entry.specs.declared.entry.Entry.{Entry}
use Rattle.farm_script.specs.Images.{Grows, Standing}

-- what a decision adds to a history
pub added : (H : List Entry) (d : Decision) → (more : List Entry) × (after H d ≡ H ++ more)
added H (Refuse cause) = ([], sym (append-nil H))
added H (Repeat place) = ([], sym (append-nil H))
added H (Show page) = ([], sym (append-nil H))
added H (New e) = (e ∷ [], refl)

-- no crash leaves anything of it
pub memory-grows : {C : Type 0} (told : C → DiskState) (stands : Standing Entry) (history pending : C → List Entry)
    (old new : C) (more : List Entry) → history new ≡ history old ++ more
    → Grows (λ _. false) told stands history pending old new
memory-grows told stands history pending old new more longer = record {
  same = refl;
  more = more;
  longer = longer;
  rests = λ tell rested. absurd (false≢true tell);
  each = λ tell rested. absurd (false≢true tell);
}
