-- The evidence of a search, an entry at a time.
use Rattle.std.proofs.Common.{◌≡◌, List, [], ◌∷◌, ◌++◌, Option, Some, None, refl, sym, ap, ◌∙◌, append_assoc, append-nil}
use Rattle.std.specs.List.{cons_option}
use Rattle.farm_entry.specs.declared.entry.Entry.{Entry}
use Rattle.farm_entry.specs.declared.opening.Opening.{Opening}
use Rattle.search_evidence.specs.Written.{evidence_runs, run_added, runs_added}

-- an item before two lists
cons_option-append : {X : Type 0} (x : Option X) (xs ys : List X) → cons_option x xs ++ ys ≡ cons_option x (xs ++ ys)
cons_option-append None xs ys = refl
cons_option-append (Some x) xs ys = refl

-- what one entry more adds
runs_added-push : (P H : List Entry) (o : Opening) (e : Entry) →
    runs_added P o (H ++ e ∷ []) ≡ runs_added P o H ++ cons_option (run_added (P ++ H) o e) []
runs_added-push P [] o e =
    ap (λ (before : List Entry). cons_option (run_added before o e) []) (sym (append-nil P))
runs_added-push P (h ∷ H) o e =
    ap (cons_option (run_added P o h)) (runs_added-push (P ++ h ∷ []) H o e)
    ∙ ap (λ (before : List Entry). cons_option (run_added P o h)
    (runs_added (P ++ h ∷ []) o H ++ cons_option (run_added before o e) []))
    (append_assoc P (h ∷ []) H)
    ∙ sym (cons_option-append (run_added P o h) (runs_added (P ++ h ∷ []) o H)
    (cons_option (run_added (P ++ h ∷ H) o e) []))

-- the evidence after one entry more
pub evidence_runs-grow : (H : List Entry) (o : Opening) (e : Entry) →
    evidence_runs (H ++ e ∷ []) o ≡ evidence_runs H o ++ cons_option (run_added H o e) []
evidence_runs-grow H o e = runs_added-push [] H o e
