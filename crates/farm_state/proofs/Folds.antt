-- The order that a history makes, with an entry appended.
use Rattle.std.proofs.Common.{◌≡◌, List, [], ◌∷◌, ◌++◌, sym, ap, ◌∙◌, append_assoc, append-nil}
use Rattle.farm_entry.specs.declared.entry.Entry.{Entry}
use Rattle.farm_state.specs.Moves.{Turns}
use Rattle.farm_state.specs.Turns.{change_at, changes_from, changes_of, no_turns, turns_after, turns_from, turns_of}
use Rattle.farm_state.specs.declared.moves.Change.{Change}

turns_from-more : (done : List Entry) (t : Turns) (rest : List Entry) (e : Entry) →
    turns_from done t (rest ++ e ∷ []) ≡ turns_after (done ++ rest) e (turns_from done t rest)
turns_from-more done t [] e = ap (λ (H : List Entry). turns_after H e t) (sym (append-nil done))
turns_from-more done t (x ∷ rest) e =
    turns_from-more (done ++ x ∷ []) (turns_after done x t) rest e
    ∙ ap (λ (H : List Entry). turns_after H e (turns_from (done ++ x ∷ []) (turns_after done x t) rest))
    (append_assoc done (x ∷ []) rest)

changes_from-more : (done : List Entry) (t : Turns) (rest : List Entry) (e : Entry) →
    changes_from done t (rest ++ e ∷ [])
    ≡ changes_from done t rest ++ change_at (done ++ rest) e (turns_from done t rest) ∷ []
changes_from-more done t [] e = ap (λ (H : List Entry). change_at H e t ∷ []) (sym (append-nil done))
changes_from-more done t (x ∷ rest) e =
    let next = turns_after done x t in
    let more = done ++ x ∷ [] in
    ap (λ (cs : List Change). change_at done x t ∷ cs)
    (changes_from-more more next rest e
    ∙ ap (λ (H : List Entry). changes_from more next rest ++ change_at H e (turns_from more next rest) ∷ [])
    (append_assoc done (x ∷ []) rest))

pub turns-more : (H : List Entry) (e : Entry) → turns_of (H ++ e ∷ []) ≡ turns_after H e (turns_of H)
turns-more H e = turns_from-more [] no_turns H e

pub changes-more : (H : List Entry) (e : Entry) →
    changes_of (H ++ e ∷ []) ≡ changes_of H ++ change_at H e (turns_of H) ∷ []
changes-more H e = changes_from-more [] no_turns H e
