-- Whether some search goes on, an entry at a time.
use Rattle.std.proofs.Common.{◌≡◌, ℕ, ◌+◌, ◌<◌, ◌||◌, Bool, List, get_or, drop, length, Option, Some, None, refl, ap, ◌∙◌}
use Rattle.std.specs.List.{cons_option, list_any}
use Rattle.farm_entry.specs.History.{opening_in, openings}
use Rattle.farm_entry.specs.declared.entry.Entry.{Entry}
use Rattle.farm_entry.specs.declared.opening.Opening.{Opening}
use Rattle.plain_history.specs.Tests.{is_some_and}
use Rattle.plain_history.proofs.Items.{drop-at}

any-opened : (p : Opening → Bool) (o : Option Opening) (os : List Opening) →
    list_any p (cons_option o os) ≡ (is_some_and p o || list_any p os)
any-opened p None os = refl
any-opened p (Some o) os = refl

-- a search of the entries from a place on passes a test: the one that the first of them opens, or one of the rest
pub any-from : (p : Opening → Bool) (H : List Entry) (i : ℕ) (e : Entry) → i < length H → e ≡ get_or H i e →
    list_any p (openings (drop i H)) ≡ (is_some_and p (opening_in e.what) || list_any p (openings (drop (i + 1) H)))
any-from p H i e below is =
    ap (λ (L : List Entry). list_any p (openings L)) (drop-at H i e below is)
    ∙ any-opened p (opening_in e.what) (openings (drop (i + 1) H))
