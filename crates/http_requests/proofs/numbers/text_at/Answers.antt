use Rattle.std.proofs.Common.{ℕ, zero, suc, ◌≡◌, List, [], ◌∷◌, Option, Some, None, slice_index_or, refl, sym, ap, ◌∙◌, lit<}
use Rattle.std.specs.Borrow.{Bor}
use Rattle.std.specs.List.{slice_get}
use Rattle.std.specs.Option.{option_map}
use Rattle.std.proofs.lemmas.Iterator.Consumers.{nth_from_yields_List}
use Rattle.std.proofs.lemmas.Iterator.Splits.{YieldsList-from_str_split}
use Rattle.http_requests.specs.Routes.{text_at}
use Rattle.http_requests.specs.Segments.{parts}
use Rattle.http_requests.proofs.numbers.text_at.Goals as goal

-- an item, or the default where there is none
item_or : {X : Type 0} → Option X → X → X
item_or None d = d
item_or (Some x) d = x

item_or-get : {X : Type 0} (xs : List X) (i : ℕ) (d : X) → item_or (slice_get xs i) d ≡ slice_index_or xs i d
unfolding item_or
item_or-get [] i d = refl
item_or-get (x ∷ xs) zero d = refl
item_or-get (x ∷ xs) (suc i) d = item_or-get xs i d

pub returns-in-Some : goal.returns-in-Some
unfolding text_at item_or
returns-in-Some c =
    let all = YieldsList-from_str_split 47 c.args.path.now (lit< tt) c.split.ensures.text c.split.ensures.has_more c.split.ensures.pattern in
    let fourth = nth_from_yields_List _ _ c.args.place c.nth.ensures.ran all in
    ap (λ (r : Option (Bor (List ℕ))). item_or (option_map (λ x. x.now) r) []) (sym c.in-Some.is)
    ∙ ap (λ (r : Option (List ℕ)). item_or r []) fourth
    ∙ item_or-get (parts c.args.path.now) c.args.place []

pub returns-in-None : goal.returns-in-None
unfolding text_at item_or
returns-in-None c =
    let all = YieldsList-from_str_split 47 c.args.path.now (lit< tt) c.split.ensures.text c.split.ensures.has_more c.split.ensures.pattern in
    let fourth = nth_from_yields_List _ _ c.args.place c.nth.ensures.ran all in
    ap (λ (r : Option (Bor (List ℕ))). item_or (option_map (λ x. x.now) r) []) (sym c.in-None.is)
    ∙ ap (λ (r : Option (List ℕ)). item_or r []) fourth
    ∙ item_or-get (parts c.args.path.now) c.args.place []
