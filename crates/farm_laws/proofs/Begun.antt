-- What a farm begins with: its founding and the orders that were carried over, all at one moment.
use Rattle.std.proofs.Common.{◌≡◌, ◌≤◌, Bool, true, false, ◌||◌, List, [], ◌∷◌, if◌then◌else◌, Option, None, refl, sym, ap, ◌∙◌, arith, true≢false}
use Rattle.std.specs.List.{cons_option, filter_map, list_all}
use Rattle.std.proofs.lemmas.Bool.{and_parts, eqb-true, le-leb}
use Rattle.farm_types.specs.Moment.{moment_ms}
use Rattle.farm_types.specs.declared.moment.Moment.{Moment}
use Rattle.farm_entry.specs.Closing.{begins_at, is_beginning}
use Rattle.farm_entry.specs.Decision.{last_moment, later, moment_used}
use Rattle.farm_entry.specs.History.{is_closed, is_closing, order_in, order_lines}
use Rattle.farm_entry.specs.declared.entry.Entry.{Entry}
use Rattle.farm_entry.specs.declared.entry.What.{What}
use Rattle.farm_entry.specs.declared.entry.What.TheVariants.{Ordered, Closed}

-- of two moments of which the first isn't after the second, the later one is the second
pub later-second : (a b : Moment) → moment_ms a ≤ moment_ms b → later a b ≡ b
later-second a b before = ap (λ (t : Bool). if t then b else a) (le-leb _ _ before)

-- the last moment of what begins at a moment is that moment
pub last_moment-begun : (l m : Moment) (H : List Entry) → moment_ms l ≡ moment_ms m → list_all (begins_at m) H ≡ true →
    moment_ms (last_moment l H) ≡ moment_ms m
last_moment-begun l m [] same begun = same
last_moment-begun l m (e ∷ H) same begun =
    let parts = and_parts (begins_at m e) (list_all (begins_at m) H) begun in
    let at : moment_ms e.at ≡ moment_ms m = eqb-true _ _ (and_parts (is_beginning e.what) _ parts.0).1 in
    last_moment-begun e.at m H at parts.1

-- so an entry at that moment comes next at its own moment
pub moment_used-begun : (H : List Entry) (m : Moment) → list_all (begins_at m) H ≡ true → moment_used H m ≡ m
moment_used-begun H m begun =
    let last : moment_ms (last_moment m H) ≡ moment_ms m = last_moment-begun m m H refl begun in
    later-second (last_moment m H) m (omega (arith, last))

-- what a farm begins with closes nothing
beginning-opens : (w : What) → is_beginning w ≡ true → is_closing w ≡ false
beginning-opens Closed h = absurd (true≢false (sym h))
beginning-opens w h = refl

pub is_closed-begun : (H : List Entry) (m : Moment) → list_all (begins_at m) H ≡ true → is_closed H ≡ false
is_closed-begun [] m begun = refl
is_closed-begun (e ∷ H) m begun =
    let parts = and_parts (begins_at m e) (list_all (begins_at m) H) begun in
    let opens : is_closing e.what ≡ false = beginning-opens e.what (and_parts (is_beginning e.what) _ parts.0).0 in
    ap (λ (b : Bool). b || is_closed H) opens ∙ is_closed-begun H m parts.1

-- a part that no founding and no carried order has is none of what a farm begins with
pub parts-begun : {X : Type 0} (part : What → Option X) → ((w : What) → is_beginning w ≡ true → part w ≡ None) →
    (H : List Entry) (m : Moment) → list_all (begins_at m) H ≡ true → filter_map (λ (e : Entry). part e.what) H ≡ []
parts-begun part none [] m begun = refl
parts-begun part none (e ∷ H) m begun =
    let parts = and_parts (begins_at m e) (list_all (begins_at m) H) begun in
    let nothing : part e.what ≡ None = none e.what (and_parts (is_beginning e.what) _ parts.0).0 in
    ap (λ (o : Option _). cons_option o (filter_map (λ (x : Entry). part x.what) H)) nothing
    ∙ parts-begun part none H m parts.1

no-order : (w : What) → is_beginning w ≡ true → order_in w ≡ None
no-order (Ordered key agent order commit search day) h = absurd (true≢false (sym h))
no-order w h = refl

pub order_lines-begun : (H : List Entry) (m : Moment) → list_all (begins_at m) H ≡ true → order_lines H ≡ []
order_lines-begun = parts-begun order_in no-order
