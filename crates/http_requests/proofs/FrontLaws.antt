-- Items at the front of a connection's bytes.
use Rattle.std.proofs.Common.{ℕ, ◌≡◌, ◌+◌, ◌≤◌, inl, inr, true, false, List, [], ◌∷◌, ◌++◌, length, drop, refl, sym, ap, ◌∙◌, subst, length-append, length-drop, arith}
use Rattle.std.proofs.lemmas.Bool.{false≢true}
use Rattle.std.proofs.lemmas.List.{drop-append-le}
use Rattle.http_requests.specs.Fronts.{Fronts, Opens, behind}
use Rattle.http_requests.specs.Items.{Item, Items, IsNext, End, closed}
use Rattle.http_requests.proofs.ItemLaws.{idle-alone, next-unique, open-append, open-some}

none_before : (first others : List Item) → first ++ others ≡ [] → first ≡ []
none_before [] others none = refl
none_before (i ∷ first) others none = absurd (omega (arith, ap length none, length-append first others))

-- all items stand at the front, and so do the first ones of them
pub items-fronts : (bytes : List ℕ) (items more : List Item) (end : End) → Items bytes (items ++ more) end → Fronts bytes items
items-fronts bytes [] more end x = tt
items-fronts bytes (item ∷ items) more end (p, inl x) = (p, inl (x.0, none_before items more x.1))
items-fronts bytes (item ∷ items) more end (p, inr x) = (p, inr (x.0, items-fronts (drop item.size bytes) items more end x.1))

pub opens-fronts : (bytes : List ℕ) (items : List Item) → Opens bytes items → Fronts bytes items
opens-fronts bytes [] x = tt
opens-fronts bytes (item ∷ items) x = (x.0, inr (x.1, opens-fronts (drop item.size bytes) items x.2))

-- more items behind them, of which the last may close
pub fronts-append : (bytes : List ℕ) (items more : List Item) → Opens bytes items → Fronts (behind bytes items) more → Fronts bytes (items ++ more)
fronts-append bytes [] more x rest = rest
fronts-append bytes (i ∷ items) more x rest = (x.0, inr (x.1, fronts-append (drop i.size bytes) items more x.2 rest))

-- or of which none closes
pub opens-append : (bytes : List ℕ) (items more : List Item) → Opens bytes items → Opens (behind bytes items) more → Opens bytes (items ++ more)
opens-append bytes [] more x rest = rest
opens-append bytes (i ∷ items) more x rest = (x.0, x.1, opens-append (drop i.size bytes) items more x.2 rest)

pub behind-append : (bytes : List ℕ) (items more : List Item) → behind bytes (items ++ more) ≡ behind (behind bytes items) more
behind-append bytes [] more = refl
behind-append bytes (i ∷ items) more = behind-append (drop i.size bytes) items more

-- they are all items, with all that are behind them
pub opens-items : (bytes : List ℕ) (items more : List Item) (end : End) → Opens bytes items → Items (behind bytes items) more end
    → Items bytes (items ++ more) end
opens-items bytes [] more end x rest = rest
opens-items bytes (i ∷ items) more end x rest = (x.0, inr (x.1, opens-items (drop i.size bytes) items more end x.2 rest))

-- more bytes stand behind them
pub opens-more : (bytes more : List ℕ) (items : List Item) → Opens bytes items
    → Opens (bytes ++ more) items × (behind (bytes ++ more) items ≡ behind bytes items ++ more)
opens-more bytes more [] x = (tt, refl)
opens-more bytes more (item ∷ items) x =
    let stays = open-append bytes more item x.0 x.1 in
    let cut : drop item.size (bytes ++ more) ≡ drop item.size bytes ++ more = drop-append-le item.size bytes more stays.1 in
    let rest = opens-more (drop item.size bytes) more items x.2 in (
      (stays.0, x.1, subst (λ (l : List ℕ). Opens l items) (sym cut) rest.0),
      ap (λ (l : List ℕ). behind l items) cut ∙ rest.1,
    )

-- where the last of them closes, and is the same whatever follows, longer bytes have the same items
pub opens-shut : (bytes : List ℕ) (items : List Item) (item : Item) → Opens bytes items → item.closes ≡ true
    → ((more : List ℕ) → IsNext (behind bytes items ++ more) item) → (more : List ℕ) → Items (bytes ++ more) (items ++ item ∷ []) closed
opens-shut bytes items item x shut settled more =
    let m = opens-more bytes more items x in
    opens-items (bytes ++ more) items (item ∷ []) closed m.0
    (subst (λ (l : List ℕ). Items l (item ∷ []) closed) (sym m.1) (settled more, inl (shut, refl, refl)))

-- each of them takes a byte or more, so there are no more of them than bytes before those behind them
pub opens-count : (bytes : List ℕ) (items : List Item) → Opens bytes items → length items + length (behind bytes items) ≤ length bytes
opens-count bytes [] x = omega arith
opens-count bytes (item ∷ items) x =
    let some = open-some bytes item x.0 x.1 in
    let within = (open-append bytes [] item x.0 x.1).1 in
    let rest = opens-count (drop item.size bytes) items x.2 in
    omega (arith, some, within, rest, length-drop item.size bytes)

-- of two lists at the front one begins with the other; where the second is the whole list, the first is its front
pub fronts-prefix : (bytes : List ℕ) (items all : List Item) (end : End) → Fronts bytes items → Items bytes all end
    → (more : List Item) × (all ≡ items ++ more)
fronts-prefix bytes [] all end x y = (all, refl)
fronts-prefix bytes (a ∷ items) [] end x y = absurd (idle-alone bytes a y.0 x.0)
fronts-prefix bytes (a ∷ items) (b ∷ all) end (p, inl x) (q, inl y) =
    let same = next-unique bytes a b p q in
    ([], λ k. sym same k ∷ (y.1 ∙ sym (ap (λ (l : List Item). l ++ []) x.1)) k)
fronts-prefix bytes (a ∷ items) (b ∷ all) end (p, inl x) (q, inr y) =
    absurd (false≢true (sym y.0 ∙ ap (λ (i : Item). i.closes) (sym (next-unique bytes a b p q)) ∙ x.0))
fronts-prefix bytes (a ∷ items) (b ∷ all) end (p, inr x) (q, inl y) =
    absurd (false≢true (sym x.0 ∙ ap (λ (i : Item). i.closes) (next-unique bytes a b p q) ∙ y.0))
fronts-prefix bytes (a ∷ items) (b ∷ all) end (p, inr x) (q, inr y) =
    let same = next-unique bytes a b p q in
    let behind_a = subst (λ (i : Item). Items (drop i.size bytes) all end) (sym same) y.1 in
    let rest = fronts-prefix (drop a.size bytes) items all end x.1 behind_a in
    (rest.0, λ k. sym same k ∷ rest.1 k)

-- Items of which none closes were read, and these bytes are left behind them.
pub record IsReadTo (bytes rest : List ℕ) : Type 0 where
  pub items : List Item
  pub opens : Opens bytes items
  pub left : behind bytes items ≡ rest

-- one item more, that doesn't close
pub read-more : (bytes rest : List ℕ) (item : Item) → IsReadTo bytes rest → IsNext rest item → item.closes ≡ false → IsReadTo bytes (drop item.size rest)
read-more bytes rest item so_far next stays = record {
  items = so_far.items ++ (item ∷ []);
  opens = opens-append bytes so_far.items (item ∷ []) so_far.opens (subst (λ (l : List ℕ). IsNext l item) (sym so_far.left) next, stays, tt);
  left = behind-append bytes so_far.items (item ∷ []) ∙ ap (drop item.size) so_far.left;
}

-- all items, by those that are left
pub read-all : (bytes rest : List ℕ) (items : List Item) (end : End) → IsReadTo bytes rest → Items rest items end
    → (all : List Item) × (last : End) × Items bytes all last
read-all bytes rest items end so_far is = (
  so_far.items ++ items,
  end,
  opens-items bytes so_far.items items end so_far.opens (subst (λ (l : List ℕ). Items l items end) (sym so_far.left) is),
)
