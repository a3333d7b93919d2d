-- What an input hands over, from how far it was read.
use Rattle.std.proofs.Common.{◌≡◌, ℕ, ◌+◌, Bool, true, false, List, [], ◌∷◌, ◌++◌, length, Option, Some, None, Result, Ok, Err, refl, sym, ap, ◌∙◌}
use Rattle.std.specs.Prelude.{if◌then◌else◌}
use Rattle.farm_rules.specs.Orders.{Ordered}
use Rattle.judge.specs.Text.{lines, words}
use Rattle.farm_handover.specs.Handover.{at_end, closes, handed_over, is_further, order_in_line, orders_from}

-- the orders from a line on, by the order that it writes, if it writes one
abbrev pub orders_by : List Ordered → (l : ℕ) → List ℕ → List (List ℕ) → Option Ordered → Result (List Ordered) ℕ
orders_by orders l x xs None = if closes (length orders) (words x) then at_end orders (l + 1) xs else Err l
orders_by orders l x xs (Some o) = if is_further orders o then orders_from (orders ++ o ∷ []) (l + 1) xs else Err l

-- a line that writes an order
pub orders_from-order : (orders : List Ordered) (l : ℕ) (x : List ℕ) (xs : List (List ℕ)) (o : Ordered)
    → order_in_line x ≡ Some o → orders_from orders l (x ∷ xs) ≡ orders_by orders l x xs (Some o)
orders_from-order orders l x xs o writes = ap (orders_by orders l x xs) writes

-- and one that writes none
pub orders_from-other : (orders : List Ordered) (l : ℕ) (x : List ℕ) (xs : List (List ℕ)) → order_in_line x ≡ None
    → orders_from orders l (x ∷ xs) ≡ orders_by orders l x xs None
orders_from-other orders l x xs writes = ap (orders_by orders l x xs) writes

-- a further order
pub orders_from-more : (orders : List Ordered) (l : ℕ) (x : List ℕ) (xs : List (List ℕ)) (o : Ordered)
    → order_in_line x ≡ Some o → is_further orders o ≡ true
    → orders_from orders l (x ∷ xs) ≡ orders_from (orders ++ o ∷ []) (l + 1) xs
orders_from-more orders l x xs o writes further =
    orders_from-order orders l x xs o writes
    ∙ ap (λ (t : Bool). if t then orders_from (orders ++ o ∷ []) (l + 1) xs else Err l) further

-- an order too many, or for a commit that was read before
pub orders_from-known : (orders : List Ordered) (l : ℕ) (x : List ℕ) (xs : List (List ℕ)) (o : Ordered)
    → order_in_line x ≡ Some o → is_further orders o ≡ false → orders_from orders l (x ∷ xs) ≡ Err l
orders_from-known orders l x xs o writes known =
    orders_from-order orders l x xs o writes
    ∙ ap (λ (t : Bool). if t then orders_from (orders ++ o ∷ []) (l + 1) xs else Err l) known

-- the last line, by what follows it
pub orders_from-last : (orders : List Ordered) (l : ℕ) (x : List ℕ) (xs : List (List ℕ)) → order_in_line x ≡ None
    → closes (length orders) (words x) ≡ true → orders_from orders l (x ∷ xs) ≡ at_end orders (l + 1) xs
orders_from-last orders l x xs writes last =
    orders_from-other orders l x xs writes ∙ ap (λ (t : Bool). if t then at_end orders (l + 1) xs else Err l) last

-- a line that is neither
pub orders_from-outside : (orders : List Ordered) (l : ℕ) (x : List ℕ) (xs : List (List ℕ)) → order_in_line x ≡ None
    → closes (length orders) (words x) ≡ false → orders_from orders l (x ∷ xs) ≡ Err l
orders_from-outside orders l x xs writes other =
    orders_from-other orders l x xs writes ∙ ap (λ (t : Bool). if t then at_end orders (l + 1) xs else Err l) other

-- what the input hands over is what its lines from here on do
pub record GoesOn (input : List ℕ) (orders : List Ordered) (l : ℕ) (left : List (List ℕ)) : Type 0 where
  pub same : handed_over input ≡ orders_from orders l left

-- nothing was read yet
pub GoesOn-start : (input : List ℕ) {orders : List Ordered} {l : ℕ} {left : List (List ℕ)} → orders ≡ [] → l ≡ 1
    → left ≡ lines input → GoesOn input orders l left
GoesOn-start input none first all = rw (none, first, all) (record { same = refl })

-- one order more was read
pub GoesOn-more : {input line : List ℕ} {orders orders' : List Ordered} {l l' : ℕ} {all left : List (List ℕ)}
    (o : Ordered) → GoesOn input orders l all → all ≡ line ∷ left → order_in_line line ≡ Some o
    → is_further orders o ≡ true → orders' ≡ orders ++ o ∷ [] → l' ≡ l + 1 → GoesOn input orders' l' left
GoesOn-more {input} {line} {orders} {orders'} {l} {l'} {all} {left} o so_far first writes further added next =
    rw (added, next)
    (record {
      same = so_far.same ∙ ap (orders_from orders l) first ∙ orders_from-more orders l line left o writes further;
    })

-- an order was one too many
pub GoesOn-known : {input line : List ℕ} {orders : List Ordered} {l l' : ℕ} {all left : List (List ℕ)} (o : Ordered)
    → GoesOn input orders l all → all ≡ line ∷ left → order_in_line line ≡ Some o → is_further orders o ≡ false
    → l' ≡ l → handed_over input ≡ Err l'
GoesOn-known {input} {line} {orders} {l} {l'} {all} {left} o so_far first writes known same =
    rw same (so_far.same ∙ ap (orders_from orders l) first ∙ orders_from-known orders l line left o writes known)

-- a line that writes no order decides
pub GoesOn-decided : {input line : List ℕ} {orders : List Ordered} {l l' : ℕ} {all left : List (List ℕ)}
    {end : Result (List Ordered) ℕ} → GoesOn input orders l all → all ≡ line ∷ left → l' ≡ l
    → orders_from orders l' (line ∷ left) ≡ end → handed_over input ≡ end
GoesOn-decided {input} {line} {orders} {l} {l'} {all} {left} so_far first same decided =
    so_far.same ∙ ap (orders_from orders l) first
    ∙ ap (λ (n : ℕ). orders_from orders n (line ∷ left)) (sym same) ∙ decided

-- no line is left
pub GoesOn-end : {input : List ℕ} {orders : List Ordered} {l l' : ℕ} {all : List (List ℕ)} → GoesOn input orders l all
    → all ≡ [] → l' ≡ l → handed_over input ≡ Err l'
GoesOn-end {input} {orders} {l} {l'} {all} so_far none same = rw same (so_far.same ∙ ap (orders_from orders l) none)
