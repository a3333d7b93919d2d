-- A chain of farms: each has all orders of those before it.
use Rattle.std.proofs.Common.{◌≡◌, ◌≢◌, ℕ, suc, ◌+◌, ◌<◌, ◌≤◌, ◌==◌, List, [], ◌∷◌, ◌++◌, AllPairs, sym, ap, subst, ◌∙◌, append_assoc, append-nil, arith}
use Rattle.std.proofs.lemmas.Grind.{flat_map-append}
use Rattle.farm_rules.specs.Orders.{Ordered, orders_of}
use Rattle.farm_entry.specs.History.{daily_limit}
use Rattle.farm_entry.specs.Legal.{IsLegal}
use Rattle.farm_entry.specs.Orders.{carried, given, orders}
use Rattle.farm_entry.specs.declared.entry.Entry.{Entry}
use Rattle.farm_laws.proofs.CarriedOver.{orders-split}
use Rattle.farm_laws.proofs.Counts.{count_by-append}
use Rattle.farm_laws.proofs.OrdersOnce.{days-limited_together, orders-once}
use Rattle.farm_laws.proofs.Pairs.{AllPairs-nil}
use Rattle.leaf_laws.specs.Chain.{FollowsOn, IsChain, all_given, all_orders}

-- no two elements of the last part of a list, where no two of all
AllPairs-rest : {X : Type 0} (R : X → X → Type 0) (xs ys : List X) → AllPairs R (xs ++ ys) → AllPairs R ys
AllPairs-rest R [] ys pairs = pairs
AllPairs-rest R (x ∷ xs) ys pairs =
    AllPairs-rest R xs ys (λ i j d before below. pairs (suc i) (suc j) d (omega arith) (omega arith))

-- the first farm of a chain is legal
first-legal : (H : List Entry) (more : List (List Entry)) → FollowsOn H more → IsLegal H
first-legal H [] chain = chain
first-legal H (next ∷ more) chain = chain.0

-- the beginning of a chain, up to one of its farms
chain-first : (H last : List Entry) (before after : List (List Entry)) → FollowsOn H (before ++ last ∷ after) →
    FollowsOn H (before ++ last ∷ [])
chain-first H last [] after chain = (chain.0, chain.1, first-legal last after chain.2)
chain-first H last (next ∷ before) after chain = (chain.0, chain.1, chain-first next last before after chain.2)

-- the last farm has what stood in the first, and then what each farm after that gave
orders-last : (H last : List Entry) (between : List (List Entry)) → FollowsOn H (between ++ last ∷ []) →
    orders last ≡ orders H ++ all_given (between ++ last ∷ [])
orders-last H last [] chain =
    orders-split last chain.2
    ∙ (λ i. chain.1.carried_over i ++ sym (append-nil (given last)) i)
orders-last H last (next ∷ between) chain =
    let rest : List Ordered = all_given (between ++ last ∷ []) in
    let here : orders next ≡ orders H ++ given next =
    orders-split next (first-legal next (between ++ last ∷ []) chain.2)
    ∙ ap (λ (l : List Ordered). l ++ given next) chain.1.carried_over in
    orders-last next last between chain.2
    ∙ ap (λ (l : List Ordered). l ++ rest) here
    ∙ append_assoc (orders H) (given next) rest

pub orders-all : (before : List (List Entry)) (H : List Entry) → IsChain (before ++ H ∷ []) →
    orders H ≡ all_orders (before ++ H ∷ [])
orders-all [] H chain = orders-split H chain ∙ ap (λ (l : List Ordered). carried H ++ l) (sym (append-nil (given H)))
orders-all (first ∷ before) H chain =
    let rest : List Ordered = all_given (before ++ H ∷ []) in
    orders-last first H before chain
    ∙ ap (λ (l : List Ordered). l ++ rest) (orders-split first (first-legal first (before ++ H ∷ []) chain))
    ∙ append_assoc (carried first) (given first) rest

-- No commit is ordered twice.

abbrev Apart : Ordered → Ordered → Type 0
Apart a b = a.commit ≢ b.commit

once-from : (H : List Entry) (more : List (List Entry)) → FollowsOn H more → AllPairs Apart (all_orders (H ∷ more))
once-from H [] chain = subst (AllPairs Apart) (orders-all [] H chain) (orders-once H chain)
once-from H (next ∷ more) chain =
    let rest : List Ordered = all_given (next ∷ more) in
    let same : all_orders (next ∷ more) ≡ all_orders (H ∷ next ∷ more) =
    ap (λ (l : List Ordered). l ++ rest) (chain.1.carried_over ∙ orders-split H chain.0)
    ∙ append_assoc (carried H) (given H) rest in
    subst (AllPairs Apart) same (once-from next more chain.2)

pub once-for_all : (farms : List (List Entry)) → IsChain farms → AllPairs Apart (all_orders farms)
once-for_all [] chain = AllPairs-nil Apart
once-for_all (H ∷ more) chain = once-from H more chain

pub once-given : (farms : List (List Entry)) → IsChain farms → AllPairs Apart (all_given farms)
once-given [] chain = AllPairs-nil Apart
once-given (H ∷ more) chain = AllPairs-rest Apart (carried H) (all_given (H ∷ more)) (once-from H more chain)

-- No day is over the limit of the farm that gave its last order.

orders_of-append : (day : ℕ) (xs ys : List Ordered) → orders_of day (xs ++ ys) ≡ orders_of day xs + orders_of day ys
orders_of-append day xs ys = count_by-append (λ (o : Ordered). o.day == day) xs ys

-- what a chain gave on a day is no more than its last farm has
given-le : (before : List (List Entry)) (H : List Entry) (day : ℕ) → IsChain (before ++ H ∷ []) →
    orders_of day (all_given (before ++ H ∷ [])) ≤ orders_of day (orders H)
given-le [] H day chain =
    omega
    (arith, ap (orders_of day) (orders-all [] H chain), orders_of-append day (carried H) (all_given (H ∷ [])))
given-le (first ∷ before) H day chain =
    omega (
      arith,
      ap (orders_of day) (orders-all (first ∷ before) H chain),
      orders_of-append day (carried first) (all_given (first ∷ before ++ H ∷ [])),
    )

chain-until : (before after : List (List Entry)) (H : List Entry) → IsChain (before ++ H ∷ after) →
    IsChain (before ++ H ∷ [])
chain-until [] after H chain = first-legal H after chain
chain-until (first ∷ before) after H chain = chain-first first H before after chain

-- each farm of a chain is legal
legal-from : (H last : List Entry) (before after : List (List Entry)) → FollowsOn H (before ++ last ∷ after) →
    IsLegal last
legal-from H last [] after chain = first-legal last after chain.2
legal-from H last (next ∷ before) after chain = legal-from next last before after chain.2

legal-at : (before after : List (List Entry)) (H : List Entry) → IsChain (before ++ H ∷ after) → IsLegal H
legal-at [] after H chain = first-legal H after chain
legal-at (first ∷ before) after H chain = legal-from first H before after chain

-- of what a chain gave, what is given after one of its farms is the last part
given-parts : (before after : List (List Entry)) (H : List Entry) (day : ℕ) →
    orders_of day (all_given (before ++ H ∷ after))
    ≡ orders_of day (all_given before) + (orders_of day (given H) + orders_of day (all_given after))
given-parts before after H day =
    ap (orders_of day) (flat_map-append given before (H ∷ after))
    ∙ orders_of-append day (all_given before) (all_given (H ∷ after))
    ∙ ap (λ (n : ℕ). orders_of day (all_given before) + n) (orders_of-append day (given H) (all_given after))

pub day-limited : (before after : List (List Entry)) (H : List Entry) (day : ℕ) → IsChain (before ++ H ∷ after) →
    0 < orders_of day (given H) → orders_of day (all_given after) ≡ 0 →
    orders_of day (all_given (before ++ H ∷ after)) ≤ daily_limit H
day-limited before after H day chain some none =
    let until : IsChain (before ++ H ∷ []) = chain-until before after H chain in
    let legal : IsLegal H = legal-at before after H chain in
    let most : orders_of day (orders H) ≤ daily_limit H = days-limited_together H day legal some in
    let few : orders_of day (all_given (before ++ H ∷ [])) ≤ orders_of day (orders H) = given-le before H day until in
    let whole = given-parts before after H day in
    let first = given-parts before [] H day in
    omega (arith, whole, first, none, few, most)
