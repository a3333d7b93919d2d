-- How a batch is gathered from the bytes held.
use Rattle.std.proofs.Common.{ℕ, ◌≡◌, ◌≤◌, ◌<◌, ◌+◌, inl, Bool, false, List, [], ◌∷◌, ◌++◌, length, drop, refl, sym, ap, ◌∙◌, subst, arith, append-nil, length-append, length-drop}
use Rattle.std.proofs.lemmas.List.{drop-drop}
use Rattle.connection_laws.specs.Batches.{AreAsked, AreAtOnce}
use Rattle.http_requests.specs.Fronts.{Opens, behind}
use Rattle.connection_laws.specs.Steps.{IsAsked}
use Rattle.http_requests.proofs.FrontLaws.{opens-append, opens-items, opens-more}
use Rattle.farm_store.specs.declared.asking.Ask.{Ask}
use Rattle.farm_store.specs.declared.asking.TheConstants.{MAX_BATCH}
use Rattle.connection_laws.specs.Moments.{Given}
use Rattle.http_requests.specs.Items.{Item, Items, IsNext, closed}
use Rattle.http_requests.proofs.ItemLaws.{open-some}
use Rattle.http_requests.specs.Next.{IsNextFor, item_in}
use Rattle.http_requests.specs.declared.request.Request.{Request}
use Rattle.farm_http.specs.Batches.{ArePutAs, BatchState, IsBatch, IsPutAs, all_answered}
use Rattle.farm_http.specs.Fronts.{AreFront, AreOpen}

-- a request in the bytes held is the item at their front
pub next-here : (complete : Bool) (held : List ℕ) (request : Request) → IsNextFor complete held request
    → IsNext held (item_in held request)
next-here complete held request n =
    subst (λ (l : List ℕ). IsNext l (item_in held request)) (append-nil held) (n.next [] (λ e. refl))

asked-append : (gives : Given → Type 0) (items : List Item) (item : Item) (asks : List Ask) (ask : Ask)
    → AreAsked gives items asks → IsAsked gives item ask → AreAsked gives (items ++ item ∷ []) (asks ++ ask ∷ [])
asked-append gives [] item [] ask q a = (a, tt)
asked-append gives [] item (other ∷ asks) ask q a = absurd q
asked-append gives (i ∷ items) item [] ask q a = absurd q
asked-append gives (i ∷ items) item (other ∷ asks) ask q a = (q.0, asked-append gives items item asks ask q.1 a)

-- a batch has a command
pub batch-some : (gives : Given → Type 0) (complete : Bool) (held : List ℕ) (b : BatchState)
    → IsBatch gives complete held b → 1 ≤ length b.asks
batch-some gives complete held b is = some b.asks is.asked
  where
    some : (asks : List Ask) → AreAsked gives (is.first ∷ is.others) asks → 1 ≤ length asks
    some [] asked = absurd asked
    some (ask ∷ asks) asked = omega arith

put_as-append : (items : List Item) (item : Item) (requests : List Request) (request : Request)
    → ArePutAs items requests
    → IsPutAs item request → ArePutAs (items ++ item ∷ []) (requests ++ request ∷ [])
put_as-append [] item [] request p a = (a, tt)
put_as-append [] item (other ∷ requests) request p a = absurd p
put_as-append (i ∷ items) item [] request p a = absurd p
put_as-append (i ∷ items) item (other ∷ requests) request p a = (p.0, put_as-append items item requests request p.1 a)

at_once-append : (items : List Item) (item : Item) → AreAtOnce items → item.interim ≡ false
    → AreAtOnce (items ++ item ∷ [])
at_once-append [] item o none = (none, tt)
at_once-append (i ∷ items) item o none = (o.0, at_once-append items item o.1 none)

-- the one item at the front
pub front-one : (complete : Bool) (held : List ℕ) (request : Request) (b : BatchState) → IsNextFor complete held request
    → (request.closes ≡ false → 0 < request.size) → b.size ≡ request.size → b.closes ≡ request.closes
    → AreFront complete held (item_in held request ∷ []) (all_answered b)
front-one complete held request b n some size closes = (
  λ shut more may. (n.next more may, inl (sym closes ∙ shut, refl, refl)),
  λ opened.
      let open_ : request.closes ≡ false = sym closes ∙ opened in
      let least = some open_ in
      let within = n.within in
      record {
        open_ = (next-here complete held request n, open_, tt);
        rest = ap (λ (k : ℕ). drop k held) (sym size);
        within = omega arith;
        few = omega arith;
      },
)

-- a batch of one command
pub batch-one : (gives : Given → Type 0) (complete : Bool) (held : List ℕ) (request : Request) (ask : Ask)
    (b : BatchState)
    → IsNextFor complete held request → (request.closes ≡ false → 0 < request.size)
    → IsAsked gives (item_in held request) ask
    → b ≡ record { asks = ask ∷ []; requests = request ∷ []; size = request.size; closes = request.closes }
    → IsBatch gives complete held b
batch-one gives complete held request ask b n some asked is =
    subst (λ (x : BatchState). IsBatch gives complete held x) (sym is) (record {
      first = item_in held request;
      others = [];
      front = front-one complete held request
          (record { asks = ask ∷ []; requests = request ∷ []; size = request.size; closes = request.closes }) n some
          refl refl;
      asked = (asked, tt);
      put_as = (record { interim = refl; withheld = refl; closes = refl }, tt);
      at_once = tt;
      few = omega arith;
    })

-- behind items of which none closes one more stands
front-more : (complete : Bool) (held : List ℕ) (items : List Item) (size : ℕ) (request : Request) (b : BatchState)
    → AreOpen held items size → IsNextFor complete (drop size held) request
    → (request.closes ≡ false → 0 < request.size)
    → b.size ≡ size + request.size → b.closes ≡ request.closes
    → AreFront complete held (items ++ item_in (drop size held) request ∷ []) (all_answered b)
front-more complete held items size request b a n some sum closes =
    let item = item_in (drop size held) request in
    let at = a.rest in (
      λ shut more may.
          let longer = opens-more held more items a.open_ in
          opens-items (held ++ more) items (item ∷ []) closed longer.0
          (subst (λ (l : List ℕ). Items l (item ∷ []) closed) (ap (λ (l : List ℕ). l ++ more) (sym at) ∙ sym longer.1)
          (n.next more may, inl (sym closes ∙ shut, refl, refl))),
      λ opened.
          let open_ : request.closes ≡ false = sym closes ∙ opened in
          let least = some open_ in
          let within = n.within in
          let lies = a.within in
          let few = a.few in
          let cut = length-drop size held in
          let here : Opens (behind held items) (item ∷ []) =
          subst (λ (l : List ℕ). Opens l (item ∷ [])) (sym at)
          (next-here complete (drop size held) request n, open_, tt) in
          record {
            open_ = opens-append held items (item ∷ []) a.open_ here;
            rest =
                behind-one held items item ∙ ap (λ (l : List ℕ). drop request.size l) at
                ∙ drop-drop request.size size held ∙ ap (λ (k : ℕ). drop k held) (sym sum);
            within = omega arith;
            few = omega (arith, length-append items (item ∷ []));
          },
    )
  where
    behind-one : (bytes : List ℕ) (before : List Item) (item : Item)
        → behind bytes (before ++ item ∷ []) ≡ drop item.size (behind bytes before)
    behind-one bytes [] item = refl
    behind-one bytes (i ∷ before) item = behind-one (drop i.size bytes) before item

-- a batch with one more command
pub batch-more : (gives : Given → Type 0) (complete : Bool) (held : List ℕ) (b more : BatchState) (request : Request)
    (ask : Ask)
    → IsBatch gives complete held b → b.closes ≡ false → length b.asks + 1 ≤ MAX_BATCH
    → IsNextFor complete (drop b.size held) request → request.interim ≡ false
    → (request.closes ≡ false → 0 < request.size)
    → IsAsked gives (item_in (drop b.size held) request) ask
    → more ≡ record {
      asks = b.asks ++ ask ∷ [];
      requests = b.requests ++ request ∷ [];
      size = b.size + request.size;
      closes = request.closes;
    }
    → IsBatch gives complete held more
batch-more gives complete held b more request ask is open_ room n none some asked same =
    let item = item_in (drop b.size held) request in
    subst (λ (x : BatchState). IsBatch gives complete held x) (sym same) (record {
      first = is.first;
      others = is.others ++ item ∷ [];
      front = front-more complete held (is.first ∷ is.others) b.size request
          (record {
            asks = b.asks ++ ask ∷ [];
            requests = b.requests ++ request ∷ [];
            size = b.size + request.size;
            closes = request.closes;
          })
          (is.front.1 open_) n some refl refl;
      asked = asked-append gives (is.first ∷ is.others) item b.asks ask is.asked asked;
      put_as =
          put_as-append (is.first ∷ is.others) item b.requests request is.put_as
          (record { interim = refl; withheld = refl; closes = refl });
      at_once = at_once-append is.others item is.at_once none;
      few = omega (arith, length-append b.asks (ask ∷ []));
    })

-- the same, by what the code finds in the rest of the bytes
pub batch-gathers : (gives : Given → Type 0) (complete : Bool) (held rest : List ℕ) (b more : BatchState)
    (request : Request) (ask : Ask)
    → IsBatch gives complete held b → b.closes ≡ false → length b.asks + 1 ≤ MAX_BATCH → IsNextFor complete rest request
    → rest ≡ drop b.size held → request.interim ≡ false → IsAsked gives (item_in rest request) ask
    → more ≡ record {
      asks = b.asks ++ ask ∷ [];
      requests = b.requests ++ request ∷ [];
      size = b.size + request.size;
      closes = request.closes;
    }
    → IsBatch gives complete held more
batch-gathers gives complete held rest b more request ask is open_ room n at none asked same =
    let here = subst (λ (l : List ℕ). IsNextFor complete l request) at n in
    batch-more gives complete held b more request ask is open_ room here none
    (λ still. open-some (drop b.size held) (item_in (drop b.size held) request)
    (next-here complete (drop b.size held) request here) still)
    (subst (λ (l : List ℕ). IsAsked gives (item_in l request) ask) at asked) same
