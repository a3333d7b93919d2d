use Rattle.std.proofs.Common.{◌≡◌, List, [], ◌∷◌, ◌++◌, refl, sym, ap, subst, ◌∙◌}
use Rattle.std.specs.FinMap.{get, get-empty}
use Rattle.std.specs.Ordering.{nat_cmp}
use Rattle.farm_entry.specs.Legal.{IsLegal}
use Rattle.farm_entry.specs.declared.entry.Entry.{Entry}
use Rattle.farm_entry.specs.declared.entry.What.TheVariants.{Founded}
use Rattle.farm_books.specs.Kept.{AreKeys, AreLeases, AreReports, Places}
use Rattle.farm_books.proofs.Lookups.{keys-none, reports-none}
use Rattle.farm_books.proofs.books.Books.found.Goals as goal

pub invariant_of-result : goal.invariant_of-result
invariant_of-result c =
    let e : Entry = record { at = c.args.at; what = Founded c.args.settings } in
    let is : e ∷ [] ≡ c.push.new.self.items =
    sym (c.in_ok-push.ensures.items ∙ ap (λ (xs : List Entry). xs ++ e ∷ []) c.new-entries.ensures.items) in
    let legal : IsLegal (e ∷ []) = (tt, tt) in
    let keys : AreKeys (e ∷ []) c.start.result.keys =
    λ key. ap (λ (ks : Places). get ks key.0) c.start.ensures.keys ∙ get-empty nat_cmp key.0 ∙ sym (keys-none [] e key refl) in
    let reports : AreReports (e ∷ []) c.start.result.runs =
    λ run. ap (λ (rs : Places). get rs run) c.start.ensures.runs ∙ get-empty nat_cmp run ∙ sym (reports-none [] e run refl) in
    let none : AreLeases (e ∷ []) [] = record { leases_are = refl; marks_are = refl } in
    let leases : AreLeases (e ∷ []) c.start-2.result.leases = subst (AreLeases (e ∷ [])) (sym c.start-2.ensures) none in
    record {
      legal = subst IsLegal is legal;
      keys = subst (λ (H : List Entry). AreKeys H c.start.result.keys) is keys;
      reports = subst (λ (H : List Entry). AreReports H c.start.result.runs) is reports;
      leases = subst (λ (H : List Entry). AreLeases H c.start-2.result.leases) is leases;
    }
