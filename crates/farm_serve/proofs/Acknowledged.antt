-- What is known by rows that are logged is acknowledged.
use Rattle.std.proofs.Common.{◌≡◌, ◌≤◌, ◌++◌, ◌∷◌, [], ℕ, List, length, take, Bool, true, false, arith, ap, refl, sym, subst, zero, suc}
use Rattle.farm_disk.specs.Images.{DiskState, LeavesSince}
use Rattle.farm_disk.proofs.Moments.{leaves-weaker}
use Rattle.farm_entry.specs.declared.entry.Entry.{Entry}
use Rattle.link_io.specs.Notes.{Note}
use Rattle.common_types.specs.Prefix.{IsPrefix}
use Rattle.common_types.proofs.Prefixes.{IsPrefix-nil}
use Rattle.connection_laws.specs.Told.{IsNoted}
use Rattle.common_types.specs.declared.row.Row.{Row}
use Rattle.shared_farm.specs.Logs.{AreLogged, HoldsAll}
use Rattle.shared_farm.proofs.Logging.{holds-earlier, logged-of}
use Rattle.farm_serve.specs.Acknowledged.{IsAcknowledged, acknowledged_by}

-- a beginning that isn't longer begins what is taken
prefix-taken : (H last : List Entry) (n : ℕ) → IsPrefix H last → length H ≤ n → IsPrefix H (take n last)
prefix-taken [] last n begins le = IsPrefix-nil (take n last)
prefix-taken (e ∷ H) last zero begins le = absurd (omega (arith, le))
prefix-taken (e ∷ H) last (suc n) (more, is) le =
    subst (λ (l : List Entry). IsPrefix (e ∷ H) (take (suc n) l)) (sym is)
    (let rest = prefix-taken H (H ++ more) n (more, refl) (omega (arith, le)) in
    (rest.0, ap (λ (l : List Entry). e ∷ l) rest.1))

pub noted-acknowledged : (last : List Entry) (disk : DiskState) (rows : List Row) (notes : List Note) (place : ℕ)
    (H : List Entry) → AreLogged last disk rows → IsPrefix H last → IsNoted rows notes place H
    → IsAcknowledged disk notes place H
noted-acknowledged last disk rows notes place H logged begins n =
    let row = logged-of last disk rows n.row logged n.known in
    record {
      note = n.note;
      noted = n.noted;
      before = n.before;
      since = subst (λ (m : ℕ). LeavesSince m disk.steps (HoldsAll H)) (sym n.same)
          (leaves-weaker n.row.moment disk.steps (HoldsAll (take n.row.entries last)) (HoldsAll H)
          (λ c held. holds-earlier H (take n.row.entries last) c
          (prefix-taken H last n.row.entries begins n.holds) held) row.since);
    }

-- where the disk tells, rows are logged
pub noted-acknowledged_by : (tells : Bool) (last : List Entry) (disk : DiskState) (rows : List Row) (notes : List Note)
    (place : ℕ) (H : List Entry) → (tells ≡ true → AreLogged last disk rows) → IsPrefix H last
    → IsNoted rows notes place H → acknowledged_by tells disk notes place H
noted-acknowledged_by true last disk rows notes place H logged begins n =
    noted-acknowledged last disk rows notes place H (logged refl) begins n
noted-acknowledged_by false last disk rows notes place H logged begins n = tt
