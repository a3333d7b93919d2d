use Rattle.std.proofs.Common.{◌<◌, List, length, refl, sym, subst}
use Rattle.farm_laws.proofs.EntryParts.{skip-told}
use Rattle.plain_farm.specs.declared.rows.Row.{Row}
use Rattle.plain_farm.proofs.Steps.{no-lease, no-search, step-reported, step-reported_none, step-skipped}
use Rattle.plain_farm.proofs.Taking.{HasNoRow}
use Rattle.plain_farm.proofs.rows.take_skip.Goals as goal

pub returns-in_default : goal.returns-in_default
returns-in_default c =
    let told = skip-told c.args.entry.now.what c.args.skip c.requires.skipped in
    absurd (no-lease c.args.history.now c.args.entry.now c.args.rows.now.items c.requires.step c.args.skip.run
    told (sym c.in_default.ensures))

pub returns-in_default-opening_numbered : goal.returns-in_default-opening_numbered
returns-in_default-opening_numbered c =
    let told = skip-told c.args.entry.now.what c.args.skip c.requires.skipped in
    absurd (no-search c.args.history.now c.args.entry.now c.args.rows.now.items c.requires.step c.args.skip.run
    told c.in-Some.lease (sym c.in-Some.ensures) (sym c.in_default-opening_numbered.ensures.found))

pub skipped_row-requires : goal.skipped_row-requires
skipped_row-requires c =
    let told = skip-told c.args.entry.now.what c.args.skip c.requires.skipped in
    let index = c.in-Some-row_place.index in
    let at = c.in-Some-row_place.ensures.found in
    let below = subst (λ (rows : List Row). index < length rows) c.deref.ensures.value at.1 in
    step-skipped c.args.history.now c.args.entry.now c.args.rows.now.items c.requires.step c.args.skip.run
    told c.in-Some.lease (sym c.in-Some.ensures) c.in-Some-opening_numbered.opening.now
    (sym c.in-Some-opening_numbered.ensures.found) c.args.skip c.requires.skipped refl index c.index.result.now at.0 below c.index.ensures

pub returns-in_ok-rows : goal.returns-in_ok-rows
returns-in_ok-rows c =
    let told = skip-told c.args.entry.now.what c.args.skip c.requires.skipped in
    let index = c.in-Some-row_place.index in
    let at = c.in-Some-row_place.ensures.found in
    let below = subst (λ (rows : List Row). index < length rows) c.deref.ensures.value at.1 in
    step-reported c.args.history.now c.args.entry.now c.args.rows.now.items c.requires.step c.args.skip.run
    told c.in-Some.lease (sym c.in-Some.ensures) c.in-Some-opening_numbered.opening.now
    (sym c.in-Some-opening_numbered.ensures.found) index c.in_ok-rows.field-0 at.0 below c.in_ok-rows.ensures

pub returns-in_default-row_place : goal.returns-in_default-row_place
returns-in_default-row_place c =
    let told = skip-told c.args.entry.now.what c.args.skip c.requires.skipped in
    step-reported_none c.args.history.now c.args.entry.now c.args.rows.now.items c.requires.step c.args.skip.run
    told c.in-Some.lease (sym c.in-Some.ensures) c.in-Some-opening_numbered.opening.now
    (sym c.in-Some-opening_numbered.ensures.found)
    (subst (λ (rows : List Row). HasNoRow rows c.in-Some.lease.search) c.deref.ensures.value
    c.in_default-row_place.ensures.none)
