use Rattle.std.proofs.Common.{rules, ℤ, ◌+◌, ◌-◌, ◌*◌, ◌∷◌, arith, unwrap_or, FitsSigned, pos, refl, ap, sym, subst, ◌∙◌, w64}
use Rattle.std.proofs.lemmas.Int.{to_z-of_z}
use Rattle.std.proofs.lemmas.Option.{IfSome_then}
use Rattle.sk_columns.specs.Blocks.{Reaches}
use Rattle.sk_columns.specs.Cells.{cell_of}
use Rattle.sk_columns.specs.Locals.{kept_at, stored_in}
use Rattle.sk_columns.specs.declared.level.Level.{Level}
use Rattle.sk_columns.proofs.Stored.{kept-cell}
use Rattle.sk_columns.proofs.statements.value.Goals as goal

pub returns-in-Number : goal.returns-in-Number
returns-in-Number g c place inside rest =
    let slots = c.args.slots.now in
    let known = stored_in slots.least slots.levels.now slots.rows.now slots.block place (g.L.Lanes.known slots.lanes.now place) in
    let fits : FitsSigned w64 c.in-Number.number = search rules in
    subst (λ (x : ℤ). Reaches c.args.instrs.now known c.args.from rest c.args.to (x ∷ rest)) (sym (to_z-of_z w64 c.in-Number.number fits))
    (subst (λ (l : Level). Reaches c.args.instrs.now known c.args.from rest c.args.to (cell_of l c.walk.new.first place known ∷ rest)) c.in-Number.is
    (c.if-not-walk.ensures.reaches refl place inside rest))

pub returns-in-Here : goal.returns-in-Here
returns-in-Here g c place inside rest =
    let slots = c.args.slots.now in
    let known = stored_in slots.least slots.levels.now slots.rows.now slots.block place (g.L.Lanes.known slots.lanes.now place) in
    subst (λ (l : Level). Reaches c.args.instrs.now known c.args.from rest c.args.to (cell_of l c.walk.new.first place known ∷ rest)) c.in-Here.is
    (c.if-not-walk.ensures.reaches refl place inside rest)

pub returns-in_default : goal.returns-in_default
returns-in_default g c place inside rest =
    let slots = c.args.slots.now in
    let own = g.L.Lanes.known slots.lanes.now place in
    let known = stored_in slots.least slots.levels.now slots.rows.now slots.block place own in
    let reaches = subst (λ (l : Level). Reaches c.args.instrs.now known c.args.from rest c.args.to (cell_of l c.walk.new.first place known ∷ rest)) c.in-Column.is
    (c.if-not-walk.ensures.reaches refl place inside rest) in
    subst (λ (x : ℤ). Reaches c.args.instrs.now known c.args.from rest c.args.to (x ∷ rest))
    (ap (λ (l : Level). unwrap_or (kept_at l slots.rows.now ((c.in-Column.slot - slots.least) * slots.block + place) own) (pos 0)) (sym c.level_in.ensures)
    ∙ kept-cell c.level_in.result slots.rows.now c.walk.new.first ((c.in-Column.slot - slots.least) * slots.block + place) place own c.in_default.not-Here) reaches

pub returns-in-Here-level_in : goal.returns-in-Here-level_in
returns-in-Here-level_in g c =
    IfSome_then c.settled.result c.settled.ensures (λ level after place inside rest.
    let slots = c.args.slots.now in
    let own = g.L.Lanes.known slots.lanes.now place in
    let known = stored_in slots.least slots.levels.now slots.rows.now slots.block place own in
    let reaches = subst (λ (l : Level). Reaches c.args.instrs.now known c.args.from rest c.args.to (cell_of l c.walk.new.first place known ∷ rest)) c.in-Column.is
    (c.if-not-walk.ensures.reaches refl place inside rest) in
    subst (λ (l : Level). Reaches c.args.instrs.now known c.args.from rest c.args.to (cell_of l c.settled.new.row place own ∷ rest)) (sym after.0)
    (subst (λ (x : ℤ). Reaches c.args.instrs.now known c.args.from rest c.args.to (x ∷ rest)) (after.1 place (omega (arith, c.walk.auto.first, inside))) reaches))
