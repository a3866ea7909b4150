use Rattle.std.proofs.Common.{◌∙◌, sym}
use Rattle.sk_types.specs.Numbers.{noted}
use Rattle.sk_types.proofs.NumberLemmas.{kept, noted_new}
use Rattle.sk_types.proofs.numbers.note.Goals as goal

pub returns-then-contains_key : goal.returns-then-contains_key
returns-then-contains_key c =
    λ other. kept (noted c.args.numbers.now) c.args.name.now other c.args.number (sym c.if-contains_key.true ∙ c.contains_key.ensures)

pub returns : goal.returns
returns c =
    noted_new c.args.numbers.now.entries c.insert.new.self.entries c.in_ok-from_slice.field-0 c.args.name.now c.args.number
    c.in_ok-from_slice.ensures.items
    (sym c.if-contains_key.false ∙ c.contains_key.ensures)
    c.in_ok-insert.ensures.entries
