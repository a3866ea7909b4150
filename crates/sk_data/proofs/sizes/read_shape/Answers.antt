use Rattle.std.proofs.Common.{Some, None, sym, ◌∙◌}
use Rattle.sk_data.proofs.SizesRead.{shape_found}
use Rattle.sk_data.proofs.sizes.read_shape.Goals as goal

pub returns-in-Some : goal.returns-in-Some
returns-in-Some c =
    let read = rw c.in-Some.is at c.in_ok-sizes.ensures in
    c.new.ensures.value ∙ rw c.as_slice.ensures.value (shape_found c.args.kind c.args.text.now (Some c.in-Some.sizes.items) (sym c.has_parts.ensures ∙ c.if-not-has_parts.false) read)

pub returns-in-None : goal.returns-in-None
returns-in-None c =
    let read = rw c.in-None.is at c.in_ok-sizes.ensures in
    shape_found c.args.kind c.args.text.now None (sym c.has_parts.ensures ∙ c.if-not-has_parts.false) read
