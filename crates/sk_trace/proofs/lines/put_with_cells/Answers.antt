use Rattle.std.proofs.Common.{map}
use Rattle.std.specs.Fmt.{decimal, signed_decimal}
use Rattle.sk_trace.proofs.Puts.{and_spaced}
use Rattle.sk_trace.proofs.lines.put_with_cells.Goals as goal

pub returns : goal.returns
returns c =
    and_spaced c.args.out.now.items c.put_spaced.new.out.items c.put_spaced-2.new.out.items (map decimal c.args.numbers.now)
    (map signed_decimal c.args.cells.now) c.in_ok-put_spaced.ensures c.in_ok-put_spaced-2.ensures
