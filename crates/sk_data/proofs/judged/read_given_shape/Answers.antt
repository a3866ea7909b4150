use Rattle.std.proofs.Common.{arith}
use Rattle.sk_data.specs.RecordText.{fields_of, most_of}
use Rattle.sk_data.proofs.Fields.{shape_second}
use Rattle.sk_data.proofs.Short.{shape_short, short_some}
use Rattle.sk_data.proofs.judged.read_given_shape.Goals as goal

pub returns-in-Some : goal.returns-in-Some
returns-in-Some c =
    let found = short_some (most_of c.args.fields.now) (fields_of c.args.fields.now) 1 c.in-Some.text.now (rw c.in-Some.is at c.shape.ensures) in
    rw (← shape_second c.args.input.now (fields_of c.args.fields.now) c.in-Some.text.now found) c.read_shape.ensures

pub returns-in-None : goal.returns-in-None
returns-in-None c =
    shape_short c.args.input.now (fields_of c.args.fields.now) (most_of c.args.fields.now) c.args.fields.now.held.roomy (omega arith) (rw c.in-None.is at c.shape.ensures)
