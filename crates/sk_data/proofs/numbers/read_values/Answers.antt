use Rattle.std.proofs.Common.{◌<◌, sym, ◌∙◌, arith, length, rules}
use Rattle.std.specs.Prelude.{FitsSigned}
use Rattle.std.specs.Int.{w64}
use Rattle.std.proofs.lemmas.Int.{to_z-of_z}
use Rattle.sk_data.specs.RecordText.{fields_of}
use Rattle.sk_data.proofs.Fields.{value_behind, value_here, values_more}
use Rattle.sk_data.proofs.numbers.read_values.Goals as goal

pub values-preserved : goal.values-preserved
values-preserved c =
    let below : c.values.at < length (fields_of c.args.fields.now) = let test = c.values-test.true in let counted = c.len-at-end.ensures in omega (arith, test, counted) in
    let told = value_here c.args.ty (fields_of c.args.fields.now) c.values.at c.values.rest.now c.read_value-value.result.0 below c.values.invariant.next
    c.read_value-value.ensures.value in
    let fits : FitsSigned w64 c.in-Some.value = search rules in
    let pushed = simp to_z-of_z at c.in_ok-push-in-Some.ensures.items in
    record {
      read =
          values_more c.args.ty (fields_of c.args.fields.now) c.values.at c.values.cells.items c.push.new.self.items c.in-Some.value below
          (sym c.in-Some.is ∙ told) pushed c.values.invariant.read;
      next =
          value_behind (fields_of c.args.fields.now) c.values.at c.values.rest.now c.read_value-value.result.1.now below c.values.invariant.next
          c.read_value-value.ensures.rest;
    }
