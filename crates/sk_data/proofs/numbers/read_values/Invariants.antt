use Rattle.sk_data.specs.RecordText.{fields_of}
use Rattle.sk_data.proofs.Fields.{IsAtValue, ValuesRead}
use Rattle.sk_data.proofs.numbers.read_values.Given as goal

abbrev pub invariant-values : goal.invariant-values
invariant-values l = record {
  read : ValuesRead l.ty (fields_of l.fields) l.at l.cells.items;
  next : IsAtValue (fields_of l.fields) l.at l.rest;
}
