use Rattle.std.proofs.Common.{◌≡◌}
use Rattle.sk_data.proofs.FieldsRead.{IsInField}
use Rattle.sk_data.proofs.field.read_field.Given as goal

abbrev pub invariant-bytes : goal.invariant-bytes
invariant-bytes g l = record {
  room : g.T.Taker.room l.taker ≡ g.T.Taker.room l.fn.taker;
  inside : IsInField (g.T.Taker.took l.taker) l.text l.at l.place;
}
