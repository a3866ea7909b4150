use Rattle.std.proofs.Common.{◌≤◌, take}
use Rattle.sk_data.specs.Fields.{longest_shape}
use Rattle.sk_data.specs.Reading.{NamesFit}
use Rattle.sk_data.proofs.from_text.longest.Given as goal

abbrev pub invariant-inputs : goal.invariant-inputs
invariant-inputs l = record {
  names : NamesFit (take l.input-index l.declared) l.most;
  shapes : longest_shape ≤ l.most;
}
