use Rattle.sk_data.proofs.ReadingOn.{IsPassed}
use Rattle.sk_data.proofs.records.at_record.Given as goal

abbrev pub invariant-ends : goal.invariant-ends
invariant-ends l = IsPassed l.text l.at
