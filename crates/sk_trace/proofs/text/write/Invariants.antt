use Rattle.std.proofs.Common.{◌≡◌, take}
use Rattle.sk_trace.specs.Text.{written_of}
use Rattle.sk_trace.proofs.text.write.Given as goal

abbrev pub invariant-steps : goal.invariant-steps
invariant-steps l = l.text.items ≡ written_of (take l.step-index l.steps)
