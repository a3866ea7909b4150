use Rattle.sk_vm_rows.specs.Calls.{IsReady}
use Rattle.sk_vm_rows.proofs.calls.expect.Given as goal

-- the frame stays as it was made
abbrev pub invariant-loop-a : goal.invariant-loop-a
invariant-loop-a g l = IsReady l.object l.function l.frame
