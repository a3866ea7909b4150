use Rattle.sk_vm_rows.proofs.Taking.{counting-takes, calling-takes, guarding-takes, choosing-takes, widening-takes, truncating-takes, inverting-takes}
use Rattle.sk_vm_rows.proofs.calls.Called.number.Goals as goal

pub returns-in-Counting : goal.returns-in-Counting
returns-in-Counting c = counting-takes

pub returns-in-Calling : goal.returns-in-Calling
returns-in-Calling c = calling-takes

pub returns-in-Guarding : goal.returns-in-Guarding
returns-in-Guarding c = guarding-takes

pub returns-in-Choosing : goal.returns-in-Choosing
returns-in-Choosing c = choosing-takes

pub returns-in-Widening : goal.returns-in-Widening
returns-in-Widening c = widening-takes

pub returns-in-Truncating : goal.returns-in-Truncating
returns-in-Truncating c = truncating-takes

pub returns-in-Inverting : goal.returns-in-Inverting
returns-in-Inverting c = inverting-takes
