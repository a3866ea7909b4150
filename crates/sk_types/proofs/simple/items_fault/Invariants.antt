use Rattle.std.proofs.Common.{◌≡◌, take}
use Rattle.sk_typing.specs.TypingFaults.{least_of}
use Rattle.sk_typing.specs.TypingStatements as statements
use Rattle.sk_typing.specs.TypingFaults.{first_told}
use Rattle.sk_types.specs.Told.{seen}
use Rattle.sk_types.proofs.simple.items_fault.Given as goal

abbrev pub invariant-loop-item : goal.invariant-loop-item
invariant-loop-item l =
    l.least ≡ first_told (λ item. least_of (statements.item_faults (seen l.around) l.scopes item)) (take l.item-index l.items)
