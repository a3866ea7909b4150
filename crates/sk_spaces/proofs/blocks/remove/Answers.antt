use Rattle.std.proofs.Common.{◌≡◌, Option, Some, None, IfSome, sym}
use Rattle.sk_spaces.specs.Blocks.{BlockView}
use Rattle.sk_spaces.proofs.UsedLemmas.{used-remove}
use Rattle.sk_spaces.proofs.blocks.remove.Goals as goal

for_some : (o p : Option BlockView) (P : BlockView → Type 0) → o ≡ p → ((b : BlockView) → p ≡ Some b → P b) → IfSome o P
for_some None p P is all = tt
for_some (Some b) p P is all = all b (sym is)

pub returns-clause-used : goal.returns-clause-used
returns-clause-used c =
    for_some c.remove.result _ _ c.remove.ensures.value
    (λ b found space. rw (c.remove.ensures.entries) (used-remove c.args.blocks.now.entries c.args.id b space found))
