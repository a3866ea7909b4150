use Rattle.std.proofs.Common.{◌≡◌, ◌++◌, drop, codes}
use Rattle.std.specs.List.{flat_map}
use Rattle.sk_printed.specs.StatementText.{item_text}
use Rattle.sk_printer.proofs.parts.put_items.Given as goal

-- what is appended and what is left are the whole
abbrev pub invariant-loop-item : goal.invariant-loop-item
invariant-loop-item l =
    l.out.items ++ flat_map (λ item. codes " << " ++ item_text item) (drop l.item-index l.items)
    ≡ l.initial.out.items ++ flat_map (λ item. codes " << " ++ item_text item) l.items
