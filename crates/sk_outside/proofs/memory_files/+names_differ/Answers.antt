use Rattle.std.proofs.Common.{◌≡◌, ◌-◌, true, false, refl, sym, ◌∙◌, length, take, drop, is_some, string_bytes}
use Rattle.std.specs.List.{position}
use Rattle.sk_outside.proofs.Lookups.{has_name, names_differ-found, names_differ-new}
use Rattle.sk_outside.proofs.memory_files.+names_differ.Goals as goal

pub returns-then-is_none : goal.returns-then-is_none
returns-then-is_none t c =
    let others = take (length c.args.files.now - 1) (drop 1 c.args.files.now) in
    let none : is_some (position (has_name (string_bytes c.file-item.result.0)) others) ≡ false =
    rw (← c.deref.ensures, ← c.place_of.ensures) c.if-is_none.ensures in
    c.names_differ.ensures ∙ sym (names_differ-new c.args.files.now others c.file-item.result c.in-len1-up.len_at_least c.file-item.is refl none)

pub returns-else-is_none : goal.returns-else-is_none
returns-else-is_none t c =
    let others = take (length c.args.files.now - 1) (drop 1 c.args.files.now) in
    let found : is_some (position (has_name (string_bytes c.file-item.result.0)) others) ≡ true =
    rw (← c.deref.ensures, ← c.place_of.ensures) c.if-is_none.ensures in
    c.if-is_none.false ∙ sym (names_differ-found c.args.files.now others c.file-item.result c.in-len1-up.len_at_least c.file-item.is refl found)
