use Rattle.std.proofs.Common.{◌≡◌, Some, None, sym, string_bytes}
use Rattle.std.specs.List.{position}
use Rattle.sk_outside.proofs.Lookups.{has_name, look_up-set, look_up-set_other, look_up-push, look_up-push_other}
use Rattle.sk_outside.proofs.memory_files.store.Goals as goal

pub returns-in-Some-clause-stored : goal.returns-in-Some-clause-stored
returns-in-Some-clause-stored c =
    let found : position (has_name (string_bytes c.args.name)) c.args.files.now.items ≡ Some c.in-Some.place =
    rw (← c.deref.ensures.value, ← c.deref-2.ensures) (sym c.in-Some.ensures) in
    look_up-set (string_bytes c.args.name) c.args.files.now.items c.in-Some.place c.index_mut.result.now c.args.bytes found c.index_mut.ensures.value

pub returns-in-Some-clause-others : goal.returns-in-Some-clause-others
returns-in-Some-clause-others c = λ other differs.
    let found : position (has_name (string_bytes c.args.name)) c.args.files.now.items ≡ Some c.in-Some.place =
    rw (← c.deref.ensures.value, ← c.deref-2.ensures) (sym c.in-Some.ensures) in
    look_up-set_other (string_bytes c.args.name) other c.args.files.now.items c.in-Some.place c.index_mut.result.now c.args.bytes found c.index_mut.ensures.value differs

pub returns-in_ok-push-in-None-clause-stored : goal.returns-in_ok-push-in-None-clause-stored
returns-in_ok-push-in-None-clause-stored c =
    let none : position (has_name (string_bytes c.args.name)) c.args.files.now.items ≡ None =
    rw (← c.deref.ensures.value, ← c.deref-2.ensures) (sym c.in-None.ensures) in
    rw c.in_ok-push-in-None.ensures.items (look_up-push c.args.files.now.items c.args.name c.args.bytes none)

pub returns-in_ok-push-in-None-clause-others : goal.returns-in_ok-push-in-None-clause-others
returns-in_ok-push-in-None-clause-others c = λ other differs.
    rw c.in_ok-push-in-None.ensures.items (look_up-push_other other c.args.files.now.items c.args.name c.args.bytes differs)
