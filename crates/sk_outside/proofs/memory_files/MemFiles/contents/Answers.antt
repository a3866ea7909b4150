use Rattle.std.proofs.Common.{sym, ap, ◌∙◌}
use Rattle.sk_outside.proofs.Lookups.{bytes_of, look_up-absent, look_up-at}
use Rattle.sk_outside.proofs.memory_files.MemFiles.contents.Goals as goal

pub returns-in_err-place : goal.returns-in_err-place
returns-in_err-place c =
    let absent = look_up-absent c.args.name.now c.deref.result.now (sym c.in_err-place.ensures) in
    rw (c.from_residual.ensures, ← c.self.view_is) (sym (rw c.deref.ensures.value at absent))

pub returns : goal.returns
returns c =
    let found = look_up-at c.args.name.now c.deref.result.now c.in_ok-place.place c.index.result.now (sym c.in_ok-place.ensures) in
    rw (c.deref-2.ensures.value, ← c.self.view_is) (ap bytes_of c.index.ensures ∙ sym (rw c.deref.ensures.value at found))
