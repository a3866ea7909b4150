use Rattle.std.proofs.Common.{◌-◌, ◌<◌, IfSome, IsSome, arith, refl, sym, subst}
use Rattle.sk_spaces.specs.declared.step.Step.TheVariants.{Deliver}
use Rattle.sk_coherence_laws.specs.Directory.{DirectoryView, copy_at, mail_at}
use Rattle.sk_coherence_laws.specs.Sends.{Delivers, KeepsSends}
use Rattle.sk_coherence_laws.specs.Traced.{TracesStep}
use Rattle.sk_coherence.proofs.MailLemmas.{found-ready, found-expected, found-aside, found-spare, comes-sound, comes-delivered, comes-left, comes-traced}
use Rattle.sk_coherence.proofs.directory.Directory.deliver.Goals as goal

pub fill_one-requires-clause-ready : goal.fill_one-requires-clause-ready
fill_one-requires-clause-ready g c =
    let d : DirectoryView = record { spaces = c.self.inside.spaces; copies = c.self.inside.copies.entries; stores = c.self.inside.stores.entries; next = c.self.inside.next; ready = c.self.inside.ready; owed = c.self.inside.owed; named = c.self.inside.named; messages = c.self.inside.messages; aside = c.self.inside.aside } in
    let there : IfSome (mail_at d c.args.message) (λ mail. IsSome (copy_at d mail.target))
    = subst (λ (x : DirectoryView). IfSome (mail_at x c.args.message) (λ mail. IsSome (copy_at x mail.target))) (sym c.self.view_is) c.requires.there in
    found-ready d c.args.message c.in-Some.sent c.self.invariant c.in-Some.ensures.some there

pub fill_one-requires-clause-expected : goal.fill_one-requires-clause-expected
fill_one-requires-clause-expected g c =
    let d : DirectoryView = record { spaces = c.self.inside.spaces; copies = c.self.inside.copies.entries; stores = c.self.inside.stores.entries; next = c.self.inside.next; ready = c.self.inside.ready; owed = c.self.inside.owed; named = c.self.inside.named; messages = c.self.inside.messages; aside = c.self.inside.aside } in
    let there : IfSome (mail_at d c.args.message) (λ mail. IsSome (copy_at d mail.target))
    = subst (λ (x : DirectoryView). IfSome (mail_at x c.args.message) (λ mail. IsSome (copy_at x mail.target))) (sym c.self.view_is) c.requires.there in
    found-expected d c.args.message c.in-Some.sent c.self.invariant c.in-Some.ensures.some there

pub overflow_sub-self : goal.overflow_sub-self
overflow_sub-self g c =
    let d : DirectoryView = record { spaces = c.self.inside.spaces; copies = c.self.inside.copies.entries; stores = c.self.inside.stores.entries; next = c.self.inside.next; ready = c.self.inside.ready; owed = c.self.inside.owed; named = c.self.inside.named; messages = c.self.inside.messages; aside = c.self.inside.aside } in
    let there : IfSome (mail_at d c.args.message) (λ mail. IsSome (copy_at d mail.target))
    = subst (λ (x : DirectoryView). IfSome (mail_at x c.args.message) (λ mail. IsSome (copy_at x mail.target))) (sym c.self.view_is) c.requires.there in
    found-aside d c.args.message c.in-Some.sent c.self.invariant c.in-Some.ensures.some there

pub put-requires-clause-room : goal.put-requires-clause-room
put-requires-clause-room g c =
    let d : DirectoryView = record { spaces = c.self.inside.spaces; copies = c.self.inside.copies.entries; stores = c.self.inside.stores.entries; next = c.self.inside.next; ready = c.self.inside.ready; owed = c.self.inside.owed; named = c.self.inside.named; messages = c.self.inside.messages; aside = c.self.inside.aside } in
    let there : IfSome (mail_at d c.args.message) (λ mail. IsSome (copy_at d mail.target))
    = subst (λ (x : DirectoryView). IfSome (mail_at x c.args.message) (λ mail. IsSome (copy_at x mail.target))) (sym c.self.view_is) c.requires.there in
    found-spare d c.args.message c.in-Some.sent c.self.invariant c.in-Some.ensures.some there

pub invariant_of-self : goal.invariant_of-self
invariant_of-self g c =
    let d : DirectoryView = record { spaces = c.self.inside.spaces; copies = c.self.inside.copies.entries; stores = c.self.inside.stores.entries; next = c.self.inside.next; ready = c.self.inside.ready; owed = c.self.inside.owed; named = c.self.inside.named; messages = c.self.inside.messages; aside = c.self.inside.aside } in
    let there : IfSome (mail_at d c.args.message) (λ mail. IsSome (copy_at d mail.target))
    = subst (λ (x : DirectoryView). IfSome (mail_at x c.args.message) (λ mail. IsSome (copy_at x mail.target))) (sym c.self.view_is) c.requires.there in
    let n : DirectoryView = record d { spaces = c.put.new.spaces; copies = c.fill_one.new.copies.entries; messages = c.take.new.self; aside = c.self.inside.aside - 1 } in
    let aside : 0 < d.aside = found-aside d c.args.message c.in-Some.sent c.self.invariant c.in-Some.ensures.some there in
    comes-sound d c.args.message c.in-Some.sent c.self.invariant c.in-Some.ensures.some there n c.cells.result.now c.cells.ensures.cells c.fill_one.ensures.filled c.fill_one.ensures.others c.put.ensures c.take.ensures
    refl refl refl refl refl (omega (arith, aside))

pub returns-clause-delivered : goal.returns-clause-delivered
returns-clause-delivered g c =
    let d : DirectoryView = record { spaces = c.self.inside.spaces; copies = c.self.inside.copies.entries; stores = c.self.inside.stores.entries; next = c.self.inside.next; ready = c.self.inside.ready; owed = c.self.inside.owed; named = c.self.inside.named; messages = c.self.inside.messages; aside = c.self.inside.aside } in
    let there : IfSome (mail_at d c.args.message) (λ mail. IsSome (copy_at d mail.target))
    = subst (λ (x : DirectoryView). IfSome (mail_at x c.args.message) (λ mail. IsSome (copy_at x mail.target))) (sym c.self.view_is) c.requires.there in
    let n : DirectoryView = record d { spaces = c.put.new.spaces; copies = c.fill_one.new.copies.entries; messages = c.take.new.self; aside = c.self.inside.aside - 1 } in
    let aside : 0 < d.aside = found-aside d c.args.message c.in-Some.sent c.self.invariant c.in-Some.ensures.some there in
    subst (λ (x : DirectoryView). IfSome (mail_at x c.args.message) (Delivers x n c.args.message)) c.self.view_is
    (comes-delivered d c.args.message c.in-Some.sent c.self.invariant c.in-Some.ensures.some there n c.cells.result.now c.cells.ensures.cells c.fill_one.ensures.filled c.fill_one.ensures.others c.put.ensures c.take.ensures
    refl refl refl refl refl (omega (arith, aside)))

pub returns-clause-left : goal.returns-clause-left
returns-clause-left g c =
    let d : DirectoryView = record { spaces = c.self.inside.spaces; copies = c.self.inside.copies.entries; stores = c.self.inside.stores.entries; next = c.self.inside.next; ready = c.self.inside.ready; owed = c.self.inside.owed; named = c.self.inside.named; messages = c.self.inside.messages; aside = c.self.inside.aside } in
    let there : IfSome (mail_at d c.args.message) (λ mail. IsSome (copy_at d mail.target))
    = subst (λ (x : DirectoryView). IfSome (mail_at x c.args.message) (λ mail. IsSome (copy_at x mail.target))) (sym c.self.view_is) c.requires.there in
    let n : DirectoryView = record d { spaces = c.put.new.spaces; copies = c.fill_one.new.copies.entries; messages = c.take.new.self; aside = c.self.inside.aside - 1 } in
    let aside : 0 < d.aside = found-aside d c.args.message c.in-Some.sent c.self.invariant c.in-Some.ensures.some there in
    subst (λ (x : DirectoryView). KeepsSends x n) c.self.view_is
    (comes-left d c.args.message c.in-Some.sent c.self.invariant c.in-Some.ensures.some there n c.cells.result.now c.cells.ensures.cells c.fill_one.ensures.filled c.fill_one.ensures.others c.put.ensures c.take.ensures
    refl refl refl refl refl (omega (arith, aside)))

pub returns-clause-traced : goal.returns-clause-traced
returns-clause-traced g c =
    let d : DirectoryView = record { spaces = c.self.inside.spaces; copies = c.self.inside.copies.entries; stores = c.self.inside.stores.entries; next = c.self.inside.next; ready = c.self.inside.ready; owed = c.self.inside.owed; named = c.self.inside.named; messages = c.self.inside.messages; aside = c.self.inside.aside } in
    let there : IfSome (mail_at d c.args.message) (λ mail. IsSome (copy_at d mail.target))
    = subst (λ (x : DirectoryView). IfSome (mail_at x c.args.message) (λ mail. IsSome (copy_at x mail.target))) (sym c.self.view_is) c.requires.there in
    let n : DirectoryView = record d { spaces = c.put.new.spaces; copies = c.fill_one.new.copies.entries; messages = c.take.new.self; aside = c.self.inside.aside - 1 } in
    let aside : 0 < d.aside = found-aside d c.args.message c.in-Some.sent c.self.invariant c.in-Some.ensures.some there in
    subst (λ (x : DirectoryView). TracesStep x n (Deliver c.args.message)) c.self.view_is
    (comes-traced d c.args.message c.in-Some.sent c.self.invariant c.in-Some.ensures.some there n c.cells.result.now c.cells.ensures.cells c.fill_one.ensures.filled c.fill_one.ensures.others c.put.ensures c.take.ensures
    refl refl refl refl refl (omega (arith, aside)))
