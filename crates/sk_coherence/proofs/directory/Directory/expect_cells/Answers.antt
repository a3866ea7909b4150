use Rattle.std.proofs.Common.{refl, subst}
use Rattle.sk_spaces.specs.Machine.{Machine}
use Rattle.sk_coherence_laws.specs.Directory.{DirectoryView}
use Rattle.sk_coherence_laws.specs.Traced.{IsLike}
use Rattle.sk_coherence_laws.proofs.RoomForSends.{like-roomed, makes-messages, sound-messages}
use Rattle.sk_coherence.proofs.directory.Directory.expect_cells.Goals as goal

pub invariant_of-self : goal.invariant_of-self
invariant_of-self g c =
    let d : DirectoryView = record { spaces = c.self.inside.spaces; copies = c.self.inside.copies.entries; stores = c.self.inside.stores.entries; next = c.self.inside.next; ready = c.self.inside.ready; owed = c.self.inside.owed; named = c.self.inside.named; messages = c.self.inside.messages; aside = c.self.inside.aside } in
    let n : DirectoryView = record d { messages = c.reserve.new.self } in
    sound-messages d n c.self.invariant refl c.reserve.ensures.same

pub returns-in_err-reserve-clause-traced : goal.returns-in_err-reserve-clause-traced
returns-in_err-reserve-clause-traced g c =
    let d : DirectoryView = record { spaces = c.self.inside.spaces; copies = c.self.inside.copies.entries; stores = c.self.inside.stores.entries; next = c.self.inside.next; ready = c.self.inside.ready; owed = c.self.inside.owed; named = c.self.inside.named; messages = c.self.inside.messages; aside = c.self.inside.aside } in
    let n : DirectoryView = record d { messages = c.reserve.new.self } in
    subst (λ (d : DirectoryView). (m : Machine) → IsLike m d → IsLike m n) c.self.view_is
    (like-roomed d n (makes-messages d n refl c.reserve.ensures.same))

pub invariant_of-self-2 : goal.invariant_of-self-2
invariant_of-self-2 g c =
    let d : DirectoryView = record { spaces = c.self.inside.spaces; copies = c.self.inside.copies.entries; stores = c.self.inside.stores.entries; next = c.self.inside.next; ready = c.self.inside.ready; owed = c.self.inside.owed; named = c.self.inside.named; messages = c.self.inside.messages; aside = c.self.inside.aside } in
    let n : DirectoryView = record d { messages = c.reserve.new.self } in
    sound-messages d n c.self.invariant refl c.reserve.ensures.same

pub returns-clause-traced : goal.returns-clause-traced
returns-clause-traced g c =
    let d : DirectoryView = record { spaces = c.self.inside.spaces; copies = c.self.inside.copies.entries; stores = c.self.inside.stores.entries; next = c.self.inside.next; ready = c.self.inside.ready; owed = c.self.inside.owed; named = c.self.inside.named; messages = c.self.inside.messages; aside = c.self.inside.aside } in
    let n : DirectoryView = record d { messages = c.reserve.new.self } in
    subst (λ (d : DirectoryView). (m : Machine) → IsLike m d → IsLike m n) c.self.view_is
    (like-roomed d n (makes-messages d n refl c.reserve.ensures.same))
