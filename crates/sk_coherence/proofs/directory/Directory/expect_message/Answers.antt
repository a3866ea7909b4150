use Rattle.std.proofs.Common.{◌≡◌, IfSome, refl, sym, subst}
use Rattle.sk_spaces.specs.Machine.{Machine}
use Rattle.sk_copy_states.specs.Stores.{changes_in}
use Rattle.sk_coherence_laws.specs.Directory.{DirectoryView, copy_at, store_at}
use Rattle.sk_coherence_laws.specs.Traced.{IsLike}
use Rattle.sk_coherence_laws.proofs.RoomForSends.{like-roomed, makes-copies, expects-one, expects-same, sound-expected, sound-listed}
use Rattle.sk_coherence.proofs.directory.Directory.expect_message.Goals as goal

pub invariant_of-self : goal.invariant_of-self
invariant_of-self g c =
    let d : DirectoryView = record { spaces = c.self.inside.spaces; copies = c.self.inside.copies.entries; stores = c.self.inside.stores.entries; next = c.self.inside.next; ready = c.self.inside.ready; owed = c.self.inside.owed; named = c.self.inside.named; messages = c.self.inside.messages; aside = c.self.inside.aside } in
    let n : DirectoryView = record d { copies = c.expect_one.new.copies.entries } in
    sound-listed d n c.self.invariant refl c.in_err-expect_one.ensures.err

pub returns-in_err-expect_one-clause-traced : goal.returns-in_err-expect_one-clause-traced
returns-in_err-expect_one-clause-traced g c =
    let d : DirectoryView = record { spaces = c.self.inside.spaces; copies = c.self.inside.copies.entries; stores = c.self.inside.stores.entries; next = c.self.inside.next; ready = c.self.inside.ready; owed = c.self.inside.owed; named = c.self.inside.named; messages = c.self.inside.messages; aside = c.self.inside.aside } in
    let n : DirectoryView = record d { copies = c.expect_one.new.copies.entries } in
    subst (λ (d : DirectoryView). (m : Machine) → IsLike m d → IsLike m n) c.self.view_is
    (like-roomed d n (makes-copies d n refl (expects-same d n c.in_err-expect_one.ensures.err)))

pub invariant_of-self-2 : goal.invariant_of-self-2
invariant_of-self-2 g c =
    let d : DirectoryView = record { spaces = c.self.inside.spaces; copies = c.self.inside.copies.entries; stores = c.self.inside.stores.entries; next = c.self.inside.next; ready = c.self.inside.ready; owed = c.self.inside.owed; named = c.self.inside.named; messages = c.self.inside.messages; aside = c.self.inside.aside } in
    let n : DirectoryView = record d { copies = c.expect_one.new.copies.entries } in
    let e = c.in_ok-expect_one.ensures in
    let room : IfSome (copy_at d c.args.copy.id) (λ held. c.owed_changes-room.result ≡ changes_in (store_at d held.store))
    = subst (λ (x : DirectoryView). IfSome (copy_at x c.args.copy.id) (λ held. c.owed_changes-room.result ≡ changes_in (store_at x held.store))) (sym c.self.view_is) c.owed_changes-room.ensures in
    sound-expected d n c.args.copy.id 1 c.owed_changes-room.result c.self.invariant refl e.ok e.others e.room room

pub returns-clause-traced : goal.returns-clause-traced
returns-clause-traced g c =
    let d : DirectoryView = record { spaces = c.self.inside.spaces; copies = c.self.inside.copies.entries; stores = c.self.inside.stores.entries; next = c.self.inside.next; ready = c.self.inside.ready; owed = c.self.inside.owed; named = c.self.inside.named; messages = c.self.inside.messages; aside = c.self.inside.aside } in
    let n : DirectoryView = record d { copies = c.expect_one.new.copies.entries } in
    let e = c.in_ok-expect_one.ensures in
    subst (λ (d : DirectoryView). (m : Machine) → IsLike m d → IsLike m n) c.self.view_is
    (like-roomed d n (makes-copies d n refl (expects-one d n c.args.copy.id 1 e.ok e.others)))
