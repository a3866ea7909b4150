use Rattle.std.proofs.Common.{arith, refl, subst}
use Rattle.sk_spaces.specs.Machine.{Machine}
use Rattle.sk_coherence_laws.specs.Directory.{DirectoryView, copy_at}
use Rattle.sk_coherence_laws.specs.Traced.{IsLike}
use Rattle.sk_coherence_laws.proofs.KeptLemmas.{keeps_same, sound-kept, like-same}
use Rattle.sk_coherence.proofs.directory.Directory.reserve.Goals as goal

pub invariant_of-self : goal.invariant_of-self
invariant_of-self g c =
    let d : DirectoryView = record { spaces = c.self.inside.spaces; copies = c.self.inside.copies.entries; stores = c.self.inside.stores.entries; next = c.self.inside.next; ready = c.self.inside.ready; owed = c.self.inside.owed; named = c.self.inside.named; messages = c.self.inside.messages; aside = c.self.inside.aside } in
    let n : DirectoryView = record d { spaces = c.reserve.new.self } in
    sound-kept d n (λ q. keeps_same (copy_at d q)) c.self.invariant c.reserve.ensures.stays.memories (λ t. refl) refl refl refl c.self.invariant.owed
    (omega (arith, c.self.invariant.ready, c.reserve.ensures.stays.spare))

pub invariant_of-self-2 : goal.invariant_of-self-2
invariant_of-self-2 g c =
    let d : DirectoryView = record { spaces = c.self.inside.spaces; copies = c.self.inside.copies.entries; stores = c.self.inside.stores.entries; next = c.self.inside.next; ready = c.self.inside.ready; owed = c.self.inside.owed; named = c.self.inside.named; messages = c.self.inside.messages; aside = c.self.inside.aside } in
    let n : DirectoryView = record d { spaces = c.reserve.new.self; ready = c.in-Some.all } in
    sound-kept d n (λ q. keeps_same (copy_at d q)) c.self.invariant c.reserve.ensures.stays.memories (λ t. refl) refl refl refl
    (omega (arith, c.in-Some.ensures))
    (omega (arith, c.in-Some-checked_add.ensures, c.in_ok-reserve.ensures.ok))

pub returns-in_err-reserve-clause-traced : goal.returns-in_err-reserve-clause-traced
returns-in_err-reserve-clause-traced g c =
    let d : DirectoryView = record { spaces = c.self.inside.spaces; copies = c.self.inside.copies.entries; stores = c.self.inside.stores.entries; next = c.self.inside.next; ready = c.self.inside.ready; owed = c.self.inside.owed; named = c.self.inside.named; messages = c.self.inside.messages; aside = c.self.inside.aside } in
    let n : DirectoryView = record d { spaces = c.reserve.new.self } in
    subst (λ (d : DirectoryView). (m : Machine) → IsLike m d → IsLike m n) c.self.view_is
    (λ m l. like-same d n m c.reserve.ensures.stays.memories refl refl refl refl l)

pub returns-clause-traced : goal.returns-clause-traced
returns-clause-traced g c =
    let d : DirectoryView = record { spaces = c.self.inside.spaces; copies = c.self.inside.copies.entries; stores = c.self.inside.stores.entries; next = c.self.inside.next; ready = c.self.inside.ready; owed = c.self.inside.owed; named = c.self.inside.named; messages = c.self.inside.messages; aside = c.self.inside.aside } in
    let n : DirectoryView = record d { spaces = c.reserve.new.self; ready = c.in-Some.all } in
    subst (λ (d : DirectoryView). (m : Machine) → IsLike m d → IsLike m n) c.self.view_is
    (λ m l. like-same d n m c.reserve.ensures.stays.memories refl refl refl refl l)
