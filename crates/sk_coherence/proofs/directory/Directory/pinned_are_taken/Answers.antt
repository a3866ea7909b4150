use Rattle.std.proofs.Common.{◌≤◌, subst}
use Rattle.sk_spaces.specs.Spaces.{used_at}
use Rattle.sk_copy_states.specs.Loose.{pinned_in}
use Rattle.sk_coherence_laws.specs.Directory.{DirectoryView}
use Rattle.sk_coherence.proofs.TakenLemmas.{pinned-taken, apart-sorted}
use Rattle.sk_coherence.proofs.directory.Directory.pinned_are_taken.Goals as goal

pub returns : goal.returns
returns g c =
    let d : DirectoryView = record { spaces = c.self.inside.spaces; copies = c.self.inside.copies.entries; stores = c.self.inside.stores.entries; next = c.self.inside.next; ready = c.self.inside.ready; owed = c.self.inside.owed; named = c.self.inside.named; messages = c.self.inside.messages; aside = c.self.inside.aside } in
    subst (λ (x : DirectoryView). pinned_in c.args.space x.copies ≤ used_at x.spaces c.args.space) c.self.view_is
    (pinned-taken d c.args.space c.self.invariant (apart-sorted d.copies c.len-copies.ensures.ordered))
