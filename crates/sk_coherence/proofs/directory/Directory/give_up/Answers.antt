use Rattle.std.proofs.Common.{◌≡◌, ℕ, ◌+◌, ◌≤◌, ◌∙◌, refl, ap, sym, subst}
use Rattle.sk_spaces.specs.declared.step.Step.TheVariants.{Stale}
use Rattle.sk_spaces.specs.Spaces.{SpacesView, OnlyNotes}
use Rattle.sk_copy_states.specs.Stores.{len_in}
use Rattle.sk_messages.specs.Messages.{Spoils}
use Rattle.sk_coherence_laws.specs.Directory.{DirectoryView, store_at}
use Rattle.sk_coherence_laws.proofs.NamedMoves.{from_ok}
use Rattle.sk_coherence_laws.proofs.MailLemmas.{spoilt-between, spoilt-twice}
use Rattle.sk_coherence_laws.proofs.CloseLemmas.{leads-given, leads-unowned}
use Rattle.sk_coherence.proofs.LeaveSums.{len_shape}
use Rattle.sk_coherence.proofs.directory.Directory.give_up.Goals as goal

pub returns-then-not-is_owned-clause-traced : goal.returns-then-not-is_owned-clause-traced
returns-then-not-is_owned-clause-traced g c = let a = c.args.self.now in
    leads-unowned a c.args.store.id (len_in (store_at a c.args.store.id)) (c.is_owned.ensures.none c.if-not-is_owned.true)

pub returns-clause-spoilt : goal.returns-clause-spoilt
returns-clause-spoilt g c =
    let a = c.args.self.now in
    let w = c.forget_messages.new.self in
    let n = c.note-2.new.self in
    let s = c.args.store.id in
    let len : c.cells-hi.result ≡ len_in (store_at a s) = len_shape (store_at a s) c.shape.result.now c.cells-hi.result c.requires.there c.shape.ensures c.cells-hi.ensures.value in
    let spoilt : Spoils a.messages n.messages s 0 c.cells-hi.result
    = spoilt-between a.messages a.messages w.messages n.messages s 0 c.cells-hi.result refl c.forget_messages.ensures.spoilt (ap (λ (x : DirectoryView). x.messages) c.note-2.ensures.same) in
    λ left more. spoilt-twice a.messages n.messages left s 0 (len_in (store_at a s)) (subst (λ (h : ℕ). Spoils a.messages n.messages s 0 h) len spoilt) more

pub returns-clause-traced : goal.returns-clause-traced
returns-clause-traced g c =
    let a = c.args.self.now in
    let w = c.forget_messages.new.self in
    let n = c.note-2.new.self in
    let s = c.args.store.id in
    let own = c.is_owned.ensures.some c.if-not-is_owned.false in
    let len : c.cells-hi.result ≡ len_in (store_at a s) = len_shape (store_at a s) c.shape.result.now c.cells-hi.result c.requires.there c.shape.ensures c.cells-hi.ensures.value in
    let spoilt : Spoils a.messages n.messages s 0 c.cells-hi.result
    = spoilt-between a.messages a.messages w.messages n.messages s 0 c.cells-hi.result refl c.forget_messages.ensures.spoilt (ap (λ (x : DirectoryView). x.messages) c.note-2.ensures.same) in
    let ready : w.owed + 1 ≤ w.ready = subst (λ (x : DirectoryView). x.owed + 1 ≤ x.ready) (sym c.forget_messages.ensures.same) c.requires.ready in
    let noted : OnlyNotes w.spaces n.spaces (Stale s 0 c.cells-hi.result) = from_ok c.note-2.result (c.note-2.ensures.succeeds ready) c.note-2.ensures.ok in
    let all : OnlyNotes a.spaces n.spaces (Stale s 0 (len_in (store_at a s)))
    = subst (λ (h : ℕ). OnlyNotes a.spaces n.spaces (Stale s 0 h)) len
    (subst (λ (x : SpacesView). OnlyNotes x n.spaces (Stale s 0 c.cells-hi.result)) (ap (λ (x : DirectoryView). x.spaces) c.forget_messages.ensures.same) noted) in
    leads-given a n s c.is_sound.ensures c.requires.there
    (ap (λ (x : DirectoryView). x.copies) c.note-2.ensures.same ∙ ap (λ (x : DirectoryView). x.copies) c.forget_messages.ensures.same)
    (ap (λ (x : DirectoryView). x.stores) c.note-2.ensures.same ∙ ap (λ (x : DirectoryView). x.stores) c.forget_messages.ensures.same)
    (ap (λ (x : DirectoryView). x.next) c.note-2.ensures.same ∙ ap (λ (x : DirectoryView). x.next) c.forget_messages.ensures.same)
    all.memories (subst (λ (h : ℕ). Spoils a.messages n.messages s 0 h) len spoilt) own.0 own.1 own.2 own.3 all
