use Rattle.std.proofs.Common.{◌≡◌, map, take, slice_index_or, Option, IfSome, IsSome, refl, sym, subst, ap, ◌∙◌}
use Rattle.std.proofs.lemmas.Option.{slice_get-get_or}
use Rattle.sk_copies.specs.declared.CopyId.{CopyId}
use Rattle.sk_copy_states.specs.declared.held.Held.{Held}
use Rattle.sk_copy_states.specs.Copies.{ExpectsMore}
use Rattle.sk_coherence_laws.specs.Directory.{DirectoryView, copy_at}
use Rattle.sk_coherence_laws.specs.Sends.{count_in}
use Rattle.sk_coherence_laws.proofs.TracedWrite.{some_home}
use Rattle.sk_coherence_laws.proofs.RoomForSends.{expects-taken}
use Rattle.sk_coherence.proofs.directory.Directory.expect_each.Goals as goal

pub expect_message-requires : goal.expect_message-requires
expect_message-requires g c =
    let to = c.args.to.now in
    let copy : CopyId = slice_index_or to c.copies.at (record { id = 0 }) in
    let there : IsSome (copy_at c.args.self.now copy.id)
    = subst (λ (o : Option CopyId). IfSome o (λ copy. IsSome (copy_at c.args.self.now copy.id))) (slice_get-get_or to c.copies.at (record { id = 0 }) c.copies-test.true)
    (c.requires.there c.copies.at) in
    record { there = some_home (copy_at c.args.self.now copy.id) (copy_at c.copies.self copy.id) (sym (c.copies.invariant.each copy.id).home) there }

pub returns-in_err-expect_message-clause-makes : goal.returns-in_err-expect_message-clause-makes
returns-in_err-expect_message-clause-makes g c = λ q. (
  count_in q (map (λ copy. copy.id) (take c.copies.at c.args.to.now)),
  subst (λ (o : Option Held). ExpectsMore (count_in q (map (λ copy. copy.id) (take c.copies.at c.args.to.now))) (copy_at c.args.self.now q) o)
      (sym (c.in_err-expect_message.ensures.err q)) (c.copies.invariant.each q),
)

pub copies-preserved : goal.copies-preserved
copies-preserved g c =
    let a = c.args.self.now in
    let b = c.copies.self in
    let n = c.expect_message.new.self in
    let to = c.args.to.now in
    let none : CopyId = record { id = 0 } in
    let copy : CopyId = slice_index_or to c.copies.at none in
    let moved : n ≡ record b { copies = n.copies } = c.expect_message.ensures.same in
    let carried : record b { copies = n.copies } ≡ record a { copies = n.copies } = ap (λ (x : DirectoryView). record x { copies = n.copies }) c.copies.invariant.same in
    record {
      each = expects-taken (copy_at a) (copy_at b) (copy_at n) copy.id c.in_ok-expect_message.ensures.ok c.expect_message.ensures.others (λ (copy : CopyId). copy.id) to c.copies.at none
          c.copies-test.true refl c.copies.invariant.each;
      same = moved ∙ carried;
      traced = λ m like. c.expect_message.ensures.traced m (c.copies.invariant.traced m like);
    }

pub returns-clause-makes : goal.returns-clause-makes
returns-clause-makes g c = λ q. (count_in q (map (λ copy. copy.id) (take c.copies.at c.args.to.now)), c.copies.invariant.each q)
