use Rattle.std.proofs.Common.{◌≡◌, ℕ, List, length, map, arith, rules, ap}
use Rattle.std.proofs.lemmas.List.{length-map}
use Rattle.sk_copies.specs.declared.CopyId.{CopyId}
use Rattle.sk_coherence_laws.specs.Directory.{DirectoryView}
use Rattle.sk_coherence_laws.proofs.RoomForSends.{makes-trans, makes-copies, keeps-roomed, adds-each}
use Rattle.sk_coherence.proofs.directory.Directory.reserve_sends.Goals as goal

pub returns-in_err-expect_each-clause-kept : goal.returns-in_err-expect_each-clause-kept
returns-in_err-expect_each-clause-kept g c = λ to cells has.
    let b = c.expect_messages.new.self in
    let n = c.expect_each.new.self in
    let e = c.expect_each.ensures in
    keeps-roomed b n (makes-copies b n e.same e.makes)
    (omega (arith, ap (λ (x : DirectoryView). x.messages.room) e.same))
    (omega (arith, ap (λ (x : DirectoryView). x.messages.cells) e.same))
    (omega (arith, ap (λ (x : DirectoryView). x.aside) e.same))
    to cells (c.expect_messages.ensures.kept to cells has)

pub returns-in_err-expect_each-clause-makes : goal.returns-in_err-expect_each-clause-makes
returns-in_err-expect_each-clause-makes g c =
    let b = c.expect_messages.new.self in
    let n = c.expect_each.new.self in
    makes-trans c.args.self.now b n c.expect_messages.ensures.makes (makes-copies b n c.expect_each.ensures.same c.expect_each.ensures.makes)

pub returns-clause-ok : goal.returns-clause-ok
returns-clause-ok g c =
    let b = c.expect_messages.new.self in
    let n = c.expect_each.new.self in
    let m = c.in_ok-expect_messages.ensures in
    let e = c.in_ok-expect_each.ensures in
    let ids : List ℕ = map (λ (copy : CopyId). copy.id) c.args.to.now in
    let len : length ids ≡ length c.args.to.now = length-map c.args.to.now (λ (copy : CopyId). copy.id) in
    let count : c.in-Ok.count ≡ length c.args.to.now = search rules in
    adds-each c.args.self.now b n ids c.args.cells m.makes (makes-copies b n e.same e.makes) e.ok
    (ap (λ (x : DirectoryView). x.messages) e.same)
    (ap (λ (x : DirectoryView). x.aside) e.same)
    (omega (arith, m.room, len, count))
    (omega (arith, m.cells))
    (omega (arith, m.aside, len, count))

pub returns-clause-kept : goal.returns-clause-kept
returns-clause-kept g c = λ to cells has.
    let b = c.expect_messages.new.self in
    let n = c.expect_each.new.self in
    let e = c.expect_each.ensures in
    keeps-roomed b n (makes-copies b n e.same e.makes)
    (omega (arith, ap (λ (x : DirectoryView). x.messages.room) e.same))
    (omega (arith, ap (λ (x : DirectoryView). x.messages.cells) e.same))
    (omega (arith, ap (λ (x : DirectoryView). x.aside) e.same))
    to cells (c.expect_messages.ensures.kept to cells has)

pub returns-clause-makes : goal.returns-clause-makes
returns-clause-makes g c =
    let b = c.expect_messages.new.self in
    let n = c.expect_each.new.self in
    makes-trans c.args.self.now b n c.expect_messages.ensures.makes (makes-copies b n c.expect_each.ensures.same c.expect_each.ensures.makes)
