use Rattle.std.proofs.Common.{arith, ap}
use Rattle.sk_coherence_laws.specs.Directory.{DirectoryView}
use Rattle.sk_coherence_laws.specs.Sends.{MakesRoom}
use Rattle.sk_coherence_laws.proofs.RoomForSends.{makes-trans, makes-aside, makes-messages, keeps-roomed}
use Rattle.sk_coherence.proofs.directory.Directory.expect_messages.Goals as goal

pub returns-in_err-expect_cells-clause-kept : goal.returns-in_err-expect_cells-clause-kept
returns-in_err-expect_cells-clause-kept g c =
    let a = c.args.self.now in
    let b = c.set_aside.new.self in
    let n = c.expect_cells.new.self in
    let s = c.set_aside.ensures in
    let e = c.expect_cells.ensures in
    let made : MakesRoom a n = makes-trans a b n (makes-aside a b s.same s.spaces) (makes-messages b n e.same e.messages) in
    keeps-roomed a n made
    (omega (arith, ap (λ (x : DirectoryView). x.messages.room) s.same, c.in_err-expect_cells.ensures.err_room))
    (omega (arith, ap (λ (x : DirectoryView). x.messages.cells) s.same, c.in_err-expect_cells.ensures.err_cells))
    (omega (arith, c.in_ok-set_aside.ensures.ok, ap (λ (x : DirectoryView). x.aside) e.same))

pub returns-clause-kept : goal.returns-clause-kept
returns-clause-kept g c =
    let a = c.args.self.now in
    let b = c.set_aside.new.self in
    let n = c.expect_cells.new.self in
    let s = c.set_aside.ensures in
    let e = c.expect_cells.ensures in
    let made : MakesRoom a n = makes-trans a b n (makes-aside a b s.same s.spaces) (makes-messages b n e.same e.messages) in
    keeps-roomed a n made
    (omega (arith, ap (λ (x : DirectoryView). x.messages.room) s.same, c.in_ok-expect_cells.ensures.room))
    (omega (arith, ap (λ (x : DirectoryView). x.messages.cells) s.same, c.in_ok-expect_cells.ensures.cells))
    (omega (arith, c.in_ok-set_aside.ensures.ok, ap (λ (x : DirectoryView). x.aside) e.same))
