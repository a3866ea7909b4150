use Rattle.std.proofs.Common.{◌≡◌, ◌∙◌, ◌+◌, ℕ, length, subst}
use Rattle.std.specs.Prelude.{Ok, Err}
use Rattle.sk_formula.specs.Elements.{mapped}
use Rattle.sk_formula.specs.Skeletons.{prefix_fold}
use Rattle.sk_seq.proofs.ScanLemmas.{scan_done, scan_trapped}
use Rattle.sk_seq.proofs.scans.scan.Goals as goal
use Rattle.sk_seq.specs.Given.{functions_over}

pub returns-in-Ok-clause-values : goal.returns-in-Ok-clause-values
returns-in-Ok-clause-values g c cells agree =
    let meaning = g.K.Kernel.means c.args.kernel.now in
    let source = g.D.Data.means c.args.source.now in
    subst (λ (n : ℕ). mapped (prefix_fold (functions_over meaning source cells) c.args.settings.now.exclusive c.args.front c.args.part.lo) c.args.part.lo n ≡ Ok c.scan_cells.new.out) c.requires.count
    (scan_done meaning source cells c.args.front c.args.part.lo (length c.args.out.now) c.load.new.out agree c.load.ensures.count c.load.ensures.cells
    c.args.settings.now.exclusive c.scan_cells.new.out (c.scan_cells.ensures.count ∙ c.load.ensures.count) c.in-Ok.ensures.values)

pub returns-in-Err-clause-values : goal.returns-in-Err-clause-values
returns-in-Err-clause-values g c cells agree =
    let meaning = g.K.Kernel.means c.args.kernel.now in
    let source = g.D.Data.means c.args.source.now in
    subst (λ (n : ℕ). mapped (prefix_fold (functions_over meaning source cells) c.args.settings.now.exclusive c.args.front c.args.part.lo) c.args.part.lo n
    ≡ Err (record { trap = c.in-Err.trapped.trap; element = c.args.part.lo + c.in-Err.trapped.offset })) c.requires.count
    (scan_trapped meaning source cells c.args.front c.args.part.lo (length c.args.out.now) c.load.new.out agree c.load.ensures.count c.load.ensures.cells
    c.args.settings.now.exclusive c.scan_cells.new.out c.in-Err.trapped (c.scan_cells.ensures.count ∙ c.load.ensures.count) c.in-Err.ensures.values)
