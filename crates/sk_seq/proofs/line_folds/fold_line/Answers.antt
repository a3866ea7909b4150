use Rattle.std.proofs.Common.{◌∙◌, sym, subst}
use Rattle.sk_kernel.specs.Kernels.{Meaning}
use Rattle.sk_seq.proofs.LineLemmas.{line_more, line_traps}
use Rattle.sk_seq.proofs.line_folds.fold_line.Goals as goal
use Rattle.sk_seq.specs.Joinings.{MayStand}
use Rattle.sk_seq.specs.Lines.{MayTake}

pub fold_more-requires-clause-may : goal.fold_more-requires-clause-may
fold_more-requires-clause-may g c =
    subst (λ (m : Meaning). MayTake c.args.lines m (g.D.Data.means c.args.source.now) c.args.line c.loop-k.k) (sym c.loop-k.invariant.0)
    (c.requires.may c.loop-k.k c.loop-k-test.true)

pub returns-in-Err-clause-value : goal.returns-in-Err-clause-value
returns-in-Err-clause-value g c cells agree =
    line_traps (g.K.Kernel.means c.loop-k.kernel) (g.K.Kernel.means c.args.kernel.now) c.args.lines (g.D.Data.means c.args.source.now) cells c.args.line c.args.front c.loop-k.folded c.loop-k.k
    c.loop-k.invariant.0 (c.loop-k.invariant.1 cells agree) c.in-Err.trap c.args.operands c.loop-k-test.true (sym (c.in-Err.ensures.value cells agree))

pub loop-k-preserved : goal.loop-k-preserved
loop-k-preserved g c = (
  c.fold_more.ensures.same ∙ c.loop-k.invariant.0,
  λ cells agree.
      line_more (g.K.Kernel.means c.loop-k.kernel) (g.K.Kernel.means c.args.kernel.now) c.args.lines (g.D.Data.means c.args.source.now) cells c.args.line c.args.front c.loop-k.folded c.loop-k.k
      c.loop-k.invariant.0 (c.loop-k.invariant.1 cells agree) c.in-Ok.more (sym (c.in-Ok.ensures.value cells agree)),
  subst (λ (m : Meaning). MayStand m c.in-Ok.more) c.loop-k.invariant.0 c.in-Ok.ensures.range,
)
