use Rattle.std.proofs.Common.{◌≡◌, ◌∙◌, ◌+◌, ◌<◌, length, arith, rules, sym, subst, w64}
use Rattle.std.proofs.lemmas.Int.{to_z-of_z}
use Rattle.std.specs.Prelude.{FitsSigned}
use Rattle.sk_kernel.specs.Kernels.{Meaning}
use Rattle.sk_seq.proofs.LineLemmas.{line_trapped, line_value, lines_more, lines_trapped, value_joined}
use Rattle.sk_seq.proofs.Mapped.{all_values}
use Rattle.sk_seq.proofs.ScanLemmas.{put_joined}
use Rattle.sk_seq.proofs.line_folds.fold_lines.Goals as goal
use Rattle.sk_seq.specs.Given.{functions_over}
use Rattle.sk_seq.specs.Joinings.{MayStand}
use Rattle.sk_seq.specs.Lines.{MayTake, line_fold}

pub fold_line-requires-clause-may : goal.fold_line-requires-clause-may
fold_line-requires-clause-may g c behind less =
    subst (λ (m : Meaning). MayTake c.args.lines m (g.D.Data.means c.args.source.now) (c.args.units.lo + c.loop-k.k) behind) (sym c.loop-k.invariant.0)
    (c.requires.may (c.args.units.lo + c.loop-k.k) (omega arith) (omega (arith, c.requires.count, c.loop-k-test.true)) behind less)

pub returns-in-Err-clause-values : goal.returns-in-Err-clause-values
returns-in-Err-clause-values g c cells agree =
    let meaning : Meaning = g.K.Kernel.means c.args.kernel.now in
    let source = g.D.Data.means c.args.source.now in
    lines_trapped (line_fold c.args.lines (functions_over meaning source cells) c.args.front c.args.operands) c.args.units.lo c.loop-k.out c.loop-k.k c.in-Err.trap (length c.args.out.now)
    c.loop-k-test.true (c.loop-k.invariant.2 cells agree)
    (line_trapped (g.K.Kernel.means c.loop-k.kernel) meaning c.args.lines source cells (c.args.units.lo + c.loop-k.k) c.args.operands c.args.front c.loop-k.invariant.0 c.in-Err.trap
    (c.in-Err.ensures.value cells agree))

pub loop-k-preserved : goal.loop-k-preserved
loop-k-preserved g c =
    let meaning : Meaning = g.K.Kernel.means c.args.kernel.now in
    let source = g.D.Data.means c.args.source.now in
    let put : FitsSigned w64 c.unwrap_or.result = search rules in
    let size : length c.loop-k.out ≡ length c.args.out.now = c.loop-k.invariant.1 in
    let within : c.loop-k.k < length c.loop-k.out = omega (arith, c.loop-k-test.true) in (
      c.fold_line.ensures.same ∙ c.loop-k.invariant.0,
      search rules,
      λ cells agree.
          lines_more (line_fold c.args.lines (functions_over meaning source cells) c.args.front c.args.operands) c.args.units.lo c.loop-k.out c.loop-k.k _ within (c.loop-k.invariant.2 cells agree)
          (line_value (g.K.Kernel.means c.loop-k.kernel) meaning c.args.lines source cells (c.args.units.lo + c.loop-k.k) c.args.operands c.args.front c.loop-k.invariant.0 c.in-Ok.folded _
          (to_z-of_z w64 c.unwrap_or.result put ∙ c.unwrap_or.ensures) (c.in-Ok.ensures.value cells agree)),
      put_joined meaning c.loop-k.out c.loop-k.k _ within c.loop-k.invariant.3
          (value_joined meaning c.in-Ok.folded _ c.requires.operator (subst (λ (m : Meaning). MayStand m c.in-Ok.folded) c.loop-k.invariant.0 c.in-Ok.ensures.range)
          (to_z-of_z w64 c.unwrap_or.result put ∙ c.unwrap_or.ensures)),
    )

pub returns-clause-values : goal.returns-clause-values
returns-clause-values g c cells agree =
    all_values (line_fold c.args.lines (functions_over (g.K.Kernel.means c.args.kernel.now) (g.D.Data.means c.args.source.now) cells) c.args.front c.args.operands) c.args.units.lo c.loop-k.out (length c.args.out.now)
    c.loop-k.invariant.1 (λ j less. c.loop-k.invariant.2 cells agree j (omega (arith, c.loop-k.invariant.1, c.loop-k-test.false)))
