use Rattle.std.proofs.Common.{◌≡◌, ◌∙◌, ℤ, pos, rules, sym, subst, w64}
use Rattle.std.proofs.lemmas.Int.{to_z-of_z}
use Rattle.std.specs.Prelude.{Ok, Err, FitsSigned, slice_index_or}
use Rattle.sk_formula.specs.Elements.{joined}
use Rattle.sk_kernel.specs.Kernels.{Meaning}
use Rattle.sk_seq.proofs.Folded.{cell_more, cell_traps}
use Rattle.sk_seq.proofs.folds.fold_cells.Goals as goal
use Rattle.sk_seq.specs.Joinings.{MayStand}

pub returns-in-Err-clause-value : goal.returns-in-Err-clause-value
returns-in-Err-clause-value g c =
    let now : Meaning = g.K.Kernel.means c.loop-k.kernel in
    let fits : FitsSigned w64 (slice_index_or c.args.cells.now c.loop-k.k (pos 0)) = search rules in
    cell_traps now (g.K.Kernel.means c.args.kernel.now) c.args.cells.now c.args.front c.loop-k.folded c.loop-k.k c.args.count c.in-Err.trap
    c.loop-k.invariant.0 c.loop-k-test.true c.loop-k.invariant.1
    (subst (λ (last : ℤ). joined now.join c.loop-k.folded last ≡ Err c.in-Err.trap) (to_z-of_z w64 (slice_index_or c.args.cells.now c.loop-k.k (pos 0)) fits) (sym c.in-Err.ensures.value))

pub loop-k-preserved : goal.loop-k-preserved
loop-k-preserved g c =
    let now : Meaning = g.K.Kernel.means c.loop-k.kernel in
    let fits : FitsSigned w64 (slice_index_or c.args.cells.now c.loop-k.k (pos 0)) = search rules in (
      c.join_more.ensures.same ∙ c.loop-k.invariant.0,
      cell_more now (g.K.Kernel.means c.args.kernel.now) c.args.cells.now c.args.front c.loop-k.folded c.in-Ok.more c.loop-k.k c.loop-k.invariant.0 c.loop-k.invariant.1
          (subst (λ (last : ℤ). joined now.join c.loop-k.folded last ≡ Ok c.in-Ok.more) (to_z-of_z w64 (slice_index_or c.args.cells.now c.loop-k.k (pos 0)) fits) (sym c.in-Ok.ensures.value)),
      subst (λ (m : Meaning). MayStand m c.in-Ok.more) c.loop-k.invariant.0 c.in-Ok.ensures.range,
    )
