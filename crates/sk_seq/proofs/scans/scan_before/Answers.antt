use Rattle.std.proofs.Common.{◌≡◌, ◌∙◌, ◌<◌, ◌+◌, ℤ, pos, length, arith, rules, sym, subst, w64}
use Rattle.std.proofs.lemmas.Int.{to_z-of_z}
use Rattle.std.specs.Prelude.{Ok, Err, FitsSigned, slice_index_or}
use Rattle.sk_formula.specs.Elements.{joined}
use Rattle.sk_kernel.specs.Kernels.{Meaning}
use Rattle.sk_seq.proofs.Folded.{cell_more}
use Rattle.sk_seq.proofs.ScanLemmas.{before_more, before_traps, kept_behind, ok_each, put_joined, stands_joined}
use Rattle.sk_seq.proofs.scans.scan_before.Goals as goal
use Rattle.sk_seq.specs.Joinings.{MayStand, fold_before}

pub returns-in-Err-clause-values : goal.returns-in-Err-clause-values
returns-in-Err-clause-values g c =
    let now : Meaning = g.K.Kernel.means c.loop-k.kernel in
    let meaning : Meaning = g.K.Kernel.means c.args.kernel.now in
    let fits : FitsSigned w64 (slice_index_or c.loop-k.out c.loop-k.k (pos 0)) = search rules in
    let put : FitsSigned w64 c.unwrap_or.result = search rules in
    let within : c.loop-k.k < length c.loop-k.out = omega (arith, c.loop-k-test.true) in
    let joins : joined now.join c.loop-k.folded (slice_index_or c.args.out.now c.loop-k.k (pos 0)) ≡ Err c.in-Err.trap =
    subst (λ (last : ℤ). joined now.join c.loop-k.folded last ≡ Err c.in-Err.trap)
    (to_z-of_z w64 (slice_index_or c.loop-k.out c.loop-k.k (pos 0)) fits ∙ c.loop-k.invariant.6 c.loop-k.k (omega arith)) (sym c.in-Err.ensures.value) in (
      search rules,
      before_traps now meaning c.args.out.now c.args.front c.loop-k.folded c.loop-k.k c.in-Err.trap c.loop-k.invariant.0 c.loop-k.invariant.3 joins,
      ok_each (fold_before meaning c.args.front c.args.out.now) _ (c.loop-k.k + 1)
          (before_more meaning c.loop-k.out c.args.out.now c.args.front c.loop-k.folded c.loop-k.k _ within c.loop-k.invariant.3
          (to_z-of_z w64 c.unwrap_or.result put ∙ c.unwrap_or.ensures) c.loop-k.invariant.5),
    )

pub loop-k-preserved : goal.loop-k-preserved
loop-k-preserved g c =
    let now : Meaning = g.K.Kernel.means c.loop-k.kernel in
    let meaning : Meaning = g.K.Kernel.means c.args.kernel.now in
    let fits : FitsSigned w64 (slice_index_or c.loop-k.out c.loop-k.k (pos 0)) = search rules in
    let put : FitsSigned w64 c.unwrap_or.result = search rules in
    let size : length c.loop-k.out ≡ length c.args.out.now = c.loop-k.invariant.1 in
    let within : c.loop-k.k < length c.loop-k.out = omega (arith, c.loop-k-test.true) in
    let joins : joined now.join c.loop-k.folded (slice_index_or c.args.out.now c.loop-k.k (pos 0)) ≡ Ok c.in-Ok.more =
    subst (λ (last : ℤ). joined now.join c.loop-k.folded last ≡ Ok c.in-Ok.more)
    (to_z-of_z w64 (slice_index_or c.loop-k.out c.loop-k.k (pos 0)) fits ∙ c.loop-k.invariant.6 c.loop-k.k (omega arith)) (sym c.in-Ok.ensures.value) in (
      c.join_more.ensures.same ∙ c.loop-k.invariant.0,
      search rules,
      omega (arith, c.loop-k-test.true),
      cell_more now meaning c.args.out.now c.args.front c.loop-k.folded c.in-Ok.more c.loop-k.k c.loop-k.invariant.0 c.loop-k.invariant.3 joins,
      subst (λ (m : Meaning). MayStand m c.in-Ok.more) c.loop-k.invariant.0 c.in-Ok.ensures.range,
      before_more meaning c.loop-k.out c.args.out.now c.args.front c.loop-k.folded c.loop-k.k _ within c.loop-k.invariant.3
          (to_z-of_z w64 c.unwrap_or.result put ∙ c.unwrap_or.ensures) c.loop-k.invariant.5,
      kept_behind c.loop-k.out c.args.out.now c.loop-k.k _ c.loop-k.invariant.6,
      put_joined meaning c.loop-k.out c.loop-k.k _ within c.loop-k.invariant.7
          (stands_joined meaning c.loop-k.folded (slice_index_or c.args.out.now c.loop-k.k (pos 0)) _ (c.requires.cells c.loop-k.k (omega arith))
          c.loop-k.invariant.4 (to_z-of_z w64 c.unwrap_or.result put ∙ c.unwrap_or.ensures)),
    )
