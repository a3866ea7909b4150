use Rattle.std.proofs.Common.{◌≡◌, ◌∙◌, ◌<◌, ℤ, pos, length, arith, rules, sym, subst, w64}
use Rattle.std.proofs.lemmas.Int.{to_z-of_z}
use Rattle.std.specs.Prelude.{Ok, FitsSigned, slice_index_or}
use Rattle.sk_formula.specs.Elements.{joined}
use Rattle.sk_kernel.specs.Kernels.{Meaning}
use Rattle.sk_seq.proofs.Folded.{cell_more}
use Rattle.sk_seq.proofs.ScanLemmas.{kept_behind, put_joined, stands_joined, upto_more}
use Rattle.sk_seq.proofs.scans.scan_upto.Goals as goal
use Rattle.sk_seq.specs.Joinings.{MayStand}

pub loop-k-preserved : goal.loop-k-preserved
loop-k-preserved g c =
    let now : Meaning = g.K.Kernel.means c.loop-k.kernel in
    let meaning : Meaning = g.K.Kernel.means c.args.kernel.now in
    let cell : ℤ = slice_index_or c.loop-k.out c.loop-k.k (pos 0) in
    let fits : FitsSigned w64 (slice_index_or c.loop-k.out c.loop-k.k (pos 0)) = search rules in
    let put : FitsSigned w64 c.unwrap_or.result = search rules in
    let size : length c.loop-k.out ≡ length c.args.out.now = c.loop-k.invariant.1 in
    let within : c.loop-k.k < length c.loop-k.out = omega (arith, c.loop-k-test.true) in
    let joins : joined now.join c.loop-k.folded (slice_index_or c.args.out.now c.loop-k.k (pos 0)) ≡ Ok c.in-Ok.more =
    subst (λ (last : ℤ). joined now.join c.loop-k.folded last ≡ Ok c.in-Ok.more)
    (to_z-of_z w64 (slice_index_or c.loop-k.out c.loop-k.k (pos 0)) fits ∙ c.loop-k.invariant.5 c.loop-k.k (omega arith)) (sym c.in-Ok.ensures.value) in (
      c.join_more.ensures.same ∙ c.loop-k.invariant.0,
      search rules,
      cell_more now meaning c.args.out.now c.args.front c.loop-k.folded c.in-Ok.more c.loop-k.k c.loop-k.invariant.0 c.loop-k.invariant.2 joins,
      subst (λ (m : Meaning). MayStand m c.in-Ok.more) c.loop-k.invariant.0 c.in-Ok.ensures.range,
      upto_more now meaning c.loop-k.out c.args.out.now c.args.front c.loop-k.folded c.in-Ok.more c.loop-k.k _ c.loop-k.invariant.0 within c.loop-k.invariant.2 joins
          (to_z-of_z w64 c.unwrap_or.result put ∙ c.unwrap_or.ensures) c.loop-k.invariant.4,
      kept_behind c.loop-k.out c.args.out.now c.loop-k.k _ c.loop-k.invariant.5,
      put_joined meaning c.loop-k.out c.loop-k.k _ within c.loop-k.invariant.6
          (stands_joined meaning c.in-Ok.more (slice_index_or c.args.out.now c.loop-k.k (pos 0)) _ (c.requires.cells c.loop-k.k (omega arith))
          (subst (λ (m : Meaning). MayStand m c.in-Ok.more) c.loop-k.invariant.0 c.in-Ok.ensures.range) (to_z-of_z w64 c.unwrap_or.result put ∙ c.unwrap_or.ensures)),
    )
