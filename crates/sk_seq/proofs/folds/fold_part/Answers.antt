use Rattle.std.proofs.Common.{◌≡◌, ◌∙◌, ◌+◌, ◌-◌, ◌≤◌, ℕ, ℤ, min, arith, rules, refl, sym, subst}
use Rattle.std.specs.Prelude.{Ok, Err, Result}
use Rattle.sk_formula.specs.Elements.{folded}
use Rattle.sk_base.specs.declared.number.Trap.{Trap}
use Rattle.sk_kernel.specs.Kernels.{Meaning}
use Rattle.sk_seq.proofs.Folded.{behind_part, may_fold_part, upto_all}
use Rattle.sk_seq.proofs.folds.fold_part.Goals as goal
use Rattle.sk_seq.specs.Given.{functions_over}
use Rattle.sk_seq.specs.Joinings.{MayStand}
use Rattle.sk_seq.specs.Operands.{MayFold, operand_of}
use Rattle.sk_seq.specs.Results.{trap_at}

pub fold_piece-requires-clause-may : goal.fold_piece-requires-clause-may
fold_piece-requires-clause-may g c =
    let source = g.D.Data.means c.args.source.now in
    let count_is : c.min-count.result ≡ min (c.args.part.hi - c.loop-done.done) 1024 = search rules in
    let from : c.args.part.lo ≤ c.loop-done.done = c.loop-done.invariant.1 in
    let upto : c.loop-done.done + c.min-count.result ≤ c.args.part.hi = omega (arith, c.loop-done-test.true) in
    subst (λ (m : Meaning). MayFold c.args.operands m source c.loop-done.done c.min-count.result) (sym c.loop-done.invariant.0)
    (may_fold_part c.args.operands (g.K.Kernel.means c.args.kernel.now) source c.args.part.lo c.args.part.hi c.loop-done.done c.min-count.result from upto c.requires.may)

pub returns-in-Err-clause-value : goal.returns-in-Err-clause-value
returns-in-Err-clause-value g c cells agree =
    let meaning = g.K.Kernel.means c.args.kernel.now in
    let source = g.D.Data.means c.args.source.now in
    let count_is : c.min-count.result ≡ min (c.args.part.hi - c.loop-done.done) 1024 = search rules in
    let from : c.args.part.lo ≤ c.loop-done.done = c.loop-done.invariant.1 in
    let upto : c.loop-done.done + c.min-count.result ≤ c.args.part.hi = omega (arith, c.loop-done-test.true) in
    let operand : ℕ → Result ℤ Trap = operand_of c.args.operands (functions_over meaning source cells) in
    upto_all meaning.join operand c.args.front c.args.part.lo (c.loop-done.done + c.min-count.result - c.args.part.lo) (c.args.part.hi - c.args.part.lo) (trap_at c.in-Err.trapped) (omega arith)
    (behind_part meaning.join operand c.args.front c.loop-done.folded c.args.part.lo c.loop-done.done (c.loop-done.done + c.min-count.result) c.min-count.result from refl (c.loop-done.invariant.3 cells agree)
    ∙ subst (λ (m : Meaning). folded m.join (operand_of c.args.operands (functions_over m source cells)) c.loop-done.folded c.loop-done.done c.min-count.result ≡ Err (trap_at c.in-Err.trapped)) c.loop-done.invariant.0
    (c.in-Err.ensures.value cells agree))

pub loop-done-preserved : goal.loop-done-preserved
loop-done-preserved g c =
    let meaning = g.K.Kernel.means c.args.kernel.now in
    let source = g.D.Data.means c.args.source.now in
    let count_is : c.min-count.result ≡ min (c.args.part.hi - c.loop-done.done) 1024 = search rules in
    let from : c.args.part.lo ≤ c.loop-done.done = c.loop-done.invariant.1 in
    let upto : c.loop-done.done + c.min-count.result ≤ c.args.part.hi = omega (arith, c.loop-done-test.true) in (
      c.fold_piece.ensures.same ∙ c.loop-done.invariant.0,
      omega arith,
      upto,
      λ cells agree.
          behind_part meaning.join (operand_of c.args.operands (functions_over meaning source cells)) c.args.front c.loop-done.folded c.args.part.lo c.loop-done.done (c.loop-done.done + c.min-count.result) c.min-count.result from refl (c.loop-done.invariant.3 cells agree)
          ∙ subst (λ (m : Meaning). folded m.join (operand_of c.args.operands (functions_over m source cells)) c.loop-done.folded c.loop-done.done c.min-count.result ≡ Ok c.in-Ok.more) c.loop-done.invariant.0
          (c.in-Ok.ensures.value cells agree),
      subst (λ (m : Meaning). MayStand m c.in-Ok.more) c.loop-done.invariant.0 c.in-Ok.ensures.range,
    )
