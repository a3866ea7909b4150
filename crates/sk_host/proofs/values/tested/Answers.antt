use Rattle.std.proofs.Common.{rules, ◌≡◌, ◌-◌, ◌∙◌, sym, ap, pos, suc, ℕ, FitsSigned, w64, slice_index_or, to_z, of_z, arith}
use Rattle.std.proofs.lemmas.Int.{to_z-of_z}
use Rattle.std.specs.Prelude.{if◌then◌else◌}
use Rattle.sk_meaning.specs.Expressions.{holds}
use Rattle.sk_host.specs.declared.machine.Lead.TheVariants.{Goes}
use Rattle.sk_vm.proofs.Arms.{taken, not_taken}
use Rattle.sk_vm.proofs.Values.{last-is}
use Rattle.sk_host.proofs.values.tested.Goals.{then-value-eq0, else-value-eq0}
use Rattle.sk_host.proofs.values.tested.Goals as goal

pub returns : goal.returns
returns c =
    let value = slice_index_or c.args.stack.now (c.args.stand.top - 1) (pos 0) in
    let fits : FitsSigned w64 c.last-value.result = search rules in
    let is : c.last-value.result ≡ value = last-is c.args.stack.now c.args.stand.top c.last-value.result _ c.requires.some c.last-value.ensures in
    let at : c.if-value-eq0.at ≡ (if holds value then suc c.args.stand.at else c.args.to) =
    elim c.if-value-eq0.branch [
      | then-value-eq0 w ↦ taken value _ _ _ (sym is ∙ sym (to_z-of_z w64 c.last-value.result fits) ∙ ap (to_z w64) w.if-value-eq0.true) w.at-is
      | else-value-eq0 w ↦ not_taken value _ _ _ (λ same. w.if-value-eq0.false (ap (of_z w64) (is ∙ same))) (w.at-is ∙ omega arith)
    ] in
    ap (λ (n : ℕ). Goes (record { at = n; top = c.args.stand.top - 1 })) at
