use Rattle.std.proofs.Common.{◌≡◌, ◌∙◌, ◌<◌, ℤ, pos, Ok, length, length-append, ap, sym, subst, arith}
use Rattle.std.specs.Prelude.{Err, IsOk, Result}
use Rattle.std.proofs.lemmas.List.{get_or_append_left}
use Rattle.sk_base.specs.declared.number.Trap.{Trap}
use Rattle.sk_kernel.specs.Kernels.{Meaning, given_by}
use Rattle.sk_seq.proofs.Mapped.{agree_held, cells_held}
use Rattle.sk_seq.proofs.operands.fill_before.Goals as goal
use Rattle.sk_seq.specs.Operands.{operand_at}

pub split_at_mut-before-requires : goal.split_at_mut-before-requires
split_at_mut-before-requires g c =
    let source = g.D.Data.means c.args.source.now in
    let values = c.in-Err.ensures.values (cells_held source) (agree_held source) in
    let less : c.in-Err.trapped.offset < length c.fill.new.out = values.0 in
    omega arith

-- a value and a trap at once
both : (r : Result ℤ Trap) (trap : Trap) → IsOk r → r ≡ Err trap → ⊥
both r trap ok is = no (subst IsOk is ok)
  where
    no : IsOk {T = ℤ} (Err trap) → ⊥
    no h = cc

pub unreachable-requires : goal.unreachable-requires
unreachable-requires g c =
    let source = g.D.Data.means c.args.source.now in
    let values = c.in-Err.ensures.values (cells_held source) (agree_held source) in
    let again = c.in-Err-fill.ensures.values (cells_held source) (agree_held source) in
    let size : length c.split_at_mut-before.result.0.now ≡ c.in-Err.trapped.offset = c.split_at_mut-before.ensures.front_len in
    let kept : length c.fill-in-Err.new.out ≡ length c.split_at_mut-before.result.0.now = c.fill-in-Err.ensures.count in
    let less : c.in-Err-fill.field-0.offset < length c.fill-in-Err.new.out = again.0 in
    let small : c.in-Err-fill.field-0.offset < c.in-Err.trapped.offset = omega arith in
    both (operand_at c.args.operands (g.K.Kernel.means c.args.kernel.now) (given_by source (cells_held source)) c.args.first c.in-Err-fill.field-0.offset) c.in-Err-fill.field-0.trap
    (values.2 c.in-Err-fill.field-0.offset small)
    (ap (λ (m : Meaning). operand_at c.args.operands m (given_by source (cells_held source)) c.args.first c.in-Err-fill.field-0.offset) (sym c.fill.ensures.same) ∙ again.1)

pub returns-in-Ok-fill-clause-values : goal.returns-in-Ok-fill-clause-values
returns-in-Ok-fill-clause-values g c cells agree =
    let source = g.D.Data.means c.args.source.now in
    let values = c.in-Err.ensures.values cells agree in
    let filled = c.in-Ok-fill.ensures.values cells agree in
    let size : length c.split_at_mut-before.result.0.now ≡ c.in-Err.trapped.offset = c.split_at_mut-before.ensures.front_len in
    let kept : length c.fill-in-Err.new.out ≡ length c.split_at_mut-before.result.0.now = c.fill-in-Err.ensures.count in
    let rest = c.split_at_mut-before.ensures.back_len in
    let whole = length-append c.fill-in-Err.new.out c.split_at_mut-before.result.1.now in
    let less : c.in-Err.trapped.offset < length c.fill.new.out = values.0 in
    record {
      each = λ k small.
          let there : k < length c.fill-in-Err.new.out = omega arith in
          ap (λ (m : Meaning). operand_at c.args.operands m (given_by source cells) c.args.first k) (sym c.fill.ensures.same)
          ∙ filled k there
          ∙ ap Ok (sym (get_or_append_left c.fill-in-Err.new.out c.split_at_mut-before.result.1.now (pos 0) k there));
      stops = (omega (arith, rest, whole), values.1);
    }

pub returns-in-Ok-fill-clause-inside : goal.returns-in-Ok-fill-clause-inside
returns-in-Ok-fill-clause-inside g c =
    let source = g.D.Data.means c.args.source.now in
    let values = c.in-Err.ensures.values (cells_held source) (agree_held source) in
    let less : c.in-Err.trapped.offset < length c.fill.new.out = values.0 in
    omega arith
