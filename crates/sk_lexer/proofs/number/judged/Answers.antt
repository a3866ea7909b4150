use Rattle.std.proofs.Common.{◌≡◌, sym, arith, to_z, pos, w64}
use Rattle.std.proofs.lemmas.Int.{ints}
use Rattle.sk_token_laws.proofs.Numbers.{judged-runs_on, judged-wide, judged-number}
use Rattle.sk_lexer.proofs.number.judged.Goals as goal

pub returns-then-runs_on : goal.returns-then-runs_on
returns-then-runs_on c =
    sym (judged-runs_on c.args.rest.now c.args.bytes c.args.value c.args.is_suffixed (sym (c.if-runs_on.ensures {u = tt})))

pub returns-then-value : goal.returns-then-value
returns-then-value c =
    sym (judged-wide c.args.rest.now c.args.bytes c.args.value c.args.is_suffixed (sym (c.if-runs_on.ensures {u = tt})) (omega arith))

pub returns-else-value : goal.returns-else-value
returns-else-value c =
    let e = judged-number c.args.rest.now c.args.bytes c.args.value c.args.is_suffixed (sym (c.if-runs_on.ensures {u = tt})) (omega arith) in
    let z : to_z w64 c.args.value ≡ pos c.args.value = grind (arith, ints) in
    rw (z, c.type_of-ty.ensures) (sym e)
