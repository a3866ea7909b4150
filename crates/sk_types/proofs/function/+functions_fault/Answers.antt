use Rattle.std.proofs.Common.{ap, Bool, true}
use Rattle.sk_typing.specs.TypingNames.{Around}
use Rattle.sk_typing_laws.proofs.Functions.{functions_told}
use Rattle.sk_types.proofs.function.+functions_fault.Goals as goal

pub returns-in_ok-more-in-len1-up : goal.returns-in_ok-more-in-len1-up
returns-in_ok-more-in-len1-up t c =
    let place : Bool → Around = λ main. record {
      functions = c.args.all.now;
      number = c.args.number;
      in_main = main;
      outermost = true;
      line = c.first-item.result.line;
    } in
    functions_told c.args.all.now c.args.functions.now c.args.number c.args.scopes.now c.function_fault.new.scopes c.first-item.result
    (place c.is_main.result) c.in_ok-told-in-len1-up.told c.in_ok-more-in-len1-up.more c.earlier.result
    c.in-len1-up.len_at_least c.first-item.is (ap place c.is_main.ensures)
    c.in_ok-told-in-len1-up.ensures.told c.in_ok-told-in-len1-up.ensures.names c.in_ok-more-in-len1-up.ensures c.earlier.ensures
