use Rattle.std.proofs.Common.{◌≢◌, subst, sym}
use Rattle.std.proofs.lemmas.Result.{err_from_is_err_and}
use Rattle.sk_grammar.specs.Limits.{ReadsWithin}
use Rattle.sk_tree.specs.declared.tree.Program.{Program}
use Rattle.sk_reader.specs.declared.fault.ParseFault.{ParseFault}
use Rattle.sk_reader.specs.declared.fault.ParseFault.TheVariants.{Memory}
use Rattle.sk_parser.proofs.Told.{told-no_program, told-refusal}
use Rattle.sk_reader.specs.Tells.{Tells}
use Rattle.sk_refusals.specs.Refusals.{IsRefusal}
use Rattle.sk_parser.proofs.program.parse.Goals as goal

pub returns-in_err-functions-clause-refused : goal.returns-in_err-functions-clause-refused
returns-in_err-functions-clause-refused c =
    let (fault, is, same) = err_from_is_err_and c.from_residual.result c.from_residual.ensures.1 in
    let refused : fault ≢ Memory → (program : Program) → ReadsWithin c.args.tokens.now program → ⊥ =
    subst (λ (f : ParseFault). f ≢ Memory → (program : Program) → ReadsWithin c.args.tokens.now program → ⊥) (sym same)
    (told-no_program c.args.tokens.now _ c.in_err-functions.ensures.told) in
    rw is refused

pub returns-in_err-functions-clause-told : goal.returns-in_err-functions-clause-told
returns-in_err-functions-clause-told c =
    let (fault, is, same) = err_from_is_err_and c.from_residual.result c.from_residual.ensures.1 in
    let told : Tells (IsRefusal c.args.tokens.now) fault =
    subst (λ (f : ParseFault). Tells (IsRefusal c.args.tokens.now) f) (sym same) (told-refusal c.args.tokens.now _ c.in_err-functions.ensures.told) in
    rw is told
