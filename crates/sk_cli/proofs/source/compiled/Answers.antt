-- A text has no more tokens than bytes, and the program that is compiled is the one that it spells.
use Rattle.std.proofs.Common.{arith, ◌≤◌, ◌≡◌, ◌∙◌, true, List, length, ap, sym, subst}
use Rattle.sk_cli.proofs.Runs.{from-source}
use Rattle.sk_cli.proofs.TokenCount.{few-tokens}
use Rattle.sk_cli.specs.Sources.{Spells}
use Rattle.sk_grammar.specs.Limits.{ReadsWithin, IsFromTextWithin}
use Rattle.sk_tokens.specs.declared.token.Token.{Token}
use Rattle.sk_tree.specs.declared.tree.Program.{Program}
use Rattle.sk_typing.specs.Typing.{IsTyped}
use Rattle.sk_vector_form.specs.VectorForm.{has_vector_form}
use Rattle.sk_vector_laws.specs.Vectors.{IsRunnable}
use Rattle.sk_cli.proofs.source.compiled.Goals as goal

pub parse-requires : goal.parse-requires
parse-requires c =
    let few : length c.in_ok-tokens.tokens.items ≤ length c.args.source.now =
    few-tokens c.args.source.now c.in_ok-tokens.tokens.items c.in_ok-tokens.ensures.all in
    let all : length c.as_slice.result.now ≡ length c.in_ok-tokens.tokens.items = ap length c.as_slice.ensures.value in
    omega (arith, few, all, c.requires)

pub returns-then-has_vector_form-clause-runs : goal.returns-then-has_vector_form-clause-runs
returns-then-has_vector_form-clause-runs c =
    let program : Program = c.in_ok-program.program in
    let looked_at : c.program.result.now ≡ program = c.program.ensures.same ∙ c.in_ok-typed.ensures.same in
    let compiled : c.program-then-has_vector_form.result.now ≡ program = c.program-then-has_vector_form.ensures.same ∙ c.in_ok-typed.ensures.same in
    let reads : ReadsWithin c.in_ok-tokens.tokens.items program =
    subst (λ (tokens : List Token). ReadsWithin tokens program) c.as_slice.ensures.value c.in_ok-program.ensures.found in
    let spelled : Spells c.args.source.now program = (c.in_ok-tokens.tokens.items, c.in_ok-tokens.ensures.all, reads) in
    let typed : IsTyped program = c.in_ok-typed.ensures.typed in
    let form : has_vector_form program ≡ true =
    ap has_vector_form (sym looked_at) ∙ sym c.has_vector_form.ensures ∙ c.if-has_vector_form.true in
    let runs : IsTyped program → IsFromTextWithin program → has_vector_form program ≡ true → IsRunnable c.in_ok-compile.field-0 program =
    subst (λ (p : Program). IsTyped p → IsFromTextWithin p → has_vector_form p ≡ true → IsRunnable c.in_ok-compile.field-0 p) compiled c.in_ok-compile.ensures.runs in
    (program, (spelled, typed, form), runs typed (from-source c.args.source.now program spelled) form)
