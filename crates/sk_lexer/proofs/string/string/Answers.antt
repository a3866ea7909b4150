use Rattle.std.proofs.Common.{Some, None, refl, sym, arith}
use Rattle.std.proofs.lemmas.List.{take_rest}
use Rattle.sk_token_laws.proofs.Strings.{token_at-no_string, token_at-string, token_at-long_string}
use Rattle.sk_lexer.proofs.StringFronts.{body_only, body_within}
use Rattle.sk_lexer.proofs.string.string.Goals as goal

pub returns-in-None : goal.returns-in-None
returns-in-None c =
    let rest = c.args.rest.now in
    let told = c.in_ok-up_to_quote.ensures {u = tt} in
    sym (token_at-no_string rest c.requires (body_only rest _ _ None (take_rest rest 1) c.in-None.is told.only))

pub returns-then-len-gt-LONGEST : goal.returns-then-len-gt-LONGEST
returns-then-len-gt-LONGEST c =
    let rest = c.args.rest.now in
    let it = c.in-Some.field-0 in
    let told = c.in_ok-up_to_quote.ensures {u = tt} in
    let within = body_within rest _ _ it (take_rest rest 1) c.in-Some.is told.within in
    let only = body_only rest _ _ (Some it) (take_rest rest 1) c.in-Some.is told.only in
    sym (token_at-long_string rest it.bytes it.text.items c.requires within only (omega (arith, it.text.ok.0)))

pub returns-else-len-gt-LONGEST : goal.returns-else-len-gt-LONGEST
returns-else-len-gt-LONGEST c =
    let rest = c.args.rest.now in
    let it = c.in-Some.field-0 in
    let told = c.in_ok-up_to_quote.ensures {u = tt} in
    let within = body_within rest _ _ it (take_rest rest 1) c.in-Some.is told.within in
    let only = body_only rest _ _ (Some it) (take_rest rest 1) c.in-Some.is told.only in
    let token = token_at-string rest it.bytes it.text.items c.requires within only (omega (arith, it.text.ok.0)) in
    rw (token, c.from_vec.ensures) refl
