use Rattle.std.proofs.Common.{◌∙◌, sym}
use Rattle.sk_token_laws.proofs.Numbers.{token_at-suffixed, token_at-plain}
use Rattle.sk_lexer.proofs.number.number.Goals as goal

pub returns-then-has_suffix : goal.returns-then-has_suffix
returns-then-has_suffix c =
    let numeral = c.longest_numeral-bytes in
    let suffix = sym (c.if-has_suffix.ensures {u = tt}) in
    c.judged.ensures ∙ sym (token_at-suffixed c.args.rest.now numeral.result.bytes numeral.result.value c.requires numeral.ensures suffix)

pub returns-else-has_suffix : goal.returns-else-has_suffix
returns-else-has_suffix c =
    let numeral = c.longest_numeral-bytes in
    let no_suffix = sym (c.if-has_suffix.ensures {u = tt}) in
    c.judged-else-has_suffix.ensures ∙ sym (token_at-plain c.args.rest.now numeral.result.bytes numeral.result.value c.requires numeral.ensures no_suffix)
