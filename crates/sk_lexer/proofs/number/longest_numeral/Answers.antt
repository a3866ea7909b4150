use Rattle.std.proofs.Common.{◌≡◌, ◌∙◌, ◌-◌, ◌^◌, min, length, take, drop, slice_index, sym, subst}
use Rattle.std.specs.Prelude.{◌==◌, take_while}
use Rattle.std.proofs.lemmas.List.{take_rest}
use Rattle.std.proofs.lemmas.Bool.{and_parts, eqb-true}
use Rattle.sk_names.specs.Bytes.{is_digit}
use Rattle.sk_tokens.specs.Lexemes.{is_hex_digit, digits_value}
use Rattle.sk_token_laws.specs.Fronts.{IsLongestNumeral}
use Rattle.sk_token_laws.proofs.Prefixes.{length-take_while}
use Rattle.sk_token_laws.proofs.Numbers.{decimal, hexadecimal, zero_numeral}
use Rattle.sk_lexer.proofs.number.longest_numeral.Goals as goal

pub returns-then-rest-ne48 : goal.returns-then-rest-ne48
returns-then-rest-ne48 c =
    let rest = c.args.rest.now in
    let value = c.value_of-value.result in
    let e = c.digits_len-bytes.ensures ∙ length-take_while is_digit rest in
    let same = subst (λ n. value ≡ min (digits_value 10 (take n rest)) (2 ^ 64 - 1)) e c.value_of-value.ensures in
    subst (λ n. IsLongestNumeral rest n value) (sym e) (decimal rest value c.requires c.if-rest-ne48.true same)

pub returns-then-begins_hex : goal.returns-then-begins_hex
returns-then-begins_hex c =
    let rest = c.args.rest.now in
    let count = c.hex_digits_len-bytes.result in
    let value = c.value_of-value-then-begins_hex.result in
    let digits = take_rest rest 2 in
    let e = subst (λ ds. count ≡ length (take_while is_hex_digit ds)) digits c.hex_digits_len-bytes.ensures ∙ length-take_while is_hex_digit (drop 2 rest) in
    let same = subst (λ ds. value ≡ min (digits_value 16 (take count ds)) (2 ^ 64 - 1)) digits c.value_of-value-then-begins_hex.ensures in
    let both = and_parts (slice_index rest 1 == 120) (is_hex_digit (slice_index rest 2)) (sym (c.if-begins_hex.ensures {u = tt})) in
    hexadecimal rest value count c.if-rest-ne48.false (eqb-true (slice_index rest 1) 120 both.0) both.1 e same

pub returns-else-begins_hex : goal.returns-else-begins_hex
returns-else-begins_hex c = zero_numeral c.args.rest.now c.if-rest-ne48.false (sym (c.if-begins_hex.ensures {u = tt}))
