use Rattle.std.proofs.Common.{sym}
use Rattle.sk_token_laws.proofs.Signs.{BeginsSign, token_at-sign_three, token_at-sign_two, token_at-sign_one, token_at-no_sign}
use Rattle.sk_lexer.proofs.sign.sign.Goals as goal

pub returns-in-Some : goal.returns-in-Some
returns-in-Some c =
    let rest = c.args.rest.now in
    let begins : BeginsSign rest = record { some = c.requires.some; no_letter = c.requires.no_word; no_digit = c.requires.no_number; no_quote = c.requires.no_string } in
    sym (token_at-sign_three rest begins c.in-Some.sign (sym (c.in-Some.ensures {u = tt})))

pub returns-in-Some-first_two : goal.returns-in-Some-first_two
returns-in-Some-first_two c =
    let rest = c.args.rest.now in
    let begins : BeginsSign rest = record { some = c.requires.some; no_letter = c.requires.no_word; no_digit = c.requires.no_number; no_quote = c.requires.no_string } in
    sym (token_at-sign_two rest begins c.in-Some-first_two.sign (sym (c.in_default.ensures {u = tt})) (sym (c.in-Some-first_two.ensures {u = tt})))

pub returns-in-Some-of_one : goal.returns-in-Some-of_one
returns-in-Some-of_one c =
    let rest = c.args.rest.now in
    let begins : BeginsSign rest = record { some = c.requires.some; no_letter = c.requires.no_word; no_digit = c.requires.no_number; no_quote = c.requires.no_string } in
    sym (token_at-sign_one rest begins c.in-Some-of_one.sign (sym (c.in_default.ensures {u = tt})) (sym (c.in_default-first_two.ensures {u = tt})) (sym (c.in-Some-of_one.ensures {u = tt})))

pub returns-in-None : goal.returns-in-None
returns-in-None c =
    let rest = c.args.rest.now in
    let begins : BeginsSign rest = record { some = c.requires.some; no_letter = c.requires.no_word; no_digit = c.requires.no_number; no_quote = c.requires.no_string } in
    sym (token_at-no_sign rest begins (sym (c.in_default.ensures {u = tt})) (sym (c.in_default-first_two.ensures {u = tt})) (sym (c.in-None.ensures {u = tt})))
