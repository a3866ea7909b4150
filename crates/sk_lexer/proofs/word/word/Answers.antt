use Rattle.std.proofs.Common.{◌∙◌, refl, sym, arith}
use Rattle.sk_names.specs.Bytes.{is_word_byte}
use Rattle.sk_token_laws.proofs.Prefixes.{length-take_while}
use Rattle.sk_token_laws.proofs.Words.{token_at-word, token_at-long_word}
use Rattle.sk_lexer.proofs.word.word.Goals as goal

pub returns-then-bytes-gt-LONGEST : goal.returns-then-bytes-gt-LONGEST
returns-then-bytes-gt-LONGEST c =
    let rest = c.args.rest.now in
    let bytes = c.word_len-bytes.ensures ∙ length-take_while is_word_byte rest in
    sym (token_at-long_word rest c.requires (omega arith))

pub returns : goal.returns
returns c =
    let rest = c.args.rest.now in
    let bytes = c.word_len-bytes.ensures ∙ length-take_while is_word_byte rest in
    let e = token_at-word rest c.requires (omega arith) in
    let name = c.in_ok-name.ensures {u = tt} in
    rw (e, name, bytes) refl
