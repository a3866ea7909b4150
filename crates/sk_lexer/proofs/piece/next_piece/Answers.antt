use Rattle.std.proofs.Common.{◌∙◌, drop, refl, sym, ap, arith}
use Rattle.std.proofs.lemmas.Bool.{eq-eqb, ne_eqb}
use Rattle.std.proofs.lemmas.List.{take_rest, length-drop}
use Rattle.sk_tokens.specs.Tokens.{comment_rest}
use Rattle.sk_token_laws.proofs.Comments.{comment_rest-within}
use Rattle.sk_token_laws.proofs.Pieces.{piece_at-some}
use Rattle.sk_lexer.proofs.piece.next_piece.Goals as goal

pub returns-then-is_blank : goal.returns-then-is_blank
returns-then-is_blank c =
    let some = piece_at-some c.args.begins_line c.args.rest.now c.requires in
    let blank = sym (c.if-is_blank.ensures {u = tt}) in
    rw (some, blank) refl

pub overflow_add-result : goal.overflow_add-result
overflow_add-result c =
    let rest = c.args.rest.now in
    let ended = ap comment_rest (sym (take_rest rest 2)) ∙ sym (c.in-Some.ensures {u = tt}) in
    let within = comment_rest-within (drop 2 rest) c.in-Some.bytes ended in
    let long = length-drop 2 rest in
    omega (arith, within.1, long)

pub returns-then-starts_with : goal.returns-then-starts_with
returns-then-starts_with c =
    let some = piece_at-some c.args.begins_line c.args.rest.now c.requires in
    let other = sym (c.if-is_blank.ensures {u = tt}) in
    let line = sym c.starts_with.ensures.value ∙ c.if-starts_with.true in
    rw (some, other, line, c.line_len.ensures) refl

pub returns-in-Some : goal.returns-in-Some
returns-in-Some c =
    let some = piece_at-some c.args.begins_line c.args.rest.now c.requires in
    let other = sym (c.if-is_blank.ensures {u = tt}) in
    let no_line = sym c.starts_with.ensures.value ∙ c.if-starts_with.false in
    let block = sym c.starts_with-else-starts_with.ensures.value ∙ c.if-starts_with-2.true in
    let ended = ap comment_rest (sym (take_rest c.args.rest.now 2)) ∙ sym (c.in-Some.ensures {u = tt}) in
    rw (some, other, no_line, block, ended) refl

pub returns-in-None : goal.returns-in-None
returns-in-None c =
    let some = piece_at-some c.args.begins_line c.args.rest.now c.requires in
    let other = sym (c.if-is_blank.ensures {u = tt}) in
    let no_line = sym c.starts_with.ensures.value ∙ c.if-starts_with.false in
    let block = sym c.starts_with-else-starts_with.ensures.value ∙ c.if-starts_with-2.true in
    let ended = ap comment_rest (sym (take_rest c.args.rest.now 2)) ∙ sym (c.in-None.ensures {u = tt}) in
    rw (some, other, no_line, block, ended) refl

pub returns-then-is_include : goal.returns-then-is_include
returns-then-is_include c =
    let some = piece_at-some c.args.begins_line c.args.rest.now c.requires in
    let other = sym (c.if-is_blank.ensures {u = tt}) in
    let no_line = sym c.starts_with.ensures.value ∙ c.if-starts_with.false in
    let no_block = sym c.starts_with-else-starts_with.ensures.value ∙ c.if-starts_with-2.false in
    let hash = eq-eqb _ 35 c.if-rest-eq35.true in
    let include = sym (c.if-is_include.ensures {u = tt}) in
    rw (some, other, no_line, no_block, hash, include, c.line_len-then-is_include.ensures) refl

pub returns-else-is_include : goal.returns-else-is_include
returns-else-is_include c =
    let some = piece_at-some c.args.begins_line c.args.rest.now c.requires in
    let other = sym (c.if-is_blank.ensures {u = tt}) in
    let no_line = sym c.starts_with.ensures.value ∙ c.if-starts_with.false in
    let no_block = sym c.starts_with-else-starts_with.ensures.value ∙ c.if-starts_with-2.false in
    let hash = eq-eqb _ 35 c.if-rest-eq35.true in
    let no_include = sym (c.if-is_include.ensures {u = tt}) in
    rw (some, other, no_line, no_block, hash, no_include) refl

pub returns-else-rest-eq35 : goal.returns-else-rest-eq35
returns-else-rest-eq35 c =
    let some = piece_at-some c.args.begins_line c.args.rest.now c.requires in
    let other = sym (c.if-is_blank.ensures {u = tt}) in
    let no_line = sym c.starts_with.ensures.value ∙ c.if-starts_with.false in
    let no_block = sym c.starts_with-else-starts_with.ensures.value ∙ c.if-starts_with-2.false in
    let no_hash = ne_eqb _ 35 c.if-rest-eq35.false in
    rw (some, other, no_line, no_block, no_hash) c.token.ensures
