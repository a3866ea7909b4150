use Rattle.std.proofs.Common.{◌≡◌, ◌∙◌, List, ℕ, suc, ap, sym, length, map, take, drop, arith}
use Rattle.std.proofs.lemmas.List.{drop-map, take-map, length-map}
use Rattle.sk_main_scheme.specs.MainScheme.{main_piece, operands_of}
use Rattle.sk_main_emitter.proofs.MainParts.{called-code}
use Rattle.sk_main_emitter.proofs.values.called.Goals as goal
use Rattle.sk_main_emitter.specs.Names.{made_in}
use Rattle.sk_scheme.specs.Pieces.{Piece, parts_depth}

pub returns-clause-code : goal.returns-clause-code
returns-clause-code c =
    let parts = map main_piece c.args.arguments.now in
    let count = c.in_ok-above.field-0 in
    called-code (made_in c.args.made) parts (map main_piece c.parted.result.0.now) (map main_piece c.parted.result.1.now) c.args.names.now
    c.args.code.now.items c.arguments.new.code.items c.put.new.code.items count c.as_slice.result.now c.in_ok-numbers.numbers c.in_ok-address.field-0
    (c.in_ok-above.ensures ∙ ap suc c.in_ok-operands.ensures) (c.as_slice.ensures ∙ c.in_ok-kinds.ensures)
    (ap (map main_piece) c.parted.ensures.first ∙ sym (take-map main_piece count c.args.arguments.now))
    (ap (map main_piece) c.parted.ensures.others ∙ sym (drop-map main_piece count c.args.arguments.now))
    c.in_ok-depth.ensures.code c.in_ok-numbers.ensures
    (omega (arith, c.in_ok-address.ensures, length-map c.parted.result.1.now main_piece)) c.in_ok-put.ensures

pub returns-clause-depth : goal.returns-clause-depth
returns-clause-depth c =
    let count = c.in_ok-above.field-0 in
    let values : map main_piece c.parted.result.1.now ≡ drop count (map main_piece c.args.arguments.now) =
    ap (map main_piece) c.parted.ensures.others ∙ sym (drop-map main_piece count c.args.arguments.now) in
    c.in_ok-depth.ensures.depth
    ∙ ap (λ parts. parts_depth parts c.args.names.now) values
    ∙ ap (λ n. parts_depth (drop n (map main_piece c.args.arguments.now)) c.args.names.now) (c.in_ok-above.ensures ∙ ap suc c.in_ok-operands.ensures)
