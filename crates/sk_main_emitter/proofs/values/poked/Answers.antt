use Rattle.std.proofs.Common.{◌≡◌, ◌∙◌, ◌+◌, ◌++◌, max, ap, length, map, rules, arith}
use Rattle.std.specs.Option.{option_map}
use Rattle.sk_base.specs.declared.number.Ty.{Ty}
use Rattle.sk_main_scheme.specs.MainScheme.{main_piece, named_type}
use Rattle.sk_main_emitter.proofs.MainParts.{joined-code, poked-depth}
use Rattle.sk_main_emitter.proofs.values.poked.Goals as goal
use Rattle.sk_main_emitter.specs.Names.{named_of}
use Rattle.sk_scheme.specs.Pieces.{wanted_code, places_code}

pub returns-clause-code : goal.returns-clause-code
returns-clause-code c =
    let old = c.args.code.now.items in
    let around = c.args.names.now in
    let middle = c.places.new.code.items in
    joined-code old (places_code (map main_piece c.args.places.now) around (length old)) middle c.wanted.new.code.items
    (wanted_code (named_type (option_map named_of c.args.named)) (main_piece c.args.value.now) around)
    c.in_ok-first.ensures.code
    (c.in_ok-last.ensures.code
    ∙ ap (λ (ty : Ty). middle ++ wanted_code ty (main_piece c.args.value.now) around (length middle)) c.named_type.ensures)

pub returns-clause-depth : goal.returns-clause-depth
returns-clause-depth c =
    let least : c.max.result ≡ max c.in_ok-last.last 1 = search rules in
    let deepest : c.max-depth.result ≡ max c.in_ok-first.first c.in_ok-above.above = search rules in
    let counted : c.in_ok-above.above ≡ length c.args.places.now + c.max.result = omega (arith, c.in_ok-above.ensures) in
    poked-depth c.args.places.now c.args.value.now c.args.names.now c.in_ok-first.first c.in_ok-last.last c.in_ok-above.above c.max-depth.result
    c.in_ok-first.ensures.depth c.in_ok-last.ensures.depth (counted ∙ ap (λ n. length c.args.places.now + n) least) deepest
