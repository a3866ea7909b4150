use Rattle.std.proofs.Common.{◌≡◌, ◌∙◌, ◌+◌, ◌++◌, suc, max, ap, length, map, take, drop, List, rules, arith}
use Rattle.sk_main_scheme.specs.MainScheme.{main_piece, make_code, make_depth}
use Rattle.sk_main_emitter.proofs.MainParts.{joined-code, sized-code, sized-depth}
use Rattle.sk_main_emitter.proofs.values.sized.Goals as goal
use Rattle.sk_main_emitter.specs.Statements.{fill_code}
use Rattle.sk_scheme.specs.Pieces.{places_code, parts_depth}
use Rattle.sk_tree.specs.declared.tree.Expr.{Expr}

pub returns-clause-code : goal.returns-clause-code
returns-clause-code c =
    let old = c.args.code.now.items in
    let around = c.args.names.now in
    let kind = c.from-count.result in
    let arguments = c.args.arguments.now in
    let middle = c.places.new.code.items in
    joined-code old (places_code (map main_piece (take kind arguments)) around (length old)) middle c.fill.new.code.items
    (fill_code c.args.ty (drop kind arguments) around)
    (c.in_ok-first.ensures.code
    ∙ ap (λ (left : List Expr). old ++ places_code (map main_piece left) around (length old)) c.parted.ensures.first)
    (c.in_ok-last.ensures.code
    ∙ ap (λ (left : List Expr). middle ++ fill_code c.args.ty left around (length middle)) c.parted.ensures.others)
    ∙ ap (λ l. old ++ l) (sized-code c.args.ty kind arguments around (length old))
    ∙ ap (λ n. old ++ make_code c.args.ty n arguments around (length old)) c.from-count.ensures

pub returns-clause-depth : goal.returns-clause-depth
returns-clause-depth c =
    let around = c.args.names.now in
    let kind = c.from-count.result in
    let arguments = c.args.arguments.now in
    let deeper : c.max-depth.result ≡ max c.in_ok-first.first c.in_ok-whole.whole = search rules in
    let deepest : c.max-deepest.result ≡ max c.in_ok-least.least c.max-depth.result = search rules in
    let counted : c.in_ok-whole.whole ≡ length c.parted.result.0.now + c.in_ok-last.last = omega (arith, c.in_ok-whole.ensures) in
    sized-depth kind arguments around c.in_ok-first.first c.in_ok-last.last c.in_ok-whole.whole c.in_ok-least.least c.max-depth.result c.max-deepest.result
    (c.in_ok-first.ensures.depth ∙ ap (λ (left : List Expr). parts_depth (map main_piece left) around) c.parted.ensures.first)
    (c.in_ok-last.ensures.depth ∙ ap (λ (left : List Expr). parts_depth (map main_piece left) around) c.parted.ensures.others)
    (counted ∙ ap (λ (left : List Expr). length left + c.in_ok-last.last) c.parted.ensures.first)
    deeper c.in_ok-least.ensures deepest
    ∙ ap (λ n. make_depth n arguments around) c.from-count.ensures
