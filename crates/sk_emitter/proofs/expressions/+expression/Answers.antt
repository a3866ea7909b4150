use Rattle.std.proofs.Common.{◌≡◌, ◌≤◌, ◌+◌, ◌∙◌, sym, ap, ◌∷◌, ◌++◌, List, length, drop, take, map, max, arith, add-one, subst, rules}
use Rattle.std.proofs.lemmas.List.{drop-map, take-map, length-map}
use Rattle.std.specs.Prelude.{slice_set}
use Rattle.sk_isa.specs.declared.code.Instr.TheVariants.{Zero, Jump}
use Rattle.sk_scheme.specs.Pieces.{Piece, arguments_code, parts_depth}
use denote.Param.Weighed.{most}
use Rattle.sk_tree.specs.declared.tree.Expr.{Expr, size-Expr}
use Rattle.sk_tree.specs.declared.tree.ParamKind.{ParamKind}
use Rattle.sk_emitter.specs.Applications.{piece_of, argument_code, numbers_in}
use Rattle.sk_emitter.proofs.Lists.{left_cons, most_left}
use Rattle.sk_emitter.proofs.PartsAppended.{arguments-more, same_depth, values-used, depth_more}
use Rattle.sk_emitter.proofs.Filled.{behind_one, behind_two, behind_three, both_filled, choice_filled, either_filled}
use Rattle.sk_emitter.proofs.expressions.+expression.Goals as goal

pub arguments-loop-i-preserved : goal.arguments-loop-i-preserved
arguments-loop-i-preserved g t c =
    let piece = piece_of g.N.Surrounding.leaves in
    let old = c.loop-i.code.items in
    let around = c.args.names.now in
    let kinds = c.args.kinds.now in
    let part = c.index-parts-i.result in
    let first : drop c.loop-i.i c.args.parts.now ≡ part ∷ drop (c.loop-i.i + 1) c.args.parts.now =
    left_cons c.args.parts.now c.loop-i.i part (omega arith) c.index-parts-i.is in
    let P : List Expr → Type 0 = λ left. max c.loop-i.depth (c.loop-i.i + parts_depth (map piece left) around) ≡ parts_depth (map piece c.args.parts.now) around in
    let deepest : c.max-depth.result ≡ max c.loop-i.depth c.in_ok-sum.field-0 = search rules in (
      arguments-more kinds c.loop-i.i (c.loop-i.i + 1) (piece part) (map piece (drop (c.loop-i.i + 1) c.args.parts.now)) around
          old c.argument.new.code.items (add-one c.loop-i.i)
          (c.in_ok-own.ensures.code ∙ ap (λ kind. old ++ argument_code kind (piece part) around (length old)) c.kind_at.ensures)
          ∙ ap (λ (left : List Expr). old ++ arguments_code (drop c.loop-i.i kinds) (map piece left) around (length old)) (sym first)
          ∙ c.loop-i.invariant.0,
      depth_more c.loop-i.depth c.loop-i.i ((piece part).depth around) (parts_depth (map piece (drop (c.loop-i.i + 1) c.args.parts.now)) around)
          (parts_depth (map piece c.args.parts.now) around) c.max-depth.result
          (deepest ∙ ap (λ n. max c.loop-i.depth n) (c.in_ok-sum.ensures ∙ ap (λ n. c.loop-i.i + n) c.in_ok-own.ensures.depth))
          (subst P first c.loop-i.invariant.1),
    )

pub apply-returns-clause-code : goal.apply-returns-clause-code
apply-returns-clause-code g t c =
    let piece = piece_of g.N.Surrounding.leaves in
    let old = c.args.code.now.items in
    let around = c.args.names.now in
    let kinds = c.args.applied.kinds in
    let passed = c.args.applied.passed in
    let parts = c.args.parts.now in
    let values : map piece c.parted.result.1.now ≡ drop passed (map piece parts) =
    ap (map piece) c.parted.ensures.others ∙ sym (drop-map piece passed parts) in
    let containers : map piece c.parted.result.0.now ≡ take passed (map piece parts) =
    ap (map piece) c.parted.ensures.first ∙ sym (take-map piece passed parts) in
    values-used c.args.applied.used passed kinds g.N.Surrounding.number (map piece parts) around
    (map piece c.parted.result.0.now) (map piece c.parted.result.1.now)
    old c.arguments.new.code.items c.use_values.new.code.items c.in_ok-numbers.numbers c.len-start.result (length c.parted.result.1.now)
    containers values (c.in_ok-depth.ensures.code ∙ ap (λ (ks : List ParamKind). old ++ arguments_code ks (map piece c.parted.result.1.now) around (length old)) c.as_slice.ensures)
    c.in_ok-numbers.ensures (omega arith) (sym (length-map c.parted.result.1.now piece)) c.in_ok-use_values.ensures

pub both-returns-clause-code : goal.both-returns-clause-code
both-returns-clause-code g t c =
    let base = c.args.code.now.items in
    let around = c.args.names.now in
    let left = (piece_of g.N.Surrounding.leaves c.args.left.now).code around in
    let right = (piece_of g.N.Surrounding.leaves c.args.right.now).code around in
    let one = left (length base) in
    let at : length c.room.new.code.items ≡ length base + length one + 1 =
    behind_one base one c.expression.new.code.items c.room.new.code.items _ c.in_ok-one.ensures.code c.in_ok-first.ensures.code in
    c.fill-2.ensures ∙ ap (λ l. slice_set l c.in_ok-second.second (Zero c.in_ok-fails.fails)) c.fill.ensures
    ∙ both_filled base one (right (length base + length one + 1)) c.expression.new.code.items c.room.new.code.items c.expression-2.new.code.items
    c.room-2.new.code.items c.flags.new.code.items c.in_ok-first.first c.in_ok-second.second c.in_ok-fails.fails c.in_ok-ends.ends
    c.in_ok-one.ensures.code c.in_ok-first.ensures.place c.in_ok-first.ensures.code
    (c.in_ok-other.ensures.code ∙ ap (λ n. c.room.new.code.items ++ right n) at)
    c.in_ok-second.ensures.place c.in_ok-second.ensures.code
    (omega (arith, c.in_ok-fails.ensures, c.len.ensures, c.room-2.new.code.ok.0))
    (omega (arith, c.in_ok-ends.ensures, c.len-2.ensures, c.room-2.new.code.ok.0))
    c.in_ok-flags.ensures

pub choose-returns-clause-code : goal.choose-returns-clause-code
choose-returns-clause-code g t c =
    let base = c.args.code.now.items in
    let around = c.args.names.now in
    let test = (piece_of g.N.Surrounding.leaves c.args.test.now).code around in
    let left = (piece_of g.N.Surrounding.leaves c.args.one.now).code around in
    let right = (piece_of g.N.Surrounding.leaves c.args.other.now).code around in
    let first = test (length base) in
    let at : length c.room.new.code.items ≡ length base + length first + 1 =
    behind_one base first c.expression.new.code.items c.room.new.code.items _ c.in_ok-first.ensures.code c.in_ok-fails.ensures.code in
    let second = left (length base + length first + 1) in
    let placed : c.expression-2.new.code.items ≡ c.room.new.code.items ++ second =
    c.in_ok-second.ensures.code ∙ ap (λ n. c.room.new.code.items ++ left n) at in
    let third : length c.room-2.new.code.items ≡ length base + length first + length second + 2 =
    behind_two base first second c.expression.new.code.items c.room.new.code.items c.expression-2.new.code.items c.room-2.new.code.items _ _
    c.in_ok-first.ensures.code c.in_ok-fails.ensures.code placed c.in_ok-jump.ensures.code in
    c.fill-2.ensures ∙ ap (λ l. slice_set l c.in_ok-jump.jump (Jump c.in_ok-ends.ends)) c.fill.ensures
    ∙ choice_filled base first second (right (length base + length first + length second + 2))
    c.expression.new.code.items c.room.new.code.items c.expression-2.new.code.items c.room-2.new.code.items c.expression-3.new.code.items
    c.in_ok-fails.fails c.in_ok-jump.jump c.in_ok-third.third c.in_ok-ends.ends
    c.in_ok-first.ensures.code c.in_ok-fails.ensures.place c.in_ok-fails.ensures.code placed c.in_ok-jump.ensures.place c.in_ok-jump.ensures.code
    (omega (arith, c.in_ok-third.ensures, c.len.ensures, c.room-2.new.code.ok.0))
    (c.in_ok-last.ensures.code ∙ ap (λ n. c.room-2.new.code.items ++ right n) third)
    (omega (arith, c.in_ok-ends.ensures, c.len-2.ensures, c.expression-3.new.code.ok.0))

pub either-returns-clause-code : goal.either-returns-clause-code
either-returns-clause-code g t c =
    let base = c.args.code.now.items in
    let around = c.args.names.now in
    let left = (piece_of g.N.Surrounding.leaves c.args.left.now).code around in
    let right = (piece_of g.N.Surrounding.leaves c.args.right.now).code around in
    let one = left (length base) in
    let at : length c.room.new.code.items ≡ length base + length one + 3 =
    behind_three base one c.expression.new.code.items c.put.new.code.items c.put-2.new.code.items c.room.new.code.items _ _ _
    c.in_ok-one.ensures.code c.in_ok-put.ensures c.in_ok-put-2.ensures c.in_ok-holds.ensures.code in
    c.fill.ensures
    ∙ either_filled base one (right (length base + length one + 3)) c.expression.new.code.items c.put.new.code.items c.put-2.new.code.items
    c.room.new.code.items c.expression-2.new.code.items c.put-3.new.code.items c.flags.new.code.items
    c.in_ok-second.second c.in_ok-holds.holds c.in_ok-fails.fails c.in_ok-ends.ends
    c.in_ok-one.ensures.code (omega (arith, c.in_ok-second.ensures, c.len.ensures, c.expression.new.code.ok.0))
    c.in_ok-put.ensures c.in_ok-put-2.ensures c.in_ok-holds.ensures.place c.in_ok-holds.ensures.code
    (c.in_ok-other.ensures.code ∙ ap (λ n. c.room.new.code.items ++ right n) at)
    (omega (arith, c.in_ok-fails.ensures, c.len-2.ensures, c.expression-2.new.code.ok.0))
    (omega (arith, c.in_ok-ends.ensures, c.len-3.ensures, c.expression-2.new.code.ok.0))
    c.in_ok-put-3.ensures c.in_ok-flags.ensures

pub apply-arguments-requires : goal.apply-arguments-requires
apply-arguments-requires g t c =
    let fits : most size-Expr c.parted.result.1.now ≤ most size-Expr c.args.parts.now =
    subst (λ (left : List Expr). most size-Expr left ≤ most size-Expr c.args.parts.now) (sym c.parted.ensures.others)
    (most_left size-Expr c.args.applied.passed c.args.parts.now) in
    search rules

pub apply-returns-clause-given : goal.apply-returns-clause-given
apply-returns-clause-given g t c =
    let piece = piece_of g.N.Surrounding.leaves in
    let passed = c.args.applied.passed in
    let deepest : c.max.result ≡ max 1 c.in_ok-depth.depth = search rules in
    ap (λ n. record { ty = c.args.applied.ty; depth = n })
    (deepest ∙ ap (λ n. max 1 n) (c.in_ok-depth.ensures.depth
    ∙ same_depth (map piece c.parted.result.1.now) (drop passed (map piece c.args.parts.now)) c.args.names.now
    (ap (map piece) c.parted.ensures.others ∙ sym (drop-map piece passed c.args.parts.now))))
