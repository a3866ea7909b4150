use Rattle.std.proofs.Common.{◌≡◌, ◌∙◌, ap, max, refl, arith, rules}
use Rattle.sk_emitter.specs.declared.applied.Given.{Given}
use Rattle.std.specs.Prelude.{slice_set, List}
use Rattle.sk_scheme.specs.Scheme.{compiled_of, Around}
use Rattle.sk_isa.specs.declared.code.Instr.{Instr}
use Rattle.sk_isa.specs.declared.code.Instr.TheVariants.{Jump}
use Rattle.sk_emitter.proofs.Writers.{writes_block}
use Rattle.sk_emitter.proofs.Branches.{writes_only, writes_choice, writes_turn, writes_turns}
use Rattle.sk_emitter.proofs.statements.+statement.Goals as goal

pub block-returns : goal.block-returns
block-returns t c =
    writes_block c.args.statements.now c.args.writer.now c.all.new.writer _ c.depth-outer.result c.in_ok-depth.depth
    c.depth-outer.ensures c.in_ok-depth.ensures (ap (λ (names : Around). record c.all.new.writer { names = names }) c.leave.ensures)

pub only-returns : goal.only-returns
only-returns t c =
    let old = c.args.writer.now in
    let deepest : c.max.result ≡ max c.in_ok-first.first.depth c.in_ok-inner.inner = search rules in
    writes_only (compiled_of c.args.test.now) c.args.one.now old (record old { code = c.room.new.code }) c.block.new.writer _
    c.expression.new.code.items c.in_ok-fails.fails c.in_ok-ends.ends c.in_ok-first.first.depth c.in_ok-inner.inner c.max.result
    c.in_ok-first.ensures.code (ap (λ (given : Given). given.depth) c.in_ok-first.ensures.given)
    c.in_ok-fails.ensures.place c.in_ok-fails.ensures.code (record { names = refl; ret = refl; slots = refl })
    c.in_ok-inner.ensures
    (omega (arith, c.in_ok-ends.ensures, c.len.ensures, c.block.new.writer.code.ok.0))
    c.fill.ensures (record { names = refl; ret = refl; slots = refl }) deepest

pub choice-returns : goal.choice-returns
choice-returns t c =
    let old = c.args.writer.now in
    let inner : c.max.result ≡ max c.in_ok-inner.inner c.in_ok-last.last = search rules in
    let deepest : c.max-2.result ≡ max c.in_ok-first.first.depth c.max.result = search rules in
    writes_choice (compiled_of c.args.test.now) c.args.one.now c.args.other.now old (record old { code = c.room.new.code }) c.block.new.writer
    (record c.block.new.writer { code = c.room-2.new.code }) c.block-2.new.writer _
    c.expression.new.code.items c.in_ok-fails.fails c.in_ok-jump.jump c.in_ok-third.third c.in_ok-ends.ends
    c.in_ok-first.first.depth c.in_ok-inner.inner c.in_ok-last.last c.max-2.result
    c.in_ok-first.ensures.code (ap (λ (given : Given). given.depth) c.in_ok-first.ensures.given)
    c.in_ok-fails.ensures.place c.in_ok-fails.ensures.code (record { names = refl; ret = refl; slots = refl })
    c.in_ok-inner.ensures
    c.in_ok-jump.ensures.place c.in_ok-jump.ensures.code (record { names = refl; ret = refl; slots = refl })
    (omega (arith, c.in_ok-third.ensures, c.len.ensures, c.room-2.new.code.ok.0))
    c.in_ok-last.ensures
    (omega (arith, c.in_ok-ends.ensures, c.len-2.ensures, c.block-2.new.writer.code.ok.0))
    (c.fill-2.ensures ∙ ap (λ (l : List Instr). slice_set l c.in_ok-jump.jump (Jump c.in_ok-ends.ends)) c.fill.ensures)
    (record { names = refl; ret = refl; slots = refl })
    (deepest ∙ ap (λ k. max c.in_ok-first.first.depth k) inner)

pub turn-returns : goal.turn-returns
turn-returns t c =
    let old = c.args.writer.now in
    let inner : c.max.result ≡ max c.in_ok-inner.inner c.in_ok-last.last = search rules in
    let deepest : c.max-2.result ≡ max c.in_ok-given.given.depth c.max.result = search rules in
    writes_turn (compiled_of c.args.test.now) c.args.step.now c.args.body.now old (record old { code = c.put.new.code }) c.block.new.writer
    c.statement.new.writer _ c.expression.new.code.items c.room.new.code.items c.put-2.new.code.items
    c.in_ok-start.start c.in_ok-fails.fails c.in_ok-ends.ends c.depth-outer.result
    c.in_ok-given.given.depth c.in_ok-inner.inner c.in_ok-last.last c.max-2.result
    (omega (arith, c.in_ok-start.ensures, c.len.ensures, old.code.ok.0))
    c.in_ok-given.ensures.code (ap (λ (given : Given). given.depth) c.in_ok-given.ensures.given)
    c.in_ok-fails.ensures.place c.in_ok-fails.ensures.code c.in_ok-put.ensures (record { names = refl; ret = refl; slots = refl })
    c.in_ok-inner.ensures c.in_ok-last.ensures c.in_ok-put-2.ensures
    (omega (arith, c.in_ok-ends.ensures, c.len-2.ensures, c.put-2.new.code.ok.0))
    c.depth-outer.ensures c.fill.ensures c.leave.ensures refl refl
    (deepest ∙ ap (λ k. max c.in_ok-given.given.depth k) inner)

pub turns-returns : goal.turns-returns
turns-returns t c =
    let deepest : c.max.result ≡ max c.in_ok-depth.depth c.in_ok-inner.inner = search rules in
    writes_turns c.args.first.now c.args.step.now (compiled_of c.args.test.now) c.args.body.now c.args.writer.now c.statement.new.writer
    c.turn.new.writer _ c.depth-outer.result c.in_ok-depth.depth c.in_ok-inner.inner c.max.result
    c.in_ok-depth.ensures c.in_ok-inner.ensures c.depth-outer.ensures refl c.leave.ensures refl refl deepest
