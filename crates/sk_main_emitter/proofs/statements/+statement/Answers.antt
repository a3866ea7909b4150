use Rattle.std.proofs.Common.{◌≡◌, ◌∙◌, ap, map, max, refl, arith, rules}
use Rattle.std.specs.Prelude.{slice_set, List}
use Rattle.sk_emitter.specs.declared.applied.Given.{Given}
use Rattle.sk_isa.specs.declared.code.Instr.{Instr}
use Rattle.sk_isa.specs.declared.code.Instr.TheVariants.{Jump}
use Rattle.sk_main_scheme.specs.MainScheme.{Around, main_piece, emitting_of, block_emitted, if_emitted}
use Rattle.sk_main_emitter.proofs.MainBranches.{writes_only, writes_choice, writes_turn, writes_turns}
use Rattle.sk_main_emitter.proofs.MainDeclared.{all_extend, loop_extends}
use Rattle.sk_main_emitter.proofs.MainWriters.{written_turn, written_end, writes_block, writes_then}
use Rattle.sk_main_emitter.specs.Written.{standing_of, counting}
use Rattle.sk_main_emitter.proofs.statements.+statement.Goals as goal

pub all-loop-one-preserved : goal.all-loop-one-preserved
all-loop-one-preserved t c =
    let deepest : c.max-depth.result ≡ max c.loop-one.depth c.in_ok-statement.field-0 = search rules in
    written_turn emitting_of c.args.statements.now c.args.writer.now c.loop-one.writer c.statement.new.writer c.loop-one.one-index c.loop-one.depth
    c.in_ok-statement.field-0 c.max-depth.result c.one-item.result c.loop-one.invariant c.one-item.is c.loop-one-test.true
    c.in_ok-statement.ensures deepest

pub all-returns : goal.all-returns
all-returns t c =
    written_end emitting_of c.args.statements.now c.args.writer.now c.loop-one.writer c.loop-one.one-index c.loop-one.depth
    c.loop-one.invariant c.loop-one-test.false

pub block-returns : goal.block-returns
block-returns t c =
    let old = c.args.writer.now in
    writes_block (map emitting_of c.args.statements.now) old c.all.new.writer (record c.all.new.writer { code = c.drop_behind.new.code }) _
    c.depth-outer.result c.in_ok-depth.depth c.depth-outer.ensures c.in_ok-depth.ensures
    (all_extend c.args.statements.now old.names.functions (standing_of old))
    c.in_ok-drop_behind.ensures (record { names = refl; slots = refl; containers = refl; instances = refl })
    refl c.leave.ensures refl refl refl

pub branch-returns : goal.branch-returns
branch-returns t c =
    writes_then (counting c.args.line) (if_emitted (main_piece c.args.test.now) (map emitting_of c.args.one.now) (map emitting_of c.args.other.now))
    c.args.writer.now c.count.new.writer c.blocks-2.new.writer 0 c.in_ok-depth.depth c.in_ok-depth.depth c.in_ok-count.ensures c.in_ok-depth.ensures
    (omega arith)

pub only-returns : goal.only-returns
only-returns t c =
    let old = c.args.writer.now in
    let deepest : c.max.result ≡ max c.in_ok-first.first.depth c.in_ok-inner.inner = search rules in
    writes_only (main_piece c.args.test.now) (map emitting_of c.args.one.now) old (record old { code = c.room.new.code }) c.block.new.writer _
    c.expression.new.code.items c.in_ok-fails.fails c.in_ok-ends.ends c.in_ok-first.first.depth c.in_ok-inner.inner c.max.result
    c.in_ok-first.ensures.code (ap (λ (given : Given). given.depth) c.in_ok-first.ensures.given)
    c.in_ok-fails.ensures.place c.in_ok-fails.ensures.code (record { names = refl; slots = refl; containers = refl; instances = refl })
    c.in_ok-inner.ensures
    (omega (arith, c.in_ok-ends.ensures, c.len.ensures, c.block.new.writer.code.ok.0))
    c.fill.ensures (record { names = refl; slots = refl; containers = refl; instances = refl }) deepest

pub choice-returns : goal.choice-returns
choice-returns t c =
    let old = c.args.writer.now in
    let inner : c.max.result ≡ max c.in_ok-inner.inner c.in_ok-last.last = search rules in
    let deepest : c.max-2.result ≡ max c.in_ok-first.first.depth c.max.result = search rules in
    writes_choice (main_piece c.args.test.now) (map emitting_of c.args.one.now) (map emitting_of c.args.other.now) old
    (record old { code = c.room.new.code }) c.block.new.writer (record c.block.new.writer { code = c.room-2.new.code }) c.block-2.new.writer _
    c.expression.new.code.items c.in_ok-fails.fails c.in_ok-jump.jump c.in_ok-third.third c.in_ok-ends.ends
    c.in_ok-first.first.depth c.in_ok-inner.inner c.in_ok-last.last c.max-2.result
    c.in_ok-first.ensures.code (ap (λ (given : Given). given.depth) c.in_ok-first.ensures.given)
    c.in_ok-fails.ensures.place c.in_ok-fails.ensures.code (record { names = refl; slots = refl; containers = refl; instances = refl })
    c.in_ok-inner.ensures
    c.in_ok-jump.ensures.place c.in_ok-jump.ensures.code (record { names = refl; slots = refl; containers = refl; instances = refl })
    (omega (arith, c.in_ok-third.ensures, c.len.ensures, c.room-2.new.code.ok.0))
    c.in_ok-last.ensures
    (omega (arith, c.in_ok-ends.ensures, c.len-2.ensures, c.block-2.new.writer.code.ok.0))
    (c.fill-2.ensures ∙ ap (λ (l : List Instr). slice_set l c.in_ok-jump.jump (Jump c.in_ok-ends.ends)) c.fill.ensures)
    (record { names = refl; slots = refl; containers = refl; instances = refl })
    (deepest ∙ ap (λ k. max c.in_ok-first.first.depth k) inner)

pub turn-returns : goal.turn-returns
turn-returns t c =
    let old = c.args.writer.now in
    let inner : c.max.result ≡ max c.in_ok-inner.inner c.in_ok-last.last = search rules in
    let deepest : c.max-2.result ≡ max c.in_ok-given.given.depth c.max.result = search rules in
    writes_turn c.args.line (main_piece c.args.test.now) (block_emitted (map emitting_of c.args.body.now)) (emitting_of c.args.step.now) old
    (record old { code = c.room.new.code }) c.block.new.writer c.statement.new.writer _
    c.put.new.code.items c.expression.new.code.items c.put-2.new.code.items
    c.in_ok-start.start c.in_ok-fails.fails c.in_ok-ends.ends c.in_ok-given.given.depth c.in_ok-inner.inner c.in_ok-last.last c.max-2.result
    (omega (arith, c.in_ok-start.ensures, c.len.ensures, old.code.ok.0))
    c.in_ok-put.ensures c.in_ok-given.ensures.code (ap (λ (given : Given). given.depth) c.in_ok-given.ensures.given)
    c.in_ok-fails.ensures.place c.in_ok-fails.ensures.code (record { names = refl; slots = refl; containers = refl; instances = refl })
    c.in_ok-inner.ensures c.in_ok-last.ensures c.in_ok-put-2.ensures
    (omega (arith, c.in_ok-ends.ensures, c.len-2.ensures, c.put-2.new.code.ok.0))
    c.fill.ensures (record { names = refl; slots = refl; containers = refl; instances = refl })
    (deepest ∙ ap (λ k. max c.in_ok-given.given.depth k) inner)

pub turns-returns : goal.turns-returns
turns-returns t c =
    let old = c.args.writer.now in
    let deepest : c.max.result ≡ max c.in_ok-depth.depth c.in_ok-inner.inner = search rules in
    writes_turns c.args.line (emitting_of c.args.first.now) (main_piece c.args.test.now) (emitting_of c.args.step.now) (map emitting_of c.args.body.now)
    old c.statement.new.writer c.turn.new.writer _ c.depth-outer.result c.in_ok-depth.depth c.in_ok-inner.inner c.max.result
    c.in_ok-depth.ensures c.in_ok-inner.ensures
    (loop_extends c.args.line c.args.first.now c.args.step.now (main_piece c.args.test.now) (map emitting_of c.args.body.now) old.names.functions (standing_of old))
    c.depth-outer.ensures refl c.leave.ensures refl refl refl deepest
