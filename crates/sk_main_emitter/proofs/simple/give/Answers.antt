use Rattle.std.proofs.Common.{◌≡◌, ◌∙◌, List, [], ◌∷◌, ◌++◌, length, ap, refl, append_assoc}
use Rattle.sk_emitter.specs.declared.applied.Given.{Given}
use Rattle.sk_isa.specs.declared.code.Instr.TheVariants as instr
use Rattle.sk_main_scheme.specs.MainScheme.{main_piece}
use Rattle.sk_main_emitter.proofs.MainWriters.{writes_counted}
use Rattle.sk_main_emitter.proofs.simple.give.Goals as goal

pub returns : goal.returns
returns c =
    let old = c.args.writer.now in
    let piece = main_piece c.args.expr.now in
    let c2 = c.expression.new.code.items in
    writes_counted c.args.line piece.code piece.depth (λ around standing. instr.Pop ∷ instr.Halt ∷ []) old _
    c.put.new.code.items c2 (instr.Pop ∷ instr.Halt ∷ []) c.in_ok-given.given.depth
    c.in_ok-put.ensures c.in_ok-given.ensures.code
    (c.in_ok-put-3.ensures ∙ ap (λ l. l ++ instr.Halt ∷ []) c.in_ok-put-2.ensures ∙ append_assoc c2 (instr.Pop ∷ []) (instr.Halt ∷ []))
    refl (record { names = refl; slots = refl; containers = refl; instances = refl })
    (ap (λ (given : Given). given.depth) c.in_ok-given.ensures.given)
