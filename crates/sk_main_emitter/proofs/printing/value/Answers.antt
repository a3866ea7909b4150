use Rattle.std.proofs.Common.{◌∙◌, [], ◌∷◌, ◌++◌, length, ap, refl, append_assoc}
use Rattle.sk_emitter.specs.declared.applied.Given.{Given}
use Rattle.sk_isa.specs.declared.code.Instr.TheVariants as instr
use Rattle.sk_main_scheme.specs.MainScheme.{main_piece, item_emitted}
use Rattle.sk_main_emitter.proofs.MainWriters.{writes_code}
use Rattle.sk_main_emitter.proofs.printing.value.Goals as goal
use Rattle.sk_tree.specs.declared.tree.Item.TheVariants.{Value}

pub returns : goal.returns
returns c =
    let old = c.args.writer.now in
    let piece = main_piece c.args.expr.now in
    let values = piece.code old.names (length old.code.items) in
    writes_code (item_emitted (Value c.args.expr.now)) old _ (values ++ instr.Print ∷ []) (piece.depth old.names) c.in_ok-given.given.depth
    refl
    (c.in_ok-put.ensures ∙ ap (λ l. l ++ instr.Print ∷ []) c.in_ok-given.ensures.code ∙ append_assoc old.code.items values (instr.Print ∷ []))
    (record { names = refl; slots = refl; containers = refl; instances = refl }) (ap (λ (given : Given). given.depth) c.in_ok-given.ensures.given)
