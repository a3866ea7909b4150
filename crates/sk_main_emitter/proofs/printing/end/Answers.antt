use Rattle.std.proofs.Common.{[], ◌∷◌, refl}
use Rattle.sk_isa.specs.declared.code.Instr.TheVariants as instr
use Rattle.sk_main_scheme.specs.MainScheme.{item_emitted}
use Rattle.sk_main_emitter.proofs.MainWriters.{writes_code}
use Rattle.sk_main_emitter.proofs.printing.end.Goals as goal
use Rattle.sk_tree.specs.declared.tree.Item.TheVariants.{End}

pub returns : goal.returns
returns c =
    let old = c.args.writer.now in
    writes_code (item_emitted End) old _ (instr.Endl ∷ []) 0 0 refl c.in_ok-put.ensures
    (record { names = refl; slots = refl; containers = refl; instances = refl }) refl
