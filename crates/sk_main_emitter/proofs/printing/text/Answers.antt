use Rattle.std.proofs.Common.{◌≡◌, ◌∙◌, [], ◌∷◌, ◌++◌, ap, refl, rules}
use Rattle.sk_isa.specs.declared.code.Instr.TheVariants as instr
use Rattle.sk_main_scheme.specs.MainScheme.{item_emitted}
use Rattle.sk_main_emitter.proofs.MainWriters.{writes_code}
use Rattle.sk_main_emitter.proofs.printing.text.Goals as goal
use Rattle.sk_tree.specs.declared.tree.Item.TheVariants.{Text}

pub returns : goal.returns
returns c =
    let old = c.args.writer.now in
    let text : c.from_vec-text.result ≡ c.args.text.now = search rules in
    writes_code (item_emitted (Text c.args.text.now)) old _ (instr.Text c.args.text.now ∷ []) 0 0 refl
    (c.in_ok-put.ensures ∙ ap (λ t. old.code.items ++ instr.Text t ∷ []) text)
    (record { names = refl; slots = refl; containers = refl; instances = refl }) refl
