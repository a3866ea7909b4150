use Rattle.std.proofs.Common.{◌≡◌, ◌∙◌, ◌++◌, ap, length, append_assoc}
use Rattle.std.specs.Option.{option_map}
use Rattle.sk_base.specs.declared.number.Ty.{Ty}
use Rattle.sk_main_scheme.specs.MainScheme.{main_piece, named_type, store_code}
use Rattle.sk_main_emitter.proofs.values.assigned.Goals as goal
use Rattle.sk_main_emitter.specs.Names.{named_of}
use Rattle.sk_scheme.specs.Pieces.{wanted_code}

pub returns-clause-code : goal.returns-clause-code
returns-clause-code c =
    let old = c.args.code.now.items in
    let named = option_map named_of c.args.named in
    let piece = main_piece c.args.expr.now in
    let value = wanted_code (named_type named) piece c.args.names.now (length old) in
    c.in_ok-store.ensures
    ∙ ap (λ l. l ++ store_code named)
    (c.in_ok-depth.ensures.code ∙ ap (λ (ty : Ty). old ++ wanted_code ty piece c.args.names.now (length old)) c.named_type.ensures)
    ∙ append_assoc old value (store_code named)
