use Rattle.std.proofs.Common.{◌≡◌, ◌∙◌, List, Option, ◌++◌, length, ap, refl}
use Rattle.std.specs.Option.{option_map}
use Rattle.sk_main_scheme.specs.MainScheme.{Named, main_piece, named_type, type_in, store_code}
use Rattle.sk_main_emitter.proofs.MainWriters.{writes_given}
use Rattle.sk_main_emitter.proofs.simple.assign.Goals as goal
use Rattle.sk_main_emitter.specs.Names.{named_of}
use Rattle.sk_names.specs.Bindings.{bound_to}
use Rattle.sk_scheme.specs.Pieces.{wanted_code}

pub returns : goal.returns
returns c =
    let old = c.args.writer.now in
    let piece = main_piece c.args.expr.now in
    let name = c.args.name.now in
    let c1 = c.put.new.code.items in
    let stands : option_map named_of c.named-named.result ≡ bound_to name old.names.scope =
    c.named-named.ensures ∙ ap (λ n. bound_to n old.names.scope) c.as_bytes.ensures in
    writes_given c.args.line (λ around at. wanted_code (type_in around name) piece around at) piece.depth
    (λ around standing. store_code (bound_to name around.scope)) old _ c1 c.in_ok-depth.depth
    c.in_ok-put.ensures
    (c.in_ok-depth.ensures.code
    ∙ ap (λ (n : Option Named). c1 ++ (wanted_code (named_type n) piece old.names (length c1) ++ store_code n)) stands)
    (record { names = refl; slots = refl; containers = refl; instances = refl }) c.in_ok-depth.ensures.depth
