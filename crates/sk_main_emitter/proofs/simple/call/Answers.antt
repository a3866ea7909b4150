use Rattle.std.proofs.Common.{◌≡◌, ◌∙◌, List, Option, [], ◌++◌, length, map, ap, refl, sym, append-nil}
use Rattle.std.specs.Option.{option_map}
use Rattle.sk_main_scheme.specs.MainScheme.{Named, main_piece, do_code, do_depth}
use Rattle.sk_main_emitter.proofs.MainParts.{done-depth}
use Rattle.sk_main_emitter.proofs.MainWriters.{writes_given}
use Rattle.sk_main_emitter.proofs.simple.call.Goals as goal
use Rattle.sk_main_emitter.specs.Names.{named_of}
use Rattle.sk_main_emitter.specs.Statements.{do_named, do_named_depth}
use Rattle.sk_names.specs.Bindings.{bound_to}

pub returns : goal.returns
returns c =
    let old = c.args.writer.now in
    let name = c.args.name.now in
    let arguments = c.args.arguments.now in
    let parts = map main_piece arguments in
    let c1 = c.put.new.code.items in
    let stands : option_map named_of c.named-named.result ≡ bound_to name old.names.scope =
    c.named-named.ensures ∙ ap (λ n. bound_to n old.names.scope) c.as_bytes.ensures in
    writes_given c.args.line (do_code name arguments) (do_depth name arguments)
    (λ around standing. []) old _ c1 c.in_ok-depth.depth
    c.in_ok-put.ensures
    (c.in_ok-depth.ensures.code
    ∙ ap (λ (n : Option Named). c1 ++ do_named n parts old.names (length c1)) stands
    ∙ ap (λ l. c1 ++ l) (sym (append-nil (do_code name arguments old.names (length c1)))))
    (record { names = refl; slots = refl; containers = refl; instances = refl })
    (c.in_ok-depth.ensures.depth ∙ ap (λ (n : Option Named). do_named_depth n parts old.names) stands
    ∙ done-depth (bound_to name old.names.scope) parts old.names)
