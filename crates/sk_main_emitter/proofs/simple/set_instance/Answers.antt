use Rattle.std.proofs.Common.{◌≡◌, ◌∙◌, List, Option, [], ◌++◌, length, map, ap, refl, sym, append-nil}
use Rattle.std.specs.Option.{option_map}
use Rattle.sk_main_scheme.specs.MainScheme.{Named, main_piece, set_code, setting_values}
use Rattle.sk_main_emitter.proofs.MainWriters.{writes_given}
use Rattle.sk_main_emitter.proofs.simple.set_instance.Goals as goal
use Rattle.sk_main_emitter.specs.Names.{named_of}
use Rattle.sk_main_emitter.specs.Statements.{set_named}
use Rattle.sk_names.specs.Bindings.{bound_to}
use Rattle.sk_scheme.specs.Pieces.{parts_depth}

pub returns : goal.returns
returns c =
    let old = c.args.writer.now in
    let name = c.args.name.now in
    let setting = c.args.setting.now in
    let c1 = c.put.new.code.items in
    let stands : option_map named_of c.named-named.result ≡ bound_to name old.names.scope =
    c.named-named.ensures ∙ ap (λ n. bound_to n old.names.scope) c.as_bytes.ensures in
    writes_given c.args.line (set_code name setting) (parts_depth (map main_piece (setting_values setting)))
    (λ around standing. []) old _ c1 c.in_ok-depth.depth
    c.in_ok-put.ensures
    (c.in_ok-depth.ensures.code
    ∙ ap (λ (n : Option Named). c1 ++ set_named n setting old.names (length c1)) stands
    ∙ ap (λ l. c1 ++ l) (sym (append-nil (set_code name setting old.names (length c1)))))
    (record { names = refl; slots = refl; containers = refl; instances = refl }) c.in_ok-depth.ensures.depth
