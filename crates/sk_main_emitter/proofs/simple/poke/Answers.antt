use Rattle.std.proofs.Common.{◌≡◌, ◌∙◌, List, ℕ, Option, [], ◌∷◌, ◌++◌, length, map, ap, refl, arith}
use Rattle.std.specs.Option.{option_map}
use Rattle.sk_isa.specs.declared.code.Instr.TheVariants as instr
use Rattle.sk_main_scheme.specs.MainScheme.{Named, main_piece, named_type, poke_code, container_named}
use Rattle.sk_main_emitter.proofs.MainWriters.{writes_counted}
use Rattle.sk_main_emitter.proofs.simple.poke.Goals as goal
use Rattle.sk_main_emitter.specs.Names.{named_of}
use Rattle.sk_names.specs.Bindings.{bound_to}
use Rattle.sk_scheme.specs.Pieces.{wanted_code, places_code, then_code, parts_depth}

pub returns : goal.returns
returns c =
    let old = c.args.writer.now in
    let name = c.args.name.now in
    let places = c.args.places.now in
    let value = c.args.value.now in
    let c1 = c.put.new.code.items in
    let stands : option_map named_of c.named-named.result ≡ bound_to name old.names.scope =
    c.named-named.ensures ∙ ap (λ n. bound_to n old.names.scope) c.as_bytes-name.ensures in
    let numbered : c.container-container.result ≡ container_named old.names name =
    c.container-container.ensures ∙ ap (container_named old.names) c.as_bytes-name.ensures in
    let counted : c.in_ok-address.field-0 ≡ length places = omega (arith, c.in_ok-address.ensures) in
    writes_counted c.args.line (poke_code name places value) (parts_depth (map main_piece (places ++ value ∷ [])))
    (λ around standing. instr.Poke (container_named around name) (length places) ∷ []) old _
    c1 c.poked.new.code.items (instr.Poke c.container-container.result c.in_ok-address.field-0 ∷ []) c.in_ok-depth.depth
    c.in_ok-put.ensures
    (c.in_ok-depth.ensures.code
    ∙ ap (λ (n : Option Named). c1 ++ then_code (places_code (map main_piece places) old.names (length c1)) (wanted_code (named_type n) (main_piece value) old.names) (length c1)) stands)
    c.in_ok-put-2.ensures
    (ap (λ n. instr.Poke n c.in_ok-address.field-0 ∷ []) numbered ∙ ap (λ n. instr.Poke (container_named old.names name) n ∷ []) counted)
    (record { names = refl; slots = refl; containers = refl; instances = refl }) c.in_ok-depth.ensures.depth
