use Rattle.std.proofs.Common.{◌≡◌, ◌∙◌, List, ℕ, [], ◌∷◌, ◌++◌, length, map, ap, refl, sym, arith}
use Rattle.std.proofs.lemmas.List.{map-append, length-map}
use Rattle.sk_main_emitter.specs.declared.writer.Writer.{Writer}
use Rattle.sk_main_scheme.specs.MainScheme.{Around, Called, Made, made_of, counted, no_code}
use Rattle.sk_main_emitter.proofs.MainWriters.{writes_line_alone, writes_instancing, instances_of}
use Rattle.sk_main_emitter.proofs.simple.instance.Goals as goal
use Rattle.sk_main_emitter.specs.Names.{made_in}
use Rattle.sk_scheme.specs.Scheme.{Known}

pub returns : goal.returns
returns c =
    let old = c.args.writer.now in
    let instance = c.args.instance.now in
    let middle = record old { code = c.put.new.code } in
    let number = c.in_ok-number.number in
    let functions : List (List ℕ × Known) = old.names.functions in
    let next : number ≡ length (instances_of old) =
    omega (arith, c.in_ok-number.ensures, c.len.ensures, old.instances.ok.0, length-map old.instances.items (λ instance. instance.now)) in
    let made : made_in c.in_ok-made.made ≡ made_of functions (length (instances_of old)) instance =
    c.in_ok-made.ensures
    ∙ ap (λ f. made_of f number instance) c.functions.ensures
    ∙ ap (λ n. made_of functions n instance) next in
    writes_instancing instance (counted c.args.line no_code) old middle _ 0
    (writes_line_alone c.args.line old middle c.in_ok-put.ensures (record { names = refl; slots = refl; containers = refl; instances = refl }))
    refl
    (c.in_ok-declare.ensures
    ∙ ap (λ n. record { functions = functions; scope = (n, Called (made_in c.in_ok-made.made)) ∷ old.names.scope }) c.as_bytes.ensures
    ∙ ap (λ (m : Made). record { functions = functions; scope = (instance.name, Called m) ∷ old.names.scope }) made)
    refl refl
    (ap (map (λ instance. instance.now)) c.in_ok-push.ensures.items ∙ map-append (λ instance. instance.now) old.instances.items _)
