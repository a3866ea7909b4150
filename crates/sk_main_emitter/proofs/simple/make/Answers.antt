use Rattle.std.proofs.Common.{◌≡◌, ◌∙◌, List, ℕ, [], ◌∷◌, ◌++◌, length, ap, refl, arith}
use Rattle.sk_isa.specs.declared.code.Instr.TheVariants as instr
use Rattle.sk_main_emitter.specs.declared.writer.Writer.{Writer}
use Rattle.sk_main_scheme.specs.MainScheme.{Around, Whole, make_code, make_depth, counted, taking}
use Rattle.sk_main_emitter.proofs.MainWriters.{writes_counted, writes_holding, instances_of}
use Rattle.sk_main_emitter.proofs.simple.make.Goals as goal

pub returns : goal.returns
returns c =
    let old = c.args.writer.now in
    let kind = c.args.kind in
    let ty = c.args.ty in
    let arguments = c.args.arguments.now in
    let middle = record old { code = c.put-2.new.code } in
    let number = c.in_ok-number.number in
    let next : number ≡ length old.containers = omega (arith, c.in_ok-number.ensures, c.len.ensures) in
    let names : c.hold.new.writer.names ≡ record { functions = old.names.functions; scope = (c.args.name.now, Whole (length old.containers) ty) ∷ old.names.scope } =
    ap (λ (w : Writer). w.names) c.in_ok-hold.ensures
    ∙ ap (λ n. record { functions = old.names.functions; scope = (c.args.name.now, Whole n ty) ∷ old.names.scope }) next in
    writes_holding c.args.name.now kind ty
    (counted c.args.line (taking (make_code ty kind arguments) (make_depth kind arguments) (λ around standing. instr.Make (length standing.containers) kind ty kind ∷ [])))
    old middle c.hold.new.writer c.in_ok-depth.depth
    (writes_counted c.args.line (make_code ty kind arguments) (make_depth kind arguments)
    (λ around standing. instr.Make (length standing.containers) kind ty kind ∷ []) old middle
    c.put.new.code.items c.sized.new.code.items (instr.Make number kind ty c.from.result ∷ []) c.in_ok-depth.depth
    c.in_ok-put.ensures c.in_ok-depth.ensures.code c.in_ok-put-2.ensures (ap (λ n. instr.Make n kind ty c.from.result ∷ []) next ∙ ap (λ n. instr.Make (length old.containers) kind ty n ∷ []) c.from.ensures)
    (record { names = refl; slots = refl; containers = refl; instances = refl }) c.in_ok-depth.ensures.depth)
    (ap (λ (w : Writer). w.code.items) c.in_ok-hold.ensures) names
    (ap (λ (w : Writer). w.slots.items) c.in_ok-hold.ensures)
    (ap (λ (w : Writer). w.containers) c.in_ok-hold.ensures)
    (ap (λ (w : Writer). w.instances.items) c.in_ok-hold.ensures)
