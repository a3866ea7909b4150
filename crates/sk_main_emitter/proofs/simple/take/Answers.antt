use Rattle.std.proofs.Common.{◌≡◌, ◌∙◌, List, ℕ, [], ◌∷◌, ◌++◌, length, ap, refl, sym, arith, rules, append-nil}
use Rattle.sk_isa.specs.declared.code.Instr.TheVariants as instr
use Rattle.sk_main_emitter.specs.declared.writer.Writer.{Writer}
use Rattle.sk_main_scheme.specs.MainScheme.{Around, Whole, counted, taking}
use Rattle.sk_main_emitter.proofs.MainWriters.{writes_counted, writes_holding}
use Rattle.sk_main_emitter.proofs.simple.take.Goals as goal

pub returns : goal.returns
returns c =
    let old = c.args.writer.now in
    let kind = c.args.kind in
    let ty = c.args.ty in
    let middle = record old { code = c.put-2.new.code } in
    let number = c.in_ok-number.number in
    let next : number ≡ length old.containers = omega (arith, c.in_ok-number.ensures, c.len.ensures) in
    let input : c.from_vec-input.result ≡ c.args.input.now = search rules in
    let names : c.hold.new.writer.names ≡ record { functions = old.names.functions; scope = (c.args.name.now, Whole (length old.containers) ty) ∷ old.names.scope } =
    ap (λ (w : Writer). w.names) c.in_ok-hold.ensures
    ∙ ap (λ n. record { functions = old.names.functions; scope = (c.args.name.now, Whole n ty) ∷ old.names.scope }) next in
    writes_holding c.args.name.now kind ty
    (counted c.args.line (taking (λ around at. []) (λ around. 0) (λ around standing. instr.Take (length standing.containers) kind ty c.args.input.now ∷ [])))
    old middle c.hold.new.writer 0
    (writes_counted c.args.line (λ around at. []) (λ around. 0)
    (λ around standing. instr.Take (length standing.containers) kind ty c.args.input.now ∷ []) old middle
    c.put.new.code.items c.put.new.code.items (instr.Take number kind ty c.from_vec-input.result ∷ []) 0
    c.in_ok-put.ensures (sym (append-nil c.put.new.code.items)) c.in_ok-put-2.ensures
    (ap (λ n. instr.Take n kind ty c.from_vec-input.result ∷ []) next
    ∙ ap (λ t. instr.Take (length old.containers) kind ty t ∷ []) input)
    (record { names = refl; slots = refl; containers = refl; instances = refl }) refl)
    (ap (λ (w : Writer). w.code.items) c.in_ok-hold.ensures) names
    (ap (λ (w : Writer). w.slots.items) c.in_ok-hold.ensures)
    (ap (λ (w : Writer). w.containers) c.in_ok-hold.ensures)
    (ap (λ (w : Writer). w.instances.items) c.in_ok-hold.ensures)
