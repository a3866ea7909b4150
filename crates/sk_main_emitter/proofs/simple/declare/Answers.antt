use Rattle.std.proofs.Common.{◌≡◌, ◌∙◌, ◌+◌, List, ℕ, [], ◌∷◌, ◌++◌, length, ap, refl, arith}
use Rattle.sk_isa.specs.declared.code.Instr.TheVariants as instr
use Rattle.sk_main_scheme.specs.MainScheme.{Around, Named, Number, main_piece, counted, taking}
use Rattle.sk_main_emitter.proofs.MainWriters.{writes_counted, writes_declaring}
use Rattle.sk_main_emitter.proofs.simple.declare.Goals as goal
use Rattle.sk_scheme.specs.Pieces.{wanted_code}

pub returns : goal.returns
returns c =
    let old = c.args.writer.now in
    let middle = record old { code = c.put-2.new.code } in
    let piece = main_piece c.args.expr.now in
    let slot = c.in_ok-slot.slot in
    let last : slot ≡ length old.slots.items = omega (arith, c.in_ok-slot.ensures, c.len.ensures, old.slots.ok.0) in
    writes_declaring c.args.name.now c.args.ty
    (counted c.args.line (taking (wanted_code c.args.ty piece) piece.depth (λ around standing. instr.Store (length standing.slots) ∷ [])))
    old middle _ c.in_ok-depth.depth
    (writes_counted c.args.line (wanted_code c.args.ty piece) piece.depth (λ around standing. instr.Store (length standing.slots) ∷ []) old middle
    c.put.new.code.items c.wanted.new.code.items (instr.Store slot ∷ []) c.in_ok-depth.depth
    c.in_ok-put.ensures c.in_ok-depth.ensures.code c.in_ok-put-2.ensures (ap (λ n. instr.Store n ∷ []) last)
    (record { names = refl; slots = refl; containers = refl; instances = refl }) c.in_ok-depth.ensures.depth)
    refl
    (c.in_ok-declare.ensures
    ∙ ap (λ n. record { functions = old.names.functions; scope = (n, Number slot c.args.ty) ∷ old.names.scope }) c.as_bytes.ensures
    ∙ ap (λ n. record { functions = old.names.functions; scope = (c.args.name.now, Number n c.args.ty) ∷ old.names.scope }) last)
    c.in_ok-push.ensures.items refl refl
