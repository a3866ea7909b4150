use Rattle.std.proofs.Common.{rules, ◌≡◌, ◌∙◌, ◌<◌, ap, sym, subst, pos, ℕ, ℤ, List, length, slice_index_or, FitsSigned, w64}
use Rattle.std.proofs.lemmas.Int.{to_z-of_z}
use Rattle.sk_vm.proofs.Sizes.{reads_size, with_side}
use Rattle.sk_vm.proofs.surroundings.size.Goals as goal

pub bounds-sizes-side : goal.bounds-sizes-side
bounds-sizes-side c =
    let has = with_side c.args.shape.now _ _ c.in-Some.side (reads_size c.args.shape.now c.args.name.now c.requires.0 c.requires.1 c.requires.2) (sym c.side_of.ensures ∙ c.in-Some.is) in
    subst (λ (sizes : List ℕ). c.in-Some.side < length sizes) (sym c.sizes.ensures.value) has.inside

pub returns-in-Some : goal.returns-in-Some
returns-in-Some c cells =
    let has = with_side c.args.shape.now _ _ c.in-Some.side (reads_size c.args.shape.now c.args.name.now c.requires.0 c.requires.1 c.requires.2) (sym c.side_of.ensures ∙ c.in-Some.is) in
    let fits : FitsSigned w64 c.from.result = search rules in
    to_z-of_z w64 c.from.result fits ∙ c.from.ensures
    ∙ ap (λ (sizes : List ℕ). pos (slice_index_or sizes c.in-Some.side 0)) c.sizes.ensures.value ∙ ap (λ (n : ℕ). pos n) (sym has.is)
