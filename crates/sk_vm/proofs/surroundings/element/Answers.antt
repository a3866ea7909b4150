use Rattle.std.proofs.Common.{rules, ◌≡◌, ◌<◌, ◌∙◌, [], ap, sym, subst, ℕ, ℤ, List, Option, Ok, unwrap_or, FitsSigned, w64}
use Rattle.std.proofs.lemmas.Int.{to_z-of_z}
use Rattle.sk_arguments.specs.Arguments.{shape_of}
use Rattle.sk_base.specs.Shape.{cells_of}
use Rattle.sk_vm.specs.Surroundings.{held_by}
use Rattle.sk_vm.proofs.Sizes.{element_found, flat-below}
use Rattle.sk_vm.proofs.surroundings.element.Goals as goal

pub cell-requires : goal.cell-requires
cell-requires g c =
    let shape_is : shape_of (held_by (g.D.Data.means c.args.source.now)) c.args.operand ≡ c.shape.result.now = ap (λ (o : Option (List ℕ)). unwrap_or o []) c.shape.ensures in
    record {
      held =
          c.requires.held c.in-Some.index
          (subst (λ (sizes : List ℕ). c.in-Some.index < cells_of sizes) (sym shape_is)
          (flat-below c.shape.result.now c.args.place.now c.in-Some.index (sym c.flat.ensures ∙ c.in-Some.is)));
    }

pub returns-in-Some : goal.returns-in-Some
returns-in-Some g c =
    let fits : FitsSigned w64 c.cell.result = search rules in
    ap (λ (x : ℤ). Ok x) (to_z-of_z w64 c.cell.result fits)
    ∙ element_found (g.D.Data.means c.args.source.now) c.args.operand c.shape.result.now c.args.place.now c.in-Some.index c.cell.result c.shape.ensures
    (sym c.flat.ensures ∙ c.in-Some.is) c.cell.ensures
