use Rattle.std.proofs.Common.{rules, ◌≡◌, ◌∙◌, ◌-◌, [], ap, sym, ℕ, ℤ, List, Option, nat_lt, option_map, unwrap_or, FitsSigned, w64}
use Rattle.std.proofs.lemmas.Bool.{cond-false, le-ltb}
use Rattle.std.proofs.lemmas.Int.{to_z-of_z}
use Rattle.sk_arguments.specs.Arguments.{first_cells}
use Rattle.sk_base.specs.Shape.{cells_of}
use Rattle.sk_meaning.specs.Evaluation.{Argument, Whole, field_of}
use Rattle.sk_vm.specs.Surroundings.{held_by, other_in}
use Rattle.sk_vm.proofs.surroundings.GivenSurroundings.field.Goals as goal

pub returns-in-Some : goal.returns-in-Some
returns-in-Some g c =
    let given = held_by (g.D.Data.means c.in-Some.source.now) in
    let operand = c.args.slot - c.args.self.now.skipped in
    let cells = first_cells (given.cells operand) (cells_of c.shape.result.now) in
    let fits : FitsSigned w64 c.size.result = search rules in
    to_z-of_z w64 c.size.result fits ∙ c.size.ensures cells
    ∙ sym (ap (λ (sizes : Option (List ℕ)). field_of (Whole (unwrap_or sizes []) (first_cells (given.cells operand) (cells_of (unwrap_or sizes [])))) c.args.name.now) c.shape.ensures)
    ∙ sym (ap (λ (argument : Argument). field_of argument c.args.name.now) (cond-false (nat_lt c.args.slot c.args.self.now.indices) _ _ (le-ltb c.args.slot c.args.self.now.indices c.if-slot-self.true)))
    ∙ sym (ap (λ source. field_of (other_in (option_map (λ source. g.D.Data.means source.now) source) c.args.self.now.place.now c.args.self.now.indices c.args.self.now.skipped c.args.slot) c.args.name.now) c.in-Some.is)
