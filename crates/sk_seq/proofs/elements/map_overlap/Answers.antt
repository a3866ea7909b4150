use Rattle.std.proofs.Common.{◌≡◌, ◌∙◌, ◌-◌, ◌*◌, ℕ, List, [], ap, sym}
use Rattle.std.specs.Prelude.{Option, unwrap_or}
use Rattle.sk_formula.specs.Calls.{row_length, unit_elements}
use Rattle.sk_formula.specs.Skeletons.{value_at}
use Rattle.sk_seq.proofs.Mapped.{of_units}
use Rattle.sk_seq.proofs.elements.map_overlap.Goals as goal
use Rattle.sk_seq.specs.Given.{functions_over, sizes_in}
use Rattle.sk_tree.specs.declared.tree.Skeleton.TheVariants.{MapOverlap}

pub returns-clause-values : goal.returns-clause-values
returns-clause-values g c cells agree =
    let width : ℕ = unit_elements MapOverlap (sizes_in (g.D.Data.means c.args.source.now)) in
    let width_is : width ≡ c.row_length.result = ap (λ (found : Option (List ℕ)). row_length (unwrap_or found [])) c.shape.ensures ∙ sym c.row_length.ensures in
    of_units (value_at (functions_over (g.K.Kernel.means c.args.kernel.now) (g.D.Data.means c.args.source.now) cells))
    (c.args.units.lo * width) c.first_place-first.result ((c.args.units.hi - c.args.units.lo) * width) _
    c.at_places.new.out c.at_places.result
    (ap (λ (n : ℕ). c.args.units.lo * n) width_is ∙ sym c.first_place-first.ensures.first) (sym c.requires.count) (c.at_places.ensures.values cells agree)
