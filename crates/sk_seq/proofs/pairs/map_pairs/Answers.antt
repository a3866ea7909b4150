use Rattle.std.proofs.Common.{◌≡◌, ◌∙◌, ◌+◌, ◌-◌, ◌*◌, ℕ, List, ap, sym, subst}
use Rattle.std.specs.Prelude.{Ok, Err, Option, None, Some}
use Rattle.sk_formula.specs.Elements.{mapped}
use Rattle.sk_base.specs.Shape.{cells_of}
use Rattle.sk_formula.specs.Calls.{unit_elements}
use Rattle.sk_formula.specs.Skeletons.{pair_value}
use Rattle.sk_seq.proofs.PairLemmas.{pairs_done, pairs_trapped}
use Rattle.sk_seq.proofs.pairs.map_pairs.Goals as goal
use Rattle.sk_seq.specs.Given.{functions_over, sizes_in}
use Rattle.sk_tree.specs.declared.tree.Skeleton.TheVariants.{MapPairs}

pub returns-in-Ok-clause-values : goal.returns-in-Ok-clause-values
returns-in-Ok-clause-values g c cells agree =
    let functions = functions_over (g.K.Kernel.means c.args.kernel.now) (g.D.Data.means c.args.source.now) cells in
    let width_is : unit_elements MapPairs (sizes_in (g.D.Data.means c.args.source.now)) ≡ c.cells-width.result =
    ap (λ (found : Option (List ℕ)). elim found [ Some shape ↦ cells_of shape | None ↦ 0 ]) c.shape.ensures ∙ sym c.cells-width.ensures.value in
    subst (λ (w : ℕ). mapped (pair_value functions w) (c.args.units.lo * w) ((c.args.units.hi - c.args.units.lo) * w) ≡ Ok c.rows.new.out) (sym width_is)
    (pairs_done functions c.cells-width.result (c.args.units.lo * c.cells-width.result) ((c.args.units.hi - c.args.units.lo) * c.cells-width.result) c.rows.new.out
    (c.rows.ensures.count ∙ c.requires.count ∙ ap (λ (n : ℕ). (c.args.units.hi - c.args.units.lo) * n) width_is) (c.in-Ok.ensures.values cells agree))

pub returns-in-Err-clause-values : goal.returns-in-Err-clause-values
returns-in-Err-clause-values g c cells agree =
    let functions = functions_over (g.K.Kernel.means c.args.kernel.now) (g.D.Data.means c.args.source.now) cells in
    let width_is : unit_elements MapPairs (sizes_in (g.D.Data.means c.args.source.now)) ≡ c.cells-width.result =
    ap (λ (found : Option (List ℕ)). elim found [ Some shape ↦ cells_of shape | None ↦ 0 ]) c.shape.ensures ∙ sym c.cells-width.ensures.value in
    subst (λ (w : ℕ). mapped (pair_value functions w) (c.args.units.lo * w) ((c.args.units.hi - c.args.units.lo) * w)
    ≡ Err (record { trap = c.in-Err.trapped.trap; element = c.first_place-first.result + c.in-Err.trapped.offset })) (sym width_is)
    (subst (λ (n : ℕ). mapped (pair_value functions c.cells-width.result) (c.args.units.lo * c.cells-width.result) ((c.args.units.hi - c.args.units.lo) * c.cells-width.result)
    ≡ Err (record { trap = c.in-Err.trapped.trap; element = n + c.in-Err.trapped.offset })) (sym c.first_place-first.ensures.first)
    (pairs_trapped functions c.cells-width.result (c.args.units.lo * c.cells-width.result) ((c.args.units.hi - c.args.units.lo) * c.cells-width.result) c.rows.new.out c.in-Err.trapped
    (c.rows.ensures.count ∙ c.requires.count ∙ ap (λ (n : ℕ). (c.args.units.hi - c.args.units.lo) * n) width_is) (c.in-Err.ensures.values cells agree)))
