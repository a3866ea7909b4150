use Rattle.std.proofs.Common.{◌∙◌, ap, sym, subst, ◌≤◌, ◌^◌, map, unsigned_abs, arith, Some}
use Rattle.std.proofs.lemmas.Bool.{both_ways}
use Rattle.sk_base.specs.Shape.{cells_of, IsShape}
use Rattle.sk_base.proofs.shape.Shape.new.Goals as goal
use Rattle.sk_base.proofs.Shapes.{no_shape-sizes, no_shape-product, shape_found, IsShape-unsigned_abs}

pub returns-then-not-are_sizes-clause-value : goal.returns-then-not-are_sizes-clause-value
returns-then-not-are_sizes-clause-value c =
    no_shape-sizes c.args.sizes.now (λ are. both_ways c.are_sizes.result c.if-not-are_sizes.true (c.are_sizes.ensures.1 are))

pub returns-then-bounded_product-gt-MOST_CELLS-clause-value : goal.returns-then-bounded_product-gt-MOST_CELLS-clause-value
returns-then-bounded_product-gt-MOST_CELLS-clause-value c =
    no_shape-product c.args.sizes.now (omega (arith, ap cells_of c.as_slice.ensures, ap cells_of c.numbers-sizes.ensures.items))

pub invariant_of-result : goal.invariant_of-result
invariant_of-result c =
    let are = c.are_sizes.ensures.0 c.if-not-are_sizes.false in
    let product : cells_of (map unsigned_abs c.args.sizes.now) ≤ 2 ^ 24 = omega (arith, ap cells_of c.as_slice.ensures, ap cells_of c.numbers-sizes.ensures.items) in
    (subst IsShape (sym c.numbers-sizes.ensures.items) (IsShape-unsigned_abs c.args.sizes.now are product), c.numbers-sizes.ensures.inline)

pub returns-clause-value : goal.returns-clause-value
returns-clause-value c =
    let are = c.are_sizes.ensures.0 c.if-not-are_sizes.false in
    let product : cells_of (map unsigned_abs c.args.sizes.now) ≤ 2 ^ 24 = omega (arith, ap cells_of c.as_slice.ensures, ap cells_of c.numbers-sizes.ensures.items) in
    ap Some c.numbers-sizes.ensures.items ∙ shape_found c.args.sizes.now are product

pub returns-clause-shape : goal.returns-clause-shape
returns-clause-shape c =
    let are = c.are_sizes.ensures.0 c.if-not-are_sizes.false in
    let product : cells_of (map unsigned_abs c.args.sizes.now) ≤ 2 ^ 24 = omega (arith, ap cells_of c.as_slice.ensures, ap cells_of c.numbers-sizes.ensures.items) in
    subst IsShape (sym c.numbers-sizes.ensures.items) (IsShape-unsigned_abs c.args.sizes.now are product)
