use Rattle.std.proofs.Common.{◌≡◌, None, true, false, leb, leb-true, leb-false, arith, rules}
use Rattle.std.specs.List.Sorted.{IsPartitionPoint}
use Rattle.std.proofs.lemmas.List.Sorted.{IsPartitionPoint-from_clause, IsPartitionedBy-leb}
use Rattle.sk_ranges.specs.declared.state.State.TheVariants.{Stale}
use Rattle.sk_ranges.specs.declared.pieces.Piece.{Piece}
use Rattle.sk_ranges.proofs.PieceLemmas.{ends_rise, end_of-take_below, place_inside}
use Rattle.sk_ranges.proofs.pieces.place.Goals as goal

-- what `partition_point` found, by the pieces' ends
parted : (c : goal.After-partition_point) → IsPartitionPoint (λ (p : Piece). leb p.end c.args.index ≡ true) (λ (p : Piece). leb p.end c.args.index ≡ false) c.args.pieces.now c.partition_point.result
parted c =
    let rising = IsPartitionedBy-leb (λ (p : Piece). p.end) c.args.pieces.now c.args.index (λ i j d o h. ends_rise 0 None c.args.pieces.now i j d c.requires o h) in
    IsPartitionPoint-from_clause (λ (p : Piece). leb p.end c.args.index) _ _ c.partition_point.ensures.partitioned rising (λ a r q k. search rules)

pub returns-clause-before : goal.returns-clause-before
returns-clause-before c =
    end_of-take_below c.args.pieces.now c.partition_point.result c.args.index (record { end = 0; state = Stale }) c.partition_point.ensures.bound
    (λ j h. leb-true _ _ ((parted c).0 j (record { end = 0; state = Stale }) (omega arith) h))

pub returns-clause-inside : goal.returns-clause-inside
returns-clause-inside c = place_inside c.args.pieces.now c.partition_point.result c.args.index c.partition_point.ensures.bound (returns-clause-before c)

pub returns-clause-after : goal.returns-clause-after
returns-clause-after c = λ d h. leb-false _ _ ((parted c).1 c.partition_point.result d (omega arith) h)
