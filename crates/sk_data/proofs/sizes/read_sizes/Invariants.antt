use Rattle.std.proofs.Common.{◌≡◌, map, drop, []}
use Rattle.sk_data.specs.Sizes.{parts_of, size_of}
use Rattle.sk_data.proofs.SizesRead.{wanted_of}
use Rattle.sk_data.proofs.sizes.read_sizes.Given as goal

abbrev pub invariant-parts : goal.invariant-parts
invariant-parts l = wanted_of [] (map size_of (parts_of l.fn.text)) ≡ wanted_of l.sizes.items (map size_of (drop l.part-index (map (λ part. part.now) l.part-items)))
