use Rattle.std.proofs.Common.{◌<◌, ◌≤◌, map, sym, ap, ◌∙◌, [], length, rules}
use Rattle.std.specs.Prelude.{FitsSigned, option_map, pos}
use Rattle.std.specs.Int.{w64}
use Rattle.std.proofs.lemmas.List.{get_or-map}
use Rattle.std.proofs.lemmas.Int.{to_z-of_z}
use Rattle.sk_data.specs.Sizes.{size_of}
use Rattle.sk_data.proofs.Places.{length-mapped}
use Rattle.sk_data.proofs.SizesRead.{part_more, part_none, parts_end}
use Rattle.sk_data.proofs.sizes.read_sizes.Goals as goal

pub parts-init : goal.parts-init
parts-init c = rw (c.as_slice-part-items.ensures.value, c.in_ok-parts.ensures, c.in_ok-sizes.ensures.items)

pub returns-in-None : goal.returns-in-None
returns-in-None c =
    let items = c.as_slice-part-items.result.now in
    let below : c.parts.part-index < length (map (λ part. part.now) items) = rw (length-mapped (λ part. part.now) items) c.parts-test.true in
    sym (c.parts.invariant ∙ part_none c.parts.sizes.items (map (λ part. part.now) items) c.parts.part-index below
    (sym c.in-None.is ∙ c.read_size.ensures ∙ ap (λ text. option_map pos (size_of text)) (sym (get_or-map (λ part. part.now) items c.parts.part-index _ [] c.parts-test.true))))

pub parts-preserved : goal.parts-preserved
parts-preserved c =
    let items = c.as_slice-part-items.result.now in
    let below : c.parts.part-index < length (map (λ part. part.now) items) = rw (length-mapped (λ part. part.now) items) c.parts-test.true in
    let more = part_more c.parts.sizes.items (map (λ part. part.now) items) c.parts.part-index c.in-Some.size below
    (sym c.in-Some.is ∙ c.read_size.ensures ∙ ap (λ text. option_map pos (size_of text)) (sym (get_or-map (λ part. part.now) items c.parts.part-index _ [] c.parts-test.true))) in
    let fits : FitsSigned w64 c.in-Some.size = search rules in
    let pushed = simp to_z-of_z at c.in_ok-push-in-Some.ensures.items in
    rw pushed (c.parts.invariant ∙ more)

pub returns : goal.returns
returns c =
    let items = c.as_slice-part-items.result.now in
    let past : length (map (λ part. part.now) items) ≤ c.parts.part-index = rw (length-mapped (λ part. part.now) items) c.parts-test.false in
    sym (c.parts.invariant ∙ parts_end c.parts.sizes.items (map (λ part. part.now) items) c.parts.part-index past)
