use Rattle.std.proofs.Common.{◌∙◌, sym, ap, slice_index, arith}
use Rattle.sk_lexer.specs.declared.place.Place.{Place}
use Rattle.sk_lexer.specs.Places.{place_then}
use Rattle.sk_lexer.proofs.PlaceLemmas.{at-place_then, fold-place_then}
use Rattle.sk_lexer.proofs.place.Place.past.Goals as goal

pub loop-byte-preserved : goal.loop-byte-preserved
loop-byte-preserved c =
    let byte = slice_index c.args.bytes.now c.loop-byte.byte-index in
    let step = c.after-place.ensures in
    let bounds = at-place_then c.loop-byte.place byte in
    let at = ap (λ (p : Place). p.at) step in
    let line = ap (λ (p : Place). p.line) step in (
      omega (arith, bounds.0, at),
      omega (arith, bounds.1, line),
      step ∙ ap (λ (p : Place). place_then p byte) c.loop-byte.invariant.2 ∙ sym (fold-place_then c.args.self c.args.bytes.now c.loop-byte.byte-index c.loop-byte-test.true),
    )
