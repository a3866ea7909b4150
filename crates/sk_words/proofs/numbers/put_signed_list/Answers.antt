use Rattle.std.proofs.Common.{◌++◌, [], map, codes, pos, get_or, ap, ◌∙◌, arith, rules, SFits, w64}
use Rattle.std.specs.Fmt.{signed_decimal}
use Rattle.std.proofs.lemmas.Int.{to_z-of_z}
use Rattle.sk_words.specs.Strung.{strung}
use Rattle.sk_words.proofs.Steps.{strung_step}
use Rattle.sk_words.proofs.numbers.put_signed_list.Goals as goal

pub loop-number-preserved : goal.loop-number-preserved
loop-number-preserved c =
    let number = get_or c.args.numbers.now c.loop-number.number-index (pos 0) in
    let fits : SFits w64 number = search rules in
    strung_step signed_decimal c.loop-number.out.items c.loop-number.lead.now c.put_signed.new.out.items (codes ", ")
    (c.args.out.now.items ++ strung (codes ", ") [] (map signed_decimal c.args.numbers.now)) c.args.numbers.now c.loop-number.number-index (pos 0)
    (omega arith) c.loop-number.invariant
    (c.in_ok-put_signed.ensures
    ∙ ap (λ n. c.extend_from_slice.new.self.items ++ signed_decimal n) (to_z-of_z w64 number fits)
    ∙ ap (λ xs. xs ++ signed_decimal number) c.in_ok-extend_from_slice.ensures.items)
