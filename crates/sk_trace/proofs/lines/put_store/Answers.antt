use Rattle.std.proofs.Common.{ap, arith, map}
use Rattle.std.specs.Fmt.{decimal}
use Rattle.std.proofs.lemmas.List.{length-map}
use Rattle.sk_names.specs.Words.{type_word}
use Rattle.sk_trace.proofs.Puts.{store-put}
use Rattle.sk_trace.proofs.lines.put_store.Goals as goal

pub returns : goal.returns
returns c =
    store-put c.args.out.now.items c.put_spaced.new.out.items c.put_word.new.out.items c.put_strung.new.out.items (decimal c.args.store)
    (type_word c.args.ty) c.type_name.result.now (map decimal c.args.shape.now) (map decimal c.sizes.result.now) c.in_ok-put_spaced.ensures
    c.in_ok-put_word.ensures c.type_name.ensures c.in_ok-put_strung.ensures (ap (map decimal) c.sizes.ensures.value)
    (omega (arith, c.sizes.ensures.shape.some, length-map c.args.shape.now decimal))
