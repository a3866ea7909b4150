use Rattle.std.proofs.Common.{refl, rules}
use Rattle.sk_main_emitter.proofs.MainProgram.{main_written}
use Rattle.sk_main_emitter.proofs.program.write_main.Goals as goal

pub returns : goal.returns
returns c =
    main_written c.args.functions.functions c.args.body.now _ c.all.new.writer _ c.in_ok-depth.depth
    c.in_ok-depth.ensures c.in_ok-put.ensures (record { names = refl; slots = refl; containers = refl; instances = refl })
    c.new-names.ensures (search rules) (search rules) (search rules) (search rules)
