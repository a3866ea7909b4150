use Rattle.std.proofs.Common.{ℕ, refl, sym, ap, ◌∙◌}
use Rattle.sk_spaces.specs.Blocks.{block_in, copied}
use Rattle.sk_spaces.proofs.CopyLemmas.{copied-same}
use Rattle.sk_spaces.proofs.blocks.copy.Goals as goal

pub returns-then-from-to-clause-copied : goal.returns-then-from-to-clause-copied
returns-then-from-to-clause-copied c =
    let es = c.args.blocks.now.entries in
    record {
      here = sym (ap (λ (q : ℕ). copied c.args.range.lo c.args.range.hi (block_in es q) (block_in es c.args.to)) c.if-from-to.true
          ∙ copied-same (block_in es c.args.to) c.args.range.lo c.args.range.hi (c.requires.whole c.args.to) c.requires.writable);
      others = λ q apart. refl;
    }
