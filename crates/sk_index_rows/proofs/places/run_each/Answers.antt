use Rattle.std.proofs.Common.{ℕ, [], subst, sym}
use Rattle.sk_kernel.specs.Instances.{function_meaning}
use Rattle.sk_kernel.specs.Kernels.{SuitsRun}
use Rattle.sk_kernel.specs.Vectors.{vector_source}
use Rattle.sk_index_rows.proofs.Suited.{indexed-suits}
use Rattle.sk_index_rows.proofs.places.run_each.Goals as goal

pub run_each-requires-clause-suits : goal.run_each-requires-clause-suits
run_each-requires-clause-suits c =
    subst (λ (n : ℕ). SuitsRun (function_meaning c.args.object.now c.args.frame.now.function c.args.frame.now.reading) (vector_source c.args.cells.now c.args.shape.now []) 0 0 n)
    (sym c.requires.count)
    (indexed-suits c.args.object.now c.args.function c.args.frame.now c.args.cells.now c.args.shape.now c.requires.indexed c.requires.ready c.requires.there c.requires.shape c.requires.range)
