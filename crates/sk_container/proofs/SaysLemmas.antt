-- A line that says a write says it whatever the name of the next one.
use Rattle.std.proofs.Common.{ℕ, ℤ, List}
use Rattle.sk_spaces.specs.declared.step.Step.{Step}
use Rattle.sk_spaces.specs.declared.step.Step.TheVariants as line
use Rattle.sk_coherence_laws.specs.Directory.{DirectoryView}
use Rattle.sk_coherence.specs.Named.{ClonesFrom, SaysWrite}
use Rattle.sk_container.proofs.PutLemmas.{named_as}

clones_named : (d : DirectoryView) (name : Step) (source copy lo hi : ℕ) (cells : List ℤ) → ClonesFrom d source copy lo hi cells → ClonesFrom (named_as d name) source copy lo hi cells
clones_named d name source copy lo hi cells f = record {
  there = f.there;
  apart = f.apart;
  host = f.host;
  reaches = f.reaches;
  readable = f.readable;
  equal = f.equal;
}

pub says-named : (d : DirectoryView) (name : Step) (copy lo hi : ℕ) (cells : List ℤ) (step : Step) → SaysWrite d copy lo hi cells step → SaysWrite (named_as d name) copy lo hi cells step
says-named d name copy lo hi cells (line.Memory ranks size tile lineage) is = absurd is
says-named d name copy lo hi cells (line.Store store ty shape) is = absurd is
says-named d name copy lo hi cells (line.Alloc id of at from to) is = absurd is
says-named d name copy lo hi cells (line.Free id) is = absurd is
says-named d name copy lo hi cells (line.Stale store from to) is = absurd is
says-named d name copy lo hi cells (line.Copy source target from to) is = absurd is
says-named d name copy lo hi cells (line.Back source target from to) is = absurd is
says-named d name copy lo hi cells (line.Send message source target from to) is = absurd is
says-named d name copy lo hi cells (line.Deliver message) is = absurd is
says-named d name copy lo hi cells (line.Fill id from to cell) is = is
says-named d name copy lo hi cells (line.Write id from xs) is = is
says-named d name copy lo hi cells (line.Poke id index cell) is = is
says-named d name copy lo hi cells (line.Clone source target from to) is = (is.0, is.1, is.2, clones_named d name source copy lo hi cells is.3)
says-named d name copy lo hi cells (line.Call call text instance variant parts recorded result operands uniforms settings) is = absurd is
says-named d name copy lo hi cells (line.Kernel call kind part from to out trapped inputs) is = absurd is
says-named d name copy lo hi cells (line.Read id from to) is = absurd is
says-named d name copy lo hi cells (line.Bind container store) is = absurd is
says-named d name copy lo hi cells (line.Unbind container) is = absurd is
says-named d name copy lo hi cells line.Flush is = absurd is
