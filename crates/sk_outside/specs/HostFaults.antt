-- What is known of the real files.
use Rattle.std.specs.Prelude.{None}
use Rattle.sk_outside.specs.Faults.{Faults}
use Rattle.sk_outside.specs.Holding.{FilesHolding}

-- the faults of reading and of writing
pub record HostFaults : Type 0 where
  pub reads : Faults
  pub writes : Faults

-- real files tell nothing of their contents
abbrev pub untold : HostFaults → FilesHolding
untold faults = record { contents = None; reads = faults.reads; writes = faults.writes }
