use Rattle.sk_spaces.specs.Spaces.{used_at}
use Rattle.sk_coherence_laws.specs.HostBlocks.{home_at}
use Rattle.sk_coherence_laws.specs.Serves.{Serves}
use Rattle.sk_coherence_laws.specs.Steps.{Traces}
use Rattle.sk_coherence.specs.Evicts.{KeepsPinned, KeepsLeft, MakesHostBlocks}
use Rattle.sk_coherence.specs.Room.{IsMakingWay}
use Rattle.sk_coherence.proofs.directory.Directory.make_room.Given as goal

abbrev pub invariant-evictions : goal.invariant-evictions
invariant-evictions g l = record {
  serves : Serves l.fn.self l.self;
  pinned : KeepsPinned l.fn.self l.self;
  kept : KeepsLeft l.fn.self l.self l.place.space;
  made : MakesHostBlocks l.fn.self l.self;
  traced : Traces (IsMakingWay l.fn.self (home_at l.place.store l.place.space l.place.block.lo l.place.block.hi)) l.fn.self l.self;
}

abbrev pub decreases-evictions : goal.decreases-evictions
decreases-evictions g l = used_at l.self.spaces l.place.space
