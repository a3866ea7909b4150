use Rattle.std.proofs.Common.{◌≡◌, length}
use Rattle.sk_data.specs.Keeping.{room_of}
use Rattle.sk_data.proofs.Taking.{IsTaking}
use Rattle.sk_data.proofs.from_text.take_all.Given as goal

abbrev pub invariant-records : goal.invariant-records
invariant-records l = record {
  taking : IsTaking l.fn.inputs.declared l.bytes l.rest l.inputs l.row;
  name : room_of l.room.name ≡ l.most;
  shape : room_of l.room.shape ≡ l.most;
}

abbrev pub decreases-records : goal.decreases-records
decreases-records l = length l.rest
