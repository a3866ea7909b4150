use Rattle.std.proofs.Common.{◌≡◌, take}
use Rattle.std.specs.List.{flat_map}
use Rattle.sk_data.specs.Records.{dumped_record}
use Rattle.sk_data.proofs.to_text.text_of.Given as goal

abbrev pub invariant-containers : goal.invariant-containers
invariant-containers l = l.out.items ≡ flat_map dumped_record (take l.container-index l.containers)
