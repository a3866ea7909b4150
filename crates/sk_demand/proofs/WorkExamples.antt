-- Worked examples of how many kernels runs make, by evaluation. Only the sizes of containers are looked at.
use Rattle.std.proofs.Common.{◌≡◌, List, [], ◌∷◌, true, false, pos, None, refl}
use Rattle.sk_base.specs.declared.choice.Variant.{Variant}
use Rattle.sk_base.specs.declared.choice.Variant.TheVariants.{Chunked, Cluster}
use Rattle.sk_demand.proofs.Fixtures.{object, table_of, call_on, mapped}
use Rattle.sk_demand.specs.Work.{work_of, at_once}
use Rattle.sk_isa.specs.Offers.{same_variant}
use Rattle.sk_select.specs.Choice.{same_skeleton}
use Rattle.sk_select.specs.declared.tuning.Rule.{Rule}
use Rattle.sk_select.specs.declared.tuning.Tuning.{Tuning}
use Rattle.sk_tree.specs.InstanceSettings.{default_settings}
use Rattle.sk_tree.specs.declared.tree.Skeleton.{Skeleton}
use Rattle.sk_tree.specs.declared.tree.Skeleton.TheVariants.{Map, Reduce}
use Rattle.sk_world.specs.Events.{Event, Made, Taken, Mapped, Ran, Read}

-- a vector of 10 elements is mapped into itself three times by tiles of 4, and element 5 is read: three kernels of 4 cells
pub chain-work : work_of object (table_of 4 1024) (Made 0 (10 ∷ []) (pos 0) ∷ mapped 0 0 ∷ mapped 0 0 ∷ mapped 0 0 ∷ Read 0 5 ∷ [])
    ≡ record { kernels = 3; cells = 12 }
chain-work = refl

-- Two Maps of two vectors of 2,000 elements into the first, and a Reduce of that.
abbrev demo : List Event
demo =
    Taken 0 (2000 ∷ []) [] ∷ Taken 1 (2000 ∷ []) []
    ∷ Mapped (call_on 1 (0 ∷ 1 ∷ [])) 0 ∷ Mapped (call_on 1 (0 ∷ 1 ∷ [])) 0
    ∷ Ran (call_on 2 (0 ∷ [])) default_settings None false ∷ []

abbrev rule_of : Skeleton → Variant → Rule
rule_of skeleton variant = record { skeleton = skeleton; upto = 1000000; variant = variant; parts = 4 }

-- four ranks, tiles of 256, and these rules
abbrev with_rules : List Rule → Tuning
with_rules rules = record (table_of 256 1024) { ranks = 4; rules = rules }

-- 8 tiles for two calls, 4 folds and 3 joins
pub demo-work : work_of object (with_rules (rule_of Map Cluster ∷ rule_of Reduce Chunked ∷ [])) demo
    ≡ record { kernels = 23; cells = 4007 }
unfolding same_skeleton same_variant
demo-work = refl

-- where each call runs at once: by itself without rules; in four chunks; and with the Maps in four parts too
pub at-once-plain : work_of object (with_rules []) (at_once demo) ≡ record { kernels = 3; cells = 4001 }
at-once-plain = refl

pub at-once-chunked : work_of object (with_rules (rule_of Reduce Chunked ∷ [])) (at_once demo) ≡ record { kernels = 9; cells = 4007 }
unfolding same_skeleton same_variant
at-once-chunked = refl

pub at-once-ranks : work_of object (with_rules (rule_of Map Cluster ∷ rule_of Reduce Chunked ∷ [])) (at_once demo)
    ≡ record { kernels = 15; cells = 4007 }
unfolding same_skeleton same_variant
at-once-ranks = refl

-- recorded, with one tile for each call: two kernels of 2,000 cells, four folds and three joins
pub one-tile : work_of object (record (with_rules (rule_of Reduce Chunked ∷ [])) { tile = 16777216 }) demo
    ≡ record { kernels = 9; cells = 4007 }
unfolding same_skeleton same_variant
one-tile = refl

-- the sum is the only need: where it is not asked for, nothing is computed
pub no-need : work_of object (with_rules [])
    (Taken 0 (2000 ∷ []) [] ∷ Taken 1 (2000 ∷ []) [] ∷ Mapped (call_on 1 (0 ∷ 1 ∷ [])) 0 ∷ []) ≡ record { kernels = 0; cells = 0 }
no-need = refl

-- a Reduce that trapped has its folds alone
pub trapped-work : work_of object (with_rules (rule_of Reduce Chunked ∷ []))
    (Taken 0 (2000 ∷ []) [] ∷ Ran (call_on 2 (0 ∷ [])) default_settings None true ∷ []) ≡ record { kernels = 4; cells = 4 }
unfolding same_skeleton same_variant
trapped-work = refl
