-- Setting the settings of an instance.
use Rattle.std.specs.Prelude.{ℕ, nat_le, Bool, if◌then◌else◌, List, [], ◌∷◌, ℤ, pos, negsuc, Option, Some, None, Result, Ok, Err}
use Rattle.sk_base.specs.Arithmetic.{wrapped}
use Rattle.sk_base.specs.declared.choice.EdgeMode.{EdgeMode}
use Rattle.sk_base.specs.declared.number.Trap.TheVariants.{Shape}
use Rattle.sk_base.specs.declared.number.Ty.{Ty}
use Rattle.sk_tree.specs.Parameters.{region_of}
use Rattle.sk_tree.specs.declared.settings.Settings.{Settings}
use Rattle.sk_world.specs.Calls.{Instance}
use Rattle.sk_world.specs.World.{World, Over, Trapped, settings_in, put_settings}

-- what an instance may be set to; values are of either type
pub data SettingValue : Type 0 where
  Start : ℤ → SettingValue
  Exclusive : Bool → SettingValue
  Columns : Bool → SettingValue
  Overlap : List ℤ → SettingValue
  Edge : EdgeMode → SettingValue
  Pad : ℤ → SettingValue

-- an overlap is from 0 to 65,536
abbrev pub overlap_limit : ℕ
overlap_limit = 65536

abbrev pub overlap_of : ℤ → Option ℕ
overlap_of (pos overlap) = if nat_le overlap overlap_limit then Some overlap else None
overlap_of (negsuc overlap) = None

abbrev pub both_overlaps : Option ℕ → Option ℕ → Option (ℕ × ℕ)
both_overlaps (Some one) (Some other) = Some (one, other)
both_overlaps None other = None
both_overlaps (Some one) None = None

-- one overlap is that in both directions
abbrev pub overlap_pair : List ℤ → Option (ℕ × ℕ)
overlap_pair [] = None
overlap_pair (one ∷ []) = both_overlaps (overlap_of one) (overlap_of one)
overlap_pair (one ∷ other ∷ more) = both_overlaps (overlap_of one) (overlap_of other)

-- the type of the elements that an instance's region has
abbrev pub region_type : Instance → Ty
region_type instance = elim (region_of instance.kinds) [ Some region ↦ region.1 | None ↦ instance.ty ]

-- The settings with a new value, or none where it is out of its range. The start value is converted to the operator's type,
-- which is the function's, and the pad value to that of the region's elements.
abbrev pub with_setting : Instance → SettingValue → Settings → Option Settings
with_setting instance (Start value) settings = Some (record settings { start = Some (wrapped instance.ty value) })
with_setting instance (Exclusive exclusive) settings = Some (record settings { exclusive = exclusive })
with_setting instance (Columns columns) settings = Some (record settings { columns = columns })
with_setting instance (Overlap values) settings =
    elim (overlap_pair values) [ Some overlap ↦ Some (record settings { overlap = overlap }) | None ↦ None ]
with_setting instance (Edge edge) settings = Some (record settings { edge = edge })
with_setting instance (Pad value) settings = Some (record settings { pad = wrapped (region_type instance) value })

-- a setting that is out of its range is a shape trap, and the setting stays
abbrev pub set_instance : Instance → SettingValue → World → Result World Over
set_instance instance value world = elim (with_setting instance value (settings_in world instance.number)) [
  | Some settings ↦ Ok (put_settings instance.number settings world)
  | None ↦ Err (record { ending = Trapped Shape world.line 0; world = world })
]
