-- The settings of a skeleton instance.
use Rattle.std.specs.Prelude.{false, pos, None}
use Rattle.sk_base.specs.declared.choice.EdgeMode.TheVariants.{Duplicate}
use Rattle.sk_tree.specs.declared.settings.Settings.{Settings}

-- the settings of an instance that sets none
abbrev pub default_settings : Settings
default_settings = record { start = None; exclusive = false; columns = false; overlap = (0, 0); edge = Duplicate; pad = pos 0 }
