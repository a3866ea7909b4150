-- The settings of a call as its line in a trace tells them.
use Rattle.std.specs.Prelude.{Bool, true, false, not, ◌||◌, ◌&&◌, if◌then◌else◌}
use Rattle.sk_spaces.specs.declared.step.CallMode.{CallMode}
use Rattle.sk_spaces.specs.declared.step.CallMode.TheVariants.{Absent, Row, Col, Incl, Excl}
use Rattle.sk_spaces.specs.declared.step.CallSettings.{CallSettings}
use Rattle.sk_tree.specs.declared.settings.Settings.{Settings}
use Rattle.sk_tree.specs.declared.tree.Skeleton.{Skeleton}
use Rattle.sk_tree.specs.declared.tree.Skeleton.TheVariants.{Reduce, Scan, MapPairsReduce}

-- a skeleton that folds the lines of a matrix goes by rows or by columns
abbrev pub goes_by_lines : Skeleton → Bool
goes_by_lines Reduce = true
goes_by_lines MapPairsReduce = true
goes_by_lines skeleton = false

-- a Scan counts its elements with or without the own one
abbrev pub counts_own : Skeleton → Bool
counts_own Scan = true
counts_own skeleton = false

abbrev pub mode_of : Skeleton → Settings → CallMode
mode_of skeleton settings =
    if goes_by_lines skeleton then (if settings.columns then Col else Row)
    else if counts_own skeleton then (if settings.exclusive then Excl else Incl)
    else Absent

-- a mode is one that calls of a skeleton have
abbrev pub has_mode : Skeleton → CallMode → Bool
has_mode skeleton Row = goes_by_lines skeleton
has_mode skeleton Col = goes_by_lines skeleton
has_mode skeleton Incl = counts_own skeleton
has_mode skeleton Excl = counts_own skeleton
has_mode skeleton Absent = not (goes_by_lines skeleton || counts_own skeleton)

-- what the line of a call of a skeleton tells of these settings
abbrev pub told_settings : Skeleton → Settings → CallSettings
told_settings skeleton settings = record {
  mode = mode_of skeleton settings;
  overlap = settings.overlap;
  edge = settings.edge;
  pad = settings.pad;
  start = settings.start;
}

abbrev pub is_col : CallMode → Bool
is_col Col = true
is_col mode = false

abbrev pub is_excl : CallMode → Bool
is_excl Excl = true
is_excl mode = false

-- the settings that a line tells
abbrev pub settings_told : CallSettings → Settings
settings_told told = record {
  start = told.start;
  exclusive = is_excl told.mode;
  columns = is_col told.mode;
  overlap = told.overlap;
  edge = told.edge;
  pad = told.pad;
}

-- an instance of the skeleton may have these settings: columns only where lines are folded, and exclusive only for a Scan
abbrev pub may_have : Skeleton → Settings → Bool
may_have skeleton settings =
    (not settings.columns || goes_by_lines skeleton) && (not settings.exclusive || counts_own skeleton)
