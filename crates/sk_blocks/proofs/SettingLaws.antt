-- The settings of a call come back from what its line tells of them, and the other way round.
use Rattle.std.proofs.Common.{◌≡◌, ◌∙◌, ◌&&◌, ◌||◌, Bool, true, false, cond, not, refl, ap, subst}
use Rattle.sk_blocks.specs.SettingLines.{goes_by_lines, counts_own, mode_of, told_settings, settings_told, is_col, is_excl, has_mode, may_have}
use Rattle.sk_spaces.specs.declared.step.CallMode.{CallMode}
use Rattle.sk_spaces.specs.declared.step.CallMode.TheVariants.{Absent, Row, Col, Incl, Excl}
use Rattle.sk_spaces.specs.declared.step.CallSettings.{CallSettings}
use Rattle.sk_tree.specs.declared.settings.Settings.{Settings}
use Rattle.sk_tree.specs.declared.tree.Skeleton.{Skeleton}
use Rattle.sk_tree.specs.declared.tree.Skeleton.TheVariants.{Map, Reduce, Scan, MapReduce, MapOverlap, MapPairs, MapPairsReduce, Call}

nothing : (false ≡ true) → ⊥
nothing is = subst (λ (b : Bool). cond b ⊥ (Unit {0})) is tt

abbrev mode_by : Skeleton → (columns exclusive : Bool) → CallMode
mode_by skeleton columns exclusive =
    cond (goes_by_lines skeleton) (cond columns Col Row) (cond (counts_own skeleton) (cond exclusive Excl Incl) Absent)

-- the mode tells whether the settings go by columns and are exclusive
mode-tells : (skeleton : Skeleton) (columns exclusive : Bool)
    → ((not columns || goes_by_lines skeleton) && (not exclusive || counts_own skeleton)) ≡ true
    → (is_col (mode_by skeleton columns exclusive) ≡ columns) × (is_excl (mode_by skeleton columns exclusive) ≡ exclusive)
mode-tells Reduce true false may = (refl, refl)
mode-tells MapPairsReduce true false may = (refl, refl)
mode-tells Scan false true may = (refl, refl)
mode-tells Map false false may = (refl, refl)
mode-tells Reduce false false may = (refl, refl)
mode-tells Scan false false may = (refl, refl)
mode-tells MapReduce false false may = (refl, refl)
mode-tells MapOverlap false false may = (refl, refl)
mode-tells MapPairs false false may = (refl, refl)
mode-tells MapPairsReduce false false may = (refl, refl)
mode-tells Call false false may = (refl, refl)
mode-tells skeleton columns exclusive may = absurd (nothing may)

abbrev having : Settings → (columns exclusive : Bool) → Settings
having settings columns exclusive = record settings { columns = columns; exclusive = exclusive }

-- settings that an instance of the skeleton may have come back from their line
pub settings-back : (skeleton : Skeleton) (settings : Settings) → may_have skeleton settings ≡ true
    → settings_told (told_settings skeleton settings) ≡ settings
settings-back skeleton settings may =
    let tells : (is_col (mode_of skeleton settings) ≡ settings.columns) × (is_excl (mode_of skeleton settings) ≡ settings.exclusive)
    = mode-tells skeleton settings.columns settings.exclusive may in
    ap (λ (columns : Bool). having settings columns (is_excl (mode_of skeleton settings))) tells.0
    ∙ ap (λ (exclusive : Bool). having settings settings.columns exclusive) tells.1

mode-back : (skeleton : Skeleton) (mode : CallMode) → has_mode skeleton mode ≡ true
    → mode_by skeleton (is_col mode) (is_excl mode) ≡ mode
mode-back Reduce Row has = refl
mode-back Reduce Col has = refl
mode-back MapPairsReduce Row has = refl
mode-back MapPairsReduce Col has = refl
mode-back Scan Incl has = refl
mode-back Scan Excl has = refl
mode-back Map Absent has = refl
mode-back MapReduce Absent has = refl
mode-back MapOverlap Absent has = refl
mode-back MapPairs Absent has = refl
mode-back Call Absent has = refl
mode-back skeleton mode has = absurd (nothing has)

-- a line with a mode of the skeleton is what is told of its settings
pub line-back : (skeleton : Skeleton) (told : CallSettings) → has_mode skeleton told.mode ≡ true
    → told_settings skeleton (settings_told told) ≡ told
line-back skeleton told has = ap (λ (mode : CallMode). record told { mode = mode }) (mode-back skeleton told.mode has)
