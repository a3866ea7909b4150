-- The steps that there are: each number fits its type. Stores, copies, messages and calls are numbers of 64 bits, cells are
-- signed numbers of 64 bits, and every other number is one of 32 bits.
use Rattle.std.specs.Prelude.{ℕ, ℤ, ◌^◌, ◌<◌, All, Option, Some, None, ⊤}
use Rattle.sk_base.specs.Arithmetic.{InRange}
use Rattle.sk_base.specs.Shape.{IsShape}
use Rattle.sk_base.specs.declared.number.Ty.TheVariants.{Long}
use Rattle.sk_spaces.specs.declared.step.CallSettings.{CallSettings}
use Rattle.sk_spaces.specs.declared.step.Step.{Step}
use Rattle.sk_spaces.specs.declared.step.Step.TheVariants as step

-- a number of 64 bits
abbrev pub IsWide : ℕ → Type 0
IsWide n = n < 2 ^ 64

-- a number of 32 bits
abbrev pub IsNarrow : ℕ → Type 0
IsNarrow n = n < 2 ^ 32

-- a cell
abbrev pub IsCell : ℤ → Type 0
IsCell z = InRange Long z

-- what is there is so
abbrev pub EachOf : {X : Type 0} → (X → Type 0) → Option X → Type 0
EachOf P None = ⊤
EachOf P (Some x) = P x

pub record AreSettings (settings : CallSettings) : Type 0 where
  pub rows : IsNarrow settings.overlap.0
  pub columns : IsNarrow settings.overlap.1
  pub pad : IsCell settings.pad
  pub start : EachOf IsCell settings.start

abbrev pub IsStep : Step → Type 0
IsStep (step.Memory ranks capacity tile lineage) = IsNarrow ranks × IsNarrow capacity × IsNarrow tile × IsNarrow lineage
IsStep (step.Store store ty shape) = IsWide store × IsShape shape
IsStep (step.Alloc copy store space lo hi) = IsWide copy × IsWide store × IsNarrow space × IsNarrow lo × IsNarrow hi
IsStep (step.Free copy) = IsWide copy
IsStep (step.Stale store lo hi) = IsWide store × IsNarrow lo × IsNarrow hi
IsStep (step.Copy from to lo hi) = IsWide from × IsWide to × IsNarrow lo × IsNarrow hi
IsStep (step.Back from to lo hi) = IsWide from × IsWide to × IsNarrow lo × IsNarrow hi
IsStep (step.Send message from to lo hi) = IsWide message × IsWide from × IsWide to × IsNarrow lo × IsNarrow hi
IsStep (step.Deliver message) = IsWide message
IsStep (step.Fill copy lo hi cell) = IsWide copy × IsNarrow lo × IsNarrow hi × IsCell cell
IsStep (step.Write copy lo cells) = IsWide copy × IsNarrow lo × All IsCell cells
IsStep (step.Poke copy index cell) = IsWide copy × IsNarrow index × IsCell cell
IsStep (step.Clone from to lo hi) = IsWide from × IsWide to × IsNarrow lo × IsNarrow hi
IsStep (step.Call call line instance variant parts recorded result operands uniforms settings) =
    IsWide call × IsNarrow line × IsNarrow instance × IsNarrow parts × EachOf IsWide result × All IsWide operands
    × All IsCell uniforms × AreSettings settings
IsStep (step.Kernel call kind part lo hi out trapped inputs) =
    IsWide call × IsNarrow part × IsNarrow lo × IsNarrow hi × IsWide out × EachOf IsNarrow trapped × All IsWide inputs
IsStep (step.Read copy lo hi) = IsWide copy × IsNarrow lo × IsNarrow hi
IsStep (step.Bind container store) = IsNarrow container × IsWide store
IsStep (step.Unbind container) = IsNarrow container
IsStep step.Flush = ⊤
