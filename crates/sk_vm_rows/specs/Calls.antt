-- How the functions of the program are run.
use Rattle.std.specs.Prelude.{◌≡◌, ℕ, ◌<◌, [], ◌∷◌, false, replicate, codes, ℤ, Some}
use Rattle.sk_base.specs.Arithmetic.{InRange}
use Rattle.sk_base.specs.declared.choice.Variant.TheVariants.{Sequential}
use Rattle.sk_base.specs.declared.number.Ty.TheVariants.{Int}
use Rattle.sk_tree.specs.declared.tree.ParamKind.TheVariants.{Scalar}
use Rattle.sk_isa.specs.Objects.{signature_at}
use Rattle.sk_scheme.specs.Plans.{functions_object}
use Rattle.sk_isa.specs.SoundObjects.{HasSoundFunctions}
use Rattle.sk_isa.specs.declared.object.Object.{Object}
use Rattle.sk_isa.specs.declared.object.Plan.{Plan}
use Rattle.sk_kernel.specs.Kernels.{Meaning, Suits}
use Rattle.sk_kernel.specs.Vectors.{vector_source}
use Rattle.sk_tree.specs.declared.tree.Skeleton.TheVariants.{Map, MapReduce}
use Rattle.sk_vm.specs.Frames.{Framed, HasRoom, reading_by}
use Rattle.sk_vm.specs.Places.{TakesPlaces}
use Rattle.sk_vm_rows.specs.Programs.{rows_program}

-- the compiled program
unfoldable pub rows_object : Object
rows_object = functions_object rows_program

pub record IsCompiled (object : Object) : Type 0 where
  pub same : object ≡ rows_object
  pub sound : HasSoundFunctions object
  pub parameters : TakesPlaces object

-- a function before main that takes so many ints
pub record TakesInts (count function : ℕ) : Type 0 where
  pub there : function < 8
  pub params : (signature_at rows_object function).params ≡ replicate count (Scalar Int)

-- a frame with room for a function that reads the first parameter by elements, and the others as uniform arguments
pub record IsReady (object : Object) (function : ℕ) (frame : Framed) : Type 0 where
  pub room : HasRoom object frame
  pub called : frame.function ≡ function
  pub reading : frame.reading ≡ reading_by 1 false

-- the instances of the program, whose functions are g, and c with the operator d
abbrev pub mapped_plan : Plan
mapped_plan = record { name = codes "m"; skeleton = Map; functions = 2 ∷ []; elements = 1; variants = Sequential ∷ [] }

abbrev pub reduced_plan : Plan
reduced_plan = record { name = codes "r"; skeleton = MapReduce; functions = 4 ∷ 1 ∷ []; elements = 1; variants = Sequential ∷ [] }

-- a kernel whose function takes one int by elements
pub record MapsInts (meaning : Meaning) : Type 0 where
  pub suits : (element : ℤ) → InRange Int element → Suits meaning (vector_source (element ∷ []) (1 ∷ []) []) 0 0

-- a kernel whose operator takes ints
abbrev pub JoinsInts : Meaning → Type 0
JoinsInts meaning = meaning.operator ≡ Some Int
