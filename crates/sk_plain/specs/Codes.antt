-- The code of a program's functions, apart from marks, instances and main.
use Rattle.std.specs.Prelude.{◌≡◌, ℕ, suc, List, [], length, Some, slice_get}
use Rattle.sk_isa.specs.Soundness.{IsSoundCode}
use Rattle.sk_isa.specs.declared.code.Code.{Code}
use Rattle.sk_isa.specs.declared.object.Object.{Object}
use Rattle.sk_isa.specs.declared.object.Signature.{Signature}
use Rattle.sk_plain.specs.Means.{MeansSource}
use Rattle.sk_scheme.specs.Plans.{functions_object}
use Rattle.sk_tree.specs.declared.tree.Program.{Program}

-- The code of each function is sound.
pub record HasSoundCodes (object : Object) : Type 0 where
  pub functions : (function : ℕ) (code : Code) (own : Signature)
      → slice_get object.functions function ≡ Some code → slice_get object.signatures function ≡ Some own
      → IsSoundCode object.signatures function own code
  pub signatures : length object.signatures ≡ suc (length object.functions)

-- The code of each function is sound, and has the values of its source.
pub record HasFunctionsOf (program : Program) (object : Object) : Type 0 where
  pub sound : HasSoundCodes object
  pub means : MeansSource program object

-- the functions of a program with their codes, without its instances
abbrev pub functions_alone : Program → Object
functions_alone program = record (functions_object program) { instances = [] }
