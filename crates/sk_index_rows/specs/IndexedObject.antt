-- A compiled program of two functions of an index and an int.
use Rattle.std.specs.Prelude.{◌≡◌, ℕ, List, [], ◌∷◌, pos, codes, None, false}
use Rattle.sk_base.specs.declared.number.Op.TheVariants.{Add, Sub, Mul, Div}
use Rattle.sk_base.specs.declared.number.Ty.TheVariants.{Int}
use Rattle.sk_isa.specs.SoundObjects.{HasSoundFunctions}
use Rattle.sk_isa.specs.declared.code.Code.{Code}
use Rattle.sk_isa.specs.declared.code.Instr.TheVariants.{Push, Load, Field, Binary, Ret}
use Rattle.sk_isa.specs.declared.object.Object.{Object}
use Rattle.sk_isa.specs.declared.object.Signature.{Signature}
use Rattle.sk_tree.specs.declared.tree.ParamKind.{ParamKind}
use Rattle.sk_tree.specs.declared.tree.ParamKind.TheVariants.{Scalar, Index}
use Rattle.sk_vm.specs.Frames.{Framed, HasRoom, reading_by}
use Rattle.sk_vm.specs.Places.{TakesPlaces}

abbrev pub index_and_int : List ParamKind
index_and_int = Index 1 ∷ Scalar Int ∷ []

-- a function of an int value, all of whose slots are parameters
abbrev pub taking : List ParamKind → Signature
taking kinds = record { ret = Int; params = kinds; slots = kinds }

-- int a(Index1D i, int a) { return i.i * 2 + a; }
abbrev pub adding : Code
adding = record {
  instrs = Field 0 (codes "i") ∷ Push (pos 2) ∷ Binary Mul Int ∷ Load 1 ∷ Binary Add Int ∷ Ret ∷ [];
  slots = 2;
  depth = 2;
}

-- int p(Index1D i, int a) { return 100 / (i.i - 5); }
abbrev pub parting : Code
parting = record {
  instrs = Push (pos 100) ∷ Field 0 (codes "i") ∷ Push (pos 5) ∷ Binary Sub Int ∷ Binary Div Int ∷ Ret ∷ [];
  slots = 2;
  depth = 3;
}

-- the two functions, and an empty main
abbrev pub indexed_object : Object
indexed_object = record {
  functions = adding ∷ parting ∷ [];
  signatures = taking index_and_int ∷ taking index_and_int ∷ taking [] ∷ [];
  safe = false ∷ false ∷ [];
  operators = None ∷ None ∷ [];
  instances = [];
  main = record { instrs = []; slots = 0; depth = 0 };
  inputs = [];
  containers = [];
  names = codes "a" ∷ codes "p" ∷ [];
}

pub record IsIndexed (object : Object) : Type 0 where
  pub same : object ≡ indexed_object
  pub sound : HasSoundFunctions object
  pub parameters : TakesPlaces object

-- a frame with room for a function that reads the int by elements
pub record IsReady (object : Object) (function : ℕ) (frame : Framed) : Type 0 where
  pub room : HasRoom object frame
  pub called : frame.function ≡ function
  pub reading : frame.reading ≡ reading_by 1 false
