-- What is answered for a program.
use Rattle.std.specs.Prelude.{◌≡◌, Option, Some, ⊤}
use Rattle.sk_typing.specs.declared.names.Fault.{Fault}
use Rattle.sk_typing.specs.declared.names.Fault.TheVariants.{At, NoMain as NoMainFault}
use Rattle.sk_typing.specs.declared.names.FaultKind.TheVariants.{Unknown as UnknownKind, Twice as TwiceKind, Mismatch as MismatchKind, Arity as ArityKind, NoReturn as NoReturnKind}
use Rattle.sk_types.specs.declared.fault.TypeFault.{TypeFault}
use Rattle.sk_types.specs.declared.fault.TypeFault.TheVariants.{Unknown, Twice, Mismatch, Arity, NoReturn, NoMain, Memory}

-- a fault as it is told
abbrev pub told_as : Fault → TypeFault
told_as NoMainFault = NoMain
told_as (At line UnknownKind) = Unknown line
told_as (At line TwiceKind) = Twice line
told_as (At line MismatchKind) = Mismatch line
told_as (At line ArityKind) = Arity line
told_as (At line NoReturnKind) = NoReturn line

-- a refusal tells the fault that there is; want of memory may be told always
abbrev pub TellsLeast : TypeFault → Option Fault → Type 0
TellsLeast Memory least = ⊤
TellsLeast refusal least = (fault : Fault) × (least ≡ Some fault) × (refusal ≡ told_as fault)
