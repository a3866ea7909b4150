-- What is kept of an expression, and which of several faults is told.
use Rattle.std.specs.Prelude.{ℕ, ◌==◌, if◌then◌else◌, List, [], ◌∷◌, length, Option, Some, None}
use Rattle.sk_typing.specs.TypingExpressions.{Judged, container_dimension, scope_faults, container_faults, applied_use}
use Rattle.sk_typing.specs.TypingFaults.{earlier, least_of, first_told}
use Rattle.sk_typing.specs.TypingNames as names
use Rattle.sk_typing.specs.declared.names.Expected.{Expected}
use Rattle.sk_typing.specs.declared.names.Expected.TheVariants.{Number, Container}
use Rattle.sk_typing.specs.declared.names.Fault.{Fault}
use Rattle.sk_typing.specs.declared.names.FaultKind.TheVariants.{Unknown, Mismatch, Arity}
use Rattle.sk_typing.specs.declared.names.Known.{Known}
use Rattle.sk_typing.specs.declared.names.Use.{Use}
use Rattle.sk_typing.specs.declared.names.Use.TheVariants.{Takes, Wrong, Free}
use Rattle.sk_types.specs.declared.around.Around.{Around}
use Rattle.sk_types.specs.declared.argument.Argument.{Argument}

-- where something stands, in the definition's words
abbrev pub seen : Around → names.Around
seen around = record {
  functions = around.functions.now;
  number = around.number;
  in_main = around.in_main;
  outermost = around.outermost;
  line = around.line;
}

-- of what is said of an expression, the fault that is told
abbrev pub argument_of : Judged → Argument
argument_of judged = record { is_name = judged.is_name; known = judged.known; least = least_of judged.faults }

abbrev pub first_kept : List Argument → Option ℕ
first_kept [] = None
first_kept (argument ∷ arguments) = container_dimension argument.known

-- the fault that is told of an argument, whatever it has to be
abbrev pub part_told : names.Around → Argument → Option Fault
part_told around argument = if argument.is_name then least_of (scope_faults around argument.known) else argument.least

abbrev pub parts_told : names.Around → List Argument → Option Fault
parts_told around = first_told (part_told around)

-- of a value where a container has to stand
abbrev pub misplaced_told : names.Around → Option Fault → Option Fault
misplaced_told around (Some fault) = Some fault
misplaced_told around None = least_of (names.fault around Mismatch)

-- of an argument where something is expected
abbrev pub argument_told : names.Around → Expected → Argument → Option Fault
argument_told around Number argument = argument.least
argument_told around (Container dimension ty) argument =
    if argument.is_name then least_of (container_faults around dimension ty argument.known)
    else misplaced_told around argument.least

abbrev pub each_told : names.Around → List Expected → List Argument → Option Fault
each_told around (expected ∷ more) (argument ∷ arguments) =
    earlier (argument_told around expected argument) (each_told around more arguments)
each_told around expected arguments = None

-- of a use with arguments
abbrev pub use_told : names.Around → Use → List Argument → Option Fault
use_told around (Takes expected) arguments =
    if length arguments == length expected then each_told around expected arguments
    else earlier (least_of (names.fault around Arity)) (parts_told around arguments)
use_told around (Wrong kind) arguments = earlier (least_of (names.fault around kind)) (parts_told around arguments)
use_told around Free arguments = parts_told around arguments

-- the first of two that there is
abbrev pub told_or : Option Fault → Option Fault → Option Fault
told_or (Some fault) told = Some fault
told_or None told = told

-- of a name with arguments in an expression
abbrev pub applied_told : names.Around → Option Known → List Argument → Option Fault
applied_told around None arguments = use_told around (Wrong Unknown) arguments
applied_told around (Some known) arguments =
    told_or (parts_told around arguments)
    (use_told around (applied_use around (length arguments) (first_kept arguments) known) arguments)
