-- The parts of a function.
use Rattle.std.specs.Prelude.{List, [], map, Option, Some, None}
use Rattle.sk_tree.specs.declared.tree.Function.{Function}
use Rattle.sk_tree.specs.declared.tree.ParamKind.{ParamKind}
use Rattle.sk_tree.specs.declared.tree.Statement.{Statement}

-- the kinds of a function's parameters, in order
abbrev pub kinds_of : Function → List ParamKind
kinds_of function = map (λ param. param.kind) function.params

abbrev pub body_of : Option Function → List Statement
body_of (Some function) = function.body
body_of None = []
