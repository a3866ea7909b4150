-- Fields and methods of variables.
use Rattle.std.specs.Prelude.{ℕ, Bool, false, if◌then◌else◌, List}
use Rattle.sk_tree.specs.Parameters.{is_field, is_method}
use Rattle.sk_tree.specs.declared.tree.ParamKind.{ParamKind}
use Rattle.sk_types.specs.declared.expression.Member.{Member}
use Rattle.sk_types.specs.declared.expression.Member.TheVariants.{Field, Method}

-- a variable of that kind has the member: fields stand in user functions, methods in main
abbrev pub has_member : (in_main : Bool) → Member → List ℕ → ParamKind → Bool
has_member in_main Field name kind = if in_main then false else is_field kind name
has_member in_main Method name kind = if in_main then is_method kind name else false
