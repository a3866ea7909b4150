-- Which expressions of main fit the names in scope, where each container is a vector: each number fits its type, and each name
-- is what it is used as.
use Rattle.std.specs.Prelude.{Bool, true, false, ◌&&◌, ◌==◌, List, [], ◌∷◌, length, Option, Some, None}
use Rattle.sk_main_scheme.specs.MainScheme.{Around, Named, Number, Whole, Called}
use Rattle.sk_names.specs.Bindings.{bound_to}
use Rattle.sk_plain.specs.Plain.{fits_type}
use Rattle.sk_scheme.specs.Scheme.{Known}
use Rattle.sk_tree.specs.Parameters.{is_container_method}
use Rattle.sk_tree.specs.declared.tree.Expr.{Expr, fold-Expr}
use Rattle.sk_tree.specs.declared.tree.Expr.TheOpen as layer

abbrev pub Fit : Type 0
Fit = Around → Bool

abbrev pub is_number : Option Named → Bool
is_number (Some (Number slot ty)) = true
is_number (Some (Whole container ty)) = false
is_number (Some (Called made)) = false
is_number None = false

abbrev pub is_whole : Option Named → Bool
is_whole (Some (Whole container ty)) = true
is_whole (Some (Number slot ty)) = false
is_whole (Some (Called made)) = false
is_whole None = false

abbrev pub all_fit : List Fit → Around → Bool
all_fit [] around = true
all_fit (part ∷ parts) around = part around && all_fit parts around

-- An element of a vector at a place, or a call of a function with as many arguments as it takes. Calls of instances that are
-- values do not occur.
abbrev pub applied_fits : Option Named → Option Known → List Fit → Fit
applied_fits (Some (Whole container ty)) known parts around = (length parts == 1) && all_fit parts around
applied_fits (Some (Called made)) known parts around = false
applied_fits (Some (Number slot ty)) known parts around = false
applied_fits None (Some known) parts around = (length known.kinds == length parts) && all_fit parts around
applied_fits None None parts around = false

abbrev pub fit_step : layer.Expr-F Fit → Fit
fit_step (layer.Number ty number) around = fits_type ty number
fit_step (layer.Name name) around = is_number (bound_to name around.scope)
fit_step (layer.Field name field) around = false
fit_step (layer.Method name method) around = is_whole (bound_to name around.scope) && is_container_method 1 method
fit_step (layer.Unary op part) around = part around
fit_step (layer.Cast ty part) around = part around
fit_step (layer.Binary op left right) around = left around && right around
fit_step (layer.Both left right) around = left around && right around
fit_step (layer.Either left right) around = left around && right around
fit_step (layer.Choose test one other) around = test around && one around && other around
fit_step (layer.Apply name parts) around = applied_fits (bound_to name around.scope) (bound_to name around.functions) parts around

abbrev pub fits : Expr → Fit
fits = fold-Expr Fit fit_step
