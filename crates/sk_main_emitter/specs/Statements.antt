-- Parts of what statements of main are compiled to, in the words of the code scheme.
use Rattle.std.specs.Prelude.{ℕ, suc, max, ◌+◌, List, [], ◌∷◌, ◌++◌, length, map, drop, take, Option, Some, None, slice_get, pos}
use Rattle.sk_base.specs.declared.number.Ty.{Ty}
use Rattle.sk_isa.specs.declared.code.Instr.{Instr}
use Rattle.sk_isa.specs.declared.code.Instr.TheVariants as instr
use Rattle.sk_main_scheme.specs.MainScheme.{Named, Number, Whole, Called, Made, Around, Emitting, Emitted, Standing, main_piece, operands_of, uniforms_code, containers_of, of_instance, setting_code, setting_word, setting_values, around_at, block_emitted, placed_behind, dropped}
use Rattle.sk_names.specs.Bindings.{bound_to}
use Rattle.sk_scheme.specs.Pieces.{Placed, Piece, wanted_code, parts_depth}
use Rattle.sk_scheme.specs.Scheme.{Known}
use Rattle.sk_tree.specs.Parameters.{region_of}
use Rattle.sk_tree.specs.declared.tree.Expr.{Expr}
use Rattle.sk_tree.specs.declared.tree.ParamKind.{ParamKind}
use Rattle.sk_tree.specs.declared.tree.Setting.{Setting}

-- the function of the first of these names
abbrev pub first_bound : List (List ℕ × Known) → List (List ℕ) → Option Known
first_bound functions names = elim (slice_get names 0) [ Some name ↦ bound_to name functions | None ↦ None ]

-- the type of a region's elements, or another
abbrev pub region_or : List ParamKind → Ty → Ty
region_or kinds other = elim (region_of kinds) [ Some region ↦ region.1 | None ↦ other ]

-- the number of a container
abbrev pub container_of : Option Named → ℕ
container_of (Some (Whole container ty)) = container
container_of (Some (Number slot ty)) = 0
container_of (Some (Called made)) = 0
container_of None = 0

-- the fill value of a container, by the arguments behind its sizes
abbrev pub fill_code : Ty → List Expr → Around → Placed
fill_code ty [] around at = instr.Push (pos 0) ∷ []
fill_code ty (fill ∷ more) around at = wanted_code ty (main_piece fill) around at

-- a setting of an instance, by what a name stands for
abbrev pub set_named : Option Named → Setting → Around → Placed
set_named named value around at = of_instance named (λ made.
    setting_code made value around at ++ instr.Set made.number (setting_word value) (length (setting_values value)) ∷ [])

-- a call statement of an instance
abbrev pub do_made : Made → List (Piece Around) → Around → Placed
do_made made parts around at =
    let uniforms : List (Piece Around) = drop (suc (operands_of made)) parts in
    uniforms_code made uniforms around at
    ++ instr.Do made.number (containers_of around (take (suc (operands_of made)) parts)) (length uniforms) ∷ []

abbrev pub do_named : Option Named → List (Piece Around) → Around → Placed
do_named named parts around at = of_instance named (λ made. do_made made parts around at)

-- the most values on the stack in a call statement
abbrev pub do_named_depth : Option Named → List (Piece Around) → Around → ℕ
do_named_depth (Some (Called made)) parts around = parts_depth (drop (suc (operands_of made)) parts) around
do_named_depth (Some (Number slot ty)) parts around = 0
do_named_depth (Some (Whole container ty)) parts around = 0
do_named_depth None parts around = 0

-- a test, and one of two blocks, where the second is not empty
abbrev pub choice_emitted : Piece Around → List Emitting → List Emitting → Emitting
choice_emitted test one other functions standing =
    let first : List Instr = test.code (around_at functions standing) standing.at in
    let inner : Emitted = block_emitted one functions (placed_behind standing (length first + 1)) in
    let third : Standing = placed_behind inner.behind 1 in
    let last : Emitted = block_emitted other functions third in
    record {
      code = first ++ instr.Zero third.at ∷ inner.code ++ instr.Jump last.behind.at ∷ last.code;
      behind = last.behind;
      depth = max (test.depth (around_at functions standing)) (max inner.depth last.depth);
    }
