-- A vector as the one operand of a call.
use Rattle.std.specs.Prelude.{◌==◌, ◌&&◌, nat_lt, ℕ, if◌then◌else◌, List, [], ◌∷◌, ℤ, Some, None, slice_get}
use Rattle.sk_base.specs.Shape.{cells_of}
use Rattle.sk_kernel.specs.Kernels.{Source}

-- what a vector holds as the operand of a call whose result has its sizes
abbrev pub vector_source : (cells : List ℤ) → (sizes : List ℕ) → (uniforms : List ℤ) → Source
vector_source cells sizes uniforms = record {
  held = λ operand index. if operand == 0 && nat_lt index (cells_of sizes) then slice_get cells index else None;
  shapes = sizes ∷ [];
  uniforms = uniforms;
  over = Some sizes;
}
