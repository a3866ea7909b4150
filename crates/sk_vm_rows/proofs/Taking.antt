-- What the functions of the compiled program take, and that it is sound.
use Rattle.std.proofs.Common.{◌≡◌, ◌<◌, ℕ, ℤ, zero, suc, List, [], ◌∷◌, Some, false, refl, sym, ap, subst, ◌∙◌, arith, length, Result, Ok, Err, slice_get, to_z, of_z, w32, w64, FitsSigned, pos, map, slice_index_or}
use Rattle.std.proofs.lemmas.List.Elements.{All-nil}
use Rattle.std.proofs.lemmas.Option.{same_Some}
use Rattle.std.proofs.lemmas.Int.{to_z-of_z}
use Rattle.std.specs.Prelude.{All, IfOk, unsigned_abs}
use Rattle.std.proofs.lemmas.List.Elements.{All-cons, All-nil}
use Rattle.sk_base.specs.Arithmetic.{InRange}
use Rattle.sk_base.specs.Shape.{IsShape, cells_of, shape_of}
use Rattle.sk_base.specs.ShapeLaws.{shape_of-some}
use Rattle.sk_arguments.specs.Arguments.{Reading}
use Rattle.sk_base.specs.declared.number.Ty.TheVariants.{Int}
use Rattle.sk_plain.specs.Plain.{FunctionsTakeScalars, IsPlain}
use Rattle.sk_isa.specs.Objects.{function_at, signature_at}
use Rattle.sk_isa.specs.declared.object.Plan.{Plan}
use Rattle.sk_kernel.specs.Instances.{function_meaning, instance_meaning, reading_of}
use Rattle.sk_tree.specs.InstanceSettings.{default_settings}
use Rattle.sk_tree.specs.Skeletons.{is_over_pairs}
use Rattle.sk_tree.specs.declared.tree.ParamKind.TheVariants.{Scalar}
use Rattle.sk_kernel.specs.Kernels.{Suits, SuitsRun, run_pair, run_place}
use Rattle.sk_scheme.specs.Plans.{functions_object}
use Rattle.sk_scheme_sound.proofs.SoundObjects.{plain_is_sound, plain_takes_scalars}
use Rattle.sk_isa.specs.SoundObjects.{HasSoundFunctions, TakesScalars}
use Rattle.sk_kernel.specs.Vectors.{vector_source}
use Rattle.sk_isa.specs.declared.object.Object.{Object}
use Rattle.sk_tree.specs.declared.tree.Program.{Program}
use Rattle.sk_vm.specs.Frames.{Framed, reading_by}
use Rattle.sk_vm.specs.Instantiated.{Instantiated, IsOf, meaning_of}
use Rattle.sk_vm.specs.Places.{TakesPlaces}
use Rattle.sk_vm.proofs.Places.{scalars_are_places}
use Rattle.sk_vm_rows.specs.Programs.{rows_program}
use Rattle.sk_vm_rows.specs.Calls.{IsCompiled, IsReady, JoinsInts, MapsInts, TakesInts, mapped_plan, reduced_plan, rows_object}
use Rattle.sk_vm_rows.proofs.Plain.{rows-plain, rows-plans}
use Rattle.sk_vm_rows.proofs.Suited.{one-cell, suited, suited-block, suited-one}

pub counting-takes : TakesInts 1 0
unfolding rows_object
counting-takes = record { there = omega arith; params = refl }

pub dividing-takes : TakesInts 2 1
unfolding rows_object
dividing-takes = record { there = omega arith; params = refl }

pub calling-takes : TakesInts 1 2
unfolding rows_object
calling-takes = record { there = omega arith; params = refl }

pub guarding-takes : TakesInts 1 3
unfolding rows_object
guarding-takes = record { there = omega arith; params = refl }

pub choosing-takes : TakesInts 1 4
unfolding rows_object
choosing-takes = record { there = omega arith; params = refl }

pub widening-takes : TakesInts 1 5
unfolding rows_object
widening-takes = record { there = omega arith; params = refl }

pub truncating-takes : TakesInts 1 6
unfolding rows_object
truncating-takes = record { there = omega arith; params = refl }

pub inverting-takes : TakesInts 1 7
unfolding rows_object
inverting-takes = record { there = omega arith; params = refl }

eight : length rows_object.functions ≡ 8
unfolding rows_object
eight = refl

-- a function before main is there
pub function-there : (object : Object) (function : ℕ) → IsCompiled object → function < 8 → function < length object.functions
function-there object function compiled below = rw (compiled.same, eight) below

is-compiled : (object : Object) → object ≡ functions_object rows_program → HasSoundFunctions object → TakesPlaces object → IsCompiled object
unfolding rows_object
is-compiled object is sound parameters = record { same = is; sound = sound; parameters = parameters }

-- what is compiled of the program
module _ {E : Type 0} (program : Program) (same : program ≡ rows_program) where
  pub well-compiled : (result : Result Object E) → IfOk result (λ object. object ≡ functions_object program) → IfOk result IsCompiled
  well-compiled (Ok object) is =
      let plain : IsPlain program = rw same rows-plain in
      let scalars : FunctionsTakeScalars program = rw same refl in
      is-compiled object (rw (is, same) refl) (subst HasSoundFunctions (sym is) (plain_is_sound program plain)) (scalars_are_places object (subst TakesScalars (sym is) (plain_takes_scalars program plain scalars)))
  well-compiled (Err error) is = record {}

-- a vector of one cell suits a frame of a function of ints
pub value-suits : (object : Object) (function : ℕ) (frame : Framed) (element : ℤ) (sizes : List ℕ) (uniforms : List ℤ)
    → IsCompiled object → IsReady object function frame → TakesInts (suc (length uniforms)) function → sizes ≡ 1 ∷ []
    → InRange Int element → All (InRange Int) uniforms
    → Suits (function_meaning object frame.function frame.reading) (vector_source (element ∷ []) sizes uniforms) 0 0
value-suits object function frame element sizes uniforms compiled ready takes shape fits range =
    suited object frame.function frame.reading (element ∷ []) sizes uniforms 0 (rw (ready.called, compiled.same) takes.params) ready.reading
    (subst IsShape (sym shape) one-cell) (ap cells_of shape) (omega arith) (All-cons (InRange Int) element [] fits (All-nil (InRange Int))) range

-- a shape of one size has as many cells
one-size : (n : ℕ) (sizes : List ℕ) → map pos sizes ≡ pos n ∷ [] → cells_of sizes ≡ n
one-size n [] is = absurd (omega (arith, ap length is))
one-size n (size ∷ []) is =
    let same : size ≡ n = ap (λ (xs : List ℤ). unsigned_abs (slice_index_or xs 0 (pos 0))) is in
    omega (arith, same)
one-size n (size ∷ other ∷ sizes) is = absurd (omega (arith, ap length is))

-- a vector suits a frame of a function of one int at each of its places
pub run-suits : (object : Object) (function : ℕ) (frame : Framed) (cells : List ℤ) (sizes : List ℕ)
    → IsCompiled object → IsReady object function frame → TakesInts 1 function → shape_of (pos (length cells) ∷ []) ≡ Some sizes → All (InRange Int) cells
    → SuitsRun (function_meaning object frame.function frame.reading) (vector_source cells sizes []) 0 0 (length cells)
run-suits object function frame cells sizes compiled ready takes shape range behind inside =
    let meaning = function_meaning object frame.function frame.reading in
    let source = vector_source cells sizes [] in
    let found = shape_of-some (pos (length cells) ∷ []) sizes shape in
    let place : run_place meaning 0 behind ≡ behind =
    ap (λ (r : Reading). run_place (function_meaning object frame.function r) 0 behind) ready.reading ∙ (omega arith) in
    let pair : run_pair meaning 0 behind ≡ 0 = ap (λ (r : Reading). run_pair (function_meaning object frame.function r) 0 behind) ready.reading in
    subst (λ (p : ℕ). Suits meaning source p (run_pair meaning 0 behind)) (sym place)
    (subst (λ (p : ℕ). Suits meaning source behind p) (sym pair)
    (suited object frame.function frame.reading cells sizes [] behind (rw (ready.called, compiled.same) takes.params) ready.reading
    found.0 (one-size (length cells) sizes found.1) inside range (All-nil (InRange Int))))

pub block-suits : (object : Object) (function : ℕ) (frame : Framed) (element : ℤ) (sizes : List ℕ) (uniforms : List ℤ)
    → IsCompiled object → IsReady object function frame → TakesInts (suc (length uniforms)) function → sizes ≡ 1 ∷ []
    → InRange Int element → All (InRange Int) uniforms
    → SuitsRun (function_meaning object frame.function frame.reading) (vector_source (element ∷ []) sizes uniforms) 0 0 1
block-suits object function frame element sizes uniforms compiled ready takes shape fits range =
    suited-block object frame.function frame.reading element sizes uniforms (rw (ready.called, compiled.same) takes.params) ready.reading shape fits range

-- an int as it is passed and stored in a cell
pub stored-in-range : (element passed : ℤ) → passed ≡ to_z w32 (of_z w32 element) → InRange Int element → InRange Int (to_z w64 (of_z w64 passed))
stored-in-range element passed is fits =
    let wide : FitsSigned w64 element = record { sfits = let f = fits.sfits in omega arith } in
    rw (is, to_z-of_z w32 element fits, to_z-of_z w64 element wide) fits

-- an instance of the compiled program is one of its two plans
planned : (object : Object) (number : ℕ) (instance : Instantiated) → IsCompiled object → IsOf object number instance
    → slice_get (mapped_plan ∷ reduced_plan ∷ []) number ≡ Some instance.plan
unfolding rows_object
planned object number instance compiled of =
    ap (λ (plans : List Plan). slice_get plans number) (sym rows-plans ∙ sym (ap (λ (o : Object). o.instances) compiled.same)) ∙ of.of_plan

-- a plan whose first function takes one int, which is an element
maps : (plan : Plan) → plan.elements ≡ 1 → is_over_pairs plan.skeleton ≡ false → (signature_at rows_object (function_at plan 0)).params ≡ Scalar Int ∷ []
    → MapsInts (instance_meaning rows_object plan default_settings)
maps plan elements pairs params = record {
  suits = λ element fits.
      let reads : reading_of plan default_settings ≡ reading_by 1 false = cc in
      let s = suited-one rows_object (function_at plan 0) (reading_of plan default_settings) element (1 ∷ []) [] params reads refl fits (All-nil (InRange Int)) in
      record { operands = s.operands; uniforms = s.uniforms; over = s.over; held = s.held };
}

pub kernel-maps : (object : Object) (number : ℕ) (instance : Instantiated) → IsCompiled object → IsOf object number instance → number < 2 → MapsInts (meaning_of instance)
unfolding rows_object
kernel-maps object number instance compiled of below =
    let same : instance.object ≡ rows_object = of.of_object ∙ compiled.same in
    subst (λ (o : Object). MapsInts (instance_meaning o instance.plan default_settings)) (sym same) (by number below (planned object number instance compiled of))
  where
    by : (number : ℕ) → number < 2 → slice_get (mapped_plan ∷ reduced_plan ∷ []) number ≡ Some instance.plan → MapsInts (instance_meaning rows_object instance.plan default_settings)
    by zero below is = subst (λ (p : Plan). MapsInts (instance_meaning rows_object p default_settings)) (same_Some mapped_plan instance.plan is) (maps mapped_plan refl refl refl)
    by (suc zero) below is = subst (λ (p : Plan). MapsInts (instance_meaning rows_object p default_settings)) (same_Some reduced_plan instance.plan is) (maps reduced_plan refl refl refl)
    by (suc (suc more)) below is = absurd (omega arith)

pub kernel-joins : (object : Object) (instance : Instantiated) → IsCompiled object → IsOf object 1 instance → JoinsInts (meaning_of instance)
unfolding rows_object
kernel-joins object instance compiled of =
    let same : instance.object ≡ rows_object = of.of_object ∙ compiled.same in
    subst (λ (o : Object). JoinsInts (instance_meaning o instance.plan default_settings)) (sym same)
    (subst (λ (p : Plan). JoinsInts (instance_meaning rows_object p default_settings)) (same_Some reduced_plan instance.plan (planned object 1 instance compiled of)) refl)

two : length rows_object.instances ≡ 2
unfolding rows_object
two = ap (λ (plans : List Plan). length plans) rows-plans

pub instance-there : (object : Object) (number : ℕ) → IsCompiled object → number < 2 → number < length object.instances
instance-there object number compiled below = rw (compiled.same, two) below
