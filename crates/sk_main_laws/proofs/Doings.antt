-- What the instructions of main do to a fine world.
use Rattle.std.proofs.Common.{◌≡◌, ℕ, ◌<◌, Bool, true, ◌||◌, ◌==◌, List, length, map, ℤ, pos, Option, Some, None, Result, Ok, Err, slice_get, ap, sym, refl, subst, ◌∙◌, replicate}
use Rattle.std.proofs.lemmas.List.{length-map}
use Rattle.sk_base.specs.Arithmetic.{wrapped}
use Rattle.sk_base.specs.Shape.{cells_of, shape_of}
use Rattle.sk_base.specs.ShapeLaws.{shape_of-some}
use Rattle.sk_base.specs.declared.number.Trap.{Trap}
use Rattle.sk_base.specs.declared.number.Trap.TheVariants as trap
use Rattle.sk_base.specs.declared.number.Ty.{Ty}
use Rattle.sk_isa.specs.Coded.{function_of}
use Rattle.sk_isa.specs.Objects.{invoked}
use Rattle.sk_isa.specs.SoundObjects.{HasSoundFunctions}
use Rattle.sk_isa.specs.Soundness.{IsOfType, SuitParams}
use Rattle.sk_isa.specs.declared.object.Object.{Object}
use Rattle.sk_isa.specs.declared.object.Plan.{Plan}
use Rattle.sk_isa.specs.declared.object.Signature.{Signature}
use Rattle.sk_isa_laws.proofs.Callees.{functions_have_values}
use Rattle.sk_isa_laws.proofs.Callees as callees
use Rattle.sk_isa_laws.specs.Steps.{IsGiven}
use Rattle.sk_call_shapes.specs.CallShapes.{fits}
use Rattle.sk_main_code.specs.MainSteps.{linked_plan, world_after}
use Rattle.sk_main_laws.proofs.Settings.{fine_setting, setting_fits}
use Rattle.sk_main_laws.proofs.Steps.{IsFineAfter, as_many}
use Rattle.sk_main_laws.proofs.Worlds.{as_made, as_poked, cell_fits, fine_again, fine_beside, fine_putting}
use Rattle.sk_main_laws.specs.Calls.{IsFineCall}
use Rattle.sk_main_laws.specs.FineWorlds.{IsAsDeclared, IsFineWorld}
use Rattle.sk_meaning.specs.Evaluation.{Argument, turn_limit, value_only}
use Rattle.sk_tree.specs.declared.declared.Declared.{Declared}
use Rattle.sk_tree.specs.declared.settings.Settings.{Settings}
use Rattle.sk_world.specs.InstanceSettings.{SettingValue, set_instance, with_setting}
use Rattle.sk_world.specs.Events.{Made}
use Rattle.sk_world.specs.World.{Container, Over, Trapped, World, make, poke_at, put_settings, putting, read_at, settings_in, told, valued}

-- the value of a function for arguments that suit
only_value : (ty : Ty) (turns : ℕ) (result : Result (ℤ × ℕ) Trap) → IsGiven ty turns result → IsOfType ty (value_only result)
only_value ty turns (Ok done) given = given.0
only_value ty turns (Err trap) given = tt

pub invoked-of_type : (object : Object) → HasSoundFunctions object → (function : ℕ) (own : Signature) → function < length object.functions
    → slice_get object.signatures function ≡ Some own → (arguments : List Argument) → SuitParams own.params arguments
    → IsOfType own.ret (invoked object function arguments)
invoked-of_type object sound function own within is_own arguments suits =
    let code = callees.there object.functions function within in
    only_value own.ret turn_limit (function_of object function arguments turn_limit)
    ((functions_have_values object sound).values function own code.0 arguments turn_limit is_own code.1 suits).given

pub valued-fine : (object : Object) (live : ℕ → Bool) (ty : Ty) (world : World) (result : Result ℤ Trap) → IsFineWorld object live world → IsOfType ty result
    → IsFineCall object live world.statements_left ty (valued result world)
valued-fine object live ty world (Ok value) fine fits = (fits, fine, refl)
valued-fine object live ty world (Err trap) fine fits = fine

-- a container of so many sizes is made, where they are a shape
abbrev making : (number : ℕ) → (name : List ℕ) → Ty → (fill : ℤ) → World → Option (List ℕ) → Result World Over
making number name ty fill world None = Err (record { ending = Trapped trap.Shape world.line 0; world = world })
making number name ty fill world (Some shape) = Ok (told (Made number shape (wrapped ty fill))
    (putting (record { number = number; name = name; ty = ty; sizes = shape; cells = replicate (cells_of shape) (wrapped ty fill) }) world))

making_from : (number : ℕ) (name : List ℕ) (ty : Ty) (sizes : List ℤ) (fill : ℤ) (world : World)
    → make number name ty sizes fill world ≡ making number name ty fill world (shape_of sizes)
making_from number name ty sizes fill world = by (shape_of sizes)
  where
    by : (found : Option (List ℕ)) → elim found [
      | None ↦ Err (record { ending = Trapped trap.Shape world.line 0; world = world })
      | Some shape ↦ Ok (told (Made number shape (wrapped ty fill))
          (putting (record { number = number; name = name; ty = ty; sizes = shape; cells = replicate (cells_of shape) (wrapped ty fill) }) world))
    ] ≡ making number name ty fill world found
    by None = refl
    by (Some shape) = refl

pub make_fine : (object : Object) (live : ℕ → Bool) (world : World) (number : ℕ) (declared : Declared) (ty : Ty) (sizes : List ℤ) (fill : ℤ) → IsFineWorld object live world
    → slice_get object.containers number ≡ Some declared → ty ≡ declared.ty → length sizes ≡ declared.kind
    → IsFineAfter object (λ other. live other || (other == number)) (as_many world.statements_left) (make number declared.name ty sizes fill world)
make_fine object live world number declared ty sizes fill fine is same kind =
    subst (λ (made : Result World Over). IsFineAfter object (λ other. live other || (other == number)) (as_many world.statements_left) made)
    (sym (making_from number declared.name ty sizes fill world)) (by (shape_of sizes) refl)
  where
    long : (shape : List ℕ) → map pos shape ≡ sizes → length shape ≡ declared.kind
    long shape e = sym (length-map shape pos) ∙ ap length e ∙ kind

    by : (found : Option (List ℕ)) → shape_of sizes ≡ found
        → IsFineAfter object (λ other. live other || (other == number)) (as_many world.statements_left) (making number declared.name ty fill world found)
    by None e = (live, fine)
    by (Some shape) e =
        let parts = shape_of-some sizes shape e in
        let container : Container = record { number = number; name = declared.name; ty = ty; sizes = shape; cells = replicate (cells_of shape) (wrapped ty fill) } in (
          fine_beside object (λ other. live other || (other == number)) (putting container world) world.printed world.statements_left world.line
              (told (Made number shape (wrapped ty fill)) (putting container world)).events
              (fine_putting object live world container number declared fine refl is (as_made declared number ty shape fill parts.0 (long shape parts.1) same)),
          refl,
        )

-- an element is read and written
pub read_fine : (object : Object) (live : ℕ → Bool) (world : World) (declared : Declared) (container : Container) (index : Option ℕ) → IsFineWorld object live world
    → IsAsDeclared declared container → IsFineCall object live world.statements_left declared.ty (read_at container index world)
read_fine object live world declared container None fine is_as = fine
read_fine object live world declared container (Some index) fine is_as =
    (cell_fits declared.ty container.cells index is_as.cells, fine_beside object live world _ _ _ _ fine, refl)

pub poke_fine : (object : Object) (live : ℕ → Bool) (world : World) (number : ℕ) (declared : Declared) (container : Container) (index : Option ℕ) (value : ℤ)
    → IsFineWorld object live world → live number ≡ true → container.number ≡ number → slice_get object.containers number ≡ Some declared
    → IsAsDeclared declared container → IsFineAfter object live (as_many world.statements_left) (poke_at container index value world)
poke_fine object live world number declared container None value fine is_live same is is_as = (live, fine)
poke_fine object live world number declared container (Some index) value fine is_live same is is_as =
    (fine_beside object live _ _ _ _ _ (fine_again object live world _ number declared fine is_live same is (as_poked declared container index value is_as)), refl)

-- a setting is set
pub set_fine : (object : Object) (live : ℕ → Bool) (world : World) (number : ℕ) (plan : Plan) (setting : SettingValue) → IsFineWorld object live world
    → slice_get object.instances number ≡ Some plan
    → IsFineAfter object live (as_many world.statements_left) (set_instance (linked_plan object number plan) setting world)
set_fine object live world number plan setting fine is = by (with_setting (linked_plan object number plan) setting (settings_in world number)) refl
  where
    by : (found : Option Settings) → with_setting (linked_plan object number plan) setting (settings_in world number) ≡ found
        → IsFineAfter object live (as_many world.statements_left) (elim found [
          | Some settings ↦ Ok (put_settings number settings world)
          | None ↦ Err (record { ending = Trapped trap.Shape world.line 0; world = world })
        ])
    by None e = (live, fine)
    by (Some settings) e = (
      fine_setting object live world number plan settings fine is
          (setting_fits (linked_plan object number plan) setting (settings_in world number) settings (fine.settings number plan is) e),
      refl,
    )

-- what was done in the world gave a value that nobody asks for
pub after_fine : (object : Object) (live : ℕ → Bool) (statements : ℕ) (ty : Ty) (result : Result (ℤ × World) Over) → IsFineCall object live statements ty result
    → IsFineAfter object live (as_many statements) (world_after result)
after_fine object live statements ty (Ok done) fine = (fine.1, fine.2)
after_fine object live statements ty (Err over) fine = (live, fine)
