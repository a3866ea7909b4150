-- What a run of main has and leaves: containers, settings, what was printed, statements left, and what it told.
use Rattle.std.specs.Prelude.{ℕ, zero, suc, ◌==◌, nat_lt, not, if◌then◌else◌, List, [], ◌∷◌, ◌++◌, replicate, ℤ, pos, Option, Some, None, Result, Ok, Err, filter, find, set, slice_index_or, codes}
use Rattle.sk_base.specs.Arithmetic.{wrapped}
use Rattle.sk_base.specs.Shape.{cells_of, shape_of, flat_of}
use Rattle.sk_base.specs.declared.number.Trap.{Trap}
use Rattle.sk_base.specs.declared.number.Trap.TheVariants.{Index, Shape}
use Rattle.sk_base.specs.declared.number.Ty.{Ty}
use Rattle.sk_base.specs.declared.number.Ty.TheVariants.{Int}
use Rattle.sk_meaning.specs.Evaluation.{named}
use Rattle.sk_names.specs.Bytes.{same_bytes}
use Rattle.sk_tree.specs.InstanceSettings.{default_settings}
use Rattle.sk_tree.specs.declared.settings.Settings.{Settings}
use Rattle.sk_world.specs.Events.{Event, Made, Taken, Read, Poked, Left}

-- a container that is there: its number in the text, its name, its elements' type, its sizes and its cells in row-major order
pub record Container : Type 0 where
  pub number : ℕ
  pub name : List ℕ
  pub ty : Ty
  pub sizes : List ℕ
  pub cells : List ℤ

-- an input that was given for a name
pub record Input : Type 0 where
  pub name : List ℕ
  pub sizes : List ℕ
  pub cells : List ℤ

-- the settings of an instance, by its number in the text
pub record SettingsOf : Type 0 where
  pub instance : ℕ
  pub settings : Settings

-- Where a run stands. Containers stand in the order of their numbers, which is that of their declarations in the text.
pub record World : Type 0 where
  pub containers : List Container
  pub settings : List SettingsOf
  pub inputs : List Input
  pub printed : List ℕ
  pub statements_left : ℕ
  -- of the last statement that was counted
  pub line : ℕ
  pub events : List Event

-- how a run ends
pub data Ending : Type 0 where
  End : Ending
  Trapped : Trap → (line element : ℕ) → Ending
  Bound : Ending

-- a run that is over, with what it leaves
pub record Over : Type 0 where
  pub ending : Ending
  pub world : World

-- what is done to a world, which gives a value unless the run is over
abbrev pub Doing : Type 0 → Type 0
Doing A = World → Result (A × World) Over

abbrev pub trapped_at : {A : Type 0} → Trap → (element : ℕ) → Doing A
trapped_at trap element world = Err (record { ending = Trapped trap world.line element; world = world })

-- a trap outside of a skeleton's elements stands at element 0
abbrev pub trapped : {A : Type 0} → Trap → Doing A
trapped trap = trapped_at trap 0

abbrev pub told : Event → World → World
told event world = record world { events = world.events ++ event ∷ [] }

-- A statement of a line is counted before it is executed; where none is left, the run ends.
abbrev pub count : (line : ℕ) → World → Result World Over
count line world = elim world.statements_left [
  | zero ↦ Err (record { ending = Bound; world = world })
  | suc fewer ↦ Ok (record world { statements_left = fewer; line = line })
]

abbrev pub print : List ℕ → World → World
print bytes world = record world { printed = world.printed ++ bytes }

-- the container with a number
abbrev pub container_in : World → (number : ℕ) → Option Container
container_in world number = find (λ (container : Container). container.number == number) world.containers

-- the container in its place by numbers, and in place of the one with its number
abbrev pub with_container : Container → List Container → List Container
with_container container [] = container ∷ []
with_container container (first ∷ rest) =
    if nat_lt first.number container.number then first ∷ with_container container rest
    else if first.number == container.number then container ∷ rest
    else container ∷ first ∷ rest

abbrev pub putting : Container → World → World
putting container world = record world { containers = with_container container world.containers }

-- a new container, where its sizes are a shape, with a cell everywhere
abbrev pub make : (number : ℕ) → (name : List ℕ) → Ty → (sizes : List ℤ) → (fill : ℤ) → World → Result World Over
make number name ty sizes fill world = elim (shape_of sizes) [
  | None ↦ Err (record { ending = Trapped Shape world.line 0; world = world })
  | Some shape ↦ Ok (told (Made number shape (wrapped ty fill))
      (putting (record { number = number; name = name; ty = ty; sizes = shape; cells = replicate (cells_of shape) (wrapped ty fill) }) world))
]

-- the input of a name; a run is given one for each input that its program declares
abbrev pub input_in : World → (name : List ℕ) → Input
input_in world name = elim (find (λ (input : Input). same_bytes input.name name) world.inputs) [
  | Some input ↦ input
  | None ↦ record { name = name; sizes = 0 ∷ []; cells = [] }
]

-- a new container that takes an input
abbrev pub take_input : (number : ℕ) → (name : List ℕ) → Ty → (input : List ℕ) → World → World
take_input number name ty input world =
    let given : Input = input_in world input in
    told (Taken number given.sizes given.cells)
    (putting (record { number = number; name = name; ty = ty; sizes = given.sizes; cells = given.cells }) world)

-- a container goes out of scope
abbrev pub drop_container : (number : ℕ) → World → World
drop_container number world =
    told (Left number) (record world { containers = filter (λ (container : Container). not (container.number == number)) world.containers })

-- a container that is not there has no cells
abbrev pub container_at : World → (number : ℕ) → Container
container_at world number = elim (container_in world number) [
  | Some container ↦ container
  | None ↦ record { number = number; name = []; ty = Int; sizes = 0 ∷ []; cells = [] }
]

-- the element of a container at a place
abbrev pub read_at : Container → Option ℕ → Doing ℤ
read_at container None world = trapped Index world
read_at container (Some index) world =
    Ok (slice_index_or container.cells index (pos 0), told (Read container.number index) world)

abbrev pub read : (number : ℕ) → (place : List ℤ) → Doing ℤ
read number place world = read_at (container_at world number) (flat_of (container_at world number).sizes place) world

-- a new element for a container at a place
abbrev pub poke_at : Container → Option ℕ → (value : ℤ) → World → Result World Over
poke_at container None value world = Err (record { ending = Trapped Index world.line 0; world = world })
poke_at container (Some index) value world =
    let cell : ℤ = wrapped container.ty value in
    Ok (told (Poked container.number index cell) (putting (record container { cells = set container.cells index cell }) world))

abbrev pub poke : (number : ℕ) → (place : List ℤ) → (value : ℤ) → World → Result World Over
poke number place value world = poke_at (container_at world number) (flat_of (container_at world number).sizes place) value world

-- the settings of an instance: the latest that were set, and else the defaults
abbrev pub settings_in : World → (instance : ℕ) → Settings
settings_in world instance = elim (find (λ (of : SettingsOf). of.instance == instance) world.settings) [
  | Some of ↦ of.settings
  | None ↦ default_settings
]

abbrev pub put_settings : (instance : ℕ) → Settings → World → World
put_settings instance settings world =
    record world { settings = record { instance = instance; settings = settings } ∷ world.settings }

-- the methods of a container by its sizes: the number of its elements, and each size where there are several
abbrev pub size_methods : (sizes : List ℕ) → List (List ℕ)
size_methods (n ∷ []) = []
size_methods (rows ∷ columns ∷ []) = codes "total_rows" ∷ codes "total_cols" ∷ []
size_methods sizes = codes "size_i" ∷ codes "size_j" ∷ codes "size_k" ∷ codes "size_l" ∷ []

-- the size of a container that a method gives
abbrev pub size_of : Container → (method : List ℕ) → ℤ
size_of container method =
    pos (named (codes "size" ∷ size_methods container.sizes) (cells_of container.sizes ∷ container.sizes) method)

-- a value of a user function, or its trap, which stands at element 0
abbrev pub valued : Result ℤ Trap → Doing ℤ
valued (Ok value) world = Ok (value, world)
valued (Err trap) world = trapped trap world

-- the end of main by its end or by a return
abbrev pub ended : {A : Type 0} → Doing A
ended world = Err (record { ending = End; world = world })
