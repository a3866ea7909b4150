-- An instruction of sound code finds what it needs.
use Rattle.std.proofs.Common.{◌≡◌, ℕ, zero, suc, ◌+◌, ◌<◌, ◌≤◌, ◌-◌, Bool, true, false, ◌&&◌, ◌||◌, if◌then◌else◌, List, [], ◌∷◌, length, take, drop, map, reverse, Contains, ℤ, pos, Option, Some, None, slice_get, slice_index_or, refl, ap, subst, ◌∙◌, arith, nat_le}
use Rattle.std.proofs.lemmas.List.{length-drop, length-map}
use Rattle.std.specs.Cmp.{first_so, second_so}
use Rattle.std.specs.List.{list_all}
use Rattle.std.proofs.lemmas.Option.{slice_get_within}
use Rattle.sk_base.specs.declared.number.Op.{Op}
use Rattle.sk_base.specs.declared.number.Ty.{Ty}
use Rattle.sk_base.specs.declared.number.Ty.TheVariants.{Int}
use Rattle.sk_base.specs.Arithmetic.{InRange, is_shift}
use Rattle.std.proofs.lemmas.Bool.{leb-true}
use Rattle.sk_meaning.specs.Evaluation.{Argument, Value, Place, Whole, Neighbours, kind_type}
use Rattle.sk_tree.specs.Parameters.{is_field, is_index_field, is_proxy_field, proxies_then_scalars, scalars_then_proxies}
use Rattle.sk_tree.specs.declared.tree.ParamKind.{ParamKind}
use Rattle.sk_tree.specs.declared.tree.ParamKind.TheVariants.{Scalar, Index, Proxy, Region as RegionKind}
use Rattle.sk_isa.specs.declared.code.Instr.{Instr}
use Rattle.sk_isa.specs.declared.code.Instr.TheVariants.{Push, Pop, Load, Store, Field, Item, Region, Neg, Inv, Not, Wrap, Binary, Jump, Zero, Turn, Call, Ret}
use Rattle.sk_kernel.specs.Kernels.{AreOfTypes}
use Rattle.sk_isa.specs.Soundness.{Left, Named, SuitParams, SuitsParam, has_field, is_kind, is_number, is_scalar, item_type, leads_to, left_by, left_if, left_with, number_type, of_many, of_one, of_two, region_type, scalar_in, serves, left_by_ret}
use Rattle.sk_isa_laws.proofs.Steps.{left_if_so, left_with_so, scalar_so, item_so, region_so}
use Rattle.sk_isa_laws.proofs.TypedLists.{typed-length}
use Rattle.sk_isa_laws.proofs.Values.{served}
use Rattle.sk_vm.specs.Needs.{Needs}
use Rattle.sk_vm.specs.Places.{FieldIn, HasField, IsWhole, OfContainers, arguments_with, takes_places}
use Rattle.sk_vm.specs.Points.{values_in}
use Rattle.sk_vm.proofs.Values.{length-values_in, values_in-last}

-- the types stand for as many values
height : (types : List Ty) (stack : List ℤ) (top : ℕ) → AreOfTypes types (values_in stack top) → length types ≡ top
height types stack top typed = typed-length types (values_in stack top) typed ∙ length-values_in stack top

-- one value is there where one is looked for
one_there : (types left : List Ty) (next : Ty → List Ty → Left) (stack : List ℤ) (top : ℕ) → of_one types next ≡ Some left
    → AreOfTypes types (values_in stack top) → 0 < top
one_there [] left next stack top e typed = cc
one_there (ty ∷ rest) left next stack top e typed = let tall : suc (length rest) ≡ top = height (ty ∷ rest) stack top typed in omega arith

-- values at the top, with their types
typed_last : (ty : Ty) (rest : List Ty) (stack : List ℤ) (top : ℕ) → 0 < top → AreOfTypes (ty ∷ rest) (values_in stack top)
    → InRange ty (slice_index_or stack (top - 1) (pos 0)) × AreOfTypes rest (values_in stack (top - 1))
typed_last ty rest stack top some typed = subst (λ (values : List ℤ). AreOfTypes (ty ∷ rest) values) (values_in-last stack top some) typed

-- the right operand of an operator, unless it is a count
right_served : (shift fits : Bool) → (shift || fits) ≡ true → shift ≡ false → fits ≡ true
right_served true fits e not_shift = cc
right_served false fits e not_shift = e

operands_there : (op : Op) (ty : Ty) (types left : List Ty) (stack : List ℤ) (top : ℕ) (result : Ty)
    → of_two types (λ one other rest. left_if (serves one ty && (is_shift op || serves other ty)) (result ∷ rest)) ≡ Some left
    → AreOfTypes types (values_in stack top)
    → (1 < top) × InRange ty (slice_index_or stack (top - 2) (pos 0)) × (is_shift op ≡ false → InRange ty (slice_index_or stack (top - 1) (pos 0)))
operands_there op ty [] left stack top result e typed = cc
operands_there op ty (other ∷ []) left stack top result e typed = cc
operands_there op ty (other ∷ one ∷ rest) left stack top result e typed =
    let tall : suc (suc (length rest)) ≡ top = height (other ∷ one ∷ rest) stack top typed in
    let two : 1 < top = omega arith in
    let upper = typed_last other (one ∷ rest) stack top (omega arith) typed in
    let lower = typed_last one rest stack (top - 1) (omega arith) upper.1 in
    let below : top - 1 - 1 ≡ top - 2 = omega arith in
    let test = (left_if_so (serves one ty && (is_shift op || serves other ty)) (result ∷ rest) left e).0 in (
      two,
      served one ty _ (first_so (serves one ty) (is_shift op || serves other ty) test)
          (subst (λ (n : ℕ). InRange one (slice_index_or stack n (pos 0))) below lower.0),
      λ not_shift. served other ty _ (right_served (is_shift op) (serves other ty) (second_so (serves one ty) (is_shift op || serves other ty) test) not_shift) upper.0,
    )

-- a scalar slot is there
slot_there : (named : Named) (slot : ℕ) (ty : Ty) (slots : List ℤ) → scalar_in named slot ≡ Some ty → AreOfTypes (map kind_type named.own.slots) slots → slot < length slots
slot_there named slot ty slots e typed =
    let within : slot < length named.own.slots = slice_get_within named.own.slots slot (Scalar ty) (scalar_so (slice_get named.own.slots slot) ty e) in
    let count : length (map kind_type named.own.slots) ≡ length slots = typed-length (map kind_type named.own.slots) slots typed in
    omega (arith, length-map named.own.slots kind_type)

-- parameters that are scalars have no fields
all_at : (kinds : List ParamKind) (k : ℕ) (kind : ParamKind) → list_all is_scalar kinds ≡ true → slice_get kinds k ≡ Some kind → is_scalar kind ≡ true
all_at [] k kind all e = cc
all_at (own ∷ kinds) zero kind all e = let same : own ≡ kind = cc in subst (λ (p : ParamKind). is_scalar p ≡ true) same (first_so (is_scalar own) (list_all is_scalar kinds) all)
all_at (own ∷ kinds) (suc k) kind all e = all_at kinds k kind (second_so (is_scalar own) (list_all is_scalar kinds) all) e

pub all_scalars : (kinds : List ParamKind) → list_all is_scalar kinds ≡ true → (k : ℕ) (kind : ParamKind) → slice_get kinds k ≡ Some kind → is_scalar kind ≡ true
all_scalars kinds all k kind e = all_at kinds k kind all e

-- no parameter is a region
no_neighbours-proxies : (kinds : List ParamKind) (k dimension : ℕ) (ty : Ty) → proxies_then_scalars kinds ≡ true → slice_get kinds k ≡ Some (RegionKind dimension ty) → ⊥
no_neighbours-proxies [] k dimension ty ordered e = cc
no_neighbours-proxies (Scalar own ∷ kinds) k dimension ty ordered e = let not_so : false ≡ true = all_at (Scalar own ∷ kinds) k (RegionKind dimension ty) ordered e in cc
no_neighbours-proxies (Index places ∷ kinds) k dimension ty ordered e = cc
no_neighbours-proxies (Proxy places own ∷ kinds) zero dimension ty ordered e = cc
no_neighbours-proxies (Proxy places own ∷ kinds) (suc k) dimension ty ordered e = no_neighbours-proxies kinds k dimension ty ordered e
no_neighbours-proxies (RegionKind places own ∷ kinds) k dimension ty ordered e = cc

no_neighbours-behind : (kinds : List ParamKind) (k dimension : ℕ) (ty : Ty) → scalars_then_proxies kinds ≡ true → slice_get kinds k ≡ Some (RegionKind dimension ty) → ⊥
no_neighbours-behind [] k dimension ty ordered e = cc
no_neighbours-behind (Scalar own ∷ kinds) zero dimension ty ordered e = cc
no_neighbours-behind (Scalar own ∷ kinds) (suc k) dimension ty ordered e = no_neighbours-behind kinds k dimension ty ordered e
no_neighbours-behind (Index places ∷ kinds) k dimension ty ordered e = cc
no_neighbours-behind (Proxy places own ∷ kinds) k dimension ty ordered e = no_neighbours-proxies (Proxy places own ∷ kinds) k dimension ty ordered e
no_neighbours-behind (RegionKind places own ∷ kinds) k dimension ty ordered e = cc

pub no_neighbours : (kinds : List ParamKind) (k dimension : ℕ) (ty : Ty) → takes_places kinds ≡ true → slice_get kinds k ≡ Some (RegionKind dimension ty) → ⊥
no_neighbours [] k dimension ty takes e = cc
no_neighbours (Scalar own ∷ kinds) k dimension ty takes e = no_neighbours-behind (Scalar own ∷ kinds) k dimension ty takes e
no_neighbours (Index places ∷ kinds) zero dimension ty takes e = cc
no_neighbours (Index places ∷ kinds) (suc k) dimension ty takes e = no_neighbours-behind kinds k dimension ty takes e
no_neighbours (Proxy places own ∷ kinds) k dimension ty takes e = no_neighbours-behind (Proxy places own ∷ kinds) k dimension ty takes e
no_neighbours (RegionKind places own ∷ kinds) k dimension ty takes e = cc

many_there : (count : ℕ) (types left : List Ty) (next : List Ty → List Ty → Left) → of_many count types next ≡ Some left
    → next (reverse (take count types)) (drop count types) ≡ Some left
many_there count types left next e = pick (nat_le count (length types)) e
  where
    pick : (enough : Bool) → (if enough then next (reverse (take count types)) (drop count types) else None) ≡ Some left
        → next (reverse (take count types)) (drop count types) ≡ Some left
    pick true e = e
    pick false e = cc

many_enough : (count : ℕ) (types left : List Ty) (next : List Ty → List Ty → Left) → of_many count types next ≡ Some left → count ≤ length types
many_enough count types left next e = pick (nat_le count (length types)) refl e
  where
    pick : (enough : Bool) → nat_le count (length types) ≡ enough → (if enough then next (reverse (take count types)) (drop count types) else None) ≡ Some left
        → count ≤ length types
    pick true is e = leb-true count (length types) is
    pick false is e = cc

no_region : (named : Named) (slot places : ℕ) (rest left : List Ty) → takes_places named.own.params ≡ true
    → left_with (region_type named slot places) rest ≡ Some left → ⊥
no_region named slot places rest left takes e =
    let with = left_with_so (region_type named slot places) rest left e in
    let found = region_so (slice_get named.own.params slot) places with.0 with.1 in
    no_neighbours named.own.params slot found.0 with.0 takes found.1

-- what stands for a parameter that is no scalar is its argument, and suits it
pub record OtherAt (kind : ParamKind) (other : ℕ → Argument) (slot : ℕ) (arguments : List Argument) : Type 0 where
  pub given : slice_get arguments slot ≡ Some (other slot)
  pub suits : SuitsParam kind (other slot)

other_first : (own kind : ParamKind) (other : ℕ → Argument) (rest : List Argument) → SuitsParam own (other 0) → Some own ≡ Some kind → OtherAt kind other 0 (other 0 ∷ rest)
other_first own kind other rest suits is =
    let same : own ≡ kind = cc in record { given = refl; suits = subst (λ (p : ParamKind). SuitsParam p (other 0)) same suits }

other_later : (kind : ParamKind) (other : ℕ → Argument) (slot : ℕ) (argument : Argument) (rest : List Argument) → OtherAt kind (λ later. other (suc later)) slot rest
    → OtherAt kind other (suc slot) (argument ∷ rest)
other_later kind other slot argument rest at = record { given = at.given; suits = at.suits }

pub other_there : (params : List ParamKind) (other : ℕ → Argument) (numbers : List ℤ) (slot : ℕ) (kind : ParamKind) → SuitParams params (arguments_with params other numbers)
    → slice_get params slot ≡ Some kind → is_scalar kind ≡ false → OtherAt kind other slot (arguments_with params other numbers)
other_there [] other numbers slot kind suits is not = cc
other_there (own ∷ params) other [] slot kind suits is not = absurd suits
other_there (Scalar ty ∷ params) other (number ∷ numbers) zero kind suits is not =
    let same : Scalar ty ≡ kind = cc in let no : true ≡ false = ap is_scalar same ∙ not in cc
other_there (Scalar ty ∷ params) other (number ∷ numbers) (suc slot) kind suits is not =
    other_later kind other slot _ _ (other_there params (λ later. other (suc later)) numbers slot kind suits.1 is not)
other_there (Index dimension ∷ params) other (number ∷ numbers) zero kind suits is not = other_first (Index dimension) kind other _ suits.0 is
other_there (Index dimension ∷ params) other (number ∷ numbers) (suc slot) kind suits is not =
    other_later kind other slot _ _ (other_there params (λ later. other (suc later)) numbers slot kind suits.1 is not)
other_there (Proxy dimension ty ∷ params) other (number ∷ numbers) zero kind suits is not = other_first (Proxy dimension ty) kind other _ suits.0 is
other_there (Proxy dimension ty ∷ params) other (number ∷ numbers) (suc slot) kind suits is not =
    other_later kind other slot _ _ (other_there params (λ later. other (suc later)) numbers slot kind suits.1 is not)
other_there (RegionKind dimension ty ∷ params) other (number ∷ numbers) zero kind suits is not = other_first (RegionKind dimension ty) kind other _ suits.0 is
other_there (RegionKind dimension ty ∷ params) other (number ∷ numbers) (suc slot) kind suits is not =
    other_later kind other slot _ _ (other_there params (λ later. other (suc later)) numbers slot kind suits.1 is not)

-- a parameter is of a kind that there is
kinds_at : (kinds : List ParamKind) (k : ℕ) (kind : ParamKind) → list_all is_kind kinds ≡ true → slice_get kinds k ≡ Some kind → is_kind kind ≡ true
kinds_at [] k kind all e = cc
kinds_at (own ∷ kinds) zero kind all e = let same : own ≡ kind = cc in subst (λ (p : ParamKind). is_kind p ≡ true) same (first_so (is_kind own) (list_all is_kind kinds) all)
kinds_at (own ∷ kinds) (suc k) kind all e = kinds_at kinds k kind (second_so (is_kind own) (list_all is_kind kinds) all) e

-- a field is there, and is read in the argument of its slot
pub record FieldAt (other : ℕ → Argument) (Readable : ℕ → Type 0) (name : List ℕ) (slot : ℕ) (arguments : List Argument) : Type 0 where
  pub has : FieldIn (other slot) name
  pub readable : IsWhole (other slot) → Readable slot
  pub given : slice_get arguments slot ≡ Some (other slot)

index_field : (dimension : ℕ) (place name : List ℕ) → is_kind (Index dimension) ≡ true → length place ≡ dimension → is_index_field dimension name ≡ true → HasField place name
index_field dimension place name kind size field =
    let some = leb-true 1 dimension (first_so (nat_le 1 dimension) (nat_le dimension 4) kind) in
    let few = leb-true dimension 4 (second_so (nat_le 1 dimension) (nat_le dimension 4) kind) in
    record { some = omega arith; few = omega arith; field = ap (λ (n : ℕ). is_index_field n name) size ∙ field }

index_has : (dimension : ℕ) (argument : Argument) (name : List ℕ) → is_kind (Index dimension) ≡ true → SuitsParam (Index dimension) argument → is_index_field dimension name ≡ true
    → FieldIn argument name × (IsWhole argument → ⊥)
index_has dimension (Value value) name kind suits field = absurd suits
index_has dimension (Place place) name kind suits field = (index_field dimension place name kind suits.0 field, λ no. no)
index_has dimension (Whole sizes cells) name kind suits field = absurd suits
index_has dimension (Neighbours overlaps at) name kind suits field = absurd suits

proxy_has : (dimension : ℕ) (ty : Ty) (argument : Argument) (name : List ℕ) → SuitsParam (Proxy dimension ty) argument → is_proxy_field dimension name ≡ true → FieldIn argument name
proxy_has dimension ty (Value value) name suits field = absurd suits
proxy_has dimension ty (Place place) name suits field = absurd suits
proxy_has dimension ty (Whole sizes cells) name suits field = (suits.1.some, suits.1.few, ap (λ (n : ℕ). is_proxy_field n name) suits.0 ∙ field)
proxy_has dimension ty (Neighbours overlaps at) name suits field = absurd suits

proxy_whole : (dimension : ℕ) (ty : Ty) (argument : Argument) → SuitsParam (Proxy dimension ty) argument → IsWhole argument
proxy_whole dimension ty (Value value) suits = absurd suits
proxy_whole dimension ty (Place place) suits = absurd suits
proxy_whole dimension ty (Whole sizes cells) suits = tt
proxy_whole dimension ty (Neighbours overlaps at) suits = absurd suits

pub field_there : (params : List ParamKind) (other : ℕ → Argument) (Readable : ℕ → Type 0) (name : List ℕ) (slot : ℕ) (numbers : List ℤ) → takes_places params ≡ true
    → list_all is_kind params ≡ true → SuitParams params (arguments_with params other numbers) → OfContainers params Readable
    → elim (slice_get params slot) [ Some kind ↦ is_field kind name | None ↦ false ] ≡ true
    → FieldAt other Readable name slot (arguments_with params other numbers)
field_there params other Readable name slot numbers takes kinds suits containers e = by (slice_get params slot) refl e
  where
    by : (found : Option ParamKind) → slice_get params slot ≡ found → elim found [ Some kind ↦ is_field kind name | None ↦ false ] ≡ true
        → FieldAt other Readable name slot (arguments_with params other numbers)
    by None is e = cc
    by (Some (Scalar ty)) is e = cc
    by (Some (Index dimension)) is e =
        let at = other_there params other numbers slot (Index dimension) suits is refl in
        let has = index_has dimension (other slot) name (kinds_at params slot (Index dimension) kinds is) at.suits e in
        record { has = has.0; readable = λ whole. absurd (has.1 whole); given = at.given }
    by (Some (Proxy dimension ty)) is e =
        let at = other_there params other numbers slot (Proxy dimension ty) suits is refl in
        record { has = proxy_has dimension ty (other slot) name at.suits e; readable = λ whole. containers slot (Proxy dimension ty) is refl; given = at.given }
    by (Some (RegionKind dimension ty)) is e = absurd (no_neighbours params slot dimension ty takes is)

-- a container is there, and may be read in the argument of its slot
pub record ItemAt (other : ℕ → Argument) (Readable : ℕ → Type 0) (slot : ℕ) (arguments : List Argument) : Type 0 where
  pub whole : IsWhole (other slot)
  pub readable : Readable slot
  pub given : slice_get arguments slot ≡ Some (other slot)

pub item_there : (params : List ParamKind) (other : ℕ → Argument) (Readable : ℕ → Type 0) (slot dimension : ℕ) (ty : Ty) (numbers : List ℤ)
    → SuitParams params (arguments_with params other numbers) → OfContainers params Readable → slice_get params slot ≡ Some (Proxy dimension ty)
    → ItemAt other Readable slot (arguments_with params other numbers)
item_there params other Readable slot dimension ty numbers suits containers is =
    let at = other_there params other numbers slot (Proxy dimension ty) suits is refl in
    record { whole = proxy_whole dimension ty (other slot) at.suits; readable = containers slot (Proxy dimension ty) is refl; given = at.given }

-- which parameter an instruction names that reads a container
pub item_named : (named : Named) (slot places : ℕ) (types left : List Ty) → left_by named (Item slot places) types ≡ Some left
    → (dimension : ℕ) × (ty : Ty) × (slice_get named.own.params slot ≡ Some (Proxy dimension ty))
item_named named slot places types left e =
    let with = left_with_so (item_type named slot places) (drop places types) left (many_there places types left (λ given rest. left_with (item_type named slot places) rest) e) in
    let found = item_so (slice_get named.own.params slot) places with.0 with.1 in
    (found.0, with.0, found.1)

returns_one : (ret : Ty) (types left : List Ty) (stack : List ℤ) (top : ℕ) → left_by_ret ret types ≡ Some left → AreOfTypes types (values_in stack top) → 0 < top
returns_one ret [] left stack top e typed = cc
returns_one ret (ty ∷ rest) left stack top e typed = let tall : suc (length rest) ≡ top = height (ty ∷ rest) stack top typed in omega arith

-- there is room for one value more where an instruction leaves one more
room_for : (types left : List Ty) (ty : Ty) (stack : List ℤ) (top : ℕ) → ty ∷ types ≡ left → AreOfTypes types (values_in stack top) → length left ≤ length stack → top < length stack
room_for types left ty stack top e typed room =
    let tall = height types stack top typed in
    let one_more : suc (length types) ≡ length left = ap length e in
    omega arith

-- what the types say is there
pub needs_met : (named : Named) (instr : Instr) (other : ℕ → Argument) (Readable : ℕ → Type 0) (at : ℕ) (types left : List Ty) (stack slots : List ℤ) (top : ℕ)
    → takes_places named.own.params ≡ true → ((slot : ℕ) (name : List ℕ) → has_field named slot name ≡ true → FieldIn (other slot) name × (IsWhole (other slot) → Readable slot))
    → ((slot dimension : ℕ) (ty : Ty) → slice_get named.own.params slot ≡ Some (Proxy dimension ty) → IsWhole (other slot) × Readable slot)
    → left_by named instr types ≡ Some left
    → AreOfTypes types (values_in stack top) → AreOfTypes (map kind_type named.own.slots) slots
    → ((to : ℕ) → Contains (leads_to instr at) to → length left ≤ length stack)
    → Needs instr other Readable top stack slots
needs_met named (Push number) other Readable at types left stack slots top takes fields items e typed kept room =
    room_for types left (number_type number) stack top (left_if_so (is_number number) (number_type number ∷ types) left e).1 typed (room (suc at) (0, omega arith, refl))
needs_met named Pop other Readable at types left stack slots top takes fields items e typed kept room = one_there types left _ stack top e typed
needs_met named (Load slot) other Readable at types left stack slots top takes fields items e typed kept room =
    let with = left_with_so (scalar_in named slot) types left e in
    (slot_there named slot with.0 slots with.1 kept, room_for types left with.0 stack top with.2 typed (room (suc at) (0, omega arith, refl)))
needs_met named (Store slot) other Readable at types left stack slots top takes fields items e typed kept room = (by types e, one_there types left _ stack top e typed)
  where
    stored_in : (found : Option Ty) (ty : Ty) (rest : List Ty) → scalar_in named slot ≡ found
        → elim found [ Some wanted ↦ left_if (serves ty wanted) rest | None ↦ None ] ≡ Some left → slot < length slots
    stored_in None ty rest is e = cc
    stored_in (Some wanted) ty rest is e = slot_there named slot wanted slots is kept

    by : (types : List Ty) → of_one types (λ ty rest. elim (scalar_in named slot) [ Some wanted ↦ left_if (serves ty wanted) rest | None ↦ None ]) ≡ Some left
        → slot < length slots
    by [] e = cc
    by (ty ∷ rest) e = stored_in (scalar_in named slot) ty rest refl e
needs_met named (Neg ty) other Readable at types left stack slots top takes fields items e typed kept room = one_there types left _ stack top e typed
needs_met named (Inv ty) other Readable at types left stack slots top takes fields items e typed kept room = one_there types left _ stack top e typed
needs_met named Not other Readable at types left stack slots top takes fields items e typed kept room = one_there types left _ stack top e typed
needs_met named Wrap other Readable at types left stack slots top takes fields items e typed kept room = one_there types left _ stack top e typed
needs_met named (Binary op ty) other Readable at types left stack slots top takes fields items e typed kept room = operands_there op ty types left stack top _ e typed
needs_met named (Jump to) other Readable at types left stack slots top takes fields items e typed kept room = tt
needs_met named (Zero to) other Readable at types left stack slots top takes fields items e typed kept room = one_there types left _ stack top e typed
needs_met named Turn other Readable at types left stack slots top takes fields items e typed kept room = tt
needs_met named (Call function) other Readable at types left stack slots top takes fields items e typed kept room = tt
needs_met named Ret other Readable at types left stack slots top takes fields items e typed kept room = returns_one named.own.ret types left stack top e typed
needs_met named (Field slot name) other Readable at types left stack slots top takes fields items e typed kept room =
    let so = left_if_so (has_field named slot name) (Int ∷ types) left e in
    let field = fields slot name so.0 in
    (room_for types left Int stack top so.1 typed (room (suc at) (0, omega arith, refl)), field.0, field.1)
needs_met named (Item slot places) other Readable at types left stack slots top takes fields items e typed kept room =
    let next : List Ty → List Ty → Left = λ given rest. left_with (item_type named slot places) rest in
    let with = left_with_so (item_type named slot places) (drop places types) left (many_there places types left next e) in
    let enough = many_enough places types left next e in
    let tall = height types stack top typed in
    let dropped = length-drop places types in
    let one_more : suc (length (drop places types)) ≡ length left = ap length with.2 in
    let upto = room (suc at) (0, omega arith, refl) in
    let named_is = item_named named slot places types left e in
    let item = items slot named_is.0 named_is.1 named_is.2 in
    (omega arith, omega arith, item.0, item.1)
needs_met named (Region slot places) other Readable at types left stack slots top takes fields items e typed kept room =
    absurd (no_region named slot places _ left takes (many_there places types left (λ given rest. left_with (region_type named slot places) rest) e))
needs_met named instr other Readable at types left stack slots top takes fields items e typed kept room = cc
