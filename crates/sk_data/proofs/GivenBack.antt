-- The records of containers give the containers, where the inputs are declared as they are.
use Rattle.std.proofs.Common.{◌≡◌, ℕ, ◌+◌, Bool, true, false, List, [], ◌∷◌, ◌++◌, length, map, refl, sym, ◌∙◌, ap, arith, append_assoc, subst}
use Rattle.std.specs.Prelude.{◌||◌, Some, None, option_map, Result, Ok, Err, IfOk, find}
use Rattle.std.specs.Option.{option_or}
use Rattle.std.specs.Fmt.{signed_decimal}
use Rattle.std.specs.List.{AllByRecursion, AllZip, list_any}
use Rattle.std.proofs.lemmas.List.Folds.{list_any-append}
use Rattle.std.proofs.lemmas.Map.Keys.{IsDistinct-head, IsDistinct-tail}
use Rattle.sk_base.specs.Shape.{cells_of}
use Rattle.sk_tree.specs.declared.declared.Declared.{Declared}
use Rattle.sk_data.specs.ReadsBack.{IsDeclaredAs, ReadsBack, given_back}
use Rattle.sk_data.specs.Records.{HaveDistinctNames, Record, dumped_text, fault_or, first_fault, form_fault, given_by, given_to, inputs_of, is_named, record_fault, same_name, shape_given, with_given}
use Rattle.sk_data.specs.Sizes.{shape_in, shape_text}
use Rattle.sk_data.specs.declared.fault.InputFault.TheVariants.{Number}
use Rattle.sk_data.specs.declared.given.Dumped.{Dumped}
use Rattle.sk_data.proofs.Fields.{form_values}
use Rattle.sk_data.proofs.NamesKept.{same_name-same}
use Rattle.sk_data.proofs.NumbersBack.{no_fault_back, shape_back, values_back}
use Rattle.sk_data.proofs.Places.{length-mapped}
use Rattle.sk_data.proofs.RecordsBack.{fields_from, records_of-dump}
use Rattle.sk_data.proofs.Slots.{fault-form, find_named, others_more, others_start}

-- a container's record has the container's shape
shape-back : (container : Dumped) (input : Declared) → IsDeclaredAs container input → shape_given input (fields_from container) ≡ Some container.shape
shape-back container input is =
    ap (λ kind. shape_in kind (shape_text container.shape)) (sym is.same_kind) ∙ shape_back container.shape is.is_shape

form-back : (container : Dumped) (input : Declared) (row : ℕ) → IsDeclaredAs container input → form_fault input row (fields_from container) ≡ None
form-back container input row is =
    let counted : length (fields_from container) ≡ cells_of container.shape + 2 = omega (arith, length-mapped signed_decimal container.cells, is.counted) in
    form_values input row (fields_from container) container.shape (sym (shape-back container input is)) counted
    ∙ ap (option_map (λ field. Number row field)) (no_fault_back input.ty 3 container.cells is.in_range)

given-back : (container : Dumped) (input : Declared) → IsDeclaredAs container input → given_by input (fields_from container) ≡ given_back container
given-back container input is =
    rw (shape-back container input is, values_back input.ty container.cells is.in_range, ← is.same_name) refl

named_itself : (container : Dumped) (input : Declared) → IsDeclaredAs container input → is_named input.name (fields_from container) ≡ true
named_itself container input is =
    ap (λ (name : List ℕ). same_name container.name name) (sym is.same_name) ∙ same_name-same container.name

-- an input of another name is not named
not_named : (container : Dumped) (input other : Declared) → IsDeclaredAs container input → same_name input.name other.name ≡ false
    → is_named other.name (fields_from container) ≡ false
not_named container input other is differs = ap (λ (name : List ℕ). same_name name other.name) is.same_name ∙ differs

-- none of these inputs has a record
abbrev Unheard : List Record → List Declared → Type 0
Unheard front declared = AllByRecursion (λ input. list_any (is_named input.name) front ≡ false) declared

unheard_more : (front : List Record) (container : Dumped) (input : Declared) (declared : List Declared) → IsDeclaredAs container input
    → AllByRecursion (λ other. same_name input.name other ≡ false) (map (λ d. d.name) declared) → Unheard front declared
    → Unheard (front ++ fields_from container ∷ []) declared
unheard_more front container input [] is apart unheard = tt
unheard_more front container input (other ∷ declared) is apart unheard = (
  list_any-append (is_named other.name) front (fields_from container ∷ [])
      ∙ ap (λ (t : Bool). t || (is_named other.name (fields_from container) || false)) unheard.0
      ∙ ap (λ (t : Bool). t || false) (not_named container input other is apart.0),
  unheard_more front container input declared is apart.1 unheard.1,
)

-- the first record of a name behind records of other names
find_behind : (front : List Record) (name : List ℕ) (fields : Record) (later : List Record) → list_any (is_named name) front ≡ false
    → is_named name fields ≡ true → find (is_named name) (front ++ fields ∷ later) ≡ Some fields
find_behind [] name fields later none named = rw named refl
find_behind (first ∷ front) name fields later none named = by (is_named name first) refl none (λ e. find_behind front name fields later e named)
  where
    by : (t : Bool) → is_named name first ≡ t → (t || list_any (is_named name) front) ≡ false
        → (list_any (is_named name) front ≡ false → find (is_named name) (front ++ fields ∷ later) ≡ Some fields)
        → find (is_named name) ((first ∷ front) ++ fields ∷ later) ≡ Some fields
    by true here e below = cc
    by false other e below = rw other (below e)

given_to-back : (front : List Record) (containers : List Dumped) (declared : List Declared) → AllZip IsDeclaredAs containers declared
    → HaveDistinctNames declared → Unheard front declared → given_to (front ++ map fields_from containers) declared ≡ Ok (map given_back containers)
given_to-back front [] [] all distinct unheard = refl
given_to-back front [] (input ∷ declared) all distinct unheard = absurd all
given_to-back front (container ∷ containers) [] all distinct unheard = absurd all
given_to-back front (container ∷ containers) (input ∷ declared) all distinct unheard =
    let head = IsDistinct-head same_name input.name (map (λ d. d.name) declared) distinct in
    let tail = IsDistinct-tail same_name input.name (map (λ d. d.name) declared) distinct in
    let found = find_behind front input.name (fields_from container) (map fields_from containers) unheard.0 (named_itself container input all.0) in
    let rest = given_to-back (front ++ fields_from container ∷ []) containers declared all.1 tail (unheard_more front container input declared all.0 head unheard.1) in
    let regrouped : front ++ map fields_from (container ∷ containers) ≡ (front ++ fields_from container ∷ []) ++ map fields_from containers =
    sym (append_assoc front (fields_from container ∷ []) (map fields_from containers)) in
    let others : given_to (front ++ map fields_from (container ∷ containers)) declared ≡ Ok (map given_back containers) = ap (λ all. given_to all declared) regrouped ∙ rest in
    ap (λ o. with_given input o (given_to (front ++ map fields_from (container ∷ containers)) declared)) found
    ∙ ap (with_given input (Some (fields_from container))) others
    ∙ ap (λ g. Ok (g ∷ map given_back containers)) (given-back container input all.0)

first_fault-back : (before : List Declared) (front : List Record) (containers : List Dumped) (declared : List Declared)
    → AllZip IsDeclaredAs containers declared → HaveDistinctNames declared → Unheard front declared
    → AllByRecursion (λ (l : Declared). AllByRecursion (λ (d : Declared). same_name l.name d.name ≡ false) before) declared
    → first_fault (before ++ declared) front (map fields_from containers) ≡ None
first_fault-back before front [] declared all distinct unheard others = refl
first_fault-back before front (container ∷ containers) [] all distinct unheard others = absurd all
first_fault-back before front (container ∷ containers) (input ∷ declared) all distinct unheard others =
    let head = IsDistinct-head same_name input.name (map (λ d. d.name) declared) distinct in
    let tail = IsDistinct-tail same_name input.name (map (λ d. d.name) declared) distinct in
    let found = find_named before input declared (fields_from container) (named_itself container input all.0) others.0 in
    let none : record_fault (before ++ input ∷ declared) front (length front + 1) (fields_from container) ≡ None =
    fault-form (before ++ input ∷ declared) front (length front + 1) (fields_from container) input found unheard.0
    ∙ form-back container input (length front + 1) all.0 in
    let rest = first_fault-back (before ++ input ∷ []) (front ++ fields_from container ∷ []) containers declared all.1 tail
    (unheard_more front container input declared all.0 head unheard.1) (others_more before input declared others.1 head) in
    let regrouped : before ++ input ∷ declared ≡ (before ++ input ∷ []) ++ declared = sym (append_assoc before (input ∷ []) declared) in
    let later : first_fault (before ++ input ∷ declared) (front ++ fields_from container ∷ []) (map fields_from containers) ≡ None =
    ap (λ ds. first_fault ds (front ++ fields_from container ∷ []) (map fields_from containers)) regrouped ∙ rest in
    ap (λ o. option_or o (first_fault (before ++ input ∷ declared) (front ++ fields_from container ∷ []) (map fields_from containers))) none ∙ later

unheard_start : (declared : List Declared) → Unheard [] declared
unheard_start [] = tt
unheard_start (input ∷ declared) = (refl, unheard_start declared)

-- a dump reads as its containers
pub reads_back : (containers : List Dumped) → ReadsBack containers (dumped_text containers)
reads_back containers = λ declared distinct all.
    let records = records_of-dump containers declared all in
    let faultless = first_fault-back [] [] containers declared all distinct (unheard_start declared) (others_start declared) in
    let given = given_to-back [] containers declared all distinct (unheard_start declared) in
    ap (inputs_of declared) records ∙ ap (λ o. fault_or o (given_to (map fields_from containers) declared)) faultless ∙ given

pub reads_back-ok : {A E : Type 0} (items : A → List ℕ) (containers : List Dumped) (result : Result A E)
    → IfOk result (λ text. items text ≡ dumped_text containers) → IfOk result (λ text. ReadsBack containers (items text))
reads_back-ok {A} {E} items containers (Ok text) is =
    let P : List ℕ → Type 0 = λ bytes. ReadsBack containers bytes in subst P (sym is) (reads_back containers)
reads_back-ok {A} {E} items containers (Err e) is = tt
