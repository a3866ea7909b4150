-- What inputs are given suits them.
use Rattle.std.proofs.Common.{◌≡◌, ℕ, suc, ◌+◌, ◌^◌, Bool, true, false, List, [], ◌∷◌, ◌++◌, length, map, refl, sym, ◌∙◌, ap, arith, append_assoc, subst}
use Rattle.std.specs.Prelude.{◌||◌, ◌==◌, if◌then◌else◌, ℤ, pos, negsuc, Option, Some, None, is_none, option_map, option_and_then, unwrap_or, Result, Ok, Err, IfOk, find, All}
use Rattle.std.specs.Option.{option_or}
use Rattle.std.specs.List.{AllByRecursion, AllZip, filter_map, list_any, position_from}
use Rattle.std.proofs.lemmas.Bool.{eqb-true}
use borrow.Author.Tests.{ltb-true}
use Rattle.std.proofs.lemmas.List.Elements.{All-nil, All-cons}
use Rattle.std.proofs.lemmas.List.Folds.{list_any-append}
use Rattle.std.proofs.lemmas.Map.Keys.{IsDistinct-head, IsDistinct-tail}
use Rattle.sk_base.specs.Arithmetic.{InRange}
use Rattle.sk_base.specs.Shape.{IsShape, cells_of, shape_of}
use Rattle.sk_base.specs.ShapeLaws.{shape_of-some}
use Rattle.sk_base.specs.declared.number.Ty.{Ty}
use Rattle.sk_base.specs.declared.number.Ty.TheVariants.{Int, Long}
use Rattle.sk_tree.specs.declared.declared.Declared.{Declared}
use Rattle.sk_data.specs.Decimals.{is_within, whole_number_of}
use Rattle.sk_data.specs.Records.{HaveDistinctNames, Record, bound_of, fault_at_shape, fault_or, first_fault, form_fault, given_by, given_to, inputs_of, is_named, number_fault, record_fault, same_name, shape_given, value_of, values_given, with_given}
use Rattle.sk_data.specs.Sizes.{each_some, parts_of, shape_in, size_of}
use Rattle.sk_data.specs.Suits.{Suits}
use Rattle.sk_data.specs.declared.fault.InputFault.{InputFault}
use Rattle.sk_data.specs.declared.fault.InputFault.TheVariants.{Count, Number}
use Rattle.sk_data.specs.declared.given.Given.{Given}
use Rattle.sk_data.proofs.Fields.{no_value}
use Rattle.sk_data.proofs.Places.{length-mapped}
use Rattle.sk_data.proofs.Slots.{fault-form, find_named, others_more, others_start}

range-within : (ty : Ty) (z : ℤ) → is_within (bound_of ty) z ≡ true → InRange ty z
range-within Int (pos n) within = let small = ltb-true n (2 ^ 31) within in record { sfits = omega (arith, small) }
range-within Int (negsuc n) within = let small = ltb-true n (2 ^ 31) within in record { sfits = omega (arith, small) }
range-within Long (pos n) within = let small = ltb-true n (2 ^ 63) within in record { sfits = omega (arith, small) }
range-within Long (negsuc n) within = let small = ltb-true n (2 ^ 63) within in record { sfits = omega (arith, small) }

value-in_range : (ty : Ty) (text : List ℕ) (z : ℤ) → value_of ty text ≡ Some z → InRange ty z
value-in_range ty text z is = by (whole_number_of text) is
  where
    tested : (n : ℤ) (t : Bool) → is_within (bound_of ty) n ≡ t → (if t then Some n else None) ≡ Some z → InRange ty z
    tested n true within e = let same : n ≡ z = cc in let P : ℤ → Type 0 = λ k. InRange ty k in subst P same (range-within ty n within)
    tested n false within e = cc

    by : (found : Option ℤ) → option_and_then (λ n. if is_within (bound_of ty) n then Some n else None) found ≡ Some z → InRange ty z
    by None e = cc
    by (Some n) e = tested n (is_within (bound_of ty) n) refl e

-- values that are all numbers of the type
record AreValues (ty : Ty) (values : List (List ℕ)) : Type 0 where
  counted : length (filter_map (value_of ty) values) ≡ length values
  in_range : All (λ cell. InRange ty cell) (filter_map (value_of ty) values)

are_values : (ty : Ty) (at : ℕ) (values : List (List ℕ)) → position_from (no_value ty) at values ≡ None → AreValues ty values
are_values ty at [] none = record { counted = refl; in_range = All-nil (λ cell. InRange ty cell) }
are_values ty at (value ∷ values) none = by (value_of ty value) refl none (λ e. are_values ty (at + 1) values e)
  where
    by : (found : Option ℤ) → value_of ty value ≡ found → (if is_none found then Some at else position_from (no_value ty) (at + 1) values) ≡ None
        → (position_from (no_value ty) (at + 1) values ≡ None → AreValues ty values) → AreValues ty (value ∷ values)
    by None is e more = cc
    by (Some z) is e more =
        let rest = more e in
        let front : filter_map (value_of ty) (value ∷ values) ≡ z ∷ filter_map (value_of ty) values = rw is refl in
        let P : List ℤ → Type 0 = λ zs. All (λ cell. InRange ty cell) zs in
        record {
          counted = ap length front ∙ ap (λ n. suc n) rest.counted;
          in_range = subst P (sym front) (All-cons (λ cell. InRange ty cell) z (filter_map (value_of ty) values) (value-in_range ty value z is) rest.in_range);
        }

length-each_some : {X : Type 0} (values : List (Option X)) (xs : List X) → each_some values ≡ Some xs → length xs ≡ length values
length-each_some {X} [] xs is = let none : [] ≡ xs = cc in ap length (sym none)
length-each_some {X} (None ∷ values) xs is = cc
length-each_some {X} (Some x ∷ values) xs is = by (each_some values) is (λ rest e. length-each_some values rest e)
  where
    by : (found : Option (List X)) → option_map (λ rest. x ∷ rest) found ≡ Some xs
        → ((rest : List X) → found ≡ Some rest → length rest ≡ length values) → length xs ≡ suc (length values)
    by None e more = cc
    by (Some rest) e more = let same : x ∷ rest ≡ xs = cc in ap length (sym same) ∙ ap (λ n. suc n) (more rest refl)

-- a shape that a text writes
shape_in-some : (kind : ℕ) (text shape : List ℕ) → shape_in kind text ≡ Some shape → IsShape shape × (length shape ≡ kind)
shape_in-some kind text shape is = by (length (parts_of text) == kind) refl is
  where
    sizes : (found : Option (List ℕ)) → each_some (map size_of (parts_of text)) ≡ found → length (parts_of text) ≡ kind
        → option_and_then (λ s. shape_of (map pos s)) found ≡ Some shape → IsShape shape × (length shape ≡ kind)
    sizes None found counted e = cc
    sizes (Some list) found counted e =
        let some = shape_of-some (map pos list) shape e in
        let as_many = length-each_some (map size_of (parts_of text)) list found in
        (some.0, sym (length-mapped pos shape) ∙ ap length some.1 ∙ length-mapped pos list ∙ as_many ∙ length-mapped size_of (parts_of text) ∙ counted)

    by : (t : Bool) → (length (parts_of text) == kind) ≡ t
        → (if t then option_and_then (λ s. shape_of (map pos s)) (each_some (map size_of (parts_of text))) else None) ≡ Some shape
        → IsShape shape × (length shape ≡ kind)
    by true counted e = sizes (each_some (map size_of (parts_of text))) refl (eqb-true (length (parts_of text)) kind counted) e
    by false counted e = cc

shape_given-is : (input : Declared) (fields : Record) (shape : List ℕ) → shape_given input fields ≡ Some shape → IsShape shape × (length shape ≡ input.kind)
shape_given-is input [] shape is = cc
shape_given-is input (name ∷ []) shape is = cc
shape_given-is input (name ∷ text ∷ values) shape is = shape_in-some input.kind text shape is

-- a record of the right form gives an input what suits it
form-suits : (input : Declared) (row : ℕ) (fields : Record) → form_fault input row fields ≡ None → Suits input (given_by input fields)
form-suits input row fields none = by (shape_given input fields) refl none
  where
    numbered : (shape : List ℕ) (o : Option ℕ) → shape_given input fields ≡ Some shape → length (values_given fields) ≡ cells_of shape
        → position_from (no_value input.ty) 3 (values_given fields) ≡ o → option_map (λ field. Number row field) o ≡ None → Suits input (given_by input fields)
    numbered shape (Some field) found counted at e = cc
    numbered shape None found counted at e =
        let values = are_values input.ty 3 (values_given fields) at in
        let is = shape_given-is input fields shape found in
        let same : given_by input fields ≡ record { name = input.name; shape = shape; cells = filter_map (value_of input.ty) (values_given fields) } =
        ap (λ (o : Option (List ℕ)). record { name = input.name; shape = unwrap_or o []; cells = filter_map (value_of input.ty) (values_given fields) }) found in
        let P : Given → Type 0 = λ g. Suits input g in
        subst P (sym same) (record { named = refl; is_shape = is.0; of_kind = is.1; counted = values.counted ∙ counted; in_range = values.in_range })

    counting : (shape : List ℕ) (t : Bool) → shape_given input fields ≡ Some shape → (length (values_given fields) == cells_of shape) ≡ t
        → (if t then number_fault input.ty row (values_given fields) else Some (Count row)) ≡ None → Suits input (given_by input fields)
    counting shape true found counted e =
        numbered shape (position_from (no_value input.ty) 3 (values_given fields)) found (eqb-true (length (values_given fields)) (cells_of shape) counted) refl e
    counting shape false found counted e = cc

    by : (found : Option (List ℕ)) → shape_given input fields ≡ found → fault_at_shape input row (values_given fields) found ≡ None → Suits input (given_by input fields)
    by None found e = cc
    by (Some shape) found e = counting shape (length (values_given fields) == cells_of shape) found refl e

none_of : (one other : Option InputFault) → option_or one other ≡ None → (one ≡ None) × (other ≡ None)
none_of None other e = (refl, e)
none_of (Some fault) other e = cc

-- where no record has a fault, the first record of an input's name has none
found-suits : (before : List Declared) (input : Declared) (later : List Declared) (earlier all : List Record) (fields : Record)
    → AllByRecursion (λ (d : Declared). same_name input.name d.name ≡ false) before → list_any (is_named input.name) earlier ≡ false
    → first_fault (before ++ input ∷ later) earlier all ≡ None → find (is_named input.name) all ≡ Some fields → Suits input (given_by input fields)
found-suits before input later earlier [] fields others unheard none found = cc
found-suits before input later earlier (record_ ∷ all) fields others unheard none found =
    let both = none_of (record_fault (before ++ input ∷ later) earlier (length earlier + 1) record_) (first_fault (before ++ input ∷ later) (earlier ++ record_ ∷ []) all) none in
    by (is_named input.name record_) refl both.0 found
    (λ heard e. found-suits before input later (earlier ++ record_ ∷ []) all fields others heard both.1 e)
  where
    by : (t : Bool) → is_named input.name record_ ≡ t → record_fault (before ++ input ∷ later) earlier (length earlier + 1) record_ ≡ None
        → (if t then Some record_ else find (is_named input.name) all) ≡ Some fields
        → (list_any (is_named input.name) (earlier ++ record_ ∷ []) ≡ false → find (is_named input.name) all ≡ Some fields → Suits input (given_by input fields))
        → Suits input (given_by input fields)
    by true named faultless e more =
        let same : record_ ≡ fields = cc in
        let form = fault-form (before ++ input ∷ later) earlier (length earlier + 1) record_ input (find_named before input later record_ named others) unheard in
        let P : Record → Type 0 = λ r. Suits input (given_by input r) in
        subst P same (form-suits input (length earlier + 1) record_ (sym form ∙ faultless))
    by false named faultless e more =
        more (list_any-append (is_named input.name) earlier (record_ ∷ [])
        ∙ ap (λ (t : Bool). t || (is_named input.name record_ || false)) unheard
        ∙ ap (λ (t : Bool). t || false) named) e

-- each input in turn
all-suit : (before : List Declared) (all : List Record) (declared : List Declared) (given : List Given) → HaveDistinctNames declared
    → AllByRecursion (λ (l : Declared). AllByRecursion (λ (d : Declared). same_name l.name d.name ≡ false) before) declared
    → first_fault (before ++ declared) [] all ≡ None → given_to all declared ≡ Ok given → AllZip Suits declared given
all-suit before all [] given distinct others none is =
    let nothing : [] ≡ given = cc in let P : List Given → Type 0 = λ g. AllZip Suits [] g in subst P nothing tt
all-suit before all (input ∷ declared) given distinct others none is =
    let head = IsDistinct-head same_name input.name (map (λ d. d.name) declared) distinct in
    let tail = IsDistinct-tail same_name input.name (map (λ d. d.name) declared) distinct in
    let regrouped : before ++ input ∷ declared ≡ (before ++ input ∷ []) ++ declared = sym (append_assoc before (input ∷ []) declared) in
    let none_later : first_fault ((before ++ input ∷ []) ++ declared) [] all ≡ None = ap (λ ds. first_fault ds [] all) (sym regrouped) ∙ none in
    by (find (is_named input.name) all) (given_to all declared) refl refl is
    (λ rest e. all-suit (before ++ input ∷ []) all declared rest tail (others_more before input declared others.1 head) none_later e)
  where
    by : (found : Option Record) (rest : Result (List Given) InputFault) → find (is_named input.name) all ≡ found → given_to all declared ≡ rest
        → with_given input found rest ≡ Ok given
        → ((more : List Given) → given_to all declared ≡ Ok more → AllZip Suits declared more) → AllZip Suits (input ∷ declared) given
    by None rest found gave e more = cc
    by (Some fields) (Err fault) found gave e more = cc
    by (Some fields) (Ok rest) found gave e more =
        let same : given_by input fields ∷ rest ≡ given = cc in
        let P : List Given → Type 0 = λ g. AllZip Suits (input ∷ declared) g in
        subst P same (found-suits before input declared [] all fields others.0 refl none found, more rest gave)

pub given-suits : (declared : List Declared) (all : List Record) (given : List Given) → HaveDistinctNames declared → inputs_of declared all ≡ Ok given
    → AllZip Suits declared given
given-suits declared all given distinct is = by (first_fault declared [] all) refl is
  where
    by : (fault : Option InputFault) → first_fault declared [] all ≡ fault → fault_or fault (given_to all declared) ≡ Ok given → AllZip Suits declared given
    by (Some fault) told e = cc
    by None told e = all-suit [] all declared given distinct (others_start declared) told e

pub given-suits-ok : {A : Type 0} (items : A → List Given) (declared : List Declared) (all : List Record) (result : Result A InputFault)
    → HaveDistinctNames declared → IfOk result (λ given. inputs_of declared all ≡ Ok (items given)) → IfOk result (λ given. AllZip Suits declared (items given))
given-suits-ok {A} items declared all (Ok given) distinct is = given-suits declared all (items given) distinct is
given-suits-ok {A} items declared all (Err fault) distinct is = tt
