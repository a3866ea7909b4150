-- The fields of a record by their places, and the values read one after another.
use Rattle.std.proofs.Common.{◌≡◌, ℕ, zero, suc, ◌+◌, ◌-◌, ◌<◌, ◌++◌, ◌∷◌, [], List, Bool, true, length, drop, get_or, refl, sym, ap, ◌∙◌, arith, add-one, append_assoc}
use Rattle.std.proofs.Math.Seq.{drop-cons}
use Rattle.std.proofs.lemmas.List.{length-drop}
use Rattle.std.proofs.lemmas.Bool.{eq-eqb}
use Rattle.std.specs.Prelude.{ℤ, Option, Some, None, is_none, ◌==◌, cond, if◌then◌else◌}
use Rattle.std.specs.List.{cons_option, filter_map, position_from}
use Rattle.csv.specs.Records.{field_at}
use Rattle.sk_base.specs.Shape.{cells_of}
use Rattle.sk_base.specs.declared.number.Ty.{Ty}
use Rattle.sk_tree.specs.declared.declared.Declared.{Declared}
use Rattle.sk_data.specs.Fields.{fields_at}
use Rattle.sk_data.specs.Sizes.{shape_in}
use Rattle.sk_data.specs.Records.{Record, value_of, shape_given, values_given, number_fault, fault_at_shape, form_fault}
use Rattle.sk_data.specs.declared.fault.InputFault.TheVariants.{Count}

pub field_at-get : (fields : Record) (at : ℕ) → at < length fields → field_at fields at ≡ Some (get_or fields at [])
unfolding field_at
field_at-get [] at below = absurd (omega arith)
field_at-get (field ∷ fields) zero below = refl
field_at-get (field ∷ fields) (suc at) below = field_at-get fields at (omega arith)

-- the shape of a record with a second field, and of one without
pub shape_second : (input : Declared) (fields : Record) (text : List ℕ) → Some text ≡ field_at fields 1
    → shape_in input.kind text ≡ shape_given input fields
unfolding field_at
shape_second input [] text found = cc
shape_second input (name ∷ []) text found = cc
shape_second input (name ∷ field ∷ fields) text found = let same : text ≡ field = cc in ap (shape_in input.kind) same

pub no_second : (input : Declared) (fields : Record) → None ≡ field_at fields 1 → None ≡ shape_given input fields
unfolding field_at
no_second input [] found = refl
no_second input (name ∷ []) found = refl
no_second input (name ∷ field ∷ fields) found = cc

pub form_values : (input : Declared) (row : ℕ) (fields : Record) (shape : List ℕ) → Some shape ≡ shape_given input fields
    → length fields ≡ cells_of shape + 2 → form_fault input row fields ≡ number_fault input.ty row (values_given fields)
form_values input row fields shape found same =
    let left : length (values_given fields) ≡ length fields - 2 = length-drop 2 fields in
    let counted : length (values_given fields) ≡ cells_of shape = omega (arith, left, same) in
    let tested : (length (values_given fields) == cells_of shape) ≡ true = eq-eqb (length (values_given fields)) (cells_of shape) counted in
    ap (fault_at_shape input row (values_given fields)) (sym found)
    ∙ ap (λ (t : Bool). if t then number_fault input.ty row (values_given fields) else Some (Count row)) tested

-- the values that are no numbers of the type
abbrev pub no_value : Ty → List ℕ → Bool
no_value ty value = is_none (value_of ty value)

-- the fields before a place are read
pub record ValuesRead (ty : Ty) (fields : Record) (at : ℕ) (cells : List ℤ) : Type 0 where
  pub read : filter_map (value_of ty) (values_given fields) ≡ cells ++ filter_map (value_of ty) (drop at fields)
  pub faultless : position_from (no_value ty) 3 (values_given fields) ≡ position_from (no_value ty) (at + 1) (drop at fields)

-- the text of the next value that is read
pub record IsAtValue (fields : Record) (at : ℕ) (text : List ℕ) : Type 0 where
  pub left : at < length fields → fields_at text ≡ drop at fields

pub value_here : (ty : Ty) (fields : Record) (at : ℕ) (text : List ℕ) (told : Option ℤ) → at < length fields → IsAtValue fields at text
    → told ≡ value_of ty (get_or (fields_at text) 0 []) → told ≡ value_of ty (get_or fields at [])
value_here ty fields at text told below here is =
    is ∙ ap (λ (rest : Record). value_of ty (get_or rest 0 [])) (here.left below ∙ drop-cons fields at [] below)

pub value_behind : (fields : Record) (at : ℕ) (text behind : List ℕ) → at < length fields → IsAtValue fields at text
    → (1 < length (fields_at text) → fields_at behind ≡ drop 1 (fields_at text)) → IsAtValue fields (at + 1) behind
value_behind fields at text behind below here next = record {
  left = λ more.
      let same = here.left below in
      let counted : length (fields_at text) ≡ length fields - at = ap length same ∙ length-drop at fields in
      let some : 1 < length (fields_at text) = omega (arith, counted, more) in
      next some ∙ ap (drop 1) (same ∙ drop-cons fields at [] below) ∙ ap (λ n. drop n fields) (sym (add-one at));
}

-- a value more
pub values_more : (ty : Ty) (fields : Record) (at : ℕ) (cells more : List ℤ) (value : ℤ) → at < length fields → Some value ≡ value_of ty (get_or fields at [])
    → more ≡ cells ++ value ∷ [] → ValuesRead ty fields at cells → ValuesRead ty fields (at + 1) more
values_more ty fields at cells more value below is pushed read =
    let here : drop at fields ≡ get_or fields at [] ∷ drop (at + 1) fields = rw (add-one at) (drop-cons fields at [] below) in
    record {
      read =
          let next : filter_map (value_of ty) (drop at fields) ≡ value ∷ filter_map (value_of ty) (drop (at + 1) fields) =
          ap (filter_map (value_of ty)) here ∙ ap (λ o. cons_option o (filter_map (value_of ty) (drop (at + 1) fields))) (sym is) in
          read.read ∙ ap (λ xs. cells ++ xs) next ∙ sym (append_assoc cells (value ∷ []) (filter_map (value_of ty) (drop (at + 1) fields)))
          ∙ ap (λ (xs : List ℤ). xs ++ filter_map (value_of ty) (drop (at + 1) fields)) (sym pushed);
      faultless =
          read.faultless ∙ ap (position_from (no_value ty) (at + 1)) here
          ∙ ap (λ o. cond (is_none o) (Some (at + 1)) (position_from (no_value ty) (at + 1 + 1) (drop (at + 1) fields))) (sym is);
    }
