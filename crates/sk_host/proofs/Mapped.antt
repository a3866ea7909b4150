-- A Map of scalars from what it is given.
use Rattle.std.proofs.Common.{◌≡◌, ◌⊎◌, inl, inr, ℕ, zero, suc, ◌+◌, ◌<◌, ◌≤◌, Bool, true, false, nat_lt, if◌then◌else◌, List, [], ◌∷◌, ◌++◌, length, map, take, drop, ℤ, pos, Option, Some, None, IsSomeAnd, IsOk, Ok, Err, Result, slice_get, slice_index_or, unwrap_or, arith, ap, sym, refl, subst, ◌∙◌}
use Rattle.std.specs.List.{list_all}
use Rattle.std.proofs.Math.Seq.{take-suc}
use Rattle.std.proofs.lemmas.Bool.{cond-true, eqb-true, lt-ltb}
use Rattle.std.proofs.lemmas.Option.{same_Some, slice_get-get_or}
use Rattle.sk_arguments.specs.Arguments.{operand_kinds, reads_kind, uniform_types}
use Rattle.sk_base.specs.Arithmetic.{InRange}
use Rattle.sk_base.specs.ArithmeticLaws.{wrapped-in_range}
use Rattle.sk_base.specs.Shape.{IsShape, cells_of}
use Rattle.sk_base.specs.declared.number.Trap.{Trap}
use Rattle.sk_base.specs.declared.number.Ty.{Ty}
use Rattle.sk_base.specs.declared.number.Ty.TheVariants.{Int}
use Rattle.sk_formula.specs.Elements.{TrapAt, at_element, mapped, with_last}
use Rattle.sk_host.specs.Maps.{AreOperands, MayMap, params_of, value_for}
use Rattle.sk_host.specs.Passed.{call_source, cell_held, converted_by, numbered_cell, sizes_held}
use Rattle.sk_host.specs.Stores.{Kept, kept_at}
use Rattle.sk_isa.specs.Soundness.{is_scalar}
use Rattle.sk_isa.specs.declared.object.Object.{Object}
use Rattle.sk_isa.specs.declared.object.Plan.{Plan}
use Rattle.sk_kernel.specs.Instances.{function_meaning, instance_meaning}
use Rattle.sk_kernel.specs.Kernels.{AgreeRun, AreOfTypes, Meaning, Source, SuitKinds, Suits, SuitsOver, SuitsRun, operand_type, run_value}
use Rattle.sk_arguments.specs.Arguments.{Given}
use Rattle.sk_main_laws.proofs.Worlds.{cell_fits}
use Rattle.sk_meaning.specs.Evaluation.{kind_type}
use Rattle.sk_tree.specs.InstanceSettings.{default_settings}
use Rattle.sk_tree.specs.Skeletons.{is_over_pairs}
use Rattle.sk_tree.specs.declared.tree.ParamKind.{ParamKind}
use Rattle.sk_tree.specs.declared.tree.ParamKind.TheVariants.{Scalar, Index, Proxy, Region}
use Rattle.sk_vm.proofs.Arguments.{no_index}

none_plus : (n : ℕ) → 0 + n ≡ n
none_plus n = omega arith

-- cells that are the values
ok_values : (value : ℕ → Result ℤ Trap) (cells : List ℤ) (n : ℕ) → n ≤ length cells
    → ((k : ℕ) → k < length cells → value k ≡ Ok (slice_index_or cells k (pos 0)))
    → mapped value 0 n ≡ Ok (take n cells)
ok_values value cells zero upto each = refl
ok_values value cells (suc n) upto each =
    ap (λ (r : Result (List ℤ) TrapAt). with_last r (at_element (0 + n) (value (0 + n)))) (ok_values value cells n (omega arith) each)
    ∙ ap (λ (m : ℕ). with_last (Ok (take n cells)) (at_element m (value m))) (none_plus n)
    ∙ ap (λ (r : Result ℤ Trap). with_last (Ok (take n cells)) (at_element n r)) (each n (omega arith))
    ∙ ap (λ (xs : List ℤ). Ok xs) (sym (take-suc cells n (pos 0) (omega arith)))

all_ok : (value : ℕ → Result ℤ Trap) (n : ℕ) → ((k : ℕ) → k < n → IsOk (value k)) → (xs : List ℤ) × (mapped value 0 n ≡ Ok xs)
all_ok value zero each = ([], refl)
all_ok value (suc n) each = by (value n) refl (each n (omega arith)) (all_ok value n (λ k less. each k (omega arith)))
  where
    by : (r : Result ℤ Trap) → value n ≡ r → IsOk r → (xs : List ℤ) × (mapped value 0 n ≡ Ok xs) → (xs : List ℤ) × (mapped value 0 (suc n) ≡ Ok xs)
    by (Ok x) is ok before = (
      before.0 ++ x ∷ [],
      ap (λ (r : Result (List ℤ) TrapAt). with_last r (at_element (0 + n) (value (0 + n)))) before.1
          ∙ ap (λ (m : ℕ). with_last (Ok before.0) (at_element m (value m))) (none_plus n)
          ∙ ap (λ (r : Result ℤ Trap). with_last (Ok before.0) (at_element n r)) is,
    )
    by (Err trap) is ok before = cc

trap_values : (value : ℕ → Result ℤ Trap) (offset : ℕ) (trap : Trap) (n : ℕ) → offset < n → value offset ≡ Err trap → ((k : ℕ) → k < offset → IsOk (value k))
    → mapped value 0 n ≡ Err (record { trap = trap; element = offset })
trap_values value offset trap zero less is before = absurd (omega arith)
trap_values value offset trap (suc n) less is before =
    pick (below_or_same offset n less) (λ under. trap_values value offset trap n under is before)
  where
    below_or_same : (a b : ℕ) → a < suc b → (a < b) ⊎ (a ≡ b)
    below_or_same a b h = grind arith

    pick : (offset < n) ⊎ (offset ≡ n) → (offset < n → mapped value 0 n ≡ Err (record { trap = trap; element = offset }))
        → mapped value 0 (suc n) ≡ Err (record { trap = trap; element = offset })
    pick (inl under) later = ap (λ (r : Result (List ℤ) TrapAt). with_last r (at_element (0 + n) (value (0 + n)))) (later under)
    pick (inr same) later =
        let ok = all_ok value n (λ k small. before k (subst (λ (m : ℕ). k < m) (sym same) small)) in
        ap (λ (r : Result (List ℤ) TrapAt). with_last r (at_element (0 + n) (value (0 + n)))) ok.1
        ∙ ap (λ (m : ℕ). with_last (Ok ok.0) (at_element m (value m))) (none_plus n ∙ sym same)
        ∙ ap (λ (r : Result ℤ Trap). with_last (Ok ok.0) (at_element offset r)) is

take_all : (xs : List ℤ) (n : ℕ) → length xs ≡ n → take n xs ≡ xs
take_all [] zero is = refl
take_all [] (suc n) is = refl
take_all (x ∷ xs) zero is = absurd (omega arith)
take_all (x ∷ xs) (suc n) is = ap (λ (ys : List ℤ). x ∷ ys) (take_all xs n (omega arith))

-- values at single places
single : (meaning : Meaning) (given : Given) (k : ℕ) → meaning.pairs ≡ false → run_value meaning given 0 0 k ≡ value_for meaning given k
single meaning given k is =
    ap (λ (b : Bool). meaning.value given (if b then 0 else 0 + k) (if b then 0 + k else 0)) is
    ∙ ap (λ (n : ℕ). meaning.value given n 0) (none_plus k)

pub map_ok : (meaning : Meaning) (given : Given) (cells : List ℤ) (count : ℕ) → meaning.pairs ≡ false → length cells ≡ count
    → ((k : ℕ) → k < length cells → run_value meaning given 0 0 k ≡ Ok (slice_index_or cells k (pos 0)))
    → mapped (value_for meaning given) 0 count ≡ Ok cells
map_ok meaning given cells count single_is long each =
    ok_values (value_for meaning given) cells count (omega arith) (λ k less. sym (single meaning given k single_is) ∙ each k less)
    ∙ ap (λ (xs : List ℤ). Ok xs) (take_all cells count long)

pub map_traps : (meaning : Meaning) (given : Given) (offset : ℕ) (trap : Trap) (count : ℕ) → meaning.pairs ≡ false → offset < count
    → run_value meaning given 0 0 offset ≡ Err trap → ((k : ℕ) → k < offset → IsOk (run_value meaning given 0 0 k))
    → mapped (value_for meaning given) 0 count ≡ Err (record { trap = trap; element = offset })
map_traps meaning given offset trap count single_is less is before =
    trap_values (value_for meaning given) offset trap count less (sym (single meaning given offset single_is) ∙ is)
    (λ k small. subst (λ (r : Result ℤ Trap). IsOk r) (single meaning given k single_is) (before k small))

-- what a Map is given suits it
module _ (store : List (Option Kept)) (over : List ℕ) where
  abbrev sizes_at : ℕ → List ℕ
  sizes_at number = sizes_held over (kept_at store number)

  suit_kinds : (kinds : List ParamKind) (numbers : List ℕ) (place : ℕ) → IsShape over → place < cells_of over → AreOperands over kinds (map (kept_at store) numbers)
      → SuitKinds kinds (map sizes_at numbers) (λ operand. place)
  suit_kinds [] [] place shape less are = tt
  suit_kinds [] (number ∷ numbers) place shape less are = absurd are
  suit_kinds (Scalar ty ∷ kinds) [] place shape less are = absurd are
  suit_kinds (Scalar ty ∷ kinds) (number ∷ numbers) place shape less are =
      by (kept_at store number) (λ later. suit_kinds kinds numbers place shape less later) are
    where
      by : (found : Option Kept) → (AreOperands over kinds (map (kept_at store) numbers) → SuitKinds kinds (map sizes_at numbers) (λ operand. place))
          → AreOperands over (Scalar ty ∷ kinds) (found ∷ map (kept_at store) numbers)
          → SuitKinds (Scalar ty ∷ kinds) (sizes_held over found ∷ map sizes_at numbers) (λ operand. place)
      by None later are = absurd are
      by (Some kept) later are = (
        (subst IsShape (sym are.0) shape, subst (λ (sizes : List ℕ). place < cells_of sizes) (sym are.0) less),
        later are.3,
      )
  suit_kinds (Index dimension ∷ kinds) numbers place shape less are = absurd are
  suit_kinds (Proxy dimension ty ∷ kinds) numbers place shape less are = absurd are
  suit_kinds (Region dimension ty ∷ kinds) numbers place shape less are = absurd are

  -- the cell of an operand that is read, with its type
  pub record ReadAt (kinds : List ParamKind) (numbers : List ℕ) (operand index : ℕ) : Type 0 where
    pub ty : Ty
    pub kind_is : slice_get kinds operand ≡ Some (Scalar ty)
    pub number : ℕ
    pub kept : Kept
    pub number_is : slice_get numbers operand ≡ Some number
    pub kept_is : kept_at store number ≡ Some kept
    pub held_is : cell_held (Some kept) index ≡ Some (slice_index_or kept.cells index (pos 0))
    pub fits : InRange ty (slice_index_or kept.cells index (pos 0))

  pub read_at : (kinds : List ParamKind) (numbers : List ℕ) (operand index : ℕ) (kind : ParamKind) → AreOperands over kinds (map (kept_at store) numbers)
      → slice_get kinds operand ≡ Some kind → index < cells_of over → ReadAt kinds numbers operand index
  read_at [] numbers operand index kind are is less = cc
  read_at (Scalar ty ∷ kinds) [] operand index kind are is less = absurd are
  read_at (Scalar ty ∷ kinds) (number ∷ numbers) zero index kind are is less = by (kept_at store number) refl are
    where
      by : (found : Option Kept) → kept_at store number ≡ found → AreOperands over (Scalar ty ∷ kinds) (found ∷ map (kept_at store) numbers)
          → ReadAt (Scalar ty ∷ kinds) (number ∷ numbers) zero index
      by None e are = absurd are
      by (Some kept) e are =
          let within : index < cells_of kept.sizes = subst (λ (sizes : List ℕ). index < cells_of sizes) (sym are.0) less in
          let inside : index < length kept.cells = subst (λ (n : ℕ). index < n) (sym are.1) within in
          record {
            ty = ty;
            kind_is = refl;
            number = number;
            kept = kept;
            number_is = refl;
            kept_is = e;
            held_is = cond-true (nat_lt index (cells_of kept.sizes)) (slice_get kept.cells index) None (lt-ltb index (cells_of kept.sizes) within)
                ∙ slice_get-get_or kept.cells index (pos 0) inside;
            fits = cell_fits ty kept.cells index are.2;
          }
  read_at (Scalar ty ∷ kinds) (number ∷ numbers) (suc operand) index kind are is less =
      by (kept_at store number) (λ later. read_at kinds numbers operand index kind later is less) are
    where
      by : (found : Option Kept) → (AreOperands over kinds (map (kept_at store) numbers) → ReadAt kinds numbers operand index)
          → AreOperands over (Scalar ty ∷ kinds) (found ∷ map (kept_at store) numbers) → ReadAt (Scalar ty ∷ kinds) (number ∷ numbers) (suc operand) index
      by None later are = absurd are
      by (Some kept) later are =
          let r = later are.3 in
          record {
            ty = r.ty;
            kind_is = r.kind_is;
            number = r.number;
            kept = r.kept;
            number_is = r.number_is;
            kept_is = r.kept_is;
            held_is = r.held_is;
            fits = r.fits;
          }
  read_at (Index dimension ∷ kinds) numbers operand index kind are is less = absurd are
  read_at (Proxy dimension ty ∷ kinds) numbers operand index kind are is less = absurd are
  read_at (Region dimension ty ∷ kinds) numbers operand index kind are is less = absurd are

-- uniform arguments of their types
pub uniforms_typed : (elements : ℕ) (params : List ParamKind) (values : List ℤ) → list_all is_scalar params ≡ true → length values ≡ length (drop elements params)
    → AreOfTypes (uniform_types elements params) (converted_by (drop elements params) values)
uniforms_typed zero [] values scalars count = tt
uniforms_typed (suc elements) [] values scalars count = tt
uniforms_typed zero (Scalar ty ∷ kinds) [] scalars count = absurd (omega arith)
uniforms_typed zero (Scalar ty ∷ kinds) (value ∷ values) scalars count = (wrapped-in_range ty value, uniforms_typed zero kinds values scalars (omega arith))
uniforms_typed (suc elements) (Scalar ty ∷ kinds) values scalars count = uniforms_typed elements kinds values scalars count
uniforms_typed elements (Index dimension ∷ kinds) values scalars count = cc
uniforms_typed elements (Proxy dimension ty ∷ kinds) values scalars count = cc
uniforms_typed elements (Region dimension ty ∷ kinds) values scalars count = cc

-- a Map that may be computed
module _ (object : Object) (plan : Plan) (store : List (Option Kept)) (operands : List ℕ) (kinds : List ParamKind) (uniforms : List ℤ) (over : List ℕ)
    (may : MayMap object plan store operands kinds uniforms over) where
  abbrev source : Source
  source = call_source store operands kinds uniforms over

  abbrev params : List ParamKind
  params = params_of object plan

  abbrev own_kinds : List ParamKind
  own_kinds = operand_kinds plan.elements params

  abbrev meaning_by : Bool → Meaning
  meaning_by pairs =
      let whole : Meaning = instance_meaning object plan default_settings in
      record (function_meaning object (slice_index_or plan.functions 0 0) (record { elements = plan.elements; pairs = pairs; settings = default_settings })) {
        operator = whole.operator;
        join = whole.join;
        safe = whole.safe;
      }

  -- what is read at a place
  read_here : (place operand index : ℕ) → place < cells_of over → (meaning_by false).reads source.shapes place 0 operand index ≡ true → ReadAt store over own_kinds operands operand index
  read_here place operand index less reads = by (slice_get own_kinds operand) refl reads
    where
      at_scalar : (kind : ParamKind) → slice_get own_kinds operand ≡ Some kind → ReadAt store over own_kinds operands operand place
      at_scalar kind is = read_at store over own_kinds operands operand place kind may.operands_are is less

      same_kind : (kind : ParamKind) (ty : Ty) → slice_get own_kinds operand ≡ Some kind → slice_get own_kinds operand ≡ Some (Scalar ty) → kind ≡ Scalar ty
      same_kind kind ty is other = same_Some kind (Scalar ty) (sym is ∙ other)

      at_place : (kind : ParamKind) (ty : Ty) → kind ≡ Scalar ty
          → reads_kind (record { elements = plan.elements; pairs = false; settings = default_settings }) (unwrap_or (slice_get source.shapes operand) []) (record { place = place; pair = 0 }) operand kind index ≡ true
          → index ≡ place
      at_place kind ty is e =
          eqb-true index place (subst (λ (k : ParamKind).
          reads_kind (record { elements = plan.elements; pairs = false; settings = default_settings }) (unwrap_or (slice_get source.shapes operand) []) (record { place = place; pair = 0 }) operand k index ≡ true) is e)

      by : (found : Option ParamKind) → slice_get own_kinds operand ≡ found
          → elim found [
            | Some kind ↦ reads_kind (record { elements = plan.elements; pairs = false; settings = default_settings }) (unwrap_or (slice_get source.shapes operand) []) (record { place = place; pair = 0 }) operand kind index
            | None ↦ false
          ] ≡ true → ReadAt store over own_kinds operands operand index
      by None is e = cc
      by (Some kind) is e =
          let r = at_scalar kind is in
          subst (λ (n : ℕ). ReadAt store over own_kinds operands operand n) (sym (at_place kind r.ty (same_kind kind r.ty is r.kind_is) e)) r

  held_is : (operand index : ℕ) (r : ReadAt store over own_kinds operands operand index) → source.held operand index ≡ Some (slice_index_or r.kept.cells index (pos 0))
  held_is operand index r =
      ap (λ (found : Option ℕ). numbered_cell store found index) r.number_is ∙ ap (λ (found : Option Kept). cell_held found index) r.kept_is ∙ r.held_is

  suits_at : (place : ℕ) → place < cells_of over → Suits (meaning_by false) source place 0
  suits_at place less = record {
    operands = suit_kinds store over own_kinds operands place may.shape less may.operands_are;
    uniforms = subst (λ (ks : List ParamKind). AreOfTypes (uniform_types plan.elements params) (converted_by ks uniforms)) (sym may.kinds_are)
        (uniforms_typed plan.elements params uniforms may.scalars (may.count ∙ ap length may.kinds_are));
    over = subst (λ (index : Option ℕ). SuitsOver index (Some over) place) (sym (no_index params may.scalars)) tt;
    held = λ operand index reads. held_at operand index (read_here place operand index less reads);
  }
    where
      held_at : (operand index : ℕ) → ReadAt store over own_kinds operands operand index
          → IsSomeAnd (source.held operand index) (InRange (operand_type own_kinds operand))
      held_at operand index r =
          subst (λ (found : Option ℤ). IsSomeAnd found (InRange (operand_type own_kinds operand))) (sym (held_is operand index r))
          (subst (λ (found : Option ParamKind). InRange (elim found [ Some kind ↦ kind_type kind | None ↦ Int ]) (slice_index_or r.kept.cells index (pos 0))) (sym r.kind_is) r.fits)

  pairs_not : is_over_pairs plan.skeleton ≡ false
  pairs_not = ap is_over_pairs may.is_map

  pub suits_run : SuitsRun (instance_meaning object plan default_settings) source 0 0 (cells_of over)
  suits_run = subst (λ (b : Bool). SuitsRun (meaning_by b) source 0 0 (cells_of over)) (sym pairs_not)
      (λ behind less. suits_at (0 + behind) (omega arith))

  pub single_places : (instance_meaning object plan default_settings).pairs ≡ false
  single_places = pairs_not

  -- cells that are those of the operands
  pub agrees_run : (cells : ℕ → ℕ → ℤ)
      → ((operand index number : ℕ) (kept : Kept) → slice_get operands operand ≡ Some number → kept_at store number ≡ Some kept → cells operand index ≡ slice_index_or kept.cells index (pos 0))
      → AgreeRun (instance_meaning object plan default_settings) source 0 0 (cells_of over) cells
  agrees_run cells same =
      subst (λ (b : Bool). AgreeRun (meaning_by b) source 0 0 (cells_of over) cells) (sym pairs_not)
      (λ behind less operand index reads.
      let r = read_here (0 + behind) operand index (omega arith) reads in
      held_is operand index r ∙ ap (λ (x : ℤ). Some x) (sym (same operand index r.number r.kept r.number_is r.kept_is)))
