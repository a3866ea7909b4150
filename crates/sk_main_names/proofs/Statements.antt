-- What the code of single statements of main names is there.
use Rattle.std.proofs.Common.{◌≡◌, ℕ, ◌+◌, List, [], ◌∷◌, ◌++◌, length, map, take, drop, Option, Some, None, pos, slice_get, refl, ap, ◌∙◌}
use Rattle.std.proofs.lemmas.Bool.{and_from}
use Rattle.std.specs.Prelude.{true, false, Bool, ◌&&◌, ◌||◌, ◌==◌}
use Rattle.sk_base.specs.declared.number.Ty.{Ty}
use Rattle.sk_isa.specs.Soundness.{is_there}
use Rattle.sk_isa.specs.declared.code.Instr.{Instr}
use Rattle.sk_isa.specs.declared.code.Instr.TheVariants as instr
use Rattle.sk_isa.specs.declared.object.Object.{Object}
use Rattle.sk_main_code.specs.MainSoundness.{is_declared, is_so, main_scalar, names_in_main}
use Rattle.sk_main_fits.specs.Fits.{all_fit, fits, is_number, is_whole}
use Rattle.sk_main_fits.specs.StatementFits.{Judged, behind_line, item_fits, items_fit, judge_step}
use Rattle.sk_main_names.proofs.Expressions.{HasCalls, expression_named, expressions_named, places_named, wanted_named}
use Rattle.sk_main_names.proofs.Scopes.{InScope, IsFound, Names, declared_passes, name_found, names_append, one_named}
use Rattle.sk_main_names.proofs.StatementNodes.{IsNamed, counted_naming, none_named, pair_named}
use Rattle.sk_main_names.proofs.Tests.{fit_drop, fit_take, number_itself, poked_parts, same_number, type_itself}
use Rattle.sk_main_scheme.specs.MainScheme.{Emitting, Named, Number, Whole, Called, Standing, all_emitted, around_at, container_named, item_emitted, main_piece, make_code, poke_code, store_code, taking, type_in}
use Rattle.sk_names.specs.Bindings.{bound_to}
use Rattle.sk_plain.proofs.Lists.{slice_get-front, slice_get-seam}
use Rattle.sk_plain.proofs.Truths.{and_left, and_right}
use Rattle.sk_scheme.specs.Pieces.{parts_depth, places_code, then_code, wanted_code}
use Rattle.sk_scheme.specs.Scheme.{Known}
use Rattle.sk_tree.specs.Parameters.{same_type}
use Rattle.sk_tree.specs.declared.declared.Declared.{Declared}
use Rattle.sk_tree.specs.declared.tree.Expr.{Expr}
use Rattle.sk_tree.specs.declared.tree.Instance as instances
use Rattle.sk_tree.specs.declared.tree.Item.{Item}
use Rattle.sk_tree.specs.declared.tree.Item.TheVariants.{Value, Text, End}
use Rattle.sk_tree.specs.declared.tree.What.TheOpen as what

module _ (object : Object) (functions : List (List ℕ × Known)) (calls : HasCalls object functions) where
  value_named : (e : Expr) (st : Standing) → InScope object st.scope → fits e (around_at functions st) ≡ true → (at : ℕ) → Names object ((main_piece e).code (around_at functions st) at)
  value_named e st s fit at = (expression_named object functions calls e).named st.scope s fit at

  converted_named : (ty : Ty) (e : Expr) (st : Standing) → InScope object st.scope → fits e (around_at functions st) ≡ true → (at : ℕ)
      → Names object (wanted_code ty (main_piece e) (around_at functions st) at)
  converted_named ty e st s fit at = wanted_named object functions ty (main_piece e) (fits e) (expression_named object functions calls e) st.scope s fit at

  sizes_named : (es : List Expr) (st : Standing) → InScope object st.scope → all_fit (map fits es) (around_at functions st) ≡ true → (at : ℕ)
      → Names object (places_code (map main_piece es) (around_at functions st) at)
  sizes_named es st s fit at = places_named object functions (map main_piece es) (map fits es) (expressions_named object functions calls es) st.scope s fit at

  -- ---- scalars

  stored_named : (n : Option Named) → IsFound object n → Names object (store_code n)
  stored_named (Some (Number slot ty)) there = one_named object (instr.Store slot) (ap is_there there)
  stored_named (Some (Whole container ty)) there = refl
  stored_named (Some (Called made)) there = refl
  stored_named None there = refl

  pub declare_named : (ty : Ty) (name : List ℕ) (e : Expr) (line : ℕ) → IsNamed object functions (judge_step (what.Declare ty name e) line)
  declare_named ty name e line = record {
    before = λ st held. record {
      slots = λ slot other is. held.slots slot other (slice_get-front st.slots (ty ∷ []) slot other is);
      containers = held.containers;
      instances = held.instances;
    };
    naming = λ st fit s held.
        let slot : ℕ = length st.slots in
        let there : main_scalar object slot ≡ Some ty = held.slots slot ty (slice_get-seam st.slots ty []) in
        let code : List Instr = wanted_code ty (main_piece e) (around_at functions st) (st.at + 1) in
        (names_append object code (instr.Store slot ∷ []) (converted_named ty e st s fit (st.at + 1)) (one_named object (instr.Store slot) (ap is_there there)), (there, s));
  }

  abbrev assign_emits : List ℕ → Expr → Emitting
  assign_emits name e = taking (λ around at. wanted_code (type_in around name) (main_piece e) around at) (main_piece e).depth (λ around standing. store_code (bound_to name around.scope))

  pub assign_named : (name : List ℕ) (e : Expr) (line : ℕ) → IsNamed object functions (judge_step (what.Assign name e) line)
  assign_named name e line = record {
    before = λ st held. held;
    naming = counted_naming object functions line (assign_emits name e) (λ fs st. is_number (bound_to name st.scope) && fits e (around_at fs st))
        (λ st fit s held.
        let a = around_at functions st in
        let ty : Ty = type_in a name in
        let fine = and_right (is_number (bound_to name st.scope)) (fits e a) fit in (
          names_append object (wanted_code ty (main_piece e) a st.at) (store_code (bound_to name st.scope)) (converted_named ty e st s fine st.at)
              (stored_named (bound_to name st.scope) (name_found object name st.scope s)),
          s,
        ));
  }

  -- ---- containers

  -- a name that is a container's is that of a vector
  whole_passes : (n : Option Named) → IsFound object n → is_whole n ≡ true → (test : Declared → Bool) → ((declared : Declared) → declared.kind ≡ 1 → test declared ≡ true)
      → is_declared object (elim n as (λ x. ℕ) [ Some named ↦ elim named as (λ x. ℕ) [ Whole container ty ↦ container | Number slot ty ↦ 0 | Called made ↦ 0 ] | None ↦ 0 ]) test ≡ true
  whole_passes (Some (Whole container ty)) there e test passes = declared_passes object container test there.declared there.there (passes there.declared there.kind)
  whole_passes (Some (Number slot ty)) there e test passes = let no : ⊥ = cc in absurd no
  whole_passes (Some (Called made)) there e test passes = let no : ⊥ = cc in absurd no
  whole_passes None there e test passes = let no : ⊥ = cc in absurd no

  abbrev poke_emits : List ℕ → List Expr → Expr → Emitting
  poke_emits name places value = taking (poke_code name places value) (parts_depth (map main_piece (places ++ value ∷ []))) (λ around standing. instr.Poke (container_named around name) (length places) ∷ [])

  pub poke_named : (name : List ℕ) (places : List Expr) (value : Expr) (line : ℕ) → IsNamed object functions (judge_step (what.Poke name places value) line)
  poke_named name places value line = record {
    before = λ st held. held;
    naming = counted_naming object functions line (poke_emits name places value)
        (λ fs st. is_whole (bound_to name st.scope) && (length places == 1) && all_fit (map fits places) (around_at fs st) && fits value (around_at fs st))
        (λ st fit s held.
        let a = around_at functions st in
        let p = poked_parts (is_whole (bound_to name st.scope)) (length places) (all_fit (map fits places) a) (fits value a) fit in
        let ty : Ty = type_in a name in
        let first : List Instr = places_code (map main_piece places) a st.at in
        let mid : ℕ = st.at + length first in
        let i : Instr = instr.Poke (container_named a name) (length places) in
        let passes = whole_passes (bound_to name st.scope) (name_found object name st.scope s) p.whole (λ declared. declared.kind == length places)
        (λ declared kind. ap (λ n. n == length places) kind ∙ ap (λ n. 1 == n) p.one) in (
          names_append object (first ++ wanted_code ty (main_piece value) a mid) (i ∷ [])
              (names_append object first (wanted_code ty (main_piece value) a mid) (sizes_named places st s p.places st.at) (converted_named ty value st s p.value mid))
              (one_named object i passes),
          s,
        ));
  }

  -- sizes and the fill value
  filled_named : (ty : Ty) (front back : List Expr) (st : Standing) → InScope object st.scope → all_fit (map fits front) (around_at functions st) ≡ true
      → all_fit (map fits back) (around_at functions st) ≡ true → (at : ℕ)
      → Names object (elim back as (λ x. List Instr) [
        | [] ↦ places_code (map main_piece front) (around_at functions st) at ++ instr.Push (pos 0) ∷ []
        | fill ∷ more ↦ then_code (places_code (map main_piece front) (around_at functions st) at) (wanted_code ty (main_piece fill) (around_at functions st)) at
      ])
  filled_named ty front [] st s fit_front fit_back at =
      names_append object (places_code (map main_piece front) (around_at functions st) at) (instr.Push (pos 0) ∷ []) (sizes_named front st s fit_front at) refl
  filled_named ty front (fill ∷ more) st s fit_front fit_back at =
      let a = around_at functions st in
      let first : List Instr = places_code (map main_piece front) a at in
      let mid : ℕ = at + length first in
      names_append object first (wanted_code ty (main_piece fill) a mid) (sizes_named front st s fit_front at)
      (converted_named ty fill st s (and_left (fits fill a) (all_fit (map fits more) a) fit_back) mid)

  pub make_named : (kind : ℕ) (ty : Ty) (name : List ℕ) (arguments : List Expr) (line : ℕ) → IsNamed object functions (judge_step (what.Make kind ty name arguments) line)
  make_named kind ty name arguments line = record {
    before = λ st held. record {
      slots = held.slots;
      containers = λ number declared is. held.containers number declared (slice_get-front st.containers (record { name = name; kind = kind; ty = ty } ∷ []) number declared is);
      instances = held.instances;
    };
    naming = λ st fit s held.
        let a = around_at functions st in
        let number : ℕ = length st.containers in
        let declared : Declared = record { name = name; kind = kind; ty = ty } in
        let counts : Bool = length arguments == 1 || length arguments == 2 in
        let two = and_left ((kind == 1) && counts) (all_fit (map fits arguments) a) fit in
        let fine = and_right ((kind == 1) && counts) (all_fit (map fits arguments) a) fit in
        let there : slice_get object.containers number ≡ Some declared = held.containers number declared (slice_get-seam st.containers declared []) in
        let code : List Instr = make_code ty kind arguments a (st.at + 1) in
        let i : Instr = instr.Make number kind ty kind in
        let so : is_so kind ty declared ≡ true = and_from (kind == kind) (same_type ty ty) (number_itself kind) (type_itself ty) in
        let named : names_in_main object i ≡ true =
        and_from (is_declared object number (is_so kind ty)) (kind == kind) (declared_passes object number (is_so kind ty) declared there so) (number_itself kind) in (
          names_append object code (i ∷ []) (filled_named ty (take kind arguments) (drop kind arguments) st s (fit_take a kind arguments fine) (fit_drop a kind arguments fine) (st.at + 1))
              (one_named object i named),
          (record { declared = declared; there = there; kind = same_number kind 1 (and_left (kind == 1) counts two); ty_is = refl }, s),
        );
  }

  pub take_named : (kind : ℕ) (ty : Ty) (name input : List ℕ) (line : ℕ) → IsNamed object functions (judge_step (what.Take kind ty name input) line)
  take_named kind ty name input line = record {
    before = λ st held. record {
      slots = held.slots;
      containers = λ number declared is. held.containers number declared (slice_get-front st.containers (record { name = name; kind = kind; ty = ty } ∷ []) number declared is);
      instances = held.instances;
    };
    naming = λ st fit s held. let no : ⊥ = cc in absurd no;
  }

  -- ---- instances, what is printed, and the end of the run

  pub instance_named : (instance : instances.Instance) (line : ℕ) → IsNamed object functions (judge_step (what.Instance instance) line)
  instance_named instance line = record {
    before = λ st held. record {
      slots = held.slots;
      containers = held.containers;
      instances = λ number other is. held.instances number other (slice_get-front st.instances (instance ∷ []) number other is);
    };
    naming = λ st fit s held. (refl, (held.instances (length st.instances) instance (slice_get-seam st.instances instance []), s));
  }

  abbrev items_judged : List Item → Judged
  items_judged items = record { emits = all_emitted (map item_emitted items); fits = λ fs st. items_fit items (around_at fs st); is_light = false; is_step = false }

  abbrev item_judged : Item → Judged
  item_judged item = record { emits = item_emitted item; fits = λ fs st. item_fits item (around_at fs st); is_light = false; is_step = false }

  item_named : (item : Item) → IsNamed object functions (item_judged item)
  item_named (Value e) = record {
    before = λ st held. held;
    naming = λ st fit s held. (names_append object ((main_piece e).code (around_at functions st) st.at) (instr.Print ∷ []) (value_named e st s fit st.at) refl, s);
  }
  item_named (Text text) = record { before = λ st held. held; naming = λ st fit s held. (refl, s) }
  item_named End = record { before = λ st held. held; naming = λ st fit s held. (refl, s) }

  items_named : (items : List Item) → IsNamed object functions (items_judged items)
  items_named [] = let r = none_named object functions in record { before = r.before; naming = r.naming }
  items_named (Value e ∷ items) =
      let r = pair_named object functions (item_judged (Value e)) (items_judged items) (item_named (Value e)) (items_named items) in record { before = r.before; naming = r.naming }
  items_named (Text text ∷ items) =
      let r = pair_named object functions (item_judged (Text text)) (items_judged items) (item_named (Text text)) (items_named items) in record { before = r.before; naming = r.naming }
  items_named (End ∷ items) =
      let r = pair_named object functions (item_judged End) (items_judged items) (item_named End) (items_named items) in record { before = r.before; naming = r.naming }

  pub print_named : (items : List Item) (line : ℕ) → IsNamed object functions (judge_step (what.Print items) line)
  print_named items line =
      let r = items_named items in
      record {
        before = λ st held. r.before (behind_line st) held;
        naming = counted_naming object functions line (all_emitted (map item_emitted items)) (λ fs st. items_fit items (around_at fs st)) r.naming;
      }

  pub return_named : (e : Expr) (line : ℕ) → IsNamed object functions (judge_step (what.Return e) line)
  return_named e line = record {
    before = λ st held. held;
    naming = counted_naming object functions line (taking (main_piece e).code (main_piece e).depth (λ around standing. instr.Pop ∷ instr.Halt ∷ [])) (λ fs st. fits e (around_at fs st))
        (λ st fit s held. (names_append object ((main_piece e).code (around_at functions st) st.at) (instr.Pop ∷ instr.Halt ∷ []) (value_named e st s fit st.at) refl, s));
  }
