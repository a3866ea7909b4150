-- A statement of main that holds no other fits the names in scope, where no fault is told of it, it is formed as a text has it,
-- and it declares vectors and Maps alone.
use Rattle.std.proofs.Common.{◌≡◌, ◌⊎◌, ℕ, ◌+◌, Bool, true, false, ◌&&◌, ◌==◌, List, [], ◌∷◌, ◌++◌, length, map, Option, Some, None, if◌then◌else◌, refl, sym, ap, ◌∙◌, subst, inl, inr}
use Rattle.std.proofs.lemmas.Bool.{and_from, eqb-true, eq-eqb}
use Rattle.std.specs.Prelude.{◌||◌, slice_get, flat_map}
use Rattle.std.specs.List.{list_all}
use Rattle.sk_base.specs.declared.number.Ty.{Ty}
use Rattle.sk_main_fits.specs.Fits.{fits, all_fit, is_number, is_whole}
use Rattle.sk_main_fits.specs.StatementFits.{Test, Judged, call_fits, items_fit, judge_step}
use Rattle.sk_main_fits.specs.Vectors.{IsMapOf}
use Rattle.sk_main_scheme.specs.MainScheme.{Named, Number, Whole, Called, Emitting, Standing, all_emitted, around_at, item_emitted}
use Rattle.sk_main_scheme.specs.MainScheme as scheme
use Rattle.sk_names.specs.Bindings.{bound_to}
use Rattle.sk_plain.proofs.Lists.{slice_get-one_more}
use Rattle.sk_plain.proofs.Truths.{and_left, and_right}
use Rattle.sk_scheme.specs.Scheme.{Known as Callee}
use Rattle.sk_tree.specs.declared.tree.Expr.{Expr}
use Rattle.sk_tree.specs.declared.tree.Function.{Function}
use Rattle.sk_tree.specs.declared.tree.Instance.{Instance}
use Rattle.sk_tree.specs.declared.tree.Item.{Item}
use Rattle.sk_tree.specs.declared.tree.Item.TheVariants.{Value, Text, End}
use Rattle.sk_tree.specs.declared.tree.ParamKind.TheVariants.{Scalar, Index, Proxy, Region}
use Rattle.sk_tree.specs.declared.tree.Setting.{Setting}
use Rattle.sk_tree.specs.declared.tree.Setting.TheVariants.{Start, Scan, Lines, Overlap, Edge, Pad}
use Rattle.sk_tree.specs.declared.tree.What.TheOpen as what
use Rattle.sk_typed_laws.proofs.Untold.{no_faults}
use Rattle.sk_typed_laws.specs.Forms.{Formed, formed_step, is_sized, item_sized, only_sized}
use Rattle.sk_typed_main_laws.proofs.Arguments.{map_call_fits, numbers_fit}
use Rattle.sk_typed_main_laws.proofs.Expressions.{expression_fits}
use Rattle.sk_typed_main_laws.proofs.Instances.{IsMain, instance_declared}
use Rattle.sk_typed_main_laws.proofs.Named.{AgreeInMain, IsNamedAs, agree_declared, map_made, same_type-same, whole_is}
use Rattle.sk_typing.specs.TypingExpressions.{Judged as Said, judged_all, called_use, first_dimension, poked_use, set_use, use_faults, use_of, value_faults}
use Rattle.sk_typing.specs.TypingInstances.{instance_faults, instance_known, setting_use, setting_values, statement_use}
use Rattle.sk_typing.specs.TypingNames.{Knowns, Around, fault, unless, numbers, twice_faults}
use Rattle.sk_typing.specs.TypingStatements.{Walked, Walking, assign_faults, call_faults, declaring, item_faults, make_faults, of_main, only_faults, walking_step}
use Rattle.sk_typing.specs.declared.names.Fault.{Fault}
use Rattle.sk_typing.specs.declared.names.FaultKind.TheVariants.{Mismatch}
use Rattle.sk_typing.specs.declared.names.Known.{Known}
use Rattle.sk_typing.specs.declared.names.Known.TheVariants.{Variable, Function as FunctionName, Instance as InstanceName, Broken}
use Rattle.sk_typing.specs.declared.names.Use.{Use}
use Rattle.sk_typing.specs.declared.names.Use.TheVariants.{Takes, Free}
use Rattle.sk_vector_form.specs.VectorForm.{form_step}

-- ---- names that are used by statements

module _ (around : Around) (named : Option Named) where
  assigned_number : (known : Option Known) (value : List Fault) → IsNamedAs around.functions named known → assign_faults around known value ≡ []
      → (is_number named ≡ true) × (value ≡ [])
  assigned_number None value h e = let never : ⊥ = cc in absurd never
  assigned_number (Some (Variable (Scalar ty))) value h e = (h, e)
  assigned_number (Some (Variable (Index dimension))) value h e = absurd h
  assigned_number (Some (Variable (Proxy dimension ty))) value h e = let never : ⊥ = cc in absurd never
  assigned_number (Some (Variable (Region dimension ty))) value h e = absurd h
  assigned_number (Some (FunctionName number)) value h e = let never : ⊥ = cc in absurd never
  assigned_number (Some (InstanceName made)) value h e = let never : ⊥ = cc in absurd never
  assigned_number (Some Broken) value h e = absurd h

  poked_vector : (known : Option Known) (said : List Said) → IsNamedAs around.functions named known → use_faults around (use_of known poked_use) said ≡ []
      → (is_whole named ≡ true) × (use_faults around (Takes (numbers 1)) said ≡ [])
  poked_vector None said h e = let never : ⊥ = cc in absurd never
  poked_vector (Some (Variable (Scalar ty))) said h e = let never : ⊥ = cc in absurd never
  poked_vector (Some (Variable (Index dimension))) said h e = absurd h
  poked_vector (Some (Variable (Proxy dimension ty))) said h e = (whole_is ty named h.1, subst (λ n. use_faults around (Takes (numbers n)) said ≡ []) h.0 e)
  poked_vector (Some (Variable (Region dimension ty))) said h e = absurd h
  poked_vector (Some (FunctionName number)) said h e = let never : ⊥ = cc in absurd never
  poked_vector (Some (InstanceName made)) said h e = let never : ⊥ = cc in absurd never
  poked_vector (Some Broken) said h e = absurd h

  -- a Map has no settings
  map_unset : (place elements : ℕ) (function : Function) (setting : Setting) (said : List Said) → use_faults around (setting_use (map_made place elements) function setting) said ≡ [] → ⊥
  map_unset place elements function (Start value) said e = cc
  map_unset place elements function (Scan exclusive) said e = cc
  map_unset place elements function (Lines columns) said e = cc
  map_unset place elements function (Overlap values) said e = cc
  map_unset place elements function (Edge mode) said e = cc
  map_unset place elements function (Pad value) said e = cc

  never_set : (known : Option Known) (setting : Setting) (said : List Said) → IsNamedAs around.functions named known → use_faults around (use_of known (set_use around setting)) said ≡ [] → ⊥
  never_set None setting said h e = cc
  never_set (Some (Variable (Scalar ty))) setting said h e = cc
  never_set (Some (Variable (Index dimension))) setting said h e = h
  never_set (Some (Variable (Proxy dimension ty))) setting said h e = cc
  never_set (Some (Variable (Region dimension ty))) setting said h e = h
  never_set (Some (FunctionName number)) setting said h e = cc
  never_set (Some (InstanceName made)) setting said h e =
      let one = subst (λ m. use_faults around (set_use around setting (InstanceName m)) said ≡ []) h.made_is e in
      let its_use = ap (λ o. elim o as (λ _. Use) [ Some function ↦ setting_use (map_made h.place h.elements) function setting | None ↦ Free ]) h.there in
      map_unset h.place h.elements h.function setting said (sym (ap (λ u. use_faults around u said) its_use) ∙ one)
  never_set (Some Broken) setting said h e = h

-- ---- what is known behind a statement

module _ (callees : List (List ℕ × Callee)) where
  -- the names in scope stand for the same, and each instance so far is a Map
  pub record IsAt (functions : List Function) (own : ℕ) (names : Knowns) (scope : List (List ℕ × Named)) (instances : List Instance) : Type 0 where
    pub agree : AgreeInMain functions own callees names scope
    pub maps : (number : ℕ) (instance : Instance) → slice_get instances number ≡ Some instance → IsMapOf callees instance

  abbrev pub StandsAt : Around → Knowns → Standing → Type 0
  StandsAt around names standing = IsAt around.functions around.number names standing.scope standing.instances

  -- the statement fits, and behind it the names stand for the same
  pub record IsFineAt (functions : List Function) (own : ℕ) (names : Knowns) (fit : Bool) (behind : Standing) : Type 0 where
    pub fits : fit ≡ true
    pub stands : IsAt functions own names behind.scope behind.instances

  abbrev pub Fine : Walking → (sized vectors : Bool) → Test → Emitting → Type 0
  Fine walk sized vectors test emits =
      (around : Around) (names : Knowns) (standing : Standing) → IsMain around.functions around.number around.in_main → StandsAt around names standing
      → sized ≡ true → vectors ≡ true → (walk around names).faults ≡ []
      → IsFineAt around.functions around.number (walk around names).names (test callees standing) (emits callees standing).behind

  -- a statement without a fault fits
  pub record IsFine (walk : Walking) (form : Formed) (vectors : Bool) (judged : Judged) : Type 0 where
    pub light : form.is_light ≡ true → judged.is_light ≡ true
    pub step : form.is_step ≡ true → judged.is_step ≡ true
    pub fine : Fine walk form.sized vectors judged.fits judged.emits

  abbrev pub IsFineStep : what.What-F (ℕ → Walking) Walking → what.What-F Formed Formed → what.What-F Bool Bool → what.What-F (ℕ → Judged) Judged → (line : ℕ) → Type 0
  IsFineStep walking forming vectors judging line = IsFine (walking_step walking line) (formed_step forming) (form_step vectors) (judge_step judging line)

  -- a statement that begins no `for`
  pub heavy : (walk : Walking) (sized vectors : Bool) (judged : Judged) → Fine walk sized vectors judged.fits judged.emits → IsFine walk (only_sized sized) vectors judged
  heavy walk sized vectors judged f = record {
    light = λ e. let never : ⊥ = cc in absurd never;
    step = λ e. let never : ⊥ = cc in absurd never;
    fine = f;
  }

  -- what stands in main alone
  in_main : (around : Around) (walked : Walked) (names : Knowns) (fit : Bool) (behind : Standing) → around.in_main ≡ true
      → (walked.faults ≡ [] → IsFineAt around.functions around.number walked.names fit behind) → (of_main around walked names).faults ≡ []
      → IsFineAt around.functions around.number (of_main around walked names).names fit behind
  in_main around walked names fit behind main f =
      subst (λ (w : Walked). w.faults ≡ [] → IsFineAt around.functions around.number w.names fit behind)
      (sym (ap (λ b. if b then walked else record { faults = fault around Mismatch; names = names }) main)) f

  -- ---- scalars

  pub value_fits : (expr : Expr) (around : Around) (names : Knowns) (standing : Standing) → IsMain around.functions around.number around.in_main → StandsAt around names standing
      → is_sized expr ≡ true → value_faults around names expr ≡ [] → fits expr (around_at callees standing) ≡ true
  value_fits expr around names standing main s = (expression_fits expr).fits_is around names (around_at callees standing) main.is s.agree

  pub declare_fine : (ty : Ty) (name : List ℕ) (expr : Expr) (line : ℕ)
      → IsFineStep (what.Declare ty name expr) (what.Declare ty name expr) (what.Declare ty name expr) (what.Declare ty name expr) line
  declare_fine ty name expr line = record {
    light = λ e. refl;
    step = λ e. let never : ⊥ = cc in absurd never;
    fine = λ around names standing main s sized v e.
        let here : Around = record around { line = line } in
        record {
          fits = value_fits expr here names standing main s sized (no_faults (twice_faults here names name) (value_faults here names expr) e).1;
          stands = record {
            agree = agree_declared around.functions around.number callees name (Number (length standing.slots) ty) (Variable (Scalar ty)) names standing.scope tt refl s.agree;
            maps = s.maps;
          };
        };
  }

  pub assign_fine : (name : List ℕ) (expr : Expr) (line : ℕ) → IsFineStep (what.Assign name expr) (what.Assign name expr) (what.Assign name expr) (what.Assign name expr) line
  assign_fine name expr line = record {
    light = λ e. refl;
    step = λ e. refl;
    fine = λ around names standing main s sized v e.
        let here : Around = record around { line = line } in
        let parts = assigned_number here (bound_to name standing.scope) (bound_to name names) (value_faults here names expr) (s.agree.named name) e in
        record {
          fits = and_from (is_number (bound_to name standing.scope)) (fits expr (around_at callees standing)) parts.0 (value_fits expr here names standing main s sized parts.1);
          stands = s;
        };
  }

  pub return_fine : (expr : Expr) (line : ℕ) → IsFineStep (what.Return expr) (what.Return expr) (what.Return expr) (what.Return expr) line
  return_fine expr line = heavy _ _ _ _ (λ around names standing main s sized v e.
      record { fits = value_fits expr (record around { line = line }) names standing main s sized e; stands = s })

  -- ---- containers

  pub poke_fine : (name : List ℕ) (places : List Expr) (expr : Expr) (line : ℕ)
      → IsFineStep (what.Poke name places expr) (what.Poke name places expr) (what.Poke name places expr) (what.Poke name places expr) line
  poke_fine name places expr line = record {
    light = λ e. refl;
    step = λ e. refl;
    fine = λ around names standing main s sized v e.
        let here : Around = record around { line = line } in
        let there : scheme.Around = around_at callees standing in
        let said : List Said = judged_all here names places in
        let used : List Fault = use_faults here (use_of (bound_to name names) poked_use) said in
        let whole : Bool = is_whole (bound_to name standing.scope) in
        let one : Bool = length places == 1 in
        let each : Bool = all_fit (map fits places) there in
        let value : Bool = fits expr there in
        let behind : Standing = ((judge_step (what.Poke name places expr) line).emits callees standing).behind in
        in_main here (only_faults (used ++ value_faults here names expr) names) names (whole && one && each && value) behind main.is
        (λ told.
        let parts = no_faults used (value_faults here names expr) told in
        let vector = poked_vector here (bound_to name standing.scope) (bound_to name names) said (s.agree.named name) parts.0 in
        let number = numbers_fit here names there main.is s.agree 1 places (and_left (list_all is_sized places) (is_sized expr) sized) vector.1 in
        let value_is = value_fits expr here names standing main s (and_right (list_all is_sized places) (is_sized expr) sized) parts.1 in
        record {
          fits = and_from (whole && one && each) value
              (and_from (whole && one) each (and_from whole one vector.0 (eq-eqb (length places) 1 number.size)) number.fit) value_is;
          stands = s;
        }) e;
  }

  -- one size, and maybe a fill value
  one_or_two : (count dimension : ℕ) → dimension ≡ 1 → count ≡ (if count == dimension + 1 then dimension + 1 else dimension) → (count == 1 || count == 2) ≡ true
  one_or_two count dimension one size = by_test (count == dimension + 1) size
    where
      by_test : (b : Bool) → count ≡ (if b then dimension + 1 else dimension) → (count == 1 || count == 2) ≡ true
      by_test true is = subst (λ n. (n == 1 || n == 2) ≡ true) (sym (is ∙ ap (λ n. n + 1) one)) refl
      by_test false is = subst (λ n. (n == 1 || n == 2) ≡ true) (sym (is ∙ one)) refl

  pub make_fine : (dimension : ℕ) (ty : Ty) (name : List ℕ) (arguments : List Expr) (line : ℕ)
      → IsFineStep (what.Make dimension ty name arguments) (what.Make dimension ty name arguments) (what.Make dimension ty name arguments) (what.Make dimension ty name arguments) line
  make_fine dimension ty name arguments line = heavy _ _ _ _ (λ around names standing main s sized v e.
      let here : Around = record around { line = line } in
      let there : scheme.Around = around_at callees standing in
      let known : Known = Variable (Proxy dimension ty) in
      let made : List Fault = make_faults here names dimension arguments in
      let few : Bool = length arguments == 1 || length arguments == 2 in
      let each : Bool = all_fit (map fits arguments) there in
      let behind : Standing = ((judge_step (what.Make dimension ty name arguments) line).emits callees standing).behind in
      in_main here (declaring name known made here names) ((name, known) ∷ names) ((dimension == 1) && few && each) behind main.is
      (λ told.
      let count : ℕ = if length arguments == dimension + 1 then dimension + 1 else dimension in
      let one : dimension ≡ 1 = eqb-true dimension 1 v in
      let number = numbers_fit here names there main.is s.agree count arguments sized (no_faults (twice_faults here names name) made told).1 in
      record {
        fits = and_from ((dimension == 1) && few) each (and_from (dimension == 1) few v (one_or_two (length arguments) dimension one number.size)) number.fit;
        stands = record {
          agree = agree_declared around.functions around.number callees name (Whole (length standing.containers) ty) known names standing.scope tt (one, same_type-same ty) s.agree;
          maps = s.maps;
        };
      }) e)

  pub take_fine : (dimension : ℕ) (ty : Ty) (name input : List ℕ) (line : ℕ)
      → IsFineStep (what.Take dimension ty name input) (what.Take dimension ty name input) (what.Take dimension ty name input) (what.Take dimension ty name input) line
  take_fine dimension ty name input line = heavy _ _ _ _ (λ around names standing main s sized v e. let never : ⊥ = cc in absurd never)

  -- ---- instances

  one_more_map : (instances : List Instance) (instance : Instance) → ((number : ℕ) (other : Instance) → slice_get instances number ≡ Some other → IsMapOf callees other)
      → IsMapOf callees instance → (number : ℕ) (other : Instance) → slice_get (instances ++ instance ∷ []) number ≡ Some other → IsMapOf callees other
  one_more_map instances instance before new number other e = by_place (slice_get-one_more instances instance number other e)
    where
      by_place : (slice_get instances number ≡ Some other) ⊎ ((instance ≡ other) × (number ≡ length instances)) → IsMapOf callees other
      by_place (inl there) = before number other there
      by_place (inr last) = subst (λ (i : Instance). IsMapOf callees i) last.0 new

  pub instance_fine : (instance : Instance) (line : ℕ) → IsFineStep (what.Instance instance) (what.Instance instance) (what.Instance instance) (what.Instance instance) line
  instance_fine instance line = heavy _ _ _ _ (λ around names standing main s sized v e.
      let here : Around = record around { line = line } in
      let outer : List Fault = unless here.outermost here Mismatch in
      let inner : List Fault = instance_faults here names instance in
      let known : Known = instance_known here names instance in
      let number : ℕ = length standing.instances in
      let behind : Standing = ((judge_step (what.Instance instance) line).emits callees standing).behind in
      in_main here (declaring instance.name known (outer ++ inner) here names) ((instance.name, Broken) ∷ names) true behind main.is
      (λ told.
      let own = (no_faults outer inner (no_faults (twice_faults here names instance.name) (outer ++ inner) told).1).1 in
      let declared = instance_declared here names callees main s.agree.known number instance v own in
      record {
        fits = refl;
        stands = record {
          agree = agree_declared around.functions around.number callees instance.name (Called (scheme.made_of callees number instance)) known names standing.scope declared.free declared.named s.agree;
          maps = one_more_map standing.instances instance s.maps declared.map_of;
        };
      }) e)

  pub set_fine : (name : List ℕ) (setting : Setting) (line : ℕ) → IsFineStep (what.Set name setting) (what.Set name setting) (what.Set name setting) (what.Set name setting) line
  set_fine name setting line = heavy _ _ _ _ (λ around names standing main s sized v e.
      let here : Around = record around { line = line } in
      let said : List Said = judged_all here names (setting_values setting) in
      let used : List Fault = use_faults here (use_of (bound_to name names) (set_use here setting)) said in
      let behind : Standing = ((judge_step (what.Set name setting) line).emits callees standing).behind in
      in_main here (only_faults used names) names false behind main.is
      (λ told. absurd (never_set here (bound_to name standing.scope) (bound_to name names) setting said (s.agree.named name) told)) e)

  -- ---- calls

  called_fits : (around : Around) (names : Knowns) (there : scheme.Around) (main : around.in_main ≡ true)
      (agree : AgreeInMain around.functions around.number there.functions names there.scope) (arguments : List Expr) → list_all is_sized arguments ≡ true
      → (named : Option Named) (known : Option Known) → IsNamedAs around.functions named known
      → use_faults around (use_of known (called_use around (length (judged_all around names arguments)) (first_dimension (judged_all around names arguments)))) (judged_all around names arguments) ≡ []
      → call_fits named arguments there ≡ true
  called_fits around names there main agree arguments sized named None h e = let never : ⊥ = cc in absurd never
  called_fits around names there main agree arguments sized named (Some (Variable (Scalar ty))) h e = let never : ⊥ = cc in absurd never
  called_fits around names there main agree arguments sized named (Some (Variable (Index dimension))) h e = absurd h
  called_fits around names there main agree arguments sized named (Some (Variable (Proxy dimension ty))) h e = let never : ⊥ = cc in absurd never
  called_fits around names there main agree arguments sized named (Some (Variable (Region dimension ty))) h e = absurd h
  called_fits around names there main agree arguments sized named (Some (FunctionName number)) h e = let never : ⊥ = cc in absurd never
  called_fits around names there main agree arguments sized named (Some (InstanceName made)) h e =
      let said : List Said = judged_all around names arguments in
      let count : ℕ = length said in
      let first : Option ℕ = first_dimension said in
      let one = subst (λ m. use_faults around (called_use around count first (InstanceName m)) said ≡ []) h.made_is e in
      let its_use = ap (λ o. elim o as (λ _. Use) [ Some function ↦ statement_use (map_made h.place h.elements) count first function | None ↦ Free ]) h.there in
      ap (λ n. call_fits n arguments there) h.named_is
      ∙ map_call_fits around names there main agree h.place h.elements h.number h.function h.scalars h.few first arguments sized
      (sym (ap (λ u. use_faults around u said) its_use) ∙ one)
  called_fits around names there main agree arguments sized named (Some Broken) h e = absurd h

  pub call_fine : (name : List ℕ) (arguments : List Expr) (line : ℕ)
      → IsFineStep (what.Call name arguments) (what.Call name arguments) (what.Call name arguments) (what.Call name arguments) line
  call_fine name arguments line = heavy _ _ _ _ (λ around names standing main s sized v e.
      let here : Around = record around { line = line } in
      let there : scheme.Around = around_at callees standing in
      let named : Option Named = bound_to name standing.scope in
      let behind : Standing = ((judge_step (what.Call name arguments) line).emits callees standing).behind in
      in_main here (only_faults (call_faults here names name arguments) names) names (call_fits named arguments there) behind main.is
      (λ told. record { fits = called_fits here names there main.is s.agree arguments sized named (bound_to name names) (s.agree.named name) told; stands = s }) e)

  -- ---- printed items

  items_behind : (functions : List Function) (own : ℕ) (names : Knowns) (items : List Item) (standing : Standing) → IsAt functions own names standing.scope standing.instances
      → let behind : Standing = (all_emitted (map item_emitted items) callees standing).behind in IsAt functions own names behind.scope behind.instances
  items_behind functions own names [] standing s = s
  items_behind functions own names (Value expr ∷ items) standing s = items_behind functions own names items (item_emitted (Value expr) callees standing).behind s
  items_behind functions own names (Text text ∷ items) standing s = items_behind functions own names items (item_emitted (Text text) callees standing).behind s
  items_behind functions own names (End ∷ items) standing s = items_behind functions own names items (item_emitted End callees standing).behind s

  all_items_fit : (items : List Item) (around : Around) (names : Knowns) (standing : Standing) → IsMain around.functions around.number around.in_main → StandsAt around names standing
      → list_all item_sized items ≡ true → flat_map (item_faults around names) items ≡ [] → items_fit items (around_at callees standing) ≡ true
  all_items_fit [] around names standing main s sized e = refl
  all_items_fit (Value expr ∷ items) around names standing main s sized e =
      let there : scheme.Around = around_at callees standing in
      let told = no_faults (value_faults around names expr) (flat_map (item_faults around names) items) e in
      and_from (fits expr there) (items_fit items there)
      (value_fits expr around names standing main s (and_left (is_sized expr) (list_all item_sized items) sized) told.0)
      (all_items_fit items around names standing main s (and_right (is_sized expr) (list_all item_sized items) sized) told.1)
  all_items_fit (Text text ∷ items) around names standing main s sized e = all_items_fit items around names standing main s sized e
  all_items_fit (End ∷ items) around names standing main s sized e = all_items_fit items around names standing main s sized e

  pub print_fine : (items : List Item) (line : ℕ) → IsFineStep (what.Print items) (what.Print items) (what.Print items) (what.Print items) line
  print_fine items line = heavy _ _ _ _ (λ around names standing main s sized v e.
      let here : Around = record around { line = line } in
      let counted : Standing = record standing { at = standing.at + 1 } in
      let behind : Standing = ((judge_step (what.Print items) line).emits callees standing).behind in
      in_main here (only_faults (flat_map (item_faults here names) items) names) names (items_fit items (around_at callees standing)) behind main.is
      (λ told. record {
        fits = all_items_fit items here names standing main s sized told;
        stands = items_behind around.functions around.number names items counted s;
      }) e)
