-- What the code of call statements does.
use Rattle.std.proofs.Common.{◌≡◌, ℕ, zero, suc, ◌+◌, ◌≤◌, List, [], ◌∷◌, ◌++◌, length, map, take, drop, reverse, ℤ, Option, Some, None, refl, sym, ap, ◌∙◌, subst, arith, length-append}
use Rattle.std.proofs.lemmas.List.{length-map, append-nil}
use Rattle.std.specs.List.{list_all}
use Rattle.std.specs.Prelude.{Result, Ok, Err, true, Bool, ◌&&◌, ◌==◌, slice_get}
use Rattle.sk_arguments.specs.Operands.{uniforms_taken}
use Rattle.sk_base.specs.Arithmetic.{wrapped}
use Rattle.sk_base.specs.declared.number.Ty.{Ty}
use Rattle.sk_formula.specs.Calls.{Sizes, refusal_of, computed_of}
use Rattle.sk_isa.specs.declared.code.Instr.{Instr}
use Rattle.sk_isa.specs.declared.code.Instr.TheVariants as instr
use Rattle.sk_isa.specs.declared.object.Object.{Object}
use Rattle.sk_isa.specs.declared.object.Plan.{Plan}
use Rattle.sk_call_shapes.specs.CallShapes.{fits_statement}
use Rattle.sk_main_code.specs.MainSoundness.{calls_fit, names_in_main}
use Rattle.sk_main_code.specs.MainSteps.{MainNext, MainPoint, done_by, going_in, linked_plan, next_in_main, world_after}
use Rattle.sk_main_fits.specs.Fits.{fits, all_fit, is_whole}
use Rattle.sk_main_fits.specs.StatementFits.{Judged, Test, all_whole, call_fits, container_types, judge_step, names_whole}
use Rattle.sk_main_names.proofs.Lists.{drop-map, size-dropped, take-map}
use Rattle.sk_main_names.proofs.Tests.{same_number, whole_is}
use Rattle.sk_main_run.specs.MainNames.{Meant, Scope, State, main_names, number_in, all_evaluated}
use Rattle.sk_main_run.specs.MainNames as tree
use Rattle.sk_main_run.specs.MainRun.{Running, Numbers, Numbered, and_run, in_world, call_run, name_of, running_step}
use Rattle.sk_main_run.specs.MainRunLaws.{at_line}
use Rattle.sk_main_runs.proofs.Arguments.{many_found}
use Rattle.sk_main_runs.proofs.Containers.{never_ok, ok_same}
use Rattle.sk_main_runs.proofs.ExpressionRuns.{fitted-length}
use Rattle.sk_main_runs.proofs.Flows.{Runs, runs_to, runs_values, runs_world}
use Rattle.sk_main_runs.proofs.Names.{name_found}
use Rattle.sk_main_runs.proofs.Runs.{like_same, stands}
use Rattle.sk_main_runs.proofs.StatementNodes.{IsAt, Does, Follows, keeps_same, counted_does}
use Rattle.sk_main_runs.proofs.Tidy.{tidy_like}
use Rattle.sk_main_runs.proofs.Values.{arguments_give, wrapped-twice}
use Rattle.sk_main_runs.specs.SameMeaning.{Agree, AreNamed, IsInstance, IsLeft, IsTidy, fitted}
use Rattle.sk_main_scheme.specs.MainScheme.{Around, Named, Number, Whole, Called, Made, Standing, Emitting, around_at, main_piece, main_leaves, container_named, containers_of, operands_of, do_code, do_depth, taking, of_instance, uniforms_code}
use Rattle.sk_meaning.specs.Expressions.{meaning_of, values_of}
use Rattle.sk_names.specs.Bindings.{bound_to}
use Rattle.sk_plain.proofs.Truths.{and_left, and_right}
use Rattle.sk_safety.specs.Safety.{Judgements}
use Rattle.sk_scheme.specs.Pieces.{Piece, arguments_code, piece_step}
use Rattle.sk_scheme.specs.Scheme.{Known}
use Rattle.sk_scheme_runs.proofs.Runs.{HasAt, has_front, has_back}
use Rattle.sk_tree.specs.FoldLaws.{folds-Name}
use Rattle.sk_tree.specs.declared.settings.Settings.{Settings}
use Rattle.sk_tree.specs.declared.tree.Expr.{Expr}
use Rattle.sk_tree.specs.declared.tree.Expr.TheVariants as expression
use Rattle.sk_tree.specs.declared.tree.ParamKind.{ParamKind}
use Rattle.sk_tree.specs.declared.tree.ParamKind.TheVariants.{Scalar}
use Rattle.sk_tree.specs.declared.tree.What.TheOpen as what
use Rattle.sk_world.specs.Calls.{Instance, call_of, converted, given_of, functions_of, operand_count, operands_in, ran_call, sizes_of}
use Rattle.sk_world.specs.Events.{CallOf}
use Rattle.sk_world.specs.World.{Container, World, Over, Trapped, container_at, settings_in}

-- what holds of all instructions holds of one that stands at an address
all_at : (test : Instr → Bool) (is : List Instr) (at : ℕ) (i : Instr) → list_all test is ≡ true → slice_get is at ≡ Some i → test i ≡ true
all_at test [] at i all e = let no : ⊥ = cc in absurd no
all_at test (x ∷ is) zero i all e = let same : x ≡ i = cc in subst (λ y. test y ≡ true) same (and_left (test x) (list_all test is) all)
all_at test (x ∷ is) (suc at) i all e = all_at test is at i (and_right (test x) (list_all test is) all) e

-- uniform arguments may be converted before a call
converted-fitted : (types : List Ty) (values : List ℤ) → converted types (fitted (map Scalar types) values) ≡ converted types values
converted-fitted [] values = refl
converted-fitted (ty ∷ types) [] = refl
converted-fitted (ty ∷ types) (value ∷ values) =
    ap (λ (v : ℤ). v ∷ converted types (fitted (map Scalar types) values)) (wrapped-twice ty value) ∙ ap (λ (vs : List ℤ). wrapped ty value ∷ vs) (converted-fitted types values)

-- a call by its uniform arguments that were converted
abbrev call_with : Instance → (result : Option ℕ) → (operands : List ℕ) → World → (cells : List ℤ) → Result (ℤ × World) Over
call_with instance result operands world cells =
    let settings : Settings = settings_in world instance.number in
    let target : Option Container = elim result [ Some number ↦ Some (container_at world number) | None ↦ None ] in
    let containers : List Container = operands_in world operands in
    let sizes : Sizes = sizes_of instance target containers in
    let call : CallOf = record { line = world.line; instance = instance.number; operands = operands; uniforms = cells } in
    elim (refusal_of instance.skeleton settings sizes) [
      | Some trap ↦ Err (record { ending = Trapped trap world.line 0; world = world })
      | None ↦ ran_call instance call settings target
          (computed_of instance.skeleton settings sizes (functions_of instance settings (given_of instance target containers cells))) world
    ]

call-converted : (instance : Instance) (types : List Ty) → uniforms_taken instance.skeleton instance.elements instance.kinds ≡ types
    → (result : Option ℕ) (operands : List ℕ) (values : List ℤ) (world : World)
    → call_of instance result operands (fitted (map Scalar types) values) world ≡ call_of instance result operands values world
call-converted instance types e result operands values world =
    let own : List Ty = uniforms_taken instance.skeleton instance.elements instance.kinds in
    let same : converted own (fitted (map Scalar types) values) ≡ converted own values =
    ap (λ (t : List Ty). converted t (fitted (map Scalar types) values)) e ∙ converted-fitted types values ∙ sym (ap (λ (t : List Ty). converted t values) e) in
    ap (call_with instance result operands world) same

-- what a call leaves, for one who does not ask for its value
abbrev left_by : Result (ℤ × World) Over → Result World Over
left_by o = elim o as (λ x. Result World Over) [ Ok ran ↦ Ok ran.1 | Err over ↦ Err over ]

left-after : (o : Result (ℤ × World) Over) → world_after o ≡ left_by o
left-after (Ok ran) = refl
left-after (Err over) = refl

module _ (object : Object) where
  tidy_left : (world : World) (o : Result (ℤ × World) Over) → IsLeft object world o → (after : World) → left_by o ≡ Ok after → IsTidy object after × (after.statements_left ≤ world.statements_left)
  tidy_left world (Ok ran) h after e = subst (λ (w : World). IsTidy object w × (w.statements_left ≤ world.statements_left)) (ok_same ran.1 after (left_by (Ok ran)) refl e) h
  tidy_left world (Err over) h after e = absurd (never_ok over after (left_by (Err over)) refl e)

module _ (object : Object) (functions : List (List ℕ × Known)) (judgements : Judgements) (named : list_all (names_in_main object) object.main.instrs ≡ true) where
  abbrev IsFollowing : Numbered → Judged → Type 0
  IsFollowing = Follows object functions judgements

  abbrev whole_named : Option Named → ℕ
  whole_named n = elim n as (λ x. ℕ) [
    | Some named ↦ elim named as (λ x. ℕ) [ Whole container ty ↦ container | Number slot ty ↦ 0 | Called made ↦ 0 ]
    | None ↦ 0
  ]

  abbrev whole_meant : Option Meant → ℕ
  whole_meant m = elim m as (λ x. ℕ) [
    | Some meant ↦ elim meant as (λ x. ℕ) [ tree.Whole number ty ↦ number | tree.Scalar ty value ↦ 0 | tree.Called instance ↦ 0 ]
    | None ↦ 0
  ]

  number_same : (n : Option Named) (m : Option Meant) (slots : List ℤ) (bound : ℕ) → AreNamed object n m slots bound → is_whole n ≡ true → whole_named n ≡ whole_meant m
  number_same (Some (Whole container ty)) (Some (tree.Whole number other)) slots bound h e = sym h.number_is
  number_same (Some (Number slot ty)) m slots bound h e = let no : ⊥ = cc in absurd no
  number_same (Some (Called made)) m slots bound h e = let no : ⊥ = cc in absurd no
  number_same None m slots bound h e = let no : ⊥ = cc in absurd no
  number_same n m slots bound h e = absurd h

  -- an argument that is a container
  one_number : (st : Standing) (values : Scope) (slots : List ℤ) (bound : ℕ) → Agree object st.scope values slots bound → (ty : Ty) (e : Expr) → names_whole (around_at functions st) ty e ≡ true
      → container_named (around_at functions st) (main_piece e).name ≡ number_in values (name_of e)
  one_number st values slots bound agree ty (expression.Name name) whole =
      ap (λ (p : Piece Around). container_named (around_at functions st) p.name) (folds-Name (piece_step main_leaves) name)
      ∙ number_same (bound_to name st.scope) (bound_to name values) slots bound (name_found object name st.scope values slots bound agree) (whole_is ty (bound_to name st.scope) whole)
  one_number st values slots bound agree ty e whole = let no : ⊥ = cc in absurd no

  -- the containers of a call
  numbers_same : (st : Standing) (values : Scope) (slots : List ℤ) (bound : ℕ) → Agree object st.scope values slots bound → (types : List Ty) (es : List Expr) → all_whole (around_at functions st) types es ≡ true
      → containers_of (around_at functions st) (map main_piece es) ≡ map (λ expr. number_in values (name_of expr)) es
  numbers_same st values slots bound agree [] [] whole = refl
  numbers_same st values slots bound agree [] (e ∷ es) whole = let no : ⊥ = cc in absurd no
  numbers_same st values slots bound agree (ty ∷ types) [] whole = let no : ⊥ = cc in absurd no
  numbers_same st values slots bound agree (ty ∷ types) (e ∷ es) whole =
      let a : Around = around_at functions st in
      ap (λ n. n ∷ containers_of a (map main_piece es)) (one_number st values slots bound agree ty e (and_left (names_whole a ty e) (all_whole a types es) whole))
      ∙ ap (λ (l : List ℕ). number_in values (name_of e) ∷ l) (numbers_same st values slots bound agree types es (and_right (names_whole a ty e) (all_whole a types es) whole))

  -- the instruction finds its uniform arguments
  do_found : (made : Made) (plan : Plan) → slice_get object.instances made.number ≡ Some plan → (result : ℕ) (operands : List ℕ) (count : ℕ) (given : List ℤ) → count ≡ length given
      → (at : ℕ) (slots : List ℤ) (w : World)
      → next_in_main object (instr.Do made.number (result ∷ operands) count) (stands at (reverse given ++ []) slots w)
      ≡ going_in (stands at (reverse given ++ []) slots w) [] (world_after (call_of (linked_plan object made.number plan) (Some result) operands given w))
  do_found made plan there result operands count given n at slots w =
      let point : MainPoint = stands at (reverse given ++ []) slots w in
      let next : List ℤ → List ℤ → MainNext = λ values rest. done_by (slice_get object.instances made.number) object made.number (result ∷ operands) values point rest in
      many_found object given [] count next n
      ∙ ap (λ (o : Option Plan). done_by o object made.number (result ∷ operands) given point []) there

  abbrev done_with : Instance → (result : ℕ) → (operands : List ℕ) → (uniforms : List Expr) → Running
  done_with instance result operands uniforms state = and_run (all_evaluated uniforms state) (λ done.
      in_world (λ world. left_by (call_of instance (Some result) operands done.0 world)) done.1)

  -- uniform arguments, and the call
  calls : (made : Made) (instance : Instance) → IsInstance object made instance → (result : ℕ) (operands : List ℕ) (uniforms : List Expr) (st : Standing) (state : State) (before : Numbers) (slots : List ℤ)
      → IsAt object functions judgements st state before slots → all_fit (map fits uniforms) (around_at functions st) ≡ true
      → length (uniforms_taken made.skeleton made.elements made.kinds) ≡ length uniforms
      → HasAt object.main.instrs st.at (arguments_code (map Scalar (uniforms_taken made.skeleton made.elements made.kinds)) (map main_piece uniforms) (around_at functions st) st.at
      ++ instr.Do made.number (result ∷ operands) (length (map main_piece uniforms)) ∷ [])
      → Runs object functions slots st.at [] state.world
      (st.at + length (arguments_code (map Scalar (uniforms_taken made.skeleton made.elements made.kinds)) (map main_piece uniforms) (around_at functions st) st.at
      ++ instr.Do made.number (result ∷ operands) (length (map main_piece uniforms)) ∷ []))
      st.scope (length st.slots) (done_with instance result operands uniforms state)
  calls made instance h result operands uniforms st state before slots is fit n has =
      let a : Around = around_at functions st in
      let types : List Ty = uniforms_taken made.skeleton made.elements made.kinds in
      let kinds : List ParamKind = map Scalar types in
      let count : ℕ = length (map main_piece uniforms) in
      let counted : count ≡ length uniforms = length-map uniforms main_piece in
      let sized : length kinds ≡ length types = length-map types Scalar in
      let code : List Instr = arguments_code kinds (map main_piece uniforms) a st.at in
      let at1 : ℕ = st.at + length code in
      let last : Instr = instr.Do made.number (result ∷ operands) count in
      let end : ℕ = st.at + length (code ++ last ∷ []) in
      let here = (has_back object.main.instrs st.at code (last ∷ []) has).0 in
      let fine : calls_fit object made.number (result ∷ operands) count fits_statement ≡ true = all_at (names_in_main object) object.main.instrs at1 last named here in
      runs_values object functions (fitted kinds) (length kinds) slots st.at state at1 end st.scope (length st.slots) (values_of (map meaning_of uniforms) (main_names state) state.world)
      (λ done. in_world (λ world. left_by (call_of instance (Some result) operands done.0 world)) done.1)
      (arguments_give object functions uniforms kinds (record { scope = st.scope; state = state; slots = slots; bound = length st.slots; agree = is.agree; callables = is.callables; tidy = is.tidy }) fit (sized ∙ n)
      st.at [] state.world (like_same state.world) (has_front object.main.instrs st.at code (last ∷ []) has))
      (λ values w size like.
      let given : List ℤ = fitted kinds values in
      let given_size : count ≡ length given = counted ∙ sym n ∙ sym sized ∙ sym (fitted-length kinds values size) in
      let values_size : count ≡ length values = counted ∙ sym n ∙ sym sized ∙ sym size in
      let s1 : State = record state { world = w } in
      let tidy1 = tidy_like object state.world w like is.tidy in
      let fine1 : calls_fit object made.number (result ∷ operands) (length given) fits_statement ≡ true = subst (λ k. calls_fit object made.number (result ∷ operands) k fits_statement ≡ true) given_size fine in
      let fine2 : calls_fit object made.number (result ∷ operands) (length values) fits_statement ≡ true = subst (λ k. calls_fit object made.number (result ∷ operands) k fits_statement ≡ true) values_size fine in
      let point : MainPoint = stands at1 (reverse given ++ []) slots w in
      let does = do_found made h.plan h.there result operands count given given_size at1 slots w
      ∙ ap (λ (o : Result (ℤ × World) Over). going_in point [] (world_after o)) (h.same result operands given w tidy1 fine1 ∙ call-converted instance types h.uniforms (Some result) operands values w)
      ∙ ap (λ (o : Result World Over). going_in point [] o) (left-after (call_of instance (Some result) operands values w)) in
      runs_world object functions slots at1 (reverse given ++ []) s1 end st.scope (length st.slots) last (left_by (call_of instance (Some result) operands values w)) here
      (omega (arith, length-append code (last ∷ []))) does is.agree is.callables
      (λ after e. tidy_left object w (call_of instance (Some result) operands values w) (h.leaves result operands values w tidy1 fine2) after e))

  abbrev call_emits : List ℕ → List Expr → Emitting
  call_emits name arguments = taking (do_code name arguments) (do_depth name arguments) (λ around standing. [])

  abbrev call_test : List ℕ → List Expr → Test
  call_test name arguments fs st = call_fits (bound_to name st.scope) arguments (around_at fs st)

  -- what is emitted for an instance by its name
  abbrev code_for : Option Named → List Expr → Around → ℕ → List Instr
  code_for n arguments around at = of_instance n (λ made.
      uniforms_code made (drop (suc (operands_of made)) (map main_piece arguments)) around at
      ++ instr.Do made.number (containers_of around (take (suc (operands_of made)) (map main_piece arguments))) (length (drop (suc (operands_of made)) (map main_piece arguments))) ∷ [])

  -- what is run for it
  abbrev run_for : Option Meant → Expr → List Expr → Running
  run_for m result arguments state = elim m as (λ x. Result State Over) [
    | Some meant ↦ elim meant as (λ x. Result State Over) [
      | tree.Called instance ↦ done_with instance (number_in state.scope (name_of result))
          (map (λ expr. number_in state.scope (name_of expr)) (take (operand_count instance) arguments)) (drop (operand_count instance) arguments) state
      | tree.Scalar ty value ↦ Ok state
      | tree.Whole number ty ↦ Ok state
    ]
    | None ↦ Ok state
  ]

  call_does : (name : List ℕ) (arguments : List Expr) → Does object functions judgements (λ before. call_run name arguments) (call_emits name arguments) (call_test name arguments)
  call_does name arguments st state before slots fit is held room has = by_arguments arguments fit has
    where
      by_named : (result : Expr) (rest : List Expr) (n : Option Named) (m : Option Meant) → AreNamed object n m slots (length st.slots) → call_fits n (result ∷ rest) (around_at functions st) ≡ true
          → HasAt object.main.instrs st.at (code_for n (result ∷ rest) (around_at functions st) st.at)
          → Runs object functions slots st.at [] state.world (st.at + length (code_for n (result ∷ rest) (around_at functions st) st.at)) st.scope (length st.slots) (run_for m result rest state)
      by_named result rest (Some (Called made)) (Some (tree.Called instance)) h fit =
          let a : Around = around_at functions st in
          let ops : ℕ = operands_of made in
          let types : List Ty = uniforms_taken made.skeleton made.elements made.kinds in
          let wholes : Bool = all_whole a (container_types made) (result ∷ take ops rest) in
          let counts : Bool = length (result ∷ rest) == suc ops + length types in
          let fit1 = and_left wholes counts (and_left (wholes && counts) (all_fit (map fits (drop ops rest)) a) fit) in
          let fit2 = same_number (length (result ∷ rest)) (suc ops + length types) (and_right wholes counts (and_left (wholes && counts) (all_fit (map fits (drop ops rest)) a) fit)) in
          let fit3 = and_right (wholes && counts) (all_fit (map fits (drop ops rest)) a) fit in
          let size : length (drop ops rest) ≡ length types = size-dropped ops (length types) rest (omega (arith, fit2)) in
          let dropped : drop ops (map main_piece rest) ≡ map main_piece (drop ops rest) = drop-map main_piece ops rest in
          let numbers : containers_of a (main_piece result ∷ take ops (map main_piece rest)) ≡ number_in state.scope (name_of result) ∷ map (λ expr. number_in state.scope (name_of expr)) (take ops rest) =
          ap (λ (l : List (Piece Around)). containers_of a (main_piece result ∷ l)) (take-map main_piece ops rest)
          ∙ numbers_same st state.scope slots (length st.slots) is.agree (container_types made) (result ∷ take ops rest) fit1 in
          let result_number : ℕ = number_in state.scope (name_of result) in
          subst (λ k. HasAt object.main.instrs st.at (code_for (Some (Called made)) (result ∷ rest) a st.at)
          → Runs object functions slots st.at [] state.world (st.at + length (code_for (Some (Called made)) (result ∷ rest) a st.at)) st.scope (length st.slots)
          (done_with instance result_number (map (λ expr. number_in state.scope (name_of expr)) (take k rest)) (drop k rest) state)) (sym h.operands)
          (subst (λ (us : List (Piece Around)). HasAt object.main.instrs st.at (uniforms_code made us a st.at ++ instr.Do made.number (containers_of a (main_piece result ∷ take ops (map main_piece rest))) (length us) ∷ [])
          → Runs object functions slots st.at [] state.world
          (st.at + length (uniforms_code made us a st.at ++ instr.Do made.number (containers_of a (main_piece result ∷ take ops (map main_piece rest))) (length us) ∷ [])) st.scope (length st.slots)
          (done_with instance result_number (map (λ expr. number_in state.scope (name_of expr)) (take ops rest)) (drop ops rest) state)) (sym dropped)
          (subst (λ (cs : List ℕ). HasAt object.main.instrs st.at (uniforms_code made (map main_piece (drop ops rest)) a st.at ++ instr.Do made.number cs (length (map main_piece (drop ops rest))) ∷ [])
          → Runs object functions slots st.at [] state.world
          (st.at + length (uniforms_code made (map main_piece (drop ops rest)) a st.at ++ instr.Do made.number cs (length (map main_piece (drop ops rest))) ∷ [])) st.scope (length st.slots)
          (done_with instance result_number (map (λ expr. number_in state.scope (name_of expr)) (take ops rest)) (drop ops rest) state)) (sym numbers)
          (λ has. calls made instance h result_number (map (λ expr. number_in state.scope (name_of expr)) (take ops rest)) (drop ops rest) st state before slots is fit3 (sym size) has)))
      by_named result rest (Some (Number slot ty)) m h fit = let no : ⊥ = cc in absurd no
      by_named result rest (Some (Whole container ty)) m h fit = let no : ⊥ = cc in absurd no
      by_named result rest None m h fit = let no : ⊥ = cc in absurd no
      by_named result rest n m h fit = absurd h

      -- a call has a result
      no_arguments : (n : Option Named) → call_fits n [] (around_at functions st) ≡ true → ⊥
      no_arguments (Some (Called made)) fit =
          let counts : Bool = 0 == suc (operands_of made) + length (uniforms_taken made.skeleton made.elements made.kinds) in
          let e = same_number 0 (suc (operands_of made) + length (uniforms_taken made.skeleton made.elements made.kinds))
          (and_right (all_whole (around_at functions st) (container_types made) []) counts (and_left (all_whole (around_at functions st) (container_types made) [] && counts) (all_fit [] (around_at functions st)) fit)) in
          omega (arith, e)
      no_arguments (Some (Number slot ty)) fit = let no : ⊥ = cc in no
      no_arguments (Some (Whole container ty)) fit = let no : ⊥ = cc in no
      no_arguments None fit = let no : ⊥ = cc in no

      by_arguments : (arguments : List Expr) → call_fits (bound_to name st.scope) arguments (around_at functions st) ≡ true
          → HasAt object.main.instrs st.at (code_for (bound_to name st.scope) arguments (around_at functions st) st.at ++ [])
          → Runs object functions slots st.at [] state.world (st.at + length (code_for (bound_to name st.scope) arguments (around_at functions st) st.at ++ [])) st.scope (length st.slots) (call_run name arguments state)
      by_arguments [] fit has = absurd (no_arguments (bound_to name st.scope) fit)
      by_arguments (result ∷ rest) fit has =
          let code : List Instr = code_for (bound_to name st.scope) (result ∷ rest) (around_at functions st) st.at in
          runs_to object functions slots st.at [] state.world (st.at + length code) (st.at + length (code ++ [])) st.scope (length st.slots) (call_run name (result ∷ rest) state) (ap (λ (l : List Instr). st.at + length l) (sym (append-nil code)))
          (by_named result rest (bound_to name st.scope) (bound_to name state.scope) (name_found object name st.scope state.scope slots (length st.slots) is.agree) fit
          (has_front object.main.instrs st.at code [] has))

  pub call_follows : (name : List ℕ) (arguments : List Expr) (line : ℕ) → IsFollowing (at_line (running_step judgements (what.Call name arguments)) line) (judge_step (what.Call name arguments) line)
  call_follows name arguments line = record {
    keeps = keeps_same object functions judgements (judge_step (what.Call name arguments) line) (λ st. omega arith) (λ st. refl) (λ st. omega arith) (λ st. refl) (λ st. refl);
    anywhere = λ e before other state. refl;
    does = counted_does object functions judgements line (λ before. call_run name arguments) (call_emits name arguments) (call_test name arguments) (call_does name arguments);
  }
