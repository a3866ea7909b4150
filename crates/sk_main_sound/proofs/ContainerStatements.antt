-- The code of statements about containers: one is made, an element is written, and an instance is called.
use Rattle.std.proofs.Common.{◌≡◌, ℕ, suc, ◌+◌, ◌≤◌, List, [], ◌∷◌, ◌++◌, length, map, reverse, take, drop, All, Option, Some, None, pos, slice_get, refl, sym, ap, ◌∙◌, subst, arith, length-append}
use Rattle.std.proofs.lemmas.Bool.{and_from}
use Rattle.std.proofs.lemmas.List.{length-map, length-reverse, length-take-le, take-append-drop, append-nil}
use Rattle.std.proofs.lemmas.List.Elements.{All-nil, All-cons}
use Rattle.std.specs.Prelude.{true, false, Bool, ◌&&◌, ◌||◌, ◌==◌}
use Rattle.sk_arguments.specs.Operands.{uniforms_taken}
use Rattle.sk_base.specs.declared.number.Ty.{Ty}
use Rattle.sk_base.specs.declared.number.Ty.TheVariants.{Int, Long}
use Rattle.sk_isa.specs.Soundness.{left_if}
use Rattle.sk_isa.specs.declared.code.Instr.{Instr}
use Rattle.sk_isa.specs.declared.code.Instr.TheVariants as instr
use Rattle.sk_isa.specs.declared.object.Object.{Object}
use Rattle.sk_main_code.specs.MainSoundness.{names_of_main}
use Rattle.sk_main_fits.specs.Fits.{fits, all_fit, is_whole}
use Rattle.sk_main_fits.specs.StatementFits.{Judged, all_whole, call_fits, container_types, judge_step, names_whole}
use Rattle.sk_main_names.proofs.Lists.{drop-map, size-dropped, take-map}
use Rattle.sk_main_names.proofs.Tests.{made_few, number_itself, poked_parts, same_number, whole_is}
use Rattle.sk_main_scheme.specs.MainScheme.{Around, Emitting, Made, Named, Number, Whole, Called, Standing, around_at, container_named, containers_of, do_code, do_depth, main_leaves, main_piece, make_code, of_instance, operands_of, poke_code, taking, type_in, uniforms_code}
use Rattle.sk_main_sound.proofs.Expressions.{HasKnown, IsSound as IsSoundValue, arguments_stretch, expression_sound, expressions_sound, own_types, parts_high, places_stretch, wanted_value}
use Rattle.sk_main_sound.proofs.Parts.{Part, counted_part, taking_part}
use Rattle.sk_main_sound.proofs.Scopes.{IsFound, InScope, live_in, name_found, none_live}
use Rattle.sk_main_sound.proofs.StatementNodes.{IsSound, Sounds, counted_sounds, grows_same}
use Rattle.sk_main_sound.proofs.Statements.{stack_taken}
use Rattle.sk_main_sound.proofs.Values.{Stretch, many_taken, number_piece, then_piece}
use Rattle.sk_meaning.specs.Evaluation.{kind_type}
use Rattle.sk_names.specs.Bindings.{bound_to}
use Rattle.sk_plain.proofs.Lists.{slice_get-seam, all_one}
use Rattle.sk_plain.proofs.Truths.{and_left, and_right}
use Rattle.sk_plain.specs.Plain.{fits_type}
use Rattle.sk_scheme.specs.Pieces.{Piece, parts_depth, piece_step, places_code, then_code, wanted_code}
use Rattle.sk_scheme.specs.Scheme.{Known}
use Rattle.sk_scheme_sound.proofs.SoundValues.{pushed}
use Rattle.sk_tree.specs.FoldLaws.{folds-Name}
use Rattle.sk_tree.specs.declared.declared.Declared.{Declared}
use Rattle.sk_tree.specs.declared.tree.Expr.{Expr}
use Rattle.sk_tree.specs.declared.tree.Expr.TheVariants as expression
use Rattle.sk_tree.specs.declared.tree.ParamKind.{ParamKind}
use Rattle.sk_tree.specs.declared.tree.ParamKind.TheVariants.{Scalar}
use Rattle.sk_tree.specs.declared.tree.What.TheOpen as what

zero_fits : (ty : Ty) → fits_type ty (pos 0) ≡ true
zero_fits Int = refl
zero_fits Long = refl

module _ (object : Object) (depth : ℕ) (functions : List (List ℕ × Known)) (known : HasKnown object functions) where
  abbrev Sound : Judged → Type 0
  Sound judged = IsSound object depth functions judged

  abbrev value_of : (e : Expr) → IsSoundValue object depth functions e
  value_of e = expression_sound object depth functions known e

  -- ---- how deep several values are

  deep_front : (es more : List Expr) (a : Around) → parts_depth (map main_piece es) a ≤ parts_depth (map main_piece (es ++ more)) a
  deep_front [] more a = omega arith
  deep_front (e ∷ es) more a = let rest = deep_front es more a in omega (arith, rest)

  deep_last : (es : List Expr) (e : Expr) (more : List Expr) (a : Around) → length es + (main_piece e).depth a ≤ parts_depth (map main_piece (es ++ e ∷ more)) a
  deep_last [] e more a = omega arith
  deep_last (x ∷ es) e more a = let rest = deep_last es e more a in omega (arith, rest)

  -- the types of expressions as they are
  abbrev types_of : List Expr → Around → List Ty
  types_of es a = own_types object depth functions (map main_piece es) a

  types_length : (es : List Expr) (a : Around) → length (types_of es a) ≡ length es
  types_length [] a = refl
  types_length (e ∷ es) a = ap suc (types_length es a)

  -- places as they are, and a value above them
  above_stretch : (es : List Expr) (ty : Ty) (e : Expr) (st : Standing) → InScope object st.scope → all_fit (map fits es) (around_at functions st) ≡ true → fits e (around_at functions st) ≡ true → (at : ℕ)
      → parts_depth (map main_piece es) (around_at functions st) ≤ depth → length es + (main_piece e).depth (around_at functions st) ≤ depth
      → Stretch object depth (live_in st.scope) at (then_code (places_code (map main_piece es) (around_at functions st) at) (wanted_code ty (main_piece e) (around_at functions st)) at)
      (at + length (then_code (places_code (map main_piece es) (around_at functions st) at) (wanted_code ty (main_piece e) (around_at functions st)) at)) [] (ty ∷ (reverse (types_of es (around_at functions st)) ++ []))
  above_stretch es ty e st s fit_es fit at low_es low =
      let a = around_at functions st in
      let tys : List Ty = types_of es a in
      let first : List Instr = places_code (map main_piece es) a at in
      let mid : ℕ = at + length first in
      let second : List Instr = wanted_code ty (main_piece e) a mid in
      let under : List Ty = reverse tys ++ [] in
      then_piece object depth (live_in st.scope) at mid (mid + length second) first second [] under (ty ∷ under)
      (places_stretch object depth functions (map main_piece es) (map fits es) (expressions_sound object depth functions known es) st.scope s fit_es at [] (omega (arith, low_es)))
      (wanted_value object depth functions ty (main_piece e) (fits e) (value_of e) st.scope s fit mid under
      (omega (arith, low, length-append (reverse tys) [], length-reverse tys, types_length es a)))

  whole_live : (n : Option Named) (live : ℕ → Bool) → IsFound object live n → is_whole n ≡ true
      → live (elim n as (λ x. ℕ) [ Some named ↦ elim named as (λ x. ℕ) [ Whole container ty ↦ container | Number slot ty ↦ 0 | Called made ↦ 0 ] | None ↦ 0 ]) ≡ true
  whole_live (Some (Whole container ty)) live there e = there.3
  whole_live (Some (Number slot ty)) live there e = let no : ⊥ = cc in absurd no
  whole_live (Some (Called made)) live there e = let no : ⊥ = cc in absurd no
  whole_live None live there e = let no : ⊥ = cc in absurd no

  -- ---- writing

  abbrev poke_emits : List ℕ → List Expr → Expr → Emitting
  poke_emits name places value = taking (poke_code name places value) (parts_depth (map main_piece (places ++ value ∷ []))) (λ around standing. instr.Poke (container_named around name) (length places) ∷ [])

  poke_sounds : (name : List ℕ) (places : List Expr) (value : Expr)
      → Sounds object depth functions (poke_emits name places value) (λ fs st. is_whole (bound_to name st.scope) && (length places == 1) && all_fit (map fits places) (around_at fs st) && fits value (around_at fs st))
  poke_sounds name places value st fit placed holds low =
      let a = around_at functions st in
      let p = poked_parts (is_whole (bound_to name st.scope)) (length places) (all_fit (map fits places) a) (fits value a) fit in
      let fine = p.value in
      let ty : Ty = type_in a name in
      let tys : List Ty = types_of places a in
      let code : List Instr = poke_code name places value a st.at in
      let container : ℕ = container_named a name in
      let i : Instr = instr.Poke container (length places) in
      let live = live_in st.scope in
      let front = deep_front places (value ∷ []) a in
      let last = deep_last places value [] a in
      let high = (value_of value).high st.scope placed.scoped fine in (
        taking_part object depth i st.at (st.at + length code) code (ty ∷ (reverse tys ++ [])) live live
            (above_stretch places ty value st placed.scoped p.places fine st.at (omega (arith, low, front)) (omega (arith, low, last)))
            (λ names. stack_taken (ty ∷ reverse tys) [] (suc (length places)) (names_of_main object i) [] (ap suc (sym (length-reverse tys ∙ types_length places a))) names)
            (omega (arith, low, last, high, length-append (reverse tys) [], length-reverse tys, types_length places a))
            (λ c e. let no : ⊥ = cc in absurd no) (all_one (λ c. live c ≡ true) container (whole_live (bound_to name st.scope) live (name_found object name st.scope placed.scoped) p.whole))
            (λ c. refl) refl tt,
        record { scoped = placed.scoped; below = placed.below },
      )

  pub poke_sound : (name : List ℕ) (places : List Expr) (value : Expr) (line : ℕ) → Sound (judge_step (what.Poke name places value) line)
  poke_sound name places value line = record {
    grows = grows_same object depth functions (judge_step (what.Poke name places value) line) (λ st. omega arith) (λ st. refl) (λ st. refl) (λ st. refl);
    part = counted_sounds object depth functions line (poke_emits name places value)
        (λ fs st. is_whole (bound_to name st.scope) && (length places == 1) && all_fit (map fits places) (around_at fs st) && fits value (around_at fs st)) (poke_sounds name places value);
  }

  -- ---- making

  all_fit_front : (es more : List Expr) (a : Around) → all_fit (map fits (es ++ more)) a ≡ true → all_fit (map fits es) a ≡ true
  all_fit_front [] more a e = refl
  all_fit_front (x ∷ es) more a e =
      and_from (fits x a) (all_fit (map fits es) a) (and_left (fits x a) (all_fit (map fits (es ++ more)) a) e) (all_fit_front es more a (and_right (fits x a) (all_fit (map fits (es ++ more)) a) e))

  all_fit_last : (es : List Expr) (e : Expr) (more : List Expr) (a : Around) → all_fit (map fits (es ++ e ∷ more)) a ≡ true → fits e a ≡ true
  all_fit_last [] e more a is = and_left (fits e a) (all_fit (map fits more) a) is
  all_fit_last (x ∷ es) e more a is = all_fit_last es e more a (and_right (fits x a) (all_fit (map fits (es ++ e ∷ more)) a) is)

  abbrev filled_code : Ty → List Expr → List Expr → Around → ℕ → List Instr
  filled_code ty front back a at = elim back as (λ x. List Instr) [
    | [] ↦ places_code (map main_piece front) a at ++ instr.Push (pos 0) ∷ []
    | fill ∷ more ↦ then_code (places_code (map main_piece front) a at) (wanted_code ty (main_piece fill) a) at
  ]

  -- sizes and the fill value
  filled_stretch : (ty : Ty) (front back : List Expr) (st : Standing) → InScope object st.scope → all_fit (map fits (front ++ back)) (around_at functions st) ≡ true → (at : ℕ)
      → suc (length front) ≤ depth → parts_depth (map main_piece (front ++ back)) (around_at functions st) ≤ depth
      → Stretch object depth (live_in st.scope) at (filled_code ty front back (around_at functions st) at) (at + length (filled_code ty front back (around_at functions st) at)) []
      (ty ∷ (reverse (types_of front (around_at functions st)) ++ []))
  filled_stretch ty front [] st s fit at room low =
      let a = around_at functions st in
      let tys : List Ty = types_of front a in
      let first : List Instr = places_code (map main_piece front) a at in
      let mid : ℕ = at + length first in
      let under : List Ty = reverse tys ++ [] in
      let deep = deep_front front [] a in
      then_piece object depth (live_in st.scope) at mid (mid + 1) first (instr.Push (pos 0) ∷ []) [] under (ty ∷ under)
      (places_stretch object depth functions (map main_piece front) (map fits front) (expressions_sound object depth functions known front) st.scope s (all_fit_front front [] a fit) at [] (omega (arith, low, deep)))
      (number_piece object depth (live_in st.scope) ty (pos 0) mid under (omega (arith, room, length-append (reverse tys) [], length-reverse tys, types_length front a)) (zero_fits ty))
  filled_stretch ty front (fill ∷ more) st s fit at room low =
      let a = around_at functions st in
      let deep = deep_front front (fill ∷ more) a in
      let last = deep_last front fill more a in
      above_stretch front ty fill st s (all_fit_front front (fill ∷ more) a fit) (all_fit_last front fill more a fit) at (omega (arith, low, deep)) (omega (arith, low, last))

  enough : (n kind : ℕ) → (n == kind || n == suc kind) ≡ true → kind ≤ n
  enough n kind e = by_case (n == kind) refl e
    where
      by_case : (b : Bool) → (n == kind) ≡ b → (b || n == suc kind) ≡ true → kind ≤ n
      by_case true is e = let same = same_number n kind is in omega (arith, same)
      by_case false is e = let same = same_number n (suc kind) e in omega (arith, same)

  pub make_sound : (kind : ℕ) (ty : Ty) (name : List ℕ) (arguments : List Expr) (line : ℕ) → Sound (judge_step (what.Make kind ty name arguments) line)
  make_sound kind ty name arguments line = record {
    grows = record {
      at = λ st. omega arith;
      scope = λ st. ((name, Whole (length st.containers) ty) ∷ [], refl);
      slots = λ st. ([], sym (append-nil st.slots));
      containers = λ st. (record { name = name; kind = kind; ty = ty } ∷ [], refl);
      light = λ e st. let no : ⊥ = cc in absurd no;
      step = λ e st. let no : ⊥ = cc in absurd no;
    };
    part = λ st fit placed holds low.
        let a = around_at functions st in
        let number : ℕ = length st.containers in
        let declared : Declared = record { name = name; kind = kind; ty = ty } in
        let front : List Expr = take kind arguments in
        let back : List Expr = drop kind arguments in
        let count : Bool = (kind == 1) && (length arguments == 1 || length arguments == 2) in
        let counts = made_few kind (length arguments) (and_left count (all_fit (map fits arguments) a) fit) in
        let fine = and_right count (all_fit (map fits arguments) a) fit in
        let all_is : front ++ back ≡ arguments = take-append-drop kind arguments in
        let fine_all : all_fit (map fits (front ++ back)) a ≡ true = ap (λ (es : List Expr). all_fit (map fits es) a) all_is ∙ fine in
        let deep : parts_depth (map main_piece (front ++ back)) a ≡ parts_depth (map main_piece arguments) a = ap (λ (es : List Expr). parts_depth (map main_piece es) a) all_is in
        let size : length front ≡ kind = length-take-le kind arguments (enough (length arguments) kind counts) in
        let tys : List Ty = types_of front a in
        let at1 : ℕ = st.at + 1 in
        let code : List Instr = make_code ty kind arguments a at1 in
        let i : Instr = instr.Make number kind ty kind in
        let live = live_in st.scope in
        let more = live_in ((name, Whole number ty) ∷ st.scope) in
        let there : slice_get object.containers number ≡ Some declared = holds.containers number declared (slice_get-seam st.containers declared []) in
        let f = filled_stretch ty front back st placed.scoped fine_all at1 (omega (arith, low, size)) (omega (arith, low, deep)) in
        let made : Part object depth at1 (code ++ i ∷ []) (at1 + length (code ++ i ∷ [])) live more =
        taking_part object depth i at1 (at1 + length code) code (ty ∷ (reverse tys ++ [])) live more f
        (λ names. stack_taken (ty ∷ reverse tys) [] (suc kind) (names_of_main object i) [] (ap suc (sym (length-reverse tys ∙ types_length front a ∙ size))) names)
        (omega (arith, low, length-append (reverse tys) [], length-reverse tys, types_length front a, size))
        (λ container e. let same : number ≡ container = cc in none_live number container st.scope (omega (arith, same)) placed.below)
        (All-nil (λ container. live container ≡ true)) (λ container. refl) refl tt in (
          counted_part object depth line st.at (at1 + length (code ++ i ∷ [])) (code ++ i ∷ []) live more made,
          record { scoped = ((declared, there, refl, number_itself number), placed.scoped); below = (omega (arith, length-append st.containers (declared ∷ [])), placed.below) },
        );
  }

  -- ---- calls

  -- an argument that is a container
  one_live : (st : Standing) → InScope object st.scope → (ty : Ty) (e : Expr) → names_whole (around_at functions st) ty e ≡ true → live_in st.scope (container_named (around_at functions st) (main_piece e).name) ≡ true
  one_live st s ty (expression.Name name) whole =
      ap (λ (p : Piece Around). live_in st.scope (container_named (around_at functions st) p.name)) (folds-Name (piece_step main_leaves) name)
      ∙ whole_live (bound_to name st.scope) (live_in st.scope) (name_found object name st.scope s) (whole_is ty (bound_to name st.scope) whole)
  one_live st s ty e whole = let no : ⊥ = cc in absurd no

  -- the containers of a call
  all_live : (st : Standing) → InScope object st.scope → (types : List Ty) (es : List Expr) → all_whole (around_at functions st) types es ≡ true
      → All (λ container. live_in st.scope container ≡ true) (containers_of (around_at functions st) (map main_piece es))
  all_live st s [] [] whole = All-nil (λ container. live_in st.scope container ≡ true)
  all_live st s [] (e ∷ es) whole = let no : ⊥ = cc in absurd no
  all_live st s (ty ∷ types) [] whole = let no : ⊥ = cc in absurd no
  all_live st s (ty ∷ types) (e ∷ es) whole =
      let a = around_at functions st in
      All-cons (λ container. live_in st.scope container ≡ true) (container_named a (main_piece e).name) (containers_of a (map main_piece es))
      (one_live st s ty e (and_left (names_whole a ty e) (all_whole a types es) whole)) (all_live st s types es (and_right (names_whole a ty e) (all_whole a types es) whole))

  -- what is compiled for an instance
  abbrev call_code : Made → List Expr → Around → ℕ → List Instr
  call_code made arguments a at =
      uniforms_code made (drop (suc (operands_of made)) (map main_piece arguments)) a at
      ++ instr.Do made.number (containers_of a (take (suc (operands_of made)) (map main_piece arguments))) (length (drop (suc (operands_of made)) (map main_piece arguments))) ∷ []

  abbrev call_depth : Option Named → List Expr → Around → ℕ
  call_depth n arguments a = elim n as (λ x. ℕ) [
    | Some named ↦ elim named as (λ x. ℕ) [
      | Called made ↦ parts_depth (drop (suc (operands_of made)) (map main_piece arguments)) a
      | Number slot ty ↦ 0
      | Whole container ty ↦ 0
    ]
    | None ↦ 0
  ]

  -- the uniform arguments, and the call
  made_part : (made : Made) (arguments : List Expr) (st : Standing) → InScope object st.scope → call_fits (Some (Called made)) arguments (around_at functions st) ≡ true
      → parts_depth (drop (suc (operands_of made)) (map main_piece arguments)) (around_at functions st) ≤ depth → (at : ℕ)
      → Part object depth at (call_code made arguments (around_at functions st) at) (at + length (call_code made arguments (around_at functions st) at)) (live_in st.scope) (live_in st.scope)
  made_part made arguments st s fit low at =
      let a = around_at functions st in
      let count : ℕ = suc (operands_of made) in
      let types : List Ty = uniforms_taken made.skeleton made.elements made.kinds in
      let kinds : List ParamKind = map Scalar types in
      let uniforms : List Expr = drop count arguments in
      let whole_test : Bool = all_whole a (container_types made) (take count arguments) in
      let length_test : Bool = length arguments == count + length types in
      let fit_test : Bool = all_fit (map fits uniforms) a in
      let head = and_left (whole_test && length_test) fit_test fit in
      let fine : fit_test ≡ true = and_right (whole_test && length_test) fit_test fit in
      let whole : whole_test ≡ true = and_left whole_test length_test head in
      let sizes = same_number (length arguments) (count + length types) (and_right whole_test length_test head) in
      let size : length uniforms ≡ length types = size-dropped count (length types) arguments sizes in
      let pieces_are : drop count (map main_piece arguments) ≡ map main_piece uniforms = drop-map main_piece count arguments in
      let wholes_are : take count (map main_piece arguments) ≡ map main_piece (take count arguments) = take-map main_piece count arguments in
      let live = live_in st.scope in
      subst (λ (us : List (Piece Around)). Part object depth at (uniforms_code made us a at ++ instr.Do made.number (containers_of a (take count (map main_piece arguments))) (length us) ∷ [])
      (at + length (uniforms_code made us a at ++ instr.Do made.number (containers_of a (take count (map main_piece arguments))) (length us) ∷ [])) live live) (sym pieces_are)
      (subst (λ (ws : List (Piece Around)). Part object depth at (uniforms_code made (map main_piece uniforms) a at ++ instr.Do made.number (containers_of a ws) (length (map main_piece uniforms)) ∷ [])
      (at + length (uniforms_code made (map main_piece uniforms) a at ++ instr.Do made.number (containers_of a ws) (length (map main_piece uniforms)) ∷ [])) live live) (sym wholes_are)
      (done_part made (take count arguments) uniforms kinds refl (length-map types Scalar ∙ sym size ∙ sym (length-map uniforms main_piece)) st s whole fine
      (subst (λ (us : List (Piece Around)). parts_depth us a ≤ depth) pieces_are low) at))
    where
      done_part : (made : Made) (wholes uniforms : List Expr) (kinds : List ParamKind) → kinds ≡ map Scalar (uniforms_taken made.skeleton made.elements made.kinds) → length (map Scalar (uniforms_taken made.skeleton made.elements made.kinds)) ≡ length (map main_piece uniforms)
          → (st : Standing) → InScope object st.scope → all_whole (around_at functions st) (container_types made) wholes ≡ true → all_fit (map fits uniforms) (around_at functions st) ≡ true
          → parts_depth (map main_piece uniforms) (around_at functions st) ≤ depth → (at : ℕ)
          → Part object depth at
          (uniforms_code made (map main_piece uniforms) (around_at functions st) at ++ instr.Do made.number (containers_of (around_at functions st) (map main_piece wholes)) (length (map main_piece uniforms)) ∷ [])
          (at + length (uniforms_code made (map main_piece uniforms) (around_at functions st) at ++ instr.Do made.number (containers_of (around_at functions st) (map main_piece wholes)) (length (map main_piece uniforms)) ∷ []))
          (live_in st.scope) (live_in st.scope)
      done_part made wholes uniforms kinds is n st s whole fine low at =
          let a = around_at functions st in
          let live = live_in st.scope in
          let ks : List ParamKind = map Scalar (uniforms_taken made.skeleton made.elements made.kinds) in
          let code : List Instr = uniforms_code made (map main_piece uniforms) a at in
          let i : Instr = instr.Do made.number (containers_of a (map main_piece wholes)) (length (map main_piece uniforms)) in
          let fs : List Ty = map kind_type ks in
          let size : length (map main_piece uniforms) ≡ length fs = sym n ∙ sym (length-map ks kind_type) in
          let high = parts_high object depth functions (map main_piece uniforms) a in
          taking_part object depth i at (at + length code) code (pushed ks []) live live
          (arguments_stretch object depth functions (map main_piece uniforms) (map fits uniforms) (expressions_sound object depth functions known uniforms) ks n st.scope s fine at [] (omega (arith, low)))
          (λ names. many_taken fs [] (length (map main_piece uniforms)) (λ given rest. left_if (names_of_main object i) rest) size ∙ ap (λ (b : Bool). left_if b []) names)
          (omega (arith, low, high, size, length-append (reverse fs) [], length-reverse fs))
          (λ c e. let no : ⊥ = cc in absurd no) (all_live st s (container_types made) wholes whole) (λ c. refl) refl tt

  call_part : (n : Option Named) (arguments : List Expr) (st : Standing) → InScope object st.scope → call_fits n arguments (around_at functions st) ≡ true
      → call_depth n arguments (around_at functions st) ≤ depth → (at : ℕ)
      → Part object depth at (of_instance n (λ made. call_code made arguments (around_at functions st) at)) (at + length (of_instance n (λ made. call_code made arguments (around_at functions st) at)))
      (live_in st.scope) (live_in st.scope)
  call_part (Some (Called made)) arguments st s fit low at = made_part made arguments st s fit low at
  call_part (Some (Number slot ty)) arguments st s fit low at = let no : ⊥ = cc in absurd no
  call_part (Some (Whole container ty)) arguments st s fit low at = let no : ⊥ = cc in absurd no
  call_part None arguments st s fit low at = let no : ⊥ = cc in absurd no

  abbrev call_emits : List ℕ → List Expr → Emitting
  call_emits name arguments = taking (do_code name arguments) (do_depth name arguments) (λ around standing. [])

  call_sounds : (name : List ℕ) (arguments : List Expr) → Sounds object depth functions (call_emits name arguments) (λ fs st. call_fits (bound_to name st.scope) arguments (around_at fs st))
  call_sounds name arguments st fit placed holds low =
      let a = around_at functions st in
      let code : List Instr = do_code name arguments a st.at in (
        subst (λ (l : List Instr). Part object depth st.at l (st.at + length l) (live_in st.scope) (live_in st.scope)) (sym (append-nil code))
            (call_part (bound_to name st.scope) arguments st placed.scoped fit low st.at),
        record { scoped = placed.scoped; below = placed.below },
      )

  pub call_sound : (name : List ℕ) (arguments : List Expr) (line : ℕ) → Sound (judge_step (what.Call name arguments) line)
  call_sound name arguments line = record {
    grows = grows_same object depth functions (judge_step (what.Call name arguments) line) (λ st. omega arith) (λ st. refl) (λ st. refl) (λ st. refl);
    part = counted_sounds object depth functions line (call_emits name arguments) (λ fs st. call_fits (bound_to name st.scope) arguments (around_at fs st)) (call_sounds name arguments);
  }
