-- The code of an expression of main gives the expression's value.
use Rattle.std.proofs.Common.{◌≡◌, ℕ, suc, ◌+◌, List, [], ◌∷◌, ◌++◌, length, map, reverse, ℤ, pos, Option, Some, None, refl, sym, ap, ◌∙◌, subst, arith, length-append}
use Rattle.std.specs.Prelude.{Result, Ok, Err, IfOk, true, false, ◌&&◌, ◌==◌}
use Rattle.sk_base.specs.Arithmetic.{InRange, wrapped, op_of}
use Rattle.sk_base.specs.declared.number.Op.{Op}
use Rattle.sk_base.specs.declared.number.Trap.{Trap}
use Rattle.sk_base.specs.declared.number.Ty.{Ty}
use Rattle.sk_base.specs.declared.number.Ty.TheVariants.{Int}
use Rattle.sk_isa.specs.Configurations.{returning}
use Rattle.sk_isa.specs.Objects.{signature_at, invoked}
use Rattle.sk_isa.specs.declared.code.Instr.{Instr}
use Rattle.sk_isa.specs.declared.code.Instr.TheVariants as instr
use Rattle.sk_isa.specs.declared.object.Object.{Object}
use Rattle.sk_main_fits.specs.Fits.{Fit, fits, fit_step, all_fit, applied_fits, is_whole}
use Rattle.sk_main_names.proofs.Tests.{same_number}
use Rattle.sk_main_run.specs.MainNames.{Meant, State, main_names, scalar_of}
use Rattle.sk_main_run.specs.MainNames as tree
use Rattle.sk_main_runs.proofs.Arguments.{IsGiven, GivesMany, more_gives, same_gives, many_found, applied_gives}
use Rattle.sk_main_runs.proofs.ExpressionNodes.{prefix_gives, wanted_gives, push_gives, both_gives, either_gives, choice_gives, binary_gives}
use Rattle.sk_main_runs.proofs.Leaves.{loads, method_type_is, name_type_is, sizes}
use Rattle.sk_main_runs.proofs.Names.{name_found}
use Rattle.sk_main_runs.proofs.Runs.{IsLike, like_same, like_on, stands, leads_same, Gives, widened}
use Rattle.sk_main_runs.proofs.Tidy.{tidy_like, read_given}
use Rattle.sk_main_runs.specs.SameMeaning.{Agree, AreNamed, AreFunction, FunctionsAgree, IsTidy, fitted}
use Rattle.sk_main_scheme.specs.MainScheme.{Around, Named, Number, Whole, Called, main_piece, main_leaves, applied_code, applied_type}
use Rattle.sk_meaning.specs.Evaluation.{Callable, Value, kind_type, value_of}
use Rattle.sk_meaning.specs.Expressions.{ExpressionMeaning, meaning_of, meaning_step, values_of, then_do, raised, wider, operation_type, result_type, prefix_type, prefix_of}
use Rattle.sk_names.specs.Bindings.{bound_to}
use Rattle.sk_plain.proofs.Parts.{exprs_of}
use Rattle.sk_tree.specs.Parameters.{is_container_method}
use Rattle.sk_plain.proofs.Truths.{and_left, and_right}
use Rattle.sk_scheme.specs.Pieces.{Piece, narrowed, prefix_code, piece_step, wanted_code, places_code, arguments_code}
use Rattle.sk_scheme.specs.Scheme.{Known}
use Rattle.sk_scheme_runs.proofs.ExpressionNodes.{wider_left, wider_right}
use Rattle.sk_scheme_runs.proofs.ExpressionRuns.{number-in_range}
use Rattle.sk_scheme_runs.proofs.Runs.{HasAt, has_front, has_back}
use Rattle.sk_tree.specs.declared.tree.Expr.{Expr, Expr-F, roll-Expr, map-Expr, fold-roll-Expr, ind-Expr}
use Rattle.sk_tree.specs.declared.tree.Expr.TheOpen as layer
use Rattle.sk_tree.specs.declared.tree.ParamKind.{ParamKind}
use Rattle.sk_tree.specs.declared.tree.Un.{Un}
use Rattle.sk_world.specs.World.{World, Over, read, valued}

abbrev Meaning : Type 0
Meaning = ExpressionMeaning World Over

pub fitted-length : (kinds : List ParamKind) (values : List ℤ) → length values ≡ length kinds → length (fitted kinds values) ≡ length kinds
fitted-length [] [] e = refl
fitted-length [] (value ∷ values) e = absurd (omega (arith, e))
fitted-length (kind ∷ kinds) [] e = e
fitted-length (kind ∷ kinds) (value ∷ values) e = ap suc (fitted-length kinds values (omega (arith, e)))

valued_given : (ty : Ty) (world : World) (o : Result ℤ Trap) → IfOk o (λ value. InRange ty value) → IsGiven ty world (valued o world)
valued_given ty world (Ok value) h = (h, like_same world)
valued_given ty world (Err trap) h = tt

module _ (object : Object) (functions : List (List ℕ × Known)) where
  -- where an expression stands: the names in scope of the scheme and of the tree, and the slots
  pub record Situation : Type 0 where
    pub scope : List (List ℕ × Named)
    pub state : State
    pub slots : List ℤ
    pub bound : ℕ
    pub agree : Agree object scope state.scope slots bound
    pub callables : FunctionsAgree object functions state.callables
    pub tidy : IsTidy object state.world

  abbrev pub around_of : Situation → Around
  around_of s = record { functions = functions; scope = s.scope }

  -- an expression's code gives its value where it fits
  pub record IsCompiled (m : Meaning) (c : Piece Around) (fit : Fit) : Type 0 where
    pub ty : (s : Situation) → fit (around_of s) ≡ true → m.ty (main_names s.state) ≡ c.ty (around_of s)
    pub gives : (s : Situation) → fit (around_of s) ≡ true → (at : ℕ) (stack : List ℤ) (world : World) → IsLike s.state.world world
        → HasAt object.main.instrs at (c.code (around_of s) at)
        → Gives object (c.ty (around_of s)) s.slots at stack world (at + length (c.code (around_of s) at)) stack (m.value (main_names s.state) world)

  named_at : (s : Situation) (name : List ℕ) → AreNamed object (bound_to name s.scope) (bound_to name s.state.scope) s.slots s.bound
  named_at s name = name_found object name s.scope s.state.scope s.slots s.bound s.agree

  number_compiled : (ty : Ty) (number : ℤ) → IsCompiled (meaning_step (layer.Number ty number)) (piece_step main_leaves (layer.Number ty number)) (fit_step (layer.Number ty number))
  number_compiled ty number = record {
    ty = λ s fit. refl;
    gives = λ s fit at stack world like has. push_gives object ty number s.slots at (at + 1) stack world has.0 (omega arith) (number-in_range ty number fit);
  }

  -- ---- names

  name_compiled : (name : List ℕ) → IsCompiled (meaning_step (layer.Name name)) (piece_step main_leaves (layer.Name name)) (fit_step (layer.Name name))
  name_compiled name = record {
    ty = λ s fit. name_type_is object (bound_to name s.scope) (bound_to name s.state.scope) s.slots s.bound (named_at s name) fit;
    gives = λ s fit at stack world like has. loads object (bound_to name s.scope) (bound_to name s.state.scope) s.slots s.bound (named_at s name) fit at stack world has;
  }

  -- ---- sizes

  method_compiled : (name method : List ℕ) → IsCompiled (meaning_step (layer.Method name method)) (piece_step main_leaves (layer.Method name method)) (fit_step (layer.Method name method))
  method_compiled name method = record {
    ty = λ s fit. method_type_is object (bound_to name s.scope) method;
    gives = λ s fit at stack world like has.
        sizes object (bound_to name s.scope) (bound_to name s.state.scope) s.slots s.bound method (named_at s name)
        (and_left (is_whole (bound_to name s.scope)) (is_container_method 1 method) fit) s.state.world at stack world like
        (tidy_like object s.state.world world like s.tidy) has;
  }

  -- ---- operators

  unary_compiled : (op : Un) (m : Meaning) (c : Piece Around) (p : Fit) → IsCompiled m c p
      → IsCompiled (meaning_step (layer.Unary op m)) (piece_step main_leaves (layer.Unary op c)) (fit_step (layer.Unary op p))
  unary_compiled op m c p is = record {
    ty = λ s fit. ap (prefix_type op) (is.ty s fit);
    gives = λ s fit at stack world like has.
        let code = c.code (around_of s) at in
        subst (λ (t : Ty). Gives object (prefix_type op (c.ty (around_of s))) s.slots at stack world (at + length (code ++ prefix_code op (c.ty (around_of s)) ∷ [])) stack
        (then_do (m.value (main_names s.state) world) (λ a w. Ok (prefix_of op t a, w)))) (sym (is.ty s fit))
        (prefix_gives object op (c.ty (around_of s)) code s.slots at stack world (m.value (main_names s.state) world) has
        (is.gives s fit at stack world like (has_front object.main.instrs at code _ has)));
  }

  cast_compiled : (ty : Ty) (m : Meaning) (c : Piece Around) (p : Fit) → IsCompiled m c p
      → IsCompiled (meaning_step (layer.Cast ty m)) (piece_step main_leaves (layer.Cast ty c)) (fit_step (layer.Cast ty p))
  cast_compiled ty m c p is = record {
    ty = λ s fit. refl;
    gives = λ s fit at stack world like has.
        let code = c.code (around_of s) at in
        wanted_gives object ty (c.ty (around_of s)) code s.slots at stack world (m.value (main_names s.state) world) has
        (is.gives s fit at stack world like (has_front object.main.instrs at code _ has));
  }

  binary_compiled : (op : Op) (ml mr : Meaning) (cl cr : Piece Around) (pl pr : Fit) → IsCompiled ml cl pl → IsCompiled mr cr pr
      → IsCompiled (meaning_step (layer.Binary op ml mr)) (piece_step main_leaves (layer.Binary op cl cr)) (fit_step (layer.Binary op pl pr))
  binary_compiled op ml mr cl cr pl pr is_l is_r = record { ty = types; gives = computes }
    where
      types : (s : Situation) → (pl (around_of s) && pr (around_of s)) ≡ true
          → result_type op (ml.ty (main_names s.state)) (mr.ty (main_names s.state)) ≡ result_type op (cl.ty (around_of s)) (cr.ty (around_of s))
      types s fit =
          ap (λ t. result_type op t (mr.ty (main_names s.state))) (is_l.ty s (and_left (pl (around_of s)) (pr (around_of s)) fit))
          ∙ ap (result_type op (cl.ty (around_of s))) (is_r.ty s (and_right (pl (around_of s)) (pr (around_of s)) fit))

      computes : (s : Situation) → (pl (around_of s) && pr (around_of s)) ≡ true → (at : ℕ) (stack : List ℤ) (world : World) → IsLike s.state.world world
          → HasAt object.main.instrs at ((piece_step main_leaves (layer.Binary op cl cr)).code (around_of s) at)
          → Gives object (result_type op (cl.ty (around_of s)) (cr.ty (around_of s))) s.slots at stack world
          (at + length ((piece_step main_leaves (layer.Binary op cl cr)).code (around_of s) at)) stack
          ((meaning_step (layer.Binary op ml mr)).value (main_names s.state) world)
      computes s fit at stack world like has =
          let a = around_of s in
          let l = and_left (pl a) (pr a) fit in
          let r = and_right (pl a) (pr a) fit in
          let e : operation_type op (ml.ty (main_names s.state)) (mr.ty (main_names s.state)) ≡ operation_type op (cl.ty a) (cr.ty a) =
          ap (λ t. operation_type op t (mr.ty (main_names s.state))) (is_l.ty s l) ∙ ap (operation_type op (cl.ty a)) (is_r.ty s r) in
          subst (λ (t : Ty). Gives object (result_type op (cl.ty a) (cr.ty a)) s.slots at stack world (at + length ((piece_step main_leaves (layer.Binary op cl cr)).code a at)) stack
          (then_do (ml.value (main_names s.state) world) (λ x w. then_do (mr.value (main_names s.state) w) (λ y w. raised (main_names s.state) (op_of op t x y) w)))) (sym e)
          (binary_gives object s.state op (cl.ty a) (cr.ty a) (cl.code a) (cr.code a) s.slots at stack world (ml.value (main_names s.state) world) (mr.value (main_names s.state)) has
          (λ h. is_l.gives s l at stack world like h)
          (λ to w x like2 h. is_r.gives s r to (x ∷ stack) w (like_on s.state.world world w like like2) h))

  both_compiled : (ml mr : Meaning) (cl cr : Piece Around) (pl pr : Fit) → IsCompiled ml cl pl → IsCompiled mr cr pr
      → IsCompiled (meaning_step (layer.Both ml mr)) (piece_step main_leaves (layer.Both cl cr)) (fit_step (layer.Both pl pr))
  both_compiled ml mr cl cr pl pr is_l is_r = record {
    ty = λ s fit. refl;
    gives = λ s fit at stack world like has.
        let a = around_of s in
        both_gives object (cl.ty a) (cr.ty a) (cl.code a) (cr.code a) s.slots at stack world (ml.value (main_names s.state) world) (mr.value (main_names s.state)) has
        (λ h. is_l.gives s (and_left (pl a) (pr a) fit) at stack world like h)
        (λ to w like2 h. is_r.gives s (and_right (pl a) (pr a) fit) to stack w (like_on s.state.world world w like like2) h);
  }

  either_compiled : (ml mr : Meaning) (cl cr : Piece Around) (pl pr : Fit) → IsCompiled ml cl pl → IsCompiled mr cr pr
      → IsCompiled (meaning_step (layer.Either ml mr)) (piece_step main_leaves (layer.Either cl cr)) (fit_step (layer.Either pl pr))
  either_compiled ml mr cl cr pl pr is_l is_r = record {
    ty = λ s fit. refl;
    gives = λ s fit at stack world like has.
        let a = around_of s in
        either_gives object (cl.ty a) (cr.ty a) (cl.code a) (cr.code a) s.slots at stack world (ml.value (main_names s.state) world) (mr.value (main_names s.state)) has
        (λ h. is_l.gives s (and_left (pl a) (pr a) fit) at stack world like h)
        (λ to w like2 h. is_r.gives s (and_right (pl a) (pr a) fit) to stack w (like_on s.state.world world w like like2) h);
  }

  choose_compiled : (mt m1 m2 : Meaning) (ct c1 c2 : Piece Around) (pt p1 p2 : Fit) → IsCompiled mt ct pt → IsCompiled m1 c1 p1 → IsCompiled m2 c2 p2
      → IsCompiled (meaning_step (layer.Choose mt m1 m2)) (piece_step main_leaves (layer.Choose ct c1 c2)) (fit_step (layer.Choose pt p1 p2))
  choose_compiled mt m1 m2 ct c1 c2 pt p1 p2 is_t is_1 is_2 = record {
    ty = λ s fit.
        let a = around_of s in
        ap (λ t. wider t (m2.ty (main_names s.state))) (is_1.ty s (and_right (pt a) (p1 a) (and_left (pt a && p1 a) (p2 a) fit)))
        ∙ ap (wider (c1.ty a)) (is_2.ty s (and_right (pt a && p1 a) (p2 a) fit));
    gives = λ s fit at stack world like has.
        let a = around_of s in
        let x = and_left (pt a && p1 a) (p2 a) fit in
        let later : (w : World) → IsLike world w → IsLike s.state.world w = λ w like2. like_on s.state.world world w like like2 in
        choice_gives object (ct.ty a) (wider (c1.ty a) (c2.ty a)) (ct.code a) (c1.code a) (c2.code a) s.slots at stack world
        (mt.value (main_names s.state) world) (m1.value (main_names s.state)) (m2.value (main_names s.state)) has
        (λ h. is_t.gives s (and_left (pt a) (p1 a) x) at stack world like h)
        (λ to w like2 h. widened object (c1.ty a) (wider (c1.ty a) (c2.ty a)) s.slots to _ stack stack w (m1.value (main_names s.state) w) (wider_left (c1.ty a) (c2.ty a))
        (is_1.gives s (and_right (pt a) (p1 a) x) to stack w (later w like2) h))
        (λ to w like2 h. widened object (c2.ty a) (wider (c1.ty a) (c2.ty a)) s.slots to _ stack stack w (m2.value (main_names s.state) w) (wider_right (c1.ty a) (c2.ty a))
        (is_2.gives s (and_right (pt a && p1 a) (p2 a) fit) to stack w (later w like2) h));
  }

  -- ---- what is applied

  -- the code of an expression gives its value
  abbrev pub IsRun : Expr → Type 0
  IsRun e = IsCompiled (meaning_of e) (main_piece e) (fits e)

  abbrev Parts : Type 0
  Parts = List ((e : Expr) × IsRun e)

  abbrev pieces : Parts → List (Piece Around)
  pieces ys = map main_piece (exprs_of ys)

  abbrev parts_fit : Parts → List Fit
  parts_fit ys = map fits (exprs_of ys)

  pieces-length : (ys : Parts) → length (pieces ys) ≡ length ys
  pieces-length [] = refl
  pieces-length (y ∷ ys) = ap suc (pieces-length ys)

  fits-length : (ys : Parts) → length (parts_fit ys) ≡ length ys
  fits-length [] = refl
  fits-length (y ∷ ys) = ap suc (fits-length ys)

  pub places_compiled : (ys : Parts) (s : Situation) → all_fit (parts_fit ys) (around_of s) ≡ true
      → (at : ℕ) (stack : List ℤ) (world : World) → IsLike s.state.world world → HasAt object.main.instrs at (places_code (pieces ys) (around_of s) at)
      → GivesMany object (λ vs. vs) (length ys) s.slots at stack world (at + length (places_code (pieces ys) (around_of s) at)) (values_of (map meaning_of (exprs_of ys)) (main_names s.state) world)
  places_compiled [] s fit at stack world like has = (refl, like_same world, leads_same object at (at + 0) stack s.slots world (omega arith))
  places_compiled (y ∷ ys) s fit at stack world like has =
      let a = around_of s in
      let fine = and_left (fits y.0 a) (all_fit (parts_fit ys) a) fit in
      let rest_fine = and_right (fits y.0 a) (all_fit (parts_fit ys) a) fit in
      let c = main_piece y.0 in
      let first : List Instr = c.code a at in
      let at1 : ℕ = at + length first in
      let rest : List Instr = places_code (pieces ys) a at1 in
      let to : ℕ = at + length (first ++ rest) in
      let e : at1 + length rest ≡ to = omega (arith, length-append first rest) in
      let g = same_gives object (c.ty a) s.slots at at1 stack stack world ((meaning_of y.0).value (main_names s.state) world)
      (y.1.gives s fine at stack world like (has_front object.main.instrs at first rest has)) in
      more_gives object (λ v. v) (λ vs. vs) (λ vs. vs) (λ v vs. refl) (length ys) s.slots at to stack world
      ((meaning_of y.0).value (main_names s.state) world) (values_of (map meaning_of (exprs_of ys)) (main_names s.state)) (c.ty a) at1 g
      (λ v w like2. subst (λ m. GivesMany object (λ vs. vs) (length ys) s.slots at1 (v ∷ stack) w m (values_of (map meaning_of (exprs_of ys)) (main_names s.state) w)) e
      (places_compiled ys s rest_fine at1 (v ∷ stack) w (like_on s.state.world world w like like2) (has_back object.main.instrs at first rest has)))

  pub arguments_compiled : (ys : Parts) (kinds : List ParamKind) (s : Situation) → all_fit (parts_fit ys) (around_of s) ≡ true → length kinds ≡ length ys
      → (at : ℕ) (stack : List ℤ) (world : World) → IsLike s.state.world world → HasAt object.main.instrs at (arguments_code kinds (pieces ys) (around_of s) at)
      → GivesMany object (fitted kinds) (length kinds) s.slots at stack world (at + length (arguments_code kinds (pieces ys) (around_of s) at))
      (values_of (map meaning_of (exprs_of ys)) (main_names s.state) world)
  arguments_compiled [] [] s fit n at stack world like has = (refl, like_same world, leads_same object at (at + 0) stack s.slots world (omega arith))
  arguments_compiled [] (kind ∷ kinds) s fit n at stack world like has = absurd (omega (arith, n))
  arguments_compiled (y ∷ ys) [] s fit n at stack world like has = absurd (omega (arith, n))
  arguments_compiled (y ∷ ys) (kind ∷ kinds) s fit n at stack world like has =
      let a = around_of s in
      let fine = and_left (fits y.0 a) (all_fit (parts_fit ys) a) fit in
      let rest_fine = and_right (fits y.0 a) (all_fit (parts_fit ys) a) fit in
      let c = main_piece y.0 in
      let first : List Instr = wanted_code (kind_type kind) c a at in
      let at1 : ℕ = at + length first in
      let rest : List Instr = arguments_code kinds (pieces ys) a at1 in
      let to : ℕ = at + length (first ++ rest) in
      let e : at1 + length rest ≡ to = omega (arith, length-append first rest) in
      let has1 = has_front object.main.instrs at first rest has in
      let g = wanted_gives object (kind_type kind) (c.ty a) (c.code a at) s.slots at stack world ((meaning_of y.0).value (main_names s.state) world) has1
      (y.1.gives s fine at stack world like (has_front object.main.instrs at (c.code a at) (narrowed (kind_type kind) (c.ty a)) has1)) in
      more_gives object (wrapped (kind_type kind)) (fitted kinds) (fitted (kind ∷ kinds)) (λ v vs. refl) (length kinds) s.slots at to stack world
      ((meaning_of y.0).value (main_names s.state) world) (values_of (map meaning_of (exprs_of ys)) (main_names s.state)) (kind_type kind) at1 g
      (λ v w like2. subst (λ m. GivesMany object (fitted kinds) (length kinds) s.slots at1 (v ∷ stack) w m (values_of (map meaning_of (exprs_of ys)) (main_names s.state) w)) e
      (arguments_compiled ys kinds s rest_fine (omega (arith, n)) at1 (v ∷ stack) w (like_on s.state.world world w like like2) (has_back object.main.instrs at first rest has)))

  applied_type_is : (s : Situation) (name : List ℕ) (ps : List Fit) (n : Option Named) (m : Option Meant) (k : Option Known) (f : Option Callable)
      → AreNamed object n m s.slots s.bound → AreFunction object k f → bound_to name s.state.callables ≡ f
      → applied_fits n k ps (around_of s) ≡ true → tree.applied_type s.state.callables name m ≡ applied_type n k
  applied_type_is s name ps (Some (Whole container ty)) (Some (tree.Whole number other)) k f h g e fit = h.ty_is
  applied_type_is s name ps (Some (Called made)) m k f h g e fit = let no : ⊥ = cc in absurd no
  applied_type_is s name ps (Some (Number slot ty)) m k f h g e fit = let no : ⊥ = cc in absurd no
  applied_type_is s name ps None None (Some known) (Some callable) h g e fit =
      ap (λ (o : Option Callable). elim o as (λ x. Ty) [ Some callable ↦ callable.ret | None ↦ Int ]) e ∙ g.ret
  applied_type_is s name ps None None None f h g e fit = let no : ⊥ = cc in absurd no
  applied_type_is s name ps None None (Some known) None h g e fit = absurd g
  applied_type_is s name ps n m k f h g e fit = absurd h

  applied_runs : (s : Situation) (name : List ℕ) (names : List (List ℕ)) (ys : Parts) (n : Option Named) (m : Option Meant) (k : Option Known) (f : Option Callable)
      → AreNamed object n m s.slots s.bound → AreFunction object k f → bound_to name s.state.callables ≡ f
      → applied_fits n k (parts_fit ys) (around_of s) ≡ true
      → (at : ℕ) (stack : List ℤ) (world : World) → IsLike s.state.world world → HasAt object.main.instrs at (applied_code n k (pieces ys) (around_of s) at)
      → Gives object (applied_type n k) s.slots at stack world (at + length (applied_code n k (pieces ys) (around_of s) at)) stack
      (then_do (values_of (map meaning_of (exprs_of ys)) (main_names s.state) world) (λ values w. tree.applied s.state.callables s.state.scope name m names values w))
  applied_runs s name names ys (Some (Whole container ty)) (Some (tree.Whole number other)) k f h g e fit at stack world like has =
      let code : List Instr = places_code (pieces ys) (around_of s) at in
      let last : Instr = instr.Item container (length (pieces ys)) in
      applied_gives object ty (λ vs. vs) (length ys) s.slots at stack world code last
      (values_of (map meaning_of (exprs_of ys)) (main_names s.state) world) (λ values w. read number values w)
      (has_back object.main.instrs at code (last ∷ []) has).0
      (places_compiled ys s (and_right (length (parts_fit ys) == 1) (all_fit (parts_fit ys) (around_of s)) fit) at stack world like (has_front object.main.instrs at code (last ∷ []) has))
      (λ values w size like2. (
        many_found object values stack (length (pieces ys)) (λ place rest. returning (stands (at + length code) (reverse values ++ stack) s.slots w) rest (read container place w)) (pieces-length ys ∙ sym size)
            ∙ ap (λ c. returning (stands (at + length code) (reverse values ++ stack) s.slots w) stack (read c values w)) (sym h.number_is),
        read_given object ty container number other values w h (tidy_like object s.state.world w (like_on s.state.world world w like like2) s.tidy),
      ))
  applied_runs s name names ys (Some (Called made)) m k f h g e fit at stack world like has = let no : ⊥ = cc in absurd no
  applied_runs s name names ys (Some (Number slot ty)) m k f h g e fit at stack world like has = let no : ⊥ = cc in absurd no
  applied_runs s name names ys None None (Some known) (Some callable) h g e fit at stack world like has =
      let a = around_of s in
      let kinds : List ParamKind = known.kinds in
      let count = same_number (length kinds) (length (parts_fit ys)) (and_left (length kinds == length (parts_fit ys)) (all_fit (parts_fit ys) a) fit) ∙ fits-length ys in
      let fine = and_right (length kinds == length (parts_fit ys)) (all_fit (parts_fit ys) a) fit in
      let code : List Instr = arguments_code kinds (pieces ys) a at in
      let last : Instr = instr.Call known.number in
      let values : Result (List ℤ × World) Over = values_of (map meaning_of (exprs_of ys)) (main_names s.state) world in
      subst (λ (o : Option Callable). Gives object known.ret s.slots at stack world (at + length (code ++ last ∷ [])) stack
      (then_do values (λ values w. (elim o as (λ x. World → Result (ℤ × World) Over) [
        | Some callable ↦ valued (value_of callable (map Value values))
        | None ↦ λ world. Ok (pos 0, world)
      ]) w))) (sym e)
      (applied_gives object known.ret (fitted kinds) (length kinds) s.slots at stack world code last values (λ values w. valued (value_of callable (map Value values)) w)
      (has_back object.main.instrs at code (last ∷ []) has).0
      (arguments_compiled ys kinds s fine count at stack world like (has_front object.main.instrs at code (last ∷ []) has))
      (λ values w size like2. (
        many_found object (fitted kinds values) stack (length (signature_at object known.number).params)
            (λ given rest. returning (stands (at + length code) (reverse (fitted kinds values) ++ stack) s.slots w) rest (valued (invoked object known.number (map Value given)) w))
            (g.takes ∙ sym (fitted-length kinds values size))
            ∙ ap (λ (o : Result ℤ Trap). returning (stands (at + length code) (reverse (fitted kinds values) ++ stack) s.slots w) stack (valued o w)) (g.call values size),
        valued_given known.ret w (value_of callable (map Value values)) (g.gives values size),
      )))
  applied_runs s name names ys None None None f h g e fit at stack world like has = let no : ⊥ = cc in absurd no
  applied_runs s name names ys None None (Some known) None h g e fit at stack world like has = absurd g
  applied_runs s name names ys n m k f h g e fit at stack world like has = absurd h

  apply_compiled : (name : List ℕ) (ys : Parts)
      → IsCompiled (meaning_step (layer.Apply name (map meaning_of (exprs_of ys)))) (piece_step main_leaves (layer.Apply name (pieces ys))) (fit_step (layer.Apply name (parts_fit ys)))
  apply_compiled name ys = record {
    ty = λ s fit. applied_type_is s name (parts_fit ys) (bound_to name s.scope) (bound_to name s.state.scope) (bound_to name functions) (bound_to name s.state.callables)
        (named_at s name) (s.callables.each name) refl fit;
    gives = λ s fit at stack world like has.
        applied_runs s name (map (λ part. part.name) (map meaning_of (exprs_of ys))) ys (bound_to name s.scope) (bound_to name s.state.scope) (bound_to name functions) (bound_to name s.state.callables)
        (named_at s name) (s.callables.each name) refl fit at stack world like has;
  }

  -- ---- all expressions

  never_fits : (m : Meaning) (c : Piece Around) → IsCompiled m c (λ around. false)
  never_fits m c = record {
    ty = λ s fit. let no : ⊥ = cc in absurd no;
    gives = λ s fit at stack world like has. let no : ⊥ = cc in absurd no;
  }

  -- one level
  level_compiled : (y : Expr-F ((e : Expr) × IsRun e))
      → IsCompiled (meaning_step (map-Expr Expr Meaning meaning_of (map-Expr ((e : Expr) × IsRun e) Expr (λ e. e.0) y)))
      (piece_step main_leaves (map-Expr Expr (Piece Around) main_piece (map-Expr ((e : Expr) × IsRun e) Expr (λ e. e.0) y)))
      (fit_step (map-Expr Expr Fit fits (map-Expr ((e : Expr) × IsRun e) Expr (λ e. e.0) y)))
  level_compiled (layer.Number ty number) = number_compiled ty number
  level_compiled (layer.Name name) = name_compiled name
  level_compiled (layer.Field name field) = never_fits _ _
  level_compiled (layer.Method name method) = method_compiled name method
  level_compiled (layer.Unary op y) = unary_compiled op _ _ _ y.1
  level_compiled (layer.Cast ty y) = cast_compiled ty _ _ _ y.1
  level_compiled (layer.Binary op y z) = binary_compiled op _ _ _ _ _ _ y.1 z.1
  level_compiled (layer.Both y z) = both_compiled _ _ _ _ _ _ y.1 z.1
  level_compiled (layer.Either y z) = either_compiled _ _ _ _ _ _ y.1 z.1
  level_compiled (layer.Choose x y z) = choose_compiled _ _ _ _ _ _ _ _ _ x.1 y.1 z.1
  level_compiled (layer.Apply name ys) = apply_compiled name ys

  rolled : (x : Expr-F Expr) → IsCompiled (meaning_step (map-Expr Expr Meaning meaning_of x)) (piece_step main_leaves (map-Expr Expr (Piece Around) main_piece x)) (fit_step (map-Expr Expr Fit fits x))
      → IsRun (roll-Expr x)
  rolled x is =
      subst (λ (m : Meaning). IsCompiled m (main_piece (roll-Expr x)) (fits (roll-Expr x))) (sym (fold-roll-Expr Meaning meaning_step x))
      (subst (λ (c : Piece Around). IsCompiled (meaning_step (map-Expr Expr Meaning meaning_of x)) c (fits (roll-Expr x))) (sym (fold-roll-Expr (Piece Around) (piece_step main_leaves) x))
      (subst (λ (p : Fit). IsCompiled (meaning_step (map-Expr Expr Meaning meaning_of x)) (piece_step main_leaves (map-Expr Expr (Piece Around) main_piece x)) p)
      (sym (fold-roll-Expr Fit fit_step x)) is))

  -- the code of each expression gives its value where it fits
  pub expression_runs : (e : Expr) → IsRun e
  expression_runs = ind-Expr IsRun (λ x y is. subst (λ z. IsRun (roll-Expr z)) is (rolled (map-Expr ((e : Expr) × IsRun e) Expr (λ e. e.0) y) (level_compiled y)))
