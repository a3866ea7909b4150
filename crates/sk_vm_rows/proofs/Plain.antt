-- The program is plain.
use Rattle.std.proofs.Common.{◌≡◌, ℕ, List, [], ◌∷◌, refl, sym, subst, true, map, Some, pos, arith, rules}
use Rattle.std.specs.List.{list_any}
use Rattle.std.specs.Prelude.{All, codes}
use Rattle.std.proofs.lemmas.List.Elements.{All-cons, All-nil}
use Rattle.sk_base.specs.declared.number.Op.TheVariants.{Add, Mul, Div, Lt, Gt}
use Rattle.sk_base.specs.declared.number.Op.{Op}
use Rattle.sk_base.specs.declared.number.Ty.{Ty}
use Rattle.sk_base.specs.declared.number.Ty.TheVariants.{Int, Long}
use Rattle.sk_tree.specs.declared.tree.Expr.{Expr}
use Rattle.sk_tree.specs.declared.tree.Expr.TheVariants.{Unary, Binary}
use Rattle.sk_tree.specs.declared.tree.ParamKind.TheVariants.{Scalar}
use Rattle.sk_tree.specs.declared.tree.Statement.{Statement}
use Rattle.sk_tree.specs.declared.tree.Un.TheVariants.{Neg}
use Rattle.sk_tree.specs.declared.tree.What.TheVariants as what
use Rattle.sk_plain.specs.Plain.{Parameters, NamedKinds, IsPlain, IsPlainFunction, is_scalar_name, fits_type, is_plain_expression, block_is_plain, plainness_of, plainness_step, returns_of, returns_step}
use Rattle.sk_vm_rows.proofs.PlainParts.{number-is-plain, name-is-plain, unary-is-plain, binary-is-plain, both-is-plain, choose-is-plain, call-is-plain, declaration-is-plain, assignment-is-plain, return-is-plain, loop-is-plain, then-is-plain}
use Rattle.sk_plain.specs.PlainLaws.{walks-Declare, walks-Assign, walks-For, walks-Return}
use Rattle.sk_scheme.specs.Plans.{functions_object}
use Rattle.sk_isa.specs.Objects.{function_at, signature_at}
use Rattle.sk_isa.specs.SoundObjects.{IsOperator, IsSoundPlan}
use Rattle.sk_isa.specs.declared.object.Plan.{Plan}
use Rattle.sk_vm_rows.specs.Calls.{mapped_plan, reduced_plan}
use Rattle.sk_vm_rows.specs.Programs.{rows_program, int, long, named, stated, function, int_param, grown, quotient, guarded, distance, counted, counting_loop, counting_body, dividing, widened, widening_body, truncating_body, inverse}

-- a body that ends with the return of a plain expression
returned-plain : (expr : Expr) (parameters : Parameters) (names : NamedKinds) → is_plain_expression expr parameters names ≡ true
    → block_is_plain (map plainness_of (stated (what.Return expr) ∷ [])) parameters names ≡ true
returned-plain expr parameters names plain = then-is-plain parameters names (stated (what.Return expr)) [] names (return-is-plain parameters names 1 expr plain) refl

returned-returns : (expr : Expr) → list_any returns_of (stated (what.Return expr) ∷ []) ≡ true
returned-returns expr = rw (walks-Return returns_step 1 expr) refl

module _ (parameters : Parameters) where
  -- a statement that parameters one further
  grown-plain : (name : List ℕ) (names : NamedKinds) → is_scalar_name name names ≡ true → (plainness_of (grown name)).behind parameters names ≡ Some names
  grown-plain name names among =
      assignment-is-plain parameters names 1 name (Binary Add (named name) (int 1)) among
      (binary-is-plain parameters names (named name) (int 1) (name-is-plain parameters names name among) (number-is-plain parameters names Int (pos 1) refl) Add)

  module _ (names : NamedKinds) where
    name-test : (name : List ℕ) → is_scalar_name name names ≡ true → is_plain_expression (named name) parameters names ≡ true
    name-test name among = name-is-plain parameters names name among

    -- a name and a number
    with-number : (name : List ℕ) (number : Expr) → is_scalar_name name names ≡ true → is_plain_expression number parameters names ≡ true
        → (op : Op) → is_plain_expression (Binary op (named name) number) parameters names ≡ true
    with-number name number among plain op = binary-is-plain parameters names (named name) number (name-test name among) plain op

    int-plain : (number : ℕ) → fits_type Int (pos number) ≡ true → is_plain_expression (int number) parameters names ≡ true
    int-plain number fits = number-is-plain parameters names Int (pos number) fits

    long-plain : (number : ℕ) → fits_type Long (pos number) ≡ true → is_plain_expression (long number) parameters names ≡ true
    long-plain number fits = number-is-plain parameters names Long (pos number) fits

  loop-plain : (plainness_of counting_loop).behind parameters ((codes "s", Scalar Int) ∷ (codes "a", Scalar Int) ∷ []) ≡ Some ((codes "s", Scalar Int) ∷ (codes "a", Scalar Int) ∷ [])
  loop-plain =
      let outer : NamedKinds = (codes "s", Scalar Int) ∷ (codes "a", Scalar Int) ∷ [] in
      let inner : NamedKinds = (codes "i", Scalar Int) ∷ (codes "s", Scalar Int) ∷ (codes "a", Scalar Int) ∷ [] in
      let first : Statement = stated (what.Declare Int (codes "i") (int 0)) in
      loop-is-plain parameters outer 1 first (Binary Lt (named (codes "i")) (named (codes "a"))) (grown (codes "i")) (grown (codes "s") ∷ []) inner
      (rw (walks-Declare plainness_step 1 Int (codes "i") (int 0)) refl)
      (rw (walks-Assign plainness_step 1 (codes "i") (Binary Add (named (codes "i")) (int 1))) refl)
      (declaration-is-plain parameters outer 1 Int (codes "i") (int 0) (int-plain outer 0 refl))
      (with-number inner (codes "i") (named (codes "a")) refl (name-test inner (codes "a") refl) Lt)
      (then-is-plain parameters inner (grown (codes "s")) [] inner (grown-plain (codes "s") inner refl) refl)
      (grown-plain (codes "i") inner refl)

  counting-plain : block_is_plain (map plainness_of counting_body) parameters ((codes "a", Scalar Int) ∷ []) ≡ true
  counting-plain =
      let outer : NamedKinds = (codes "a", Scalar Int) ∷ [] in
      let inner : NamedKinds = (codes "s", Scalar Int) ∷ (codes "a", Scalar Int) ∷ [] in
      then-is-plain parameters outer (stated (what.Declare Int (codes "s") (int 0))) (counting_loop ∷ stated (what.Return (named (codes "s"))) ∷ []) inner
      (declaration-is-plain parameters outer 1 Int (codes "s") (int 0) (int-plain outer 0 refl))
      (then-is-plain parameters inner counting_loop (stated (what.Return (named (codes "s"))) ∷ []) inner loop-plain
      (returned-plain (named (codes "s")) parameters inner (name-test inner (codes "s") refl)))

  -- behind `long x = a;`
  widened-plain : (rest : List Statement) → block_is_plain (map plainness_of rest) parameters ((codes "x", Scalar Long) ∷ (codes "a", Scalar Int) ∷ []) ≡ true
      → block_is_plain (map plainness_of (widened ∷ rest)) parameters ((codes "a", Scalar Int) ∷ []) ≡ true
  widened-plain rest goes =
      let outer : NamedKinds = (codes "a", Scalar Int) ∷ [] in
      then-is-plain parameters outer widened rest ((codes "x", Scalar Long) ∷ (codes "a", Scalar Int) ∷ [])
      (declaration-is-plain parameters outer 1 Long (codes "x") (named (codes "a")) (name-test outer (codes "a") refl)) goes

  widening-plain : block_is_plain (map plainness_of widening_body) parameters ((codes "a", Scalar Int) ∷ []) ≡ true
  widening-plain =
      let inner : NamedKinds = (codes "x", Scalar Long) ∷ (codes "a", Scalar Int) ∷ [] in
      widened-plain (stated (what.Return (Binary Mul (named (codes "x")) (long 4294967296))) ∷ [])
      (returned-plain (Binary Mul (named (codes "x")) (long 4294967296)) parameters inner
      (with-number inner (codes "x") (long 4294967296) refl (long-plain inner 4294967296 refl) Mul))

  truncating-plain : block_is_plain (map plainness_of truncating_body) parameters ((codes "a", Scalar Int) ∷ []) ≡ true
  truncating-plain =
      let inner : NamedKinds = (codes "x", Scalar Long) ∷ (codes "a", Scalar Int) ∷ [] in
      let sum : Expr = Binary Add (named (codes "x")) (long 2147483647) in
      let innermost : NamedKinds = (codes "y", Scalar Int) ∷ (codes "x", Scalar Long) ∷ (codes "a", Scalar Int) ∷ [] in
      widened-plain (stated (what.Declare Int (codes "y") sum) ∷ stated (what.Return (named (codes "y"))) ∷ [])
      (then-is-plain parameters inner (stated (what.Declare Int (codes "y") sum)) (stated (what.Return (named (codes "y"))) ∷ []) innermost
      (declaration-is-plain parameters inner 1 Int (codes "y") sum (with-number inner (codes "x") (long 2147483647) refl (long-plain inner 2147483647 refl) Add))
      (returned-plain (named (codes "y")) parameters innermost (name-test innermost (codes "y") refl)))

  quotient-plain : is_plain_expression quotient parameters ((codes "b", Scalar Int) ∷ (codes "a", Scalar Int) ∷ []) ≡ true
  quotient-plain =
      let names : NamedKinds = (codes "b", Scalar Int) ∷ (codes "a", Scalar Int) ∷ [] in
      with-number names (codes "a") (named (codes "b")) refl (name-test names (codes "b") refl) Div

  module _ (names : NamedKinds) (here : is_scalar_name (codes "a") names ≡ true) where
    inverse-plain : is_plain_expression inverse parameters names ≡ true
    inverse-plain = binary-is-plain parameters names (int 10) (named (codes "a")) (int-plain names 10 refl) (name-test names (codes "a") here) Div

    guarded-plain : is_plain_expression guarded parameters names ≡ true
    guarded-plain =
        both-is-plain parameters names (Binary Gt (named (codes "a")) (int 0)) (Binary Gt inverse (int 2))
        (with-number names (codes "a") (int 0) here (int-plain names 0 refl) Gt)
        (binary-is-plain parameters names inverse (int 2) inverse-plain (int-plain names 2 refl) Gt)

    distance-plain : is_plain_expression distance parameters names ≡ true
    distance-plain =
        choose-is-plain parameters names (Unary Neg (named (codes "a"))) (named (codes "a"))
        (unary-is-plain parameters names Neg (named (codes "a")) (name-test names (codes "a") here)) (name-test names (codes "a") here)
        (Binary Lt (named (codes "a")) (int 0)) (with-number names (codes "a") (int 0) here (int-plain names 0 refl) Lt)

-- the functions before `g`, the latest first
abbrev before_calling : Parameters
before_calling = (codes "d", Scalar Int ∷ Scalar Int ∷ []) ∷ (codes "f", Scalar Int ∷ []) ∷ []

calling-plain : is_plain_expression (Binary Add counted counted) before_calling ((codes "a", Scalar Int) ∷ []) ≡ true
calling-plain =
    let names : NamedKinds = (codes "a", Scalar Int) ∷ [] in
    let call : is_plain_expression counted before_calling names ≡ true =
    call-is-plain before_calling names (codes "f") (named (codes "a")) refl (name-test before_calling names (codes "a") refl) in
    binary-is-plain before_calling names counted counted call call Add

counting-returns : list_any returns_of counting_body ≡ true
counting-returns =
    rw (
      walks-Declare returns_step 1 Int (codes "s") (int 0),
      walks-For returns_step 1 (stated (what.Declare Int (codes "i") (int 0))) (Binary Lt (named (codes "i")) (named (codes "a"))) (grown (codes "i")) (grown (codes "s") ∷ []),
      walks-Return returns_step 1 (named (codes "s")),
    ) refl

widening-returns : list_any returns_of widening_body ≡ true
widening-returns =
    rw (walks-Declare returns_step 1 Long (codes "x") (named (codes "a")), walks-Return returns_step 1 (Binary Mul (named (codes "x")) (long 4294967296))) refl

truncating-returns : list_any returns_of truncating_body ≡ true
truncating-returns =
    rw (
      walks-Declare returns_step 1 Long (codes "x") (named (codes "a")),
      walks-Declare returns_step 1 Int (codes "y") (Binary Add (named (codes "x")) (long 2147483647)),
      walks-Return returns_step 1 (named (codes "y")),
    ) refl

module _ (parameters : Parameters) where
  -- a function of one int
  plain-of-one : (ret : Ty) (name : List ℕ) (body : List Statement) → block_is_plain (map plainness_of body) parameters ((codes "a", Scalar Int) ∷ []) ≡ true
      → list_any returns_of body ≡ true → IsPlainFunction parameters (function ret name (int_param (codes "a") ∷ []) body)
  plain-of-one ret name body plain returns = record { kinds = refl; few = omega arith; body = plain; returns = returns }

  -- one that returns an expression
  plain-return : (name : List ℕ) (expr : Expr) → is_plain_expression expr parameters ((codes "a", Scalar Int) ∷ []) ≡ true
      → IsPlainFunction parameters (function Int name (int_param (codes "a") ∷ []) (stated (what.Return expr) ∷ []))
  plain-return name expr plain =
      plain-of-one Int name (stated (what.Return expr) ∷ []) (returned-plain expr parameters ((codes "a", Scalar Int) ∷ []) plain) (returned-returns expr)

  dividing-is-plain : IsPlainFunction parameters dividing
  dividing-is-plain = record {
    kinds = refl;
    few = omega arith;
    body = returned-plain quotient parameters ((codes "b", Scalar Int) ∷ (codes "a", Scalar Int) ∷ []) (quotient-plain parameters);
    returns = returned-returns quotient;
  }

pub rows-plans : (functions_object rows_program).instances ≡ mapped_plan ∷ reduced_plan ∷ []
rows-plans = refl

mapped-sound : IsSoundPlan (functions_object rows_program) mapped_plan
mapped-sound = record {
  count = refl;
  there = search rules;
  first = record { ordered = refl; kinds = refl; elements = refl };
  operator = λ place is. let no : ⊥ = cc in absurd no;
  sequential = search rules;
  offered = search rules;
}

reduced-sound : IsSoundPlan (functions_object rows_program) reduced_plan
reduced-sound = record {
  count = refl;
  there = search rules;
  first = record { ordered = refl; kinds = refl; elements = refl };
  operator = λ place is.
      let at : 1 ≡ place = cc in
      subst (λ (n : ℕ). IsOperator (signature_at (functions_object rows_program) (function_at reduced_plan n)) Int) at (record { params = refl; ret = refl });
  sequential = search rules;
  offered = search rules;
}

-- its functions are plain, and its instances fit them
pub rows-plain : IsPlain rows_program
rows-plain = record {
  functions = (
    plain-of-one _ Int (codes "f") counting_body (counting-plain _) counting-returns,
    (
      dividing-is-plain _,
      (
        plain-return before_calling (codes "g") (Binary Add counted counted) calling-plain,
        (
          plain-return _ (codes "n") guarded (guarded-plain _ ((codes "a", Scalar Int) ∷ []) refl),
          (
            plain-return _ (codes "c") distance (distance-plain _ ((codes "a", Scalar Int) ∷ []) refl),
            (
              plain-of-one _ Long (codes "w") widening_body (widening-plain _) widening-returns,
              (
                plain-of-one _ Int (codes "t") truncating_body (truncating-plain _) truncating-returns,
                (plain-return _ (codes "v") inverse (inverse-plain _ ((codes "a", Scalar Int) ∷ []) refl), record {}),
              ),
            ),
          ),
        ),
      ),
    ),
  );
  instances =
      let Is : Plan → Type 0 = IsSoundPlan (functions_object rows_program) in
      subst (All Is) (sym rows-plans)
      (All-cons Is mapped_plan (reduced_plan ∷ []) mapped-sound (All-cons Is reduced_plan [] reduced-sound (All-nil Is)));
}
