-- What is plain where the whole is: a call, a statement under a test, a block, and the parts of a loop.
use Rattle.std.proofs.Common.{◌≡◌, ℕ, List, Option, Some, None, length, refl, ap}
use Rattle.std.specs.Prelude.{true, false, Bool, ◌&&◌, ◌||◌, ◌==◌}
use Rattle.std.specs.List.{list_all}
use Rattle.std.proofs.lemmas.Bool.{eqb-true}
use Rattle.sk_isa.specs.Soundness.{is_scalar}
use Rattle.sk_tree.specs.declared.tree.ParamKind.{ParamKind}
use Rattle.sk_tree.specs.declared.tree.Expr.{Expr}
use Rattle.sk_tree.specs.declared.tree.What.TheOpen as what
use Rattle.sk_plain.specs.Plain.{Parameters, NamedKinds, takes, is_plain_expression, Plainness, plainness_step, behind_if, block_is_plain, loop_is_plain, is_some, is_some_and}
use Rattle.sk_plain.proofs.Truths.{and_left, and_right, is_some_is, is_some_and_is}

-- the kinds of the parameters of a function that takes so many arguments
pub record AreTaken (found : Option (List ParamKind)) (given : ℕ) : Type 0 where
  pub kinds : List ParamKind
  pub is : found ≡ Some kinds
  pub scalars : list_all is_scalar kinds ≡ true
  pub many : length kinds ≡ given

pub kinds_taken : (found : Option (List ParamKind)) (given : ℕ) → takes found given ≡ true → AreTaken found given
kinds_taken (Some kinds) given e =
    let many : (length kinds == given) ≡ true = and_right (list_all is_scalar kinds) (length kinds == given) e in
    record { kinds = kinds; is = refl; scalars = and_left (list_all is_scalar kinds) (length kinds == given) e; many = eqb-true (length kinds) given many }
kinds_taken None given e = let no : ⊥ = cc in absurd no

-- where a statement is plain only under a test
pub behind_if_is : (test : Bool) (names after : NamedKinds) → behind_if test names ≡ Some after → (test ≡ true) × (names ≡ after)
behind_if_is true names after e = (refl, cc)
behind_if_is false names after e = let no : ⊥ = cc in absurd no

module _ (parameters : Parameters) where
  -- a plain block
  pub plain_block : (js : List Plainness) (names : NamedKinds) → block_is_plain js parameters names ≡ true → behind_if (block_is_plain js parameters names) names ≡ Some names
  plain_block js names e = ap (λ b. behind_if b names) e

  -- the parts of an `if` are plain where it stands
  pub record IsChoice (names : NamedKinds) (test : Expr) (js js2 : List Plainness) : Type 0 where
    pub test_plain : is_plain_expression test parameters names ≡ true
    pub body_plain : block_is_plain js parameters names ≡ true
    pub other_plain : block_is_plain js2 parameters names ≡ true

  -- what is judged of an `if`, by its parts
  pub if_parts : (test : Expr) (js js2 : List Plainness) (names after : NamedKinds) → (plainness_step (what.If test js js2)).behind parameters names ≡ Some after → IsChoice names test js js2
  if_parts test js js2 names after h =
      let a : Bool = is_plain_expression test parameters names in
      let b : Bool = block_is_plain js parameters names in
      let c : Bool = block_is_plain js2 parameters names in
      let fine = (behind_if_is (a && b && c) names after h).0 in
      let two = and_left (a && b) c fine in
      record { test_plain = and_left a b two; body_plain = and_right a b two; other_plain = and_right (a && b) c fine }

  -- a loop's parts are plain where it stands
  pub record IsLoop (names : NamedKinds) (test : Expr) (js : List Plainness) (step : Plainness) : Type 0 where
    pub test_plain : is_plain_expression test parameters names ≡ true
    pub body_plain : block_is_plain js parameters names ≡ true
    pub after : NamedKinds
    pub step_plain : step.behind parameters names ≡ Some after
    pub assigns : step.assigns ≡ true

  -- what is judged of a loop, by its parts
  pub for_parts : (jf : Plainness) (test : Expr) (step : Plainness) (js : List Plainness) (names : NamedKinds) → loop_is_plain jf test step js parameters names ≡ true
      → (inner : NamedKinds) × (jf.behind parameters names ≡ Some inner) × IsLoop inner test js step
  for_parts jf test step js names fine =
      let parts : NamedKinds → Bool = λ inner. is_plain_expression test parameters inner && block_is_plain js parameters inner && is_some (step.behind parameters inner) in
      let head = and_left ((jf.declares || jf.assigns) && step.assigns) (is_some_and parts (jf.behind parameters names)) fine in
      let tail = and_right ((jf.declares || jf.assigns) && step.assigns) (is_some_and parts (jf.behind parameters names)) fine in
      let p = is_some_and_is parts (jf.behind parameters names) tail in
      let two = and_left (is_plain_expression test parameters p.0 && block_is_plain js parameters p.0) (is_some (step.behind parameters p.0)) p.2 in
      let q = is_some_is (step.behind parameters p.0) (and_right (is_plain_expression test parameters p.0 && block_is_plain js parameters p.0) (is_some (step.behind parameters p.0)) p.2) in (
        p.0,
        p.1,
        record {
          test_plain = and_left (is_plain_expression test parameters p.0) (block_is_plain js parameters p.0) two;
          body_plain = and_right (is_plain_expression test parameters p.0) (block_is_plain js parameters p.0) two;
          after = q.0;
          step_plain = q.1;
          assigns = and_right (jf.declares || jf.assigns) step.assigns head;
        },
      )
