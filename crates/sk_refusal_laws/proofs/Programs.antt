-- What is read as functions and programs is the same with both lists.
use Rattle.std.proofs.Common.{◌≡◌, ℕ, zero, suc, ◌≤◌, Bool, false, cond, nat_lt, List, [], ◌∷◌, ◌++◌, length, Option, Some, None, refl, ap, arith}
use Rattle.sk_base.specs.declared.number.Ty.{Ty}
use Rattle.sk_grammar.specs.Limits.{most_nesting, most_parameters, most_functions}
use Rattle.sk_grammar.specs.Signs.{meant_by, index_words}
use Rattle.sk_refusals.specs.declared.refusal.Limited.{Limited}
use Rattle.sk_refusals.specs.declared.refusal.Limited.TheVariants.{Functions, Parameters}
use Rattle.sk_refusals.specs.declared.refusal.Refusal.TheVariants.{Syntax, Many}
use Rattle.sk_tokens.specs.declared.token.Sign.TheVariants as sign
use Rattle.sk_tokens.specs.declared.token.Token.{Token}
use Rattle.sk_tokens.specs.declared.token.TokenKind.TheVariants as kind
use Rattle.sk_tree.specs.declared.tree.Function.{Function}
use Rattle.sk_tree.specs.declared.tree.Param.{Param}
use Rattle.sk_tree.specs.declared.tree.ParamKind.TheVariants.{Scalar}
use Rattle.sk_reading.specs.declared.next.Next.{Next}
use Rattle.sk_reading.specs.declared.next.Next.TheVariants as next
use Rattle.sk_reading.specs.declared.keyword.Keyword.TheVariants as key
use Rattle.sk_reading.specs.Reading.{Place, Outcome, Read, Refused, Parser, and_then, ◌>>=◌, ◌>>◌, pure, refuse, front_line, front_word, word_of, start_of, is_sign, sees, after, expect, name, ty}
use Rattle.sk_reading.specs.ReadingExpressions.{is_type}
use Rattle.sk_reading.specs.ReadingStatements.{block, part_below}
use Rattle.sk_reading.specs.ReadingPrograms.{seen_as, view_words, scalar, viewed, indexed, is_some, begins_index, qualified, constant, parameter_by, parameter, one_more, begins_parameter, count_parameter, parameters_from, parameters, function, is_end, at_end, count_function, functions_from, functions}
use Rattle.sk_refusal_laws.proofs.Local.{Under, under-then, under-if, Shrinks, Parting, Alike, Related, Both, Local, related-and_then, related-if, step, decided, front-same, local-pure, local-refuse, local-peek, local-line, local-take, local-if, local-front, local-turning, left-here, left-there}
use Rattle.sk_refusal_laws.proofs.Steps.{local-expect, local-expect_keyword, local-name, local-word_in, local-ty, local-commas, read-fewer}
use Rattle.sk_refusal_laws.proofs.Strict.{Strict, strict-then, strict-ty}
use Rattle.sk_refusal_laws.proofs.Statements.{local-block, local-part_below}

-- ---- parameters

local-scalar : {w : Parting} → Local w scalar
unfolding scalar
local-scalar = step local-ty (λ of. step local-name (λ called. local-pure (record { kind = Scalar of; name = called })))

local-viewed : {w : Parting} → Local w viewed
unfolding viewed
local-viewed =
    step (local-word_in view_words) (λ kind. step (local-expect sign.Lt) (λ _. step local-ty (λ of. step (local-expect sign.Gt) (λ _. step local-name (λ called.
    local-pure (record { kind = seen_as kind of; name = called }))))))

local-indexed : {w : Parting} → Local w indexed
unfolding indexed
local-indexed = step (local-word_in index_words) (λ kind. step local-name (λ called. local-pure (record { kind = kind; name = called })))

abbrev is_index : Option (List ℕ) → Bool
is_index found = elim found [ Some word ↦ is_some (meant_by index_words word) | None ↦ false ]

local-qualified : {w : Parting} → Local w qualified
unfolding qualified begins_index front_word
local-qualified =
    step local-take (λ _. step (local-expect sign.Path) (λ _. local-if (λ p. is_index (word_of p.rest)) indexed viewed
    (λ p p' alike. decided (λ l. is_index (word_of l)) (λ token one other. refl) p p' alike) local-indexed local-viewed))

local-constant : {w : Parting} → Local w constant
unfolding constant
local-constant = step local-take (λ _. step (local-expect_keyword key.Skepu) (λ _. step (local-expect sign.Path) (λ _. local-viewed)))

local-parameter_by : {w : Parting} (nx : Next) → Local w (parameter_by nx)
local-parameter_by (next.Keyword key.Skepu) = local-qualified
local-parameter_by (next.Keyword key.Const) = local-constant
local-parameter_by (next.Keyword k) = local-scalar
local-parameter_by other = local-scalar

local-parameter : {w : Parting} → Local w parameter
unfolding parameter
local-parameter = step local-peek (λ nx. local-parameter_by nx)

local-one_more : {w : Parting} (what : Limited) (found most : ℕ) → Local w (one_more what found most)
unfolding one_more
local-one_more what found most = local-if (λ _. nat_lt found most) (pure tt) (refuse (Many what)) (λ p p' alike. refl) (local-pure tt) (local-refuse (Many what))

local-count_parameter : {w : Parting} (found : ℕ) → Local w (count_parameter found)
unfolding count_parameter
local-count_parameter found =
    local-front begins_parameter (one_more Parameters found most_parameters) (refuse Syntax) (local-one_more Parameters found most_parameters) (local-refuse Syntax)

abbrev pub counted : List Param → Parser Param
counted found = count_parameter (length found) >> parameter

pub parameters-loop : (turns : ℕ) (found : List Param) (p : Place) → parameters_from (suc turns) found p
    ≡ and_then (counted found p) (λ declared q. cond (sees sign.Comma q) (parameters_from turns (found ++ declared ∷ [])) (λ r. Read (found ++ declared ∷ [], r)) (after sign.Comma q))
unfolding parameters_from
parameters-loop turns found p = go (count_parameter (length found) p)
  where
    go : (o : Outcome (Unit {0})) → and_then o (λ _. parameter >>= (λ declared q. cond (sees sign.Comma q) (parameters_from turns (found ++ declared ∷ [])) (λ r. Read (found ++ declared ∷ [], r)) (after sign.Comma q)))
        ≡ and_then (and_then o (λ _. parameter)) (λ declared q. cond (sees sign.Comma q) (parameters_from turns (found ++ declared ∷ [])) (λ r. Read (found ++ declared ∷ [], r)) (after sign.Comma q))
    go (Read x) = refl
    go (Refused refusal left) = refl

pub parameters-none : (found : List Param) (p : Place) → parameters_from zero found p ≡ refuse Syntax p
unfolding parameters_from
parameters-none found p = refl

local-parameters : {w : Parting} → Local w parameters
unfolding parameters sees
local-parameters =
    local-front (is_sign sign.CloseParen) (pure []) (λ p. parameters_from (length p.rest) [] p) (local-pure [])
    (local-turning (λ n. parameters_from n []) (local-commas counted (λ declared. declared) parameters_from (parameters-none, parameters-loop)
    (λ found. step (local-count_parameter (length found)) (λ _. local-parameter)) []))

-- ---- functions

abbrev function_behind : (at : ℕ) → Ty → Parser Function
function_behind at of =
    name >>= (λ called. expect sign.OpenParen >>= (λ _. parameters >>= (λ declared. expect sign.CloseParen >>= (λ _. block most_nesting (part_below most_nesting) >>= (λ does.
    pure (record { line = at; ret = of; name = called; params = declared; body = does }))))))

local-function_behind : {w : Parting} (at : ℕ) (of : Ty) → Local w (function_behind at of)
local-function_behind at of =
    step local-name (λ called. step (local-expect sign.OpenParen) (λ _. step local-parameters (λ declared. step (local-expect sign.CloseParen) (λ _.
    step (local-block most_nesting (part_below most_nesting) (λ kind. local-part_below most_nesting kind)) (λ does.
    local-pure (record { line = at; ret = of; name = called; params = declared; body = does }))))))

local-function : {w : Parting} → Local w function
unfolding function
local-function = step local-line (λ at. step local-ty (λ of. local-function_behind at of))

module _ (w : Parting) where
  strict-function : Strict function
  unfolding function
  strict-function p x some is = strict-then ty (function_behind (front_line p)) strict-ty (λ of. (local-function_behind {w = w} (front_line p) of).shrinks) p x some is

  local-count_function : (found : ℕ) → Local w (count_function found)
  unfolding count_function
  local-count_function found =
      local-front is_type (one_more Functions found most_functions) (refuse Syntax) (local-one_more Functions found most_functions) (local-refuse Syntax)

  functions-shrink : (turns : ℕ) (found : List Function) → Shrinks (functions_from turns found)
  unfolding functions_from
  functions-shrink zero found p = under-if (suc (length p.rest)) (at_end p) (Read (found, p)) (refuse Syntax p) (omega arith) (omega arith)
  functions-shrink (suc turns) found p =
      under-if (suc (length p.rest)) (at_end p) (Read (found, p)) _ (omega arith)
      (under-then (suc (length p.rest)) (count_function (length found) p) (λ _. function >>= (λ next. functions_from turns (found ++ next ∷ []))) ((local-count_function (length found)).shrinks p) (λ _ q.
      under-then (suc (length q.rest)) (function q) (λ next. functions_from turns (found ++ next ∷ [])) ((local-function {w = w}).shrinks q) (λ next. functions-shrink turns (found ++ next ∷ []))))

  functions-go : (n n' : ℕ) (found : List Function) (p p' : Place) → length p.rest ≤ n → length p'.rest ≤ n' → Alike w p p' → Related w (functions_from n found p) (functions_from n' found p')
  unfolding functions_from at_end
  functions-go zero n' found p p' enough enough' alike = absurd (omega (arith, left-here p p' alike))
  functions-go (suc n) zero found p p' enough enough' alike = absurd (omega (arith, left-there p p' alike))
  functions-go (suc n) (suc n') found p p' enough enough' alike =
      related-if (at_end p) (at_end p') _ _ _ _ (ap is_end (front-same p p' alike)) (Both found p p' refl refl alike)
      (related-and_then (count_function (length found) p) (count_function (length found) p') (λ _. function >>= (λ next. functions_from n (found ++ next ∷ []))) (λ _. function >>= (λ next. functions_from n' (found ++ next ∷ [])))
      ((local-count_function (length found)).goes p p' alike)
      (λ _ q. under-then (suc (length q.rest)) (function q) (λ next. functions_from n (found ++ next ∷ [])) ((local-function {w = w}).shrinks q) (λ next. functions-shrink n (found ++ next ∷ [])))
      (λ _ q. under-then (suc (length q.rest)) (function q) (λ next. functions_from n' (found ++ next ∷ [])) ((local-function {w = w}).shrinks q) (λ next. functions-shrink n' (found ++ next ∷ []))) (λ u q q' is is' same.
      let few = read-fewer (count_function (length found) p) (suc n) p (u, q) ((local-count_function (length found)).shrinks p) enough is in
      let few' = read-fewer (count_function (length found) p') (suc n') p' (u, q') ((local-count_function (length found)).shrinks p') enough' is' in
      related-and_then (function q) (function q') (λ next. functions_from n (found ++ next ∷ [])) (λ next. functions_from n' (found ++ next ∷ [])) (local-function.goes q q' same)
      (λ next. functions-shrink n (found ++ next ∷ [])) (λ next. functions-shrink n' (found ++ next ∷ [])) (λ next s s' is is' later.
      functions-go n n' (found ++ next ∷ []) s s' (omega (arith, few, strict-function q (next, s) (left-here q q' same) is)) (omega (arith, few', strict-function q' (next, s') (left-there q q' same) is')) later)))

  programs-go : (before : List Token) → Related w (functions (before ++ w.token ∷ w.one)) (functions (before ++ w.token ∷ w.other))
  unfolding functions
  programs-go before =
      let p = start_of (before ++ w.token ∷ w.one) in
      let p' = start_of (before ++ w.token ∷ w.other) in
      functions-go (length p.rest) (length p'.rest) [] p p' (omega arith) (omega arith) (record { before = before; one = refl; other = refl; nodes = refl; instances = refl })

-- the same is read, or refused no later than at the token; or each ends by itself
pub programs-alike : (before : List Token) (token : Token) (one other : List Token)
    → Related (record { token = token; one = one; other = other }) (functions (before ++ token ∷ one)) (functions (before ++ token ∷ other))
programs-alike before token one other = programs-go (record { token = token; one = one; other = other }) before

-- no more tokens are left than there are
pub functions-within : (tokens : List Token) → Under (suc (length tokens)) (functions tokens)
unfolding functions
functions-within tokens = functions-shrink (record { token = record { what = kind.Sign sign.Semi; line = 0 }; one = []; other = [] }) (length tokens) [] (start_of tokens)
