-- The numbers of an expression fit their types where those among its tokens do.
use Rattle.std.proofs.Common.{◌≡◌, ◌∙◌, ℕ, Bool, true, List, [], ◌∷◌, map, refl, ap}
use Rattle.std.proofs.lemmas.Bool.{and_from}
use Rattle.std.specs.Prelude.{◌&&◌}
use Rattle.std.specs.List.{list_all}
use Rattle.sk_grammar.specs.ExpressionSpelling.{Expression, Arguments, in_front, arguments_in_front, tree_in, trees_in, joined, sign_at, with_commas}
use Rattle.sk_grammar.specs.declared.infix.Infix.{Infix}
use Rattle.sk_grammar.specs.declared.infix.Infix.TheVariants.{Computes, Both, Either}
use Rattle.sk_tokens.specs.declared.token.Sign.TheVariants as sign
use Rattle.sk_tokens.specs.declared.token.Token.{Token}
use Rattle.sk_tree.specs.FoldLaws.{folds-Number, folds-Name, folds-Field, folds-Method, folds-Unary, folds-Cast, folds-Binary, folds-Both, folds-Either, folds-Choose, folds-Apply}
use Rattle.sk_tree.specs.declared.tree.Expr.{Expr}
use Rattle.sk_tree.specs.declared.tree.Expr.TheVariants as tree
use Rattle.sk_typed_laws.specs.Forms.{is_sized, sized_step, AreSized}

-- all of these fit, and so do the tokens behind
pub all_each : (exprs : List Expr) → list_all (λ part. part) (map is_sized exprs) ≡ list_all is_sized exprs
all_each [] = refl
all_each (expr ∷ exprs) = ap (λ b. is_sized expr && b) (all_each exprs)

joined_sized : (joint : Infix) (left right : Expr) → is_sized left ≡ true → is_sized right ≡ true → is_sized (joined joint left right) ≡ true
joined_sized (Computes op) left right h g = folds-Binary sized_step op left right ∙ and_from (is_sized left) (is_sized right) h g
joined_sized Both left right h g = folds-Both sized_step left right ∙ and_from (is_sized left) (is_sized right) h g
joined_sized Either left right h g = folds-Either sized_step left right ∙ and_from (is_sized left) (is_sized right) h g

pub applied_sized : (name : List ℕ) (exprs : List Expr) → list_all is_sized exprs ≡ true → is_sized (tree.Apply name exprs) ≡ true
applied_sized name exprs h = folds-Apply sized_step name exprs ∙ all_each exprs ∙ h

pub one_sized : (expr : Expr) → is_sized expr ≡ true → list_all is_sized (expr ∷ []) ≡ true
one_sized expr h = and_from (is_sized expr) true h refl

mutual
  pub expression_sized : (s : Expression) (r : List Token) → AreSized (in_front s r) → (is_sized (tree_in s) ≡ true) × AreSized r
  expression_sized (Expression.Number line ty value) r h = (folds-Number sized_step ty value ∙ h.0, h.1)
  expression_sized (Expression.Name line name) r h = (folds-Name sized_step name, h.1)
  expression_sized (Expression.Field at name field) r h = (folds-Field sized_step name field, h.1.1.1)
  expression_sized (Expression.Method at name method) r h = (folds-Method sized_step name method, h.1.1.1.1.1)
  expression_sized (Expression.Alone at name) r h = (applied_sized name [] refl, h.1.1.1)
  expression_sized (Expression.Apply at name arguments) r h =
      let a = arguments_sized arguments (sign_at sign.CloseParen (at 2) ∷ r) h.1.1 in
      (applied_sized name (trees_in arguments) a.0, a.1.1)
  expression_sized (Expression.Index at name place) r h =
      let a = expression_sized place (sign_at sign.CloseBracket (at 2) ∷ r) h.1.1 in
      (applied_sized name (tree_in place ∷ []) (one_sized (tree_in place) a.0), a.1.1)
  expression_sized (Expression.Paren at inner) r h = let a = expression_sized inner (sign_at sign.CloseParen (at 1) ∷ r) h.1 in (a.0, a.1.1)
  expression_sized (Expression.Prefix line s op operand) r h =
      let a = expression_sized operand r h.1 in (folds-Unary sized_step op (tree_in operand) ∙ a.0, a.1)
  expression_sized (Expression.Convert at ty operand) r h =
      let a = expression_sized operand r h.1.1.1 in (folds-Cast sized_step ty (tree_in operand) ∙ a.0, a.1)
  expression_sized (Expression.Join line s joint left right) r h =
      let a = expression_sized left (sign_at s line ∷ in_front right r) h in
      let b = expression_sized right r a.1.1 in
      (joined_sized joint (tree_in left) (tree_in right) a.0 b.0, b.1)
  expression_sized (Expression.Choose at test one other) r h =
      let a = expression_sized test (sign_at sign.Question (at 0) ∷ in_front one (sign_at sign.Colon (at 1) ∷ in_front other r)) h in
      let b = expression_sized one (sign_at sign.Colon (at 1) ∷ in_front other r) a.1.1 in
      let c = expression_sized other r b.1.1 in
      let t : Bool = is_sized (tree_in test) in
      let o : Bool = is_sized (tree_in one) in
      (folds-Choose sized_step (tree_in test) (tree_in one) (tree_in other) ∙ and_from (t && o) (is_sized (tree_in other)) (and_from t o a.0 b.0) c.0, c.1)

  pub arguments_sized : (s : Arguments) (r : List Token) → AreSized (arguments_in_front s r) → (list_all is_sized (trees_in s) ≡ true) × AreSized r
  arguments_sized (Arguments.Last argument) r h = let a = expression_sized argument r h in (one_sized (tree_in argument) a.0, a.1)
  arguments_sized (Arguments.More argument line arguments) r h =
      let a = expression_sized argument (sign_at sign.Comma line ∷ arguments_in_front arguments r) h in
      let b = arguments_sized arguments r a.1.1 in
      (and_from (is_sized (tree_in argument)) (list_all is_sized (trees_in arguments)) a.0 b.0, b.1)

-- what stands behind parts with commas, and behind parts in a row
pub behind_commas : {A : Type 0} (part : A → List Token → List Token) → ((x : A) (r : List Token) → AreSized (part x r) → AreSized r)
    → (xs : List (A × ℕ)) (r : List Token) → AreSized (with_commas part xs r) → AreSized r
behind_commas part f [] r h = h
behind_commas part f (x ∷ []) r h = f x.0 r h
behind_commas part f (x ∷ y ∷ xs) r h =
    let rest : List Token = with_commas part (y ∷ xs) r in
    behind_commas part f (y ∷ xs) r (f x.0 (sign_at sign.Comma x.1 ∷ rest) h).1
