-- Each statement of a spelling reads again, as it is printed.
use Rattle.std.proofs.Common.{◌≡◌, ℕ, suc, ◌<◌, ◌≤◌, true, List, [], ◌∷◌, ◌++◌, length, map, refl, ap, subst, sym, arith}
use Rattle.std.specs.Prelude.{codes}
use Rattle.sk_grammar.specs.ExpressionSpelling.{sign_at, in_front, tree_in, trees_in}
use Rattle.sk_names.specs.Words.{is_word}
use Rattle.sk_grammar.specs.StatementSpelling.{simple_tree, simple_line, assignment_in_front, assignment_tree, numbers_tree, printed_tree, Written, Simply, Make, Take, Instantiate, SetValue, SetOverlap, SetMode, Call, Print, Return, If, For, Branch, Test, Otherwise, Nothing, Else, ElseIf, Block, Braces, Statements, Done, Then, written_in_front, branch_in_front, otherwise_in_front, block_in_front, statements_in_front, at_line, written_tree, branch_tree, otherwise_tree, block_tree, statements_tree, IsLawfulStatement, IsLawfulBranch, IsLawfulOtherwise, IsLawfulBlock, AreLawfulStatements}
use Rattle.sk_tokens.specs.declared.token.Sign.TheVariants as sign
use Rattle.sk_tokens.specs.declared.token.Token.{Token}
use Rattle.sk_tree.specs.declared.tree.Expr.{Expr}
use Rattle.sk_tree.specs.declared.tree.Setting.TheVariants.{Overlap}
use Rattle.sk_tree.specs.declared.tree.Statement.{Statement}
use Rattle.sk_tree.specs.declared.tree.What.TheVariants as what
use Rattle.sk_tree.specs.declared.tree.What.{What}
use Rattle.sk_printed.specs.StatementText.{Choice, ShownStatement, block_text, lone_text, else_text, shown_what, shown_statement}
use Rattle.sk_printed_laws.proofs.BlockSpelt.{IsIndent, more_indent, SpeltStatement, SpeltBranch, SpeltOtherwise, SpeltBlock, SpeltStatements, statement_plain, statements_done, statements_then, block_spelt, otherwise_none, otherwise_block, otherwise_branch, branch_spelt, if_form, statement_if, statement_for}
use Rattle.sk_printed_laws.proofs.ExpressionSpelt.{named}
use Rattle.sk_printed_laws.proofs.ExpressionsCome.{expression_comes, arguments_come}
use Rattle.sk_printed_laws.proofs.ListsSpelt.{names_come, all_numbers_come, items_come, plain_instance, plain_print}
use Rattle.sk_printed_laws.proofs.PlainSpelt.{SpeltPlain, IsSpelled, plain_simple, plain_return, plain_call, plain_value, plain_overlap, plain_mode, plain_make, plain_take}
use Rattle.sk_printed_laws.proofs.Spellable.{AreSpellable}
use Rattle.sk_printed_laws.proofs.StatementSpelt.{simple_comes, assignment_comes}
use Rattle.sk_printed_laws.proofs.StatementForms.{shown-statement, shown-For}

-- what a statement at a line, before these tokens, comes to
pub record StatementComes (at : ℕ) (does : What) (rest : List Token) : Type 0 where
  pub spelt : (indent : List ℕ) (line : ℕ) → IsIndent indent → SpeltStatement does indent line
  -- as the only statement behind an `else`
  pub lone : (indent : List ℕ) (line : ℕ) → IsIndent indent → SpeltOtherwise (at_line at does ∷ []) indent line
  pub further : AreSpellable rest

pub record BranchComes (does : What) (rest : List Token) : Type 0 where
  pub spelt : (indent : List ℕ) (line : ℕ) → IsIndent indent → SpeltBranch does indent line
  pub choice : (shown_what does).form ≡ Choice
  pub further : AreSpellable rest

pub record OtherwiseComes (others : List Statement) (rest : List Token) : Type 0 where
  pub spelt : (indent : List ℕ) (line : ℕ) → IsIndent indent → SpeltOtherwise others indent line
  pub further : AreSpellable rest

pub record BlockComes (statements : List Statement) (rest : List Token) : Type 0 where
  pub spelt : (indent : List ℕ) (line : ℕ) → IsIndent indent → SpeltBlock statements indent line
  pub otherwise : (indent : List ℕ) (line : ℕ) → IsIndent indent → SpeltOtherwise statements indent line
  pub further : AreSpellable rest

pub record StatementsCome (statements : List Statement) (rest : List Token) : Type 0 where
  pub spelt : (indent : List ℕ) (line : ℕ) → IsIndent indent → SpeltStatements statements indent line
  pub further : AreSpellable rest

-- ---- a lone statement that is no `if`

lone_block : (at : ℕ) (does : What) (indent : List ℕ) → lone_text indent (shown_what does).form (shown_what does) ≡ block_text indent (shown_what does ∷ []) → else_text indent (map shown_statement (at_line at does ∷ [])) ≡ codes " else " ++ block_text indent (map shown_statement (at_line at does ∷ []))
lone_block at does indent blocked =
    subst (λ (s : ShownStatement). else_text indent (s ∷ []) ≡ codes " else " ++ block_text indent (s ∷ [])) (sym (shown-statement at does)) (ap (λ t. codes " else " ++ t) blocked)

one_block : (at : ℕ) (does : What) (indent : List ℕ) (line : ℕ) → IsIndent indent → ((indent : List ℕ) (line : ℕ) → IsIndent indent → SpeltStatement does indent line) → SpeltBlock (at_line at does ∷ []) indent line
one_block at does indent line blanks spelt =
    let inner = more_indent indent blanks in
    let first = spelt (indent ++ codes "  ") (suc line) inner in
    block_spelt (at_line at does ∷ []) indent line blanks
    (statements_then at does [] (indent ++ codes "  ") (suc line) inner first (statements_done (indent ++ codes "  ") (suc first.next)))

plain_comes : (at : ℕ) (does : What) (rest : List Token) → ((line : ℕ) → SpeltPlain does line) → AreSpellable rest → StatementComes at does rest
plain_comes at does rest plain further =
    let spelt = λ (indent : List ℕ) (line : ℕ) (blanks : IsIndent indent). statement_plain does indent line (plain line) in
    record {
      spelt = spelt;
      lone = λ indent line blanks.
          otherwise_block (at_line at does ∷ []) indent line
          (lone_block at does indent (ap (λ (s : ShownStatement). lone_text indent s.form (shown_what does)) (plain line).shown_is))
          (one_block at does indent line blanks spelt);
      further = further;
    }

loop_comes : (at : ℕ) (first : Statement) (test : Expr) (step : Statement) (body : List Statement) (rest : List Token) → ((indent : List ℕ) (line : ℕ) → IsIndent indent → SpeltStatement (what.For first test step body) indent line) → AreSpellable rest → StatementComes at (what.For first test step body) rest
loop_comes at first test step body rest spelt further = record {
  spelt = spelt;
  lone = λ indent line blanks.
      otherwise_block (at_line at (what.For first test step body) ∷ []) indent line
      (lone_block at (what.For first test step body) indent (ap (λ (s : ShownStatement). lone_text indent s.form (shown_what (what.For first test step body))) (shown-For first test step body)))
      (one_block at (what.For first test step body) indent line blanks spelt);
  further = further;
}

-- two and more statements behind an `else` stand in a block
several_block : (first next : Statement) (more : List Statement) (indent : List ℕ) → else_text indent (map shown_statement (first ∷ next ∷ more)) ≡ codes " else " ++ block_text indent (map shown_statement (first ∷ next ∷ more))
several_block first next more indent = refl

pub spelled : (name : List ℕ) → (is_word name ≡ true) × (length name ≤ 255) → IsSpelled name
spelled name word = record { is_word = word.0; short = word.1 }

some_kept : {A B : Type 0} (f : A → B) (xs : List A) → 0 < length xs → 0 < length (map f xs)
some_kept f [] some = absurd (omega arith)
some_kept f (x ∷ xs) some = omega arith

if_comes : (at : ℕ) (branch : Branch) (rest : List Token) → BranchComes (branch_tree branch) rest → StatementComes at (branch_tree branch) rest
if_comes at (Test lines test block otherwise) rest inner = record {
  spelt = λ indent line blanks. statement_if (tree_in test) (block_tree block) (otherwise_tree otherwise) indent line (inner.spelt indent line blanks);
  lone = λ indent line blanks. otherwise_branch at (branch_tree (Test lines test block otherwise)) indent line inner.choice (inner.spelt indent line blanks);
  further = inner.further;
}

then_spelt : (at : ℕ) (does : What) (statement : Statement) → statement ≡ at_line at does → (between : List Token) → StatementComes at does between → (statements : List Statement) (rest : List Token) → StatementsCome statements rest → (indent : List ℕ) (line : ℕ) → IsIndent indent → SpeltStatements (statement ∷ statements) indent line
then_spelt at does statement is between first statements rest others indent line blanks =
    let one = first.spelt indent line blanks in
    subst (λ s. SpeltStatements (s ∷ statements) indent line) (sym is)
    (statements_then at does statements indent line blanks one (others.spelt indent (suc one.next) blanks))

-- behind an `else`
row_otherwise : (at : ℕ) (does : What) (between : List Token) → StatementComes at does between → (statements : List Statement) → ((indent : List ℕ) (line : ℕ) → IsIndent indent → SpeltBlock (at_line at does ∷ statements) indent line) → (indent : List ℕ) (line : ℕ) → IsIndent indent → SpeltOtherwise (at_line at does ∷ statements) indent line
row_otherwise at does between first [] block indent line blanks = first.lone indent line blanks
row_otherwise at does between first (next ∷ more) block indent line blanks =
    otherwise_block (at_line at does ∷ next ∷ more) indent line (several_block (at_line at does) next more indent) (block indent line blanks)

block_from : (at : ℕ) (does : What) (statement : Statement) → statement ≡ at_line at does → (between : List Token) → StatementComes at does between → (statements : List Statement) (closing : List Token) → StatementsCome statements closing → (rest : List Token) → AreSpellable rest → BlockComes (statement ∷ statements) rest
block_from at does statement is between first statements closing others rest further =
    let block = λ (indent : List ℕ) (line : ℕ) (blanks : IsIndent indent).
    block_spelt (statement ∷ statements) indent line blanks (then_spelt at does statement is between first statements closing others (indent ++ codes "  ") (suc line) (more_indent indent blanks)) in
    record {
      spelt = block;
      otherwise = λ indent line blanks.
          subst (λ s. SpeltOtherwise (s ∷ statements) indent line) (sym is)
          (row_otherwise at does between first statements (λ indent line blanks. subst (λ s. SpeltBlock (s ∷ statements) indent line) is (block indent line blanks)) indent line blanks);
      further = further;
    }

mutual
  pub statement_comes : (written : Written) (rest : List Token) → IsLawfulStatement written → AreSpellable (written_in_front written rest) → (at : ℕ) × (does : What) × (written_tree written ≡ at_line at does) × StatementComes at does rest
  statement_comes (Simply simple line) rest lawful words =
      let it = simple_comes simple (sign_at sign.Semi line ∷ rest) lawful words in (
        simple_line simple,
        simple_tree simple,
        refl,
        plain_comes (simple_line simple) (simple_tree simple) rest (λ line. plain_simple (simple_tree simple) line (it.spelt line)) it.further.1,
      )
  statement_comes (Make at kind sizes ty name arguments) rest lawful words =
      let inner = arguments_come arguments (sign_at sign.CloseParen (at 8) ∷ sign_at sign.Semi (at 9) ∷ rest) lawful.2 words.1.1.1.1.1.1.1.1 in (
        at 0,
        what.Make sizes ty name (trees_in arguments),
        refl,
        plain_comes (at 0) (what.Make sizes ty name (trees_in arguments)) rest
            (λ line. plain_make kind sizes ty name (trees_in arguments) line (named name lawful.1 words.1.1.1.1.1.1.0) lawful.0 (spelled kind words.1.1.0) (inner.spelt line)) inner.further.1.1,
      )
  statement_comes (Take at kind sizes ty name input) rest lawful words = (
    at 0,
    what.Take sizes ty name input,
    refl,
    plain_comes (at 0) (what.Take sizes ty name input) rest
        (λ line. plain_take kind sizes ty name input line (named name lawful.1 words.1.1.1.1.1.1.0) lawful.0 (spelled kind words.1.1.0) words.1.1.1.1.1.1.1.1.1.1.0.0 words.1.1.1.1.1.1.1.1.1.1.0.1)
        words.1.1.1.1.1.1.1.1.1.1.1.1.1,
  )
  statement_comes (Instantiate at name kind skeleton numbers functions) rest lawful words =
      let given = all_numbers_come numbers _ lawful.2 words.1.1.1.1.1.1 in
      let listed = names_come functions (sign_at sign.CloseParen (at 7) ∷ sign_at sign.Semi (at 8) ∷ rest) lawful.4 given.further.1 in (
        at 0,
        _,
        refl,
        plain_comes (at 0) _ rest
            (λ line. plain_instance name kind skeleton (numbers_tree numbers) (map (λ written. written.0.1) functions) line (named name lawful.0 words.1.0) lawful.1 (spelled kind words.1.1.1.1.1.0) (given.spelt line) (some_kept (λ written. written.0.1) functions lawful.3) (listed.listed line))
            listed.further.1.1,
      )
  statement_comes (SetValue at name setting sets value) rest lawful words =
      let inner = expression_comes value (sign_at sign.CloseParen (at 4) ∷ sign_at sign.Semi (at 5) ∷ rest) lawful.2 words.1.1.1.1 in (
        at 0,
        what.Set name (sets (tree_in value)),
        refl,
        plain_comes (at 0) (what.Set name (sets (tree_in value))) rest
            (λ line. plain_value name setting sets (tree_in value) line (named name lawful.0 words.0) lawful.1 words.1.1.0.0 words.1.1.0.1 (inner.spelt line)) inner.further.1.1,
      )
  statement_comes (SetOverlap at name arguments) rest lawful words =
      let inner = arguments_come arguments (sign_at sign.CloseParen (at 4) ∷ sign_at sign.Semi (at 5) ∷ rest) lawful.1 words.1.1.1.1 in (
        at 0,
        what.Set name (Overlap (trees_in arguments)),
        refl,
        plain_comes (at 0) (what.Set name (Overlap (trees_in arguments))) rest
            (λ line. plain_overlap name (trees_in arguments) line (named name lawful.0 words.0) (inner.spelt line)) inner.further.1.1,
      )
  statement_comes (SetMode at name setting family mode sets) rest lawful words = (
    at 0,
    what.Set name sets,
    refl,
    plain_comes (at 0) (what.Set name sets) rest
        (λ line. plain_mode name setting family mode sets line (named name lawful.0 words.0) lawful.1 lawful.2 (spelled setting words.1.1.0) (spelled family.name words.1.1.1.1.1.1.0) (spelled mode words.1.1.1.1.1.1.1.1.0))
        words.1.1.1.1.1.1.1.1.1.1.1,
  )
  statement_comes (Call at name arguments) rest lawful words =
      let inner = arguments_come arguments (sign_at sign.CloseParen (at 2) ∷ sign_at sign.Semi (at 3) ∷ rest) lawful.1 words.1.1 in (
        at 0,
        what.Call name (trees_in arguments),
        refl,
        plain_comes (at 0) (what.Call name (trees_in arguments)) rest
            (λ line. plain_call name (trees_in arguments) line (named name lawful.0 words.0) (inner.spelt line)) inner.further.1.1,
      )
  statement_comes (Print at items) rest lawful words =
      let inner = items_come items (sign_at sign.Semi (at 3) ∷ rest) lawful.1 words.1.1.1 in (
        at 0,
        what.Print (map (λ printed. printed_tree printed.1) items),
        refl,
        plain_comes (at 0) (what.Print (map (λ printed. printed_tree printed.1) items)) rest
            (λ line. plain_print (map (λ printed. printed_tree printed.1) items) line (some_kept (λ printed. printed_tree printed.1) items lawful.0) (inner.spelt line)) inner.further.1,
      )
  statement_comes (Return at value) rest lawful words =
      let inner = expression_comes value (sign_at sign.Semi (at 1) ∷ rest) lawful words.1 in (
        at 0,
        what.Return (tree_in value),
        refl,
        plain_comes (at 0) (what.Return (tree_in value)) rest (λ line. plain_return (tree_in value) line (inner.spelt line)) inner.further.1,
      )
  statement_comes (If line branch) rest lawful words =
      let inner = branch_comes branch rest lawful words.1 in
      (line, branch_tree branch, refl, if_comes line branch rest inner)
  statement_comes (For at first test step body) rest lawful words =
      let begin = simple_comes first (sign_at sign.Semi (at 2) ∷ in_front test (sign_at sign.Semi (at 3) ∷ assignment_in_front step (sign_at sign.CloseParen (at 4) ∷ block_in_front body rest))) lawful.0 words.1.1 in
      let part = expression_comes test (sign_at sign.Semi (at 3) ∷ assignment_in_front step (sign_at sign.CloseParen (at 4) ∷ block_in_front body rest)) lawful.1 begin.further.1 in
      let stepping = assignment_comes step (sign_at sign.CloseParen (at 4) ∷ block_in_front body rest) lawful.2 part.further.1 in
      let block = block_comes body rest lawful.3 stepping.further.1 in (
        at 0,
        what.For (at_line (at 0) (simple_tree first)) (tree_in test) (at_line (at 0) (assignment_tree step)) (block_tree body),
        refl,
        loop_comes (at 0) (at_line (at 0) (simple_tree first)) (tree_in test) (at_line (at 0) (assignment_tree step)) (block_tree body) rest
            (λ indent line blanks. statement_for (at 0) (simple_tree first) (assignment_tree step) (tree_in test) (block_tree body) indent line (begin.spelt line) (part.spelt line) (stepping.spelt line) (block.spelt indent line blanks))
            block.further,
      )

  pub branch_comes : (branch : Branch) (rest : List Token) → IsLawfulBranch branch → AreSpellable (branch_in_front branch rest) → BranchComes (branch_tree branch) rest
  branch_comes (Test at test block otherwise) rest lawful words =
      let part = expression_comes test (sign_at sign.CloseParen (at 1) ∷ block_in_front block (otherwise_in_front otherwise rest)) lawful.0 words.1 in
      let one = block_comes block (otherwise_in_front otherwise rest) lawful.1 part.further.1 in
      let other = otherwise_comes otherwise rest lawful.2 one.further in
      record {
        spelt = λ indent line blanks.
            let first = one.spelt indent line blanks in
            branch_spelt (tree_in test) (block_tree block) (otherwise_tree otherwise) indent line (part.spelt line) first (other.spelt indent first.next blanks);
        choice = if_form (tree_in test) (block_tree block) (otherwise_tree otherwise);
        further = other.further;
      }

  pub otherwise_comes : (otherwise : Otherwise) (rest : List Token) → IsLawfulOtherwise otherwise → AreSpellable (otherwise_in_front otherwise rest) → OtherwiseComes (otherwise_tree otherwise) rest
  otherwise_comes Nothing rest lawful words = record { spelt = λ indent line blanks. otherwise_none indent line; further = words }
  otherwise_comes (Else line block) rest lawful words =
      let inner = block_comes block rest lawful words.1 in
      record { spelt = inner.otherwise; further = inner.further }
  otherwise_comes (ElseIf at branch) rest lawful words =
      let inner = branch_comes branch rest lawful words.1.1 in
      record {
        spelt = λ indent line blanks. otherwise_branch (at 1) (branch_tree branch) indent line inner.choice (inner.spelt indent line blanks);
        further = inner.further;
      }

  pub block_comes : (block : Block) (rest : List Token) → IsLawfulBlock block → AreSpellable (block_in_front block rest) → BlockComes (block_tree block) rest
  block_comes (Braces at statements) rest lawful words = inside_comes at statements rest lawful words.1

  pub inside_comes : (at : ℕ → ℕ) (statements : Statements) (rest : List Token) → AreLawfulStatements statements → AreSpellable (statements_in_front statements (sign_at sign.CloseBrace (at 1) ∷ rest)) → BlockComes (statements_tree statements) rest
  inside_comes at Done rest lawful words = record {
    spelt = λ indent line blanks. block_spelt [] indent line blanks (statements_done (indent ++ codes "  ") (suc line));
    otherwise = λ indent line blanks. otherwise_none indent line;
    further = words.1;
  }
  inside_comes at (Then written statements) rest lawful words =
      let first = statement_comes written (statements_in_front statements (sign_at sign.CloseBrace (at 1) ∷ rest)) lawful.0 words in
      let others = statements_come statements (sign_at sign.CloseBrace (at 1) ∷ rest) lawful.1 first.3.further in
      block_from first.0 first.1 (written_tree written) first.2 (statements_in_front statements (sign_at sign.CloseBrace (at 1) ∷ rest)) first.3 (statements_tree statements) (sign_at sign.CloseBrace (at 1) ∷ rest) others rest others.further.1

  pub statements_come : (statements : Statements) (rest : List Token) → AreLawfulStatements statements → AreSpellable (statements_in_front statements rest) → StatementsCome (statements_tree statements) rest
  statements_come Done rest lawful words = record { spelt = λ indent line blanks. statements_done indent line; further = words }
  statements_come (Then written statements) rest lawful words =
      let first = statement_comes written (statements_in_front statements rest) lawful.0 words in
      let others = statements_come statements rest lawful.1 first.3.further in
      record {
        spelt = λ indent line blanks. then_spelt first.0 first.1 (written_tree written) first.2 (statements_in_front statements rest) first.3 (statements_tree statements) rest others indent line blanks;
        further = others.further;
      }
