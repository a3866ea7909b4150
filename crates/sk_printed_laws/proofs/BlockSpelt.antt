-- What statements with blocks are printed as reads as them again, but for their lines.
use Rattle.std.proofs.Common.{◌≡◌, ℕ, suc, List, [], ◌∷◌, ◌++◌, map, refl, ap, subst, sym, ◌∙◌, arith, append_assoc}
use Rattle.std.specs.Prelude.{codes, ◌==◌, if◌then◌else◌}
use Rattle.std.specs.List.{flat_map}
use Rattle.sk_grammar.specs.ExpressionSpelling.{word, sign_at, in_front, tree_in}
use Rattle.sk_grammar.specs.StatementSpelling.{simple_in_front, simple_tree, assignment_in_front, assignment_tree, Written, If, For, Branch, Test, Otherwise, Nothing, Else, ElseIf, Block, Braces, Statements, Done, Then, written_in_front, branch_in_front, otherwise_in_front, block_in_front, statements_in_front, at_line, written_tree, branch_tree, otherwise_tree, block_tree, statements_tree, IsLawfulStatement, IsLawfulBranch, IsLawfulOtherwise, IsLawfulBlock, AreLawfulStatements}
use Rattle.sk_tokens.specs.declared.token.Sign.TheVariants as sign
use Rattle.sk_tokens.specs.declared.token.Token.{Token}
use Rattle.sk_tree.specs.declared.tree.Expr.{Expr}
use Rattle.sk_tree.specs.declared.tree.Statement.{Statement}
use Rattle.sk_tree.specs.declared.tree.What.TheVariants as what
use Rattle.sk_tree.specs.declared.tree.What.{What}
use Rattle.sk_printed.specs.ExpressionText.{shown_of, text_of}
use Rattle.sk_printed.specs.ReadsBack.{unlined}
use Rattle.sk_printed.specs.StatementText.{Choice, ShownStatement, simple, end_text, line_text, block_text, lone_text, else_text, shown_what, shown_statement}
use Rattle.sk_printed_laws.proofs.ExpressionSpelt.{Spelt}
use Rattle.sk_printed_laws.proofs.Lexes.{Lexes, lexes-space, lexes-feed}
use Rattle.sk_printed_laws.proofs.Punctuation.{open_lexes, close_lexes, semi_lexes, open_brace_lexes, close_brace_lexes, word_lexes}
use Rattle.sk_printed_laws.proofs.PlainSpelt.{SpeltPlain}
use Rattle.sk_printed_laws.proofs.StatementSpelt.{SpeltSimple, SpeltAssignment}
use Rattle.sk_printed_laws.proofs.StatementForms.{unlined_what, unlined-statement, shown-statement, shown-If, shown-For, unlined-If, unlined-For}

-- blanks before a line
pub record IsIndent (indent : List ℕ) : Type 0 where
  pub lexes : (line : ℕ) (rest : List ℕ) (tokens : List Token) → Lexes line rest tokens → Lexes line (indent ++ rest) tokens

pub no_indent : IsIndent []
no_indent = record { lexes = λ line rest tokens after. after }

pub more_indent : (indent : List ℕ) → IsIndent indent → IsIndent (indent ++ codes "  ")
more_indent indent is = record {
  lexes = λ line rest tokens after.
      subst (λ bytes. Lexes line bytes tokens) (sym (append_assoc indent (codes "  ") rest))
      (is.lexes line (32 ∷ 32 ∷ rest) tokens (lexes-space line (32 ∷ rest) tokens (lexes-space line rest tokens after)));
}

-- from this line on the text has the tokens of a spelling of the statement, but for lines
pub record SpeltStatement (does : What) (indent : List ℕ) (line : ℕ) : Type 0 where
  pub spelling : Written
  pub lawful : IsLawfulStatement spelling
  pub same : unlined (written_tree spelling) ≡ at_line 0 (unlined_what does)
  pub next : ℕ
  pub lexes : (rest : List ℕ) (tokens : List Token) → Lexes next rest tokens → Lexes line (((shown_what does).text indent ++ end_text (shown_what does).form) ++ rest) (written_in_front spelling tokens)

pub record SpeltBranch (does : What) (indent : List ℕ) (line : ℕ) : Type 0 where
  pub spelling : Branch
  pub lawful : IsLawfulBranch spelling
  pub same : unlined_what (branch_tree spelling) ≡ unlined_what does
  pub next : ℕ
  pub lexes : (rest : List ℕ) (tokens : List Token) → Lexes next rest tokens → Lexes line ((shown_what does).text indent ++ rest) (word (codes "if") line ∷ branch_in_front spelling tokens)

pub record SpeltOtherwise (others : List Statement) (indent : List ℕ) (line : ℕ) : Type 0 where
  pub spelling : Otherwise
  pub lawful : IsLawfulOtherwise spelling
  pub same : map unlined (otherwise_tree spelling) ≡ map unlined others
  pub next : ℕ
  pub lexes : (rest : List ℕ) (tokens : List Token) → Lexes next rest tokens → Lexes line (else_text indent (map shown_statement others) ++ rest) (otherwise_in_front spelling tokens)

pub record SpeltBlock (statements : List Statement) (indent : List ℕ) (line : ℕ) : Type 0 where
  pub spelling : Block
  pub lawful : IsLawfulBlock spelling
  pub same : map unlined (block_tree spelling) ≡ map unlined statements
  pub next : ℕ
  pub lexes : (rest : List ℕ) (tokens : List Token) → Lexes next rest tokens → Lexes line (block_text indent (map shown_statement statements) ++ rest) (block_in_front spelling tokens)

pub record SpeltStatements (statements : List Statement) (indent : List ℕ) (line : ℕ) : Type 0 where
  pub spelling : Statements
  pub lawful : AreLawfulStatements spelling
  pub same : map unlined (statements_tree spelling) ≡ map unlined statements
  pub next : ℕ
  pub lexes : (rest : List ℕ) (tokens : List Token) → Lexes next rest tokens → Lexes line (flat_map (line_text indent) (map shown_statement statements) ++ rest) (statements_in_front spelling tokens)

-- ---- statements in a row

pub statement_plain : (does : What) (indent : List ℕ) (line : ℕ) → SpeltPlain does line → SpeltStatement does indent line
statement_plain does indent line it =
    let e : ◌≡◌ {A = List ℕ} ((simple it.text).text indent ++ end_text (simple it.text).form) ((shown_what does).text indent ++ end_text (shown_what does).form) = ap (λ (s : ShownStatement). s.text indent ++ end_text s.form) (sym it.shown_is) in
    record {
      spelling = it.spelling;
      lawful = it.lawful;
      same = ap unlined it.tree_is ∙ unlined-statement it.at does;
      next = line;
      lexes = λ rest tokens after.
          subst (λ bytes. Lexes line (bytes ++ rest) (written_in_front it.spelling tokens)) e
          (subst (λ bytes. Lexes line bytes (written_in_front it.spelling tokens)) (sym (append_assoc it.text (codes ";") rest)) (it.lexes rest tokens after));
    }

pub statements_done : (indent : List ℕ) (line : ℕ) → SpeltStatements [] indent line
statements_done indent line = record { spelling = Done; lawful = tt; same = refl; next = line; lexes = λ rest tokens after. after }

line_bytes : (indent text end more rest : List ℕ) → indent ++ ((text ++ end) ++ (10 ∷ (more ++ rest))) ≡ ((indent ++ text ++ end ++ codes "\n") ++ more) ++ rest
line_bytes indent text end more rest = simp append_assoc

pub statements_then : (at : ℕ) (does : What) (statements : List Statement) (indent : List ℕ) (line : ℕ) → IsIndent indent → (first : SpeltStatement does indent line) → SpeltStatements statements indent (suc first.next) → SpeltStatements (at_line at does ∷ statements) indent line
statements_then at does statements indent line blanks first others = record {
  spelling = Then first.spelling others.spelling;
  lawful = (first.lawful, others.lawful);
  same = ap (λ x. x ∷ map unlined (statements_tree others.spelling)) (first.same ∙ sym (unlined-statement at does)) ∙ ap (λ xs. unlined (at_line at does) ∷ xs) others.same;
  next = others.next;
  lexes = λ rest tokens after.
      let more : List ℕ = flat_map (line_text indent) (map shown_statement statements) in
      let further : List Token = statements_in_front others.spelling tokens in
      subst (λ (s : ShownStatement). Lexes line ((line_text indent s ++ more) ++ rest) (written_in_front first.spelling further)) (sym (shown-statement at does))
      (subst (λ bytes. Lexes line bytes (written_in_front first.spelling further)) (line_bytes indent ((shown_what does).text indent) (end_text (shown_what does).form) more rest)
      (blanks.lexes line (((shown_what does).text indent ++ end_text (shown_what does).form) ++ (10 ∷ (more ++ rest))) (written_in_front first.spelling further)
      (first.lexes (10 ∷ (more ++ rest)) further (lexes-feed first.next (more ++ rest) further (others.lexes rest tokens after)))));
}

-- ---- blocks

block_bytes : (indent lines rest : List ℕ) → 123 ∷ 10 ∷ (lines ++ (indent ++ (125 ∷ rest))) ≡ (codes "{\n" ++ lines ++ indent ++ codes "}") ++ rest
block_bytes indent lines rest = simp append_assoc

pub block_spelt : (statements : List Statement) (indent : List ℕ) (line : ℕ) → IsIndent indent → SpeltStatements statements (indent ++ codes "  ") (suc line) → SpeltBlock statements indent line
block_spelt statements indent line blanks inner = record {
  spelling = Braces (λ n. if n == 0 then line else inner.next) inner.spelling;
  lawful = inner.lawful;
  same = inner.same;
  next = inner.next;
  lexes = λ rest tokens after.
      let lines : List ℕ = flat_map (line_text (indent ++ codes "  ")) (map shown_statement statements) in
      let closing : List Token = sign_at sign.CloseBrace inner.next ∷ tokens in
      let body : List Token = statements_in_front inner.spelling closing in
      subst (λ bytes. Lexes line bytes (sign_at sign.OpenBrace line ∷ body)) (block_bytes indent lines rest)
      (open_brace_lexes line (10 ∷ (lines ++ (indent ++ (125 ∷ rest)))) body
      (lexes-feed line (lines ++ (indent ++ (125 ∷ rest))) body
      (inner.lexes (indent ++ (125 ∷ rest)) closing
      (blanks.lexes inner.next (125 ∷ rest) closing (close_brace_lexes inner.next rest tokens after)))));
}

-- ---- branches

pub otherwise_none : (indent : List ℕ) (line : ℕ) → SpeltOtherwise [] indent line
otherwise_none indent line = record { spelling = Nothing; lawful = tt; same = refl; next = line; lexes = λ rest tokens after. after }

-- an `else` with a block
pub otherwise_block : (others : List Statement) (indent : List ℕ) (line : ℕ) → else_text indent (map shown_statement others) ≡ codes " else " ++ block_text indent (map shown_statement others) → SpeltBlock others indent line → SpeltOtherwise others indent line
otherwise_block others indent line text block = record {
  spelling = Else line block.spelling;
  lawful = block.lawful;
  same = block.same;
  next = block.next;
  lexes = λ rest tokens after.
      let body : List Token = block_in_front block.spelling tokens in
      subst (λ bytes. Lexes line (bytes ++ rest) (word (codes "else") line ∷ body)) (sym text)
      (lexes-space line (codes "else" ++ (32 ∷ (block_text indent (map shown_statement others) ++ rest))) (word (codes "else") line ∷ body)
      (word_lexes line (32 ∷ (block_text indent (map shown_statement others) ++ rest)) body
      (lexes-space line (block_text indent (map shown_statement others) ++ rest) body (block.lexes rest tokens after))
      (codes "else") refl (omega arith) (record { parted = refl })));
}

-- an `else` with an `if`
pub otherwise_branch : (at : ℕ) (does : What) (indent : List ℕ) (line : ℕ) → (shown_what does).form ≡ Choice → SpeltBranch does indent line → SpeltOtherwise (at_line at does ∷ []) indent line
otherwise_branch at does indent line choice branch = record {
  spelling = ElseIf (λ _. line) branch.spelling;
  lawful = branch.lawful;
  same = ap (λ x. x ∷ []) (unlined-statement line (branch_tree branch.spelling) ∙ ap (at_line 0) branch.same ∙ sym (unlined-statement at does));
  next = branch.next;
  lexes = λ rest tokens after.
      let body : List Token = word (codes "if") line ∷ branch_in_front branch.spelling tokens in
      let lone : lone_text indent (shown_what does).form (shown_what does) ≡ (shown_what does).text indent = ap (λ f. lone_text indent f (shown_what does)) choice in
      let text : else_text indent (shown_what does ∷ []) ≡ codes " else " ++ (shown_what does).text indent = ap (λ t. codes " else " ++ t) lone in
      subst (λ (s : ShownStatement). Lexes line (else_text indent (s ∷ []) ++ rest) (word (codes "else") line ∷ body)) (sym (shown-statement at does))
      (subst (λ bytes. Lexes line (bytes ++ rest) (word (codes "else") line ∷ body)) (sym text)
      (lexes-space line (codes "else" ++ (32 ∷ ((shown_what does).text indent ++ rest))) (word (codes "else") line ∷ body)
      (word_lexes line (32 ∷ ((shown_what does).text indent ++ rest)) body
      (lexes-space line ((shown_what does).text indent ++ rest) body (branch.lexes rest tokens after))
      (codes "else") refl (omega arith) (record { parted = refl }))));
}

test_bytes : (test block otherwise rest : List ℕ) → codes "if" ++ (32 ∷ 40 ∷ (test ++ (41 ∷ 32 ∷ (block ++ (otherwise ++ rest))))) ≡ (codes "if (" ++ test ++ codes ") " ++ block ++ otherwise) ++ rest
test_bytes test block otherwise rest = simp append_assoc

pub branch_spelt : (test : Expr) (one other : List Statement) (indent : List ℕ) (line : ℕ) → Spelt test (shown_of test) line → (block : SpeltBlock one indent line) → SpeltOtherwise other indent block.next → SpeltBranch (what.If test one other) indent line
branch_spelt test one other indent line part block otherwise = record {
  spelling = Test (λ _. line) part.spelling block.spelling otherwise.spelling;
  lawful = (part.lawful, block.lawful, otherwise.lawful);
  same = unlined-If (tree_in part.spelling) (block_tree block.spelling) (otherwise_tree otherwise.spelling)
      ∙ ap (λ t. what.If t (map unlined (block_tree block.spelling)) (map unlined (otherwise_tree otherwise.spelling))) part.tree_is
      ∙ ap (λ b. what.If test b (map unlined (otherwise_tree otherwise.spelling))) block.same
      ∙ ap (what.If test (map unlined one)) otherwise.same ∙ sym (unlined-If test one other);
  next = otherwise.next;
  lexes = λ rest tokens after.
      let blocked : List ℕ = block_text indent (map shown_statement one) in
      let elsewhere : List ℕ = else_text indent (map shown_statement other) in
      let behind : List Token = otherwise_in_front otherwise.spelling tokens in
      let body : List Token = block_in_front block.spelling behind in
      let tested : List Token = in_front part.spelling (sign_at sign.CloseParen line ∷ body) in
      subst (λ (s : ShownStatement). Lexes line (s.text indent ++ rest) (word (codes "if") line ∷ sign_at sign.OpenParen line ∷ tested)) (sym (shown-If test one other))
      (subst (λ bytes. Lexes line bytes (word (codes "if") line ∷ sign_at sign.OpenParen line ∷ tested)) (test_bytes (text_of test) blocked elsewhere rest)
      (word_lexes line (32 ∷ 40 ∷ (text_of test ++ (41 ∷ 32 ∷ (blocked ++ (elsewhere ++ rest))))) (sign_at sign.OpenParen line ∷ tested)
      (lexes-space line (40 ∷ (text_of test ++ (41 ∷ 32 ∷ (blocked ++ (elsewhere ++ rest))))) (sign_at sign.OpenParen line ∷ tested)
      (open_lexes line (text_of test ++ (41 ∷ 32 ∷ (blocked ++ (elsewhere ++ rest)))) tested
      (part.lexes (41 ∷ 32 ∷ (blocked ++ (elsewhere ++ rest))) (sign_at sign.CloseParen line ∷ body) (record { parted = refl })
      (close_lexes line (32 ∷ (blocked ++ (elsewhere ++ rest))) body
      (lexes-space line (blocked ++ (elsewhere ++ rest)) body
      (block.lexes (elsewhere ++ rest) behind (otherwise.lexes rest tokens after)))))))
      (codes "if") refl (omega arith) (record { parted = refl })));
}

pub if_form : (test : Expr) (one other : List Statement) → (shown_what (what.If test one other)).form ≡ Choice
if_form test one other = ap (λ (s : ShownStatement). s.form) (shown-If test one other)

pub statement_if : (test : Expr) (one other : List Statement) (indent : List ℕ) (line : ℕ) → SpeltBranch (what.If test one other) indent line → SpeltStatement (what.If test one other) indent line
statement_if test one other indent line branch = record {
  spelling = If line branch.spelling;
  lawful = branch.lawful;
  same = unlined-statement line (branch_tree branch.spelling) ∙ ap (at_line 0) branch.same;
  next = branch.next;
  lexes = λ rest tokens after.
      let no_end : end_text (shown_what (what.If test one other)).form ≡ [] = ap end_text (if_form test one other) in
      subst (λ end. Lexes line (((shown_what (what.If test one other)).text indent ++ end) ++ rest) (word (codes "if") line ∷ branch_in_front branch.spelling tokens)) (sym no_end)
      (subst (λ bytes. Lexes line bytes (word (codes "if") line ∷ branch_in_front branch.spelling tokens)) (sym (append_assoc ((shown_what (what.If test one other)).text indent) [] rest))
      (branch.lexes rest tokens after));
}

-- ---- loops

for_bytes : (first test step block rest : List ℕ) → codes "for" ++ (32 ∷ 40 ∷ (first ++ (59 ∷ 32 ∷ (test ++ (59 ∷ 32 ∷ (step ++ (41 ∷ 32 ∷ (block ++ rest)))))))) ≡ ((codes "for (" ++ first ++ codes "; " ++ test ++ codes "; " ++ step ++ codes ") " ++ block) ++ []) ++ rest
for_bytes first test step block rest = simp append_assoc

pub statement_for : (at : ℕ) (first step : What) (test : Expr) (body : List Statement) (indent : List ℕ) (line : ℕ) → SpeltSimple first line → Spelt test (shown_of test) line → SpeltAssignment step line → SpeltBlock body indent line → SpeltStatement (what.For (at_line at first) test (at_line at step) body) indent line
statement_for at first step test body indent line begin part stepping block = record {
  spelling = For (λ _. line) begin.spelling part.spelling stepping.spelling block.spelling;
  lawful = (begin.lawful, part.lawful, stepping.lawful, block.lawful);
  same =
      unlined-statement line (what.For (at_line line (simple_tree begin.spelling)) (tree_in part.spelling) (at_line line (assignment_tree stepping.spelling)) (block_tree block.spelling))
      ∙ ap (at_line 0) (unlined-For (at_line line (simple_tree begin.spelling)) (tree_in part.spelling) (at_line line (assignment_tree stepping.spelling)) (block_tree block.spelling)
      ∙ ap (λ f. what.For f (tree_in part.spelling) (unlined (at_line line (assignment_tree stepping.spelling))) (map unlined (block_tree block.spelling))) (moved line (simple_tree begin.spelling) first begin.tree_is)
      ∙ ap (λ t. what.For (unlined (at_line at first)) t (unlined (at_line line (assignment_tree stepping.spelling))) (map unlined (block_tree block.spelling))) part.tree_is
      ∙ ap (λ s. what.For (unlined (at_line at first)) test s (map unlined (block_tree block.spelling))) (moved line (assignment_tree stepping.spelling) step stepping.tree_is)
      ∙ ap (what.For (unlined (at_line at first)) test (unlined (at_line at step))) block.same
      ∙ sym (unlined-For (at_line at first) test (at_line at step) body));
  next = block.next;
  lexes = λ rest tokens after.
      let blocked : List ℕ = block_text indent (map shown_statement body) in
      let behind : List Token = block_in_front block.spelling tokens in
      let third : List Token = assignment_in_front stepping.spelling (sign_at sign.CloseParen line ∷ behind) in
      let second : List Token = in_front part.spelling (sign_at sign.Semi line ∷ third) in
      let head : List Token = simple_in_front begin.spelling (sign_at sign.Semi line ∷ second) in
      let whole : List Token = word (codes "for") line ∷ sign_at sign.OpenParen line ∷ head in
      let first_text : (shown_statement (at_line at first)).text indent ≡ begin.text = ap (λ (s : ShownStatement). s.text indent) (shown-statement at first ∙ begin.shown_is) in
      let step_text : (shown_statement (at_line at step)).text indent ≡ stepping.text = ap (λ (s : ShownStatement). s.text indent) (shown-statement at step ∙ stepping.shown_is) in
      let after_step : List ℕ = 41 ∷ 32 ∷ (blocked ++ rest) in
      let after_test : List ℕ = 59 ∷ 32 ∷ (stepping.text ++ after_step) in
      let after_first : List ℕ = 59 ∷ 32 ∷ (text_of test ++ after_test) in
      subst (λ (s : ShownStatement). Lexes line ((s.text indent ++ end_text s.form) ++ rest) whole) (sym (shown-For (at_line at first) test (at_line at step) body))
      (subst (λ bytes. Lexes line (((codes "for (" ++ bytes ++ codes "; " ++ text_of test ++ codes "; " ++ (shown_statement (at_line at step)).text indent ++ codes ") " ++ blocked) ++ []) ++ rest) whole) (sym first_text)
      (subst (λ bytes. Lexes line (((codes "for (" ++ begin.text ++ codes "; " ++ text_of test ++ codes "; " ++ bytes ++ codes ") " ++ blocked) ++ []) ++ rest) whole) (sym step_text)
      (subst (λ bytes. Lexes line bytes whole) (for_bytes begin.text (text_of test) stepping.text blocked rest)
      (word_lexes line (32 ∷ 40 ∷ (begin.text ++ after_first)) (sign_at sign.OpenParen line ∷ head)
      (lexes-space line (40 ∷ (begin.text ++ after_first)) (sign_at sign.OpenParen line ∷ head)
      (open_lexes line (begin.text ++ after_first) head
      (begin.lexes after_first (sign_at sign.Semi line ∷ second) (record { parted = refl })
      (semi_lexes line (32 ∷ (text_of test ++ after_test)) second
      (lexes-space line (text_of test ++ after_test) second
      (part.lexes after_test (sign_at sign.Semi line ∷ third) (record { parted = refl })
      (semi_lexes line (32 ∷ (stepping.text ++ after_step)) third
      (lexes-space line (stepping.text ++ after_step) third
      (stepping.lexes after_step (sign_at sign.CloseParen line ∷ behind) (record { parted = refl })
      (close_lexes line (32 ∷ (blocked ++ rest)) behind
      (lexes-space line (blocked ++ rest) behind (block.lexes rest tokens after))))))))))))
      (codes "for") refl (omega arith) (record { parted = refl })))));
}
  where
    moved : (to : ℕ) (other does : What) → other ≡ does → unlined (at_line to other) ≡ unlined (at_line at does)
    moved to other does same = unlined-statement to other ∙ ap (λ w. at_line 0 (unlined_what w)) same ∙ sym (unlined-statement at does)
