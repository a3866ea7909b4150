-- A program that a text has names shortly.
use Rattle.std.proofs.Common.{◌≡◌, ◌∙◌, true, List, [], ◌∷◌, map, refl, sym, subst}
use Rattle.std.proofs.lemmas.Bool.{and_from}
use Rattle.std.proofs.lemmas.List.Folds.{list_all-map}
use Rattle.std.specs.List.{list_all}
use Rattle.sk_grammar.specs.ExpressionSpelling.{sign_at, in_sequence}
use Rattle.sk_grammar.specs.Grammar.{Parameter, Definition, Spelling, parameter_in_front, definition_in_front, definition_tree, tokens_in, IsLawfulSpelling, IsLawfulDefinition}
use Rattle.sk_grammar.specs.Limits.{IsFromTextWithin}
use Rattle.sk_grammar.specs.StatementSpelling.{block_in_front, block_tree}
use Rattle.sk_main_code.specs.Sound.{is_short_name}
use Rattle.sk_tokens.specs.declared.token.Sign.TheVariants as sign
use Rattle.sk_tokens.specs.declared.token.Token.{Token}
use Rattle.sk_tree.specs.declared.tree.Program.{Program}
use Rattle.sk_vector_laws.proofs.Tokens.{tokens_short}
use Rattle.sk_vector_laws.proofs.WrittenExpressions.{behind_commas}
use Rattle.sk_vector_laws.proofs.WrittenStatements.{block_named, short_name}
use Rattle.sk_vector_laws.specs.Names.{AreShort, IsNamedShortly, is_named_shortly, names_shortly}

behind_parameter : (parameter : Parameter) (r : List Token) → AreShort (parameter_in_front parameter r) → AreShort r
behind_parameter (Parameter.ScalarParameter at ty name) r h = h.1.1
behind_parameter (Parameter.IndexParameter at kind meant name) r h = h.1.1.1.1
behind_parameter (Parameter.ViewParameter at kind meant ty name) r h = h.1.1.1.1.1.1.1
behind_parameter (Parameter.ConstParameter line at kind meant ty name) r h = h.1.1.1.1.1.1.1.1

definition_named : (d : Definition) (r : List Token) → IsLawfulDefinition d → AreShort (definition_in_front d r) → (is_named_shortly (definition_tree d) ≡ true) × AreShort r
definition_named d r lawful h =
    let block = block_named d.body r lawful.2 (behind_commas parameter_in_front behind_parameter d.params (sign_at sign.CloseParen (d.at 3) ∷ block_in_front d.body r) h.1.1.1).1 in
    let body : list_all names_shortly (block_tree d.body) ≡ true = sym (list_all-map (λ test. test) names_shortly (block_tree d.body)) ∙ block.0 in
    (and_from (is_short_name d.name) (list_all names_shortly (block_tree d.body)) (short_name d.name lawful.0 h.1.0) body, block.1)

spelling_named : (spelling : Spelling) → IsLawfulSpelling spelling → AreShort (in_sequence definition_in_front spelling []) → list_all is_named_shortly (map definition_tree spelling) ≡ true
spelling_named [] lawful h = refl
spelling_named (d ∷ ds) lawful h =
    let a = definition_named d (in_sequence definition_in_front ds []) lawful.0 h in
    and_from (is_named_shortly (definition_tree d)) (list_all is_named_shortly (map definition_tree ds)) a.0 (spelling_named ds lawful.1 a.1)

pub texts_named : (program : Program) → IsFromTextWithin program → IsNamedShortly program
texts_named program from =
    let reads = from.reads in
    let short : AreShort (tokens_in reads.spelling) = subst AreShort (sym reads.tokens_are) (tokens_short from.text from.tokens from.lexed) in
    subst IsNamedShortly reads.program_is (spelling_named reads.spelling reads.lawful short)
