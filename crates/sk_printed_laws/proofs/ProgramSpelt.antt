-- What a program is printed as reads as the program again, but for its lines.
use Rattle.std.proofs.Common.{◌≡◌, ℕ, suc, List, [], ◌∷◌, ◌++◌, map, Result, Ok, Err, refl, ap, subst, sym, ◌∙◌, append_assoc}
use Rattle.std.specs.Prelude.{Some, codes, IfOk}
use Rattle.sk_base.specs.declared.number.Ty.{Ty}
use Rattle.sk_grammar.specs.ExpressionSpelling.{word, sign_at, typed, with_commas, in_sequence, each}
use Rattle.sk_grammar.specs.Grammar.{IsFromText, Parameter, ScalarParameter, IndexParameter, ViewParameter, ConstParameter, parameter_in_front, parameter_tree, IsLawfulParameter, Definition, definition_in_front, definition_tree, IsLawfulDefinition, Spelling}
use Rattle.sk_grammar.specs.Signs.{type_word, meant_by, index_words, view_words}
use Rattle.sk_grammar.specs.StatementSpelling.{block_in_front, block_tree}
use Rattle.sk_tokens.specs.declared.token.Sign.TheVariants as sign
use Rattle.sk_tokens.specs.declared.token.Token.{Token}
use Rattle.sk_tree.specs.declared.tree.Function.{Function}
use Rattle.sk_tree.specs.declared.tree.Param.{Param}
use Rattle.sk_tree.specs.declared.tree.ParamKind.{ParamKind}
use Rattle.sk_tree.specs.declared.tree.ParamKind.TheVariants.{Scalar}
use Rattle.sk_tree.specs.declared.tree.Program.{Program}
use Rattle.sk_tree.specs.declared.tree.Statement.{Statement}
use Rattle.sk_printed.specs.ProgramText.{param_text, function_text, printed_of}
use Rattle.sk_printed.specs.ReadsBack.{ReadsAs, unlined, unlined_function}
use Rattle.sk_printed.specs.StatementText.{block_text, shown_statement}
use Rattle.sk_words.specs.Strung.{strung, separated}
use Rattle.sk_printed_laws.proofs.BlockSpelt.{SpeltBlock, no_indent}
use Rattle.sk_printed_laws.proofs.ExpressionSpelt.{IsNamed, named}
use Rattle.sk_printed_laws.proofs.OperatorSpelt.{typed_lexes}
use Rattle.sk_printed_laws.proofs.Lexes.{Lexes, Ends, lexes-end, lexes-space, lexes-feed, lexes-whole}
use Rattle.sk_printed_laws.proofs.CommaLists.{SpeltWithCommas, commas_none, commas_more}
use Rattle.sk_printed_laws.proofs.Punctuation.{open_lexes, close_lexes, word_lexes}
use Rattle.sk_printed_laws.proofs.Keywords.{index_is, view_is, view_text}
use Rattle.sk_printed_laws.proofs.PlainSpelt.{IsSpelled, skepu_word_lexes, view_lexes}
use Rattle.sk_printed_laws.proofs.Spellable.{AreSpellable, tokens_spellable}
use Rattle.sk_printed_laws.proofs.StatementsCome.{block_comes, spelled}

-- ---- parameters

record SpeltParameter (param : Param) (line : ℕ) : Type 0 where
  pub spelling : Parameter
  pub lawful : IsLawfulParameter spelling
  pub tree_is : parameter_tree spelling ≡ param
  pub lexes : (rest : List ℕ) (tokens : List Token) → Ends rest → Lexes line rest tokens → Lexes line (param_text param ++ rest) (parameter_in_front spelling tokens)

record ParameterComes (param : Param) (rest : List Token) : Type 0 where
  pub spelt : (line : ℕ) → SpeltParameter param line
  pub further : AreSpellable rest

param_bytes : (kind name rest : List ℕ) → kind ++ (32 ∷ (name ++ rest)) ≡ (kind ++ codes " " ++ name) ++ rest
param_bytes kind name rest = simp append_assoc

scalar_spelt : (ty : Ty) (name : List ℕ) (line : ℕ) → IsNamed name → SpeltParameter (record { kind = Scalar ty; name = name }) line
scalar_spelt ty name line is = record {
  spelling = ScalarParameter (λ _. line) ty name;
  lawful = is.is_name;
  tree_is = refl;
  lexes = λ rest tokens ends after.
      subst (λ bytes. Lexes line bytes (typed ty line ∷ word name line ∷ tokens)) (param_bytes (type_word ty) name rest)
      (typed_lexes line ty (32 ∷ (name ++ rest)) (word name line ∷ tokens) (record { parted = refl })
      (lexes-space line (name ++ rest) (word name line ∷ tokens) (word_lexes line rest tokens after name is.is_word is.short ends)));
}

index_bytes : (kind name rest : List ℕ) → codes "skepu::" ++ (kind ++ (32 ∷ (name ++ rest))) ≡ ((codes "skepu::" ++ kind) ++ codes " " ++ name) ++ rest
index_bytes kind name rest = simp append_assoc

index_spelt : (kind : List ℕ) (meant : ParamKind) (name : List ℕ) (line : ℕ) → meant_by index_words kind ≡ Some meant → IsSpelled kind → IsNamed name → SpeltParameter (record { kind = meant; name = name }) line
index_spelt kind meant name line means is_kind is = record {
  spelling = IndexParameter (λ _. line) kind meant name;
  lawful = (means, is.is_name);
  tree_is = refl;
  lexes = λ rest tokens ends after.
      let whole : List Token = word (codes "skepu") line ∷ sign_at sign.Path line ∷ word kind line ∷ word name line ∷ tokens in
      subst (λ k. Lexes line ((k ++ codes " " ++ name) ++ rest) whole) (sym (index_is kind meant means))
      (subst (λ bytes. Lexes line bytes whole) (index_bytes kind name rest)
      (skepu_word_lexes line kind (32 ∷ (name ++ rest)) (word name line ∷ tokens) is_kind (record { parted = refl })
      (lexes-space line (name ++ rest) (word name line ∷ tokens) (word_lexes line rest tokens after name is.is_word is.short ends))));
}

view_spelt : (kind : List ℕ) (meant : Ty → ParamKind) (ty : Ty) (name : List ℕ) (line : ℕ) → meant_by view_words kind ≡ Some meant → IsSpelled kind → IsNamed name → SpeltParameter (record { kind = meant ty; name = name }) line
view_spelt kind meant ty name line means is_kind is = record {
  spelling = ViewParameter (λ _. line) kind meant ty name;
  lawful = (means, is.is_name);
  tree_is = refl;
  lexes = λ rest tokens ends after.
      let whole : List Token = word (codes "skepu") line ∷ sign_at sign.Path line ∷ word kind line ∷ sign_at sign.Lt line ∷ typed ty line ∷ sign_at sign.Gt line ∷ word name line ∷ tokens in
      subst (λ k. Lexes line ((k ++ codes " " ++ name) ++ rest) whole) (sym (view_is kind meant ty means))
      (subst (λ bytes. Lexes line bytes whole) (param_bytes (view_text kind ty) name rest)
      (view_lexes line kind ty (name ++ rest) (word name line ∷ tokens) is_kind (word_lexes line rest tokens after name is.is_word is.short ends)));
}

parameter_comes : (parameter : Parameter) (rest : List Token) → IsLawfulParameter parameter → AreSpellable (parameter_in_front parameter rest) → ParameterComes (parameter_tree parameter) rest
parameter_comes (ScalarParameter at ty name) rest lawful words = record {
  spelt = λ line. scalar_spelt ty name line (named name lawful words.1.0);
  further = words.1.1;
}
parameter_comes (IndexParameter at kind meant name) rest lawful words = record {
  spelt = λ line. index_spelt kind meant name line lawful.0 (spelled kind words.1.1.0) (named name lawful.1 words.1.1.1.0);
  further = words.1.1.1.1;
}
parameter_comes (ViewParameter at kind meant ty name) rest lawful words = record {
  spelt = λ line. view_spelt kind meant ty name line lawful.0 (spelled kind words.1.1.0) (named name lawful.1 words.1.1.1.1.1.1.0);
  further = words.1.1.1.1.1.1.1;
}
parameter_comes (ConstParameter line at kind meant ty name) rest lawful words = record {
  spelt = λ line. view_spelt kind meant ty name line lawful.0 (spelled kind words.1.1.1.0) (named name lawful.1 words.1.1.1.1.1.1.1.0);
  further = words.1.1.1.1.1.1.1.1;
}

abbrev ListedParams : (line : ℕ) → List Param → Type 0
ListedParams line params = SpeltWithCommas parameter_in_front IsLawfulParameter parameter_tree line params (map param_text params)

record ParamsCome (params : List Param) (rest : List Token) : Type 0 where
  pub listed : (line : ℕ) → ListedParams line params
  pub further : AreSpellable rest

param_more : (line : ℕ) (param : Param) (params : List Param) → SpeltParameter param line → ListedParams line params → ListedParams line (param ∷ params)
param_more line param params it listed =
    commas_more parameter_in_front IsLawfulParameter parameter_tree line it.spelling param (param_text param) params (map param_text params) it.lawful it.tree_is it.lexes listed

params_come : (params : List (Parameter × ℕ)) (rest : List Token) → each (λ written. IsLawfulParameter written.0) params → AreSpellable (with_commas parameter_in_front params rest) → ParamsCome (map (λ written. parameter_tree written.0) params) rest
params_come [] rest lawful words = record { listed = λ line. commas_none parameter_in_front IsLawfulParameter parameter_tree line; further = words }
params_come (param ∷ []) rest lawful words =
    let it = parameter_comes param.0 rest lawful.0 words in
    record {
      listed = λ line. param_more line (parameter_tree param.0) [] (it.spelt line) (commas_none parameter_in_front IsLawfulParameter parameter_tree line);
      further = it.further;
    }
params_come (param ∷ next ∷ params) rest lawful words =
    let it = parameter_comes param.0 (sign_at sign.Comma param.1 ∷ with_commas parameter_in_front (next ∷ params) rest) lawful.0 words in
    let others = params_come (next ∷ params) rest lawful.1 it.further.1 in
    record {
      listed = λ line. param_more line (parameter_tree param.0) (map (λ written. parameter_tree written.0) (next ∷ params)) (it.spelt line) (others.listed line);
      further = others.further;
    }

-- ---- functions

record SpeltFunction (function : Function) (line : ℕ) : Type 0 where
  pub spelling : Definition
  pub lawful : IsLawfulDefinition spelling
  pub same : unlined_function (definition_tree spelling) ≡ unlined_function function
  pub next : ℕ
  pub lexes : (rest : List ℕ) (tokens : List Token) → Lexes next rest tokens → Lexes line (function_text function ++ rest) (definition_in_front spelling tokens)

function_bytes : (ret name params block rest : List ℕ) → ret ++ (32 ∷ (name ++ (40 ∷ (params ++ (41 ∷ 32 ∷ (block ++ (10 ∷ rest))))))) ≡ (ret ++ codes " " ++ name ++ codes "(" ++ params ++ codes ") " ++ block ++ codes "\n") ++ rest
function_bytes ret name params block rest = simp append_assoc

function_spelt : (at : ℕ) (ret : Ty) (name : List ℕ) (params : List Param) (body : List Statement) (line : ℕ) → IsNamed name → ListedParams line params → SpeltBlock body [] line → SpeltFunction (record { line = at; ret = ret; name = name; params = params; body = body }) line
function_spelt at ret name params body line is listed block = record {
  spelling = record { at = λ _. line; ret = ret; name = name; params = listed.parts; body = block.spelling };
  lawful = (is.is_name, listed.lawful, block.lawful);
  same = ap (λ p. record { line = 0; ret = ret; name = name; params = p; body = map unlined (block_tree block.spelling) }) listed.means
      ∙ ap (λ b. record { line = 0; ret = ret; name = name; params = params; body = b }) block.same;
  next = suc block.next;
  lexes = λ rest tokens after.
      let blocked : List ℕ = block_text [] (map shown_statement body) in
      let inner : List ℕ = separated (map param_text params) in
      let body_tokens : List Token = block_in_front block.spelling tokens in
      let listing : List Token = with_commas parameter_in_front listed.parts (sign_at sign.CloseParen line ∷ body_tokens) in
      let behind : List ℕ = 41 ∷ 32 ∷ (blocked ++ (10 ∷ rest)) in
      subst (λ bytes. Lexes line bytes (typed ret line ∷ word name line ∷ sign_at sign.OpenParen line ∷ listing)) (function_bytes (type_word ret) name inner blocked rest)
      (typed_lexes line ret (32 ∷ (name ++ (40 ∷ (inner ++ behind)))) (word name line ∷ sign_at sign.OpenParen line ∷ listing) (record { parted = refl })
      (lexes-space line (name ++ (40 ∷ (inner ++ behind))) (word name line ∷ sign_at sign.OpenParen line ∷ listing)
      (word_lexes line (40 ∷ (inner ++ behind)) (sign_at sign.OpenParen line ∷ listing)
      (open_lexes line (inner ++ behind) listing
      (listed.lexes behind (sign_at sign.CloseParen line ∷ body_tokens) (record { parted = refl })
      (close_lexes line (32 ∷ (blocked ++ (10 ∷ rest))) body_tokens
      (lexes-space line (blocked ++ (10 ∷ rest)) body_tokens
      (block.lexes (10 ∷ rest) tokens (lexes-feed block.next rest tokens after))))))
      name is.is_word is.short (record { parted = refl }))));
}

record FunctionComes (function : Function) (rest : List Token) : Type 0 where
  pub spelt : (line : ℕ) → SpeltFunction function line
  pub further : AreSpellable rest

function_comes : (d : Definition) (rest : List Token) → IsLawfulDefinition d → AreSpellable (definition_in_front d rest) → FunctionComes (definition_tree d) rest
function_comes d rest lawful words =
    let params = params_come d.params (sign_at sign.CloseParen (d.at 3) ∷ block_in_front d.body rest) lawful.1 words.1.1.1 in
    let block = block_comes d.body rest lawful.2 params.further.1 in
    record {
      spelt = λ line. function_spelt (d.at 0) d.ret d.name (map (λ written. parameter_tree written.0) d.params) (block_tree d.body) line (named d.name lawful.0 words.1.0) (params.listed line) (block.spelt [] line no_indent);
      further = block.further;
    }

-- ---- programs

-- the functions of a program, each further one behind an empty line
record SpeltFunctions (functions : List Function) (lead : List ℕ) (line : ℕ) : Type 0 where
  pub spelling : Spelling
  pub lawful : each IsLawfulDefinition spelling
  pub same : map unlined_function (map definition_tree spelling) ≡ map unlined_function functions
  pub lexes : Lexes line (strung (codes "\n") lead (map function_text functions)) (in_sequence definition_in_front spelling [])

-- bytes between functions lead from one line to a later one
record Leads (lead : List ℕ) : Type 0 where
  pub to : ℕ → ℕ
  pub lexes : (line : ℕ) (rest : List ℕ) (tokens : List Token) → Lexes (to line) rest tokens → Lexes line (lead ++ rest) tokens

no_lead : Leads []
no_lead = record { to = λ line. line; lexes = λ line rest tokens after. after }

empty_line : Leads (codes "\n")
empty_line = record { to = suc; lexes = λ line rest tokens after. lexes-feed line rest tokens after }

functions_come : (spelling : Spelling) → each IsLawfulDefinition spelling → AreSpellable (in_sequence definition_in_front spelling []) → (lead : List ℕ) (line : ℕ) → Leads lead → SpeltFunctions (map definition_tree spelling) lead line
functions_come [] lawful words lead line leads = record { spelling = []; lawful = tt; same = refl; lexes = lexes-end line }
functions_come (d ∷ definitions) lawful words lead line leads =
    let first = function_comes d (in_sequence definition_in_front definitions []) lawful.0 words in
    let one = first.spelt (leads.to line) in
    let others = functions_come definitions lawful.1 first.further (codes "\n") one.next empty_line in
    let text : List ℕ = strung (codes "\n") (codes "\n") (map function_text (map definition_tree definitions)) in
    let further : List Token = in_sequence definition_in_front others.spelling [] in
    record {
      spelling = one.spelling ∷ others.spelling;
      lawful = (one.lawful, others.lawful);
      same = ap (λ f. f ∷ map unlined_function (map definition_tree others.spelling)) one.same ∙ ap (λ fs. unlined_function (definition_tree d) ∷ fs) others.same;
      lexes =
          subst (λ bytes. Lexes line bytes (definition_in_front one.spelling further)) (sym (append_assoc lead (function_text (definition_tree d)) text))
          (leads.lexes line (function_text (definition_tree d) ++ text) (definition_in_front one.spelling further) (one.lexes text further others.lexes));
    }

spelling_reads : (spelling : Spelling) → each IsLawfulDefinition spelling → AreSpellable (in_sequence definition_in_front spelling []) → ReadsAs (strung (codes "\n") [] (map function_text (map definition_tree spelling))) (record { functions = map definition_tree spelling })
spelling_reads spelling lawful words =
    let it = functions_come spelling lawful words [] 1 no_lead in
    record {
      tokens = in_sequence definition_in_front it.spelling [];
      again = record { functions = map definition_tree it.spelling };
      lexed = lexes-whole (strung (codes "\n") [] (map function_text (map definition_tree spelling))) (in_sequence definition_in_front it.spelling []) it.lexes;
      reads = record { spelling = it.spelling; lawful = it.lawful; tokens_are = refl; program_is = refl };
      same = ap (λ fs. record { functions = fs }) (sym it.same);
    }

pub printed_reads : (program : Program) → IsFromText program → ReadsAs (printed_of program) program
printed_reads program from =
    let words : AreSpellable (in_sequence definition_in_front from.reads.spelling []) = subst AreSpellable (sym from.reads.tokens_are) (tokens_spellable from.text from.tokens from.lexed) in
    subst (λ (p : Program). ReadsAs (printed_of p) p) from.reads.program_is (spelling_reads from.reads.spelling from.reads.lawful words)

pub reads_ok : {V F : Type 0} (bytes : V → List ℕ) (program : Program) (result : Result V F) → IsFromText program → IfOk result (λ text. bytes text ≡ printed_of program) → IfOk result (λ text. ReadsAs (bytes text) program)
reads_ok bytes program (Ok text) from is = subst (λ found. ReadsAs found program) (sym is) (printed_reads program from)
reads_ok bytes program (Err fault) from is = tt
