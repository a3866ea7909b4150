-- A program that a text has within the limits is formed as a text has it.
use Rattle.std.proofs.Common.{◌≡◌, ◌∙◌, ℕ, true, List, [], ◌∷◌, length, map, refl, sym, ap, subst}
use Rattle.std.proofs.lemmas.Bool.{and_from, le-leb}
use Rattle.std.proofs.lemmas.List.{length-map}
use Rattle.std.specs.Prelude.{Bool, false, if◌then◌else◌, Some, nat_le}
use Rattle.std.specs.List.{list_all}
use Rattle.sk_grammar.specs.ExpressionSpelling.{sign_at, in_sequence, each}
use Rattle.sk_grammar.specs.Grammar.{Parameter, Definition, Spelling, parameter_in_front, parameter_tree, definition_in_front, definition_tree, tokens_in, IsLawfulSpelling, IsLawfulDefinition, IsLawfulParameter}
use Rattle.sk_grammar.specs.Limits.{DefinitionFits, IsFromTextWithin}
use Rattle.sk_grammar.specs.StatementSpelling.{block_in_front}
use Rattle.sk_tokens.specs.declared.token.Sign.TheVariants as sign
use Rattle.sk_tokens.specs.declared.token.Token.{Token}
use Rattle.sk_base.specs.declared.number.Ty.{Ty}
use Rattle.sk_grammar.specs.Signs.{meant_by, index_words, view_words}
use Rattle.sk_isa.specs.Soundness.{is_kind}
use Rattle.sk_names.specs.Bytes.{same_bytes}
use Rattle.sk_plain.proofs.Truths.{and_left, and_right, some_same}
use Rattle.sk_tree.specs.declared.tree.Param.{Param}
use Rattle.sk_tree.specs.declared.tree.ParamKind.{ParamKind}
use Rattle.sk_tree.specs.declared.tree.Program.{Program}
use Rattle.sk_typed_laws.proofs.Tokens.{tokens_sized}
use Rattle.sk_typed_laws.proofs.WrittenExpressions.{behind_commas}
use Rattle.sk_typed_laws.proofs.WrittenStatements.{block_sized}
use Rattle.sk_typed_laws.specs.Forms.{AreSized, IsFormed, body_formed, has_few, has_kinds}

parameter_behind : (parameter : Parameter) (r : List Token) → AreSized (parameter_in_front parameter r) → AreSized r
parameter_behind (Parameter.ScalarParameter at ty name) r h = h.1.1
parameter_behind (Parameter.IndexParameter at kind meant name) r h = h.1.1.1.1
parameter_behind (Parameter.ViewParameter at kind meant ty name) r h = h.1.1.1.1.1.1.1
parameter_behind (Parameter.ConstParameter line at kind meant ty name) r h = h.1.1.1.1.1.1.1.1

definition_formed : (d : Definition) (r : List Token) → IsLawfulDefinition d → AreSized (definition_in_front d r) → (body_formed (definition_tree d) ≡ true) × AreSized r
definition_formed d r lawful h =
    block_sized d.body r lawful.2 (behind_commas parameter_in_front parameter_behind d.params (sign_at sign.CloseParen (d.at 3) ∷ block_in_front d.body r) h.1.1.1).1

bodies_formed : (spelling : Spelling) → IsLawfulSpelling spelling → AreSized (in_sequence definition_in_front spelling []) → list_all body_formed (map definition_tree spelling) ≡ true
bodies_formed [] lawful h = refl
bodies_formed (d ∷ ds) lawful h =
    let a = definition_formed d (in_sequence definition_in_front ds []) lawful.0 h in
    and_from (body_formed (definition_tree d)) (list_all body_formed (map definition_tree ds)) a.0 (bodies_formed ds lawful.1 a.1)

few_parameters : (spelling : Spelling) → each DefinitionFits spelling → list_all has_few (map definition_tree spelling) ≡ true
few_parameters [] h = refl
few_parameters (d ∷ ds) h =
    let size : length (map (λ (written : Parameter × ℕ). parameter_tree written.0) d.params) ≡ length d.params = length-map d.params (λ (written : Parameter × ℕ). parameter_tree written.0) in
    let few : has_few (definition_tree d) ≡ true = ap (λ n. nat_le n 64) size ∙ le-leb (length d.params) 64 h.0.0 in
    and_from (has_few (definition_tree d)) (list_all has_few (map definition_tree ds)) few (few_parameters ds h.1)

-- ---- the kinds of parameters

index_kind : (word : List ℕ) (kind : ParamKind) → (entries : List (List ℕ × ParamKind)) → list_all (λ entry. is_kind entry.1) entries ≡ true → meant_by entries word ≡ Some kind → is_kind kind ≡ true
index_kind word kind [] all e = let no : ⊥ = cc in absurd no
index_kind word kind (entry ∷ entries) all e =
    by_test (same_bytes entry.0 word) (index_kind word kind entries (and_right (is_kind entry.1) (list_all (λ (entry : List ℕ × ParamKind). is_kind entry.1) entries) all)) e
  where
    by_test : (b : Bool) → (meant_by entries word ≡ Some kind → is_kind kind ≡ true) → (if b then Some entry.1 else meant_by entries word) ≡ Some kind → is_kind kind ≡ true
    by_test true later e =
        let same : entry.1 ≡ kind = cc in
        subst (λ (k : ParamKind). is_kind k ≡ true) same (and_left (is_kind entry.1) (list_all (λ (entry : List ℕ × ParamKind). is_kind entry.1) entries) all)
    by_test false later e = later e

view_kind : (word : List ℕ) (meant : Ty → ParamKind) (ty : Ty) (entries : List (List ℕ × (Ty → ParamKind))) → list_all (λ entry. is_kind (entry.1 ty)) entries ≡ true → meant_by entries word ≡ Some meant
    → is_kind (meant ty) ≡ true
view_kind word meant ty [] all e = let no : ⊥ = cc in absurd no
view_kind word meant ty (entry ∷ entries) all e =
    by_test (same_bytes entry.0 word) (view_kind word meant ty entries (and_right (is_kind (entry.1 ty)) (list_all (λ (entry : List ℕ × (Ty → ParamKind)). is_kind (entry.1 ty)) entries) all)) e
  where
    by_test : (b : Bool) → (meant_by entries word ≡ Some meant → is_kind (meant ty) ≡ true) → (if b then Some entry.1 else meant_by entries word) ≡ Some meant → is_kind (meant ty) ≡ true
    by_test true later e =
        let same : entry.1 ≡ meant = some_same entry.1 meant e in
        subst (λ (k : Ty → ParamKind). is_kind (k ty) ≡ true) same (and_left (is_kind (entry.1 ty)) (list_all (λ (entry : List ℕ × (Ty → ParamKind)). is_kind (entry.1 ty)) entries) all)
    by_test false later e = later e

parameter_kind : (parameter : Parameter) → IsLawfulParameter parameter → is_kind (parameter_tree parameter).kind ≡ true
parameter_kind (Parameter.ScalarParameter at ty name) lawful = refl
parameter_kind (Parameter.IndexParameter at kind meant name) lawful = index_kind kind meant index_words refl lawful.0
parameter_kind (Parameter.ViewParameter at kind meant ty name) lawful = view_kind kind meant ty view_words refl lawful.0
parameter_kind (Parameter.ConstParameter line at kind meant ty name) lawful = view_kind kind meant ty view_words refl lawful.0

parameter_kinds : (params : List (Parameter × ℕ)) → each (λ written. IsLawfulParameter written.0) params
    → list_all (λ (param : Param). is_kind param.kind) (map (λ (written : Parameter × ℕ). parameter_tree written.0) params) ≡ true
parameter_kinds [] lawful = refl
parameter_kinds (param ∷ params) lawful =
    and_from (is_kind (parameter_tree param.0).kind) (list_all (λ (param : Param). is_kind param.kind) (map (λ (written : Parameter × ℕ). parameter_tree written.0) params))
    (parameter_kind param.0 lawful.0) (parameter_kinds params lawful.1)

kinds_of_parameters : (spelling : Spelling) → IsLawfulSpelling spelling → list_all has_kinds (map definition_tree spelling) ≡ true
kinds_of_parameters [] lawful = refl
kinds_of_parameters (d ∷ ds) lawful =
    and_from (has_kinds (definition_tree d)) (list_all has_kinds (map definition_tree ds)) (parameter_kinds d.params lawful.0.1) (kinds_of_parameters ds lawful.1)

pub texts_formed : (program : Program) → IsFromTextWithin program → IsFormed program
texts_formed program from =
    let reads = from.reads in
    let sized : AreSized (tokens_in reads.spelling) = subst AreSized (sym reads.tokens_are) (tokens_sized from.text from.tokens from.lexed) in
    subst IsFormed reads.program_is (record {
      bodies = bodies_formed reads.spelling reads.lawful sized;
      few = few_parameters reads.spelling reads.keeps.each_fits;
      kinds = kinds_of_parameters reads.spelling reads.lawful;
    })
