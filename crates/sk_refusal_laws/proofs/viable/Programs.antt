-- What reading functions and programs leads to.
use Rattle.std.proofs.Common.{◌≡◌, ◌⊎◌, inl, inr, ℕ, zero, suc, ◌<◌, Bool, true, false, cond, nat_lt, List, [], ◌∷◌, ◌++◌, length, codes, refl, ap, sym, subst, ◌∙◌, arith, append_assoc}
use Rattle.sk_base.specs.declared.number.Ty.{Ty}
use Rattle.sk_base.specs.declared.number.Ty.TheVariants.{Int, Long}
use Rattle.sk_grammar.specs.ExpressionSpelling.{sign_at, word, typed, with_commas, each}
use Rattle.sk_grammar.specs.Grammar.{Parameter, Definition, Spelling, parameter_in_front, definition_in_front, tokens_in, IsLawfulParameter, IsLawfulDefinition, IsLawfulSpelling}
use Rattle.sk_grammar.specs.Limits.{most_parameters, most_functions}
use Rattle.sk_grammar.specs.Signs.{index_words}
use Rattle.sk_refusals.specs.declared.refusal.Limited.TheVariants.{Functions, Parameters}
use Rattle.sk_refusals.specs.declared.refusal.Refusal.{Refusal}
use Rattle.sk_refusals.specs.declared.refusal.Refusal.TheVariants.{Syntax, Deep, Many}
use Rattle.sk_tokens.specs.declared.token.Sign.TheVariants as sign
use Rattle.sk_tokens.specs.declared.token.Token.{Token}
use Rattle.sk_tree.specs.declared.tree.Function.{Function}
use Rattle.sk_tree.specs.declared.tree.Param.{Param}
use Rattle.sk_tree.specs.declared.tree.ParamKind.TheVariants.{Scalar, Index}
use Rattle.sk_reading.specs.declared.keyword.Keyword.TheVariants as key
use Rattle.sk_reading.specs.declared.next.Next.{Next}
use Rattle.sk_reading.specs.declared.next.Next.TheVariants as next
use Rattle.sk_reading.specs.declared.view.View.TheVariants as view
use Rattle.sk_reading.specs.Reading.{Place, Outcome, Read, Refused, Parser, and_then, ◌>>=◌, refuse, front, front_of, next_of, front_line, advance, sees, keyword_of, start_of}
use Rattle.sk_reading.specs.ReadingExpressions.{is_type}
use Rattle.sk_reading.specs.ReadingPrograms as reading
use Rattle.sk_reading.specs.ReadingStatements.{part_below}
use Rattle.sk_reading.proofs.Entries.{mapped}
use Rattle.sk_reading_sound_laws.proofs.Steps.{lines_of, keyword-takes}
use Rattle.sk_refusal_laws.proofs.Programs.{parameters-loop, parameters-none, counted}
use Rattle.sk_refusal_laws.proofs.viable.Blocks.{BlockOf, a-block, block-leads, part_below-leads}
use Rattle.sk_refusal_laws.proofs.viable.Instances.{commas-more}
use Rattle.sk_refusal_laws.proofs.viable.Leads as leading
use Rattle.sk_refusal_laws.proofs.viable.Leads.{Lang, Chain, SignOf, KeywordOf, NameOf, TypeOf, WordOf, Leads, Default, Fresh, EndsPlain, ends-plain, Shape, default-chain, leads-then, leads-map, leads-done, leads-lacking}
use Rattle.sk_refusal_laws.proofs.viable.Operands.{a-sign}
use Rattle.sk_refusal_laws.proofs.viable.Tokens.{leads-expect, leads-keyword, leads-name, leads-word_in, leads-ty, leads-angle, leads-taken, leads-list, OneMore, type-here, a-name, is-a}

-- ---- parameters

abbrev ParameterOf : Lang
ParameterOf tokens rest = (a : Parameter) × IsLawfulParameter a × (tokens ≡ parameter_in_front a rest)

abbrev ParametersIn : Lang
ParametersIn tokens rest = (l : List (Parameter × ℕ)) × (0 < length l) × each (λ written. IsLawfulParameter written.0) l × (tokens ≡ with_commas parameter_in_front l rest)

abbrev ParametersOf : Lang
ParametersOf tokens rest = (l : List (Parameter × ℕ)) × each (λ written. IsLawfulParameter written.0) l × (tokens ≡ with_commas parameter_in_front l rest)

scalar-leads : (p : Place) → is_type (front p) ≡ true → Leads ParameterOf p (reading.scalar p)
unfolding reading.scalar
scalar-leads p is = leads-map made (leads-then _ (leads-ty p is) (λ of q _. leads-done (λ called. let made : Param = record { kind = Scalar of; name = called } in made) (λ _ _. tt) (leads-name q)) a-name)
  where
    made : (tokens rest : List Token) → Chain TypeOf NameOf tokens rest → ParameterOf tokens rest
    made tokens rest c =
        let (l0, t, is0) = c.first in
        let (l1, w, free, is1) = c.second in
        (Parameter.ScalarParameter (lines_of (l0 ∷ l1 ∷ [])) t w, free, is0 ∙ ap (λ l. typed t l0 ∷ l) is1)

abbrev ViewOf : Lang
ViewOf = Chain (WordOf reading.view_words) (Chain (SignOf sign.Lt) (Chain TypeOf (Chain (SignOf sign.Gt) NameOf)))

abbrev IndexOf : Lang
IndexOf = Chain (WordOf index_words) NameOf

abbrev behind-view : Default (Chain (SignOf sign.Lt) (Chain TypeOf (Chain (SignOf sign.Gt) NameOf)))
behind-view = default-chain (a-sign sign.Lt) (default-chain (record { fix = typed Int 0 ∷ []; goes = λ r. (0, Int, refl) }) (default-chain (a-sign sign.Gt) a-name))

abbrev a-view : Default ViewOf
a-view = default-chain (record { fix = word (codes "Vec") 0 ∷ []; goes = λ r. (0, codes "Vec", view.Whole 1, refl, refl) }) behind-view

abbrev an-index : Default IndexOf
an-index = default-chain (record { fix = word (codes "Index1D") 0 ∷ []; goes = λ r. (0, codes "Index1D", Index 1, refl, refl) }) a-name

viewed-leads : (p : Place) → Leads ViewOf p (reading.viewed p)
unfolding reading.viewed keyword_of
viewed-leads p =
    leads-then _ (leads-word_in reading.view_words (codes "Vec") (view.Whole 1) refl refl p) (λ kind q _. leads-angle _ q (λ of s. leads-then _ (leads-expect sign.Gt s) (λ _ z _.
    leads-done (λ called. let made : Param = record { kind = reading.seen_as kind of; name = called } in made) (λ _ _. tt) (leads-name z)) a-name) (default-chain (a-sign sign.Gt) a-name)) behind-view

indexed-leads : (p : Place) → Leads IndexOf p (reading.indexed p)
unfolding reading.indexed keyword_of
indexed-leads p =
    leads-then _ (leads-word_in index_words (codes "Index1D") (Index 1) refl refl p) (λ kind q _. leads-done (λ called. let made : Param = record { kind = kind; name = called } in made) (λ _ _. tt) (leads-name q)) a-name

-- behind `skepu ::`
abbrev PlaceOf : Lang
PlaceOf tokens rest = (l0 l1 : ℕ) → ParameterOf (word (codes "skepu") l0 ∷ sign_at sign.Path l1 ∷ tokens) rest

index-place : (tokens rest : List Token) → IndexOf tokens rest → PlaceOf tokens rest
index-place tokens rest c = λ l0 l1.
    let (l2, k, meant, is, is2) = c.first in
    let (l3, w, free, is3) = c.second in
    (Parameter.IndexParameter (lines_of (l0 ∷ l1 ∷ l2 ∷ l3 ∷ [])) k meant w, (is, free), ap (λ l. word (codes "skepu") l0 ∷ sign_at sign.Path l1 ∷ l) (is2 ∙ ap (λ l. word k l2 ∷ l) is3))

view-place : (tokens rest : List Token) → ViewOf tokens rest → PlaceOf tokens rest
view-place tokens rest c = λ l0 l1.
    let (l2, k, v, is, is2) = c.first in
    let (l3, is3) = c.second.first in
    let (l4, t, is4) = c.second.second.first in
    let (l5, is5) = c.second.second.second.first in
    let (l6, w, free, is6) = c.second.second.second.second in (
      Parameter.ViewParameter (lines_of (l0 ∷ l1 ∷ l2 ∷ l3 ∷ l4 ∷ l5 ∷ l6 ∷ [])) k (reading.seen_as v) t w,
      (mapped reading.seen_as reading.view_words k v is, free),
      ap (λ l. word (codes "skepu") l0 ∷ sign_at sign.Path l1 ∷ l)
          (is2 ∙ ap (λ l. word k l2 ∷ l) (is3 ∙ ap (λ l. sign_at sign.Lt l3 ∷ l) (is4 ∙ ap (λ l. typed t l4 ∷ l) (is5 ∙ ap (λ l. sign_at sign.Gt l5 ∷ l) is6)))),
    )

-- the same behind `const`
const-view : (line l0 l1 : ℕ) (tokens rest : List Token) → ViewOf tokens rest → ParameterOf (word (codes "const") line ∷ word (codes "skepu") l0 ∷ sign_at sign.Path l1 ∷ tokens) rest
const-view line l0 l1 tokens rest c =
    let (l2, k, v, is, is2) = c.first in
    let (l3, is3) = c.second.first in
    let (l4, t, is4) = c.second.second.first in
    let (l5, is5) = c.second.second.second.first in
    let (l6, w, free, is6) = c.second.second.second.second in (
      Parameter.ConstParameter line (lines_of (l0 ∷ l1 ∷ l2 ∷ l3 ∷ l4 ∷ l5 ∷ l6 ∷ [])) k (reading.seen_as v) t w,
      (mapped reading.seen_as reading.view_words k v is, free),
      ap (λ l. word (codes "const") line ∷ word (codes "skepu") l0 ∷ sign_at sign.Path l1 ∷ l)
          (is2 ∙ ap (λ l. word k l2 ∷ l) (is3 ∙ ap (λ l. sign_at sign.Lt l3 ∷ l) (is4 ∙ ap (λ l. typed t l4 ∷ l) (is5 ∙ ap (λ l. sign_at sign.Gt l5 ∷ l) is6)))),
    )

abbrev a-place : Default PlaceOf
a-place = record { fix = an-index.fix; goes = λ r. index-place (an-index.fix ++ r) r (an-index.goes r) }

placed : (tokens rest : List Token) → Chain (KeywordOf key.Skepu) (Chain (SignOf sign.Path) PlaceOf) tokens rest → ParameterOf tokens rest
placed tokens rest c =
    let (l0, is0) = c.first in
    let (l1, is1) = c.second.first in
    subst (λ l. ParameterOf l rest) (sym (is0 ∙ ap (λ l. word (codes "skepu") l0 ∷ l) is1)) (c.second.second l0 l1)

qualified-leads : (p : Place) → front p ≡ next.Keyword key.Skepu → Leads ParameterOf p (reading.qualified p)
unfolding reading.qualified
qualified-leads p is = leads-map placed (leads-then _ (leads-taken key.Skepu p is) (λ _ q _. leads-then _ (leads-expect sign.Path q) (λ _ s _. go s (reading.begins_index s)) a-place) (default-chain (a-sign sign.Path) a-place))
  where
    go : (q : Place) (b : Bool) → Leads PlaceOf q (cond b (reading.indexed q) (reading.viewed q))
    go q true = leads-map index-place (indexed-leads q)
    go q false = leads-map view-place (viewed-leads q)

abbrev ConstOf : Lang
ConstOf = Chain (KeywordOf key.Const) (Chain (KeywordOf key.Skepu) (Chain (SignOf sign.Path) ViewOf))

const : (tokens rest : List Token) → ConstOf tokens rest → ParameterOf tokens rest
const tokens rest c =
    let (line, is) = c.first in
    let (l0, is0) = c.second.first in
    let (l1, is1) = c.second.second.first in
    subst (λ l. ParameterOf l rest) (sym (is ∙ ap (λ l. word (codes "const") line ∷ l) (is0 ∙ ap (λ l. word (codes "skepu") l0 ∷ l) is1))) (const-view line l0 l1 c.second.second.between rest c.second.second.second)

abbrev skepu-view : Default (Chain (KeywordOf key.Skepu) (Chain (SignOf sign.Path) ViewOf))
skepu-view = default-chain (record { fix = word (codes "skepu") 0 ∷ []; goes = λ r. (0, refl) }) (default-chain (a-sign sign.Path) a-view)

constant-leads : (p : Place) → front p ≡ next.Keyword key.Const → Leads ParameterOf p (reading.constant p)
unfolding reading.constant keyword_of
constant-leads p is =
    leads-map const (leads-then _ (leads-taken key.Const p is) (λ _ q _. leads-then _ (leads-keyword key.Skepu refl q) (λ _ s _. leads-then _ (leads-expect sign.Path s) (λ _ z _. viewed-leads z) a-view) (default-chain (a-sign sign.Path) a-view)) skepu-view)

-- where one begins, one more can be completed
parameter-here : (p : Place) → reading.begins_parameter (front p) ≡ true → OneMore ParameterOf p
unfolding keyword_of
parameter-here p begins = go (front p) refl begins
  where
    go : (nx : Next) → front p ≡ nx → reading.begins_parameter nx ≡ true → OneMore ParameterOf p
    go (next.Keyword key.Int) is begins =
        let (line, takes) = keyword-takes p key.Int is in
        record { token = word (codes "int") line; rest = (advance p).rest; fix = word (codes "a") 0 ∷ []; tokens = takes.tokens; goes = λ r. (Parameter.ScalarParameter (lines_of (line ∷ 0 ∷ [])) Int (codes "a"), is-a, refl); no_open = λ same. cc }
    go (next.Keyword key.Long) is begins =
        let (line, takes) = keyword-takes p key.Long is in
        record { token = word (codes "long") line; rest = (advance p).rest; fix = word (codes "a") 0 ∷ []; tokens = takes.tokens; goes = λ r. (Parameter.ScalarParameter (lines_of (line ∷ 0 ∷ [])) Long (codes "a"), is-a, refl); no_open = λ same. cc }
    go (next.Keyword key.Skepu) is begins =
        let (line, takes) = keyword-takes p key.Skepu is in
        record { token = word (codes "skepu") line; rest = (advance p).rest; fix = sign_at sign.Path 0 ∷ an-index.fix; tokens = takes.tokens; goes = λ r. index-place (an-index.fix ++ r) r (an-index.goes r) line 0; no_open = λ same. cc }
    go (next.Keyword key.Const) is begins =
        let (line, takes) = keyword-takes p key.Const is in
        record { token = word (codes "const") line; rest = (advance p).rest; fix = word (codes "skepu") 0 ∷ sign_at sign.Path 0 ∷ a-view.fix; tokens = takes.tokens; goes = λ r. const-view line 0 0 (a-view.fix ++ r) r (a-view.goes r); no_open = λ same. cc }
    go (next.Keyword k) is begins = absurd (cc)
    go other is begins = absurd (cc)

abbrev a-parameter : Default ParameterOf
a-parameter = record { fix = word (codes "skepu") 0 ∷ sign_at sign.Path 0 ∷ an-index.fix; goes = λ r. index-place (an-index.fix ++ r) r (an-index.goes r) 0 0 }

parameter-fresh : Fresh (word (codes "skepu") 0 ∷ sign_at sign.Path 0 ∷ an-index.fix)
unfolding keyword_of
parameter-fresh = record { token = word (codes "skepu") 0; more = _; is = refl; no_type = refl }

parameter-leads : (p : Place) → reading.begins_parameter (front p) ≡ true → Leads ParameterOf p (reading.parameter p)
unfolding reading.parameter
parameter-leads p begins = go (front p) refl begins
  where
    go : (nx : Next) → front p ≡ nx → reading.begins_parameter nx ≡ true → Leads ParameterOf p (reading.parameter_by nx p)
    go (next.Keyword key.Int) is begins = scalar-leads p (ap is_type is)
    go (next.Keyword key.Long) is begins = scalar-leads p (ap is_type is)
    go (next.Keyword key.Skepu) is begins = qualified-leads p is
    go (next.Keyword key.Const) is begins = constant-leads p is
    go (next.Keyword k) is begins = absurd (cc)
    go other is begins = absurd (cc)

counted-leads : (found : List Param) (p : Place) → Leads ParameterOf p (counted found p)
unfolding reading.count_parameter reading.one_more
counted-leads found p = go (reading.begins_parameter (front p)) refl (nat_lt (length found) most_parameters)
  where
    go : (b : Bool) → reading.begins_parameter (front p) ≡ b → (c : Bool) → Leads ParameterOf p (and_then (cond b (cond c (Read (tt {0}, p)) (refuse (Many Parameters) p)) (refuse Syntax p)) (λ _. reading.parameter))
    go false begins c = leads-lacking a-parameter p parameter-fresh
    go true begins true = parameter-leads p begins
    go true begins false =
        let one = parameter-here p begins in
        leading.Part (Many Parameters) (length p.rest) (one.token ∷ []) one.fix one.rest refl one.tokens one.goes
        (inl (sym (ap length one.tokens), record { before = []; token = one.token; is = refl; no_open = one.no_open }))

parameters-lead : (p : Place) → Leads ParametersOf p (reading.parameters p)
unfolding reading.parameters
parameters-lead p = go (sees sign.CloseParen p)
  where
    some : Leads ParametersIn p (reading.parameters_from (length p.rest) [] p)
    some = leads-list counted (λ declared. declared) reading.parameters_from ParameterOf ParametersIn (parameters-none, parameters-loop)
        (λ tokens rest found. let (a, lawful, is) = found in ((a, 0) ∷ [], omega arith, (lawful, tt), is))
        (λ tokens between rest comma first found. let (a, lawful, is) = first in let (l, few, others, same) = found in
        ((a, comma) ∷ l, omega arith, (lawful, others), is ∙ ap (λ k. parameter_in_front a (sign_at sign.Comma comma ∷ k)) same ∙ commas-more parameter_in_front a comma l few rest))
        (record { fix = a-parameter.fix; goes = λ r. let (a, lawful, is) = a-parameter.goes r in ((a, 0) ∷ [], omega arith, (lawful, tt), is) }) parameter-fresh counted-leads (length p.rest) [] p

    go : (b : Bool) → Leads ParametersOf p (cond b (Read ([], p)) (reading.parameters_from (length p.rest) [] p))
    go true = leading.Whole [] p [] refl tt refl (λ r. ([], tt, refl))
    go false = leads-map (λ tokens rest found. let (l, few, lawful, is) = found in (l, lawful, is)) some

-- ---- functions

abbrev DefinitionOf : Lang
DefinitionOf tokens rest = (d : Definition) × IsLawfulDefinition d × (tokens ≡ definition_in_front d rest)

abbrev BehindName : Lang
BehindName = Chain (SignOf sign.OpenParen) (Chain ParametersOf (Chain (SignOf sign.CloseParen) BlockOf))

abbrev no-parameters : Default ParametersOf
no-parameters = record { fix = []; goes = λ r. ([], tt, refl) }

abbrev behind-open : Default (Chain ParametersOf (Chain (SignOf sign.CloseParen) BlockOf))
behind-open = default-chain no-parameters (default-chain (a-sign sign.CloseParen) a-block)

abbrev behind-name : Default BehindName
behind-name = default-chain (a-sign sign.OpenParen) behind-open

abbrev behind-type : Default (Chain NameOf BehindName)
behind-type = default-chain a-name behind-name

defined : (tokens rest : List Token) → Chain TypeOf (Chain NameOf BehindName) tokens rest → DefinitionOf tokens rest
defined tokens rest c =
    let (l0, t, is0) = c.first in
    let (l1, w, free, is1) = c.second.first in
    let (l2, is2) = c.second.second.first in
    let (params, lawful, is3) = c.second.second.second.first in
    let (l3, is4) = c.second.second.second.second.first in
    let (b, lawful', is5) = c.second.second.second.second.second in (
      record { at = lines_of (l0 ∷ l1 ∷ l2 ∷ l3 ∷ []); ret = t; name = w; params = params; body = b },
      (free, lawful, lawful'),
      is0 ∙ ap (λ l. typed t l0 ∷ l) (is1 ∙ ap (λ l. word w l1 ∷ l) (is2 ∙ ap (λ l. sign_at sign.OpenParen l2 ∷ l) (is3 ∙ ap (with_commas parameter_in_front params) (is4 ∙ ap (λ l. sign_at sign.CloseParen l3 ∷ l) is5)))),
    )

function-leads : (p : Place) → is_type (front p) ≡ true → Leads DefinitionOf p (reading.function p)
unfolding reading.function
function-leads p is =
    leads-map defined (leads-then _ (leads-ty p is) (λ of q _. leads-then _ (leads-name q) (λ called s _. leads-then _ (leads-expect sign.OpenParen s) (λ _ z _. leads-then _ (parameters-lead z) (λ declared u _.
    leads-then _ (leads-expect sign.CloseParen u) (λ _ v _. leads-done (λ does. let made : Function = record { line = front_line p; ret = of; name = called; params = declared; body = does } in made) (λ _ _. tt)
    (block-leads 64 (part_below 64) (part_below-leads 64) v)) a-block) (default-chain (a-sign sign.CloseParen) a-block)) behind-open) behind-name) behind-type)

-- ---- programs

abbrev pub ShapeThere : Refusal → (left : ℕ) → (front fix rest : List Token) → Type 0
ShapeThere Syntax left front fix rest = (length rest ≡ left) × ((is_type (front_of fix) ≡ false) ⊎ EndsPlain front)
ShapeThere Deep left front fix rest = suc (length rest) ≡ left
ShapeThere (Many what) left front fix rest = ((suc (length rest) ≡ left) × EndsPlain front) ⊎ (suc (suc (length rest)) ≡ left)

-- the tokens up to where the reading stops can be completed
pub record Viable (refusal : Refusal) (left : ℕ) (p : Place) : Type 0 where
  pub front : List Token
  pub fix : List Token
  pub rest : List Token
  pub tokens : p.rest ≡ front ++ rest
  pub spelling : Spelling
  pub lawful : IsLawfulSpelling spelling
  pub spelt : front ++ fix ≡ tokens_in spelling
  pub shape : ShapeThere refusal left front fix rest

shape-there : (refusal : Refusal) (left : ℕ) (front fix rest : List Token) → Shape refusal left front fix rest → ShapeThere refusal left front (fix ++ []) rest
shape-there Syntax left front fix rest (same, inl fresh) = (same, inl (ap (λ l. is_type (front_of (l ++ []))) fresh.is ∙ fresh.no_type))
shape-there Syntax left front fix rest (same, inr plain) = (same, inr plain)
shape-there Deep left front fix rest same = same
shape-there (Many what) left front fix rest shape = shape

shape-behind : (refusal : Refusal) (left : ℕ) (w front fix rest : List Token) → ShapeThere refusal left front fix rest → ShapeThere refusal left (w ++ front) fix rest
shape-behind Syntax left w front fix rest (same, inl fresh) = (same, inl fresh)
shape-behind Syntax left w front fix rest (same, inr plain) = (same, inr (ends-plain w front plain))
shape-behind Deep left w front fix rest same = same
shape-behind (Many what) left w front fix rest (inl one) = inl (one.0, ends-plain w front one.1)
shape-behind (Many what) left w front fix rest (inr two) = inr two

abbrev stopped : Refusal → ℕ → Outcome (List Function)
stopped refusal left = Refused refusal left

stops-here : (p : Place) (refusal : Refusal) (left : ℕ) → stopped Syntax (length p.rest) ≡ Refused refusal left → Viable refusal left p
stops-here p refusal left is =
    let syntax : Syntax ≡ refusal = cc in
    let all : length p.rest ≡ left = cc in
    subst (λ r. Viable r left p) syntax (record { front = []; fix = []; rest = p.rest; tokens = refl; spelling = []; lawful = tt; spelt = refl; shape = (all, inl refl) })

one-function : (p : Place) (refusal : Refusal) (left : ℕ) → Leads DefinitionOf p (reading.function p) → (g : Function → Parser (List Function))
    → ((next : Function) (q : Place) → g next q ≡ Refused refusal left → Viable refusal left q) → and_then (reading.function p) g ≡ Refused refusal left → Viable refusal left p
one-function p refusal left (leading.Whole value q w is holds tokens goes) g later refused =
    let more = later value q (sym (ap (λ k. and_then k g) is) ∙ refused) in
    let (d, lawful, spelt) = goes (more.front ++ more.fix) in
    record {
      front = w ++ more.front;
      fix = more.fix;
      rest = more.rest;
      tokens = tokens ∙ ap (λ l. w ++ l) more.tokens ∙ sym (append_assoc w more.front more.rest);
      spelling = d ∷ more.spelling;
      lawful = (lawful, more.lawful);
      spelt = append_assoc w more.front more.fix ∙ spelt ∙ ap (definition_in_front d) more.spelt;
      shape = shape-behind refusal left w more.front more.fix more.rest more.shape;
    }
one-function p refusal left (leading.Part other count front fix rest is tokens goes shape) g later refused =
    let (d, lawful, spelt) = goes [] in
    let stops : stopped other count ≡ Refused refusal left = sym (ap (λ k. and_then k g) is) ∙ refused in
    let same : other ≡ refusal = cc in
    let all : count ≡ left = cc in
    subst (λ r. Viable r left p) same (subst (λ n. Viable other n p) all (record {
      front = front;
      fix = fix ++ [];
      rest = rest;
      tokens = tokens;
      spelling = d ∷ [];
      lawful = (lawful, tt);
      spelt = spelt;
      shape = shape-there other count front fix rest shape;
    }))

type-no_open : (t : Ty) (line : ℕ) → next_of (typed t line) ≡ next.Sign sign.OpenParen → ⊥
unfolding keyword_of
type-no_open Int line same = cc
type-no_open Long line same = cc

functions-viable : (turns : ℕ) (found : List Function) (p : Place) (refusal : Refusal) (left : ℕ) → reading.functions_from turns found p ≡ Refused refusal left → Viable refusal left p
unfolding reading.functions_from reading.count_function reading.one_more
functions-viable zero found p refusal left refused = go (reading.at_end p) refused
  where
    go : (b : Bool) → cond b (Read (found, p)) (refuse Syntax p) ≡ Refused refusal left → Viable refusal left p
    go true is = absurd (cc)
    go false is = stops-here p refusal left is
functions-viable (suc turns) found p refusal left refused =
    go (reading.at_end p) (is_type (front p)) refl (nat_lt (length found) most_functions) (λ made q is. functions-viable turns (found ++ made ∷ []) q refusal left is) refused
  where
    go : (b c : Bool) → is_type (front p) ≡ c → (d : Bool) → ((made : Function) (q : Place) → reading.functions_from turns (found ++ made ∷ []) q ≡ Refused refusal left → Viable refusal left q)
        → cond b (Read (found, p)) (and_then (cond c (cond d (Read (tt {0}, p)) (refuse (Many Functions) p)) (refuse Syntax p)) (λ _. reading.function >>= (λ made. reading.functions_from turns (found ++ made ∷ []))))
        ≡ Refused refusal left → Viable refusal left p
    go true c types d later is = absurd (cc)
    go false false types d later is = stops-here p refusal left is
    go false true types true later is = one-function p refusal left (function-leads p types) (λ made. reading.functions_from turns (found ++ made ∷ [])) later is
    go false true types false later is =
        let here = type-here p types in
        let (d, lawful, spelt) = defined (typed here.t here.line ∷ (behind-type.fix ++ [])) [] (record { between = behind-type.fix ++ []; first = (here.line, here.t, refl); second = behind-type.goes [] }) in
        let same : Many Functions ≡ refusal = cc in
        let all : length p.rest ≡ left = cc in
        subst (λ r. Viable r left p) same (subst (λ n. Viable (Many Functions) n p) all (record {
          front = typed here.t here.line ∷ [];
          fix = behind-type.fix ++ [];
          rest = here.rest;
          tokens = here.tokens;
          spelling = d ∷ [];
          lawful = (lawful, tt);
          spelt = spelt;
          shape = inl (sym (ap length here.tokens), record { before = []; token = typed here.t here.line; is = refl; no_open = type-no_open here.t here.line });
        }))

pub program-viable : (tokens : List Token) (refusal : Refusal) (left : ℕ) → reading.functions tokens ≡ Refused refusal left → Viable refusal left (start_of tokens)
unfolding reading.functions
program-viable tokens refusal left refused = functions-viable (length tokens) [] (start_of tokens) refusal left refused
