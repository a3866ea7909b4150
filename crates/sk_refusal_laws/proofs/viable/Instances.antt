-- What reading instances leads to.
use Rattle.std.proofs.Common.{◌≡◌, ℕ, ◌<◌, Bool, true, false, cond, List, [], ◌∷◌, ◌++◌, length, ℤ, pos, codes, refl, ap, ◌∙◌, arith}
use Rattle.sk_base.specs.declared.number.Ty.{Ty}
use Rattle.sk_base.specs.declared.number.Ty.TheVariants.{Int}
use Rattle.sk_grammar.specs.ExpressionSpelling as expressions
use Rattle.sk_grammar.specs.ExpressionSpelling.{IsName, sign_at, word, with_commas, each}
use Rattle.sk_grammar.specs.Signs.{skeleton_words}
use Rattle.sk_grammar.specs.StatementSpelling as spelling
use Rattle.sk_grammar.specs.StatementSpelling.{Written, Numbers}
use Rattle.sk_tokens.specs.declared.token.Sign.TheVariants as sign
use Rattle.sk_tokens.specs.declared.token.Token.{Token}
use Rattle.sk_tree.specs.declared.tree.What.TheVariants as what
use Rattle.sk_tree.specs.declared.tree.Skeleton.TheVariants.{Map}
use Rattle.sk_reading.specs.declared.keyword.Keyword.TheVariants as key
use Rattle.sk_reading.specs.declared.next.Next.TheVariants as next
use Rattle.sk_reading.specs.Reading.{Place, Read, Parser, and_then, ◌>>◌, pure, front, advance, sees, after, expect, name, number, keyword_of}
use Rattle.sk_reading.specs.ReadingForms.{numbers_from, numbers, names_from, names, instance}
use Rattle.sk_reading_sound_laws.proofs.Steps.{lines_of, sign-takes, sees-sign, keyword-takes}
use Rattle.sk_refusal_laws.proofs.viable.Leads as leading
use Rattle.sk_refusal_laws.proofs.viable.Leads.{Lang, Chain, SignOf, KeywordOf, NameOf, NumberOf, WordOf, Leads, Default, default-chain, leads-then, leads-map, leads-done}
use Rattle.sk_refusal_laws.proofs.viable.Forms.{BegunOf}
use Rattle.sk_refusal_laws.proofs.viable.Operands.{a-sign}
use Rattle.sk_refusal_laws.proofs.viable.Tokens.{leads-expect, leads-keyword, leads-name, leads-number, leads-word_in, leads-taken, leads-opens_by, leads-counted_instance, leads-prefix, leads-list, front-of, a-name, name-fresh, is-a}

-- one more in front of some
pub commas-more : {A : Type 0} (front : A → List Token → List Token) (a : A) (line : ℕ) (l : List (A × ℕ)) → 0 < length l → (r : List Token)
    → front a (sign_at sign.Comma line ∷ with_commas front l r) ≡ with_commas front ((a, line) ∷ l) r
commas-more front a line [] some r = absurd (omega arith)
commas-more front a line (b ∷ l) some r = refl

abbrev NumbersIn : Lang
NumbersIn tokens rest = (l : List ((ℕ × Ty × ℤ) × ℕ)) × (0 < length l) × (tokens ≡ with_commas spelling.a_number l rest)

abbrev NamesIn : Lang
NamesIn tokens rest = (l : List ((ℕ × List ℕ) × ℕ)) × (0 < length l) × each (λ written. IsName written.0.1) l × (tokens ≡ with_commas spelling.a_name l rest)

abbrev NumbersOf : Lang
NumbersOf tokens rest = (ns : Numbers) × spelling.AreLawfulNumbers ns × (tokens ≡ spelling.numbers_in_front ns rest)

abbrev some-numbers : Default NumbersIn
some-numbers = record { fix = expressions.number Int (pos 1) 0 ∷ []; goes = λ r. (((0, Int, pos 1), 0) ∷ [], omega arith, refl) }

abbrev some-names : Default NamesIn
some-names = record { fix = word (codes "a") 0 ∷ []; goes = λ r. (((0, codes "a"), 0) ∷ [], omega arith, (is-a, tt), refl) }

numbers_from-lead : (p : Place) → Leads NumbersIn p (numbers_from (length p.rest) [] p)
unfolding numbers_from
numbers_from-lead p =
    leads-list (λ _. number) (λ (written : Ty × ℤ). written.1) numbers_from NumberOf NumbersIn (λ found q. refl, λ turns found q. refl)
    (λ tokens rest found. let (line, t, v, is) = found in (((line, t, v), 0) ∷ [], omega arith, is))
    (λ tokens between rest comma first found. let (line, t, v, is) = first in let (l, some, same) = found in
    (((line, t, v), comma) ∷ l, omega arith, is ∙ ap (λ k. expressions.number t v line ∷ sign_at sign.Comma comma ∷ k) same ∙ commas-more spelling.a_number (line, t, v) comma l some rest))
    some-numbers (record { token = expressions.number Int (pos 1) 0; more = []; is = refl; no_type = refl }) (λ found q. leads-number q) (length p.rest) [] p

names-lead : (p : Place) → Leads NamesIn p (names p)
unfolding names names_from
names-lead p =
    leads-list (λ _. name) (λ written. written) names_from NameOf NamesIn (λ found q. refl, λ turns found q. refl)
    (λ tokens rest found. let (line, w, free, is) = found in (((line, w), 0) ∷ [], omega arith, (free, tt), is))
    (λ tokens between rest comma first found. let (line, w, free, is) = first in let (l, some, others, same) = found in
    (((line, w), comma) ∷ l, omega arith, (free, others), is ∙ ap (λ k. word w line ∷ sign_at sign.Comma comma ∷ k) same ∙ commas-more spelling.a_name (line, w) comma l some rest))
    some-names (name-fresh []) (λ found q. leads-name q) (length p.rest) [] p

numbers-lead : (p : Place) → Leads NumbersOf p (numbers p)
unfolding numbers after
numbers-lead p = go (sees sign.Lt p) refl
  where
    some : (line : ℕ) (tokens rest : List Token) → Chain NumbersIn (SignOf sign.Gt) tokens rest → NumbersOf (sign_at sign.Lt line ∷ tokens) rest
    some line tokens rest c =
        let (l, few, is) = c.first in
        let (end, is') = c.second in
        (Numbers.Between (lines_of (line ∷ end ∷ [])) l, few, ap (λ k. sign_at sign.Lt line ∷ k) (is ∙ ap (with_commas spelling.a_number l) is'))

    go : (b : Bool) → sees sign.Lt p ≡ b
        → Leads NumbersOf p (cond {A = Parser (List ℤ)} b (λ (q : Place). and_then (numbers_from (length q.rest) [] q) (λ found. expect sign.Gt >> pure found)) (λ q. Read ([], q)) (cond b (advance p) p))
    go true is =
        let (line, takes) = sign-takes p sign.Lt (sees-sign p sign.Lt is) in
        leads-prefix (sign_at sign.Lt line) p (advance p) takes.tokens (some line) (leads-then _ (numbers_from-lead (advance p)) (λ found q _. leads-done (λ _. found) (λ _ _. tt) (leads-expect sign.Gt q)) (a-sign sign.Gt))
    go false is = leading.Whole [] p [] refl tt refl (λ r. (Numbers.NoNumbers, tt, refl))

-- ---- instances

abbrev FunctionsOf : Lang
FunctionsOf = Chain (SignOf sign.OpenParen) (Chain NamesIn (SignOf sign.CloseParen))

abbrev SkeletonOf : Lang
SkeletonOf = Chain (KeywordOf key.Skepu) (Chain (SignOf sign.Path) (Chain (WordOf skeleton_words) (Chain NumbersOf FunctionsOf)))

abbrev InstanceOf : Lang
InstanceOf = Chain (KeywordOf key.Auto) (Chain NameOf (Chain (SignOf sign.Eq) SkeletonOf))

abbrev some-functions : Default FunctionsOf
some-functions = default-chain (a-sign sign.OpenParen) (default-chain some-names (a-sign sign.CloseParen))

abbrev no-numbers : Default NumbersOf
no-numbers = record { fix = []; goes = λ r. (Numbers.NoNumbers, tt, refl) }

abbrev behind-path : Default (Chain (WordOf skeleton_words) (Chain NumbersOf FunctionsOf))
behind-path = default-chain (record { fix = word (codes "Map") 0 ∷ []; goes = λ r. (0, codes "Map", Map, refl, refl) }) (default-chain no-numbers some-functions)

abbrev a-skeleton : Default SkeletonOf
a-skeleton = default-chain (record { fix = word (codes "skepu") 0 ∷ []; goes = λ r. (0, refl) }) (default-chain (a-sign sign.Path) behind-path)

abbrev behind-auto : Default (Chain NameOf (Chain (SignOf sign.Eq) SkeletonOf))
behind-auto = default-chain a-name (default-chain (a-sign sign.Eq) a-skeleton)

made : (tokens rest : List Token) → InstanceOf tokens rest → BegunOf tokens rest
made tokens rest c = λ line r end.
    let (l0, is0) = c.first in
    let (l1, w, free, is1) = c.second.first in
    let (l2, is2) = c.second.second.first in
    let s = c.second.second.second in
    let (l3, is3) = s.first in
    let (l4, is4) = s.second.first in
    let (l5, k, skeleton, meant, is5) = s.second.second.first in
    let (ns, few, is6) = s.second.second.second.first in
    let f = s.second.second.second.second in
    let (l6, is7) = f.first in
    let (fs, some, names, is8) = f.second.first in
    let (l7, is9) = f.second.second in (
      Written.Instantiate (lines_of (l0 ∷ l1 ∷ l2 ∷ l3 ∷ l4 ∷ l5 ∷ l6 ∷ l7 ∷ line ∷ [])) w k skeleton ns fs,
      (free, meant, few, some, names),
      is0 ∙ ap (λ l. word (codes "auto") l0 ∷ l) (is1 ∙ ap (λ l. word w l1 ∷ l) (is2 ∙ ap (λ l. sign_at sign.Eq l2 ∷ l) (is3 ∙ ap (λ l. word (codes "skepu") l3 ∷ l) (is4 ∙ ap (λ l. sign_at sign.Path l4 ∷ l)
          (is5 ∙ ap (λ l. word k l5 ∷ l) (is6 ∙ ap (spelling.numbers_in_front ns) (is7 ∙ ap (λ l. sign_at sign.OpenParen l6 ∷ l) (is8 ∙ ap (with_commas spelling.a_name fs) (is9 ∙ ap (λ l. sign_at sign.CloseParen l7 ∷ l) end))))))))),
    )

pub instance-leads : (left : ℕ) (p : Place) → front p ≡ next.Keyword key.Auto → Leads BegunOf p (instance left p)
unfolding instance keyword_of
instance-leads left p is =
    let (line, takes) = keyword-takes p key.Auto is in
    leads-counted_instance p _ (record {
      token = word (codes "auto") line;
      rest = (advance p).rest;
      fix = behind-auto.fix;
      tokens = takes.tokens;
      goes = λ r. made (word (codes "auto") line ∷ (behind-auto.fix ++ r)) r (record { between = behind-auto.fix ++ r; first = (line, refl); second = behind-auto.goes r });
      no_open = λ same. cc;
    }) (λ q same. leads-map made (leads-then _ (leads-taken key.Auto q (front-of p q same ∙ is)) (λ _ s _. leads-then _ (leads-name s) (λ declared z _. leads-then _ (leads-expect sign.Eq z) (λ _ u _.
    leads-then _ (leads-keyword key.Skepu refl u) (λ _ v _. leads-then _ (leads-expect sign.Path v) (λ _ x _. leads-then _ (leads-word_in skeleton_words (codes "Map") Map refl refl x) (λ skeleton y _.
    leads-then _ (numbers-lead y) (λ counts a _. leads-opens_by sign.OpenParen left a _ (λ b some. leads-then _ (names-lead b) (λ functions c _.
    leads-done (λ _. what.Instance (record { name = declared; skeleton = skeleton; numbers = counts; functions = functions })) (λ _ _. tt) (leads-expect sign.CloseParen c)) (a-sign sign.CloseParen))
    (default-chain some-names (a-sign sign.CloseParen))) some-functions) (default-chain no-numbers some-functions)) behind-path) (default-chain (a-sign sign.Path) behind-path)) a-skeleton) (default-chain (a-sign sign.Eq) a-skeleton)) behind-auto))
