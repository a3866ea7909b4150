-- What reading containers and instances leads to.
use Rattle.std.proofs.Common.{◌≡◌, ℕ, List, [], ◌∷◌, ◌++◌, Some, codes, refl, ap, sym, subst, ◌∙◌}
use Rattle.sk_base.specs.declared.number.Ty.{Ty}
use Rattle.sk_base.specs.declared.number.Ty.TheVariants.{Int}
use Rattle.sk_grammar.specs.ExpressionSpelling.{arguments_in_front, IsName, sign_at, word, typed, string}
use Rattle.sk_grammar.specs.Signs.{meant_by, container_words}
use Rattle.sk_grammar.specs.StatementSpelling.{Written}
use Rattle.sk_tokens.specs.declared.token.Sign.TheVariants as sign
use Rattle.sk_tokens.specs.declared.token.Token.{Token}
use Rattle.sk_tree.specs.declared.tree.What.TheVariants as what
use Rattle.sk_reading.specs.declared.keyword.Keyword.TheVariants as key
use Rattle.sk_reading.specs.declared.next.Next.{Next}
use Rattle.sk_reading.specs.declared.next.Next.TheVariants as next
use Rattle.sk_reading.specs.Reading.{Place, front, keyword_of}
use Rattle.sk_reading.specs.ReadingForms.{filled, input, make_by, make}
use Rattle.sk_reading_sound_laws.proofs.Steps.{lines_of}
use Rattle.sk_refusal_laws.proofs.viable.Leads.{Lang, Chain, SignOf, KeywordOf, NameOf, TextOf, TypeOf, WordOf, Leads, Default, default-chain, leads-then, leads-map, leads-done, leads-lacking}
use Rattle.sk_refusal_laws.proofs.viable.Assignments.{PlacesOf, places-lead}
use Rattle.sk_refusal_laws.proofs.viable.Forms.{WrittenOf, BegunOf}
use Rattle.sk_refusal_laws.proofs.viable.Operands.{an-argument, a-sign}
use Rattle.sk_refusal_laws.proofs.viable.Tokens.{leads-expect, leads-keyword, leads-name, leads-text, leads-word_in, leads-angle, leads-sign, leads-taken, leads-opens, leads-opens_by, a-name}

-- ---- containers

-- what follows a container's name
abbrev MakeOf : Lang
MakeOf tokens rest = (l0 l1 l2 l3 l4 l5 l6 : ℕ) (k : List ℕ) (sizes : ℕ) (t : Ty) (w : List ℕ) → meant_by container_words k ≡ Some sizes → IsName w
    → BegunOf (word (codes "skepu") l0 ∷ sign_at sign.Path l1 ∷ word k l2 ∷ sign_at sign.Lt l3 ∷ typed t l4 ∷ sign_at sign.Gt l5 ∷ word w l6 ∷ tokens) rest

filled-make : (tokens rest : List Token) → PlacesOf tokens rest → MakeOf tokens rest
filled-make tokens rest c = λ l0 l1 l2 l3 l4 l5 l6 k sizes t w meant free line r end.
    let (l7, is7) = c.first in
    let (ss, lawful, is8) = c.second.first in
    let (l8, is9) = c.second.second in (
      Written.Make (lines_of (l0 ∷ l1 ∷ l2 ∷ l3 ∷ l4 ∷ l5 ∷ l6 ∷ l7 ∷ l8 ∷ line ∷ [])) k sizes t w ss,
      (meant, free, lawful),
      ap (λ l. word (codes "skepu") l0 ∷ sign_at sign.Path l1 ∷ word k l2 ∷ sign_at sign.Lt l3 ∷ typed t l4 ∷ sign_at sign.Gt l5 ∷ word w l6 ∷ l)
          (is7 ∙ ap (λ l. sign_at sign.OpenParen l7 ∷ l) (is8 ∙ ap (arguments_in_front ss) (is9 ∙ ap (λ l. sign_at sign.CloseParen l8 ∷ l) end))),
    )

abbrev InputOf : Lang
InputOf = Chain (SignOf sign.Eq) (Chain (KeywordOf key.SkepuInput) (Chain (SignOf sign.OpenParen) (Chain TextOf (SignOf sign.CloseParen))))

input-make : (tokens rest : List Token) → InputOf tokens rest → MakeOf tokens rest
input-make tokens rest c = λ l0 l1 l2 l3 l4 l5 l6 k sizes t w meant free line r end.
    let (l7, is7) = c.first in
    let (l8, is8) = c.second.first in
    let (l9, is9) = c.second.second.first in
    let (l10, given, is10) = c.second.second.second.first in
    let (l11, is11) = c.second.second.second.second in (
      Written.Take (lines_of (l0 ∷ l1 ∷ l2 ∷ l3 ∷ l4 ∷ l5 ∷ l6 ∷ l7 ∷ l8 ∷ l9 ∷ l10 ∷ l11 ∷ line ∷ [])) k sizes t w given,
      (meant, free),
      ap (λ l. word (codes "skepu") l0 ∷ sign_at sign.Path l1 ∷ word k l2 ∷ sign_at sign.Lt l3 ∷ typed t l4 ∷ sign_at sign.Gt l5 ∷ word w l6 ∷ l)
          (is7 ∙ ap (λ l. sign_at sign.Eq l7 ∷ l) (is8 ∙ ap (λ l. word (codes "skepu_input") l8 ∷ l) (is9 ∙ ap (λ l. sign_at sign.OpenParen l9 ∷ l)
          (is10 ∙ ap (λ l. string given l10 ∷ l) (is11 ∙ ap (λ l. sign_at sign.CloseParen l11 ∷ l) end))))),
    )

abbrev some-places : Default PlacesOf
some-places = default-chain (a-sign sign.OpenParen) (default-chain an-argument (a-sign sign.CloseParen))

abbrev a-make : Default MakeOf
a-make = record { fix = some-places.fix; goes = λ r. filled-make (some-places.fix ++ r) r (some-places.goes r) }

abbrev a-text : Default TextOf
a-text = record { fix = string [] 0 ∷ []; goes = λ r. (0, [], refl) }

module _ (left : ℕ) where
  make_by-leads : (sizes : ℕ) (of : Ty) (container : List ℕ) (p : Place) (nx : Next) → front p ≡ nx → Leads MakeOf p (make_by left sizes of container nx p)
  unfolding filled input keyword_of
  make_by-leads sizes of container p (next.Sign sign.OpenParen) is =
      leads-map filled-make (leads-opens sign.OpenParen left p _ is (λ q some. leads-then _ (places-lead left q some) (λ found s _. leads-done (λ _. what.Make sizes of container found) (λ _ _. tt) (leads-expect sign.CloseParen s)) (a-sign sign.CloseParen))
      (default-chain an-argument (a-sign sign.CloseParen)))
  make_by-leads sizes of container p (next.Sign sign.Eq) is =
      leads-map input-make (leads-then _ (leads-sign sign.Eq p is) (λ _ q _. leads-then _ (leads-keyword key.SkepuInput refl q) (λ _ s _. leads-opens_by sign.OpenParen left s _ (λ z some.
      leads-then _ (leads-text z) (λ given u _. leads-done (λ _. what.Take sizes of container given) (λ _ _. tt) (leads-expect sign.CloseParen u)) (a-sign sign.CloseParen))
      (default-chain a-text (a-sign sign.CloseParen))) (default-chain (a-sign sign.OpenParen) (default-chain a-text (a-sign sign.CloseParen))))
      (default-chain (record { fix = word (codes "skepu_input") 0 ∷ []; goes = λ r. (0, refl) }) (default-chain (a-sign sign.OpenParen) (default-chain a-text (a-sign sign.CloseParen)))))
  make_by-leads sizes of container p (next.Sign s) is = leads-lacking a-make p (record { token = sign_at sign.OpenParen 0; more = _; is = refl; no_type = refl })
  make_by-leads sizes of container p other is = leads-lacking a-make p (record { token = sign_at sign.OpenParen 0; more = _; is = refl; no_type = refl })

  abbrev BehindKind : Lang
  BehindKind = Chain (SignOf sign.Lt) (Chain TypeOf (Chain (SignOf sign.Gt) (Chain NameOf MakeOf)))

  a-type : Default TypeOf
  a-type = record { fix = typed Int 0 ∷ []; goes = λ r. (0, Int, refl) }

  abbrev behind-type : Default (Chain (SignOf sign.Gt) (Chain NameOf MakeOf))
  behind-type = default-chain (a-sign sign.Gt) (default-chain a-name a-make)

  a-container : Default (WordOf container_words)
  a-container = record { fix = word (codes "Vector") 0 ∷ []; goes = λ r. (0, codes "Vector", 1, refl, refl) }

  pub make-leads : (p : Place) → front p ≡ next.Keyword key.Skepu → Leads BegunOf p (make left p)
  unfolding make keyword_of
  make-leads p is =
      leads-map made (leads-then _ (leads-taken key.Skepu p is) (λ _ q _. leads-then _ (leads-expect sign.Path q) (λ _ s _. leads-then _ (leads-word_in container_words (codes "Vector") 1 refl refl s) (λ sizes z _.
      leads-angle _ z (λ of u. leads-then _ (leads-expect sign.Gt u) (λ _ v _. leads-then _ (leads-name v) (λ container x _. make_by-leads sizes of container x (front x) refl) a-make) (default-chain a-name a-make)) behind-type)
      behind-kind) (default-chain a-container behind-kind)) (default-chain (a-sign sign.Path) (default-chain a-container behind-kind)))
    where
      behind-kind : Default BehindKind
      behind-kind = default-chain (a-sign sign.Lt) (default-chain a-type behind-type)

      made : (tokens rest : List Token) → Chain (KeywordOf key.Skepu) (Chain (SignOf sign.Path) (Chain (WordOf container_words) BehindKind)) tokens rest → BegunOf tokens rest
      made tokens rest c = λ line r end.
          let (l0, is0) = c.first in
          let (l1, is1) = c.second.first in
          let (l2, k, sizes, meant, is2) = c.second.second.first in
          let (l3, is3) = c.second.second.second.first in
          let (l4, t, is4) = c.second.second.second.second.first in
          let (l5, is5) = c.second.second.second.second.second.first in
          let (l6, w, free, is6) = c.second.second.second.second.second.second.first in
          subst (λ l. WrittenOf l r)
          (sym (is0 ∙ ap (λ l. word (codes "skepu") l0 ∷ l) (is1 ∙ ap (λ l. sign_at sign.Path l1 ∷ l) (is2 ∙ ap (λ l. word k l2 ∷ l) (is3 ∙ ap (λ l. sign_at sign.Lt l3 ∷ l) (is4 ∙ ap (λ l. typed t l4 ∷ l)
          (is5 ∙ ap (λ l. sign_at sign.Gt l5 ∷ l) is6)))))))
          (c.second.second.second.second.second.second.second l0 l1 l2 l3 l4 l5 l6 k sizes t w meant free line r end)
