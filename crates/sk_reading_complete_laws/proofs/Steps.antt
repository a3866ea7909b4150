-- Steps of the parser, at places given by their parts.
use Rattle.std.proofs.Common.{◌≡◌, ℕ, ◌+◌, ◌<◌, ◌≤◌, false, List, [], ◌∷◌, length, map, ℤ, None, IsTrue, refl, arith}
use Rattle.std.proofs.lemmas.Bool.{not-true, or_parts}
use Rattle.std.specs.List.{list_any}
use Rattle.sk_base.specs.declared.number.Ty.{Ty}
use Rattle.sk_base.specs.declared.number.Ty.TheVariants.{Int, Long}
use Rattle.sk_grammar.specs.ExpressionSpelling as spelling
use Rattle.sk_grammar.specs.ExpressionSpelling.{sign_at, with_commas}
use Rattle.sk_names.specs.Bytes.{same_bytes}
use Rattle.sk_grammar.specs.Signs.{meant_by}
use Rattle.sk_names.specs.Words.{is_name, reserved_words}
use Rattle.sk_tokens.specs.declared.token.Sign.TheVariants as sign
use Rattle.sk_tokens.specs.declared.token.Token.{Token}
use Rattle.sk_reading.specs.Reading.{Place, Read, keyword_words, keyword_of, front, advance, front_word, name_of, name, number, ty}

abbrev pub at : List Token → (nodes instances : ℕ) → Place
at tokens nodes instances = record { rest = tokens; nodes = nodes; instances = instances }

pub meant-none : {A : Type 0} (entries : List (List ℕ × A)) (w : List ℕ)
    → list_any (λ other. same_bytes other w) (map (λ entry. entry.0) entries) ≡ false → meant_by entries w ≡ None
meant-none [] w h = refl
meant-none (entry ∷ entries) w h =
    let (here, later) = or_parts (same_bytes entry.0 w) (list_any (λ other. same_bytes other w) (map (λ entry. entry.0) entries)) h in
    rw here (meant-none entries w later)

pub keyword-none : (w : List ℕ) → IsTrue (is_name w) → keyword_of w ≡ None
unfolding keyword_of is_name
keyword-none w h = meant-none keyword_words w (not-true (list_any (λ reserved. same_bytes reserved w) reserved_words) h)

pub name-ok : (w : List ℕ) (line : ℕ) (r : List Token) (n i : ℕ) → IsTrue (is_name w) → name (at (spelling.word w line ∷ r) n i) ≡ Read (w, at r n i)
unfolding name name_of front_word advance
name-ok w line r n i h = rw (keyword-none w h) refl

pub number-ok : (t : Ty) (v : ℤ) (line : ℕ) (r : List Token) (n i : ℕ) → number (at (spelling.number t v line ∷ r) n i) ≡ Read ((t, v), at r n i)
unfolding number advance
number-ok t v line r n i = refl

pub ty-ok : (t : Ty) (line : ℕ) (r : List Token) (n i : ℕ) → ty (at (spelling.typed t line ∷ r) n i) ≡ Read (t, at r n i)
unfolding ty advance front keyword_of
ty-ok Int line r n i = refl
ty-ok Long line r n i = refl

-- ---- items with commas between

-- where each item has a token
pub commas_longer : {W : Type 0} (in_front : W → List Token → List Token) → ((w : W) (r : List Token) → length r < length (in_front w r))
    → (l : List (W × ℕ)) (r : List Token) → length l + length r ≤ length (with_commas in_front l r)
commas_longer in_front longer [] r = omega arith
commas_longer in_front longer (a ∷ []) r = omega (arith, longer a.0 r)
commas_longer in_front longer (a ∷ b ∷ l) r =
    omega (arith, longer a.0 (sign_at sign.Comma a.1 ∷ with_commas in_front (b ∷ l) r), commas_longer in_front longer (b ∷ l) r)
