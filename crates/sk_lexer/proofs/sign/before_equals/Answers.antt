use Rattle.std.proofs.Common.{◌≡◌, ℕ, Bool, false, List, [], ◌∷◌, refl, sym, length, slice_index, arith}
use Rattle.std.specs.Prelude.{not, ◌==◌, ◌||◌, codes}
use Rattle.std.specs.List.{list_any}
use Rattle.std.proofs.lemmas.Bool.Decides.{nat_tests}
use Rattle.sk_tokens.specs.Lexemes.{signs}
use Rattle.sk_token_laws.proofs.Signs.{sign_of-none}
use Rattle.sk_lexer.proofs.sign.before_equals.Goals as goal

-- a byte and `=`, and which
passes : List ℕ → Bool
passes bytes = not (length bytes == 2) || not (slice_index bytes 1 == 61) || list_any (λ code. code == slice_index bytes 0) (codes "<>=!+-*/%&|^")

pub returns-in_default : goal.returns-in_default
unfolding passes signs
returns-in_default c =
    let first = c.args.first in
    let fails : passes (first ∷ 61 ∷ []) ≡ false = grind (arith, nat_tests) in
    sym (sign_of-none passes (first ∷ 61 ∷ []) refl fails)
