use Rattle.std.proofs.Common.{◌≡◌, ℕ, Bool, false, List, [], ◌∷◌, refl, sym, length, slice_index, arith}
use Rattle.std.specs.Prelude.{not, ◌==◌, ◌||◌}
use Rattle.std.proofs.lemmas.Bool.Decides.{nat_tests}
use Rattle.sk_tokens.specs.Lexemes.{signs}
use Rattle.sk_token_laws.proofs.Signs.{sign_of-none}
use Rattle.sk_lexer.proofs.sign.of_two.Goals as goal

-- two bytes: the second is `=` or as the first
passes : List ℕ → Bool
passes bytes = not (length bytes == 2) || slice_index bytes 1 == 61 || slice_index bytes 0 == slice_index bytes 1

pub returns-else-second-first : goal.returns-else-second-first
unfolding passes signs
returns-else-second-first c =
    let first = c.args.first in
    let second = c.args.second in
    let fails : passes (first ∷ second ∷ []) ≡ false = grind (arith, nat_tests) in
    sym (sign_of-none passes (first ∷ second ∷ []) refl fails)
