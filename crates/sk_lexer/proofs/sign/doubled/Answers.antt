use Rattle.std.proofs.Common.{◌≡◌, ℕ, Bool, false, List, [], ◌∷◌, refl, sym, length, slice_index, arith}
use Rattle.std.specs.Prelude.{not, ◌==◌, ◌||◌, codes}
use Rattle.std.specs.List.{list_any}
use Rattle.std.proofs.lemmas.Bool.Decides.{nat_tests}
use Rattle.sk_tokens.specs.Lexemes.{signs}
use Rattle.sk_token_laws.proofs.Signs.{sign_of-none}
use Rattle.sk_lexer.proofs.sign.doubled.Goals as goal

-- the same byte twice, and which
passes : List ℕ → Bool
passes bytes = not (length bytes == 2) || not (slice_index bytes 0 == slice_index bytes 1) || list_any (λ code. code == slice_index bytes 0) (codes ":<>=&|+-")

pub returns-in_default : goal.returns-in_default
unfolding passes signs
returns-in_default c =
    let byte = c.args.byte in
    let fails : passes (byte ∷ byte ∷ []) ≡ false = grind (arith, nat_tests) in
    sym (sign_of-none passes (byte ∷ byte ∷ []) refl fails)
