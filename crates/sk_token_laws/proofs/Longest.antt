-- The longest front that spells something: one such front than which no longer one spells anything.
use Rattle.std.proofs.Common.{◌≡◌, ℕ, zero, suc, ◌<◌, ◌≤◌, inl, inr, subst, List, take, refl, arith}
use Rattle.std.specs.Prelude.{Some, None}
use Rattle.std.proofs.lemmas.Bool.Decides.{eqb_tells}
use Rattle.sk_tokens.specs.Lexemes.{Lexeme, lexeme_of}
use Rattle.sk_tokens.specs.Tokens.{longest_of}

pub longest_of-none : (most : ℕ) (rest : List ℕ) → ((k : ℕ) → 0 < k → k ≤ most → lexeme_of (take k rest) ≡ None) → longest_of most rest ≡ None
longest_of-none zero rest none = refl
longest_of-none (suc most) rest none =
    rw (none (suc most) (omega arith) (omega arith), longest_of) (longest_of-none most rest (λ k some within. none k some (omega arith)))

pub longest_of-found : (most bytes : ℕ) (rest : List ℕ) (lexeme : Lexeme) → 0 < bytes → bytes ≤ most → lexeme_of (take bytes rest) ≡ Some lexeme → ((k : ℕ) → bytes < k → k ≤ most → lexeme_of (take k rest) ≡ None) → longest_of most rest ≡ Some (bytes, lexeme)
longest_of-found zero bytes rest lexeme some within spelled longest = absurd (omega arith)
longest_of-found (suc most) bytes rest lexeme some within spelled longest =
    elim (eqb_tells bytes (suc most)) [
      | inl same ↦
          let e : lexeme_of (take (suc most) rest) ≡ Some lexeme = subst (λ k. lexeme_of (take k rest) ≡ Some lexeme) same.1 spelled in
          rw (e, longest_of) (rw same.1)
      | inr other ↦
          rw (longest (suc most) (omega arith) (omega arith), longest_of) (longest_of-found most bytes rest lexeme some (omega arith) spelled (λ k above under. longest k above (omega arith)))
    ]
