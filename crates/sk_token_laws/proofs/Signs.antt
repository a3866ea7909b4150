-- Bytes that spell no sign, and the longest sign at the front of a rest.
use Rattle.std.proofs.Common.{◌≡◌, ◌≢◌, ℕ, zero, suc, ◌<◌, ◌≤◌, ◌⊎◌, inl, inr, Bool, true, false, List, [], ◌∷◌, length, take, slice_index, refl, ap, subst, ◌∙◌, arith}
use Rattle.std.specs.Prelude.{Some, None, find, nat_le}
use Rattle.std.specs.List.{list_all}
use Rattle.std.proofs.lemmas.List.{length-take-le}
use Rattle.std.specs.Option.{option_map}
use Rattle.std.proofs.lemmas.Bool.{cases_Bool, ne_eqb, leb-true, leb-false}
use Rattle.std.proofs.lemmas.Bool.Decides.{nat_tests}
use Rattle.sk_tokens.specs.declared.token.Sign.{Sign}
use Rattle.sk_tokens.specs.declared.token.TokenKind.TheVariants as kinds
use Rattle.sk_tokens.specs.Lexemes.{SignLexeme, lexeme_of, sign_of, signs}
use Rattle.sk_names.specs.Bytes.{is_letter, is_digit, same_bytes}
use Rattle.sk_names.specs.BytesLaws.{same_bytes-true}
use Rattle.sk_tokens.specs.Tokens.{Found, Faulty, NoToken, token_at, longest_of}
use Rattle.sk_token_laws.specs.Fronts.{front_sign}
use Rattle.sk_token_laws.proofs.Longest.{longest_of-found, longest_of-none}

no_entry : (passes : List ℕ → Bool) (bytes : List ℕ) (table : List (List ℕ × Sign)) → list_all (λ entry. passes entry.0) table ≡ true → passes bytes ≡ false → find (λ entry. same_bytes entry.0 bytes) table ≡ None
no_entry passes bytes [] all fails = refl
no_entry passes bytes (entry ∷ table) all fails =
    elim (cases_Bool (same_bytes entry.0 bytes)) [
      | inl same ↦
          let here : passes entry.0 ≡ false = ap passes (same_bytes-true entry.0 bytes same) ∙ fails in
          let none : false ≡ true = rw here at all in
          cc
      | inr other ↦
          elim (cases_Bool (passes entry.0)) [
            | inl here ↦
                let rest : list_all (λ entry. passes entry.0) table ≡ true = rw here at all in
                rw (other, find) (no_entry passes bytes table rest fails)
            | inr here ↦
                let none : false ≡ true = rw here at all in
                cc
          ]
    ]

-- no sign is spelled by bytes that fail a test which each sign's spelling passes
pub sign_of-none : (passes : List ℕ → Bool) (bytes : List ℕ) → list_all (λ entry. passes entry.0) signs ≡ true → passes bytes ≡ false → sign_of bytes ≡ None
unfolding sign_of
sign_of-none passes bytes all fails = rw (no_entry passes bytes signs all fails, sign_of) refl

-- at most, or above
le_or_lt : (a b : ℕ) → (a ≤ b) ⊎ (b < a)
le_or_lt a b =
    elim (cases_Bool (nat_le a b)) [
      | inl below ↦ inl (leb-true a b below)
      | inr above ↦ inr (leb-false a b above)
    ]

-- the first byte can begin a sign only
pub record BeginsSign (rest : List ℕ) : Type 0 where
  pub some : 0 < length rest
  pub no_letter : is_letter (slice_index rest 0) ≡ false
  pub no_digit : is_digit (slice_index rest 0) ≡ false
  pub no_quote : slice_index rest 0 ≢ 34

-- what a front of such a rest spells is a sign
lexeme_of-sign : (rest : List ℕ) → BeginsSign rest → (k : ℕ) → lexeme_of (take (suc k) rest) ≡ option_map SignLexeme (sign_of (take (suc k) rest))
unfolding lexeme_of
lexeme_of-sign [] begins k = absurd (omega (arith, begins.some))
lexeme_of-sign (first ∷ tail) begins k =
    rw (begins.no_letter, begins.no_digit, ne_eqb first 34 begins.no_quote) refl

-- no sign has more than three bytes
lexeme_of-long : (rest : List ℕ) → BeginsSign rest → (k : ℕ) → 2 < k → suc k ≤ length rest → lexeme_of (take (suc k) rest) ≡ None
unfolding signs
lexeme_of-long rest begins k long within =
    let e : nat_le (length (take (suc k) rest)) 3 ≡ false = rw (length-take-le (suc k) rest within) (grind (arith, nat_tests)) in
    let none = sign_of-none (λ bytes. nat_le (length bytes) 3) (take (suc k) rest) refl e in
    rw (lexeme_of-sign rest begins k, none) refl

lexeme_of-front : (rest : List ℕ) → BeginsSign rest → (k : ℕ) → suc k ≤ length rest → lexeme_of (take (suc k) rest) ≡ option_map SignLexeme (front_sign (suc k) rest)
lexeme_of-front rest begins k within =
    let e : nat_le (suc k) (length rest) ≡ true = grind (arith, nat_tests) in
    rw (e, front_sign) (lexeme_of-sign rest begins k)

lexeme_of-none : (rest : List ℕ) → BeginsSign rest → (k : ℕ) → suc k ≤ length rest → (k ≤ 2 → front_sign (suc k) rest ≡ None) → lexeme_of (take (suc k) rest) ≡ None
lexeme_of-none rest begins k within none =
    elim (le_or_lt k 2) [
      | inl short ↦ rw (lexeme_of-front rest begins k within, none short) refl
      | inr long ↦ lexeme_of-long rest begins k long within
    ]

front_sign-within : (k : ℕ) (rest : List ℕ) (sign : Sign) → front_sign k rest ≡ Some sign → k ≤ length rest
front_sign-within k rest sign spelled =
    elim (le_or_lt k (length rest)) [
      | inl within ↦ within
      | inr beyond ↦
          let e : nat_le k (length rest) ≡ false = grind (arith, nat_tests) in
          let none : None ≡ Some sign = rw (e, front_sign) at spelled in
          cc
    ]

longest_of-sign : (rest : List ℕ) → BeginsSign rest → (k : ℕ) (sign : Sign) → front_sign (suc k) rest ≡ Some sign → ((j : ℕ) → k < j → j ≤ 2 → front_sign (suc j) rest ≡ None) → longest_of (length rest) rest ≡ Some (suc k, SignLexeme sign)
longest_of-sign rest begins k sign spelled longest =
    let within = front_sign-within (suc k) rest sign spelled in
    let here : lexeme_of (take (suc k) rest) ≡ Some (SignLexeme sign) = rw (lexeme_of-front rest begins k within, spelled) refl in
    longest_of-found (length rest) (suc k) rest (SignLexeme sign) (omega arith) within here (longer rest begins k longest)
  where
    longer : (rest : List ℕ) → BeginsSign rest → (k : ℕ) → ((j : ℕ) → k < j → j ≤ 2 → front_sign (suc j) rest ≡ None) → (j : ℕ) → suc k < j → j ≤ length rest → lexeme_of (take j rest) ≡ None
    longer rest begins k longest zero above under = absurd (omega arith)
    longer rest begins k longest (suc j) above under = lexeme_of-none rest begins j under (λ short. longest j (omega arith) short)

token_at-found : (rest : List ℕ) → BeginsSign rest → (k : ℕ) (sign : Sign) → front_sign (suc k) rest ≡ Some sign → ((j : ℕ) → k < j → j ≤ 2 → front_sign (suc j) rest ≡ None) → token_at rest ≡ Found (suc k) (kinds.Sign sign)
unfolding token_at
token_at-found rest begins k sign spelled longest = rw (longest_of-sign rest begins k sign spelled longest, token_at) refl

pub token_at-sign_three : (rest : List ℕ) → BeginsSign rest → (sign : Sign) → front_sign 3 rest ≡ Some sign → token_at rest ≡ Found 3 (kinds.Sign sign)
token_at-sign_three rest begins sign three = token_at-found rest begins 2 sign three (λ j above under. absurd (omega arith))

pub token_at-sign_two : (rest : List ℕ) → BeginsSign rest → (sign : Sign) → front_sign 3 rest ≡ None → front_sign 2 rest ≡ Some sign → token_at rest ≡ Found 2 (kinds.Sign sign)
token_at-sign_two rest begins sign three two =
    token_at-found rest begins 1 sign two (λ j above under. let e : 2 ≡ j = omega arith in subst (λ n. front_sign (suc n) rest ≡ None) e three)

-- of two or three bytes
longer_than_one : (rest : List ℕ) → front_sign 3 rest ≡ None → front_sign 2 rest ≡ None → (j : ℕ) → 0 < j → j ≤ 2 → front_sign (suc j) rest ≡ None
longer_than_one rest three two zero above under = absurd (omega arith)
longer_than_one rest three two (suc zero) above under = two
longer_than_one rest three two (suc (suc zero)) above under = three
longer_than_one rest three two (suc (suc (suc j))) above under = absurd (omega arith)

front_sign-one : (rest : List ℕ) → 0 < length rest → front_sign 1 rest ≡ sign_of (slice_index rest 0 ∷ [])
front_sign-one [] some = absurd (omega arith)
front_sign-one (first ∷ tail) some =
    let e : nat_le 1 (length (first ∷ tail)) ≡ true = grind (arith, nat_tests) in
    rw (e, front_sign) refl

pub token_at-sign_one : (rest : List ℕ) → BeginsSign rest → (sign : Sign) → front_sign 3 rest ≡ None → front_sign 2 rest ≡ None → sign_of (slice_index rest 0 ∷ []) ≡ Some sign → token_at rest ≡ Found 1 (kinds.Sign sign)
token_at-sign_one rest begins sign three two one =
    token_at-found rest begins 0 sign (front_sign-one rest begins.some ∙ one) (longer_than_one rest three two)

pub token_at-no_sign : (rest : List ℕ) → BeginsSign rest → front_sign 3 rest ≡ None → front_sign 2 rest ≡ None → sign_of (slice_index rest 0 ∷ []) ≡ None → token_at rest ≡ Faulty NoToken
unfolding token_at
token_at-no_sign rest begins three two one =
    rw (longest_of-none (length rest) rest (none rest begins three two (front_sign-one rest begins.some ∙ one)), token_at) refl
  where
    none : (rest : List ℕ) → BeginsSign rest → front_sign 3 rest ≡ None → front_sign 2 rest ≡ None → front_sign 1 rest ≡ None → (j : ℕ) → 0 < j → j ≤ length rest → lexeme_of (take j rest) ≡ None
    none rest begins three two one zero above under = absurd (omega arith)
    none rest begins three two one (suc zero) above under = lexeme_of-none rest begins 0 under (λ short. one)
    none rest begins three two one (suc (suc j)) above under = lexeme_of-none rest begins (suc j) under (λ short. longer_than_one rest three two (suc j) (omega arith) short)
