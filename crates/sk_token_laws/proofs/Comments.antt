-- Comments.
use Rattle.std.proofs.Common.{◌≡◌, ℕ, suc, ◌+◌, ◌-◌, ◌<◌, ◌≤◌, ◌⊎◌, inl, inr, Bool, true, false, List, [], ◌∷◌, length, drop, refl, ap, subst, sym, ◌∙◌, arith}
use Rattle.std.specs.Prelude.{Option, Some, None, ◌==◌, if◌then◌else◌, codes}
use Rattle.std.specs.List.{starts_with}
use Rattle.std.proofs.Math.Bool.{and-false}
use Rattle.std.proofs.lemmas.List.{length-drop, drop_all}
use Rattle.sk_tokens.specs.Tokens.{comment_rest}
use Rattle.sk_token_laws.proofs.Parts.{drop-drop}

-- so many bytes before the end of a comment
abbrev pub further : ℕ → Option ℕ → Option ℕ
further bytes None = None
further bytes (Some more) = Some (bytes + more)

one_more : (rest : Option ℕ) → (elim rest [ Some bytes ↦ Some (suc bytes) | None ↦ None ]) ≡ further 1 rest
one_more None = refl
one_more (Some bytes) = let e : suc bytes ≡ 1 + bytes = omega arith in rw e refl

pub further-further : (n m : ℕ) (rest : Option ℕ) → further n (further m rest) ≡ further (n + m) rest
further-further n m None = refl
further-further n m (Some bytes) = let e : n + (m + bytes) ≡ n + m + bytes = omega arith in rw e refl

comment_rest-next : (rest : List ℕ) → 0 < length rest → comment_rest rest ≡ (if starts_with (λ a b. a == b) rest (codes "*/") then Some 2 else further 1 (comment_rest (drop 1 rest)))
comment_rest-next [] some = absurd (omega arith)
comment_rest-next (byte ∷ rest) some = ap (λ o. if starts_with (λ a b. a == b) (byte ∷ rest) (codes "*/") then Some 2 else o) (one_more (comment_rest rest))

-- so many bytes of a comment are read, in which it does not end
pub record HasPassed (rest : List ℕ) (at : ℕ) : Type 0 where
  pub within : at ≤ length rest
  pub onwards : comment_rest rest ≡ further at (comment_rest (drop at rest))

pub HasPassed-none : (rest : List ℕ) → HasPassed rest 0
HasPassed-none rest = record { within = omega arith; onwards = none (comment_rest rest) }
  where
    none : (o : Option ℕ) → o ≡ further 0 o
    none None = refl
    none (Some bytes) = let e : 0 + bytes ≡ bytes = omega arith in rw e refl

pub HasPassed-more : (rest part : List ℕ) (at : ℕ) → HasPassed rest at → at < length rest → part ≡ drop at rest → starts_with (λ a b. a == b) part (codes "*/") ≡ false → HasPassed rest (at + 1)
HasPassed-more rest part at passed under same fails =
    let long : length (drop at rest) ≡ length rest - at = length-drop at rest in
    let here : starts_with (λ a b. a == b) (drop at rest) (codes "*/") ≡ false = subst (λ p. starts_with (λ a b. a == b) p (codes "*/") ≡ false) same fails in
    let step : comment_rest (drop at rest) ≡ further 1 (comment_rest (drop 1 (drop at rest))) = comment_rest-next (drop at rest) (omega arith) ∙ ap (λ b. if b then Some 2 else further 1 (comment_rest (drop 1 (drop at rest)))) here in
    record {
      within = omega arith;
      onwards = passed.onwards ∙ ap (further at) step ∙ further-further at 1 (comment_rest (drop 1 (drop at rest))) ∙ ap (λ r. further (at + 1) (comment_rest r)) (drop-drop rest at 1);
    }

pub comment_rest-unclosed : (rest : List ℕ) (at : ℕ) → HasPassed rest at → length rest ≤ at → comment_rest rest ≡ None
comment_rest-unclosed rest at passed ended = passed.onwards ∙ ap (λ r. further at (comment_rest r)) (drop_all at rest ended)

further-some : (o : Option ℕ) (n : ℕ) → further 1 o ≡ Some n → (m : ℕ) × (o ≡ Some m) × (suc m ≡ n)
further-some None n e = cc
further-some (Some m) n e = let same : 1 + m ≡ n = cc in (m, refl, omega arith)

ended_or_not : (ends : Bool) (o : Option ℕ) (n : ℕ) → (if ends then Some 2 else further 1 o) ≡ Some n → (n ≡ 2) ⊎ (further 1 o ≡ Some n)
ended_or_not true o n e = inl cc
ended_or_not false o n e = inr e

pub comment_rest-within : (rest : List ℕ) (n : ℕ) → comment_rest rest ≡ Some n → (2 ≤ n) × (n ≤ length rest)
comment_rest-within [] n e = cc
comment_rest-within (a ∷ []) n e = let none : None ≡ Some n = rw (and-false (42 == a)) at e in cc
comment_rest-within (a ∷ b ∷ rest) n e =
    let next = sym (comment_rest-next (a ∷ b ∷ rest) (omega arith)) ∙ e in
    elim (ended_or_not (starts_with (λ a b. a == b) (a ∷ b ∷ rest) (codes "*/")) (comment_rest (b ∷ rest)) n next) [
      | inl two ↦ (omega arith, omega arith)
      | inr more ↦
          let m = further-some (comment_rest (b ∷ rest)) n more in
          let inner = comment_rest-within (b ∷ rest) m.0 m.1 in
          (omega (arith, inner.0, m.2), omega (arith, inner.1, m.2))
    ]
