-- What follows from the definition of equal lists of bytes.
use Rattle.std.proofs.Common.{◌≡◌, ℕ, ◌==◌, true, List, [], ◌∷◌, refl, sym, rules}
use Rattle.std.specs.Cmp.Lexicographic.{same_text}
use Rattle.sk_names.specs.Bytes.{same_bytes}

pub same_bytes-same : (bytes : List ℕ) → same_bytes bytes bytes ≡ true
same_bytes-same [] = refl
same_bytes-same (byte ∷ bytes) = let same : (byte == byte) ≡ true = search rules in rw same (same_bytes-same bytes)

-- lists that the test calls equal are
pub same_bytes-true : (one other : List ℕ) → same_bytes one other ≡ true → one ≡ other
same_bytes-true one other same = same_text one other (sym same)
