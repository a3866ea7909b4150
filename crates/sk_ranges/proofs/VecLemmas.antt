-- One more element in a list that had room for it, and lists with the same rest.
use Rattle.std.proofs.Common.{◌≡◌, ℕ, ◌+◌, ◌-◌, ◌≤◌, List, [], ◌∷◌, ◌++◌, Result, Ok, Err, is_ok, IsOk, get_or, length, take, drop, sym, ap, subst, ◌∙◌, arith}
use Rattle.std.specs.List.{insert}
use Rattle.std.specs.Bool.{if◌then◌else◌}
use Rattle.std.proofs.Math.Nat.{add-zero}
use Rattle.std.proofs.lemmas.Bool.{false≢true}
use Rattle.std.proofs.lemmas.List.{append_assoc, take_at, drop_at, drop-drop, get_or-drop, length-take-le, length_push}

pub inserted : {X E : Type 0} (xs ys : List X) (k : ℕ) (x : X) (r : Result (Unit {0}) E) → ys ≡ (if is_ok r then insert xs k x else xs) → IsOk r → ys ≡ insert xs k x
inserted xs ys k x (Ok u) e o = e
inserted xs ys k x (Err u) e o = absurd (false≢true o)

pub take-insert : {X : Type 0} (xs : List X) (k : ℕ) (x : X) → k ≤ length xs → take (k + 1) (insert xs k x) ≡ take k xs ++ x ∷ []
take-insert xs k x h =
    ap (take (k + 1)) (sym (append_assoc (take k xs) (x ∷ []) (drop k xs)))
    ∙ take_at (take k xs ++ x ∷ []) (drop k xs) (k + 1) (length_push (take k xs) x ∙ ap (λ n. n + 1) (length-take-le k xs h))

pub drop-insert : {X : Type 0} (xs : List X) (k : ℕ) (x : X) → k ≤ length xs → drop (k + 1) (insert xs k x) ≡ drop k xs
drop-insert xs k x h =
    ap (drop (k + 1)) (sym (append_assoc (take k xs) (x ∷ []) (drop k xs)))
    ∙ drop_at (take k xs ++ x ∷ []) (drop k xs) (k + 1) (length_push (take k xs) x ∙ ap (λ n. n + 1) (length-take-le k xs h))

-- the same rest from a place on
pub get_or-same_rest : {X : Type 0} (xs ys : List X) (k : ℕ) (d : X) → drop k xs ≡ drop k ys → get_or xs k d ≡ get_or ys k d
get_or-same_rest xs ys k d e = simp add-zero at (sym (get_or-drop k xs 0 d) ∙ ap (λ zs. get_or zs 0 d) e ∙ get_or-drop k ys 0 d)

pub same_rest : {X : Type 0} (xs ys : List X) (k m : ℕ) → k ≤ m → drop k xs ≡ drop k ys → drop m xs ≡ drop m ys
same_rest xs ys k m h e =
    let more : k + (m - k) ≡ m = omega arith in
    subst (λ n. drop n xs ≡ drop n ys) more (sym (drop-drop (m - k) k xs) ∙ ap (drop (m - k)) e ∙ drop-drop (m - k) k ys)
