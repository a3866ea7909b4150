-- Entries of a map: one more for a key that has none, and names that are compared either way round.
use Rattle.std.proofs.Common.{◌≡◌, ℕ, Bool, true, false, cond, List, [], ◌∷◌, ◌++◌, Some, None, refl, sym, ◌∙◌, ap}
use Rattle.std.proofs.lemmas.Cmp.{nat_list_eq_equiv}
use Rattle.std.specs.Map.{lookup}
use Rattle.indexmap.specs.IndexMap.{insert_entry}
use Rattle.sk_names.specs.Bytes.{same_bytes}

pub turned : (a b : List ℕ) → same_bytes a b ≡ same_bytes b a
turned a b = nat_list_eq_equiv.symm a b

pub inserted : {K V : Type 0} (eq : K → K → Bool) (entries : List (K × V)) (key : K) (value : V)
    → lookup (eq key) entries ≡ None → insert_entry eq entries key value ≡ entries ++ (key, value) ∷ []
inserted eq [] key value none = refl
inserted {K} {V} eq (entry ∷ entries) key value none = by (eq key entry.0) refl (inserted eq entries key value)
  where
    by : (t : Bool) → eq key entry.0 ≡ t
        → (lookup (eq key) entries ≡ None → insert_entry eq entries key value ≡ entries ++ (key, value) ∷ [])
        → insert_entry eq (entry ∷ entries) key value ≡ entry ∷ (entries ++ (key, value) ∷ [])
    by true is rest = absurd (cc (sym none ∙ ap (λ (t : Bool). cond t (Some entry.1) (lookup (eq key) entries)) is))
    by false is rest = rw (is) (ap (λ (es : List (K × V)). entry ∷ es)
        (rest (ap (λ (t : Bool). cond t (Some entry.1) (lookup (eq key) entries)) (sym is) ∙ none)))
