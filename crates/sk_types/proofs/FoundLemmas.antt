-- Inputs in a map, found as in their list.
use Rattle.std.proofs.Common.{◌≡◌, ℕ, Bool, true, false, cond, List, [], ◌∷◌, ◌++◌, map, Option, Some, None, refl, sym, ◌∙◌, ap, ◌<◌, ◌≤◌, ◌+◌, length, take, get_or, slice_get, unwrap_or, inl, inr}
use Rattle.std.proofs.lemmas.List.{map-append, take_more, take_all}
use Rattle.std.proofs.lemmas.Option.{slice_get_within, slice_get-get_or, slice_get_cases}
use Rattle.std.specs.Borrow.{Bor}
use Rattle.std.specs.Map.{lookup}
use Rattle.std.specs.Option.{option_map}
use Rattle.indexmap.specs.IndexMap.{insert_entry}
use Rattle.sk_base.specs.declared.number.Ty.{Ty}
use Rattle.sk_typing.specs.Inputs.{input_named}
use Rattle.sk_names.specs.Bytes.{same_bytes}
use Rattle.sk_types.proofs.MapLemmas.{turned, inserted}
use Rattle.sk_types.specs.Found.{declared_in}

pub find_is : (name : List ℕ) (entries : List (Bor (List ℕ) × (ℕ × Ty)))
    → lookup (λ key. same_bytes name key.now) entries
    ≡ option_map (λ input. (input.kind, input.ty)) (input_named name (map declared_in entries))
find_is name [] = refl
find_is name (entry ∷ entries) = by (same_bytes entry.0.now name) (turned name entry.0.now) (find_is name entries)
  where
    by : (t : Bool) → same_bytes name entry.0.now ≡ t
        → lookup (λ key. same_bytes name key.now) entries ≡ option_map (λ input. (input.kind, input.ty)) (input_named name (map declared_in entries))
        → cond (same_bytes name entry.0.now) (Some entry.1) (lookup (λ key. same_bytes name key.now) entries)
        ≡ option_map (λ input. (input.kind, input.ty)) (cond t (Some (declared_in entry)) (input_named name (map declared_in entries)))
    by true is rest = rw (is) refl
    by false is rest = rw (is) rest

pub added : (entries after : List (Bor (List ℕ) × (ℕ × Ty))) (key : Bor (List ℕ)) (value : ℕ × Ty)
    → after ≡ insert_entry (λ a b. same_bytes a.now b.now) entries key value
    → input_named key.now (map declared_in entries) ≡ None
    → map declared_in after ≡ map declared_in entries ++ declared_in (key, value) ∷ []
added entries after key value after-is none =
    let missing : lookup (λ other. same_bytes key.now other.now) entries ≡ None =
    find_is key.now entries ∙ ap (option_map (λ input. (input.kind, input.ty))) none in
    ap (map declared_in) (after-is ∙ inserted (λ a b. same_bytes a.now b.now) entries key value missing)
    ∙ map-append declared_in entries ((key, value) ∷ [])

-- one more copy of an element
pub copied_turn : {X : Type 0} (xs : List X) (i : ℕ) (x : X) (copies new : List X) (found : Option X)
    → copies ≡ take i xs → found ≡ slice_get xs i → found ≡ Some x → new ≡ copies ++ x ∷ []
    → new ≡ take (i + 1) xs
copied_turn xs i x copies new found before found-is some pushed =
    let at : slice_get xs i ≡ Some x = sym found-is ∙ some in
    let below : i < length xs = slice_get_within xs i x at in
    let same : x ≡ get_or xs i x = ap (λ o. unwrap_or o x) (sym at ∙ slice_get-get_or xs i x below) in
    pushed ∙ ap (λ c. c ++ x ∷ []) before ∙ ap (λ y. take i xs ++ y ∷ []) same ∙ sym (take_more xs i x below)

past : {X : Type 0} (xs : List X) (i : ℕ) → slice_get xs i ≡ None → length xs ≤ i
past xs i none = elim ((slice_get_cases xs i).1) [
  | inl within ↦ absurd (cc (sym within.2 ∙ none))
  | inr over ↦ over.0
]

pub copied_end : {X : Type 0} (xs : List X) (i : ℕ) (copies : List X) (found : Option X)
    → copies ≡ take i xs → found ≡ slice_get xs i → found ≡ None → copies ≡ xs
copied_end xs i copies found before found-is none = before ∙ take_all i xs (past xs i (sym found-is ∙ none))
