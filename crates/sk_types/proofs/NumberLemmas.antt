-- Names noted with numbers.
use Rattle.std.proofs.Common.{◌≡◌, ℕ, Bool, true, false, cond, if◌then◌else◌, List, [], ◌∷◌, ◌++◌, Option, Some, None, is_some, refl, sym, ◌∙◌, ap}
use Rattle.std.specs.Global.{Vec}
use Rattle.std.specs.Cmp.Lexicographic.{same_text}
use Rattle.std.specs.Map.{lookup}
use Rattle.std.specs.Option.{option_or}
use Rattle.indexmap.specs.IndexMap.{insert_entry}
use Rattle.sk_types.proofs.MapLemmas.{turned, inserted}
use Rattle.sk_names.specs.Bytes.{same_bytes}

pub or_none : (a : Option ℕ) → option_or a None ≡ a
or_none None = refl
or_none (Some x) = refl

-- one after the other
pub or_then : (a rest : Option ℕ) (t : Bool) (n : ℕ)
    → option_or (option_or a (if t then Some n else None)) rest ≡ option_or a (cond t (Some n) rest)
or_then None rest true n = refl
or_then None rest false n = refl
or_then (Some x) rest t n = refl

-- a name that has a number keeps it
pub kept : (find : List ℕ → Option ℕ) (name other : List ℕ) (n : ℕ) → true ≡ is_some (find name)
    → find other ≡ option_or (find other) (if same_bytes name other then Some n else None)
kept find name other n has = by (same_bytes name other) refl
  where
    some_or : (a : Option ℕ) → true ≡ is_some a → a ≡ option_or a (Some n)
    some_or None has = cc has
    some_or (Some x) has = refl

    by : (t : Bool) → same_bytes name other ≡ t → find other ≡ option_or (find other) (if t then Some n else None)
    by true is = some_or (find other) (has ∙ ap (λ a. is_some (find a)) (same_text name other (sym is)))
    by false is = sym (or_none (find other))

lookup_more : {K : Type 0} (test : K → Bool) (entries : List (K × ℕ)) (key : K) (n : ℕ)
    → lookup test (entries ++ (key, n) ∷ []) ≡ option_or (lookup test entries) (cond (test key) (Some n) None)
lookup_more test [] key n = refl
lookup_more test (entry ∷ entries) key n = by (test entry.0) (lookup_more test entries key n)
  where
    by : (t : Bool)
        → lookup test (entries ++ (key, n) ∷ []) ≡ option_or (lookup test entries) (cond (test key) (Some n) None)
        → cond t (Some entry.1) (lookup test (entries ++ (key, n) ∷ []))
        ≡ option_or (cond t (Some entry.1) (lookup test entries)) (cond (test key) (Some n) None)
    by true rest = refl
    by false rest = rest

is_none : (a : Option ℕ) → false ≡ is_some a → a ≡ None
is_none None lacks = refl
is_none (Some x) lacks = absurd (cc lacks)

-- a name that has none gets one
pub noted_new : (entries after : List (Vec ℕ × ℕ)) (key : Vec ℕ) (name : List ℕ) (n : ℕ)
    → key.items ≡ name
    → false ≡ is_some (lookup (λ other. same_bytes name other.items) entries)
    → after ≡ insert_entry (λ a b. same_bytes a.items b.items) entries key n
    → (other : List ℕ) → lookup (λ key. same_bytes other key.items) after
    ≡ option_or (lookup (λ key. same_bytes other key.items) entries) (if same_bytes name other then Some n else None)
noted_new entries after key name n items lacks after-is other =
    let missing : lookup (λ b. same_bytes key.items b.items) entries ≡ None =
    ap (λ bytes. lookup (λ b. same_bytes bytes b.items) entries) items
    ∙ is_none (lookup (λ b. same_bytes name b.items) entries) lacks in
    ap (lookup (λ key. same_bytes other key.items)) (after-is ∙ inserted (λ a b. same_bytes a.items b.items) entries key n missing)
    ∙ lookup_more (λ key. same_bytes other key.items) entries key n
    ∙ ap (λ (t : Bool). option_or (lookup (λ key. same_bytes other key.items) entries) (cond t (Some n) None))
    (ap (same_bytes other) items ∙ turned other name)
