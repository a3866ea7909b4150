-- What a look-up by name finds, by the place of the first file with the name.
use Rattle.std.proofs.Common.{◌≡◌, ◌≢◌, ◌<◌, ◌≤◌, ℕ, Bool, true, false, List, [], ◌∷◌, ◌++◌, length, Some, None, refl, sym, ap, ◌∙◌, arith, string_bytes, is_some, is_none, ◌&&◌, ◌-◌, get_or, set, take, drop}
use Rattle.std.proofs.lemmas.Grind.{common_steps}
use Rattle.std.proofs.lemmas.List.{get_or-set_same, get_or-set_other, length-set}
use Rattle.std.proofs.lemmas.List.Quantifiers.{position-Some}
use Rattle.std.proofs.lemmas.List.Recursion.{found_at, found_nowhere, found_set_other, found_push_other}
use Rattle.std.proofs.lemmas.List.Sums.{fails_before_first}
use Rattle.std.proofs.lemmas.Bool.{false_from_ne_true}
use Rattle.std.proofs.lemmas.Slice.Eq.{bytes_eq-Decides}
use Rattle.std.specs.List.{position, position_or_len}
use Rattle.std.specs.Str.{bytes_eq}
use Rattle.std.specs.declared.option.Option.{Option}
use Rattle.std.specs.declared.string.String.{String}
use Rattle.std.specs.declared.vec.Vec.{Vec}
use Rattle.sk_outside.specs.MemoryFiles.{contents_of, names_differ, listed}

-- where no place is found, each place was passed over
pub position-None : {X : Type 0} (p : X → Bool) (xs : List X) (k : ℕ) (d : X) → position p xs ≡ None → k < length xs → p (get_or xs k d) ≡ false
position-None p xs k d none below =
    let past : length xs ≤ position_or_len p xs = grind (arith, common_steps) in
    fails_before_first p xs k d (omega arith)

pub bytes_eq-other : (a b other : List ℕ) → bytes_eq a b ≡ true → other ≢ b → bytes_eq a other ≡ false
bytes_eq-other a b other same differs =
    false_from_ne_true _ (λ equal. differs (sym ((bytes_eq-Decides a other).0 equal) ∙ (bytes_eq-Decides a b).0 same))

module _ {Z : Type 0} where
  -- whether the file has the name
  abbrev pub has_name : List ℕ → (String Z × Vec ℕ Z) → Bool
  has_name name file = bytes_eq (string_bytes file.0) name

  -- the bytes of a file
  abbrev pub bytes_of : (String Z × Vec ℕ Z) → Option (List ℕ)
  bytes_of file = Some file.1.items

  -- the look-up of one name
  abbrev pub look_up : List ℕ → List (String Z × Vec ℕ Z) → Option (List ℕ)
  look_up name files = contents_of (listed files) name

  pub look_up-absent : (name : List ℕ) (files : List (String Z × Vec ℕ Z)) → position (has_name name) files ≡ None → look_up name files ≡ None
  look_up-absent name [] none = refl
  look_up-absent name (file ∷ files) none =
      found_nowhere (look_up name) (has_name name) bytes_of None refl (λ _ _. refl) (file ∷ files) file
      (λ k below. position-None (has_name name) (file ∷ files) k file none below)

  pub look_up-at : (name : List ℕ) (files : List (String Z × Vec ℕ Z)) (place : ℕ) (file : String Z × Vec ℕ Z) → position (has_name name) files ≡ Some place → look_up name files ≡ bytes_of (get_or files place file)
  look_up-at name files place file found =
      let first = position-Some (has_name name) files place file found in
      found_at (look_up name) (has_name name) bytes_of None refl (λ _ _. refl) files place file first.0 first.2 first.1

  pub look_up-set : (name : List ℕ) (files : List (String Z × Vec ℕ Z)) (place : ℕ) (file : String Z × Vec ℕ Z) (bytes : Vec ℕ Z) → position (has_name name) files ≡ Some place → file ≡ get_or files place file → look_up name (set files place (file.0, bytes)) ≡ Some bytes.items
  look_up-set name files place file bytes found is =
      let first = position-Some (has_name name) files place file found in
      let next : String Z × Vec ℕ Z = (file.0, bytes) in
      let there : get_or (set files place next) place file ≡ next = get_or-set_same files place next file first.0 in
      let at = found_at (look_up name) (has_name name) bytes_of None refl (λ _ _. refl) (set files place next) place file
      (rw length-set first.0)
      (λ k below. ap (has_name name) (get_or-set_other files place k next file (omega arith)) ∙ first.2 k below)
      (ap (has_name name) there ∙ ap (has_name name) is ∙ first.1) in
      at ∙ ap bytes_of there

  pub look_up-set_other : (name other : List ℕ) (files : List (String Z × Vec ℕ Z)) (place : ℕ) (file : String Z × Vec ℕ Z) (bytes : Vec ℕ Z) → position (has_name name) files ≡ Some place → file ≡ get_or files place file → other ≢ name → look_up other (set files place (file.0, bytes)) ≡ look_up other files
  look_up-set_other name other files place file bytes found is differs =
      let first = position-Some (has_name name) files place file found in
      found_set_other (look_up other) (has_name other) bytes_of None refl (λ _ _. refl) files place (file.0, bytes) file
      (bytes_eq-other _ name other first.1 differs) (bytes_eq-other _ name other (ap (has_name name) is ∙ first.1) differs)

  pub look_up-push : (files : List (String Z × Vec ℕ Z)) (name : String Z) (bytes : Vec ℕ Z) → position (has_name (string_bytes name)) files ≡ None → look_up (string_bytes name) (files ++ (name, bytes) ∷ []) ≡ Some bytes.items
  look_up-push files name bytes none =
      let next : String Z × Vec ℕ Z = (name, bytes) in
      let there : get_or (files ++ next ∷ []) (length files) next ≡ next = grind (arith, common_steps) in
      let test : (String Z × Vec ℕ Z) → Bool = has_name (string_bytes name) in
      let at = found_at (look_up (string_bytes name)) test bytes_of None refl (λ _ _. refl) (files ++ next ∷ []) (length files) next
      (grind (arith, common_steps))
      (λ k below.
      let before : get_or (files ++ next ∷ []) k next ≡ get_or files k next = grind (arith, common_steps) in
      ap test before ∙ position-None test files k next none below)
      (ap test there ∙ (bytes_eq-Decides (string_bytes name) (string_bytes name)).1 refl) in
      at ∙ ap bytes_of there

  pub look_up-push_other : (other : List ℕ) (files : List (String Z × Vec ℕ Z)) (name : String Z) (bytes : Vec ℕ Z) → other ≢ string_bytes name → look_up other (files ++ (name, bytes) ∷ []) ≡ look_up other files
  look_up-push_other other files name bytes differs =
      found_push_other (look_up other) (has_name other) bytes_of None refl (λ _ _. refl) files (name, bytes)
      (false_from_ne_true _ (λ equal. differs (sym ((bytes_eq-Decides (string_bytes name) other).0 equal))))

  -- a name is found where it has a place
  is_some-at : (name : List ℕ) (files : List (String Z × Vec ℕ Z)) (place : Option ℕ) → position (has_name name) files ≡ place → is_some place ≡ is_some (look_up name files)
  is_some-at name files None none = rw (look_up-absent name files none) refl
  is_some-at name [] (Some place) found = cc
  is_some-at name (file ∷ files) (Some place) found = rw (look_up-at name (file ∷ files) place file found) refl

  pub is_some-position : (name : List ℕ) (files : List (String Z × Vec ℕ Z)) → is_some (position (has_name name) files) ≡ is_some (look_up name files)
  is_some-position name files = is_some-at name files (position (has_name name) files) refl

  -- the first name is looked for among the others, and then the others' names
  names_differ-cons : (files others : List (String Z × Vec ℕ Z)) (file : String Z × Vec ℕ Z) → 1 ≤ length files → file ≡ get_or files 0 file → others ≡ take (length files - 1) (drop 1 files) → names_differ (listed files) ≡ (is_none (look_up (string_bytes file.0) others) && names_differ (listed others))
  names_differ-cons [] others file some is rest = absurd (omega arith)
  names_differ-cons (first ∷ files) others file some is rest =
      let all : others ≡ files = grind (arith, common_steps) in
      rw (is, all) refl

  pub names_differ-found : (files others : List (String Z × Vec ℕ Z)) (file : String Z × Vec ℕ Z) → 1 ≤ length files → file ≡ get_or files 0 file → others ≡ take (length files - 1) (drop 1 files) → is_some (position (has_name (string_bytes file.0)) others) ≡ true → names_differ (listed files) ≡ false
  names_differ-found files others file some is rest found =
      rw (names_differ-cons files others file some is rest, ← is_some-position (string_bytes file.0) others, found) refl

  pub names_differ-new : (files others : List (String Z × Vec ℕ Z)) (file : String Z × Vec ℕ Z) → 1 ≤ length files → file ≡ get_or files 0 file → others ≡ take (length files - 1) (drop 1 files) → is_some (position (has_name (string_bytes file.0)) others) ≡ false → names_differ (listed files) ≡ names_differ (listed others)
  names_differ-new files others file some is rest none =
      rw (names_differ-cons files others file some is rest, ← is_some-position (string_bytes file.0) others, none) refl
