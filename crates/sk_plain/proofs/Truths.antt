-- What follows where tests hold, and where a value is there.
use Rattle.std.proofs.Common.{◌≡◌, Option, Some, None, refl}
use Rattle.std.proofs.lemmas.Bool.{and_parts}
use Rattle.std.specs.Prelude.{true, false, Bool, ◌&&◌}
use Rattle.std.specs.Option.{option_and_then}
use Rattle.sk_plain.specs.Plain.{is_some, is_some_and}

pub and_left : (a b : Bool) → (a && b) ≡ true → a ≡ true
and_left a b e = (and_parts a b e).0

pub and_right : (a b : Bool) → (a && b) ≡ true → b ≡ true
and_right a b e = (and_parts a b e).1

pub never_both : (b : Bool) → false ≡ (b && false)
never_both true = refl
never_both false = refl

pub some_same : {A : Type 0} (x y : A) → Some x ≡ Some y → x ≡ y
some_same x y e = cc

pub is_some_is : {A : Type 0} (o : Option A) → is_some o ≡ true → (x : A) × (o ≡ Some x)
is_some_is (Some x) e = (x, refl)
is_some_is None e = let no : ⊥ = cc in absurd no

pub is_some_and_is : {A : Type 0} (test : A → Bool) (o : Option A) → is_some_and test o ≡ true → (x : A) × (o ≡ Some x) × (test x ≡ true)
is_some_and_is test (Some x) e = (x, refl, e)
is_some_and_is test None e = let no : ⊥ = cc in absurd no

pub and_then_is : {A B : Type 0} (f : A → Option B) (o : Option A) (y : B) → option_and_then f o ≡ Some y → (x : A) × (o ≡ Some x) × (f x ≡ Some y)
and_then_is f (Some x) y e = (x, refl, e)
and_then_is f None y e = let no : ⊥ = cc in absurd no
