-- What a reader takes at least: a token, where there is one.
use Rattle.std.proofs.Common.{◌≡◌, ◌+◌, ◌<◌, Bool, true, false, cond, nat_lt, List, [], ◌∷◌, length, drop, Option, Some, None, option_and_then, ap, arith}
use Rattle.sk_refusals.specs.declared.refusal.Refusal.TheVariants.{Syntax, Many}
use Rattle.sk_refusals.specs.declared.refusal.Limited.TheVariants.{Instances}
use Rattle.sk_tokens.specs.declared.token.Sign.{Sign}
use Rattle.sk_tokens.specs.declared.token.Token.{Token}
use Rattle.sk_reading.specs.Reading.{Place, Read, Parser, and_then, ◌>>=◌, refuse, take, taken, front, front_word, advance, sees, name, name_of, ty, type_of, expect, count_instance}
use Rattle.sk_reading_sound_laws.proofs.Steps.{bound, read-is}
use Rattle.sk_refusal_laws.proofs.Local.{Shrinks}
use Rattle.sk_refusal_laws.proofs.Steps.{read-fewer}

abbrev pub Strict : {A : Type 0} → Parser A → Type 0
Strict {A} f = (p : Place) (x : A × Place) → 0 < length p.rest → f p ≡ Read x → length x.1.rest < length p.rest

pub strict-then : {A B : Type 0} (f : Parser A) (g : A → Parser B) → Strict f → ((value : A) → Shrinks (g value)) → Strict (f >>= g)
strict-then f g strict shrinks p x some is =
    let (y, first, later) = bound (f p) g x is in
    let fewer = strict p y some first in
    omega (arith, read-fewer (g y.0 y.1) (length y.1.rest) y.1 x (shrinks y.0 y.1) (omega arith) later)

dropped : (l : List Token) → 0 < length l → length (drop 1 l) < length l
dropped [] some = absurd (omega arith)
dropped (token ∷ l) some = omega arith

advance-less : {A : Type 0} (p : Place) (a : A) (x : A × Place) → 0 < length p.rest → Read (a, advance p) ≡ Read x → length x.1.rest < length p.rest
unfolding advance
advance-less p a x some is = let e = ap (λ (z : Place). length z.rest) (ap (λ y. y.1) (read-is is)) in omega (arith, e, dropped p.rest some)

pub strict-take : Strict take
strict-take p x some is = advance-less p (tt {0}) x some is

taken-less : {A : Type 0} (p : Place) (o : Option A) (x : A × Place) → 0 < length p.rest → taken p o ≡ Read x → length x.1.rest < length p.rest
taken-less p (Some a) x some is = advance-less p a x some is
taken-less p None x some is = absurd (cc)

pub strict-name : Strict name
unfolding name
strict-name p x some is = taken-less p (option_and_then name_of (front_word p)) x some is

pub strict-ty : Strict ty
unfolding ty
strict-ty p x some is = taken-less p (type_of (front p)) x some is

pub strict-expect : (s : Sign) → Strict (expect s)
unfolding expect
strict-expect s p x some is = go (sees s p) is
  where
    go : (b : Bool) → cond b (Read (tt {0}, advance p)) (refuse Syntax p) ≡ Read x → length x.1.rest < length p.rest
    go true is = advance-less p (tt {0}) x some is
    go false is = absurd (cc)

-- an instance is counted, and takes nothing
pub strict-counted : {A : Type 0} (g : Unit {0} → Parser A) → ((u : Unit {0}) → Strict (g u)) → Strict (count_instance >>= g)
unfolding count_instance
strict-counted {A} g strict p x some is = go (nat_lt p.instances 1024) is
  where
    go : (b : Bool) → and_then (cond b (Read (tt {0}, record p { instances = p.instances + 1 })) (refuse (Many Instances) p)) g ≡ Read x → length x.1.rest < length p.rest
    go true is = strict tt (record p { instances = p.instances + 1 }) x some is
    go false is = absurd (cc)
